-- How many classes a table has through a range, and what a refusal says in other words.
use Rattle.std.proofs.Common.{◌≡◌, inl, inr, ℕ, ◌+◌, ◌≤◌, ℤ, Bool, true, false, List, [], length, map, take, get_or, Option, Some, None, refl, ap, subst, ◌∙◌, arith}
use Rattle.std.specs.Prelude.{◌+ℤ◌, ◌-ℤ◌, pos, if◌then◌else◌, option_map}
use Rattle.std.specs.Option.{option_or}
use Rattle.std.proofs.Math.ListN.{get_or-map as map-get_or}
use Rattle.std.proofs.Math.Seq.{take-nil}
use Rattle.std.proofs.lemmas.Bool.{cases_lt}
use Rattle.std.proofs.lemmas.Int.{ints}
use Rattle.std.proofs.lemmas.List.{get_or-take, get_or_past, length-map, length-take}
use Rattle.bidegree.specs.declared.range.Range.{Range}
use Rattle.bidegree.specs.declared.class.Class.{Class}
use Rattle.resolution_laws.specs.Resolution.{Content, no_content, square_in, row_of}
use Rattle.square.specs.Tables.{Staircase, plain_rows, content_at}
use Rattle.lift_laws.specs.Lifts.{Resolution}
use Rattle.lift_laws.specs.Products.{Class as ClassAbove, count_of}
use Rattle.chain_map.specs.Classes.{through, missing_in, IsAt, passes, first_refusal}

-- ---- the rows of a table, cut

module _ (table : Staircase) (range : Range) where
  abbrev rows : List (List Content)
  rows = plain_rows table.rows

  -- a row that is kept
  pub rows_through : (i : ℕ) → i ≤ range.s → row_of (through range table).table i ≡ take (range.t + 1) (row_of rows i)
  rows_through i l =
      let P : List Content → Type 0 = λ z. get_or (through range table).table i z ≡ take (range.t + 1) (get_or (take (range.s + 1) rows) i []) in
      subst P (take-nil (range.t + 1)) (map-get_or (take (range.t + 1)) (take (range.s + 1) rows) i []) ∙ ap (take (range.t + 1)) (get_or-take (range.s + 1) rows i [] (omega arith))

  -- a square that is kept, and its generators
  pub square_inside : (s k : ℕ) → s ≤ range.s → k ≤ range.t → square_in (row_of (through range table).table s) k ≡ content_at table.rows s k
  square_inside s k row degree = ap (λ (squares : List Content). square_in squares k) (rows_through s row) ∙ get_or-take (range.t + 1) (row_of rows s) k no_content (omega arith)

  pub count_inside : (s k : ℕ) → s ≤ range.s → k ≤ range.t → count_of (through range table) s k ≡ length (content_at table.rows s k).images
  count_inside s k row degree = ap (λ (c : Content). length c.images) (square_inside s k row degree)

  -- there is none outside of the range
  pub count_outside : (s k : ℕ) → (s ≤ range.s → k ≤ range.t → ⊥) → count_of (through range table) s k ≡ 0
  count_outside s k out = elim (cases_lt range.s s) [
    | inl past ↦
        ap (λ (squares : List Content). length (square_in squares k).images) (get_or_past (map (take (range.t + 1)) (take (range.s + 1) rows)) s [] (omega (arith, length-map (take (range.s + 1) rows) (take (range.t + 1)) ∙ length-take (range.s + 1) rows)))
    | inr row ↦ elim (cases_lt range.t k) [
      | inl past ↦
          ap (λ (squares : List Content). length (square_in squares k).images) (rows_through s row) ∙ ap (λ (c : Content). length c.images) (get_or_past (take (range.t + 1) (row_of rows s)) k no_content (omega (arith, length-take (range.t + 1) (row_of rows s))))
      | inr degree ↦ absurd (out row degree)
    ]
  ]

-- a class is one of the resolution's alone
pub class_is_once : (r : Resolution) (c : Class) (x y : ClassAbove) → IsAt r c x → IsAt r c y → x ≡ y
class_is_once r c x y p k =
    let above : x.above ≡ y.above = omega (arith, ints) in
    let at : ℕ → ℕ → ℕ → ClassAbove = λ s above i. record { s = s; above = above; i = i } in
    let same : at x.s x.above x.i ≡ at y.s y.above y.i = cc in
    same

-- ---- a refusal in other words

-- the first refusal, by which classes are missing and which squares are past the range
abbrev first_by : {F : Type 0} → (absent : ℕ → ℕ → F) (ab bc bracket : F) (no_a no_b no_c : Option ℕ) (past_ab past_bc past : Bool) → Option F
first_by absent ab bc bracket no_a no_b no_c past_ab past_bc past =
    option_or (option_or (option_map (absent 0) no_a) (option_or (option_map (absent 1) no_b) (option_map (absent 2) no_c)))
    (option_or (if past_ab then Some ab else None) (option_or (if past_bc then Some bc else None) (if past then Some bracket else None)))

module _ {A B : Type 0} (f : A → B) where
  in_words : (absent : ℕ → ℕ → A) (ab bc bracket : A) (no_a no_b no_c : Option ℕ) (past_ab past_bc past : Bool) →
      option_map f (first_by absent ab bc bracket no_a no_b no_c past_ab past_bc past) ≡ first_by (λ i n. f (absent i n)) (f ab) (f bc) (f bracket) no_a no_b no_c past_ab past_bc past
  in_words absent ab bc bracket (Some n) no_b no_c past_ab past_bc past = refl
  in_words absent ab bc bracket None (Some n) no_c past_ab past_bc past = refl
  in_words absent ab bc bracket None None (Some n) past_ab past_bc past = refl
  in_words absent ab bc bracket None None None true past_bc past = refl
  in_words absent ab bc bracket None None None false true past = refl
  in_words absent ab bc bracket None None None false false true = refl
  in_words absent ab bc bracket None None None false false false = refl

  pub refusal_in_words : (absent : ℕ → ℕ → A) (past : ℕ → ℤ → ℤ → A) (range : Range) (r q : Resolution) (a b c : Class) → option_map f (first_refusal absent past range r q a b c) ≡ first_refusal (λ i n. f (absent i n)) (λ i s t. f (past i s t)) range r q a b c
  refusal_in_words absent past range r q a b c =
      let ab = pos (a.s + b.s) in
      let bc = pos (b.s + c.s) in
      let row = pos (a.s + b.s + c.s) -ℤ pos 1 in
      let top = a.t +ℤ b.t +ℤ c.t in
      in_words absent (past 0 ab (a.t +ℤ b.t)) (past 1 bc (b.t +ℤ c.t)) (past 2 row top) (missing_in q a) (missing_in q b) (missing_in r c)
      (passes range q ab (a.t +ℤ b.t)) (passes range r bc (b.t +ℤ c.t)) (passes range r row top)
