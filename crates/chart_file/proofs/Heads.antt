-- The first bytes of a part, and whole parts.
use Rattle.std.proofs.Common.{◌≡◌, ℕ, ◌+◌, ◌^◌, ◌<◌, ◌≤◌, List, [], ◌∷◌, ◌++◌, length, take, drop, inl, inr, refl, sym, ◌∙◌, ap, subst, arith}
use Rattle.std.specs.Prelude.{slice_index}
use Rattle.std.specs.Int.{w16, to_be_bytes, from_be_bytes}
use Rattle.std.specs.List.{flat_map}
use Rattle.std.proofs.lemmas.Bool.{cases_lt}
use Rattle.std.proofs.lemmas.List.{append-nil}
use Rattle.std.proofs.lemmas.List.Elements.{recursion_from_All}
use Rattle.std.proofs.lemmas.Nat.{from_be_bytes-to_be_bytes_2}
use Rattle.bidegree.specs.declared.range.TheConstants.{MAX_S, MAX_T}
use Rattle.chart_file.specs.declared.part.TheConstants.{COLUMN}
use Rattle.chart_file.specs.Parts.{Bare, IsBare, Part, IsPart, bare_bytes, head_bytes, part_bytes}
use Rattle.chart_file.proofs.Words.{IsNextWord, next_word, nothing_left, one_list}
use Rattle.chart_file.proofs.Squares.{squares_apart, square_takes_bytes}

pub short_once : (m n : ℕ) → m < 2 ^ 16 → n < 2 ^ 16 → to_be_bytes w16 m ≡ to_be_bytes w16 n → m ≡ n
short_once m n fits fits' e = sym (from_be_bytes-to_be_bytes_2 m fits) ∙ ap (from_be_bytes w16) e ∙ from_be_bytes-to_be_bytes_2 n fits'

-- what stands at the places of a head
pub record IsHeadAt (above first : ℕ) (r body : List ℕ) : Type 0 where
  pub long : 5 ≤ length body
  pub kind : slice_index body 0 ≡ COLUMN
  pub degree : take 2 (drop 1 body) ≡ to_be_bytes w16 above
  pub row : take 2 (drop 3 body) ≡ to_be_bytes w16 first
  pub rest : drop 5 body ≡ r

pub head_at : (above first : ℕ) (r body : List ℕ) → head_bytes above first ++ r ≡ body → IsHeadAt above first r body
head_at above first r body e =
    let here : IsHeadAt above first r (head_bytes above first ++ r) = record { long = omega arith; kind = refl; degree = refl; row = refl; rest = refl } in
    subst (λ (b : List ℕ). IsHeadAt above first r b) e here

pub head_from : (above first : ℕ) (r body : List ℕ) → IsHeadAt above first r body → head_bytes above first ++ r ≡ body
head_from above first r [] h = let l = h.long in absurd (omega arith)
head_from above first r (b0 ∷ []) h = let l = h.long in absurd (omega arith)
head_from above first r (b0 ∷ b1 ∷ []) h = let l = h.long in absurd (omega arith)
head_from above first r (b0 ∷ b1 ∷ b2 ∷ []) h = let l = h.long in absurd (omega arith)
head_from above first r (b0 ∷ b1 ∷ b2 ∷ b3 ∷ []) h = let l = h.long in absurd (omega arith)
head_from above first r (b0 ∷ b1 ∷ b2 ∷ b3 ∷ b4 ∷ rest) h =
    ap (λ (b : List ℕ). COLUMN ∷ ((b ++ to_be_bytes w16 first) ++ r)) (sym h.degree)
    ∙ ap (λ (b : List ℕ). COLUMN ∷ (((b1 ∷ b2 ∷ []) ++ b) ++ r)) (sym h.row)
    ∙ ap (λ (b : List ℕ). COLUMN ∷ b1 ∷ b2 ∷ b3 ∷ b4 ∷ b) (sym h.rest)
    ∙ ap (λ k. k ∷ b1 ∷ b2 ∷ b3 ∷ b4 ∷ rest) (sym h.kind)

pub head_once : (a b f g : ℕ) (r q : List ℕ) → a < 2 ^ 16 → b < 2 ^ 16 → f < 2 ^ 16 → g < 2 ^ 16 → head_bytes a f ++ r ≡ head_bytes b g ++ q → (a ≡ b) × (f ≡ g) × (r ≡ q)
head_once a b f g r q fits fits' fits2 fits3 e =
    let h = head_at a f r (head_bytes b g ++ q) e in
    let k = head_at b g q (head_bytes b g ++ q) refl in
    (short_once a b fits fits' (sym h.degree ∙ k.degree), short_once f g fits2 fits3 (sym h.row ∙ k.row), sym h.rest ∙ k.rest)

-- ---- parts

module _ (p : Part) (is : IsPart p) (above first : ℕ) (degree : above ≤ MAX_T) (row : first ≤ MAX_S) (squares body : List ℕ) (e : head_bytes above first ++ squares ≡ body) (same : part_bytes p ≡ body) where
  pub same_head : (p.above ≡ above) × (p.first ≡ first) × (flat_map bare_bytes p.squares ≡ squares)
  same_head =
      let a = is.degree in
      let f = is.row in
      head_once p.above above p.first first (flat_map bare_bytes p.squares) squares (omega arith) (omega arith) (omega arith) (omega arith) (same ∙ sym e)

  module _ (so_far : Part) (are : IsPart so_far) (from : so_far.first ≡ first) (r : List ℕ) (read : flat_map bare_bytes so_far.squares ++ r ≡ squares) (some : 0 < length r) where
    -- bytes are left, so there are more squares
    pub more_left : length so_far.squares < length p.squares
    more_left =
        let left : length p.squares ≤ length so_far.squares → length r ≡ 0 = λ le. nothing_left IsBare bare_bytes squares_apart so_far.squares p.squares r (recursion_from_All IsBare so_far.squares are.bare) (recursion_from_All IsBare p.squares is.bare) (read ∙ sym same_head.2) le in
        elim (cases_lt (length so_far.squares) (length p.squares)) [ inl l ↦ l | inr l ↦ let none = left l in absurd (omega arith) ]

    pub next_square : IsNextWord IsBare bare_bytes r
    next_square = next_word IsBare bare_bytes squares_apart so_far.squares p.squares r [] (recursion_from_All IsBare so_far.squares are.bare) (recursion_from_All IsBare p.squares is.bare) (read ∙ sym same_head.2 ∙ sym (append-nil (flat_map bare_bytes p.squares))) more_left

    pub rows_left : first + length so_far.squares ≤ MAX_S
    rows_left =
        let more = more_left in
        let within = is.rows in
        let same_row = same_head.1 in
        omega arith

pub part_once : (p q : Part) → IsPart p → IsPart q → part_bytes p ≡ part_bytes q → p ≡ q
part_once p q is is' e =
    let h = same_head p is q.above q.first is'.degree is'.row (flat_map bare_bytes q.squares) (part_bytes q) refl e in
    let squares = one_list IsBare bare_bytes squares_apart square_takes_bytes p.squares q.squares (recursion_from_All IsBare p.squares is.bare) (recursion_from_All IsBare q.squares is'.bare) h.2 in
    let made : ℕ → ℕ → List Bare → Part = λ above first squares. record { above = above; first = first; squares = squares } in
    ap (λ a. made a p.first p.squares) h.0 ∙ ap (λ f. made q.above f p.squares) h.1 ∙ ap (made q.above q.first) squares

-- bytes that were read to their end are those of the part
pub whole_part : (p : Part) (above first : ℕ) (rest squares body : List ℕ) → p.above ≡ above → p.first ≡ first → flat_map bare_bytes p.squares ++ rest ≡ squares → length rest ≡ 0 → head_bytes above first ++ squares ≡ body → part_bytes p ≡ body
whole_part p above first [] squares body a f read none e =
    ap (λ n. head_bytes n p.first ++ flat_map bare_bytes p.squares) a
    ∙ ap (λ n. head_bytes above n ++ flat_map bare_bytes p.squares) f
    ∙ ap (λ (b : List ℕ). head_bytes above first ++ b) (sym (append-nil (flat_map bare_bytes p.squares)) ∙ read)
    ∙ e
whole_part p above first (b ∷ rest) squares body a f read none e = absurd (omega arith)
