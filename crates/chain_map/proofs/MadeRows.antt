-- Values that quasi-inverses give grow value by value, and those on a row by a square.
use Rattle.std.proofs.Common.{◌≡◌, inl, inr, ℕ, ◌+◌, ◌<◌, Bool, ℤ, pos, ◌+ℤ◌, ◌-ℤ◌, List, [], ◌∷◌, ◌++◌, length, map, refl, ap, sym, subst, ◌∙◌, arith}
use Rattle.std.proofs.lemmas.Bool.{cases_lt}
use Rattle.std.proofs.lemmas.List.{append-nil, get_or_append_left, get_or_push, length-map, length_push, map-append}
use Rattle.std.proofs.lemmas.List.Concat.{flat_map-append}
use Rattle.std.proofs.lemmas.List.FromFn.{map-range_with_len_more}
use Rattle.f2_vec.specs.Spans.{row}
use Rattle.resolution_laws.specs.Resolution.{row_of}
use Rattle.square.specs.Tables.{Staircase}
use Rattle.lift_laws.specs.Lifts.{degree}
use Rattle.lift_laws.specs.Products.{first_of, count_of}
use Rattle.chain_map.specs.Lifting.{joined, counts, resolution_of, IsChosenFor, AreChosen}
use Rattle.chain_map.specs.Inside.{with_value, AreMade}
use Rattle.chain_map.proofs.Generators.{is_number, first_of-more}
use Rattle.chain_map.proofs.Squares.{joined-pushed, counts-pushed}

-- The values on the generators of the first n squares of row i, and on the first h of the square behind them.
pub record AreMadeTo (table sphere : Staircase) (i k : ℕ) (x : ℤ) (goal : ℕ → List Bool) (n h : ℕ)
    (squares : List (List (List Bool))) : Type 0 where
  pub one_each : map length squares ≡ counts table i n ++ h ∷ []
  pub chosen : AreChosen table sphere i k x goal (first_of (resolution_of table) i n + h) (joined squares)

module _ (table sphere : Staircase) (i k : ℕ) (x : ℤ) (goal : ℕ → List Bool) where
  pub chosen_more : (count : ℕ) (old new : List (List Bool)) (u : ℤ) (wanted w : List Bool) → new ≡ old ++ w ∷ [] → u ≡ degree (resolution_of table) i count -ℤ x → wanted ≡ goal count → IsChosenFor sphere k u wanted w → AreChosen table sphere i k x goal count old → AreChosen table sphere i k x goal (count + 1) new
  chosen_more count old new u wanted w e at same chosen p =
      let len = length_push old w in
      let one = p.one_each in
      let P : ℕ → List Bool → Type 0 = λ g v. IsChosenFor sphere k (degree (resolution_of table) i g -ℤ x) (goal g) v in
      let here : P count w = subst (λ (z : List Bool). IsChosenFor sphere k (degree (resolution_of table) i count -ℤ x) z w) same (subst (λ (z : ℤ). IsChosenFor sphere k z wanted w) at chosen) in
      let last : P count (row (old ++ w ∷ []) count) = subst (P count) (sym (get_or_push old w [] count one)) here in
      let grown : AreChosen table sphere i k x goal (count + 1) (old ++ w ∷ []) = record {
        one_each = omega arith;
        each = λ g l. elim (cases_lt g (length old)) [
          | inl m ↦ subst (P g) (sym (get_or_append_left old (w ∷ []) [] g m)) (p.each g m)
          | inr m ↦ let end : count ≡ g = omega arith in subst (λ (g : ℕ). P g (row (old ++ w ∷ []) g)) end last
        ];
      } in
      subst (AreChosen table sphere i k x goal (count + 1)) (sym e) grown

  pub chosen_in : (count other : ℕ) (vectors : List (List Bool)) → count ≡ other → AreChosen table sphere i k x goal count vectors → AreChosen table sphere i k x goal other vectors
  chosen_in count other vectors e p = subst (λ (n : ℕ). AreChosen table sphere i k x goal n vectors) e p

  -- ---- on a row of squares

  pub made_none : AreMade table sphere i k x goal 0 []
  made_none = record { one_each = refl; chosen = record { one_each = refl; each = λ g l. absurd (omega arith) } }

  -- the next square
  pub made_square : (n : ℕ) (old new : List (List (List Bool))) → new ≡ old ++ [] ∷ [] → AreMade table sphere i k x goal n old → AreMadeTo table sphere i k x goal n 0 new
  made_square n old new e p =
      let first = first_of (resolution_of table) i n in
      let same : joined (old ++ [] ∷ []) ≡ joined old = flat_map-append (λ (z : List (List Bool)). z) old ([] ∷ []) ∙ append-nil (joined old) in
      let here : AreMadeTo table sphere i k x goal n 0 (old ++ [] ∷ []) = record {
        one_each = map-append length old ([] ∷ []) ∙ ap (λ (z : List ℕ). z ++ 0 ∷ []) p.one_each;
        chosen = subst (AreChosen table sphere i k x goal (first + 0)) (sym same) (chosen_in first (first + 0) (joined old) (omega arith) p.chosen);
      } in
      subst (AreMadeTo table sphere i k x goal n 0) (sym e) here

  -- it is there
  pub square_begun : (n h : ℕ) (squares : List (List (List Bool))) → AreMadeTo table sphere i k x goal n h squares → 0 < length squares
  square_begun n h squares p = omega (arith, ap length p.one_each, length-map squares length, length_push (counts table i n) h)

  -- one value more in it
  pub made_value : (n h : ℕ) (old new : List (List (List Bool))) (u : ℤ) (wanted w : List Bool) → n < length (row_of (resolution_of table).table i) → h < count_of (resolution_of table) i n → new ≡ with_value old w → ((resolution_of table).base.bottom +ℤ pos n) -ℤ x ≡ u → wanted ≡ goal (first_of (resolution_of table) i n + h) → IsChosenFor sphere k u wanted w
      → AreMadeTo table sphere i k x goal n h old → AreMadeTo table sphere i k x goal n (h + 1) new
  made_value n h old new u wanted w l b e at same chosen p =
      let first = first_of (resolution_of table) i n in
      let number = is_number (resolution_of table) i n h l b in
      let grown = chosen_more (first + h) (joined old) (joined (with_value old w)) u wanted w (joined-pushed old w (square_begun n h old p)) (sym at ∙ ap (λ (z : ℤ). z -ℤ x) (sym number.degree_is)) same chosen p.chosen in
      let more : AreMadeTo table sphere i k x goal n (h + 1) (with_value old w) = record {
        one_each = counts-pushed old w (counts table i n) h p.one_each;
        chosen = chosen_in (first + h + 1) (first + (h + 1)) (joined (with_value old w)) (omega arith) grown;
      } in
      subst (AreMadeTo table sphere i k x goal n (h + 1)) (sym e) more

  -- all of its values
  pub made_end : (n h : ℕ) (squares : List (List (List Bool))) → h ≡ count_of (resolution_of table) i n → AreMadeTo table sphere i k x goal n h squares → AreMade table sphere i k x goal (n + 1) squares
  made_end n h squares e p =
      let first = first_of (resolution_of table) i n in
      let more = first_of-more (resolution_of table) i n in
      record {
        one_each = p.one_each ∙ (ap (λ (z : ℕ). counts table i n ++ z ∷ []) e ∙ sym (map-range_with_len_more (count_of (resolution_of table) i) 0 n n (omega arith)));
        chosen = chosen_in (first + h) (first_of (resolution_of table) i (n + 1)) (joined squares) (omega arith) p.chosen;
      }
