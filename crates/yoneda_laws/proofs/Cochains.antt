-- The cochain of an element: its values are vectors, and at the generators of its square they are its coordinates.
use Rattle.std.proofs.Common.{◌≡◌, inl, inr, ℕ, ◌+◌, ◌<◌, ℤ, pos, ◌+ℤ◌, ◌-ℤ◌, Bool, true, nat_eq, if◌then◌else◌, List, [], ◌∷◌, length, map, refl, ap, sym, ◌∙◌, arith}
use Rattle.std.specs.List.{range_with_len}
use Rattle.std.proofs.lemmas.Int.{ints}
use Rattle.std.proofs.lemmas.Bool.{cases_eq, eq-eqb, ne_eqb}
use Rattle.std.proofs.lemmas.List.FromFn.{length-map-range_with_len, get_or-map-range_with_len}
use Rattle.f2_vec.specs.Vectors.{bit, zeros}
use Rattle.f2_vec.specs.Spans.{row, HaveWidth, combination}
use Rattle.f2_vec.proofs.Sums.{length-zeros}
use Rattle.f2_vec.proofs.Spans.{length-combination}
use Rattle.f2_vec.proofs.Combinations.{map-map}
use Rattle.resolution_laws.specs.Resolution.{row_of}
use Rattle.lift_laws.specs.Lifts.{Resolution, degree, dual_of, IsSphere}
use Rattle.lift_laws.specs.Products.{first_of, count_of}
use Rattle.lift_laws.proofs.Coefficients.{bit-dual, map_range, is_new}
use Rattle.bracket_laws.specs.Brackets.{dot}
use Rattle.bracket_laws.proofs.Dots.{bit-combination_dot}
use Rattle.bracket_laws.proofs.Vectors.{dot-one}

module _ (r q : Resolution) (sphere : IsSphere q) (s k : ℕ) (there : k < length (row_of r.table s)) where
  abbrev X : ℤ
  X = r.base.bottom +ℤ pos k

  abbrev first : ℕ
  first = first_of r s k

  abbrev count : ℕ
  count = count_of r s k

  abbrev size : ℕ → ℕ
  size g = q.base.graded.width (degree r s g -ℤ X)

  abbrev pub duals : ℕ → List (List Bool)
  duals g = map (λ j. dual_of r q s X j g) (range_with_len first count)

  length-dual : (j g : ℕ) → j < count → length (dual_of r q s X (first + j) g) ≡ size g
  length-dual j g l = elim (cases_eq g (first + j)) [
    | inl e ↦
        let deg : degree r s g ≡ X = ap (degree r s) e ∙ (is_new r s k there j l).degree_is in
        let at : degree r s g -ℤ X ≡ pos 0 = omega (arith, ints) in
        ap (λ (c : Bool). length (if c then true ∷ [] else zeros (size g))) (eq-eqb g (first + j) e) ∙ sym (ap q.base.graded.width at ∙ sphere.one)
    | inr f ↦ ap (λ (c : Bool). length (if c then true ∷ [] else zeros (size g))) (ne_eqb g (first + j) f) ∙ length-zeros (size g)
  ]

  pub length-duals : (g : ℕ) → length (duals g) ≡ count
  length-duals g = length-map-range_with_len (λ j. dual_of r q s X j g) first count

  pub row-duals : (g i : ℕ) → i < count → row (duals g) i ≡ dual_of r q s X (first + i) g
  row-duals g i l = get_or-map-range_with_len (λ j. dual_of r q s X j g) first count i (first + i) [] l refl

  pub HaveWidth-duals : (g : ℕ) → HaveWidth (size g) (duals g)
  HaveWidth-duals g = λ i l. let c : i < count = omega (arith, length-duals g) in ap length (row-duals g i c) ∙ length-dual i g c

  pub length-cochain : (on : List Bool) (g : ℕ) → length (combination (size g) on (duals g)) ≡ size g
  length-cochain on g = length-combination (size g) on (duals g) (HaveWidth-duals g)

  pub bit-cochain : (on : List Bool) → length on ≡ count → (i : ℕ) → i < count → bit (combination (size (first + i)) on (duals (first + i))) 0 ≡ bit on i
  bit-cochain on e i l =
      let g = first + i in
      let each : map (λ v. bit v 0) (duals g) ≡ map (λ j. nat_eq g j) (range_with_len first count) =
      map-map (λ v. bit v 0) (λ j. dual_of r q s X j g) (range_with_len first count)
      ∙ map_range (λ j. bit (dual_of r q s X j g) 0) (λ j. nat_eq g j) first count (λ j c. bit-dual (nat_eq g (first + j)) (size g)) in
      bit-combination_dot (size g) on (duals g) 0 (HaveWidth-duals g) ∙ (ap (λ (z : List Bool). dot z on) each ∙ dot-one count i first on e l)
