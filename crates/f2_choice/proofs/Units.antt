-- The unit vectors are reduced.
use Rattle.std.proofs.Common.{◌≡◌, ℕ, ◌<◌, refl, ap, ◌∙◌, arith}
use Rattle.std.proofs.lemmas.Bool.{eq-eqb, ne_eqb}
use Rattle.f2_vec.specs.Vectors.{bit}
use Rattle.f2_vec.specs.Spans.{row, unit_vector, unit_vectors}
use Rattle.f2_vec.proofs.Split.{row-unit_vectors, length-unit_vectors, bit-unit_vector}
use Rattle.f2_matrix.specs.Echelon.{IsReduced, HasNoZeroRow}
use Rattle.f2_choice.proofs.Relations.{HaveFirsts, IsReduced-from_firsts, HasNoZeroRow-from_firsts}

bit-units : (n i k : ℕ) → i < n → bit (row (unit_vectors n) i) k ≡ bit (unit_vector n i) k
bit-units n i k l = ap (λ v. bit v k) (row-unit_vectors n i l)

units_firsts : (n : ℕ) → HaveFirsts (unit_vectors n) (λ i. i)
units_firsts n = record {
  first = λ i l.
      let m : i < n = omega (arith, length-unit_vectors n) in
      record {
        one = bit-units n i i m ∙ bit-unit_vector n i i m ∙ eq-eqb i i refl;
        zeros_before = λ k b. bit-units n i k m ∙ bit-unit_vector n i k m ∙ ne_eqb k i (λ e. omega arith);
      };
  rise = λ i j l m. l;
  alone = λ i j d l m.
      let b : j < n = omega (arith, length-unit_vectors n) in
      bit-units n j i b ∙ bit-unit_vector n j i b ∙ ne_eqb i j d;
}

pub IsReduced-unit_vectors : (n : ℕ) → IsReduced (unit_vectors n)
IsReduced-unit_vectors n = IsReduced-from_firsts (unit_vectors n) (λ i. i) (units_firsts n)

pub HasNoZeroRow-unit_vectors : (n : ℕ) → HasNoZeroRow (unit_vectors n)
HasNoZeroRow-unit_vectors n = HasNoZeroRow-from_firsts (unit_vectors n) (λ i. i) (units_firsts n)
