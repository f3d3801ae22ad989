-- Two lifts of one cochain: their sum is a lift of zero, so they have the same coefficients.
use Rattle.std.proofs.Common.{◌≡◌, ℕ, ◌+◌, ◌<◌, ◌≤◌, ℤ, pos, ◌+ℤ◌, ◌-ℤ◌, ◌≤ℤ◌, Bool, false, List, [], length, refl, ap, sym, subst, ◌∙◌, arith}
use Rattle.std.proofs.lemmas.Int.{ints}
use Rattle.std.proofs.lemmas.List.{ext_get_or, get_or-drop, length-drop}
use Rattle.f2_vec.specs.Vectors.{bit, sum_of, zeros}
use Rattle.f2_vec.proofs.Sums.{bit-sum_of, sum_of-self, same_from_plus}
use Rattle.free_module.specs.FreeModule.{free_basis, free_width}
use Rattle.free_module.specs.FreeBasis.{element}
use Rattle.resolution_laws.specs.Resolution.{row_of}
use Rattle.resolution_laws.specs.Exactness.{CanonicalTableIsMinimalResolution}
use Rattle.lift_laws.specs.Lifts.{Resolution, gens, degree, IsLift}
use Rattle.lift_laws.specs.Products.{first_of, count_of, old_width, coefficients, coefficient_of, LiftsGiveOneProduct}
use Rattle.lift_laws.proofs.Facts.{IsMap-d}
use Rattle.lift_laws.proofs.Remainder.{null-HasNoBare}
use Rattle.lift_laws.proofs.Sums.{IsLift-sum, IsLift-start}
use Rattle.lift_laws.proofs.Coefficients.{map_range, width-parts, is_new}
use Rattle.lift_laws.proofs.Resolved.{IsResolved, is_resolved}

module _ (r q : Resolution) (rs rt qs qt : ℕ) (p : IsResolved r rs rt) (o : IsResolved q qs qt)
    (s : ℕ) (x : ℤ) (upto : ℕ) (top : ℤ) (within : upto ≤ qs) where
  pub length-start : (z : ℕ → List Bool) (phi : ℕ → ℕ → List Bool) → IsLift r q s x z upto top phi → (g : ℕ) → g < length (gens r s) → degree r s g ≤ℤ top → length (z g) ≡ q.base.graded.width (degree r s g -ℤ x)
  length-start z phi a g l c =
      sym (ap length (a.start g l c)) ∙ (IsMap-d q qs qt o 0 (top -ℤ x) (omega arith)).fits (degree r s g -ℤ x) (phi 0 g) (omega (arith, ints)) (a.fit 0 s (omega arith) (omega arith) g l c)

  pub IsLift-difference : (z : ℕ → List Bool) (phi psi : ℕ → ℕ → List Bool) → IsLift r q s x z upto top phi → IsLift r q s x z upto top psi → IsLift r q s x (λ g. zeros (q.base.graded.width (degree r s g -ℤ x))) upto top (λ k g. sum_of (phi k g) (psi k g))
  IsLift-difference z phi psi a b =
      IsLift-start r q s x (λ g. sum_of (z g) (z g)) (λ g. zeros (q.base.graded.width (degree r s g -ℤ x))) upto top (λ k g. sum_of (phi k g) (psi k g))
      (λ g l c. sum_of-self (q.base.graded.width (degree r s g -ℤ x)) (z g) (length-start z phi a g l c))
      (IsLift-sum r q qs qt o s x upto top within z z phi psi a b)

  module _ (inside : s + upto ≤ rs) (reach : (top -ℤ x) ≤ℤ (q.base.bottom +ℤ pos qt))
      (z : ℕ → List Bool) (phi psi : ℕ → ℕ → List Bool) (a : IsLift r q s x z upto top phi) (b : IsLift r q s x z upto top psi)
      (i g : ℕ) (row : i ≡ s + upto) (there : g < length (gens r i)) (low : degree r i g ≤ℤ top) where
    pub bits-agree : (j : ℕ) → j < free_width (gens q upto) (degree r i g -ℤ x) → (element (free_basis (gens q upto) (degree r i g -ℤ x)) j).1 ≡ [] → bit (phi upto g) j ≡ bit (psi upto g) j
    bits-agree j h bare =
        let fa = a.fit upto i (omega arith) row g there low in
        let fb = b.fit upto i (omega arith) row g there low in
        let none : bit (sum_of (phi upto g) (psi upto g)) j ≡ false = null-HasNoBare r q rs rt qs qt p o s x upto top (λ k g. sum_of (phi k g) (psi k g)) inside within reach (IsLift-difference z phi psi a b) i g row there low j h bare in
        same_from_plus (bit (phi upto g) j) (bit (psi upto g) j) (sym (bit-sum_of (phi upto g) (psi upto g) j (fa ∙ sym fb)) ∙ none)

    pub coefficient-agrees : (m k : ℕ) → m < length (row_of q.table upto) → degree r i g -ℤ x ≡ q.base.bottom +ℤ pos m → k < count_of q upto m → bit (phi upto g) (old_width q upto m + k) ≡ bit (psi upto g) (old_width q upto m + k)
    coefficient-agrees m k h deg l =
        let new = is_new q upto m h k l in
        let P : ℤ → Type 0 = λ u. old_width q upto m + k < free_width (gens q upto) u in
        let Q : ℤ → Type 0 = λ u. (element (free_basis (gens q upto) u) (old_width q upto m + k)).1 ≡ [] in
        bits-agree (old_width q upto m + k) (subst P (sym deg) new.place) (subst Q (sym deg) new.bare)

    pub coefficients-agree : (m : ℕ) → m < length (row_of q.table upto) → degree r i g -ℤ x ≡ q.base.bottom +ℤ pos m → coefficients q upto m (phi upto g) ≡ coefficients q upto m (psi upto g)
    coefficients-agree m h deg =
        let w = old_width q upto m in
        let fa = a.fit upto i (omega arith) row g there low in
        let fb = b.fit upto i (omega arith) row g there low in
        let at : free_width (gens q upto) (degree r i g -ℤ x) ≡ free_width (gens q upto) (q.base.bottom +ℤ pos m) = ap (free_width (gens q upto)) deg in
        let parts = width-parts q upto m h in
        let la = length-drop w (phi upto g) in
        let lb = length-drop w (psi upto g) in
        ext_get_or false (coefficients q upto m (phi upto g)) (coefficients q upto m (psi upto g)) (omega arith)
        (λ k l. get_or-drop w (phi upto g) k false ∙ (coefficient-agrees m k h deg (omega arith) ∙ sym (get_or-drop w (psi upto g) k false)))

pub one_product : CanonicalTableIsMinimalResolution → LiftsGiveOneProduct
one_product law r q rs rt qs qt s n z a top phi psi cr cq sphere inside low within there high reach lift_phi lift_psi =
    let p = is_resolved law r rs rt cr in
    let o = is_resolved law q qs qt cq in
    let x = r.base.bottom +ℤ pos n in
    let bottom = sphere.bottom in
    let row = p.canonical.squares (s + a.s) inside in
    let row_q = o.canonical.squares a.s within in
    let at : a.above + n < length (row_of r.table (s + a.s)) = omega arith in
    let small : a.above ≤ qt = omega (arith, ints) in
    let first = first_of r (s + a.s) (a.above + n) in
    map_range (λ j. coefficient_of q a (phi a.s (first + j))) (λ j. coefficient_of q a (psi a.s (first + j))) 0 (count_of r (s + a.s) (a.above + n)) (λ j l.
    let same : 0 + j ≡ j = omega arith in
    let new = is_new r (s + a.s) (a.above + n) at j l in
    let deg = new.degree_is in
    let g = first + j in
    let here : coefficient_of q a (phi a.s g) ≡ coefficient_of q a (psi a.s g) = coefficient-agrees r q rs rt qs qt p o s x a.s top within inside reach z phi psi lift_phi lift_psi (s + a.s) g refl new.generator (omega (arith, ints)) a.above a.i (omega arith) (omega (arith, ints)) there in
    subst (λ (j : ℕ). coefficient_of q a (phi a.s (first + j)) ≡ coefficient_of q a (psi a.s (first + j))) (sym same) here)
