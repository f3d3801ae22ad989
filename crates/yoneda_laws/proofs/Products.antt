-- Two elements have one product: there is a lift, and all lifts give the same.
use Rattle.std.proofs.Common.{◌≡◌, ℕ, ◌+◌, ◌<◌, ℤ, pos, ◌+ℤ◌, ◌-ℤ◌, ◌≤ℤ◌, Bool, List, length, refl, ap, ◌∙◌, arith}
use Rattle.std.proofs.lemmas.Int.{ints}
use Rattle.resolution_laws.specs.Resolution.{row_of}
use Rattle.resolution_laws.specs.Exactness.{CanonicalTableIsMinimalResolution}
use Rattle.lift_laws.specs.Lifts.{Resolution, IsLift}
use Rattle.lift_laws.specs.Products.{first_of, count_of, coefficients}
use Rattle.lift_laws.proofs.Resolved.{IsResolved, is_resolved}
use Rattle.lift_laws.proofs.ChainMaps.{IsLift-lower}
use Rattle.lift_laws.proofs.Existence.{has_lift}
use Rattle.lift_laws.proofs.Coefficients.{is_new}
use Rattle.lift_laws.proofs.OneProduct.{coefficients-agree}
use Rattle.bracket_laws.specs.Brackets.{dot}
use Rattle.bracket_laws.proofs.Vectors.{length-on_square, on_square-same}
use Rattle.yoneda_laws.specs.Elements.{Element, degree_of, cochain_of, product_with, IsProduct, CanMultiply, HasOneProduct, ElementsHaveOneProduct}
use Rattle.yoneda_laws.proofs.Cochains.{length-cochain}

module _ (law : CanonicalTableIsMinimalResolution) (r q : Resolution) (rs rt qs qt : ℕ) (a x : Element) (can : CanMultiply r q rs rt qs qt a x) where
  abbrev pub less : ℤ
  less = r.base.bottom +ℤ pos (a.above + x.above)

  abbrev pub X : ℤ
  X = degree_of r x

  pub o : IsResolved q qs qt
  o = is_resolved law q qs qt can.canonical_q

  reach : (less -ℤ X) ≤ℤ (q.base.bottom +ℤ pos qt)
  reach = let b = can.sphere.bottom in let d = can.degree_q in omega (arith, ints)

  pub x_there : x.above < length (row_of r.table x.s)
  x_there = let row = can.row in let d = can.degree in let long = can.canonical.canonical.squares x.s (omega arith) in omega arith

  pub target_there : a.above + x.above < length (row_of r.table (x.s + a.s))
  target_there = let d = can.degree in let long = can.canonical.canonical.squares (x.s + a.s) can.row in omega arith

  abbrev pub IsLiftOfX : (ℕ → ℕ → List Bool) → Type 0
  IsLiftOfX phi = IsLift r q x.s X (cochain_of r q x) a.s less phi

  pub lift_of : (v : List Bool) (m : IsProduct r q a x v) → IsLiftOfX m.phi
  lift_of v m = IsLift-lower r q x.s X (cochain_of r q x) a.s m.top less m.phi m.reaches m.is_lift

  -- two lifts give the same
  pub lifts_agree : (phi psi : ℕ → ℕ → List Bool) → IsLiftOfX phi → IsLiftOfX psi → product_with r q a x phi ≡ product_with r q a x psi
  lifts_agree phi psi f h =
      on_square-same r (x.s + a.s) (a.above + x.above) (λ g. dot a.on (coefficients q a.s a.above (phi a.s g))) (λ g. dot a.on (coefficients q a.s a.above (psi a.s g))) (λ i l.
      let new = is_new r (x.s + a.s) (a.above + x.above) target_there i l in
      let deg = new.degree_is in
      let long = can.canonical_q.canonical.squares a.s can.row_q in
      let d = can.degree_q in
      let a_there : a.above < length (row_of q.table a.s) = omega arith in
      let g = first_of r (x.s + a.s) (a.above + x.above) + i in
      let b = can.sphere.bottom in
      ap (dot a.on) (coefficients-agree r q rs rt qs qt (is_resolved law r rs rt can.canonical) o x.s X a.s less can.row_q can.row reach (cochain_of r q x) phi psi f h (x.s + a.s) g refl new.generator (omega (arith, ints)) a.above a_there (omega (arith, ints))))

  pub moved : (v : List Bool) (psi : ℕ → ℕ → List Bool) → IsProduct r q a x v → IsLiftOfX psi → v ≡ product_with r q a x psi
  moved v psi m h = m.gives ∙ lifts_agree m.phi psi (lift_of v m) h

  pub product_of : (phi : ℕ → ℕ → List Bool) → IsLiftOfX phi → IsProduct r q a x (product_with r q a x phi)
  product_of phi f = record { top = less; phi = phi; reaches = omega (arith, ints); is_lift = f; gives = refl }

  pub length-product : (phi : ℕ → ℕ → List Bool) → length (product_with r q a x phi) ≡ count_of r (x.s + a.s) (a.above + x.above)
  length-product phi = length-on_square r (x.s + a.s) (a.above + x.above) (λ g. dot a.on (coefficients q a.s a.above (phi a.s g)))

  pub one : HasOneProduct r q a x
  one =
      let lift = has_lift r q rs rt qs qt (is_resolved law r rs rt can.canonical) o can.sphere x.s X less reach (cochain_of r q x) (λ g l b. length-cochain r q can.sphere x.s x.above x_there x.on g) a.s can.row can.row_q in
      record {
        value = product_with r q a x lift.phi;
        is_product = product_of lift.phi lift.is_lift;
        is_in = length-product lift.phi;
        only = λ w m. moved w lift.phi m lift.is_lift;
      }

pub one_product : CanonicalTableIsMinimalResolution → ElementsHaveOneProduct
one_product law r q rs rt qs qt a x can = one law r q rs rt qs qt a x can
