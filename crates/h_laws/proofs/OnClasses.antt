-- A class is a cocycle that is 1 at its own generator, on which Sq(2^v) is the first element of the basis.
use Rattle.std.specs.Cmp.Lexicographic.{bytes_decides, pointwise}
use Rattle.std.proofs.Common.{◌≡◌, inl, inr, ℕ, zero, suc, ◌+◌, ◌^◌, ◌<◌, ℤ, pos, ◌+ℤ◌, ◌-ℤ◌, Bool, true, false, ◌&&◌, nat_eq, Some, List, [], ◌∷◌, length, take, get_or, refl, ap, sym, subst, ◌∙◌, arith}
use Rattle.std.specs.List.{slice_get}
use Rattle.std.proofs.lemmas.Int.{ints}
use Rattle.std.proofs.lemmas.Nat.{pow_pos}
use Rattle.std.proofs.lemmas.Bool.{and_left, and_right, cases_eq, eq-eqb, ne_eqb}
use Rattle.std.proofs.lemmas.List.{get_or_default}
use Rattle.std.proofs.lemmas.Option.{get_or_from_slice_get, slice_get-get_or, slice_get_within}
use Rattle.f2_vec.specs.Vectors.{bit}
use Rattle.milnor_basis.specs.Exponents.{entry, degree_of, IsTrimmed, IsRightLexBelow}
use Rattle.milnor_basis.specs.Basis.{basis_of}
use Rattle.milnor_basis.proofs.BasisLemmas.{Contains-basis_of, basis_is_milnors}
use Rattle.milnor_basis.proofs.ExponentLemmas.{entry_past, IsTrimmed-tail, trimmed-zeros}
use Rattle.milnor_basis.proofs.Places.{basis_of-member}
use Rattle.finite_module.proofs.Widths.{degree_of-single}
use Rattle.milnor_laws.proofs.Indecomposables.{single_trimmed}
use Rattle.free_module.specs.FreeModule.{degree_at, free_basis, free_width}
use Rattle.free_module.specs.FreeBasis.{element}
use Rattle.free_module.proofs.FreeBasis.{block-place, free_basis-place, free_basis_is_pairs}
use Rattle.resolution_laws.specs.Exactness.{CanonicalTableIsMinimalResolution}
use Rattle.resolution_laws.proofs.Squares.{AreImages-all}
use Rattle.lift_laws.specs.Lifts.{gens, degree, image, dual_of}
use Rattle.lift_laws.specs.Products.{first_of, number_of, degree_of_class}
use Rattle.lift_laws.proofs.Coefficients.{bit-dual, is_new}
use Rattle.bracket_laws.proofs.Vectors.{on_square-same}
use Rattle.h_laws.specs.Products.{first_on, image_terms, terms_with, ClassesWithHAreReadOffImages}
use Rattle.h_laws.proofs.Parity.{dot-place}
use Rattle.h_laws.proofs.Sphere.{same_parts}
use Rattle.h_laws.proofs.ReadOff.{read_off}

-- no element of the basis of degree n is below Sq(n)
none_below : (n : ℕ) → 0 < n → (r : List ℕ) → IsTrimmed r → degree_of r ≡ n → (place : ℕ) → entry r place < entry (n ∷ []) place → ((j : ℕ) → place < j → entry r j ≡ entry (n ∷ []) j) → ⊥
none_below n some [] h e place smaller same = omega arith
none_below n some (k ∷ rest) h e zero smaller same =
    let none : rest ≡ [] = sym (IsTrimmed-tail k rest h) ∙ trimmed-zeros rest (λ j. same (suc j) (omega arith) ∙ entry_past (n ∷ []) (suc j) (omega arith)) in
    let size : degree_of (k ∷ rest) ≡ k = ap (λ (z : List ℕ). degree_of (k ∷ z)) none ∙ degree_of-single k in
    omega arith
none_below n some (k ∷ rest) h e (suc place) smaller same =
    let none : entry (n ∷ []) (suc place) ≡ 0 = entry_past (n ∷ []) (suc place) (omega arith) in
    omega arith

-- so it is the first
first_in_basis : (n : ℕ) → 0 < n → slice_get (basis_of n) 0 ≡ Some (n ∷ [])
first_in_basis n some =
    let basis = basis_of n in
    let c = Contains-basis_of n (n ∷ []) (single_trimmed n some) (degree_of-single n) in
    let here : get_or basis c.0 [] ≡ n ∷ [] = get_or_default basis c.0 [] (n ∷ []) c.1 ∙ c.2 in
    let within = c.1 in
    elim (cases_eq c.0 0) [
      | inl e ↦ slice_get-get_or basis 0 [] (omega arith) ∙ ap Some (ap (λ (i : ℕ). get_or basis i []) (sym e) ∙ here)
      | inr other ↦
          let order : IsRightLexBelow (get_or basis 0 []) (n ∷ []) = subst (IsRightLexBelow (get_or basis 0 [])) here ((basis_is_milnors n).in_order 0 c.0 (omega arith) c.1) in
          let member = basis_of-member n 0 (omega arith) in
          absurd (none_below n some (get_or basis 0 []) member.0 member.1 order.place order.smaller order.same_after)
    ]

-- the terms of a cochain that is 1 at generator m alone: the coefficient of Sq(n) on it
terms_of_one : (ds : List ℤ) (t : ℤ) (m n : ℕ) (z : ℕ → List Bool) (w : List Bool) → 0 < n → m < length ds → degree_at ds m +ℤ pos n ≡ t → ((g : ℕ) → bit (z g) 0 ≡ nat_eq g m) → length w ≡ free_width ds t → terms_with ds n z t w ≡ bit w (free_width (take m ds) t)
terms_of_one ds t m n z w some l deg one fits =
    let basis = free_basis ds t in
    let start = free_width (take m ds) t in
    let s : List ℕ = n ∷ [] in
    let size = degree_of-single n in
    let e : start + 0 ≡ start = omega arith in
    let got = free_basis-place ds t m 0 s l (block-place ds t m n 0 s (omega (arith, ints)) (sym size) (first_in_basis n some)) in
    let inside : start < free_width ds t = subst (λ (i : ℕ). i < free_width ds t) e (slice_get_within basis (start + 0) (m, s) got) in
    let here : element basis start ≡ (m, s) = ap (element basis) (sym e) ∙ get_or_from_slice_get basis (start + 0) (m, s) (0, []) got in
    dot-place (0, []) (λ f. bit (z f.0) 0 && pointwise nat_eq f.1 s) basis w start fits inside (λ i c.
    let f = element basis i in
    ap (λ (b : Bool). b && pointwise nat_eq f.1 s) (one f.0) ∙ elim (cases_eq start i) [
      | inl same ↦
          let is : f ≡ (m, s) = ap (element basis) (sym same) ∙ here in
          ap (λ (f : ℕ × List ℕ). nat_eq f.0 m && pointwise nat_eq f.1 s) is
          ∙ (ap (λ (b : Bool). b && pointwise nat_eq s s) (eq-eqb m m refl) ∙ ((bytes_decides s s).1 refl ∙ sym (eq-eqb start i same)))
      | inr other ↦ apart f (pointwise nat_eq f.1 s) refl (λ a b. other ((free_basis_is_pairs ds t).once start i inside c (here ∙ sym (same_parts f (m, s) a b)))) ∙ sym (ne_eqb start i other)
    ])
  where
    apart : (f : ℕ × List ℕ) (b : Bool) → pointwise nat_eq f.1 (n ∷ []) ≡ b → (f.0 ≡ m → f.1 ≡ n ∷ [] → ⊥) → (nat_eq f.0 m && pointwise nat_eq f.1 (n ∷ [])) ≡ false
    apart f true e not_both = and_left (nat_eq f.0 m) (pointwise nat_eq f.1 (n ∷ [])) (ne_eqb f.0 m (λ a. not_both a ((bytes_decides f.1 (n ∷ [])).0 e)))
    apart f false e not_both = ap (λ (b : Bool). nat_eq f.0 m && b) e ∙ and_right (nat_eq f.0 m) false refl

pub classes_read_off : CanonicalTableIsMinimalResolution → ClassesWithHAreReadOffImages
classes_read_off law r q rs rt qs qt v x top phi cr cq sphere there inside low rows reach high lift =
    let m = number_of r x in
    let z = dual_of r q x.s (degree_of_class r x) m in
    let n = 2 ^ v + x.above in
    let next : x.s + 1 ≡ suc x.s = omega arith in
    let all = cr.canonical.squares (x.s + 1) inside in
    let own_row = cr.canonical.squares x.s (omega arith) in
    let own = is_new r x.s x.above (omega arith) x.i there in
    let above = own.degree_is in
    read_off law r q rs rt qs qt x.s x.above v z top phi cr cq sphere inside low rows reach high lift
    ∙ on_square-same r (x.s + 1) n (image_terms r x.s (2 ^ v) z) (first_on r x.s m) (λ i l.
    let new = is_new r (x.s + 1) n (omega arith) i l in
    let y = first_of r (x.s + 1) n + i in
    let in_row : y < length (gens r (suc x.s)) = subst (λ (k : ℕ). y < length (gens r k)) next new.generator in
    let deg : degree r (suc x.s) y ≡ r.base.bottom +ℤ pos n = subst (λ (k : ℕ). degree r k y ≡ r.base.bottom +ℤ pos n) next new.degree_is in
    let fits = (AreImages-all r.base rs rt r.table cr.canonical (suc x.s) (omega arith)).widths y in_row in
    terms_of_one (gens r x.s) (degree r (suc x.s) y) m (2 ^ v) z (image r (suc x.s) y) (pow_pos v) own.generator (omega (arith, ints)) (λ g. bit-dual (nat_eq g m) (q.base.graded.width (degree r x.s g -ℤ degree_of_class r x))) fits)
