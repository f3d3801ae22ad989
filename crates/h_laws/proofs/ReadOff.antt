-- A lift of a cocycle takes d of a generator to a vector with Sq(2^v) where d has it on the cocycle; and d of the lift has Sq(2^v) where
-- the lift has h_v.
use Rattle.std.specs.Cmp.Lexicographic.{bytes_decides, pointwise}
use Rattle.std.proofs.Common.{◌≡◌, inl, inr, ℕ, suc, ◌+◌, ◌^◌, ◌<◌, ◌≤◌, ℤ, pos, ◌+ℤ◌, ◌-ℤ◌, ◌≤ℤ◌, Bool, true, false, ◌&&◌, nat_eq, List, [], length, map, refl, ap, sym, subst, ◌∙◌, arith}
use Rattle.std.proofs.Math.Bool as Booleans
use Rattle.std.proofs.lemmas.Int.{ints}
use Rattle.std.proofs.lemmas.Bool.{and_right, cases_lt}
use Rattle.f2_vec.specs.Vectors.{bit}
use Rattle.f2_vec.proofs.Combinations.{map-map}
use Rattle.milnor_basis.specs.Exponents.{degree_of}
use Rattle.milnor_basis.proofs.ExponentLemmas.{of_degree_zero}
use Rattle.finite_module.proofs.Widths.{degree_of-single}
use Rattle.milnor_laws.proofs.FreeModules.{free_modules_are_modules}
use Rattle.free_module.specs.FreeModule.{free_basis, free_width}
use Rattle.free_module.specs.FreeBasis.{element}
use Rattle.resolution_laws.specs.Resolution.{row_of}
use Rattle.resolution_laws.specs.Exactness.{CanonicalTableIsMinimalResolution}
use Rattle.resolution_laws.proofs.Generators.{element-IsOfDegree}
use Rattle.lift_laws.specs.Maps.{shifted, value_of}
use Rattle.lift_laws.specs.Lifts.{Resolution, gens, degree, free, image, d, lowered, IsLift, IsSphere}
use Rattle.lift_laws.specs.Products.{first_of, old_width, coefficient_of}
use Rattle.lift_laws.proofs.Linear.{HaveWidth-extended, IsSteenrodModule-shifted}
use Rattle.lift_laws.proofs.Coefficients.{is_new}
use Rattle.lift_laws.proofs.Facts.{image-HasNoBare}
use Rattle.lift_laws.proofs.Resolved.{IsResolved, is_resolved}
use Rattle.bracket_laws.specs.Brackets.{dot}
use Rattle.bracket_laws.proofs.Dots.{bit-combination_dot}
use Rattle.bracket_laws.proofs.Vectors.{on_square-same}
use Rattle.h_laws.specs.Products.{h, image_terms, HasSquare, ProductsWithHAreReadOffImages}
use Rattle.h_laws.proofs.Parity.{dot-where}
use Rattle.h_laws.proofs.Squares.{power, bare_part}
use Rattle.h_laws.proofs.RowOne.{row_one_has_squares}
use Rattle.h_laws.proofs.Sphere.{IsSquarePlace, square_place, bit-value, square_bit, d_one, d_zero, lowest, u}

module _ (r q : Resolution) (rs rt qs qt : ℕ) (p : IsResolved r rs rt) (o : IsResolved q qs qt) (sphere : IsSphere q)
    (s : ℕ) (x : ℤ) (v : ℕ) (z : ℕ → List Bool) (top : ℤ) (phi : ℕ → ℕ → List Bool) (lift : IsLift r q s x z 1 top phi)
    (place : ℕ) (at : IsSquarePlace q qs qt o sphere v place) where
  -- on Sq(R) of positive degree on a generator phi 0 has Sq(2^v) where R is that and the cocycle is 1
  bit-term : (e : ℕ × List ℕ) (b : Bool) → e.0 < length (gens r s) → degree r s e.0 ≤ℤ top → (degree r s e.0 -ℤ x) +ℤ pos (degree_of e.1) ≡ u q qs qt o sphere v → pointwise nat_eq e.1 (power v) ≡ b →
      (pointwise nat_eq e.1 (power v) && bare_part (gens q 0) 0 (degree r s e.0 -ℤ x) (phi 0 e.0)) ≡ (bit (z e.0) 0 && pointwise nat_eq e.1 (power v))
  bit-term e true l low deg one =
      let low_degree : ℤ = lowest q qs qt o sphere in
      let list : e.1 ≡ power v = (bytes_decides e.1 (power v)).0 one in
      let size : degree_of e.1 ≡ 2 ^ v = ap degree_of list ∙ degree_of-single (2 ^ v) in
      let here : degree r s e.0 -ℤ x ≡ q.base.bottom +ℤ pos 0 = omega (arith, ints) in
      let start : d q 0 (degree r s e.0 -ℤ x) (phi 0 e.0) ≡ z e.0 = lift.start e.0 l low in
      let unit : bare_part (gens q 0) 0 (degree r s e.0 -ℤ x) (phi 0 e.0) ≡ bit (z e.0) 0 =
      ap (λ (t : ℤ). bare_part (gens q 0) 0 t (phi 0 e.0)) here ∙ (sym (d_zero q qs qt o sphere (phi 0 e.0)) ∙ (ap (λ (t : ℤ). bit (d q 0 t (phi 0 e.0)) 0) (sym here) ∙ ap (λ (w : List Bool). bit w 0) start)) in
      ap (λ (b : Bool). b && bare_part (gens q 0) 0 (degree r s e.0 -ℤ x) (phi 0 e.0)) one ∙ (unit ∙ (sym (Booleans.and-true (bit (z e.0) 0)) ∙ ap (λ (b : Bool). bit (z e.0) 0 && b) (sym one)))
  bit-term e false l low deg none =
      ap (λ (b : Bool). b && bare_part (gens q 0) 0 (degree r s e.0 -ℤ x) (phi 0 e.0)) none ∙ (sym (and_right (bit (z e.0) 0) false refl) ∙ ap (λ (b : Bool). bit (z e.0) 0 && b) (sym none))

  bit-lowered : (y : ℕ) → suc s ≤ rs → y < length (gens r (suc s)) → degree r (suc s) y ≤ℤ top → degree r (suc s) y -ℤ x ≡ u q qs qt o sphere v →
      bit (lowered r s q 0 x (phi 0) (degree r (suc s) y) (image r (suc s) y)) place ≡ image_terms r s (2 ^ v) z y
  bit-lowered y within l low e =
      let t = degree r (suc s) y in
      let w = image r (suc s) y in
      let target = shifted x (free q 0) in
      let good = IsSteenrodModule-shifted x (free q 0) (free_modules_are_modules (gens q 0)) in
      let value = value_of target (gens r s) (phi 0) in
      let basis = free_basis (gens r s) t in
      bit-combination_dot (free_width (gens q 0) (t -ℤ x)) w (map value basis) place (HaveWidth-extended target good (gens r s) top (phi 0) (lift.fit 0 s (omega arith) (omega arith)) t low)
      ∙ (ap (λ (b : List Bool). dot b w) (map-map (λ b. bit b place) value basis)
      ∙ dot-where (0, []) (λ f. bit (value f) place) (λ f. bit (z f.0) 0 && pointwise nat_eq f.1 (power v)) basis w (λ j c.
      let f = element basis j in
      let is = element-IsOfDegree (gens r s) t j c in
      let deg = is.degree in
      elim (cases_lt 0 (degree_of f.1)) [
        | inl positive ↦
            let sum : (degree r s f.0 -ℤ x) +ℤ pos (degree_of f.1) ≡ u q qs qt o sphere v = omega (arith, ints) in
            inr (bit-value q qs qt o sphere v place at f.1 (degree r s f.0 -ℤ x) (phi 0 f.0) is.trimmed positive sum
            ∙ bit-term f (pointwise nat_eq f.1 (power v)) is.generator (omega (arith, ints)) sum refl)
        | inr zero_degree ↦ inl (image-HasNoBare r rs rt p s y within l j c (of_degree_zero f.1 is.trimmed (omega arith)))
      ]))

  module _ (rows : 1 ≤ qs) (reach : 2 ^ v ≤ qt) (has : HasSquare q v) where
    pub coefficient_is : (y : ℕ) → suc s ≤ rs → y < length (gens r (suc s)) → degree r (suc s) y ≤ℤ top → degree r (suc s) y -ℤ x ≡ u q qs qt o sphere v →
        bit (phi 1 y) (old_width q 1 (2 ^ v)) ≡ image_terms r s (2 ^ v) z y
    coefficient_is y within l low e =
        let w = phi 1 y in
        let fits = lift.fit 1 (suc s) (omega arith) (omega arith) y l low in
        let square = sym (square_bit q qs qt o sphere v place at rows reach has.one) ∙ has.square in
        let P : ℤ → Type 0 = λ t. length w ≡ free_width (gens q 1) t → bit (d q 1 t w) place ≡ bit w (old_width q 1 (2 ^ v)) in
        let here : P (u q qs qt o sphere v) = d_one q qs qt o sphere v place at rows reach has.one square w in
        let left : bit (d q 1 (degree r (suc s) y -ℤ x) w) place ≡ bit w (old_width q 1 (2 ^ v)) = subst P (sym e) here fits in
        let commutes = lift.commutes 0 (suc s) s (omega arith) (omega arith) refl y l low in
        sym left ∙ (ap (λ (b : List Bool). bit b place) commutes ∙ bit-lowered y within l low e)

pub read_off : CanonicalTableIsMinimalResolution → ProductsWithHAreReadOffImages
read_off law r q rs rt qs qt s n v z top phi cr cq sphere inside low rows reach high lift =
    let has = row_one_has_squares law q qs qt v cq sphere rows reach in
    let p = is_resolved law r rs rt cr in
    let o = is_resolved law q qs qt cq in
    let x = r.base.bottom +ℤ pos n in
    let at = square_place q qs qt o sphere v in
    let bottom = sphere.bottom in
    let next : s + 1 ≡ suc s = omega arith in
    let all = p.canonical.squares (s + 1) inside in
    let there : 2 ^ v + n < length (row_of r.table (s + 1)) = omega arith in
    on_square-same r (s + 1) (2 ^ v + n) (λ g. coefficient_of q (h v) (phi 1 g)) (image_terms r s (2 ^ v) z) (λ i l.
    let new = is_new r (s + 1) (2 ^ v + n) there i l in
    let y = first_of r (s + 1) (2 ^ v + n) + i in
    let in_row : y < length (gens r (suc s)) = subst (λ (k : ℕ). y < length (gens r k)) next new.generator in
    let deg : degree r (suc s) y ≡ r.base.bottom +ℤ pos (2 ^ v + n) = subst (λ (k : ℕ). degree r k y ≡ r.base.bottom +ℤ pos (2 ^ v + n)) next new.degree_is in
    let last : old_width q 1 (2 ^ v) + 0 ≡ old_width q 1 (2 ^ v) = omega arith in
    let same : degree r (suc s) y -ℤ x ≡ q.base.bottom +ℤ pos (2 ^ v) = omega (arith, ints) in
    ap (bit (phi 1 y)) last ∙ coefficient_is r q rs rt qs qt p o sphere s x v z top phi lift at.0 at.1 rows reach has y (omega arith) in_row (omega (arith, ints)) same)
