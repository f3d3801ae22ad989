-- Row 1 of the sphere has one generator in degree 2^v, whose image has Sq(2^v). It has one, since Sq(2^v) is d_1 of no vector without a
-- generator of that degree; and one alone, since what d_1 takes to a vector without Sq(2^v) has no generator without an operation.
-- In other degrees it has none, for the same reason.
use Rattle.std.proofs.Common.{◌≡◌, inl, inr, ℕ, ◌+◌, ◌^◌, ◌<◌, ◌≤◌, ℤ, pos, ◌+ℤ◌, Bool, true, false, List, [], length, refl, ap, sym, subst, ◌∙◌, arith}
use Rattle.std.proofs.lemmas.Int.{ints}
use Rattle.std.proofs.lemmas.Nat.{pow_pos}
use Rattle.std.proofs.lemmas.Bool.{cases_lt, eq-eqb, false≢true, ne_eqb}
use Rattle.std.proofs.lemmas.List.{get_or-map, nil_from_length}
use Rattle.f2_vec.specs.Vectors.{bit, plus, sum_of, zeros}
use Rattle.f2_vec.specs.Spans.{unit_vector}
use Rattle.f2_vec.proofs.Sums.{bit-sum_of, length-sum_of, same_from_plus, sum_of-self}
use Rattle.f2_vec.proofs.Split.{bit-unit_vector, length-unit_vector}
use Rattle.f2_vec.proofs.Combinations.{combination-unit_vector}
use Rattle.milnor_basis.specs.Exponents.{degree_of}
use Rattle.milnor_laws.proofs.FreeModules.{free_modules_are_modules}
use Rattle.free_module.specs.FreeModule.{free_basis, free_width}
use Rattle.free_module.specs.FreeBasis.{element}
use Rattle.free_module.specs.Graded.{free_graded}
use Rattle.free_module.specs.LinearMap.{image_of}
use Rattle.free_module.proofs.FreeBasis.{free_basis_is_pairs}
use Rattle.resolution_laws.specs.Resolution.{row_of, images_of}
use Rattle.resolution_laws.specs.Exactness.{CanonicalTableIsMinimalResolution, differential}
use Rattle.resolution_laws.proofs.Complex.{HaveWidth-differential, length-differential}
use Rattle.resolution_laws.proofs.Generators.{element-IsOfDegree}
use Rattle.resolution_laws.proofs.Squares.{AreImages-all}
use Rattle.lift_laws.specs.Lifts.{Resolution, gens, degree, free, image, d, IsSphere}
use Rattle.lift_laws.specs.Products.{first_of, count_of, old_width}
use Rattle.lift_laws.proofs.Coefficients.{is_new, element-new}
use Rattle.lift_laws.proofs.Linear.{map-sum}
use Rattle.lift_laws.proofs.Facts.{HasNoBare, IsMap-d, image-HasNoBare, kernel-HasNoBare, preimage}
use Rattle.lift_laws.proofs.Resolved.{IsResolved, is_resolved, table_of}
use Rattle.bracket_laws.proofs.Vectors.{in_square}
use Rattle.h_laws.specs.Products.{HasSquare, RowOneHasSquares, RowOneIsPowers}
use Rattle.h_laws.proofs.Squares.{power}
use Rattle.h_laws.proofs.Sphere.{IsSquarePlace, basis_lowest, lowest, square_place, only_first, same_parts, d_bare, square_bit, u}
use Rattle.h_laws.proofs.Decomposable.{IsPlain, all_plain, is_plain, plain-units}

module _ (q : Resolution) (qs qt : ℕ) (o : IsResolved q qs qt) (sphere : IsSphere q) (rows : 1 ≤ qs) (k : ℕ) (reach : k ≤ qt) where
  abbrev t : ℤ
  t = q.base.bottom +ℤ pos k

  abbrev n : ℕ
  n = free_width (gens q 0) t

  abbrev m : ℕ
  m = free_width (gens q 1) t

  length-d : (w : List Bool) → length w ≡ m → length (d q 1 t w) ≡ n
  length-d w e = (IsMap-d q qs qt o 1 t rows).fits t w (omega (arith, ints)) e

  -- what d_1 takes to where it takes a vector that has no generator without an operation has none either
  no_bare : (w : List Bool) → length w ≡ m → IsPlain q qs qt o sphere rows t (d q 1 t w) → HasNoBare (gens q 1) t w
  no_bare w e x =
      let image = d q 1 t w in
      let fits = e ∙ sym x.fits in
      let sum = sum_of w x.vector in
      let nothing : d q 1 t sum ≡ zeros n =
      map-sum t (free q 1) (free q 0) (d q 1) (IsMap-d q qs qt o 1 t rows) t w x.vector (omega (arith, ints)) e x.fits ∙ (ap (sum_of image) x.gives ∙ sum_of-self n image (length-d w e)) in
      let none = kernel-HasNoBare q qs qt o 1 t sum rows (omega (arith, ints)) (length-sum_of w x.vector fits ∙ e) nothing in
      λ j l bare. same_from_plus (bit w j) (bit x.vector j) (sym (bit-sum_of w x.vector j fits) ∙ none j l bare) ∙ x.bare j l bare

  there : k < length (row_of q.table 1)
  there = let all = o.canonical.squares 1 rows in omega arith

  abbrev first : ℕ
  first = first_of q 1 k

  abbrev old : ℕ
  old = old_width q 1 k

  -- the image of generator i of the square has as many coordinates as row 0
  image_width : (i : ℕ) → i < count_of q 1 k → length (image q 1 (first + i)) ≡ free_width (gens q 0) (degree q 1 (first + i))
  image_width i l = (AreImages-all q.base qs qt q.table o.canonical 1 rows).widths (first + i) (is_new q 1 k there i l).generator

  -- the generator, as a vector: d_1 takes it to its image
  d_unit : (i : ℕ) → i < count_of q 1 k → d q 1 t (unit_vector m (old + i)) ≡ image q 1 (first + i)
  d_unit i l =
      let new = is_new q 1 k there i l in
      let f = image_of (free_graded (gens q 0)) (gens q 1) (images_of (row_of q.table 1)) in
      combination-unit_vector n m (old + i) (differential q.base q.table 1 t) (HaveWidth-differential q.base qs qt q.table (table_of q qs qt o) 1 t rows) (length-differential q.base q.table 1 t) new.place
      ∙ (get_or-map f (free_basis (gens q 1) t) (old + i) (0, []) [] new.place
      ∙ (ap f (element-new q 1 k there i l) ∙ (free_modules_are_modules (gens q 0)).unit (degree q 1 (first + i)) (image q 1 (first + i)) (image_width i l)))

  bit-unit : (i : ℕ) → i < count_of q 1 k → bit (unit_vector m (old + i)) (old + i) ≡ true
  bit-unit i l = bit-unit_vector m (old + i) (old + i) (is_new q 1 k there i l).place ∙ eq-eqb (old + i) (old + i) refl

  -- so the image of a generator is no such vector
  not_plain : (i : ℕ) → i < count_of q 1 k → IsPlain q qs qt o sphere rows t (image q 1 (first + i)) → ⊥
  not_plain i l x =
      let new = is_new q 1 k there i l in
      let none = no_bare (unit_vector m (old + i)) (length-unit_vector m (old + i)) (subst (IsPlain q qs qt o sphere rows t) (sym (d_unit i l)) x) in
      false≢true (sym (none (old + i) new.place new.bare) ∙ bit-unit i l)

module _ (q : Resolution) (qs qt : ℕ) (o : IsResolved q qs qt) (sphere : IsSphere q) (v : ℕ) (rows : 1 ≤ qs) (reach : 2 ^ v ≤ qt)
    (p : ℕ) (at : IsSquarePlace q qs qt o sphere v p) where
  abbrev t_v : ℤ
  t_v = u q qs qt o sphere v

  abbrev n_v : ℕ
  n_v = free_width (gens q 0) t_v

  abbrev m_v : ℕ
  m_v = free_width (gens q 1) t_v

  abbrev first_v : ℕ
  first_v = first_of q 1 (2 ^ v)

  abbrev old_v : ℕ
  old_v = old_width q 1 (2 ^ v)

  there_v : 2 ^ v < length (row_of q.table 1)
  there_v = there q qs qt o sphere rows (2 ^ v) reach

  length-d_v : (w : List Bool) → length w ≡ m_v → length (d q 1 t_v w) ≡ n_v
  length-d_v = length-d q qs qt o sphere rows (2 ^ v) reach

  -- a vector without Sq(2^v) is plain
  without : (w : List Bool) → length w ≡ n_v → bit w p ≡ false → IsPlain q qs qt o sphere rows t_v w
  without w len off =
      is_plain q qs qt o sphere rows v reach w len (λ j l y.
      let is = element-IsOfDegree (gens q 0) t_v j l in
      let same : p ≡ j = (free_basis_is_pairs (gens q 0) t_v).once p j at.place l (at.square ∙ sym (same_parts (element (free_basis (gens q 0) t_v) j) (0, power v) (only_first q qs qt o sphere (element (free_basis (gens q 0) t_v) j).0 is.generator) y)) in
      ap (bit w) (sym same) ∙ off)

  -- what d_1 takes to such a vector has no generator without an operation
  no_bare_v : (w : List Bool) → length w ≡ m_v → bit (d q 1 t_v w) p ≡ false → HasNoBare (gens q 1) t_v w
  no_bare_v w e off = no_bare q qs qt o sphere rows (2 ^ v) reach w e (without (d q 1 t_v w) (length-d_v w e) off)

  d_unit_v : (i : ℕ) → i < count_of q 1 (2 ^ v) → d q 1 t_v (unit_vector m_v (old_v + i)) ≡ image q 1 (first_v + i)
  d_unit_v = d_unit q qs qt o sphere rows (2 ^ v) reach

  -- each image has Sq(2^v)
  has_square : (i : ℕ) → i < count_of q 1 (2 ^ v) → bit (image q 1 (first_v + i)) p ≡ true
  has_square i l = by (bit (image q 1 (first_v + i)) p) refl
    where
      by : (b : Bool) → bit (image q 1 (first_v + i)) p ≡ b → bit (image q 1 (first_v + i)) p ≡ true
      by true e = e
      by false e =
          let len : length (image q 1 (first_v + i)) ≡ n_v = sym (ap length (d_unit_v i l)) ∙ length-d_v (unit_vector m_v (old_v + i)) (length-unit_vector m_v (old_v + i)) in
          absurd (not_plain q qs qt o sphere rows (2 ^ v) reach i l (without (image q 1 (first_v + i)) len e))

  -- so two of them would have a sum without it
  at_most_one : count_of q 1 (2 ^ v) ≤ 1
  at_most_one = elim (cases_lt 1 (count_of q 1 (2 ^ v))) [
    | inr l ↦ l
    | inl l ↦
        let some : 0 < count_of q 1 (2 ^ v) = omega arith in
        let a = unit_vector m_v (old_v + 0) in
        let b = unit_vector m_v (old_v + 1) in
        let la = length-unit_vector m_v (old_v + 0) in
        let lb = length-unit_vector m_v (old_v + 1) in
        let same = la ∙ sym lb in
        let new = is_new q 1 (2 ^ v) there_v 0 some in
        let ones : bit (d q 1 t_v (sum_of a b)) p ≡ false =
        ap (λ (z : List Bool). bit z p) (map-sum t_v (free q 1) (free q 0) (d q 1) (IsMap-d q qs qt o 1 t_v rows) t_v a b (omega (arith, ints)) la lb)
        ∙ (bit-sum_of (d q 1 t_v a) (d q 1 t_v b) p (length-d_v a la ∙ sym (length-d_v b lb))
        ∙ (ap (λ (z : Bool). plus z (bit (d q 1 t_v b) p)) (ap (λ (z : List Bool). bit z p) (d_unit_v 0 some) ∙ has_square 0 some)
        ∙ ap (plus true) (ap (λ (z : List Bool). bit z p) (d_unit_v 1 l) ∙ has_square 1 l))) in
        let none = no_bare_v (sum_of a b) (length-sum_of a b same ∙ la) ones in
        let other : bit b (old_v + 0) ≡ false = bit-unit_vector m_v (old_v + 1) (old_v + 0) (is_new q 1 (2 ^ v) there_v 1 l).place ∙ ne_eqb (old_v + 0) (old_v + 1) (λ e. omega arith) in
        let both : bit (sum_of a b) (old_v + 0) ≡ true = bit-sum_of a b (old_v + 0) same ∙ (ap (λ (z : Bool). plus z (bit b (old_v + 0))) (bit-unit q qs qt o sphere rows (2 ^ v) reach 0 some) ∙ ap (plus true) other) in
        absurd (false≢true (sym (none (old_v + 0) new.place new.bare) ∙ both))
  ]

  at_least_one : 0 < count_of q 1 (2 ^ v)
  at_least_one = elim (cases_lt 0 (count_of q 1 (2 ^ v))) [
    | inl l ↦ l
    | inr l ↦
        let b = sphere.bottom in
        let power_above = pow_pos v in
        let w = unit_vector n_v p in
        let len = length-unit_vector n_v p in
        let none : q.base.graded.width t_v ≡ 0 = sphere.none t_v (λ e. let z : 2 ^ v ≡ 0 = omega (arith, ints) in omega arith) in
        let nothing : d q 0 t_v w ≡ zeros (q.base.graded.width t_v) = nil_from_length (d q 0 t_v w) ((IsMap-d q qs qt o 0 t_v (omega arith)).fits t_v w (omega (arith, ints)) len ∙ none) ∙ sym (ap zeros none) in
        let y = preimage q qs qt o 0 t_v w rows (omega (arith, ints)) len nothing in
        let off : bit (d q 1 t_v y.vector) p ≡ false = d_bare q qs qt o sphere v p at rows y.vector (λ j k bare.
        let is = element-IsOfDegree (gens q 1) t_v j k in
        let deg = is.degree in
        let e = element (free_basis (gens q 1) t_v) j in
        let empty = ap degree_of bare in
        let x = in_square q 1 (2 ^ v) there_v e.0 is.generator (omega (arith, ints)) in
        let within = x.1 in
        absurd (omega arith)) in
        let on : bit w p ≡ true = bit-unit_vector n_v p p at.place ∙ eq-eqb p p refl in
        absurd (false≢true (sym off ∙ (ap (λ (z : List Bool). bit z p) y.gives ∙ on)))
  ]

  pub row_one : HasSquare q v
  row_one =
      let some = at_least_one in
      let most = at_most_one in
      let one : count_of q 1 (2 ^ v) ≡ 1 = omega arith in
      let z : first_v + 0 ≡ first_v = omega arith in
      record { one = one; square = square_bit q qs qt o sphere v p at rows reach one ∙ (ap (λ (g : ℕ). bit (image q 1 g) p) (sym z) ∙ has_square 0 some) }

pub row_one_has_squares : CanonicalTableIsMinimalResolution → RowOneHasSquares
row_one_has_squares law q qs qt v canonical sphere rows reach =
    let o = is_resolved law q qs qt canonical in
    let at = square_place q qs qt o sphere v in
    row_one q qs qt o sphere v rows reach at.0 at.1

-- ---- the other degrees

-- in degree 0 the image of a generator has no coordinate but those of generators without an operation, which it has not
zero_plain : (q : Resolution) (qs qt : ℕ) (o : IsResolved q qs qt) (sphere : IsSphere q) (rows : 1 ≤ qs) (w : List Bool) → length w ≡ free_width (gens q 0) (lowest q qs qt o sphere) → HasNoBare (gens q 0) (lowest q qs qt o sphere) w → IsPlain q qs qt o sphere rows (lowest q qs qt o sphere) w
zero_plain q qs qt o sphere rows w len none =
    let t = lowest q qs qt o sphere in
    plain-units q qs qt o sphere rows t w len (λ j l b. absurd (false≢true (sym (none j l (ap (λ (z : ℕ × List ℕ). z.1) (basis_lowest q qs qt o sphere j l))) ∙ b)))

pub row_one_is_powers : CanonicalTableIsMinimalResolution → RowOneIsPowers
row_one_is_powers law q qs qt n canonical sphere rows reach other = elim (cases_lt 0 (count_of q 1 n)) [
  | inr none ↦ omega arith
  | inl some ↦
      let o = is_resolved law q qs qt canonical in
      let new = is_new q 1 n (there q qs qt o sphere rows n reach) 0 some in
      let w = image q 1 (first_of q 1 n + 0) in
      let t : ℤ = q.base.bottom +ℤ pos n in
      let len : length w ≡ free_width (gens q 0) t = image_width q qs qt o sphere rows n reach 0 some ∙ ap (free_width (gens q 0)) new.degree_is in
      let bare : HasNoBare (gens q 0) t w = subst (λ (z : ℤ). HasNoBare (gens q 0) z w) new.degree_is (image-HasNoBare q qs qt o 0 (first_of q 1 n + 0) rows new.generator) in
      let plain : IsPlain q qs qt o sphere rows t w = elim (cases_lt 0 n) [
        | inl above ↦ all_plain q qs qt o sphere rows n above reach other w len
        | inr least ↦
            let none : 0 ≡ n = omega arith in
            let same : lowest q qs qt o sphere ≡ t = ap (λ (z : ℕ). q.base.bottom +ℤ pos z) none in
            subst (λ (z : ℤ). IsPlain q qs qt o sphere rows z w) same (zero_plain q qs qt o sphere rows w (len ∙ ap (free_width (gens q 0)) (sym same)) (subst (λ (z : ℤ). HasNoBare (gens q 0) z w) (sym same) bare))
      ] in
      absurd (not_plain q qs qt o sphere rows n reach 0 some plain)
]
