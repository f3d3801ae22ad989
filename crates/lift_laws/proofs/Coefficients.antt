-- The generators of a square stand last in the basis of its degree; what maps and sums do to the coefficients there.
use Rattle.std.proofs.Common.{◌≡◌, ℕ, zero, suc, ◌+◌, ◌<◌, ℤ, pos, ◌+ℤ◌, ◌-ℤ◌, Bool, true, false, if◌then◌else◌, List, [], ◌∷◌, ◌++◌, length, map, take, replicate, refl, ap, subst, ◌∙◌, arith}
use Rattle.std.specs.List.{range_with_len}
use Rattle.std.proofs.lemmas.Int.{ints}
use Rattle.std.proofs.lemmas.List.FromFn.{length-map-range_with_len, get_or-map-range_with_len}
use Rattle.std.proofs.lemmas.List.{get_or-append-add, length-append, length-take-le, take_more}
use Rattle.f2_vec.specs.Vectors.{bit, zeros}
use Rattle.f2_vec.proofs.Sums.{bit-zeros}
use Rattle.milnor_product.specs.Times.{basis_at}
use Rattle.free_module.specs.FreeModule.{free_basis_from, free_basis, free_width}
use Rattle.free_module.specs.FreeBasis.{element, IsOfDegree}
use Rattle.free_module.proofs.FreeBasis.{free_basis_from-append}
use Rattle.resolution_laws.specs.Resolution.{no_content, square_in, degrees_from, row_of}
use Rattle.resolution_laws.proofs.Rows.{degrees_from-push, free_basis-take}
use Rattle.resolution_laws.proofs.Generators.{element-IsOfDegree, length-images_of}
use Rattle.lift_laws.specs.Lifts.{Resolution, gens, degree}
use Rattle.lift_laws.specs.Products.{first_of, count_of, old_width}

-- ---- the coordinate of a dual cochain at a generator

pub bit-dual : (c : Bool) (k : ℕ) → bit (if c then true ∷ [] else zeros k) 0 ≡ c
bit-dual true k = refl
bit-dual false k = bit-zeros k 0

-- ---- numbers in order

pub map_range : {A : Type 0} (f h : ℕ → A) (a n : ℕ) → ((i : ℕ) → i < n → f (a + i) ≡ h (a + i)) → map f (range_with_len a n) ≡ map h (range_with_len a n)
map_range f h a zero same = refl
map_range f h a (suc n) same =
    let e : a + 0 ≡ a = omega arith in
    let one : f a ≡ h a = subst (λ (z : ℕ). f z ≡ h z) e (same 0 (omega arith)) in
    let rest : map f (range_with_len (a + 1) n) ≡ map h (range_with_len (a + 1) n) = map_range f h (a + 1) n (λ i l. let g : a + suc i ≡ (a + 1) + i = omega arith in subst (λ (z : ℕ). f z ≡ h z) g (same (suc i) (omega arith))) in
    cc (one, rest)

minus_self : (t : ℤ) → t -ℤ t ≡ pos 0
minus_self t = omega (arith, ints)

-- ---- the generators of a square in the basis of its degree

-- generators of degree u have in it Sq() alone
newest : (u : ℤ) (g a n : ℕ) → free_basis_from (g + a) (replicate n u) u ≡ map (λ i. (g + i, [])) (range_with_len a n)
newest u g a zero = refl
newest u g a (suc n) =
    let one : basis_at (u -ℤ u) ≡ [] ∷ [] = ap basis_at (minus_self u) in
    let e : suc (g + a) ≡ g + (a + 1) = omega arith in
    let pair : List ℕ → ℕ × List ℕ = λ r. (g + a, r) in
    let first : ℕ × List ℕ = (g + a, []) in
    ap (λ (rs : List (List ℕ)). map pair rs ++ free_basis_from (suc (g + a)) (replicate n u) u) one
    ∙ ap (λ (z : List (ℕ × List ℕ)). first ∷ z) (ap (λ (k : ℕ). free_basis_from k (replicate n u) u) e ∙ newest u g (a + 1) n)

module _ (q : Resolution) (k n : ℕ) (there : n < length (row_of q.table k)) where
  abbrev u : ℤ
  u = q.base.bottom +ℤ pos n

  abbrev pub earlier : List ℤ
  earlier = degrees_from q.base.bottom (take n (row_of q.table k))

  abbrev pub new : List (ℕ × List ℕ)
  new = map (λ i. (first_of q k n + i, [])) (range_with_len 0 (count_of q k n))

  pub basis-parts : free_basis (gens q k) u ≡ free_basis earlier u ++ new
  basis-parts =
      let b = q.base.bottom in
      let squares = row_of q.table k in
      let c = square_in squares n in
      let before = take n squares in
      let len : length before ≡ n = length-take-le n squares (omega arith) in
      let through : take (n + 1) squares ≡ before ++ c ∷ [] = take_more squares n no_content there in
      let degrees : degrees_from b (take (n + 1) squares) ≡ earlier ++ replicate (length c.images) u =
      ap (degrees_from b) through ∙ (degrees_from-push b before c ∙ ap (λ (j : ℕ). earlier ++ replicate (length c.images) (b +ℤ pos j)) len) in
      let start : 0 + length earlier ≡ first_of q k n + 0 = omega (arith, length-images_of b before) in
      free_basis-take b squares (n + 1) u (omega (arith, ints))
      ∙ (ap (λ (ds : List ℤ). free_basis ds u) degrees
      ∙ (free_basis_from-append 0 earlier (replicate (length c.images) u) u
      ∙ ap (λ (z : List (ℕ × List ℕ)). free_basis earlier u ++ z) (ap (λ (g : ℕ). free_basis_from g (replicate (length c.images) u) u) start ∙ newest u (first_of q k n) 0 (length c.images))))

  length-new : length new ≡ count_of q k n
  length-new = length-map-range_with_len (λ (i : ℕ). let e : ℕ × List ℕ = (first_of q k n + i, []) in e) 0 (count_of q k n)

  pub width-parts : free_width (gens q k) u ≡ old_width q k n + count_of q k n
  width-parts = ap length basis-parts ∙ (length-append (free_basis earlier u) new ∙ ap (λ z. old_width q k n + z) length-new)

  pub element-new : (i : ℕ) → i < count_of q k n → element (free_basis (gens q k) u) (old_width q k n + i) ≡ (first_of q k n + i, [])
  element-new i l =
      ap (λ (z : List (ℕ × List ℕ)). element z (old_width q k n + i)) basis-parts
      ∙ (get_or-append-add (free_basis earlier u) new i (0, []) ∙ get_or-map-range_with_len (λ (i : ℕ). let e : ℕ × List ℕ = (first_of q k n + i, []) in e) 0 (count_of q k n) i i (0, []) l (omega arith))

  -- generator i of the square
  pub record IsNew (i : ℕ) : Type 0 where
    pub place : old_width q k n + i < free_width (gens q k) u
    pub bare : (element (free_basis (gens q k) u) (old_width q k n + i)).1 ≡ []
    pub generator : first_of q k n + i < length (gens q k)
    pub degree_is : degree q k (first_of q k n + i) ≡ u

  pub is_new : (i : ℕ) → i < count_of q k n → IsNew i
  is_new i l =
      let e = element-new i l in
      let w : old_width q k n + i < free_width (gens q k) u = omega (arith, width-parts) in
      let o = element-IsOfDegree (gens q k) u (old_width q k n + i) w in
      let p : IsOfDegree (gens q k) u (first_of q k n + i, []) = subst (IsOfDegree (gens q k) u) e o in
      let deg = p.degree in
      record { place = w; bare = ap (λ (z : ℕ × List ℕ). z.1) e; generator = p.generator; degree_is = omega (arith, ints) }
