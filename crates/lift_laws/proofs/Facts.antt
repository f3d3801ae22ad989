-- What lifts use of a canonical resolution: its maps, preimages, and minimality by coordinates.
use Rattle.std.proofs.Common.{◌≡◌, ℕ, suc, ◌<◌, ◌≤◌, ℤ, pos, negsuc, ◌+ℤ◌, ◌-ℤ◌, ◌<ℤ◌, ◌≤ℤ◌, Bool, false, List, [], length, refl, ap, sym, subst, ◌∙◌, arith}
use Rattle.std.proofs.lemmas.Int.{ints}
use Rattle.std.proofs.lemmas.List.{nil_from_length}
use Rattle.f2_vec.specs.Vectors.{bit, zeros}
use Rattle.f2_vec.specs.Spans.{row, IsInSpan, IsInKernel}
use Rattle.f2_vec.proofs.Sums.{length-zeros}
use Rattle.free_module.specs.FreeModule.{free_basis, free_width}
use Rattle.free_module.specs.FreeBasis.{element}
use Rattle.milnor_laws.proofs.FreeModules.{free_modules_are_modules}
use Rattle.resolution_laws.specs.Resolution.{square_in, row_of}
use Rattle.resolution_laws.specs.Exactness.{target_of, differential}
use Rattle.resolution_laws.proofs.Rows.{free_basis_from-above}
use Rattle.resolution_laws.proofs.Generators.{generator_at}
use Rattle.resolution_laws.proofs.Squares.{target_is_module, AreImages-all}
use Rattle.resolution_laws.proofs.Complex.{length-differential}
use Rattle.lift_laws.specs.Maps.{shifted, IsMap, FitThrough}
use Rattle.lift_laws.specs.Lifts.{Resolution, gens, degree, free, image, d}
use Rattle.lift_laws.proofs.Linear.{IsMap-shifted, IsMap-extended}
use Rattle.lift_laws.proofs.Resolved.{IsResolved}

-- v, of degree t, has a 0 at each generator without an operation
abbrev pub HasNoBare : List ℤ → ℤ → List Bool → Type 0
HasNoBare ds t v = (j : ℕ) → j < length (free_basis ds t) → (element (free_basis ds t) j).1 ≡ [] → bit v j ≡ false

-- a vector of F_(k+1) that d takes to v
pub record HasPreimage (q : Resolution) (k : ℕ) (t : ℤ) (v : List Bool) : Type 0 where
  pub vector : List Bool
  pub fits : length vector ≡ free_width (gens q (suc k)) t
  pub gives : d q (suc k) t vector ≡ v

-- nothing is below the bottom
pub free_width-below : (q : Resolution) (k : ℕ) (t : ℤ) → t <ℤ q.base.bottom → free_width (gens q k) t ≡ 0
free_width-below q k t h = ap length (free_basis_from-above 0 q.base.bottom (row_of q.table k) t h)

-- the degree above the bottom, or that the degree is below it
pub data IsPlaced (b t : ℤ) : Type 0 where
  below : t <ℤ b → IsPlaced b t
  above : (k : ℕ) → t ≡ b +ℤ pos k → IsPlaced b t

placed_by : (b z : ℤ) → IsPlaced b (b +ℤ z)
placed_by b (pos n) = above n refl
placed_by b (negsuc n) = below (omega (arith, ints))

pub placed : (b t : ℤ) → IsPlaced b t
placed b t = let e : b +ℤ (t -ℤ b) ≡ t = omega (arith, ints) in subst (IsPlaced b) e (placed_by b (t -ℤ b))

module _ (q : Resolution) (s t : ℕ) (p : IsResolved q s t) where
  pub fit-image : (k : ℕ) (top : ℤ) → k ≤ s → FitThrough (target_of q.base q.table k) (gens q k) top (image q k)
  fit-image k top h = λ g l b. (AreImages-all q.base s t q.table p.canonical k h).widths g l

  pub IsMap-d : (k : ℕ) (top : ℤ) → k ≤ s → IsMap top (free q k) (target_of q.base q.table k) (d q k)
  IsMap-d k top h = IsMap-extended (target_of q.base q.table k) (target_is_module free_modules_are_modules q.base q.table k p.steenrod) (gens q k) top (image q k) (fit-image k top h)

  pub IsMap-d_shifted : (x : ℤ) (k : ℕ) (top : ℤ) → k ≤ s → IsMap top (shifted x (free q k)) (shifted x (target_of q.base q.table k)) (λ t. d q k (t -ℤ x))
  IsMap-d_shifted x k top h = IsMap-shifted x (top -ℤ x) top (free q k) (target_of q.base q.table k) (d q k) (omega (arith, ints)) (IsMap-d k (top -ℤ x) h)

  -- what d takes to zero it takes something to
  pub preimage : (k : ℕ) (u : ℤ) (v : List Bool) → suc k ≤ s → u ≤ℤ (q.base.bottom +ℤ pos t) → length v ≡ free_width (gens q k) u → d q k u v ≡ zeros ((target_of q.base q.table k).width u) → HasPreimage q k u v
  preimage k u v h l e z = elim (placed q.base.bottom u) [
    | below b ↦
        let a = free_width-below q k u b in
        let w = free_width (gens q (suc k)) u in
        record { vector = zeros w; fits = length-zeros w; gives = nil_from_length (d q (suc k) u (zeros w)) ((IsMap-d (suc k) u h).fits u (zeros w) (omega (arith, ints)) (length-zeros w) ∙ a) ∙ sym (nil_from_length v (e ∙ a)) }
    | above n at ↦
        let exact = subst (λ (x : ℤ). (v : List Bool) → IsInKernel ((target_of q.base q.table k).width x) (differential q.base q.table k x) v → IsInSpan (free_width (gens q k) x) (differential q.base q.table (suc k) x) v) (sym at) (λ v c. (p.minimal.exact (suc k) n h (omega (arith, ints)) v).0 c) in
        let x = exact v (record { one_each = e ∙ sym (length-differential q.base q.table k u); vanishes = z }) in
        record { vector = x.coefficients; fits = x.one_each ∙ length-differential q.base q.table (suc k) u; gives = x.sum }
  ]

  -- the images of generators have no generator without an operation
  pub image-HasNoBare : (k g : ℕ) → suc k ≤ s → g < length (gens q (suc k)) → HasNoBare (gens q k) (degree q (suc k) g) (image q (suc k) g)
  image-HasNoBare k g h l =
      let squares = row_of q.table (suc k) in
      let at = generator_at q.base.bottom squares g l in
      let n = p.canonical.squares (suc k) h in
      let b = at.square in
      let here : HasNoBare (gens q k) (q.base.bottom +ℤ pos at.k) (row (square_in squares at.k).images at.h) = λ j c bare. p.minimal.minimal (suc k) at.k h (omega arith) at.h j at.within c bare in
      let P : List Bool → Type 0 = HasNoBare (gens q k) (q.base.bottom +ℤ pos at.k) in
      let Q : ℤ → Type 0 = λ u. HasNoBare (gens q k) u (image q (suc k) g) in
      subst Q (sym at.degree) (subst P (sym at.image) here)

  -- nor has what d takes to zero
  pub kernel-HasNoBare : (k : ℕ) (u : ℤ) (v : List Bool) → k ≤ s → u ≤ℤ (q.base.bottom +ℤ pos t) → length v ≡ free_width (gens q k) u → d q k u v ≡ zeros ((target_of q.base q.table k).width u) → HasNoBare (gens q k) u v
  kernel-HasNoBare k u v h l e z = elim (placed q.base.bottom u) [
    | below b ↦ λ j c bare. let a = free_width-below q k u b in absurd (omega arith)
    | above n at ↦
        let P : ℤ → Type 0 = λ x. length v ≡ free_width (gens q k) x in
        let Q : ℤ → Type 0 = λ x. d q k x v ≡ zeros ((target_of q.base q.table k).width x) in
        let R : ℤ → Type 0 = λ x. HasNoBare (gens q k) x v in
        subst R (sym at) (p.minimal.needed k n h (omega (arith, ints)) v (record { one_each = subst P at e ∙ sym (length-differential q.base q.table k (q.base.bottom +ℤ pos n)); vanishes = subst Q at z }))
  ]
