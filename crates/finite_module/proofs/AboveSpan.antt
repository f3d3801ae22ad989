-- The generators of one degree, and that none lies above the span.
use Rattle.std.proofs.Common.{◌≡◌, ℕ, zero, suc, ◌<◌, ℤ, pos, negsuc, nat_abs, ◌+ℤ◌, ◌-ℤ◌, ◌≤ℤ◌, ◌<ℤ◌, Bool, true, false, cond, List, [], ◌∷◌, length, All, refl, ap, arith}
use Rattle.std.specs.Ordering.{int_eq}
use Rattle.std.specs.Cmp.{signed_Decides}
use Rattle.std.proofs.lemmas.List.Elements.{All-head, All-tail, All-from_get_or}
use Rattle.std.proofs.lemmas.Int.{ints}
use Rattle.module_spec.specs.Spec.{Generator, no_generator, degree_at}
use Rattle.finite_module.specs.Module.{numbers_from, generators_in, width, bottom}
use Rattle.finite_module.specs.DerivedAction.{top, span}
use Rattle.module_spec.specs.WellFormed.{NeverFall}
use Rattle.finite_module.proofs.Degrees.{NeverFall-tail}
use Rattle.finite_module.proofs.Values.{degree_in}

pub generators_of_degree : (gs : List Generator) (t : ℤ) → All (λ j. degree_at gs j ≡ t) (generators_in gs t)
generators_of_degree gs t = All-from_get_or (λ j. degree_at gs j ≡ t) (generators_in gs t) 0 (λ k l. degree_in gs t k l)

none_more : (t : ℤ) (g : Generator) (k : ℕ) (ns : List ℕ) (b : Bool) → int_eq g.degree t ≡ b → g.degree <ℤ t → ns ≡ [] → cond b (k ∷ ns) ns ≡ []
none_more t g k ns true same below rest = let equal : g.degree ≡ t = (signed_Decides g.degree t).0 same in absurd (omega (arith, ints))
none_more t g k ns false other below rest = rest

numbers_none : (gs : List Generator) (k : ℕ) (t : ℤ) → All (λ g. g.degree <ℤ t) gs → numbers_from k gs t ≡ []
numbers_none [] k t h = refl
numbers_none (g ∷ gs) k t h =
    none_more t g k (numbers_from (suc k) gs t) (int_eq g.degree t) refl (All-head (λ (h : Generator). h.degree <ℤ t) g gs h) (numbers_none gs (suc k) t (All-tail (λ (h : Generator). h.degree <ℤ t) g gs h))

-- a degree above those of all generators
pub width_above : (gs : List Generator) (t : ℤ) → All (λ g. g.degree <ℤ t) gs → width gs t ≡ 0
width_above gs t h = ap length (numbers_none gs 0 t h)

bottom-le : (gs : List Generator) (i : ℕ) → NeverFall gs → i < length gs → bottom gs ≤ℤ degree_at gs i
bottom-le [] i h l = absurd (omega arith)
bottom-le (g ∷ gs) zero h l = omega (arith, ints)
bottom-le (g ∷ gs) (suc i) h l = h zero (suc i) no_generator (omega arith) l

le-top : (gs : List Generator) (i : ℕ) → NeverFall gs → i < length gs → degree_at gs i ≤ℤ top gs
le-top [] i h l = absurd (omega arith)
le-top (g ∷ []) zero h l = omega (arith, ints)
le-top (g ∷ []) (suc i) h l = absurd (omega arith)
le-top (g ∷ h ∷ gs) zero o l =
    let first : g.degree ≤ℤ h.degree = o zero 1 no_generator (omega arith) (omega arith) in
    let rest : h.degree ≤ℤ top (h ∷ gs) = le-top (h ∷ gs) zero (NeverFall-tail g (h ∷ gs) o) (omega arith) in
    omega (arith, ints)
le-top (g ∷ h ∷ gs) (suc i) o l = le-top (h ∷ gs) i (NeverFall-tail g (h ∷ gs) o) (omega arith)

le-nat_abs : (z : ℤ) → z ≤ℤ pos (nat_abs z)
le-nat_abs (pos n) = omega (arith, ints)
le-nat_abs (negsuc n) = omega (arith, ints)

-- nothing lies further above a generator than the degrees are apart
pub width_above_span : (gs : List Generator) (i n : ℕ) → NeverFall gs → i < length gs → span gs < n → width gs (degree_at gs i +ℤ pos n) ≡ 0
width_above_span gs i n h l far =
    let low : bottom gs ≤ℤ degree_at gs i = bottom-le gs i h l in
    let apart : (top gs -ℤ bottom gs) ≤ℤ pos (span gs) = le-nat_abs (top gs -ℤ bottom gs) in
    width_above gs (degree_at gs i +ℤ pos n) (All-from_get_or (λ g. g.degree <ℤ (degree_at gs i +ℤ pos n)) gs no_generator
    (λ j k. let high : degree_at gs j ≤ℤ top gs = le-top gs j h k in omega (arith, ints)))
