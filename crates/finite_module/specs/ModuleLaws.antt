-- Lemmas on a module's action on vectors: Sq() acts as the identity, and Sq(R) raises degrees by its own. What a module is as
-- a target of linear maps stands on them.
use Rattle.std.proofs.Common.{◌≡◌, ◌≢◌, ℕ, zero, suc, ◌+◌, ◌<◌, Bool, true, false, cond, List, [], ◌∷◌, length, map, take, get_or, ℤ, pos, ◌+ℤ◌, ◌≤ℤ◌, ◌<ℤ◌, refl, ap, sym, ◌∙◌, inl, inr, arith}
use Rattle.std.specs.Ordering.{int_eq}
use Rattle.std.proofs.lemmas.List.{length-map, ext_get_or, get_or-map}
use Rattle.std.proofs.lemmas.Bool.{cases_eq}
use Rattle.std.proofs.lemmas.Bool.Decides.{Decides-int_eq}
use Rattle.std.proofs.lemmas.Int.{ints}
use Rattle.f2_vec.specs.Spans.{HaveWidth, combination, unit_vector, unit_vectors}
use Rattle.f2_vec.proofs.Spans.{length-combination}
use Rattle.f2_vec.proofs.Split.{row-unit_vectors, length-unit_vectors, combination-unit_vectors}
use Rattle.milnor_basis.specs.Exponents.{degree_of}
use Rattle.free_module.specs.Graded.{HasUnit, KeepsWidths}
use Rattle.module_spec.specs.Spec.{Generator, no_generator, degree_at}
use Rattle.finite_module.specs.Module.{Module, numbers_from, generators_in, width, unit, act_on, bottom}
use Rattle.finite_module.specs.Axioms.{IsModule, value_of}
use Rattle.finite_module.specs.Graded.{module_graded}
use Rattle.module_spec.specs.WellFormed.{AreByDegree}

-- n is the p-th number of a generator of degree t, counted from i on
pub record IsNumberFrom (i : ℕ) (gs : List Generator) (t : ℤ) (p n : ℕ) : Type 0 where
  pub place : ℕ
  pub within : place < length gs
  pub number : n ≡ i + place
  pub degree : degree_at gs place ≡ t
  pub before : length (numbers_from i (take place gs) t) ≡ p

one_later : (i : ℕ) (g : Generator) (gs : List Generator) (t : ℤ) (b : Bool) (p n : ℕ) → int_eq g.degree t ≡ b →
    IsNumberFrom (suc i) gs t p n → IsNumberFrom i (g ∷ gs) t (cond b (suc p) p) n
one_later i g gs t b p n e m =
    record {
      place = suc m.place;
      within = omega (arith, m.within);
      number = omega (arith, m.number);
      degree = m.degree;
      before = ap (λ c. length (cond c (i ∷ earlier) earlier)) e ∙ counted b;
    }
  where
    earlier : List ℕ
    earlier = numbers_from (suc i) (take m.place gs) t

    counted : (c : Bool) → length (cond c (i ∷ earlier) earlier) ≡ cond c (suc p) p
    counted true = ap suc m.before
    counted false = m.before

numbers_from-cons : (i : ℕ) (g : Generator) (gs : List Generator) (t : ℤ) (b : Bool) → int_eq g.degree t ≡ b →
    ((p : ℕ) → p < length (numbers_from (suc i) gs t) →
    IsNumberFrom (suc i) gs t p (get_or (numbers_from (suc i) gs t) p 0)) →
    (p : ℕ) → p < length (cond b (i ∷ numbers_from (suc i) gs t) (numbers_from (suc i) gs t)) →
    IsNumberFrom i (g ∷ gs) t p (get_or (cond b (i ∷ numbers_from (suc i) gs t) (numbers_from (suc i) gs t)) p 0)
numbers_from-cons i g gs t true e ih zero h = record { place = 0; within = omega arith; number = omega arith; degree = grind (arith, ints); before = refl }
numbers_from-cons i g gs t true e ih (suc p) h = one_later i g gs t true p _ e (ih p (omega arith))
numbers_from-cons i g gs t false e ih p h = one_later i g gs t false p _ e (ih p h)

pub numbers_from-member : (i : ℕ) (gs : List Generator) (t : ℤ) (p : ℕ) → p < length (numbers_from i gs t) →
    IsNumberFrom i gs t p (get_or (numbers_from i gs t) p 0)
numbers_from-member i [] t p h = absurd (omega arith)
numbers_from-member i (g ∷ gs) t p h = numbers_from-cons i g gs t (int_eq g.degree t) refl (numbers_from-member (suc i) gs t) p h

-- the p-th generator of degree t is a generator, of that degree
pub generators_in-member : (gs : List Generator) (t : ℤ) (p : ℕ) → p < width gs t →
    (get_or (generators_in gs t) p 0 < length gs) × (degree_at gs (get_or (generators_in gs t) p 0) ≡ t)
generators_in-member gs t p h =
    let m = numbers_from-member 0 gs t p h in
    let e : get_or (generators_in gs t) p 0 ≡ m.place = omega (arith, m.number) in
    (omega (arith, m.within), ap (degree_at gs) e ∙ m.degree)

-- and as a vector it has its 1 at place p
unit-member : (gs : List Generator) (t : ℤ) (p : ℕ) → p < width gs t →
    unit gs (get_or (generators_in gs t) p 0) ≡ unit_vector (width gs t) p
unit-member gs t p h =
    let m = numbers_from-member 0 gs t p h in
    let e : get_or (generators_in gs t) p 0 ≡ m.place = omega (arith, m.number) in
    ap (unit gs) e ∙ ap (λ s. unit_vector (width gs s) (width (take m.place gs) s)) m.degree ∙ ap (unit_vector (width gs t)) m.before

-- Sq() acts as the identity
pub act_on-unit : (m : Module) → IsModule m → (t : ℤ) (v : List Bool) → length v ≡ width m.generators t →
    act_on m.generators m.operators [] t v ≡ v
act_on-unit m is t v e =
    let gs = m.generators in
    let ns = generators_in gs t in
    let n : ℕ = width gs t in
    let long : length (map (value_of m []) ns) ≡ n = length-map ns (value_of m []) in
    let same : map (value_of m []) ns ≡ unit_vectors n = ext_get_or [] (map (value_of m []) ns) (unit_vectors n) (long ∙ sym (length-unit_vectors n)) (λ p h.
    let b : p < n = omega arith in
    get_or-map (value_of m []) ns p 0 [] b ∙ is.identity (get_or ns p 0) (generators_in-member gs t p b).0 ∙ unit-member gs t p b ∙ sym (row-unit_vectors n p b)) in
    let z : t +ℤ pos 0 ≡ t = omega (arith, ints) in
    ap (λ s. combination (width gs s) v (map (value_of m []) ns)) z ∙ ap (combination n v) same ∙ combination-unit_vectors n v e

-- Sq(R) takes the generators of degree t to vectors of degree t and R's
pub HaveWidth-values : (m : Module) → IsModule m → (r : List ℕ) (t : ℤ) →
    HaveWidth (width m.generators (t +ℤ pos (degree_of r))) (map (value_of m r) (generators_in m.generators t))
HaveWidth-values m is r t p h =
    let gs = m.generators in
    let ns = generators_in gs t in
    let b : p < length ns = omega (arith, length-map ns (value_of m r)) in
    let k = generators_in-member gs t p b in
    ap length (get_or-map (value_of m r) ns p 0 [] b) ∙ is.widths r (get_or ns p 0) ∙ ap (λ s. width gs (s +ℤ pos (degree_of r))) k.1

-- and each vector of degree t to one of degree t and R's
pub length-act_on : (m : Module) → IsModule m → (r : List ℕ) (t : ℤ) (v : List Bool) →
    length (act_on m.generators m.operators r t v) ≡ width m.generators (t +ℤ pos (degree_of r))
length-act_on m is r t v =
    length-combination (width m.generators (t +ℤ pos (degree_of r))) v (map (value_of m r) (generators_in m.generators t)) (HaveWidth-values m is r t)

numbers_from-none-cons : (g : Generator) (t : ℤ) (b : Bool) → int_eq g.degree t ≡ b → g.degree ≢ t →
    (i : ℕ) (rest : List ℕ) → rest ≡ [] → cond b (i ∷ rest) rest ≡ []
numbers_from-none-cons g t true e d i rest r = absurd (d ((Decides-int_eq g.degree t).0 e))
numbers_from-none-cons g t false e d i rest r = r

-- where no generator is of degree t there are no numbers
pub numbers_from-none : (i : ℕ) (gs : List Generator) (t : ℤ) → ((k : ℕ) → k < length gs → degree_at gs k ≢ t) →
    numbers_from i gs t ≡ []
numbers_from-none i [] t h = refl
numbers_from-none i (g ∷ gs) t h =
    numbers_from-none-cons g t (int_eq g.degree t) refl (h 0 (omega arith)) i (numbers_from (suc i) gs t) (numbers_from-none (suc i) gs t (λ k l. h (suc k) (omega arith)))

-- there is nothing below the least degree
pub width-below : (gs : List Generator) → AreByDegree gs → (t : ℤ) → t <ℤ bottom gs → width gs t ≡ 0
width-below [] b t l = refl
width-below (g ∷ gs) b t l =
    ap length (numbers_from-none 0 (g ∷ gs) t (λ k h e. elim (cases_eq k 0) [
      | inl z ↦ let w : g.degree ≡ t = sym (ap (degree_at (g ∷ gs)) z) ∙ e in omega (arith, ints)
      | inr z ↦ let w : degree_at (g ∷ gs) 0 ≤ℤ degree_at (g ∷ gs) k = b.ordered 0 k no_generator (omega arith) h in omega (arith, ints)
    ]))

pub module_HasUnit : (m : Module) → IsModule m → HasUnit (module_graded m)
module_HasUnit m is t v e = act_on-unit m is t v e

pub module_KeepsWidths : (m : Module) → IsModule m → KeepsWidths (module_graded m)
module_KeepsWidths m is r t v e = length-act_on m is r t v
