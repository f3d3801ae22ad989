-- The coefficients of Sq(R) on generators, as the program finds them.
use Rattle.std.specs.Prelude.{nat_eq, nat_lt}
use Rattle.std.specs.List.{range_with_len}
use Rattle.std.proofs.Common.{◌≡◌, ◌≢◌, ℕ, zero, suc, ◌+◌, ◌-◌, ◌<◌, ◌≤◌, ℤ, pos, ◌+ℤ◌, inl, inr, Bool, true, false, ◌&&◌, if◌then◌else◌, List, [], ◌∷◌, ◌++◌, length, take, get_or, refl, sym, ◌∙◌, ap, arith}
use Rattle.std.proofs.lemmas.Bool.{cases_eq, eq-eqb, ne_eqb, lt-ltb}
use Rattle.std.proofs.lemmas.List.{take_more}
use Rattle.std.proofs.lemmas.List.FromFn.{length-range_with_len}
use Rattle.f2_vec.specs.Vectors.{plus, zeros}
use Rattle.f2_vec.proofs.Sums.{plus-false}
use Rattle.milnor_basis.specs.Exponents.{degree_of}
use Rattle.milnor_basis.specs.Product.{odd_by}
use Rattle.milnor_basis.proofs.Parity.{odd_by-append}
use Rattle.module_spec.specs.Spec.{Generator, degree_at}
use Rattle.module_spec.specs.WellFormed.{NeverFall}
use Rattle.finite_module.specs.Module.{Module, generators_in, width}
use Rattle.finite_module.specs.DerivedAction.{span}
use Rattle.finite_module.specs.Axioms.{value_of}
use Rattle.finite_module.proofs.AboveSpan.{width_above_span}
use Rattle.finite_module.proofs.Degrees.{IsPlaced, placed}
use Rattle.built_laws.specs.Built.{coordinate, action_of}
use Rattle.module_build.specs.declared.splittings.Splitting.{Splitting}
use Rattle.module_build.specs.Inside.Splittings.{sum_over}

coordinate-zeros : (ns : List ℕ) (n j : ℕ) → coordinate ns (zeros n) j ≡ false
coordinate-zeros [] n j = refl
coordinate-zeros (m ∷ ns) zero j = refl
coordinate-zeros (m ∷ ns) (suc n) j = at (nat_eq j m) (coordinate-zeros ns n j)
  where
    at : (b : Bool) → coordinate ns (zeros n) j ≡ false → (if b then false else coordinate ns (zeros n) j) ≡ false
    at true e = refl
    at false e = e

coordinate-range : (start len : ℕ) (v : List Bool) (j : ℕ) → length v ≡ len → start ≤ j → j < start + len → coordinate (range_with_len start len) v j ≡ get_or v (j - start) false
coordinate-range start zero v j e l m = absurd (omega arith)
coordinate-range start (suc len) [] j e l m = cc
coordinate-range start (suc len) (b ∷ bs) j e l m = elim (cases_eq j start) [
  | inl same ↦ ap (λ c. if c then b else coordinate (range_with_len (start + 1) len) bs j) (eq-eqb j start same) ∙ ap (λ k. get_or (b ∷ bs) k false) (first same)
  | inr other ↦ ap (λ c. if c then b else coordinate (range_with_len (start + 1) len) bs j) (ne_eqb j start other)
      ∙ coordinate-range (start + 1) len bs j (omega arith) (omega arith) (omega arith) ∙ ap (λ k. get_or (b ∷ bs) k false) (later other)
]
  where
    first : j ≡ start → 0 ≡ j - start
    first same = omega arith

    later : j ≢ start → suc (j - (start + 1)) ≡ j - start
    later other = omega arith

-- where generator y is among those of the degree of the value
pub record IsFound (m : Module) (r : List ℕ) (x y start : ℕ) (v : List Bool) : Type 0 where
  pub behind : start ≤ y
  pub within : y - start < length v
  pub coefficient : get_or v (y - start) false ≡ (action_of m).coefficient r x y

pub found : (m : Module) (r : List ℕ) (x y start len : ℕ) (t : ℤ) (v : List Bool) → x < length m.generators → y < length m.generators → t ≡ degree_at m.generators x +ℤ pos (degree_of r) → degree_at m.generators y ≡ t
    → generators_in m.generators t ≡ range_with_len start len → v ≡ value_of m r x → length v ≡ width m.generators t → IsFound m r x y start v
found m r x y start len t v lx ly here there listed is wide =
    let gs : List Generator = m.generators in
    let own : IsPlaced gs y start len = placed gs y start len ly (ap (generators_in gs) there ∙ listed) in
    let long : length v ≡ len = wide ∙ ap length listed ∙ length-range_with_len start len in
    let b = own.behind in
    let w = own.within in
    record {
      behind = b;
      within = omega arith;
      coefficient = sym (ap (λ c. c && coordinate (generators_in gs (degree_at gs x +ℤ pos (degree_of r))) (value_of m r x) y) (lt-ltb x (length gs) lx)
          ∙ ap (λ u. coordinate (generators_in gs u) (value_of m r x) y) (sym here)
          ∙ ap (λ ns. coordinate ns (value_of m r x) y) listed
          ∙ ap (λ u. coordinate (range_with_len start len) u y) (sym is)
          ∙ coordinate-range start len v y long b (omega arith));
    }

pub none_found : (m : Module) (r : List ℕ) (x y n : ℕ) → value_of m r x ≡ zeros n → (action_of m).coefficient r x y ≡ false
none_found m r x y n e =
    let ns : List ℕ = generators_in m.generators (degree_at m.generators x +ℤ pos (degree_of r)) in
    ap (λ v. nat_lt x (length m.generators) && coordinate ns v y) e ∙ ap (λ b. nat_lt x (length m.generators) && b) (coordinate-zeros ns n y) ∙ last (nat_lt x (length m.generators))
  where
    last : (b : Bool) → (b && false) ≡ false
    last true = refl
    last false = refl

-- above the span all is zero
pub none_above_span : (m : Module) → NeverFall m.generators → (r : List ℕ) (x y : ℕ) → x < length m.generators → span m.generators < degree_of r → (action_of m).coefficient r x y ≡ false
none_above_span m falls r x y l far =
    let gs : List Generator = m.generators in
    ap (λ b. b && coordinate (generators_in gs (degree_at gs x +ℤ pos (degree_of r))) (value_of m r x) y) (lt-ltb x (length gs) l)
    ∙ empty (generators_in gs (degree_at gs x +ℤ pos (degree_of r))) (width_above_span gs x (degree_of r) falls l far)
  where
    empty : (ns : List ℕ) → length ns ≡ 0 → coordinate ns (value_of m r x) y ≡ false
    empty [] e = refl
    empty (n ∷ ns) e = cc

-- one splitting more in a sum
pub sum_more : (f : List ℕ × List ℕ → Bool) (xs : List Splitting) (k : ℕ) (s : Splitting) (odd : Bool) → k < length xs → s ≡ get_or xs k s → odd ≡ sum_over f (take k xs) → plus odd (f (s.left, s.right)) ≡ sum_over f (take (k + 1) xs)
sum_more f xs k s odd l e is =
    ap (λ b. plus b (f (s.left, s.right))) is
    ∙ ap (plus (sum_over f (take k xs))) (sym (plus-false (f (s.left, s.right))))
    ∙ sym (odd_by-append (λ s. f (s.left, s.right)) (take k xs) (s ∷ []))
    ∙ ap (λ ys. odd_by (λ s. f (s.left, s.right)) ys) (ap (λ z. take k xs ++ z ∷ []) e ∙ sym (take_more xs k s l))
