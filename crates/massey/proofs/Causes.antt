-- The products that decide whether there is a bracket.
use Rattle.std.specs.Prelude.{IsTrue, ◌↔◌, IfSome, option_map, if◌then◌else◌}
use Rattle.std.specs.Option.{option_or}
use Rattle.std.proofs.Common.{rules, ◌≡◌, Option, Some, None, true, ℕ, ◌+◌, ◌-◌, ◌<◌, ℤ, Bool, false, List, length, ap, sym, subst, ◌∙◌, arith}
use Rattle.bidegree.specs.declared.range.Range.{Range}
use Rattle.bidegree.specs.declared.class.Class.{Class}
use Rattle.bidegree.specs.declared.place.Place.{Place}
use Rattle.finite_module.specs.Graded.{ModulesAreSteenrodModules}
use Rattle.f2_vec.specs.Vectors.{IsZero}
use Rattle.square.specs.Tables.{Staircase, row_in, IsThrough}
use Rattle.lift_laws.specs.Lifts.{Resolution}
use Rattle.lift_laws.specs.Products.{Class as ClassAbove, count_of, coefficient_of, product_by, LiftsGiveOneProduct}
use Rattle.bracket_laws.proofs.Vectors.{length-on_square}
use Rattle.chain_map.specs.Lifting.{LiftValues, resolution_of, IsCanonicalIn, map_of, IsLiftOver, IsClassOf}
use Rattle.chain_map.specs.Classes.{through, IsAt}
use Rattle.chain_map.proofs.Classes.{class_is_once}
use Rattle.yoneda.specs.Products.{class_above, IsPlaceOf, IsYonedaProduct, IsProductThrough}
use Rattle.yoneda.proofs.OneProduct.{product_of_lift, product_of}
use Rattle.massey.specs.declared.fault.MasseyFault.{MasseyFault}
use Rattle.massey.specs.declared.fault.MasseyFault.TheVariants.{NoClass, OutOfRange, Nonzero, Memory}
use Rattle.massey.specs.declared.places.Places.{Places}
use Rattle.massey.specs.Brackets.{reach_of, refusal_of, AreClasses, HaveSquares, IsSoThrough, IsAb, IsBc, IsCause}
use Rattle.massey.specs.Inside.{AreFound, AreInside, far_of, above_ab, above_bc, IsSettingIn, IsSetting, IsSoIn}
use Rattle.massey.proofs.Values.{reaches_in, a_is_there, b_is_there}

-- ---- refusals

-- the faults that a refusal names
abbrev IsRefusal : MasseyFault → Type 0
IsRefusal (NoClass which count) = Unit {0}
IsRefusal (OutOfRange which s t) = Unit {0}
IsRefusal (Nonzero which product) = ⊥
IsRefusal Memory = ⊥

or_refusal : (o p : Option MasseyFault) → IfSome o IsRefusal → IfSome p IsRefusal → IfSome (option_or o p) IsRefusal
or_refusal None p h g = g
or_refusal (Some f) p h g = h

class_is_refusal : (which : ℕ) (o : Option ℕ) → IfSome (option_map (λ n. NoClass which n) o) IsRefusal
class_is_refusal which None = tt
class_is_refusal which (Some n) = tt

range_is_refusal : (which : ℕ) (s t : ℤ) (past : Bool) → IfSome (if past then Some (OutOfRange which s t) else None) IsRefusal
range_is_refusal which s t true = tt
range_is_refusal which s t false = tt

refusal_is : (table sphere : Staircase) (range : Range) (a b c : Class) → IfSome (refusal_of table sphere range a b c) IsRefusal
refusal_is table sphere range a b c = search (or_refusal, class_is_refusal, range_is_refusal)

named : (table sphere : Staircase) (range : Range) (a b c : Class) (f : MasseyFault) → IsRefusal f → refusal_of table sphere range a b c ≡ Some f → IsCause table sphere range a b c f
named table sphere range a b c (NoClass which count) r e = e
named table sphere range a b c (OutOfRange which s t) r e = e
named table sphere range a b c (Nonzero which product) r e = absurd r
named table sphere range a b c Memory r e = tt

pub cause_of_refusal : (table sphere : Staircase) (range : Range) (a b c : Class) (f : MasseyFault) → refusal_of table sphere range a b c ≡ Some f → IsCause table sphere range a b c f
cause_of_refusal table sphere range a b c f e =
    let P : Option MasseyFault → Type 0 = λ o. IfSome o IsRefusal in
    named table sphere range a b c f (subst P e (refusal_is table sphere range a b c)) e

-- ---- products

module _ (one : LiftsGiveOneProduct) (modules : ModulesAreSteenrodModules) (table sphere : Staircase) (range far : Range) (p : Places) (s : IsSettingIn table sphere range far p) where
  bc_in : IsCanonicalIn range table → IsCanonicalIn far sphere → (gamma : LiftValues) → IsLiftOver table sphere p.c.s p.c.above p.c.i (p.b.s + (p.a.s - 1)) gamma → (v : List Bool) → v ≡ product_by (resolution_of table) (resolution_of sphere) (class_above p.b) (map_of gamma) (p.c.s + p.b.s) (above_bc p) → IsYonedaProduct (through range table) (through far sphere) (class_above p.b) (class_above p.c) v
  bc_in all all_q gamma lifted v gives =
      let i = s.inside in
      let upto = p.b.s + (p.a.s - 1) in
      let long = s.through_sphere upto (omega arith) in
      let reached = reaches_in table sphere range far s.through_table s.through_sphere p.c.s p.c.above upto (above_bc p) (omega arith) (omega arith) i.bc_degree (omega arith) in
      product_of_lift one modules table sphere s.is_table s.is_sphere_table s.is_sphere p.b p.c (b_is_there table sphere range far p s) v upto (far.t + 1) gamma (omega arith) lifted
      (record { within = omega arith; some = λ m. omega arith; there = omega arith; enough = omega arith }) gives range far s.through_table s.through_sphere (omega arith) i.bc_degree (omega arith) (omega arith) all all_q

module _ (one : LiftsGiveOneProduct) (modules : ModulesAreSteenrodModules)
    (table sphere : Staircase) (range : Range) (a b c : Class) (p : Places) (s : IsSetting table sphere range p) (found : AreFound table sphere range (reach_of range a b) a b c p) where
  -- the classes are those at the places
  pub record AreThose (x y z : ClassAbove) : Type 0 where
    pub a_is : class_above p.a ≡ x
    pub b_is : class_above p.b ≡ y
    pub c_is : class_above p.c ≡ z

  is_a : (x : ClassAbove) → IsAt (resolution_of sphere) a x → class_above p.a ≡ x
  is_a x at = class_is_once (resolution_of sphere) a (class_above p.a) x (record { row = found.a_is.row; degree = found.a_is.degree; number = found.a_is.number }) at

  is_b : (y : ClassAbove) → IsAt (resolution_of sphere) b y → class_above p.b ≡ y
  is_b y at = class_is_once (resolution_of sphere) b (class_above p.b) y (record { row = found.b_is.row; degree = found.b_is.degree; number = found.b_is.number }) at

  is_c : (z : ClassAbove) → IsAt (resolution_of table) c z → class_above p.c ≡ z
  is_c z at = class_is_once (resolution_of table) c (class_above p.c) z (record { row = found.c_is.row; degree = found.c_is.degree; number = found.c_is.number }) at

  those : (x y z : ClassAbove) → AreClasses table sphere a b c x y z → AreThose x y z
  those x y z at = record { a_is = is_a x at.a_at; b_is = is_b y at.b_at; c_is = is_c z at.c_at }

  two_moved : (P : ClassAbove → ClassAbove → Type 0) (x y u v : ClassAbove) → x ≡ u → y ≡ v → P x y → P u v
  two_moved P x y u v first second k = subst (λ (o : ClassAbove). P u o) second (subst (λ (o : ClassAbove). P o y) first k)

  -- what is so of these is so of the classes
  moved : (P : ClassAbove → ClassAbove → ClassAbove → Type 0) (x y z : ClassAbove) → AreThose x y z → P (class_above p.a) (class_above p.b) (class_above p.c) → P x y z
  moved P x y z e k =
      subst (λ (o : ClassAbove). P x y o) e.c_is (subst (λ (o : ClassAbove). P x o (class_above p.c)) e.b_is (subst (λ (o : ClassAbove). P o (class_above p.b) (class_above p.c)) e.a_is k))

  moved_back : (P : ClassAbove → ClassAbove → ClassAbove → Type 0) (x y z : ClassAbove) → AreThose x y z → P x y z → P (class_above p.a) (class_above p.b) (class_above p.c)
  moved_back P x y z e k =
      subst (λ (o : ClassAbove). P o (class_above p.b) (class_above p.c)) (sym e.a_is) (subst (λ (o : ClassAbove). P x o (class_above p.c)) (sym e.b_is) (subst (λ (o : ClassAbove). P x y o) (sym e.c_is) k))

  -- the ranges that have the squares have the places
  setting_in : (near far : Range) → IsThrough near table.rows → IsThrough far sphere.rows → AreInside near far p → IsSettingIn table sphere near far p
  setting_in near far whole whole_q inside = record {
    is_table = s.is_table;
    is_sphere_table = s.is_sphere_table;
    through_table = whole;
    through_sphere = whole_q;
    is_sphere = s.is_sphere;
    a_in = record { row_within = let i = inside.ab_row in omega arith; degree_within = let i = inside.ab_degree in omega arith; row_small = s.a_in.row_small; degree_small = s.a_in.degree_small; generator = s.a_in.generator };
    b_in = record { row_within = let i = inside.ab_row in omega arith; degree_within = let i = inside.ab_degree in omega arith; row_small = s.b_in.row_small; degree_small = s.b_in.degree_small; generator = s.b_in.generator };
    c_in = record { row_within = let i = inside.bc_row in omega arith; degree_within = let i = inside.bc_degree in omega arith; row_small = s.c_in.row_small; degree_small = s.c_in.degree_small; generator = s.c_in.generator };
    inside = inside;
  }

  -- what is so of the places in all ranges that have them is so of the classes
  pub so_through : (P : Resolution → Resolution → ClassAbove → ClassAbove → ClassAbove → Type 0) → IsSoIn (λ near far. P (through near table) (through far sphere) (class_above p.a) (class_above p.b) (class_above p.c)) table sphere p → IsSoThrough P table sphere a b c
  so_through P so x y z near far at whole whole_q have all all_q =
      let e = those x y z at in
      moved (P (through near table) (through far sphere)) x y z e (so near far (setting_in near far whole whole_q (moved_back (HaveSquares near far) x y z e have)) all all_q)

  pub ab_product : (beta : LiftValues) → IsLiftOver sphere sphere p.b.s p.b.above p.b.i p.a.s beta → (v : List Bool) → v ≡ product_by (resolution_of sphere) (resolution_of sphere) (class_above p.a) (map_of beta) (p.b.s + p.a.s) (above_ab p) → IsAb sphere a b v
  ab_product beta lifted v gives = record {
    one_each = λ x y a_at b_at. two_moved (λ x y. length v ≡ count_of (resolution_of sphere) (y.s + x.s) (x.above + y.above)) (class_above p.a) (class_above p.b) x y (is_a x a_at) (is_b y b_at) (ap length gives ∙ length-on_square (resolution_of sphere) (p.b.s + p.a.s) (above_ab p) (λ g. coefficient_of (resolution_of sphere) (class_above p.a) (map_of beta p.a.s g)));
    product = λ x y a_at b_at. two_moved (λ x y. IsProductThrough sphere sphere x y v) (class_above p.a) (class_above p.b) x y (is_a x a_at) (is_b y b_at) (product_of one modules sphere sphere s.is_sphere_table s.is_sphere_table (far_of p) s.through_sphere s.is_sphere p.a p.b (a_is_there table sphere range (far_of p) p s) (omega arith) (omega arith) beta lifted v gives);
  }

  pub bc_product : (gamma : LiftValues) → IsLiftOver table sphere p.c.s p.c.above p.c.i (p.b.s + (p.a.s - 1)) gamma → (v : List Bool) → v ≡ product_by (resolution_of table) (resolution_of sphere) (class_above p.b) (map_of gamma) (p.c.s + p.b.s) (above_bc p) → IsBc table sphere a b c v
  bc_product gamma lifted v gives = record {
    one_each = λ y z b_at c_at. two_moved (λ y z. length v ≡ count_of (resolution_of table) (z.s + y.s) (y.above + z.above)) (class_above p.b) (class_above p.c) y z (is_b y b_at) (is_c z c_at) (ap length gives ∙ length-on_square (resolution_of table) (p.c.s + p.b.s) (above_bc p) (λ g. coefficient_of (resolution_of sphere) (class_above p.b) (map_of gamma p.b.s g)));
    product = so_through (λ r q x y z. IsYonedaProduct r q y z v) (λ near far k all all_q. bc_in one modules table sphere near far p k all all_q gamma lifted v gives);
  }

pub class_there : (table : Staircase) (range : Range) → IsThrough range table.rows → (class : Class) (x : Place) → IsPlaceOf table range class x → IsClassOf table class
class_there table range whole class x is =
    let row = is.row in
    let number = is.number in
    let long : range.t < length (row_in table.rows class.s) = subst (λ (s : ℕ). range.t < length (row_in table.rows s)) (sym row) (whole x.s is.inside.row_within) in
    record {
      above = x.above;
      degree = is.degree;
      square = omega (arith, is.inside.degree_within);
      generator = subst (λ (s : ℕ). class.i < count_of (resolution_of table) s x.above) (sym row) (subst (λ (i : ℕ). i < count_of (resolution_of table) x.s x.above) (sym number) is.inside.generator);
    }

-- what a test of a vector tells
pub zero_when : (b : Bool) (v : List Bool) → (IsTrue b ↔ IsZero v) → b ≡ true → IsZero v
zero_when true v h e = h.0 (search rules)
zero_when false v h e = absurd (cc)

pub nonzero_when : (b : Bool) (v : List Bool) → (IsTrue b ↔ IsZero v) → b ≡ false → IsZero v → ⊥
nonzero_when true v h e z = absurd (cc)
nonzero_when false v h e z = let t : IsTrue false = h.1 z in absurd (search rules)
