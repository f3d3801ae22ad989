-- There is an answer to what is asked of a bracket.
use Rattle.std.proofs.Common.{◌≡◌, inl, inr, ℕ, ◌+◌, ℤ, pos, ◌+ℤ◌, ◌-ℤ◌, ◌≤ℤ◌, Bool, true, false, List, refl, sym, ◌∙◌, arith}
use Rattle.std.specs.Prelude.{Option, Some, None, MatchOption, Result, Ok, Err, IsOkAnd, option_map, nat_lt, int_lt, if◌then◌else◌}
use Rattle.std.specs.Option.{option_or}
use Rattle.std.proofs.lemmas.Bool.{true≢false, or_parts}
use Rattle.std.proofs.lemmas.Bool.Decides.{nat_tests}
use Rattle.std.proofs.lemmas.Int.{ints, by_lt_z}
use Rattle.bidegree.specs.Above.{above_of}
use Rattle.bidegree.specs.declared.range.Range.{Range}
use Rattle.bidegree.specs.declared.shape.Shape.TheVariants.{Rectangle}
use Rattle.bidegree.specs.declared.class.Class.{Class}
use Rattle.f2_vec.specs.Vectors.{IsZero}
use Rattle.f2_matrix.proofs.Unique.{zero_or_first}
use Rattle.module_json.proofs.Basis.{option_or-none}
use Rattle.lift_laws.specs.Lifts.{Resolution, IsCanonical, IsSphere}
use Rattle.lift_laws.specs.Products.{Class as ClassAbove, LiftsGiveOneProduct}
use Rattle.chain_map.specs.Classes.{class_count, passes, no_class, out_of_range, class_refusal, range_refusal}
use Rattle.yoneda.specs.Products.{IsYonedaProduct}
use Rattle.ext_chart.specs.Classes.{bracket_text}
use Rattle.ext_products.specs.declared.refusal.Pair.{Pair}
use Rattle.ext_products.specs.declared.refusal.Pair.TheVariants.{Ab, Bc}
use Rattle.ext_products.specs.declared.refusal.Refusal.{Refusal}
use Rattle.ext_products.specs.Products.{HasAnswer}
use Rattle.ext_products.proofs.Answers.{IsFound, product-exists}
use Rattle.ext_products.proofs.Near.{class_there, IsNear, square_near}
use Rattle.ext_brackets.specs.Brackets.{absent, past, not_zero, refusal_of, IsBracketText, IsToldOf, IsTold, IsBracketAnswer}
use Rattle.ext_brackets.proofs.Exists.{AreLaws, AreInRange, bracket_exists}

-- ---- what no refusal says

-- the three classes are there
pub record AreThere (a b c : Class) (r q : Resolution) : Type 0 where
  pub a_is : IsFound q a
  pub b_is : IsFound q b
  pub c_is : IsFound r c

pub classes_there : (a b c : Class) (r q : Resolution) → class_refusal (absent a b c) r q a b c ≡ None → AreThere a b c r q
classes_there a b c r q none =
    let say = absent a b c in
    let first = option_or-none (no_class (say 0) q a) (option_or (no_class (say 1) q b) (no_class (say 2) r c)) none in
    let second = option_or-none (no_class (say 1) q b) (no_class (say 2) r c) first.1 in
    record { a_is = class_there (say 0) a q first.0; b_is = class_there (say 1) b q second.0; c_is = class_there (say 2) c r second.1 }

-- what the range refuses of the three classes
abbrev past_range : Range → Class → Class → Class → Resolution → Resolution → Option Refusal
past_range range a b c r q = range_refusal past range r q a.s b.s c.s (a.t +ℤ b.t) (b.t +ℤ c.t) (a.t +ℤ b.t +ℤ c.t)

pub parts_none : (range : Range) (a b c : Class) (r q : Resolution) → refusal_of range a b c r q ≡ None → (class_refusal (absent a b c) r q a b c ≡ None) × (past_range range a b c r q ≡ None)
parts_none range a b c r q none = option_or-none (class_refusal (absent a b c) r q a b c) (past_range range a b c r q) none

pub in_range : (range : Range) (a b c : Class) (r q : Resolution) → IsSphere q → (there : AreThere a b c r q) → past_range range a b c r q ≡ None → AreInRange range r q there.a_is.class there.b_is.class there.c_is.class
in_range range a b c r q sphere there none =
    let ab = out_of_range (past 0) range q (pos (a.s + b.s)) (a.t +ℤ b.t) in
    let bc = out_of_range (past 1) range r (pos (b.s + c.s)) (b.t +ℤ c.t) in
    let abc = out_of_range (past 2) range r (pos (a.s + b.s + c.s) -ℤ pos 1) (a.t +ℤ b.t +ℤ c.t) in
    let first = option_or-none ab (option_or bc abc) none in
    let second = option_or-none bc abc first.1 in
    let near_ab = square_near (past 0) range q (pos (a.s + b.s)) (a.t +ℤ b.t) first.0 in
    let near_bc = square_near (past 1) range r (pos (b.s + c.s)) (b.t +ℤ c.t) second.0 in
    let near = square_near (past 2) range r (pos (a.s + b.s + c.s) -ℤ pos 1) (a.t +ℤ b.t +ℤ c.t) second.1 in
    record {
      x_there = there.a_is.there;
      y_there = there.b_is.there;
      z_there = there.c_is.there;
      xy_row = omega (arith, ints);
      xy_degree = omega (arith, ints);
      yz_row = omega (arith, ints);
      yz_degree = omega (arith, ints);
      row = omega (arith, ints);
      degree = omega (arith, ints);
    }

-- ---- what is told of classes that are there, in the range

abbrev IsSome : (Result (List ℕ) Refusal → Type 0) → Type 0
IsSome P = (answer : Result (List ℕ) Refusal) × P answer

product-told : (pair : Pair) (a x : Class) (r q : Resolution) (y z : ClassAbove) (v : List Bool) → IsYonedaProduct r q y z v → (P : Result (List ℕ) Refusal → Type 0) → (IsZero v → IsSome P) → IsSome (λ answer. IsToldOf pair a x r q y z answer (P answer))
product-told pair a x r q y z v is P rest = elim (zero_or_first v) [
  | inl zero ↦ let told = rest zero in (told.0, record { value = v; product = is; nonzero = λ not. absurd (not zero); zero = λ w. told.1 })
  | inr first ↦ (Err (not_zero pair a x v), record { value = v; product = is; nonzero = λ not. refl; zero = λ zero. absurd (true≢false (sym first.1.one ∙ zero first.0)) })
]

module _ (laws : AreLaws) (one : LiftsGiveOneProduct) (r q : Resolution) (range : Range) (canonical : IsCanonical r range.s range.t) (canonical_q : IsCanonical q range.s range.t) (sphere : IsSphere q) (a b c : Class) where
  module _ (there : AreThere a b c r q) (inside : AreInRange range r q there.a_is.class there.b_is.class there.c_is.class) where
    abbrev x : ClassAbove
    x = there.a_is.class

    abbrev y : ClassAbove
    y = there.b_is.class

    abbrev z : ClassAbove
    z = there.c_is.class

    lower-exists : (ab : List Bool) → IsYonedaProduct q q x y ab → IsZero ab → IsSome (λ answer. IsToldOf Bc b c r q y z answer (IsOkAnd answer (IsBracketText a b c r q x y z)))
    lower-exists ab ab_is ab_zero =
        let product = product-exists laws.lifts one r q Rectangle range y z canonical canonical_q sphere (record { row = omega (arith, inside.yz_row); degree = inside.yz_degree; near = inside.yz_degree; number = inside.z_there }) inside.y_there in
        product-told Bc b c r q y z product.0 product.1 (λ answer. IsOkAnd answer (IsBracketText a b c r q x y z)) (λ zero.
        let bracket = bracket_exists laws r q range canonical canonical_q sphere x y z inside ab product.0 ab_is product.1 ab_zero zero in
        (Ok (bracket_text (pos (a.s + b.s + c.s) -ℤ pos 1) (a.t +ℤ b.t +ℤ c.t) bracket.value bracket.rows), record { value = bracket.value; rows = bracket.rows; bracket = bracket.is_bracket; is = refl }))

    told-exists : IsSome (IsTold a b c r q)
    told-exists =
        let product = product-exists laws.lifts one q q Rectangle range x y canonical_q canonical_q sphere (record { row = omega (arith, inside.xy_row); degree = inside.xy_degree; near = inside.xy_degree; number = inside.y_there }) inside.x_there in
        let told = product-told Ab a b q q x y product.0 product.1 (λ answer. IsToldOf Bc b c r q y z answer (IsOkAnd answer (IsBracketText a b c r q x y z))) (lower-exists product.0 product.1) in
        (told.0, record { x = x; y = y; z = z; a_at = there.a_is.at; b_at = there.b_is.at; c_at = there.c_is.at; told = told.1 })

  answer-exists : (refusal : Option Refusal) → refusal_of range a b c r q ≡ refusal → (answer : Result (List ℕ) Refusal) × MatchOption refusal (IsTold a b c r q answer) (λ e. answer ≡ Err e)
  answer-exists None none =
      let parts = parts_none range a b c r q none in
      let there = classes_there a b c r q parts.0 in
      told-exists there (in_range range a b c r q sphere there parts.1)
  answer-exists (Some e) some = (Err e, refl)

pub answers-exist : AreLaws → LiftsGiveOneProduct → (range : Range) (a b c : Class) → HasAnswer (IsBracketAnswer range a b c) range
answers-exist laws one range a b c r q canonical canonical_q sphere = answer-exists laws one r q range canonical canonical_q sphere a b c (refusal_of range a b c r q) refl
