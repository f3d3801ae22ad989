-- What is had where a bracket is told as a text: the classes are there, the squares are in the range, and the two products are zero.
use Rattle.std.proofs.Common.{◌≡◌, inl, inr, ℕ, suc, ◌+◌, ◌-◌, ◌<◌, ◌≤◌, pos, ◌+ℤ◌, ◌-ℤ◌, Bool, List, refl, sym, subst, ◌∙◌, arith}
use Rattle.std.specs.Prelude.{Option, Some, None, MatchOption, Result, Ok, Err}
use Rattle.std.specs.Option.{option_or}
use Rattle.std.proofs.lemmas.Bool.{true≢false}
use Rattle.std.proofs.lemmas.Int.{ints}
use Rattle.bidegree.specs.declared.range.Range.{Range}
use Rattle.bidegree.specs.declared.class.Class.{Class}
use Rattle.f2_vec.specs.Vectors.{IsZero}
use Rattle.f2_matrix.proofs.Unique.{zero_or_first}
use Rattle.module_json.proofs.Basis.{option_or-none}
use Rattle.lift_laws.specs.Lifts.{Resolution}
use Rattle.lift_laws.specs.Products.{Class as ClassAbove, count_of}
use Rattle.bracket_laws.specs.Brackets.{HasRoom, UnitsHaveNoZeroProducts}
use Rattle.chain_map.specs.Classes.{no_class, out_of_range, class_refusal, range_refusal, IsAt}
use Rattle.chain_map.proofs.Classes.{class_is_once}
use Rattle.yoneda.specs.Products.{IsYonedaProduct}
use Rattle.ext_products.specs.declared.refusal.Pair.{Pair}
use Rattle.ext_products.specs.declared.refusal.Pair.TheVariants.{Ab, Bc}
use Rattle.ext_products.specs.declared.refusal.Refusal.{Refusal}
use Rattle.ext_products.proofs.Near.{class_there, square_near}
use Rattle.ext_brackets.specs.Brackets.{absent, past, refusal_of, IsBracketText, IsToldOf, IsTold, IsBracketAnswer}
use Rattle.text_laws.specs.Texts.{AreResolved}

-- ---- no refusal

there_at : (say : ℕ → Refusal) (c : Class) (r : Resolution) (x : ClassAbove) → IsAt r c x → no_class say r c ≡ None → x.i < count_of r x.s x.above
there_at say c r x at none =
    let f = class_there say c r none in
    subst (λ (y : ClassAbove). y.i < count_of r y.s y.above) (class_is_once r c f.class x f.at at) f.there

-- ---- a text

-- a product that is told of, where a text is told, is zero
pub record IsZeroOf (r q : Resolution) (y z : ClassAbove) (rest : Type 0) : Type 0 where
  pub value : List Bool
  pub product : IsYonedaProduct r q y z value
  pub zero : IsZero value
  pub told : rest

pub zero_product : (pair : Pair) (a x : Class) (r q : Resolution) (y z : ClassAbove) (text : List ℕ) (rest : Type 0) → IsToldOf pair a x r q y z (Ok text) rest → IsZeroOf r q y z rest
zero_product pair a x r q y z text rest p = elim (zero_or_first p.value) [
  | inl zero ↦ record { value = p.value; product = p.product; zero = zero; told = p.zero zero }
  | inr first ↦ let no = p.nonzero (λ zero. true≢false (sym first.1.one ∙ zero first.0)) in absurd cc
]

-- what a text says
pub record IsTextOf (range : Range) (a b c : Class) (r q : Resolution) (text : List ℕ) : Type 0 where
  pub none : refusal_of range a b c r q ≡ None
  pub x : ClassAbove
  pub y : ClassAbove
  pub z : ClassAbove
  pub a_at : IsAt q a x
  pub b_at : IsAt q b y
  pub c_at : IsAt r c z
  pub ab : IsZeroOf q q x y (IsZeroOf r q y z (IsBracketText a b c r q x y z text))

told_text : (a b c : Class) (r q : Resolution) (text : List ℕ) (range : Range) → refusal_of range a b c r q ≡ None → IsTold a b c r q (Ok text) → IsTextOf range a b c r q text
told_text a b c r q text range none p =
    let first = zero_product Ab a b q q p.x p.y text (IsToldOf Bc b c r q p.y p.z (Ok text) (IsBracketText a b c r q p.x p.y p.z text)) p.told in
    let second = zero_product Bc b c r q p.y p.z text (IsBracketText a b c r q p.x p.y p.z text) first.told in
    record {
      none = none;
      x = p.x;
      y = p.y;
      z = p.z;
      a_at = p.a_at;
      b_at = p.b_at;
      c_at = p.c_at;
      ab = record { value = first.value; product = first.product; zero = first.zero; told = second };
    }

by_refusal : (range : Range) (a b c : Class) (r q : Resolution) (text : List ℕ) (refusal : Option Refusal) → refusal_of range a b c r q ≡ refusal → MatchOption refusal (IsTold a b c r q (Ok text)) (λ e. ◌≡◌ {A = Result (List ℕ) Refusal} (Ok text) (Err e)) → IsTextOf range a b c r q text
by_refusal range a b c r q text None e told = told_text a b c r q text range e told
by_refusal range a b c r q text (Some refusal) e told = absurd cc

pub text_of : (range : Range) (a b c : Class) (r q : Resolution) (text : List ℕ) → IsBracketAnswer range a b c r q (Ok text) → IsTextOf range a b c r q text
text_of range a b c r q text answer = by_refusal range a b c r q text (refusal_of range a b c r q) refl answer

-- ---- the room of a bracket that is told

module _ (units : UnitsHaveNoZeroProducts) (range : Range) (a b c : Class) (r q : Resolution) (are : AreResolved range r q) (text : List ℕ) (p : IsTextOf range a b c r q text) where
  abbrev x : ClassAbove
  x = p.x

  abbrev y : ClassAbove
  y = p.y

  abbrev z : ClassAbove
  z = p.z

  record IsInside : Type 0 where
    x_there : x.i < count_of q x.s x.above
    y_there : y.i < count_of q y.s y.above
    z_there : z.i < count_of r z.s z.above
    xy_row : x.s + y.s ≤ range.s
    xy_degree : x.above + y.above ≤ range.t
    yz_row : y.s + z.s ≤ range.s
    yz_degree : y.above + z.above ≤ range.t
    row : x.s + y.s + z.s ≤ range.s + 1
    degree : x.above + y.above + z.above ≤ range.t

  inside : IsInside
  inside =
      let say = absent a b c in
      let classes = class_refusal say r q a b c in
      let squares = range_refusal past range r q a.s b.s c.s (a.t +ℤ b.t) (b.t +ℤ c.t) (a.t +ℤ b.t +ℤ c.t) in
      let parts = option_or-none classes squares p.none in
      let first = option_or-none (no_class (say 0) q a) (option_or (no_class (say 1) q b) (no_class (say 2) r c)) parts.0 in
      let second = option_or-none (no_class (say 1) q b) (no_class (say 2) r c) first.1 in
      let ab = out_of_range (past 0) range q (pos (a.s + b.s)) (a.t +ℤ b.t) in
      let bc = out_of_range (past 1) range r (pos (b.s + c.s)) (b.t +ℤ c.t) in
      let abc = out_of_range (past 2) range r (pos (a.s + b.s + c.s) -ℤ pos 1) (a.t +ℤ b.t +ℤ c.t) in
      let third = option_or-none ab (option_or bc abc) parts.1 in
      let fourth = option_or-none bc abc third.1 in
      let near_ab = square_near (past 0) range q (pos (a.s + b.s)) (a.t +ℤ b.t) third.0 in
      let near_bc = square_near (past 1) range r (pos (b.s + c.s)) (b.t +ℤ c.t) fourth.0 in
      let near = square_near (past 2) range r (pos (a.s + b.s + c.s) -ℤ pos 1) (a.t +ℤ b.t +ℤ c.t) fourth.1 in
      let bottom = are.sphere.bottom in
      let ar = p.a_at.row in
      let br = p.b_at.row in
      let cr = p.c_at.row in
      let ad = p.a_at.degree in
      let bd = p.b_at.degree in
      let cd = p.c_at.degree in
      record {
        x_there = there_at (say 0) a q x p.a_at first.0;
        y_there = there_at (say 1) b q y p.b_at second.0;
        z_there = there_at (say 2) c r z p.c_at second.1;
        xy_row = let h = near_ab.row in omega (arith, ints);
        xy_degree = let h = near_ab.degree in omega (arith, ints);
        yz_row = let h = near_bc.row in omega (arith, ints);
        yz_degree = let h = near_bc.degree in omega (arith, ints);
        row = let h = near.row in omega (arith, ints);
        degree = let h = near.degree in omega (arith, ints);
      }

  x_positive : 0 < x.s
  x_positive =
      let some = p.ab.product.some in
      let i = inside in
      let reaches = some.reaches in
      let row = i.xy_row in
      let degree = i.xy_degree in
      units q q range.s range.t range.s range.t x y x.s some.top some.phi are.canonical_q are.canonical_q are.sphere (omega arith) i.x_there (omega arith) (omega arith) i.y_there (omega (arith, ints)) some.is_lift (subst IsZero some.gives p.ab.zero)

  y_positive : 0 < y.s
  y_positive =
      let some = p.ab.told.product.some in
      let i = inside in
      let reaches = some.reaches in
      let row = i.yz_row in
      let degree = i.yz_degree in
      units r q range.s range.t range.s range.t y z y.s some.top some.phi are.canonical are.canonical_q are.sphere (omega arith) i.y_there (omega arith) (omega arith) i.z_there (omega (arith, ints)) some.is_lift (subst IsZero some.gives p.ab.told.zero)

  pub room : (n l : ℕ) → suc n ≡ z.s + y.s → suc l ≡ y.s + x.s → HasRoom range.s range.t range.s range.t x y z n l
  room n l n_row l_row =
      let i = inside in
      let a_some = x_positive in
      let b_some = y_positive in
      let h = i.row in
      let k = i.xy_row in
      record { last = x.s - 1; low = y.s - 1; a_row = omega arith; b_row = omega arith; n_row = n_row; l_row = l_row; rows_r = omega arith; rows_q = omega arith; degrees_r = i.degree; degrees_q = i.xy_degree }
