-- A lift with all its rows is one over the two tables.
use Rattle.std.proofs.Common.{◌≡◌, inl, inr, ℕ, zero, suc, ◌+◌, ◌-◌, ◌<◌, ◌≤◌, Bool, ℤ, pos, ◌+ℤ◌, ◌≤ℤ◌, List, [], length, refl, ap, sym, subst, arith}
use Rattle.std.proofs.Math.Nat.{min-le_left, min-le_right}
use Rattle.std.proofs.lemmas.Int.{ints}
use Rattle.std.proofs.lemmas.Bool.{cases_eq}
use Rattle.bidegree.specs.declared.range.Range.{Range}
use Rattle.finite_module.specs.Graded.{ModulesAreSteenrodModules}
use Rattle.resolution_laws.specs.Resolution.{row_of}
use Rattle.resolution_laws.specs.Exactness.{CanonicalTableIsMinimalResolution}
use Rattle.resolution_laws.proofs.Rows.{degrees_from-between}
use Rattle.square.specs.Squares.{bottom_of}
use Rattle.square.specs.Tables.{Staircase, row_in, plain_rows, IsTable}
use Rattle.square.proofs.Found.{row_within}
use Rattle.lift_laws.specs.Lifts.{Resolution, gens, degree, IsLift, IsSphere}
use Rattle.lift_laws.specs.Products.{count_of}
use Rattle.lift_laws.proofs.Resolved.{is_resolved}
use Rattle.chain_map.specs.Lifting.{resolution_of, AreCanonical, shifted_length, degrees_through, greatest, LiftValues, row_values, map_of, AreValues, AreReached, IsLiftOver}
use Rattle.chain_map.specs.Inside.{class_of, IsMade, Reaches}
use Rattle.chain_map.specs.Classes.{through}
use Rattle.chain_map.proofs.Resolved.{is_canonical}
use Rattle.chain_map.proofs.MadeLifts.{value-fits, is-lift}
use Rattle.chain_map.proofs.Images.{chain_map_of}

-- no generator is of a degree below the bottom
no_generator : (table : Staircase) (i g : ℕ) → g < length (gens (resolution_of table) i) → degree (resolution_of table) i g ≤ℤ greatest table 0 → ⊥
no_generator table i g l low =
    let b = degrees_from-between (bottom_of table.resolved) (row_of (plain_rows table.rows) i) g l in
    absurd (omega (arith, ints, b.from))

-- through no degree all is a lift
lift_below : (table sphere : Staircase) (s above c upto : ℕ) (lift : LiftValues) (m : ℕ) → m ≡ 0 → IsLift (resolution_of table) (resolution_of sphere) s (bottom_of table.resolved +ℤ pos above) (class_of table sphere s above c) upto (greatest table m) (map_of lift)
lift_below table sphere s above c upto lift m none =
    let P : ℕ → Type 0 = λ m. IsLift (resolution_of table) (resolution_of sphere) s (bottom_of table.resolved +ℤ pos above) (class_of table sphere s above c) upto (greatest table m) (map_of lift) in
    let empty : P 0 = record {
      fit = λ k i h e g there low. absurd (no_generator table i g there low);
      start = λ g there low. absurd (no_generator table s g there low);
      commutes = λ k i j h e f g there low. absurd (no_generator table i g there low);
    } in
    subst P (sym none) empty

-- where it goes through no degree
pub lift_of_none : (table sphere : Staircase) → IsTable table → IsTable sphere → (s above c upto : ℕ) (lift : LiftValues) → lift.bottom ≡ bottom_of table.resolved → lift.rows ≡ [] → degrees_through table sphere s above upto ≡ 0 → IsLiftOver table sphere s above c upto lift
lift_of_none table sphere is_table is_sphere_table s above c upto lift bottom none zero_n =
    let x = bottom_of table.resolved +ℤ pos above in
    let z = class_of table sphere s above c in
    let lifted : (m far : ℕ) → AreReached table sphere s above upto m far → IsLift (resolution_of table) (resolution_of sphere) s x z upto (greatest table m) (map_of lift) = λ m far e.
    lift_below table sphere s above c upto lift m (omega arith) in
    record {
      bottom = bottom;
      rows = λ some. absurd (omega arith);
      values = λ k l. absurd (omega (arith, ap length none));
      is_lift = λ m far e a b. lifted m far e;
      chain_map = λ m far e a b. chain_map_of table sphere is_table is_sphere_table s x z upto (greatest table m) (map_of lift) (lifted m far e);
    }

shifted-sum : (above n : ℕ) → shifted_length above n ≤ above + n
shifted-sum above zero = omega arith
shifted-sum above (suc n) = omega arith

-- the tables have what it needs
pub reaches_all : (table sphere : Staircase) → IsTable table → IsTable sphere → (s above upto n far : ℕ) → above < length (row_in table.rows s) → n ≡ degrees_through table sphere s above upto → far ≡ length (row_in sphere.rows upto) → 0 < n → Reaches table sphere s above upto n far
reaches_all table sphere is_table is_sphere_table s above upto n far class_there n_is far_is some =
    let here = length (row_in table.rows (s + upto)) in
    let wide = shifted_length above (length (row_in sphere.rows upto)) in
    let left = min-le_left here wide in
    let right = min-le_right here wide in
    let there = row_within table.rows (s + upto) 0 (omega arith) in
    let shift = shifted-sum above (length (row_in sphere.rows upto)) in
    record { is_table = is_table; is_sphere_table = is_sphere_table; row = omega arith; some = some; here = omega arith; there = omega arith; enough = omega arith; class_there = class_there }

-- a lift without a row
pub made_empty : (table sphere : Staircase) (s above n far c : ℕ) (lift : LiftValues) → lift ≡ record { bottom = bottom_of table.resolved; rows = [] } → IsMade table sphere s above n far c 0 lift
made_empty table sphere s above n far c lift e = record { bottom = ap (λ (z : LiftValues). z.bottom) e; rows = ap (λ (z : LiftValues). length z.rows) e; values = λ k l. absurd (omega arith) }

module _ (minimal : CanonicalTableIsMinimalResolution) (modules : ModulesAreSteenrodModules) (table sphere : Staircase) (s above c upto n far : ℕ) (lift : LiftValues) (is_sphere : IsSphere (resolution_of sphere))
    (reaches : Reaches table sphere s above upto n far) (far_is : far ≡ length (row_in sphere.rows upto)) (n_is : n ≡ degrees_through table sphere s above upto) (class : c < count_of (resolution_of table) s above) (made : IsMade table sphere s above n far c (upto + 1) lift) where
  abbrev q : Resolution
  q = resolution_of sphere

  abbrev x : ℤ
  x = bottom_of table.resolved +ℤ pos above

  abbrev z : ℕ → List Bool
  z = class_of table sphere s above c

  -- as far as the squares are canonical
  lifted : (m most : ℕ) → AreReached table sphere s above upto m most → AreCanonical table (s + upto) m → AreCanonical sphere upto most → IsLift (resolution_of table) q s x z upto (greatest table m) (map_of lift)
  lifted m most e a b = elim (cases_eq m 0) [
    | inl none ↦ lift_below table sphere s above c upto lift m none
    | inr some ↦
        let t = m - 1 in
        let tq = most - 1 in
        let some_q = e.some (omega arith) in
        let class_there = reaches.class_there in
        let m_t : m ≡ t + 1 = omega arith in
        let most_t : most ≡ tq + 1 = omega arith in
        let inside : t < length (row_in table.rows (s + upto)) = omega arith in
        let inside_q : tq < length (row_in sphere.rows upto) = omega arith in
        let A : ℕ → Type 0 = λ m. AreCanonical table (s + upto) m in
        let B : ℕ → Type 0 = λ m. AreCanonical sphere upto m in
        let near_r : Range = record { s = s + upto; t = t } in
        let near_q : Range = record { s = upto; t = tq } in
        let p = is_resolved minimal (through near_r table) (s + upto) t (is_canonical table reaches.is_table near_r inside modules (subst A m_t a)) in
        let o = is_resolved minimal (through near_q sphere) upto tq (is_canonical sphere reaches.is_sphere_table near_q inside_q modules (subst B most_t b)) in
        let made_lift = is-lift table sphere reaches.is_table reaches.is_sphere_table is_sphere s above n far c (upto + 1) upto lift made reaches.here reaches.enough reaches.there (omega arith) t tq (omega arith) (omega arith) (omega arith) refl class_there class inside inside_q p o in
        let top_is : bottom_of table.resolved +ℤ pos t ≡ greatest table m = omega (arith, ints) in
        let R : ℤ → Type 0 = λ top. IsLift (resolution_of table) q s x (class_of table sphere s above c) upto top (map_of lift) in
        subst R top_is made_lift
  ]

  pub lift_of_made : IsLiftOver table sphere s above c upto lift
  lift_of_made = record {
    bottom = made.bottom;
    rows = λ some. made.rows;
    values = λ k l.
        let inside : k < upto + 1 = omega (arith, made.rows) in
        let v = made.values k inside in
        let Q : ℕ → Type 0 = λ n. AreValues table sphere s x n k (row_values lift k) in
        subst Q n_is (record { one_each = v.one_each; widths = λ g b. value-fits table sphere reaches.is_table reaches.is_sphere_table is_sphere s above n far c (upto + 1) upto lift made reaches.here reaches.enough reaches.there (omega arith) k g inside b });
    is_lift = lifted;
    chain_map = λ m most e a b. chain_map_of table sphere reaches.is_table reaches.is_sphere_table s x z upto (greatest table m) (map_of lift) (lifted m most e a b);
  }
