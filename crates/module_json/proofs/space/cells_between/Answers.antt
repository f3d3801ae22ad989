use Rattle.std.proofs.Common.{◌≡◌, pos, neg_ℤ, ◌+ℤ◌, ◌-ℤ◌, to_z, of_z, w32, w64, Some, ap, sym, arith}
use Rattle.std.proofs.lemmas.Int.{ints, to_z-of_z}
use lib.IntN.{nat_abs}
use Rattle.module_json.proofs.Bounds.{bounds_fine, count_is, space_is}
use Rattle.module_json.proofs.space.cells_between.Goals as goal

pub overflow_cast-result : goal.overflow_cast-result
overflow_cast-result c =
    let a = to_z w64 (of_z w64 c.args.min) in
    let b = to_z w64 (of_z w64 c.args.max) in
    let fine = bounds_fine a b (sym c.in_ok-check_bounds.ensures) in
    let many = count_is a b fine.ordered in
    let few = fine.few in
    let low = fine.lowest in
    let high = fine.highest in
    let up = fine.ordered in
    omega (arith, ints)

pub overflow_sub-result : goal.overflow_sub-result
overflow_sub-result c =
    let a = to_z w64 (of_z w64 c.args.min) in
    let b = to_z w64 (of_z w64 c.args.max) in
    let fine = bounds_fine a b (sym c.in_ok-check_bounds.ensures) in
    let many = count_is a b fine.ordered in
    let few = fine.few in
    let low = fine.lowest in
    let high = fine.highest in
    let up = fine.ordered in
    omega (arith, ints)

pub overflow_add-result : goal.overflow_add-result
overflow_add-result c =
    let a = to_z w64 (of_z w64 c.args.min) in
    let b = to_z w64 (of_z w64 c.args.max) in
    let fine = bounds_fine a b (sym c.in_ok-check_bounds.ensures) in
    let many = count_is a b fine.ordered in
    let few = fine.few in
    let low = fine.lowest in
    let high = fine.highest in
    let up = fine.ordered in
    omega (arith, ints)

pub overflow_cast-result-2 : goal.overflow_cast-result-2
overflow_cast-result-2 c =
    let a = to_z w64 (of_z w64 c.args.min) in
    let b = to_z w64 (of_z w64 c.args.max) in
    let fine = bounds_fine a b (sym c.in_ok-check_bounds.ensures) in
    let many = count_is a b fine.ordered in
    let few = fine.few in
    let low = fine.lowest in
    let high = fine.highest in
    let up = fine.ordered in
    omega (arith, ints)

pub returns-clause-few : goal.returns-clause-few
returns-clause-few c =
    let a = to_z w64 (of_z w64 c.args.min) in
    let b = to_z w64 (of_z w64 c.args.max) in
    let fine = bounds_fine a b (sym c.in_ok-check_bounds.ensures) in
    let many = count_is a b fine.ordered in
    let few = fine.few in
    let low = fine.lowest in
    let high = fine.highest in
    let up = fine.ordered in
    omega (arith, ints)

pub returns-clause-lowest : goal.returns-clause-lowest
returns-clause-lowest c =
    let a = to_z w64 (of_z w64 c.args.min) in
    let b = to_z w64 (of_z w64 c.args.max) in
    let fine = bounds_fine a b (sym c.in_ok-check_bounds.ensures) in
    let many = count_is a b fine.ordered in
    let few = fine.few in
    let low = fine.lowest in
    let high = fine.highest in
    let up = fine.ordered in
    omega (arith, ints)

pub returns-clause-highest : goal.returns-clause-highest
returns-clause-highest c =
    let a = to_z w64 (of_z w64 c.args.min) in
    let b = to_z w64 (of_z w64 c.args.max) in
    let fine = bounds_fine a b (sym c.in_ok-check_bounds.ensures) in
    let many = count_is a b fine.ordered in
    let few = fine.few in
    let low = fine.lowest in
    let high = fine.highest in
    let up = fine.ordered in
    omega (arith, ints)

pub returns-clause-space : goal.returns-clause-space
returns-clause-space c =
    let a = to_z w64 (of_z w64 c.args.min) in
    let b = to_z w64 (of_z w64 c.args.max) in
    let fine = bounds_fine a b (sym c.in_ok-check_bounds.ensures) in
    let many = count_is a b fine.ordered in
    let few = fine.few in
    let low = fine.lowest in
    let high = fine.highest in
    let up = fine.ordered in
    let x = to_z w64 (of_z w64 (to_z w64 (of_z w64 (b -ℤ a)) +ℤ pos 1)) in
    let same : to_z w32 (of_z w32 a) ≡ a = omega (arith, ints) in
    let size : pos (nat_abs x) ≡ b +ℤ pos 1 +ℤ neg_ℤ a = omega (arith, ints) in
    let least : Some c.args.min ≡ Some a = ap Some (sym (to_z-of_z w64 c.args.min c.ranges.min)) in
    let most : Some c.args.max ≡ Some b = ap Some (sym (to_z-of_z w64 c.args.max c.ranges.max)) in
    space_is (Some c.args.min) (Some c.args.max) a b (to_z w32 (of_z w32 a)) (nat_abs x) least most (sym c.in_ok-check_bounds.ensures) same size
