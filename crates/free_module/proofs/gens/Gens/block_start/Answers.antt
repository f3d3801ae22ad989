use Rattle.std.proofs.Common.{◌≡◌, ◌-ℤ◌, ◌<◌, length, to_z, of_z, w32, ap, arith}
use Rattle.std.proofs.lemmas.Int.{ints}
use Rattle.milnor_product.specs.Times.{basis_at}
use Rattle.free_module.specs.FreeModule.{degree_at}
use Rattle.free_module.proofs.FreeBasis.{start_within, start_more}
use Rattle.free_module.proofs.gens.Gens.block_start.Goals as goal

pub overflow_add-start : goal.overflow_add-start
overflow_add-start c =
    let ds = c.args.self.now in
    let g = c.loop-g.g in
    let tt : to_z w32 (of_z w32 c.args.t) ≡ c.args.t = omega (arith, ints) in
    let h : g < length ds = omega arith in
    let so_far = simp tt at c.loop-g.invariant in
    let block : length c.block.result.now ≡ length (basis_at (c.args.t -ℤ degree_at ds g)) = simp tt at (ap length c.block.ensures) in
    omega (arith, start_within ds c.args.t g h)

pub loop-g-preserved : goal.loop-g-preserved
loop-g-preserved c =
    let ds = c.args.self.now in
    let g = c.loop-g.g in
    let tt : to_z w32 (of_z w32 c.args.t) ≡ c.args.t = omega (arith, ints) in
    let h : g < length ds = omega arith in
    let so_far = simp tt at c.loop-g.invariant in
    let block : length c.block.result.now ≡ length (basis_at (c.args.t -ℤ degree_at ds g)) = simp tt at (ap length c.block.ensures) in
    simp tt (omega (arith, start_more ds c.args.t g h))
