use Rattle.std.proofs.Common.{◌≡◌, ◌-ℤ◌, pos, length, slice_index_or, to_z, of_z, w32, w64, ap, ◌∙◌, arith, rules}
use Rattle.std.proofs.lemmas.Int.{ints}
use Rattle.milnor_product.specs.Times.{basis_at}
use Rattle.free_module.proofs.BlockSteps.{length-rest}
use Rattle.free_module.proofs.gens.Gens.dim_in.Goals as goal
use mir.Val.{SFits}

pub loop-degree-preserved : goal.loop-degree-preserved
loop-degree-preserved c =
    let k = c.loop-degree.degree-index in
    let ds = c.degrees-degree-items.result.now in
    let d = slice_index_or ds k (pos 0) in
    let fd : SFits w32 d = search rules in
    let tt : to_z w64 (of_z w64 c.args.t) ≡ c.args.t = omega (arith, ints) in
    let z : to_z w64 (of_z w64 (to_z w64 (of_z w64 c.args.t) -ℤ to_z w64 (of_z w64 c.from.result))) ≡ c.args.t -ℤ d = omega (arith, ints) in
    let b : c.elements_at.result.now ≡ basis_at (c.args.t -ℤ d) = c.elements_at.ensures ∙ ap basis_at z in
    let l = ap length b in
    let m = length-rest ds c.args.t k c.loop-degree-test.true in
    let l' = rw c.degrees-degree-items.ensures at l in
    let m' = rw c.degrees-degree-items.ensures at m in
    let i = simp tt at c.loop-degree.invariant.rest in
    record {
      fits = omega arith;
      rest = simp tt (omega arith);
    }
