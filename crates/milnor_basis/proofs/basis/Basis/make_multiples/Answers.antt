use Rattle.std.proofs.Common.{arith}
use Rattle.milnor_basis.proofs.Places.{degree_of-read}
use Rattle.milnor_basis.proofs.basis.Basis.make_multiples.Goals as goal

pub multiples-requires : goal.multiples-requires
multiples-requires c =
    let d = degree_of-read c.args.right c.loop-i.i c.of_degree-elements.result.now c.index-elements-i.result c.of_degree-elements.ensures c.loop-i-test.true c.index-elements-i.is in
    omega arith
