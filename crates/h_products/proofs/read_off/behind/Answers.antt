use Rattle.std.proofs.Common.{w32, arith}
use Rattle.std.proofs.lemmas.Int.{ints, to_z-of_z}
use Rattle.h_products.proofs.read_off.behind.Goals as goal

pub dim-width-requires : goal.dim-width-requires
dim-width-requires c = λ g l.
    let same = to_z-of_z w32 c.degree.result (record { sfits = c.degree.type_inv }) in
    let is = c.degree.ensures in
    let low = c.requires.not_below g l in
    let reach = c.basis.ensures c.args.s c.args.above c.requires.square in
    omega (arith, ints, same, is, low, reach)
