use Rattle.std.proofs.Common.{◌≡◌, ◌*◌, ◌^◌, ◌%◌, ◌<◌, arith}
use Rattle.std.proofs.lemmas.Nat.{one_shl, pow_below}
use Rattle.milnor_basis.proofs.all_products.Row.begun.Goals as goal

pub nonzero_div-result : goal.nonzero_div-result
nonzero_div-result c =
    let weight : 1 * 2 ^ c.args.row % 2 ^ 16 ≡ 2 ^ c.args.row = one_shl c.args.row 16 (omega arith) in
    let above : 2 ^ 0 < 2 ^ c.args.row = pow_below 0 c.args.row (omega arith) in
    rw weight (omega arith)
