use Rattle.std.proofs.Common.{suc, ◌+◌, arith}
use Rattle.chain_map.proofs.rows.Course.next_row.Goals as goal

pub basis-requires : goal.basis-requires
basis-requires c =
    let self = c.args.self.now in
    (self.s + suc c.args.k, omega (arith, c.requires.reaches.here, c.requires.reaches.some))
