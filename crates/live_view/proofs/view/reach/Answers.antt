use Rattle.std.proofs.Common.{◌≡◌, length, arith}
use Rattle.std.specs.Prelude.{vec_len}
use Rattle.live_view.proofs.Rows.{reach_same}
use Rattle.live_view.proofs.view.reach.Goals as goal

pub returns-clause-same : goal.returns-clause-same
returns-clause-same c =
    let size : vec_len c.args.rows.now ≡ length c.args.rows.now.items = omega (arith, c.args.rows.now.ok) in
    reach_same c.args.rows.now.items _ c.args.s (vec_len c.args.rows.now) size (omega arith) c.requires.row c.in-Ok.ensures.items
