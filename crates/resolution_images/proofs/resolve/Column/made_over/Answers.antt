use Rattle.std.proofs.Common.{refl, arith}
use Rattle.std.proofs.lemmas.List.{get_or_read}
use Rattle.square.specs.Squares.{over}
use Rattle.resolution_images.specs.BareRows.{no_bare_row}
use Rattle.resolution_images.proofs.Standing.{line_next, under_done}
use Rattle.resolution_images.proofs.resolve.Column.made_over.Goals as goal

pub made-requires-clause-here : goal.made-requires-clause-here
made-requires-clause-here c =
    let s = c.args.s in
    let lines = c.args.rows.now in
    let is = get_or_read lines s c.index-rows-s.result c.requires.row c.index-rows-s.is no_bare_row in
    line_next (over c.args.self.now.module.now) c.args.self.now.extent s s c.args.self.now.k lines c.index-rows-s.result c.requires.through refl c.requires.row is

pub made-requires-clause-under : goal.made-requires-clause-under
made-requires-clause-under c =
    under_done (over c.args.self.now.module.now) c.args.self.now.extent c.args.s c.args.s c.args.self.now.k c.args.rows.now c.under.result.now c.requires.through (omega arith) (omega (arith, c.requires.row)) c.under.ensures
