use Rattle.std.proofs.Common.{◌<◌, length, sym, subst, arith}
use Rattle.std.specs.Arc.{arc_value}
use Rattle.resolution_laws.specs.Resolution.{row_of}
use Rattle.square.specs.Squares.{over}
use Rattle.resolution_images.specs.BareRows.{BareTable, squares_of}
use Rattle.resolution_images.proofs.Contents.{row_within}
use Rattle.resolution_images.proofs.resolve.Images.basis.Goals as goal

pub returns : goal.returns
returns c = λ s k l.
    let im = c.self.inside in
    let m = arc_value im.resolved in
    let bare = c.rows_of_ranges_are_bare.ensures m im.range.s im.range.t im.rows.items c.self.invariant.2 in
    let there = subst (λ (x : BareTable). k < length (row_of (squares_of x.rows) s)) (sym c.self.view_is) l in
    let w = row_within (over m) im.range.s im.range.t im.rows.items bare.0 bare.1 s k there in
    omega (arith, w.2, c.self.invariant.1)
