use Rattle.std.proofs.Common.{◌≡◌, ◌<◌, length, ap, sym, ◌∙◌, arith}
use Rattle.std.proofs.lemmas.List.{get_or_read}
use Rattle.std.specs.Arc.{arc_value}
use Rattle.resolution_laws.specs.Resolution.{row_of}
use Rattle.square.specs.Squares.{over}
use Rattle.resolution_images.specs.BareRows.{BareRow, BareTable, squares_of, no_bare_row, bare_row_in}
use Rattle.resolution_images.proofs.Contents.{length-row, row_short, row_past}
use Rattle.resolution_images.proofs.resolve.Images.front.Goals as goal

pub returns-then-s-len-clause-front : goal.returns-then-s-len-clause-front
returns-then-s-len-clause-front c =
    let rows = c.self.inside.rows.items in
    let l : c.args.s < length rows = omega (arith, c.if-s-len.true, c.from-s.ensures) in
    let at : c.index.result.now ≡ bare_row_in rows c.args.s = get_or_read rows c.from-s.result c.index.result.now (omega (arith, c.from-s.ensures)) c.index.ensures no_bare_row ∙ ap (bare_row_in rows) c.from-s.ensures in
    ap length c.counts.ensures ∙ ap (λ (x : BareRow). length x.counts) at ∙ sym (length-row rows c.args.s) ∙ ap (λ (x : BareTable). length (row_of (squares_of x.rows) c.args.s)) c.self.view_is

pub returns-then-s-len-clause-short : goal.returns-then-s-len-clause-short
returns-then-s-len-clause-short c =
    let im = c.self.inside in
    let m = arc_value im.resolved in
    let rows = im.rows.items in
    let l : c.args.s < length rows = omega (arith, c.if-s-len.true, c.from-s.ensures) in
    let at : c.index.result.now ≡ bare_row_in rows c.args.s = get_or_read rows c.from-s.result c.index.result.now (omega (arith, c.from-s.ensures)) c.index.ensures no_bare_row ∙ ap (bare_row_in rows) c.from-s.ensures in
    let bare = c.rows_of_ranges_are_bare.ensures m im.range.s im.range.t rows c.self.invariant.2 in
    let short = row_short (over m) im.range.s im.range.t rows bare.0 bare.1 c.args.s in
    omega (arith, ap length c.counts.ensures, ap (λ (x : BareRow). length x.counts) at, length-row rows c.args.s, c.self.invariant.0)

pub returns-clause-front : goal.returns-clause-front
returns-clause-front c = sym (row_past c.self.inside.rows.items c.args.s (omega (arith, c.if-s-len.false, c.from-s.ensures))) ∙ ap (λ (x : BareTable). length (row_of (squares_of x.rows) c.args.s)) c.self.view_is
