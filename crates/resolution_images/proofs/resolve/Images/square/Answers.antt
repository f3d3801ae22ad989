use Rattle.std.proofs.Common.{◌≡◌, ◌<◌, ℕ, Bool, List, length, pos, ◌+ℤ◌, ap, sym, subst, ◌∙◌, arith}
use Rattle.std.proofs.lemmas.List.{get_or_read}
use Rattle.f2_vec.specs.Spans.{HaveWidth}
use Rattle.std.specs.Arc.{arc_value}
use Rattle.resolution_laws.specs.Resolution.{Content, row_of, square_in}
use Rattle.resolution_laws.specs.Exactness.{target_of}
use Rattle.square.specs.Squares.{over, bottom_of}
use Rattle.resolution_images.specs.BareRows.{BareRow, BareTable, no_bare_row, bare_row_in, contents_of, squares_of}
use Rattle.resolution_images.proofs.Contents.{length-row, row_there, row_within, row_of-squares, square_widths}
use Rattle.resolution_images.proofs.resolve.Images.square.Goals as goal

-- a square of what contracts see is there
there : (x y : BareTable) (s k : ℕ) → x ≡ y → k < length (row_of (squares_of y.rows) s) → k < length (row_of (squares_of x.rows) s)
there x y s k e l = subst (λ (z : BareTable). k < length (row_of (squares_of z.rows) s)) (sym e) l

pub square-requires : goal.square-requires
square-requires c =
    let rows = c.self.inside.rows.items in
    let s = c.args.s in
    let len = length-row rows s in
    let l = there _ _ s c.args.k c.self.view_is c.requires in
    let at : c.index.result.now ≡ bare_row_in rows c.from.result = get_or_read rows c.from.result c.index.result.now (omega (arith, c.from.ensures, row_there rows s c.args.k l)) c.index.ensures no_bare_row in
    omega (arith, l, c.from-2.ensures, ap (λ (x : BareRow). length x.counts) (at ∙ ap (bare_row_in rows) c.from.ensures))

-- what is handed out
images_are : (c : goal.After-square) → c.square.result.now ≡ (square_in (row_of (squares_of c.self.inside.rows.items) c.args.s) c.args.k).images
images_are c =
    let rows = c.self.inside.rows.items in
    let s = c.args.s in
    let l = row_there rows s c.args.k (there _ _ c.args.s c.args.k c.self.view_is c.requires) in
    let at : c.index.result.now ≡ bare_row_in rows s = get_or_read rows c.from.result c.index.result.now (omega (arith, c.from.ensures)) c.index.ensures no_bare_row ∙ ap (bare_row_in rows) c.from.ensures in
    c.square.ensures ∙ ap (λ (n : ℕ). (square_in (contents_of c.index.result.now) n).images) c.from-2.ensures ∙ ap (λ (x : BareRow). (square_in (contents_of x) c.args.k).images) at ∙ ap (λ (x : List Content). (square_in x c.args.k).images) (sym (row_of-squares rows s))

pub returns-clause-images : goal.returns-clause-images
returns-clause-images c = images_are c ∙ ap (λ (x : BareTable). (square_in (row_of (squares_of x.rows) c.args.s) c.args.k).images) c.self.view_is

pub returns-clause-widths : goal.returns-clause-widths
returns-clause-widths c =
    let im = c.self.inside in
    let m = arc_value im.resolved in
    let rows = im.rows.items in
    let bare = c.rows_of_ranges_are_bare.ensures m im.range.s im.range.t im.rows.items c.self.invariant.2 in
    let wide = square_widths (over m) im.range.s im.range.t rows bare.0 bare.1 c.args.s c.args.k (there _ _ c.args.s c.args.k c.self.view_is c.requires) in
    let here = subst (λ (x : List (List Bool)). HaveWidth ((target_of (over m) (squares_of rows) c.args.s).width (bottom_of m +ℤ pos c.args.k)) x) (sym (images_are c)) wide in
    subst (λ (x : BareTable). HaveWidth ((target_of (over x.resolved) (squares_of x.rows) c.args.s).width (bottom_of x.resolved +ℤ pos c.args.k)) c.square.result.now) c.self.view_is here

pub returns-clause-degree : goal.returns-clause-degree
returns-clause-degree c =
    let im = c.self.inside in
    let m = arc_value im.resolved in
    let bare = c.rows_of_ranges_are_bare.ensures m im.range.s im.range.t im.rows.items c.self.invariant.2 in
    let w = row_within (over m) im.range.s im.range.t im.rows.items bare.0 bare.1 c.args.s c.args.k (there _ _ c.args.s c.args.k c.self.view_is c.requires) in
    omega (arith, w.2, c.self.invariant.0)
