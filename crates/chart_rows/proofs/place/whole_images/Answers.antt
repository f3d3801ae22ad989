use Rattle.std.proofs.Common.{◌≡◌, ap, sym, ◌∙◌}
use Rattle.std.proofs.lemmas.List.{get_or_read}
use Rattle.resolution_laws.specs.Resolution.{square_in}
use Rattle.resolution_images.specs.BareRows.{BareRow, no_bare_row, bare_row_in, contents_of, squares_of}
use Rattle.resolution_images.proofs.Contents.{row_of-squares}
use Rattle.chart_rows.proofs.Whole.{whole_more}
use Rattle.chart_rows.proofs.place.whole_images.Goals as goal

pub loop-j-preserved : goal.loop-j-preserved
loop-j-preserved c =
    let rows = c.args.rows.now in
    let s = c.args.s in
    let j = c.loop-j.j in
    let line : c.index-rows-s.result ≡ bare_row_in rows s = get_or_read rows s c.index-rows-s.result c.requires.row c.index-rows-s.is no_bare_row in
    let image = c.square.ensures ∙ ap (λ (x : BareRow). (square_in (contents_of x) j).images) line ∙ ap (λ z. (square_in z j).images) (sym (row_of-squares rows s)) in
    whole_more (squares_of rows) s c.args.n j c.new_in.result c.loop-j.images.items c.square.result.now c.push_padded.new.vectors.items c.loop-j.invariant c.new_in.ensures image c.in_ok-push_padded.ensures
