use Rattle.std.proofs.Common.{◌≡◌, ◌++◌, List, Bool, map, to_z, of_z, w32, ap, sym, ◌∙◌, arith}
use Rattle.std.proofs.lemmas.Int.{to_z-of_z}
use Rattle.std.proofs.lemmas.List.{get_or_read}
use Rattle.f2_vec.specs.Vectors.{zeros}
use Rattle.resolution_laws.specs.Resolution.{square_in}
use Rattle.resolution_laws.proofs.Rows.{at_most-row}
use Rattle.square.specs.Squares.{over, bottom_of}
use Rattle.resolution_images.specs.BareRows.{BareRow, no_bare_row, bare_row_in, contents_of, squares_of}
use Rattle.resolution_images.proofs.Contents.{row_of-squares}
use Rattle.chart_rows.specs.Standing.{whole_row}
use Rattle.chart_rows.proofs.Whole.{length-whole_row}
use Rattle.chart_rows.proofs.Within.{whole_line}
use Rattle.chart_rows.proofs.extent.whole_row.Goals as goal

pub push-requires : goal.push-requires
push-requires c =
    let squares = squares_of c.args.rows.now in
    let j = c.loop-j.j in
    let at = to_z-of_z w32 c.degree.result (record { sfits = c.degree.type_inv }) ∙ c.degree.ensures in
    record {
      not_below = at_most-row (bottom_of c.args.module.now) (whole_row squares c.args.s c.args.n j) j c.loop-j.row.degrees (to_z w32 (of_z w32 c.degree.result)) at c.loop-j.invariant.degrees (length-whole_row squares c.args.s c.args.n j);
    }

pub loop-j-preserved : goal.loop-j-preserved
loop-j-preserved c =
    let rows = c.args.rows.now in
    let s = c.args.s in
    let j = c.loop-j.j in
    let at = to_z-of_z w32 c.degree.result (record { sfits = c.degree.type_inv }) ∙ c.degree.ensures in
    let line : c.index-rows-s.result ≡ bare_row_in rows s = get_or_read rows s c.index-rows-s.result (omega (arith, c.requires.rows.count, c.requires.row)) c.index-rows-s.is no_bare_row in
    let image = c.square.ensures ∙ ap (λ (x : BareRow). (square_in (contents_of x) j).images) line ∙ ap (λ z. (square_in z j).images) (sym (row_of-squares rows s)) in
    let put = c.in_ok-push_padded.ensures ∙ ap (λ (z : List (List Bool)). z ++ map (λ v. v ++ zeros c.new_in.result) c.square.result.now) c.new-images.ensures.items in
    whole_line (over c.args.module.now) rows s c.args.n j c.new_in.result c.loop-j.row c.push.new.self (to_z w32 (of_z w32 c.degree.result)) c.square.result.now c.push_padded.new.vectors.items c.loop-j.invariant at c.new_in.ensures image put c.in_ok-push.ensures.ok
