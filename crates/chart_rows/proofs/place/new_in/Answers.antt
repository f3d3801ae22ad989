use Rattle.std.proofs.Common.{◌≡◌, suc, ◌-◌, length, ap, sym, ◌∙◌, arith}
use Rattle.std.proofs.lemmas.List.{get_or_read}
use Rattle.resolution_laws.specs.Resolution.{square_in}
use Rattle.resolution_images.specs.BareRows.{BareRow, no_bare_row, bare_row_in, contents_of}
use Rattle.resolution_images.proofs.Contents.{row_of-squares}
use Rattle.chart_rows.proofs.Looking.{new_none, new_some}
use Rattle.chart_rows.proofs.place.new_in.Goals as goal

pub returns-then-counts-j : goal.returns-then-counts-j
returns-then-counts-j c =
    let rows = c.args.rows.now in
    let i = c.args.s - 1 in
    let above : c.args.s ≡ suc i = omega (arith, c.if-s-eq0.false) in
    let line : c.index-rows-s.result ≡ bare_row_in rows i = get_or_read rows i c.index-rows-s.result (omega (arith, c.requires)) c.index-rows-s.is no_bare_row in
    new_none rows c.args.s i c.args.n c.args.j above (omega (arith, ap (λ (x : BareRow). length x.counts) line, ap length c.counts.ensures, c.if-counts-j.true))

pub returns : goal.returns
returns c =
    let rows = c.args.rows.now in
    let i = c.args.s - 1 in
    let above : c.args.s ≡ suc i = omega (arith, c.if-s-eq0.false) in
    let line : c.index-rows-s.result ≡ bare_row_in rows i = get_or_read rows i c.index-rows-s.result (omega (arith, c.requires)) c.index-rows-s.is no_bare_row in
    ap length (c.square.ensures ∙ ap (λ (x : BareRow). (square_in (contents_of x) c.args.j).images) line ∙ ap (λ z. (square_in z c.args.j).images) (sym (row_of-squares rows i)))
    ∙ new_some rows c.args.s i c.args.n c.args.j above (omega (arith, c.if-n-j.false))
