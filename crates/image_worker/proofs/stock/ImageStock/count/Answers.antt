use Rattle.std.proofs.Common.{◌≡◌, ℕ, ◌<◌, ◌≤◌, List, length, get_or, subst, ap, ◌∙◌, arith}
use Rattle.std.proofs.lemmas.List.{get_or_read}
use Rattle.std.specs.Arc.{arc_value}
use Rattle.square.specs.Squares.{over}
use Rattle.resolution_images.specs.BareRows.{BareRow, no_bare_row, bare_row_in}
use Rattle.image_worker.specs.Stocks.{ImageRows, extent_in, front_in, fronts_of, squares_done, IsGeneratorCount}
use Rattle.image_worker.proofs.Kept.{count_at, count_past, row_there}
use Rattle.image_worker.proofs.stock.ImageStock.count.Goals as goal

pub returns-then-place-counts-clause-count : goal.returns-then-place-counts-clause-count
returns-then-place-counts-clause-count c =
    let i = c.self.inside in
    let m = over (arc_value i.«module») in
    let e = extent_in i.shape i.range in
    let rows = i.rows.items in
    let done : c.args.above < fronts_of c.args.self.now c.args.s = omega (arith, c.if-from-done.false, c.done.ensures.front, c.from.ensures) in
    let here : c.args.above < front_in rows i.starts c.args.s = omega (arith, done, ap (λ (x : ImageRows). fronts_of x c.args.s) c.self.view_is) in
    let l : c.args.s ≤ i.range.s = row_there m e i.range.t rows i.starts _ c.self.invariant.2 c.args.s c.args.above here in
    let line_is : c.index.result.now ≡ bare_row_in rows c.args.s = get_or_read rows c.from-2.result c.index.result.now (omega (arith, c.self.invariant.2.count, l, c.from-2.ensures)) c.index.ensures no_bare_row ∙ ap (bare_row_in rows) c.from-2.ensures in
    let counts_are : c.counts-counts.result.now ≡ (bare_row_in rows c.args.s).counts = c.counts-counts.ensures ∙ ap (λ (x : BareRow). x.counts) line_is in
    let within : c.args.above < squares_done rows c.args.s = omega (arith, c.if-place-counts.true, c.from-place.ensures, ap length counts_are) in
    subst (λ (x : ImageRows). IsGeneratorCount x.subject c.args.s c.args.above (get_or c.counts-counts.result.now c.from-place.result 0)) c.self.view_is
    (λ table canonical.
    ap (λ (ns : List ℕ). get_or ns c.from-place.result 0) counts_are ∙ ap (λ k. get_or (bare_row_in rows c.args.s).counts k 0) c.from-place.ensures
    ∙ count_at c.rows_in_stems_are_whole.ensures m e i.range.t rows i.starts _ c.self.invariant.2 c.args.s c.args.above table canonical l within)

pub returns-clause-count : goal.returns-clause-count
returns-clause-count c =
    let i = c.self.inside in
    let m = over (arc_value i.«module») in
    let e = extent_in i.shape i.range in
    let rows = i.rows.items in
    let done : c.args.above < fronts_of c.args.self.now c.args.s = omega (arith, c.if-from-done.false, c.done.ensures.front, c.from.ensures) in
    let here : c.args.above < front_in rows i.starts c.args.s = omega (arith, done, ap (λ (x : ImageRows). fronts_of x c.args.s) c.self.view_is) in
    let l : c.args.s ≤ i.range.s = row_there m e i.range.t rows i.starts _ c.self.invariant.2 c.args.s c.args.above here in
    let line_is : c.index.result.now ≡ bare_row_in rows c.args.s = get_or_read rows c.from-2.result c.index.result.now (omega (arith, c.self.invariant.2.count, l, c.from-2.ensures)) c.index.ensures no_bare_row ∙ ap (bare_row_in rows) c.from-2.ensures in
    let counts_are : c.counts-counts.result.now ≡ (bare_row_in rows c.args.s).counts = c.counts-counts.ensures ∙ ap (λ (x : BareRow). x.counts) line_is in
    let past : squares_done rows c.args.s ≤ c.args.above = omega (arith, c.if-place-counts.false, c.from-place.ensures, ap length counts_are) in
    subst (λ (x : ImageRows). IsGeneratorCount x.subject c.args.s c.args.above 0) c.self.view_is
    (λ table canonical. count_past c.rows_in_stems_are_whole.ensures m e i.range.t rows i.starts _ c.self.invariant.2 c.args.s c.args.above table canonical l past here)
