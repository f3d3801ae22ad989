use Rattle.std.proofs.Common.{◌≡◌, ◌+◌, ◌<◌, ◌≤◌, w32, to_z, of_z, FitsSigned, sym, subst, ap, ◌∙◌, arith, rules}
use Rattle.std.proofs.lemmas.Int.{to_z-of_z}
use Rattle.std.proofs.lemmas.List.{get_or_read}
use Rattle.std.specs.Arc.{arc_value}
use Rattle.square.specs.Squares.{over, bottom_of}
use Rattle.resolution_images.specs.BareRows.{no_bare_row, bare_row_in}
use Rattle.std.specs.Option.{option_map}
use Rattle.finite_module.specs.Checked.{Checked}
use Rattle.resolution_images.specs.Made.{IsMadeThrough, AreUnder, IsToCover}
use Rattle.image_worker.specs.Inside.Kept.{IsRange, AreFor}
use Rattle.resolution_images.proofs.Resolved.{a_table}
use Rattle.image_worker.specs.Stocks.{ImageRows, IsNextImage, HasKernel, extent_of, extent_in, squares_done}
use Rattle.image_worker.proofs.Kept.{some_row, squares_before}
use Rattle.image_worker.proofs.stock.ImageStock.inputs_at.Goals as goal

pub copy-requires-clause-row : goal.copy-requires-clause-row
copy-requires-clause-row c =
    let i = c.self.inside in
    let checked = arc_value i.«module» in
    let e = extent_in i.shape i.range in
    let kept = c.self.invariant.2 in
    let next = subst (λ (x : ImageRows). IsNextImage x c.args.s c.args.above) (sym c.self.view_is) c.requires.next in
    let fits : FitsSigned w32 c.bottom.result = search rules in
    let b_is : to_z w32 (of_z w32 c.bottom.result) ≡ bottom_of checked = to_z-of_z w32 c.bottom.result fits ∙ c.bottom.ensures.bottom ∙ ap bottom_of c.deref.ensures in
    let line_is : c.index.result.now ≡ bare_row_in i.rows.items c.from.result = get_or_read i.rows.items c.from.result c.index.result.now (omega (arith, kept.count, next.row, c.from.ensures)) c.index.ensures no_bare_row in
    let x = a_table c.canonical_table_exists.ensures checked e in
    let made = subst (IsMadeThrough (over checked) e c.from.result (squares_done i.rows.items c.from.result)) (sym line_is) (kept.made c.from.result (omega (arith, next.row, c.from.ensures))) in
    some_row (over checked) e c.from.result (squares_done i.rows.items c.from.result) c.index.result.now x.0 x.1 made _ b_is

pub invariant_of-result : goal.invariant_of-result
invariant_of-result c =
    let i = c.self.inside in
    let checked = arc_value i.«module» in
    let e = extent_in i.shape i.range in
    let kept = c.self.invariant.2 in
    let range = c.self.invariant.0 in
    let next = subst (λ (x : ImageRows). IsNextImage x c.args.s c.args.above) (sym c.self.view_is) c.requires.next in
    let basis_is : arc_value c.in-Ok-Ok.basis ≡ arc_value i.basis = c.in-Ok-Ok.ensures' in
    let module_is : arc_value c.in-Ok-Ok.«module» ≡ checked = c.in-Ok-Ok.ensures in
    let before = squares_before (over checked) e i.range.t i.rows.items i.starts _ kept c.args.s c.args.above next.next next.stem in
    let line_is : c.in_ok-row.row ≡ bare_row_in i.rows.items c.args.s = c.in_ok-row.ensures ∙ get_or_read i.rows.items c.from.result c.index.result.now (omega (arith, kept.count, next.row, c.from.ensures)) c.index.ensures no_bare_row ∙ ap (bare_row_in i.rows.items) c.from.ensures in
    let made : IsMadeThrough (over checked) e c.args.s c.args.above c.in_ok-row.row = subst (IsMadeThrough (over checked) e c.args.s c.args.above) (sym line_is) (subst (λ j. IsMadeThrough (over checked) e c.args.s j (bare_row_in i.rows.items c.args.s)) before.0 (kept.made c.args.s next.row)) in
    let under = subst (λ (x : ImageRows). AreUnder (over x.subject.resolved) (extent_of x.subject) c.args.s c.args.above c.in_ok-under.under) (sym c.self.view_is) c.in_ok-under.ensures in
    let covers = subst (λ (x : ImageRows). 0 < c.args.s → c.args.above ≤ (extent_of x.subject).n + c.args.s → HasKernel (option_map arc_value c.in_ok-below.below) (IsToCover (over x.subject.resolved) (extent_of x.subject) c.args.s c.args.above)) (sym c.self.view_is) c.in_ok-below.ensures.covers in (
      subst (IsRange i.shape i.range) (sym basis_is) range,
      next.degree,
      subst (λ (x : Checked). AreFor (over x) e c.args.s c.args.above c.in_ok-row.row c.in_ok-under.under (option_map arc_value c.in_ok-below.below)) (sym module_is)
          (record {
            row_is = next.row;
            stem_is = next.stem;
            made = made;
            under_is = under;
            first = c.in_ok-below.ensures.first;
            covers = covers;
          }),
    )
