use Rattle.std.proofs.Common.{◌+◌, ◌<◌, sym, subst, ap, ◌∙◌}
use Rattle.std.specs.Arc.{arc_value}
use Rattle.square.specs.Squares.{over}
use Rattle.resolution_images.proofs.Making.{line_ended}
use Rattle.image_worker.specs.Stocks.{ImagePlace, extent_of, extent_in}
use Rattle.image_worker.proofs.Made.{made_as}
use Rattle.image_worker.proofs.inputs.ImageInputs.start.Goals as goal

pub kernel-requires-clause-here : goal.kernel-requires-clause-here
kernel-requires-clause-here c =
    let i = c.self.inside in
    let e = extent_in i.shape i.range in
    let is = c.self.invariant.2 in
    let past : e.n + i.s < i.above = subst (λ (p : ImagePlace). (extent_of p.subject).n + p.s < p.above) (sym c.self.view_is) c.requires.start in
    let made = line_ended c.rows_in_stems_are_whole.ensures (over (arc_value i.«module»)) e i.s i.above i.row is.row_is past is.made in
    made_as (arc_value i.«module») c.column.result.«module».now e c.column.result.extent i.s c.from.result i.above c.column.result.k i.row
    (c.column.ensures.resolved ∙ sym (ap (λ (p : ImagePlace). p.subject.resolved) c.self.view_is))
    (c.column.ensures.extent ∙ sym (ap (λ (p : ImagePlace). extent_of p.subject) c.self.view_is))
    c.from.ensures
    (c.column.ensures.degree ∙ sym (ap (λ (p : ImagePlace). p.above) c.self.view_is))
    made
