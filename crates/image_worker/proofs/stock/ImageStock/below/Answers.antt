use Rattle.std.proofs.Common.{◌+◌, ◌≤◌, Option, Some, None, get_or, sym, subst, ap, ◌∙◌, arith}
use Rattle.std.proofs.lemmas.List.{get_or_read}
use Rattle.std.specs.Option.{option_map}
use Rattle.std.specs.Arc.{arc_value}
use Rattle.f2_matrix.specs.Reduction.{Rows}
use Rattle.square.specs.Squares.{over}
use Rattle.resolution_images.specs.Made.{IsToCover}
use Rattle.image_worker.specs.Stocks.{ImageRows, IsNextImage, HasKernel, extent_of, extent_in}
use Rattle.image_worker.proofs.Kept.{slot_at}
use Rattle.image_worker.proofs.stock.ImageStock.below.Goals as goal

pub returns-in_default-clause-covers : goal.returns-in_default-clause-covers
returns-in_default-clause-covers c = λ some square.
    let i = c.self.inside in
    let next = subst (λ (x : ImageRows). IsNextImage x c.args.s c.args.above) (sym c.self.view_is) c.requires.next in
    let here = subst (λ (x : ImageRows). c.args.above ≤ (extent_of x.subject).n + c.args.s) (sym c.self.view_is) square in
    let lies = slot_at (over (arc_value i.«module»)) (extent_in i.shape i.range) i.range.t i.rows.items i.starts _ c.self.invariant.2 c.args.s c.args.above next.row some next.next (λ j e. next.below j e here) in
    let read = get_or_read i.kernels.items c.from.result c.index.result.now (omega (arith, c.from.ensures, c.self.invariant.1, next.degree)) c.index.ensures None ∙ ap (λ k. get_or i.kernels.items k None) c.from.ensures in
    subst (λ (x : ImageRows). HasKernel None (IsToCover (over x.subject.resolved) (extent_of x.subject) c.args.s c.args.above)) c.self.view_is
    (subst (λ (o : Option Rows). HasKernel o (IsToCover (over (arc_value i.«module»)) (extent_in i.shape i.range) c.args.s c.args.above)) (sym (ap (option_map arc_value) read) ∙ ap (option_map arc_value) c.in_default.is) lies)

pub returns-in-Ok-clause-covers : goal.returns-in-Ok-clause-covers
returns-in-Ok-clause-covers c = λ some square.
    let i = c.self.inside in
    let next = subst (λ (x : ImageRows). IsNextImage x c.args.s c.args.above) (sym c.self.view_is) c.requires.next in
    let here = subst (λ (x : ImageRows). c.args.above ≤ (extent_of x.subject).n + c.args.s) (sym c.self.view_is) square in
    let lies = slot_at (over (arc_value i.«module»)) (extent_in i.shape i.range) i.range.t i.rows.items i.starts _ c.self.invariant.2 c.args.s c.args.above next.row some next.next (λ j e. next.below j e here) in
    let read = get_or_read i.kernels.items c.from.result c.index.result.now (omega (arith, c.from.ensures, c.self.invariant.1, next.degree)) c.index.ensures None ∙ ap (λ k. get_or i.kernels.items k None) c.from.ensures in
    subst (λ (x : ImageRows). HasKernel (Some (arc_value c.in-Ok.kernel)) (IsToCover (over x.subject.resolved) (extent_of x.subject) c.args.s c.args.above)) c.self.view_is
    (subst (λ (o : Option Rows). HasKernel o (IsToCover (over (arc_value i.«module»)) (extent_in i.shape i.range) c.args.s c.args.above)) (sym (ap (option_map arc_value) read) ∙ ap (option_map arc_value) c.in-Some.is ∙ ap Some (sym c.in-Ok.ensures)) lies)
