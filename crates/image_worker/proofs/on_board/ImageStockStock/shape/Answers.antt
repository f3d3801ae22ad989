use Rattle.std.proofs.Common.{◌≤◌, sym, subst, ◌∙◌}
use Rattle.bidegree.specs.declared.range.Range.{Range}
use Rattle.bidegree.specs.declared.shape.Shape.{Shape}
use Rattle.image_worker.specs.Stocks.{HasStems}
use Rattle.image_worker.proofs.on_board.ImageStockStock.shape.Goals as goal

pub returns-clause-corner : goal.returns-clause-corner
returns-clause-corner c = λ range is stems.
    let here = subst (λ (x : Shape). HasStems x c.args.self.now.subject.range) (sym c.shape_of_range.ensures.shape ∙ stems) c.shape_of_range.ensures.stems in
    subst (λ (x : Range). x.s ≤ x.t) (sym is) here
