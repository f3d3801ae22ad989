use Rattle.std.proofs.Common.{sym, subst, arith}
use Rattle.bidegree.specs.declared.range.Range.{Range}
use Rattle.board_core.specs.Machine.{IsStaircase, stands_in}
use Rattle.square_board.specs.Openings.{below_fronts}
use Rattle.image_worker.specs.Stocks.{fronts_of}
use Rattle.image_worker.proofs.Shapes.{stairs}
use Rattle.image_worker.proofs.on_board.ImageStockStock.rows.Goals as goal

pub returns-clause-stairs : goal.returns-clause-stairs
returns-clause-stairs c = λ range is.
    let o = c.args.self.now.subject in
    let f = fronts_of c.args.self.now in
    let r = c.row_count.ensures in
    subst (λ (x : Range). IsStaircase (stands_in o.shape x.s x.t) (below_fronts f)) (sym is)
    (stairs o.shape o.range f r.stems (λ i l. r.past i (omega (arith, l, r.rows))) (λ i k l a b. r.falls i k (omega (arith, l, r.rows)) a b) (λ i l. r.within i (omega (arith, l, r.rows))))
