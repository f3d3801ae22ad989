use Rattle.std.proofs.Common.{◌∙◌}
use Rattle.square_board.proofs.Ended.{unbegun}
use Rattle.square_board.proofs.workers.no_board.Goals as goal

pub returns : goal.returns
returns g c workers =
    let stock = c.args.stock.now in
    let range = c.args.range in
    let reached = c.requires.reached in
    unbegun g.T.Stock.words c.of-first.result stock range c.rows-rows.result c.of-first.ensures c.requires.rows c.requires.degrees reached (λ stems. c.shape-shape.ensures.corner range reached (c.shape-shape.ensures.shape ∙ stems)) c.rows-rows.ensures.rows (c.rows-rows.ensures.stairs range reached) c.requires.takes workers
