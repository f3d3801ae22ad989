use Rattle.square_board.specs.Inside.Starts.{ListsPart}
use Rattle.board_core.specs.Machine.{stands_in}
use Rattle.square_board.proofs.opening.squares_of.Given as goal

abbrev pub invariant-loop-s : goal.invariant-loop-s
invariant-loop-s g l = ListsPart (stands_in (g.T.Stock.words.shape (g.T.Stock.words.subject l.stock)) l.fn.range.s l.fn.range.t) (g.T.Stock.words.bottom (g.T.Stock.words.subject l.stock)) l.squares.items (g.T.Stock.words.fronts l.stock) l.s 0
