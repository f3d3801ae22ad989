use Rattle.std.proofs.Common.{◌≡◌, ◌<◌, ℤ, pos, ◌+ℤ◌, w32, to_z, of_z, arith}
use Rattle.std.proofs.lemmas.Int.{ints}
use Rattle.board_core.specs.Machine.{stands_in}
use Rattle.square_board.proofs.Starts.{part_more}
use Rattle.square_board.proofs.opening.push_row.Goals as goal

pub loop-k-preserved : goal.loop-k-preserved
loop-k-preserved g c =
    let w = g.T.Stock.words in
    let stock = c.args.stock.now in
    let low : ℤ = w.bottom (w.subject stock) in
    let bottom : c.bottom-bottom.result ≡ low = c.bottom-bottom.ensures.bottom in
    let front = c.front-k-end.ensures.front in
    let short = c.front-k-end.ensures.short in
    let fits = c.front-k-end.ensures.fits in
    let test : c.loop-k.k < c.front-k-end.result = c.loop-k-test.true in
    let t : ℤ = to_z w32 (of_z w32 (to_z w32 (of_z w32 c.bottom-bottom.result) +ℤ to_z w32 c.loop-k.k)) in
    let at : t ≡ low +ℤ pos c.loop-k.k = omega (arith, ints) in
    part_more (stands_in (w.shape (w.subject stock)) c.args.range.s c.args.range.t) low (w.fronts stock) c.loop-k.squares.items c.push.new.self.items c.args.s c.loop-k.k t c.requires.stairs c.loop-k.invariant (omega arith) at c.in_ok-push.ensures.items
