use Rattle.std.proofs.Common.{ℕ, ◌+◌, set, sym, subst}
use Rattle.bidegree.specs.declared.range.Range.{Range}
use Rattle.square_board.specs.Stocks.{IsNextPlace}
use Rattle.board_tests.specs.Numbers.{NumbersState, AreNumbers, front_in}
use Rattle.board_tests.proofs.NumbersMore.{numbers_more}
use Rattle.board_tests.proofs.numbers.NumbersStock.put.Goals as goal

pub invariant_of-self : goal.invariant_of-self
invariant_of-self c =
    let inside = c.self.inside in
    let now = c.args.self.now in
    let s = c.args.s in
    let k = c.args.above in
    let next = c.requires.next in
    let at = subst (λ (r : Range). IsNextPlace now.subject.0 r (front_in now.fronts) s k) (sym next.reached) next.place in
    let here = subst (λ (n : NumbersState). IsNextPlace n.subject.0 n.subject.1 (front_in n.fronts) s k) (sym c.self.view_is) at in
    let more = numbers_more inside.subject inside.fronts.items s k c.self.invariant here in
    let row = subst (λ (n : ℕ). AreNumbers inside.subject (set inside.fronts.items n (k + 1))) (sym c.from-2.ensures) more in
    subst (λ (n : ℕ). AreNumbers inside.subject (set inside.fronts.items c.from-2.result (n + 1))) (sym c.from.ensures) row
