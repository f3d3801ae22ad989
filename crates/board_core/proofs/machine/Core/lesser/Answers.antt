use Rattle.std.proofs.Common.{◌≡◌, ℕ, nat_lt, subst}
use Rattle.board_core.specs.Board.{Board, below_fronts, state_of}
use Rattle.board_core.proofs.RowsOut.{ready_at_front}
use Rattle.board_core.proofs.machine.Core.lesser.Goals as goal

pub returns-in_default-clause-some : goal.returns-in_default-clause-some
returns-in_default-clause-some c =
    let opens = c.is_open.ensures.yes c.if-not-is_open.false c.requires.running c.requires.no_cause in
    let at = subst (λ (b : Board). (j : ℕ) → below_fronts b.fronts c.args.s j ≡ nat_lt j c.front-front.result) c.self.view_is c.front-front.ensures.done in
    ready_at_front (state_of c.args.self.now) c.args.s opens.0 c.front-front.result at opens.1

pub returns-in_default-2-clause-some : goal.returns-in_default-2-clause-some
returns-in_default-2-clause-some c =
    let opens = c.is_open.ensures.yes c.if-not-is_open.false c.requires.running c.requires.no_cause in
    let at = subst (λ (b : Board). (j : ℕ) → below_fronts b.fronts c.args.s j ≡ nat_lt j c.front-front.result) c.self.view_is c.front-front.ensures.done in
    ready_at_front (state_of c.args.self.now) c.args.s opens.0 c.front-front.result at opens.1
