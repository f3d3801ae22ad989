use Rattle.std.proofs.Common.{◌≡◌, true, ◌||◌, sym, ◌∙◌, ap, subst}
use Rattle.board_core.specs.Board.{Board, IsTaken, state_of}
use Rattle.board_core.specs.Machine.{has_failed, is_out}
use Rattle.board_core.proofs.Filed.{begun_is_taken}
use Rattle.board_core.proofs.machine.Core.begun.Goals as goal

pub returns-clause-taken : goal.returns-clause-taken
returns-clause-taken c =
    let s = c.args.s in
    let k = c.in_ok-above.above in
    let begun : (is_out c.self.inside.out.items s k || has_failed c.self.inside.failed s k) ≡ true = ap (λ (b : Board). is_out b.out s k || has_failed b.failed s k) c.self.view_is ∙ sym c.is_begun.ensures ∙ c.if-not-is_begun.false in
    subst (λ (b : Board). IsTaken (state_of b) s k) c.self.view_is (begun_is_taken _ s k c.self.invariant.sound begun)
