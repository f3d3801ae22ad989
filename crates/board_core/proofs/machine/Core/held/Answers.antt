use Rattle.std.proofs.Common.{◌≡◌, true, sym, ◌∙◌, ap, subst, List}
use Rattle.board_core.specs.declared.event.Out.{Out}
use Rattle.board_core.specs.Board.{Board, IsTaken, state_of}
use Rattle.board_core.specs.Machine.{has_entry}
use Rattle.board_core.proofs.Sound.{held_is_out}
use Rattle.board_core.proofs.machine.Core.held.Goals as goal

pub returns-clause-taken : goal.returns-clause-taken
returns-clause-taken c =
    let who = c.args.who in
    let s = c.args.s in
    let k = c.in_ok-above.above in
    let held : has_entry c.self.inside.out.items who s k ≡ true = ap (λ (l : List Out). has_entry l who s k) (sym c.deref.ensures.value) ∙ sym c.has_entry.ensures ∙ c.if-not-has_entry.false in
    let taken = c.self.invariant.sound.taken s k (held_is_out c.self.inside.out.items who s k held) in
    subst (λ (b : Board). IsTaken (state_of b) s k) c.self.view_is taken
