-- A pass that was just made has no square out.
use Rattle.std.proofs.Common.{◌≡◌, ℕ, sym, subst}
use Rattle.board_core.specs.declared.event.Entry.{Entry as Event}
use Rattle.board_core.specs.Entries.{HasNoneOut, ArePairs}
use Rattle.board_core.proofs.Pairs.{pairs_none, pairs_leave_none}
use Rattle.turn_lock.specs.Turns.{TurnId, PassState, new_pass}
use Rattle.square_board.specs.declared.opening.Opening.{Opening}

pub new_has_none : {T : Type 0} (turn : TurnId (Opening T)) (n : ℕ) (pass : PassState (Opening T) Event) → pass ≡ new_pass turn n → HasNoneOut pass.own
new_has_none {T} turn n pass is = pairs_leave_none pass.own (subst (λ (p : PassState (Opening T) Event). ArePairs p.own) (sym is) pairs_none)
