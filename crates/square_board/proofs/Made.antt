-- The passes that a board was made with, and those that are written back.
use Rattle.std.proofs.Common.{◌≡◌, ℕ, ◌<◌, List, ◌++◌, length, take, Some, ap, sym, subst, ◌∙◌, refl}
use Rattle.std.specs.List.{slice_get}
use Rattle.std.proofs.Math.Seq.{take-append_seam}
use Rattle.std.proofs.lemmas.Option.{get_or_from_slice_get}
use Rattle.board_core.specs.declared.event.Entry.{Entry as Event}
use Rattle.board_core.proofs.Pairs.{pairs_none}
use Rattle.turn_lock.specs.Turns.{TurnId, PassState, new_pass}
use Rattle.square_board.specs.declared.opening.Opening.{Opening}
use Rattle.square_board.specs.Workers.{IsPassAt, AreItsPasses}

module _ {T : Type 0} (board : TurnId (Opening T)) where
  new_at : (i : ℕ) → IsPassAt board i (new_pass board i)
  new_at i = record { pass_of = record { turn = refl; idle = refl }; number = refl; pairs = pairs_none }

  pub new_are : (passes : List (PassState (Opening T) Event)) → ((i : ℕ) → i < length passes → slice_get passes i ≡ Some (new_pass board i)) → AreItsPasses board passes
  new_are passes made i d h = subst (λ (p : PassState (Opening T) Event). IsPassAt board i p) (sym (get_or_from_slice_get passes i (new_pass board i) d (made i h))) (new_at i)

  -- those that were written back over them
  pub written_back : (passes behind : List (PassState (Opening T) Event)) (n : ℕ) → n ≡ length passes → AreItsPasses board passes → AreItsPasses board (take n (passes ++ behind))
  written_back passes behind n long are =
      let same : take n (passes ++ behind) ≡ passes = ap (λ (k : ℕ). take k (passes ++ behind)) long ∙ take-append_seam passes behind in
      subst (λ (l : List (PassState (Opening T) Event)). AreItsPasses board l) (sym same) are
