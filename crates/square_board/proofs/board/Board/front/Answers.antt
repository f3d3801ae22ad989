use Rattle.std.proofs.Common.{◌≡◌, ◌⊎◌, ◌++◌, ◌∷◌, [], ℕ, ap, subst}
use Rattle.turn_lock.specs.Turns.{TurnId}
use Rattle.board_core.specs.declared.event.Entry.{Entry as Event}
use Rattle.square_board.specs.declared.opening.Opening.{Opening}
use Rattle.square_board.specs.Courses.{events_of}
use Rattle.square_board.specs.Openings.{front_after}
use Rattle.square_board.proofs.board.Board.front.Goals as goal

pub returns-clause-exact : goal.returns-clause-exact
returns-clause-exact g c =
    let w = g.T.Stock.words in
    let O : Type 0 = Opening g.row.T.Denot in
    let name : c.self.inside.turn.name ≡ c.args.self.now.name = ap (λ (t : TurnId O). t.name) c.self.view_is in
    let latest = c.front.new.pass.latest in
    let F : O → ℕ → Type 0 = λ o i. (c.front.result ≡ front_after w o (events_of latest) i) ⊎ ((e : ℕ × Event) × (c.front.result ≡ front_after w o (events_of (latest ++ e ∷ [])) i)) in
    subst (λ (i : ℕ). F c.args.self.now.name i) c.from.ensures (subst (λ (o : O). F o c.from.result) name c.front.ensures.exact)
