use Rattle.std.proofs.Common.{◌≡◌, ℕ, List, sym, ◌∙◌, subst, arith}
use Rattle.std.proofs.lemmas.Bool.{eq-eqb}
use Rattle.board_core.specs.Board.{Board, below_fronts}
use Rattle.board_core.specs.Machine.{IsRowNumber, IsRowNumberBelow}
use Rattle.board_core.proofs.BelowFronts.{number_is_front, below_is_front}
use Rattle.board_core.proofs.machine.Core.is_seen.Goals as goal
use Rattle.board_core.proofs.machine.Core.is_seen.Goals.{then-s-eq0, else-s-eq0}

pub returns-then-snapshot-front-clause-no : goal.returns-then-snapshot-front-clause-no
returns-then-snapshot-front-clause-no c row below =
    let n = c.args.snapshot.1 in
    let fronts : List ℕ = c.self.inside.fronts in
    let here : IsRowNumberBelow (below_fronts fronts) c.args.s n = subst (λ (b : Board). IsRowNumberBelow (below_fronts b.fronts) c.args.s n) (sym c.self.view_is) below in
    let same : n ≡ c.if-s-eq0.below = elim c.if-s-eq0.branch [
      | then-s-eq0 w ↦ subst (λ (i : ℕ). IsRowNumberBelow (below_fronts fronts) i n) w.if-s-eq0.true here ∙ sym w.below-is
      | else-s-eq0 w ↦ below_is_front (below_fronts fronts) c.args.s w.front-below.result n (λ e. omega (arith, w.if-s-eq0.false)) w.front-below.ensures.done here ∙ sym w.below-is
    ] in
    eq-eqb n c.if-s-eq0.below same

pub returns-else-snapshot-front-clause-no : goal.returns-else-snapshot-front-clause-no
returns-else-snapshot-front-clause-no c row below =
    let n = c.args.snapshot.0 in
    let here = subst (λ (b : Board). IsRowNumber (below_fronts b.fronts) c.args.s n) (sym c.self.view_is) row in
    eq-eqb n c.front.result (number_is_front (below_fronts c.self.inside.fronts c.args.s) c.front.result n c.front.ensures.done here)
