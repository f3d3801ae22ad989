use Rattle.std.proofs.Common.{◌≡◌, ℕ, nat_lt, true, None, sym, ◌∙◌, subst, arith}
use Rattle.std.proofs.lemmas.Bool.{eqb-true}
use Rattle.std.proofs.lemmas.Grind.{common_steps}
use Rattle.board_core.specs.Board.{Board, IsTaken, below_fronts, state_of}
use Rattle.board_core.specs.Machine.{IsReady}
use Rattle.board_core.proofs.BelowFronts.{stands_first}
use Rattle.board_core.proofs.Sound.{ready_is_taken}
use Rattle.board_core.proofs.machine.Core.is_ready.Goals as goal
use Rattle.board_core.proofs.machine.Core.is_ready.Goals.{then-k-front, else-k-front}

pub returns-then-has_next-clause-decides : goal.returns-then-has_next-clause-decides
returns-then-has_next-clause-decides c =
    let now = state_of c.args.self.now in
    let s = c.args.s in
    let k = c.args.k in
    let taken : IsTaken now s k = elim c.if-k-front.branch [
      | then-k-front w ↦
          let next = w.has_next.ensures.0 (sym w.value-is ∙ c.if-has_next.true) in
          let at = subst (λ (b : Board). (j : ℕ) → below_fronts b.fronts s j ≡ nat_lt j c.front.result) c.self.view_is c.front.ensures.done in
          let first : next.0 ≡ c.front.result = stands_first now.done s next.0 c.front.result at next.1.parents next.1.not_done in
          subst (λ (n : ℕ). IsTaken now s n) (first ∙ sym w.if-k-front.true) next.1
      | else-k-front w ↦ absurd (w.if-k-front.false (eqb-true k c.front.result (sym w.value-is ∙ c.if-has_next.true)))
    ] in
    let running : now.running ≡ true = grind (arith, common_steps) in
    let no_cause : now.cause ≡ None = grind (arith, common_steps) in
    let here = c.is_out.ensures in (
      λ free. record {
        running = running;
        no_cause = no_cause;
        in_range = taken.in_range;
        parents = taken.parents;
        not_done = taken.not_done;
        not_out = grind arith;
      },
      λ ready. let out = ready.not_out in grind arith,
    )

pub returns-else-has_next-clause-decides : goal.returns-else-has_next-clause-decides
returns-else-has_next-clause-decides c = (λ e. absurd (cc), λ ready. absurd (none ready))
  where
    none : IsReady (state_of c.args.self.now) c.args.s c.args.k → ⊥
    none ready = elim c.if-k-front.branch [
      | then-k-front w ↦
          let there = w.has_next.ensures.1 (c.args.k, ready_is_taken (state_of c.args.self.now) c.args.s c.args.k ready) in
          cc
      | else-k-front w ↦
          let here = subst (λ (b : Board). IsReady (state_of b) c.args.s c.args.k) (sym c.self.view_is) ready in
          let first : c.args.k ≡ c.front.result = stands_first (below_fronts c.self.inside.fronts) c.args.s c.args.k c.front.result c.front.ensures.done here.parents here.not_done in
          omega arith
    ]
