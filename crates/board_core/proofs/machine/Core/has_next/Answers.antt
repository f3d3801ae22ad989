use Rattle.std.proofs.Common.{◌≡◌, ℕ, suc, ◌-◌, true, true≢false, nat_lt, sym, ◌∙◌, ap, subst, arith}
use Rattle.std.proofs.lemmas.Bool.{eq-eqb, not-false}
use Rattle.board_core.specs.Board.{Board, IsTaken, below_fronts, state_of}
use Rattle.board_core.specs.Machine.{IsInRange, stands}
use Rattle.board_core.proofs.BelowFronts.{stands_first}
use Rattle.board_core.proofs.RowsOut.{next_is_taken}
use Rattle.board_core.proofs.machine.Core.has_next.Goals as goal
use Rattle.board_core.proofs.machine.Core.has_next.Goals.{then-s-eq0, else-s-eq0}

pub returns-else-not-stands : goal.returns-else-not-stands
returns-else-not-stands c =
    let now = state_of c.args.self.now in
    let s = c.args.s in
    let k = c.front-front.result in
    let at = subst (λ (b : Board). (j : ℕ) → below_fronts b.fronts s j ≡ nat_lt j k) c.self.view_is c.front-front.ensures.done in
    let under = subst (λ (b : Board). (j : ℕ) → below_fronts b.fronts (s - 1) j ≡ nat_lt j c.front.result) c.self.view_is c.front.ensures.done in
    let row : suc (s - 1) ≡ s = elim c.if-s-eq0.branch [
      | then-s-eq0 w ↦ absurd (true≢false (sym (eq-eqb s 0 w.if-s-eq0.true) ∙ sym w.value-is ∙ c.if-not-stands.false))
      | else-s-eq0 w ↦ omega (arith, w.if-s-eq0.false)
    ] in
    let on : stands now s k ≡ true = elim c.if-s-eq0.branch [
      | then-s-eq0 w ↦ absurd (true≢false (sym (eq-eqb s 0 w.if-s-eq0.true) ∙ sym w.value-is ∙ c.if-not-stands.false))
      | else-s-eq0 w ↦ sym w.stands.ensures ∙ not-false w.stands.result (sym w.value-is ∙ c.if-not-stands.false)
    ] in
    let degrees = ap (λ (b : Board). b.degrees) c.self.view_is in
    let within : IsInRange now s k = record { row = c.requires; degree = omega arith; meant = sym c.is_meant.ensures ∙ c.if-not-is_meant.false } in (
      λ e. (k, next_is_taken now s k at within (λ i next h. let same : s - 1 ≡ i = omega arith in subst (λ (n : ℕ). now.done n k ≡ true) same (under k ∙ e))),
      λ next.
          let first : next.0 ≡ k = stands_first now.done s next.0 k at next.1.parents next.1.not_done in
          let taken = subst (λ (n : ℕ). IsTaken now s n) first next.1 in
          sym (under k) ∙ taken.parents.below (s - 1) row on,
    )
