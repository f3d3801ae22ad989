use Rattle.std.proofs.Common.{◌≡◌, ◌<◌, ℕ, length, set, true, true≢false, rules, sym, ◌∙◌, subst, arith}
use Rattle.bidegree.proofs.Degrees.{above_of-is}
use Rattle.board_core.specs.Board.{Board, state_of}
use Rattle.board_core.specs.Inside.{IsMarked}
use Rattle.board_core.specs.declared.event.Out.{Out}
use Rattle.board_core.specs.Machine.{IsReady}
use Rattle.board_core.proofs.Filed.{filed_still, aside_still}
use Rattle.board_core.proofs.RowsOut.{marked_with}
use Rattle.board_core.proofs.Sound.{sound_take}
use Rattle.board_core.proofs.machine.Core.take.Goals as goal
use Rattle.board_core.proofs.machine.Core.take.Goals.{then-is_ready, else-is_ready}

pub returns-clause-accepts : goal.returns-clause-accepts
returns-clause-accepts c = elim c.if-is_ready.branch [
  | then-is_ready w ↦ λ e.
      let seen : w.is_seen-may_take.result ≡ true = sym w.may_take-is ∙ c.if-not-may_take.false in
      record {
        above = c.in-Some.above;
        degree = search rules;
        ready = c.is_ready.ensures.decides.0 w.if-is_ready.true;
        row = w.is_seen-may_take.ensures.yes seen;
        row_below = w.is_seen-may_take.ensures.yes_below seen;
      }
  | else-is_ready w ↦ λ e. cc
]

pub returns-then-not-may_take-clause-refuses : goal.returns-then-not-may_take-clause-refuses
returns-then-not-may_take-clause-refuses c e legal = elim c.if-is_ready.branch [
  | then-is_ready w ↦ true≢false (sym (w.is_seen-may_take.ensures.no legal.row legal.row_below) ∙ sym w.may_take-is ∙ c.if-not-may_take.true)
  | else-is_ready w ↦
      let at = above_of-is c.args.self.now.bottom c.args.t legal.above legal.degree in
      let same : legal.above ≡ c.in-Some.above = search rules in
      true≢false (sym (c.is_ready.ensures.decides.1 (subst (λ (n : ℕ). IsReady (state_of c.args.self.now) c.args.s n) same legal.ready)) ∙ w.if-is_ready.false)
]

pub invariant_of-self-2 : goal.invariant_of-self-2
invariant_of-self-2 c =
    let is : c.is_ready.result ≡ true = elim c.if-is_ready.branch [ then-is_ready w ↦ w.if-is_ready.true | else-is_ready w ↦ cc ] in
    let here = subst (λ (b : Board). IsReady (state_of b) c.args.s c.in-Some.above) (sym c.self.view_is) (c.is_ready.ensures.decides.0 is) in
    let inside = c.self.inside in
    let e : Out = record { who = c.args.who; s = c.args.s; above = c.in-Some.above } in
    let before = c.self.invariant.marked in
    let row = here.in_range.row in
    let long = before.long in
    let within : c.args.s < length inside.busy.items = omega arith in
    let marked = marked_with inside.busy.items inside.rows inside.out.items c.push.new.self.items e within c.in_ok-push.ensures.items before in
    let same = subst (λ (n : ℕ). IsMarked (set inside.busy.items n true) inside.rows c.push.new.self.items) (sym c.from.ensures) marked in
    record {
      sound = sound_take _ e c.push.new.self.items c.self.invariant.sound here c.in_ok-push.ensures.items;
      filed = filed_still _ c.push.new.self.items _ _ c.self.invariant.filed here.running;
      bounded = c.self.invariant.bounded;
      marked = same;
      kept_aside = aside_still _ _ _ c.push.new.self.items _ _ _ c.self.invariant.kept_aside here.running;
    }
