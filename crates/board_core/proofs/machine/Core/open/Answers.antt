use Rattle.std.proofs.Common.{ℕ, ◌<◌, List, length, sym, ◌∙◌, ap, subst}
use Rattle.board_core.specs.Board.{below_fronts}
use Rattle.board_core.proofs.Filed.{filed_anew, sound_anew}
use Rattle.board_core.proofs.machine.Core.open.Goals as goal

pub invariant_of-self : goal.invariant_of-self
invariant_of-self c =
    let inside = c.self.inside in
    let filed = c.self.invariant.filed in
    let aside = c.self.invariant.kept_aside in
    let bounded = c.self.invariant.bounded in
    let rests = c.if-self.false in
    let done = ap below_fronts c.swap.ensures.x_after ∙ aside.file rests in
    record {
      sound = sound_anew _ (below_fronts c.swap.new.x) _ filed rests done;
      filed = filed_anew _ (below_fronts c.swap.new.x) _ filed done;
      bounded = record { rows = subst (λ (n : ℕ). inside.rows < n) (sym (ap (λ (l : List ℕ). length l) c.swap.ensures.x_after)) aside.long; degrees = bounded.degrees; fits = bounded.fits };
      marked = c.self.invariant.marked;
      kept_aside = record {
        long = subst (λ (n : ℕ). inside.rows < n) (sym (ap (λ (l : List ℕ). length l) c.swap.ensures.y_after)) bounded.rows;
        none = λ r. ap below_fronts c.swap.ensures.y_after ∙ filed.none_done rests;
        file = λ r. cc;
      };
    }
