use Rattle.std.proofs.Common.{refl, sym, ◌∙◌, ap, subst}
use Rattle.board_core.specs.Board.{Board, IsTaken, state_of}
use Rattle.board_core.proofs.Filed.{filed_still, aside_still}
use Rattle.board_core.proofs.RowsOut.{row_clears}
use Rattle.board_core.proofs.Sound.{sound_back}
use Rattle.board_core.proofs.machine.Core.back.Goals as goal

pub take_from-requires-clause-alone : goal.take_from-requires-clause-alone
take_from-requires-clause-alone c =
    let inside = c.self.inside in
    let taken = subst (λ (b : Board). IsTaken (state_of b) c.args.s c.in-Some.above) (sym c.self.view_is) c.in-Some.ensures.taken in
    row_clears _ c.args.s c.in-Some.above _ (λ j. refl) c.self.invariant.sound taken

pub invariant_of-self : goal.invariant_of-self
invariant_of-self c =
    let inside = c.self.inside in
    let runs = ap (λ (b : Board). b.running) c.self.view_is ∙ c.in-Some.ensures.running in
    record {
      sound = sound_back _ c.args.s c.in-Some.above c.take_from.new.out.items _ c.self.invariant.sound c.take_from.ensures.items;
      filed = filed_still _ c.take_from.new.out.items _ _ c.self.invariant.filed runs;
      bounded = c.self.invariant.bounded;
      marked = c.take_from.ensures.busy inside.rows c.self.invariant.marked;
      kept_aside = aside_still _ _ _ c.take_from.new.out.items _ _ _ c.self.invariant.kept_aside runs;
    }
