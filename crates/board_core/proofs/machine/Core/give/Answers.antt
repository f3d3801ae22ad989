use Rattle.std.proofs.Common.{ℕ, ℤ, w32, to_z, of_z, refl, sym, ◌∙◌, ap, subst}
use Rattle.board_core.specs.Board.{Board, IsTaken, below_fronts, state_of}
use Rattle.board_core.specs.Inside.{IsBounded}
use Rattle.board_core.specs.Machine.{IsAbove}
use Rattle.board_core.proofs.Filed.{filed_give, aside_still}
use Rattle.board_core.proofs.RowsOut.{row_clears}
use Rattle.board_core.proofs.Sound.{sound_give}
use Rattle.board_core.proofs.machine.Core.give.Goals as goal

pub take_from-requires-clause-alone : goal.take_from-requires-clause-alone
take_from-requires-clause-alone c =
    let inside = c.self.inside in
    let taken = subst (λ (b : Board). IsTaken (state_of b) c.args.s c.in-Some.above) (sym c.self.view_is) c.in-Some.ensures.taken in
    row_clears _ c.args.s c.in-Some.above _ (λ j. refl) c.self.invariant.sound taken

pub invariant_of-self : goal.invariant_of-self
invariant_of-self c =
    let inside = c.self.inside in
    let taken = subst (λ (b : Board). IsTaken (state_of b) c.args.s c.in-Some.above) (sym c.self.view_is) c.in-Some.ensures.taken in
    let bounded = subst (λ (n : ℕ). IsBounded inside.rows inside.degrees inside.bottom n) (sym c.add.ensures.rows) c.self.invariant.bounded in
    let no_cause = ap (λ (b : Board). b.cause) c.self.view_is ∙ c.in-Some.ensures.no_cause in
    let t : ℤ = to_z w32 (of_z w32 c.args.t) in
    let at = subst (λ (b : Board). IsAbove b.bottom t c.in-Some.above) (sym c.self.view_is) c.in-Some.ensures.above in
    let runs = ap (λ (b : Board). b.running) c.self.view_is ∙ c.in-Some.ensures.running in
    record {
      sound = sound_give _ c.args.s c.in-Some.above (below_fronts c.add.new.self) c.take_from.new.out.items _ c.self.invariant.sound no_cause taken c.add.ensures.squares c.take_from.ensures.items;
      filed = filed_give _ c.args.s c.in-Some.above t (below_fronts c.add.new.self) c.take_from.new.out.items _ c.self.invariant.filed runs at taken c.add.ensures.squares c.then-self-inside.ensures;
      bounded = bounded;
      marked = c.take_from.ensures.busy inside.rows c.self.invariant.marked;
      kept_aside = aside_still _ _ _ c.take_from.new.out.items _ _ _ c.self.invariant.kept_aside runs;
    }
