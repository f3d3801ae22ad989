use Rattle.std.proofs.Common.{Some, ap, sym, ◌∙◌, arith}
use Rattle.std.specs.Prelude.{Option}
use Rattle.atomic_table.specs.Table.{Me}
use Rattle.turn_lock.specs.declared.view.View.{View}
use Rattle.turn_lock.specs.Turns.{PassState, TurnId}
use Rattle.turn_lock.proofs.Holding.{acquires}
use Rattle.turn_lock.proofs.Passes.{matched, in_hand_first}
use Rattle.turn_lock.proofs.turn.Turn.try_acquire.Goals as goal

pub compare_exchange-found-requires : goal.compare_exchange-found-requires
compare_exchange-found-requires g c =
    let same = ap (λ (p : PassState g.row.T-Name.Denot g.row.T-Entry.Denot). p.turn) c.pass.view_is ∙ (c.requires ∙ sym c.self.view_is) in
    let name = ap (λ (t : TurnId g.row.T-Name.Denot). t.name) same in (
      ap (λ (t : TurnId g.row.T-Name.Denot). t.table) same,
      (let w = c.self.invariant.0 in omega arith),
      acquires g.T.Told.front_of _ _ _ _ (c.pass.invariant.named ∙ ap (λ (n : g.row.T-Name.Denot). Some n) name) c.pass.invariant.idle (omega arith),
    )

pub exchange-requires : goal.exchange-requires
exchange-requires g c =
    let same = ap (λ (p : PassState g.row.T-Name.Denot g.row.T-Entry.Denot). p.turn) c.pass.view_is ∙ (c.requires ∙ sym c.self.view_is) in
    let told = matched _ _ _ _ c.if-found-word.false c.compare_exchange-found.ensures.2 in
    (c.compare_exchange-found.ensures.0 ∙ ap (λ (t : TurnId g.row.T-Name.Denot). t.table) same, (Some told.state, in_hand_first _ _ (ap (λ (m : Me (Option g.row.T.Denot) (View g.row.T-Name.Denot g.row.T-Entry.Denot)). m.1) told.after_is)))
