use Rattle.std.proofs.Common.{◌≡◌, ℕ, List, false, Some, ap, sym, subst, ◌∙◌, arith}
use Rattle.std.specs.Prelude.{Option}
use Rattle.atomic_table.specs.Table.{Me}
use Rattle.turn_lock.specs.declared.view.View.{View}
use Rattle.turn_lock.specs.Inside.Rule.{joining}
use Rattle.turn_lock.specs.Inside.Steps.{IsKnownTo}
use Rattle.turn_lock.specs.Turns.{PassState, TurnId, Continues}
use Rattle.turn_lock.specs.History.{IsKnown}
use Rattle.turn_lock.proofs.Seats.{joins}
use Rattle.turn_lock.proofs.Looking.{sees}
use Rattle.turn_lock.proofs.Passes.{first_known, second_known}
use Rattle.turn_lock.proofs.turn.Turn.join.Goals as goal

pub join_seat-requires : goal.join_seat-requires
join_seat-requires g c =
    let P : Type 0 = PassState g.row.T-Name.Denot g.row.T-Entry.Denot in
    let same = ap (λ (p : P). p.turn) c.pass.view_is ∙ (c.requires.pass ∙ sym c.self.view_is) in
    let same' = ap (λ (p : P). p.turn) c.other.view_is ∙ (c.requires.other ∙ sym c.self.view_is) in
    let free : c.pass.inside.seat.me.0.holds ≡ false = ap (λ (p : P). p.holds) c.pass.view_is ∙ c.requires.idle in
    let free' : c.other.inside.seat.me.0.holds ≡ false = ap (λ (p : P). p.holds) c.other.view_is ∙ c.requires.other_idle in (
      ap (λ (t : TurnId g.row.T-Name.Denot). t.table) same,
      ap (λ (t : TurnId g.row.T-Name.Denot). t.table) same',
      c.other.invariant.idle free',
      (let w = c.self.invariant.0 in omega arith),
      joins _ _ _ _ (c.pass.invariant.named ∙ ap (λ (t : TurnId g.row.T-Name.Denot). Some t.name) same) (c.other.invariant.named ∙ ap (λ (t : TurnId g.row.T-Name.Denot). Some t.name) same') free free',
    )

pub load-requires : goal.load-requires
load-requires g c =
    let P : Type 0 = PassState g.row.T-Name.Denot g.row.T-Entry.Denot in
    let same = ap (λ (p : P). p.turn) c.pass.view_is ∙ (c.requires.pass ∙ sym c.self.view_is) in (
      c.join_seat.ensures.0 ∙ ap (λ (t : TurnId g.row.T-Name.Denot). t.table) same,
      (let w = c.self.invariant.0 in omega arith),
      sees _ _ _ (ap (λ (m : Me (Option g.row.T.Denot) (View g.row.T-Name.Denot g.row.T-Entry.Denot)). m.0.name) c.join_seat.ensures.2 ∙ (c.pass.invariant.named ∙ ap (λ (t : TurnId g.row.T-Name.Denot). Some t.name) same)),
    )

pub returns-clause-continues : goal.returns-clause-continues
returns-clause-continues g c =
    let P : Type 0 = PassState g.row.T-Name.Denot g.row.T-Entry.Denot in
    let M : Type 0 = Me (Option g.row.T.Denot) (View g.row.T-Name.Denot g.row.T-Entry.Denot) in
    let told = c.load.ensures.2 in
    let found = subst (λ (v : View g.row.T-Name.Denot g.row.T-Entry.Denot). IsKnownTo v told.history) (ap (λ (m : M). m.0) c.join_seat.ensures.2) told.known in
    let history = c.load.new.seat.me.0.seen in
    let all = subst (λ (l : List (ℕ × g.row.T-Entry.Denot)). IsKnownTo (joining c.pass.inside.seat.me.0 c.other.inside.seat.me.0) l) (sym (ap (λ (m : M). m.0.seen) told.after_is)) found in
    let F : P → Type 0 = λ p. Continues p history in
    let v = c.pass.inside.seat.me.0 in
    let mine = first_known v c.other.inside.seat.me.0 history all c.pass.invariant.in_order in
    subst F c.pass.view_is (subst (λ (n : ℕ). IsKnown n v.seen v.latest v.own v.joined history) c.pass.invariant.numbered mine)

pub returns-clause-other_continues : goal.returns-clause-other_continues
returns-clause-other_continues g c =
    let P : Type 0 = PassState g.row.T-Name.Denot g.row.T-Entry.Denot in
    let M : Type 0 = Me (Option g.row.T.Denot) (View g.row.T-Name.Denot g.row.T-Entry.Denot) in
    let told = c.load.ensures.2 in
    let found = subst (λ (v : View g.row.T-Name.Denot g.row.T-Entry.Denot). IsKnownTo v told.history) (ap (λ (m : M). m.0) c.join_seat.ensures.2) told.known in
    let history = c.load.new.seat.me.0.seen in
    let all = subst (λ (l : List (ℕ × g.row.T-Entry.Denot)). IsKnownTo (joining c.pass.inside.seat.me.0 c.other.inside.seat.me.0) l) (sym (ap (λ (m : M). m.0.seen) told.after_is)) found in
    let F : P → Type 0 = λ p. Continues p history in
    let w = c.other.inside.seat.me.0 in
    let theirs = second_known c.pass.inside.seat.me.0 w history all c.other.invariant.in_order in
    subst F c.other.view_is (subst (λ (n : ℕ). IsKnown n w.seen w.latest w.own w.joined history) c.other.invariant.numbered theirs)
