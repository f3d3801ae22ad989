use Rattle.std.proofs.Common.{◌≡◌, ℕ, suc, ◌<◌, ◌≤◌, ◌+◌, List, [], ◌∷◌, ◌++◌, length, slice_get, Some, ap, sym, subst, ◌∙◌, arith, length-append}
use Rattle.std.specs.Prelude.{Option}
use Rattle.atomic_table.specs.Table.{Me}
use Rattle.turn_lock.specs.declared.view.View.{View}
use Rattle.turn_lock.specs.declared.rule.Opening.{Opening}
use Rattle.turn_lock.specs.Inside.Rule.{first_view, making, made_by}
use Rattle.turn_lock.specs.Turns.{TurnId, PassState, new_pass}
use Rattle.turn_lock.proofs.Seats.{makes_at}
use Rattle.turn_lock.proofs.Rows.{row_more, pass_is, same_turn}
use Rattle.turn_lock.proofs.start.make_passes.Goals as goal

pub split_seat-made-requires : goal.split_seat-made-requires
split_seat-made-requires g c =
    let M : Type 0 = Me (Option g.row.T.Denot) (View g.row.T-Name.Denot g.row.T-Entry.Denot) in
    let inv = c.loop-i.invariant in
    let made : c.loop-i.seat.me.0.made ≡ c.loop-i.i = ap (λ (m : M). m.0.made) inv.me in
    let passes : c.turn.inside.table.shared.key.passes ≡ c.args.opening.now.passes = ap (λ (t : TurnId g.row.T-Name.Denot). t.passes) c.turn.view_is ∙ sym c.requires.opening.1 in
    let from : 1 ≤ c.loop-i.i = c.loop-i.auto.i in (
      inv.table ∙ sym (ap (λ (t : TurnId g.row.T-Name.Denot). t.table) c.turn.view_is),
      (let w = c.turn.invariant.0 in omega arith),
      makes_at _ _ inv.first (ap (λ (m : M). m.0.name) inv.me ∙ sym (ap (λ (t : TurnId g.row.T-Name.Denot). Some t.name) c.turn.view_is)) (omega arith) (let less = c.loop-i-test.true in omega arith) (ap (λ (m : M). m.0.holds) inv.me),
    )

pub loop-i-preserved : goal.loop-i-preserved
loop-i-preserved g c =
    let M : Type 0 = Me (Option g.row.T.Denot) (View g.row.T-Name.Denot g.row.T-Entry.Denot) in
    let V : Type 0 = View g.row.T-Name.Denot g.row.T-Entry.Denot in
    let inv = c.loop-i.invariant in
    let split = c.split_seat-made.ensures in
    let turn = c.args.turn.now in
    let name = turn.name in
    let before : c.loop-i.seat.me.0 ≡ record (first_view name) { made = c.loop-i.i } = ap (λ (m : M). m.0) inv.me in
    let view : c.split_seat-made.result.me.0 ≡ made_by (record (first_view name) { made = c.loop-i.i }) = ap (λ (m : M). m.0) split.4 ∙ ap (λ (v : V). made_by v) before in
    let mine : TurnId g.row.T-Name.Denot = record { table = c.split_seat-made.result.table_id; name = g.T.Told.name c.of.result.value.first.value; passes = c.of.result.value.passes } in
    let whose : mine ≡ turn = same_turn mine turn (split.3 ∙ inv.table) (ap (λ (o : Opening g.row.T.Denot). g.T.Told.name o.first.value) c.of.ensures ∙ c.requires.opening.0) (ap (λ (o : Opening g.row.T.Denot). o.passes) c.of.ensures ∙ c.requires.opening.1) in
    let place : c.loop-i.i ≡ suc (length c.loop-i.row.items) = omega arith in
    let pass = pass_is turn mine c.split_seat-made.result.me.0 c.loop-i.i whose view ∙ ap (λ (n : ℕ). new_pass turn n) place in
    let items = c.push_reserved.ensures.items in
    let more = row_more c.loop-i.row.items _ (λ (n : ℕ). new_pass turn (suc n)) inv.passes pass in
    let next : suc c.loop-i.i ≡ c.loop-i.i + 1 = omega arith in
    let R : List (PassState g.row.T-Name.Denot g.row.T-Entry.Denot) → Type 0 = λ l. (k : ℕ) → k < length l → slice_get l k ≡ Some (new_pass turn (suc k)) in
    record {
      table = split.0 ∙ inv.table;
      first = split.1 ∙ inv.first;
      me = split.2 ∙ (ap (λ (m : M). (making m.0, m.1)) inv.me ∙ ap (λ (n : ℕ). (record (first_view name) { made = n }, [])) next);
      size = let l = ap length items in omega (arith, l, length-append c.loop-i.row.items (new_pass turn (suc (length c.loop-i.row.items)) ∷ []), inv.size, ap (λ x. length (c.loop-i.row.items ++ x ∷ [])) pass);
      room = c.push_reserved.ensures.capacity ∙ inv.room;
      passes = subst R (sym items) more;
    }
