use Rattle.std.proofs.Common.{◌≡◌, ◌<◌, ◌+◌, ℕ, suc, [], length, slice_get, Some, vec_capacity}
use Rattle.turn_lock.specs.Inside.Rule.{first_view}
use Rattle.turn_lock.specs.Turns.{new_pass}
use Rattle.turn_lock.proofs.start.make_passes.Given as goal

abbrev pub invariant-loop-i : goal.invariant-loop-i
invariant-loop-i g l = record {
  table : l.seat.table_id ≡ l.turn.table;
  first : l.seat.id ≡ 0;
  me : l.seat.me ≡ (record (first_view l.turn.name) { made = l.i }, []);
  size : length l.row.items + 1 ≡ l.i;
  room : vec_capacity l.row ≡ vec_capacity l.initial.row;
  passes : (k : ℕ) → k < length l.row.items → slice_get l.row.items k ≡ Some (new_pass l.turn (suc k));
}
