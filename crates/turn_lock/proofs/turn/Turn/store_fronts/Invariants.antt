use Rattle.std.proofs.Common.{◌≡◌, length}
use Rattle.turn_lock.specs.Inside.Steps.{IsPrepared, having_stored}
use Rattle.turn_lock.proofs.turn.Turn.store_fronts.Given as goal

abbrev pub invariant-loop-i : goal.invariant-loop-i
invariant-loop-i g l = record {
  table : l.seat.table_id ≡ l.initial.seat.table_id;
  same : l.seat.me ≡ (having_stored l.initial.seat.me.0 l.seat.me.0.stored, l.initial.seat.me.1);
  many : length l.seat.me.0.stored ≡ l.i;
  stored : IsPrepared (g.T.Told.front_of l.self.name) l.seat.me.0.stored (g.T.Told.entries l.value);
}
