use Rattle.std.proofs.Common.{map, arith}
use Rattle.std.specs.Arc.{arc_value}
use Rattle.square.specs.Tables.{Shelf}
use Rattle.square.proofs.Pushing.{IsTable-room}
use Rattle.square.proofs.table.Table.reserve.Goals as goal

pub invariant_of-self : goal.invariant_of-self
invariant_of-self c = (
  IsTable-room (arc_value c.self.inside.module) c.self.inside.start (map (λ (r : Shelf). r.squares) c.self.inside.rows.items) (map (λ (r : Shelf). r.squares) c.reserve_rows.new.rows.items) c.self.inside.spare c.self.inside.spare c.in_err-reserve_rows.ensures.same c.self.invariant.0,
  c.in_err-reserve_rows.ensures.kept c.self.inside.spare c.self.invariant.1,
)

pub invariant_of-self-2 : goal.invariant_of-self-2
invariant_of-self-2 c = (
  IsTable-room (arc_value c.self.inside.module) c.self.inside.start (map (λ (r : Shelf). r.squares) c.self.inside.rows.items) (map (λ (r : Shelf). r.squares) c.reserve_rows.new.rows.items) c.self.inside.spare c.max-self-inside.result c.in_ok-reserve_rows.ensures.same c.self.invariant.0,
  λ s row e.
      let kept = c.in_ok-reserve_rows.ensures.kept c.self.inside.spare c.self.invariant.1 s row e in
      let more = c.in_ok-reserve_rows.ensures.ok s row e in
      omega (arith, c.max-self-inside.ensures),
)
