use Rattle.std.proofs.Common.{◌≡◌, ℕ, ◌+◌, ◌<◌, ◌≤◌, length}
use Rattle.std.specs.Prelude.{slice_index_or}
use Rattle.chain_map.specs.Lifting.{no_lift}
use Rattle.chain_map.specs.Inside.{IsMade}
use Rattle.chain_map.proofs.making.add_row.Given as goal

abbrev pub invariant-loop-j : goal.invariant-loop-j
invariant-loop-j l = record {
  one_each : length l.lifts.items ≡ length l.initial.lifts.items;
  done : (i : ℕ) → i < l.j → IsMade l.course.table.now l.course.sphere.now l.course.s l.course.above l.course.reach l.course.far (l.from + i) (l.k + 1) (slice_index_or l.lifts.items i no_lift);
  left : (i : ℕ) → l.j ≤ i → i < length l.lifts.items → IsMade l.course.table.now l.course.sphere.now l.course.s l.course.above l.course.reach l.course.far (l.from + i) l.k (slice_index_or l.lifts.items i no_lift);
}
