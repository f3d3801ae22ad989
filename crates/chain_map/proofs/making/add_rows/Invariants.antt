use Rattle.std.proofs.Common.{◌≡◌, length}
use Rattle.chain_map.specs.Inside.{AreMadeLifts}
use Rattle.chain_map.proofs.making.add_rows.Given as goal

abbrev pub invariant-loop-k : goal.invariant-loop-k
invariant-loop-k l = record {
  one_each : length l.lifts.items ≡ length l.initial.lifts.items;
  made : AreMadeLifts l.course.table.now l.course.sphere.now l.course.s l.course.above l.course.reach l.course.far l.from l.k l.lifts.items;
}
