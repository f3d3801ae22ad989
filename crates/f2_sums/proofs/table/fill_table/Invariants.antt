use Rattle.std.proofs.Common.{◌≡◌, ◌^◌, length, take}
use Rattle.f2_sums.specs.Inside.Tables.{HoldsSums}
use Rattle.f2_sums.proofs.table.fill_table.Given as goal

abbrev pub invariant-loop-pivot : goal.invariant-loop-pivot
invariant-loop-pivot l = record {
  filled : l.filled ≡ 2 ^ l.pivot-index;
  room : length l.table ≡ 2 ^ l.bits;
  sums : HoldsSums l.cols (take l.pivot-index l.block) l.table;
}
