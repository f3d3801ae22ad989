use Rattle.std.proofs.Common.{◌≡◌, ◌++◌, map}
use Rattle.std.specs.List.{range_with_len}
use Rattle.massey.specs.Inside.{lower_product}
use Rattle.massey.proofs.making.add_lower_rows.Given as goal

abbrev pub invariant-loop-i : goal.invariant-loop-i
invariant-loop-i l = l.rows.items ≡ l.initial.rows.items ++ map (lower_product l.setting.table.now l.setting.sphere.now l.setting.places l.gamma l.l) (range_with_len 0 l.i)
