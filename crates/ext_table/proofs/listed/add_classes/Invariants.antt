use Rattle.std.proofs.Common.{◌≡◌, ◌++◌}
use Rattle.std.specs.List.{flat_map, range_with_len}
use Rattle.ext_table.specs.Table.{class_text}
use Rattle.ext_table.proofs.listed.add_classes.Given as goal

abbrev pub invariant-loop-i : goal.invariant-loop-i
invariant-loop-i l = l.text.items ≡ l.initial.text.items ++ flat_map (class_text l.lists l.s l.t) (range_with_len 0 l.i)
