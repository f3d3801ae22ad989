use Rattle.std.proofs.Common.{◌≡◌, ◌++◌, take}
use Rattle.std.specs.List.{flat_map}
use Rattle.ext_table.specs.Table.{class_line}
use Rattle.ext_table.proofs.listed.add_class.Given as goal

abbrev pub invariant-loop-listed : goal.invariant-loop-listed
invariant-loop-listed l = l.text.items ≡ l.initial.text.items ++ flat_map (class_line l.s l.t l.i) (take l.listed-index l.lists)
