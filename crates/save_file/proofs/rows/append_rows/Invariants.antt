use Rattle.std.proofs.Common.{◌≡◌, ◌++◌, take}
use Rattle.std.specs.List.{flat_map}
use Rattle.f2_vec.specs.Bytes.{packed}
use Rattle.save_file.proofs.rows.append_rows.Given as goal

abbrev pub invariant-loop-row : goal.invariant-loop-row
invariant-loop-row l = l.bytes.items ≡ l.initial.bytes.items ++ flat_map packed (take l.row-index l.rows)
