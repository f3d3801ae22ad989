use Rattle.std.proofs.Common.{◌≡◌, ◌++◌, ◌-◌, length}
use Rattle.std.specs.List.{range_with_len}
use Rattle.f2_choice.specs.Inside.Tables.{vacant_places}
use Rattle.f2_choice.proofs.parts.wanted_places.Given as goal

abbrev pub invariant-loop-place : goal.invariant-loop-place
invariant-loop-place l = l.places.items ≡ vacant_places l.table ++ range_with_len (length l.table) (l.place - length l.table)
