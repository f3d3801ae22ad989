use Rattle.std.proofs.Common.{◌≡◌, length, map}
use Rattle.std.specs.List.{range_with_len, filter}
use Rattle.f2_choice.specs.Inside.Tables.{place_in, is_vacant}
use Rattle.f2_choice.proofs.parts.vacant_places.Given as goal

abbrev pub invariant-loop-e : goal.invariant-loop-e
invariant-loop-e l = l.places.items ≡ map (place_in l.table) (filter (is_vacant l.table) (range_with_len 0 l.e))
