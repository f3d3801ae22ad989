use Rattle.std.proofs.Common.{◌≡◌, [], replicate}
use Rattle.chain_map.proofs.making.empty_lifts.Given as goal

abbrev pub invariant-loop : goal.invariant-loop
invariant-loop l = l.lifts.items ≡ replicate l.counter (record { bottom = l.bottom; rows = [] })
