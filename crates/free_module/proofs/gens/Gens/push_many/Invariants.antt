use Rattle.std.proofs.Common.{◌≡◌, ◌≤◌, ◌+◌, ◌++◌, replicate}
use Rattle.std.specs.Vec.{vec_len, vec_capacity}
use Rattle.free_module.proofs.gens.Gens.push_many.Given as goal

abbrev pub invariant-loop : goal.invariant-loop
invariant-loop l = record {
  items : l.self-inside.degrees.items ≡ l.initial.self-inside.degrees.items ++ replicate l.counter l.degree;
  room : vec_len l.self-inside.degrees + l.count ≤ vec_capacity l.self-inside.degrees + l.counter;
}
