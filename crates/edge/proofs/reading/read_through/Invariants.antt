use Rattle.std.proofs.Common.{◌≡◌, ◌≤◌, ◌-◌, take, vec_len}
use Rattle.std.specs.Prelude.{IfSome}
use Rattle.edge.specs.Source.{without_first}
use Rattle.edge.proofs.reading.read_through.Given as goal

abbrev pub invariant-loop-source : goal.invariant-loop-source
invariant-loop-source g l = record {
  within : vec_len l.bytes ≤ l.limit;
  given : IfSome (g.S.Source.left l.initial.source) (λ left. l.bytes.items ≡ take (vec_len l.bytes) left);
  rest : g.S.Source.left l.source ≡ without_first (g.S.Source.left l.initial.source) (vec_len l.bytes);
  no_fault : g.S.Source.faults l.source ≡ g.S.Source.faults l.initial.source;
}

abbrev pub decreases-loop-source : goal.decreases-loop-source
decreases-loop-source g l = l.limit - vec_len l.bytes
