use Rattle.std.proofs.Common.{◌≡◌, ◌≤◌, ◌+◌, ◌*◌, ◌^◌, length, drop}
use Rattle.free_module.specs.FreeModule.{free_basis_from, free_width}
use Rattle.free_module.proofs.gens.Gens.dim_in.Given as goal

abbrev pub invariant-loop-degree : goal.invariant-loop-degree
invariant-loop-degree l = record {
  fits : l.dim ≤ l.degree-index * (2 ^ 64);
  rest : l.dim + length (free_basis_from l.degree-index (drop l.degree-index l.self) l.t) ≡ free_width l.self l.t;
}
