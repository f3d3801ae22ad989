-- The terms from `term` on are left to add.
use Rattle.std.proofs.Common.{◌≡◌, length, drop}
use Rattle.f2_vec.specs.Vectors.{zeros}
use Rattle.free_module.specs.Inside.Terms.{added_to}
use Rattle.free_module.proofs.gens.GensTarget.act.Given as goal

abbrev pub invariant-loop-term : goal.invariant-loop-term
invariant-loop-term l = record {
  length : length l.image ≡ l.width;
  rest : added_to l.image l.r (drop l.term-index l.term-items) ≡ added_to (zeros l.width) l.r l.term-items;
}
