-- The terms on the generators before `degree`.
use Rattle.std.proofs.Common.{◌≡◌, ◌+ℤ◌, pos, take}
use Rattle.free_module.specs.FreeModule.{free_width}
use Rattle.free_module.specs.Inside.Terms.{AreTerms}
use Rattle.free_module.proofs.gens.Gens.terms.Given as goal

abbrev pub invariant-loop-degree : goal.invariant-loop-degree
invariant-loop-degree l = record {
  start : l.start ≡ free_width (take l.degree-index l.self) l.t;
  offset : l.offset ≡ free_width (take l.degree-index l.self) (l.t +ℤ pos l.above);
  terms : AreTerms l.basis l.self l.above l.t l.v l.start l.terms.items;
}
