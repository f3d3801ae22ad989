use Rattle.std.proofs.Common.{◌≡◌, ◌<◌, map, drop, length}
use Rattle.std.specs.List.{All}
use Rattle.module_json.specs.ModuleFile.{numbers_of}
use Rattle.module_json.proofs.Numbering.{after}
use Rattle.module_json.proofs.entry.numbers.Given as goal

abbrev pub invariant-loop-name : goal.invariant-loop-name
invariant-loop-name l = record {
  left : numbers_of l.gens (map (λ w. w.now) l.names) ≡ after l.numbers.items (numbers_of l.gens (map (λ w. w.now) (drop l.name-index l.names)));
  below : All (λ j. j < length l.gens) l.numbers.items;
}
