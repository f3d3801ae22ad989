use Rattle.module_json.proofs.Parts.{AreMade}
use Rattle.module_json.proofs.spec.describe_each.Given as goal

abbrev pub invariant-loop-part : goal.invariant-loop-part
invariant-loop-part l = AreMade l.parts l.part-index l.specs.items
