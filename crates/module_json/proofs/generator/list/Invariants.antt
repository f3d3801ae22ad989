use Rattle.serde_json.specs.View.{members_view}
use Rattle.module_json.proofs.Listing.{IsLeft}
use Rattle.module_json.proofs.generator.list.Given as goal

abbrev pub invariant-loop-name : goal.invariant-loop-name
invariant-loop-name l = IsLeft (members_view l.members.entries) l.generators.items (members_view l.name-iterator)
