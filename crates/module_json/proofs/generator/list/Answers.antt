use Rattle.std.proofs.Common.{◌≡◌, ◌∷◌, string_bytes, rules}
use Rattle.std.specs.Map.Iter.{deref_pair}
use Rattle.std.proofs.lemmas.Map.Iter.{rest_more}
use Rattle.serde_json.specs.View.{view, members_view}
use Rattle.module_json.proofs.Listing.{IsLeft-next}
use Rattle.module_json.proofs.generator.list.Goals as goal

pub loop-name-preserved : goal.loop-name-preserved
loop-name-preserved c =
    let left : c.loop-name.name-iterator ≡ deref_pair (c.in-Some.name, c.in-Some.value) ∷ c.next.new.self = rest_more deref_pair c.loop-name.name-iterator c.next.new.self c.next.result (c.in-Some.name, c.in-Some.value) c.in-Some.is c.next.ensures.steps in
    let before = rw left at c.loop-name.invariant in
    rw c.in_ok-push.ensures.items
    (IsLeft-next (members_view c.args.members.now.entries) c.loop-name.generators.items c.len-in-loop-name.result c.as_str.result.now (string_bytes c.in-Some.name.now) (view c.in-Some.value.now) (members_view c.next.new.self) c.in_ok-next.next before (search rules) c.as_str.ensures.value c.in_ok-next.ensures.refuses c.in_ok-next.ensures.name c.in_ok-next.ensures.degree)
