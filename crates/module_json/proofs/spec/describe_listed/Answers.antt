use Rattle.std.proofs.Common.{◌≡◌, ◌≤◌, length, None, sym, arith}
use Rattle.std.specs.List.{All}
use Rattle.module_spec.specs.declared.limits.TheConstants.{MAX_ACTIONS}
use Rattle.module_json.specs.ModuleFile.{span_refusal}
use Rattle.module_spec.specs.WellFormed.{IsEntryOf}
use Rattle.module_json.proofs.Basis.{accepted}
use Rattle.module_json.proofs.spec.describe_listed.Goals as goal

pub new-requires : goal.new-requires
new-requires c =
    let gs = c.in_ok-generators.generators.items in
    let near : span_refusal gs ≡ None = rw (← c.as_slice.ensures.value) (sym c.in_ok-check_span.ensures) in
    let few : length c.in_ok-entries.entries.items ≤ MAX_ACTIONS = omega (arith, c.in_ok-entries.ensures.count, c.in_ok-actions.ensures.few) in
    let listed : All (IsEntryOf gs) c.in_ok-entries.entries.items = rw (← c.as_slice-2.ensures.value) c.in_ok-entries.ensures.actions in
    accepted c.in_ok-members.members.now.entries gs c.in_ok-entries.entries.items c.in_ok-generators.ensures.basis c.in_ok-members.ensures.ordered c.in_ok-members.ensures.few c.in_ok-generators.ensures.refuses near few listed c.in_ok-entries.ensures.agree
