use Rattle.module_check.proofs.Accepted.{derived_has_identity, is_module}
use Rattle.module_check.proofs.acceptance.check.Goals as goal

-- neither check found a fault, so the derived module is one
pub new-requires : goal.new-requires
new-requires c =
    is_module c.args.spec.now c.in_ok-operators.operators c.in_ok-operators.ensures c.count.ensures.well_formed.by_degree.ordered c.in_ok-check_entries.ensures.holds c.in_ok-check_relations.ensures.holds

-- and its first operator is the identity
pub check_relations-requires-clause-identity : goal.check_relations-requires-clause-identity
check_relations-requires-clause-identity c = derived_has_identity c.args.spec.now c.in_ok-operators.operators c.in_ok-operators.ensures
