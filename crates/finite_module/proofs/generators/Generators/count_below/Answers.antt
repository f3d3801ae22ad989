use Rattle.std.proofs.Common.{◌≡◌, ap, sym, subst, ◌∙◌, rules}
use Rattle.std.specs.List.{count_by}
use Rattle.std.proofs.lemmas.List.Sorted.{IsPartitionPoint-from_clause}
use Rattle.module_spec.specs.WellFormed.{AreByDegree}
use Rattle.finite_module.proofs.Degrees.{is_below, below_is_partitioned, count_by-point}
use Rattle.finite_module.proofs.generators.Generators.count_below.Goals as goal

pub returns : goal.returns
returns c =
    let read : c.deref.result.now ≡ c.args.self.now = c.deref.ensures.value ∙ c.self.view_is in
    let by = subst AreByDegree (sym c.deref.ensures.value) c.self.invariant in
    let parted = below_is_partitioned c.deref.result.now c.args.t by.ordered in
    let point = IsPartitionPoint-from_clause (is_below c.args.t) _ _ c.partition_point.ensures.partitioned parted (λ a r q k. search rules) in
    count_by-point (is_below c.args.t) _ _ c.partition_point.ensures.bound point ∙ ap (count_by (is_below c.args.t)) read
