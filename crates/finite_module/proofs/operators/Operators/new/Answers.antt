use Rattle.std.proofs.Common.{◌∙◌}
use Rattle.finite_module.proofs.Values.{no_operators}
use Rattle.finite_module.proofs.operators.Operators.new.Goals as goal

pub invariant_of-result : goal.invariant_of-result
invariant_of-result c =
    no_operators c.in_ok-basis.basis c.in_ok-below.below.items c.args.generators c.new-list.result.items (c.in_ok-basis.ensures ∙ c.span.ensures.span) c.in_ok-below.ensures.counts c.in_ok-below.ensures.fits c.new-list.ensures.items
