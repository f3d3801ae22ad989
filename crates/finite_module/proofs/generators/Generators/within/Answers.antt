use Rattle.std.proofs.Common.{subst}
use Rattle.std.proofs.lemmas.Int.{to_z-of_z}
use Rattle.module_spec.specs.WellFormed.{AreByDegree}
use Rattle.finite_module.proofs.Degrees.{AreBetween, are_between}
use Rattle.finite_module.proofs.generators.Generators.within.Goals.{After-count_upto}
use Rattle.finite_module.proofs.generators.Generators.within.Goals as goal

-- the counts, at the degree as it was passed
between : (c : After-count_upto) → AreBetween c.args.self.now c.args.t c.count_below.result c.count_upto.result
between c =
    let fits = c.ranges.t in
    let below = simp to_z-of_z at c.count_below.ensures in
    let upto = simp to_z-of_z at c.count_upto.ensures in
    are_between c.args.self.now c.args.t c.count_below.result c.count_upto.result (subst AreByDegree c.self.view_is c.self.invariant) below upto

pub returns-clause-generators : goal.returns-clause-generators
returns-clause-generators c = (between (goal.at.returns-clause-generators c).After-count_upto).numbers

pub returns-clause-start : goal.returns-clause-start
returns-clause-start c = (between (goal.at.returns-clause-start c).After-count_upto).in_order

pub returns-clause-end : goal.returns-clause-end
returns-clause-end c = (between (goal.at.returns-clause-end c).After-count_upto).within
