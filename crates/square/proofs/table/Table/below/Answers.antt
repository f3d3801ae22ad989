use Rattle.std.proofs.Common.{◌+◌, ◌-◌, ◌∙◌, ap, refl, arith}
use Rattle.finite_module.specs.Checked.{Checked}
use Rattle.square.specs.Squares.{over}
use Rattle.square.proofs.Matrices.{within_reach, first_target, upper_target}
use Rattle.square.proofs.table.Table.below.Goals as goal

pub returns-then-s-eq0-clause-graded : goal.returns-then-s-eq0-clause-graded
returns-then-s-eq0-clause-graded c = ap (λ (m : Checked). (over m).graded) c.module.ensures ∙ first_target c.args.self.now c.args.s c.args.above c.if-s-eq0.true

pub generators-requires : goal.generators-requires
generators-requires c =
    let some = c.if-s-eq0.false in
    let longer = c.requires.there (c.args.s - 1) (omega arith) in
    omega arith

pub returns-clause-graded : goal.returns-clause-graded
returns-clause-graded c =
    let some = c.if-s-eq0.false in
    upper_target c.args.self.now c.args.s (c.args.s - 1) c.args.above c.in_ok-gens.gens (omega arith) c.in_ok-gens.ensures

pub returns-clause-reaches : goal.returns-clause-reaches
returns-clause-reaches c max k l = within_reach c.args.self.now (c.args.s - 1) k max (c.args.above + 1) c.in_ok-gens.gens _ c.in_ok-gens.ensures refl l
