use Rattle.std.proofs.Common.{refl}
use Rattle.std.proofs.lemmas.Bool.{false≢true}
use Rattle.module_check.proofs.Sides.{relation_holds, relation_fails}
use Rattle.module_check.proofs.relations.Pair.check_on.Goals as goal

pub returns-then-not-is_zero-clause-fails : goal.returns-then-not-is_zero-clause-fails
returns-then-not-is_zero-clause-fails c _ =
    relation_fails c.args.operators.now c.args.self.now.r c.args.self.now.s c.args.i c.in_ok-sum.sum c.add_one_by_one.new.sum c.in_ok-sum.ensures.value c.in_ok-add_one_by_one.ensures.sum (λ z. false≢true (c.if-not-is_zero.ensures.1 z))

pub returns-clause-holds : goal.returns-clause-holds
returns-clause-holds c =
    relation_holds c.args.operators.now c.args.self.now.r c.args.self.now.s c.args.i c.in_ok-sum.sum c.add_one_by_one.new.sum c.in_ok-sum.ensures.value c.in_ok-add_one_by_one.ensures.width c.in_ok-add_one_by_one.ensures.sum (c.if-not-is_zero.ensures.0 refl)
