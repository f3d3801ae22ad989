use Rattle.std.proofs.Common.{arith}
use Rattle.module_build.proofs.LimitCases.{limit_degree, limit_span, limit_none}
use Rattle.module_build.proofs.limits.limit_passed.Goals as goal

pub returns-then-not-within : goal.returns-then-not-within
returns-then-not-within c = limit_degree c.args.basis.now c.are_within-within.result (omega arith) c.are_within-within.ensures c.if-not-within.true

pub returns-then-not-near : goal.returns-then-not-near
returns-then-not-near c = limit_span c.args.basis.now c.are_within-within.result c.are_near-near.result (omega arith) c.are_within-within.ensures c.if-not-within.false c.are_near-near.ensures c.if-not-near.true

pub returns : goal.returns
returns c = limit_none c.args.basis.now c.are_within-within.result c.are_near-near.result (omega arith) c.are_within-within.ensures c.if-not-within.false c.are_near-near.ensures c.if-not-near.false
