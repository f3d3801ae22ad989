use Rattle.std.proofs.Common.{arith}
use Rattle.milnor_basis.proofs.ExponentLemmas.{entry-trimmed, length-trimmed, IsTrimmed-trimmed, length_back, length_reached}
use Rattle.milnor_basis.proofs.exps.Exps.len.Goals as goal

pub loop-len-init : goal.loop-len-init
loop-len-init c = record { within = omega arith; zeros_after = omega (arith, length-trimmed c.self.inside.numbers) }

pub loop-len-preserved : goal.loop-len-preserved
loop-len-preserved c = record {
  within = omega arith;
  zeros_after = length_back c.self.inside.numbers c.loop-len.len c.loop-len.invariant.zeros_after c.if-self-len-eq0.true;
}

pub returns-else-self-len-eq0-clause-length : goal.returns-else-self-len-eq0-clause-length
returns-else-self-len-eq0-clause-length c = rw (← c.self.view_is) (length_reached c.self.inside.numbers c.loop-len.len c.loop-len.invariant.zeros_after (λ h. c.if-self-len-eq0.false))

pub returns-else-self-len-eq0-clause-trimmed : goal.returns-else-self-len-eq0-clause-trimmed
returns-else-self-len-eq0-clause-trimmed c = rw (← c.self.view_is) (IsTrimmed-trimmed c.self.inside.numbers)

pub returns-else-self-len-eq0-clause-small : goal.returns-else-self-len-eq0-clause-small
returns-else-self-len-eq0-clause-small c = rw (← c.self.view_is) (λ j. rw entry-trimmed (c.self.invariant.1 j))
