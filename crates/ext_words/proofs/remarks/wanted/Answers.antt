use Rattle.std.proofs.Common.{ap, sym}
use Rattle.std.specs.Fmt.{digits}
use Rattle.ext_words.specs.Remark.{wanted}
use Rattle.ext_words.proofs.remarks.wanted.Goals as goal

pub returns-in-S : goal.returns-in-S
unfolding digits
returns-in-S c = sym (ap wanted c.in-S.is)

pub returns-in-T : goal.returns-in-T
unfolding digits
returns-in-T c = sym (ap wanted c.in-T.is)

pub returns-in-W : goal.returns-in-W
unfolding digits
returns-in-W c = sym (ap wanted c.in-W.is)

pub returns-in-workers : goal.returns-in-workers
unfolding digits
returns-in-workers c = sym (ap wanted c.in-workers.is)

pub returns-in-degrees : goal.returns-in-degrees
unfolding digits
returns-in-degrees c = sym (ap wanted c.in-degrees.is)
