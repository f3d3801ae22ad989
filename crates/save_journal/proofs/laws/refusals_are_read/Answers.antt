use Rattle.save_journal.proofs.Standing.{refusals_read}
use Rattle.save_journal.proofs.laws.refusals_are_read.Goals as goal

pub returns : goal.returns
returns c = refusals_read
