use Rattle.save_journal.proofs.Standing.{records_read}
use Rattle.save_journal.proofs.laws.records_are_read.Goals as goal

pub returns : goal.returns
returns c = records_read
