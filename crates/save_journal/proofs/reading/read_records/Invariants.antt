use Rattle.std.proofs.Common.{◌-◌, length}
use Rattle.save_journal.specs.Journals.{contents}
use Rattle.save_journal.proofs.ReadTo.{IsReadTo}
use Rattle.save_journal.proofs.reading.read_records.Given as goal

abbrev pub invariant-loop-place : goal.invariant-loop-place
invariant-loop-place l = IsReadTo l.digest l.bytes (contents l.list.items) l.place

abbrev pub decreases-loop-place : goal.decreases-loop-place
decreases-loop-place l = length l.bytes - l.place
