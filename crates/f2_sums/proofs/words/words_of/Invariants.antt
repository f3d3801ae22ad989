-- The rows so far are zero outside of the words so far.
use Rattle.f2_sums.proofs.WithinWords.{AreWithin}
use Rattle.f2_sums.proofs.words.words_of.Given as goal

abbrev pub invariant-loop-row : goal.invariant-loop-row
invariant-loop-row l = AreWithin l.row-index l.from l.to l.rows
