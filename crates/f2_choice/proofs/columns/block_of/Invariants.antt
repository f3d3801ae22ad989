use Rattle.f2_choice.proofs.AtPlaces.{IsBlockUpTo, read}
use Rattle.f2_choice.proofs.columns.block_of.Given as goal

abbrev pub invariant-loop-r : goal.invariant-loop-r
invariant-loop-r l = IsBlockUpTo l.r l.i l.j (read l.rows) l.block
