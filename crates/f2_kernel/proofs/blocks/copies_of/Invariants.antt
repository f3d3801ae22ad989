-- The first i rows are copied.
use Rattle.std.proofs.Common.{◌≡◌, take}
use Rattle.f2_kernel.proofs.blocks.copies_of.Given as goal

abbrev pub invariant-loop-i : goal.invariant-loop-i
invariant-loop-i l = l.copies.items ≡ take l.i l.rows
