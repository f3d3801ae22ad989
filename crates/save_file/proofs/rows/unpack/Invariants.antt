use Rattle.save_file.specs.Inside.Outline.{packed_of}
use Rattle.save_file.proofs.RowByRow.{AreUnpackedTo}
use Rattle.save_file.proofs.rows.unpack.Given as goal

abbrev pub invariant-loop : goal.invariant-loop
invariant-loop l = AreUnpackedTo (packed_of l.packed) l.counter l.rows.items l.rest
