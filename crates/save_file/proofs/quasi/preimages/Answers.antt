use Rattle.std.proofs.Common.{◌∙◌, sym}
use Rattle.std.proofs.lemmas.List.{length-map}
use Rattle.save_file.proofs.Inverting.{columns_at-widths}
use Rattle.save_file.proofs.quasi.preimages.Goals as goal

pub from_rows-matrix-requires : goal.from_rows-matrix-requires
from_rows-matrix-requires c = columns_at-widths c.len.result c.as_slice.result.now _ c.in_ok-columns.columns.items c.in_ok-columns.ensures (length-map c.as_slice-2.result.now _ ∙ c.as_slice-2.ensures.len ∙ sym c.len.ensures)
