use Rattle.stem_laws.proofs.InStems.{rows_are_whole}
use Rattle.stem_laws.proofs.rows_in_stems_are_whole.Goals as goal

pub returns : goal.returns
returns c = rows_are_whole
