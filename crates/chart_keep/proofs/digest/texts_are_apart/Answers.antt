use Rattle.chart_keep.proofs.Texts.{texts_apart}
use Rattle.chart_keep.proofs.digest.texts_are_apart.Goals as goal

pub returns : goal.returns
returns c = texts_apart
