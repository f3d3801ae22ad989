use Rattle.ext_chart.proofs.shown.ImagesShown.basis.Goals as goal

pub returns : goal.returns
returns c = c.basis.ensures c.args._s c.args._k c.requires
