use Rattle.live_view.proofs.counted.KeptCounted.counts_are_of_table.Goals as goal

pub returns : goal.returns
returns g c o range s k n whole reached row degree is = is
