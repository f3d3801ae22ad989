use Rattle.std.proofs.Common.{inr, refl}
use Rattle.live_worker.proofs.making.reported_whole.Goals as goal

pub returns-in-Err-tell-clause-is : goal.returns-in-Err-tell-clause-is
returns-in-Err-tell-clause-is g c = inr (c.in-Ok.is, refl)
