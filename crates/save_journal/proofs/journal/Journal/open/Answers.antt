use Rattle.edge.proofs.Moments.{where_told}
use Rattle.save_journal.specs.Records.{records_of}
use Rattle.std.specs.Prelude.{Ok}
use Rattle.std.proofs.Common.{◌≡◌}
use Rattle.save_journal.specs.Journals.{contents}
use Rattle.save_journal.specs.Inside.Held.{IsHeld}
use Rattle.save_journal.proofs.Walk.{at_rest_records}
use Rattle.save_journal.proofs.journal.Journal.open.Goals as goal

pub returns-in-Ok-clause-bodies : goal.returns-in-Ok-clause-bodies
returns-in-Ok-clause-bodies g c =
    where_told (g.D.Disk.now c.open_on.new.disk) (λ file. IsHeld c.args.digest c.in-Ok.end (contents c.in-Ok.list.items) file (g.D.Disk.images c.open_on.new.disk))
    (λ file. records_of c.args.digest file ≡ Ok (contents c.in-Ok.list.items)) c.in-Ok.ensures.held (λ file _ held. at_rest_records c.args.digest c.in-Ok.end (contents c.in-Ok.list.items) file held.at_rest)
