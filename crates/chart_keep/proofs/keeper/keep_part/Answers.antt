use Rattle.edge.proofs.Moments.{Lawful}
use Rattle.chart_keep.proofs.Kept.{kept, told, durable, retained, moments, told_alone, retained_alone, moments_alone}
use Rattle.chart_keep.proofs.keeper.keep_part.Given.{Over}
use Rattle.chart_keep.proofs.keeper.keep_part.Goals as goal

laws : (g : Over) → Lawful g.D.Disk.now g.D.Disk.moment g.D.Disk.images g.D.Disk.since
laws g = record {
  now_is_image = g.met.D.Disk.now_is_image;
  counts_now = g.met.D.Disk.counts_now;
  only_now = g.met.D.Disk.only_now;
  since_earlier = g.met.D.Disk.since_earlier;
}

-- ---- where nothing was called

pub returns-in_default-clause-told : goal.returns-in_default-clause-told
returns-in_default-clause-told g c = told_alone c.args.journal.now.digest c.args.part.now (g.D.Disk.now c.args.journal.now.disk)

pub returns-in_default-clause-any_moment : goal.returns-in_default-clause-any_moment
returns-in_default-clause-any_moment g c = moments_alone g.D.Disk.now g.D.Disk.moment g.D.Disk.images g.D.Disk.since (laws g) c.args.journal.now.disk c.args.journal.now.digest c.args.journal.now.end c.args.part.now (g.D.Disk.now c.args.journal.now.disk) c.requires.settled

pub returns-in_default-clause-retained : goal.returns-in_default-clause-retained
returns-in_default-clause-retained g c = retained_alone g.D.Disk.moment g.D.Disk.images_at c.args.journal.now.disk c.args.journal.now.digest c.args.part.now (g.D.Disk.now c.args.journal.now.disk)

-- ---- where the part was kept

pub returns-in-Ok-append-clause-kept : goal.returns-in-Ok-append-clause-kept
returns-in-Ok-append-clause-kept g c = kept c.args.journal.now.digest c.in-Ok.framed c.args.part.now c.in-Ok.ensures.is_part c.in-Ok.ensures.body (g.D.Disk.now c.args.journal.now.disk) (g.D.Disk.now c.append.new.self.disk) c.append.ensures.told c.in-Ok-append.ensures.appended

pub returns-in-Ok-append-clause-durable : goal.returns-in-Ok-append-clause-durable
returns-in-Ok-append-clause-durable g c = durable c.args.journal.now.digest c.in-Ok.framed c.args.part.now c.in-Ok.ensures.is_part c.in-Ok.ensures.body (g.D.Disk.now c.args.journal.now.disk) (g.D.Disk.images c.append.new.self.disk) c.in-Ok-append.ensures.durable

pub returns-in-Ok-append-clause-told : goal.returns-in-Ok-append-clause-told
returns-in-Ok-append-clause-told g c = told c.args.journal.now.digest c.in-Ok.framed c.args.part.now c.in-Ok.ensures.is_part c.in-Ok.ensures.body (g.D.Disk.now c.args.journal.now.disk) (g.D.Disk.now c.append.new.self.disk) c.append.ensures.told

pub returns-in-Ok-append-clause-any_moment : goal.returns-in-Ok-append-clause-any_moment
returns-in-Ok-append-clause-any_moment g c = moments c.args.journal.now.digest c.in-Ok.framed c.args.part.now c.in-Ok.ensures.is_part c.in-Ok.ensures.body g.D.Disk.now g.D.Disk.moment g.D.Disk.images g.D.Disk.since (laws g) c.args.journal.now.disk c.append.new.self.disk (g.D.Disk.now c.args.journal.now.disk) c.append.ensures.any_moment

pub returns-in-Ok-append-clause-retained : goal.returns-in-Ok-append-clause-retained
returns-in-Ok-append-clause-retained g c = retained c.args.journal.now.digest c.in-Ok.framed c.args.part.now c.in-Ok.ensures.is_part c.in-Ok.ensures.body g.D.Disk.moment g.D.Disk.images_at c.args.journal.now.disk c.append.new.self.disk (g.D.Disk.now c.args.journal.now.disk) c.append.ensures.retained

-- ---- where the disk failed

pub returns-clause-told : goal.returns-clause-told
returns-clause-told g c = told c.args.journal.now.digest c.in-Ok.framed c.args.part.now c.in-Ok.ensures.is_part c.in-Ok.ensures.body (g.D.Disk.now c.args.journal.now.disk) (g.D.Disk.now c.append.new.self.disk) c.append.ensures.told

pub returns-clause-any_moment : goal.returns-clause-any_moment
returns-clause-any_moment g c = moments c.args.journal.now.digest c.in-Ok.framed c.args.part.now c.in-Ok.ensures.is_part c.in-Ok.ensures.body g.D.Disk.now g.D.Disk.moment g.D.Disk.images g.D.Disk.since (laws g) c.args.journal.now.disk c.append.new.self.disk (g.D.Disk.now c.args.journal.now.disk) c.append.ensures.any_moment

pub returns-clause-retained : goal.returns-clause-retained
returns-clause-retained g c = retained c.args.journal.now.digest c.in-Ok.framed c.args.part.now c.in-Ok.ensures.is_part c.in-Ok.ensures.body g.D.Disk.moment g.D.Disk.images_at c.args.journal.now.disk c.append.new.self.disk (g.D.Disk.now c.args.journal.now.disk) c.append.ensures.retained
