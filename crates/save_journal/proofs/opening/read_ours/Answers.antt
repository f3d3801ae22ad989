use Rattle.edge.proofs.Moments.{Lawful, started, goes_on, passes_then}
use Rattle.save_journal.proofs.opening.read_ours.Given.{Over}
use Rattle.save_journal.proofs.opening.read_ours.Goals.{After-read_rest}
use Rattle.save_journal.proofs.opening.read_ours.Goals as goal

laws : (g : Over) → Lawful g.D.Disk.now g.D.Disk.moment g.D.Disk.images g.D.Disk.since
laws g = record {
  now_is_image = g.met.D.Disk.now_is_image;
  counts_now = g.met.D.Disk.counts_now;
  only_now = g.met.D.Disk.only_now;
  since_earlier = g.met.D.Disk.since_earlier;
}

pub returns-in_err-read_rest-clause-any_moment : goal.returns-in_err-read_rest-clause-any_moment
returns-in_err-read_rest-clause-any_moment g c =
    goes_on _ _ _ _ (laws g) c.args.disk.now c.read.new.self c.read_rest.new.disk (g.D.Disk.images c.args.disk.now)
    (goes_on _ _ _ _ (laws g) c.args.disk.now c.args.disk.now c.read.new.self (g.D.Disk.images c.args.disk.now) (started _ _ _ _ (laws g) c.args.disk.now (g.D.Disk.images c.args.disk.now) (λ x left. left)) c.read.ensures.time (λ x left. (c.read.ensures.images x).0 left))
    c.read_rest.ensures.time (λ x left. (c.read.ensures.images x).0 ((c.read_rest.ensures.images x).0 left))

pub returns-clause-any_moment : goal.returns-clause-any_moment
returns-clause-any_moment g c =
    goes_on _ _ _ _ (laws g) c.args.disk.now c.read.new.self c.read_rest.new.disk (g.D.Disk.images c.args.disk.now)
    (goes_on _ _ _ _ (laws g) c.args.disk.now c.args.disk.now c.read.new.self (g.D.Disk.images c.args.disk.now) (started _ _ _ _ (laws g) c.args.disk.now (g.D.Disk.images c.args.disk.now) (λ x left. left)) c.read.ensures.time (λ x left. (c.read.ensures.images x).0 left))
    c.read_rest.ensures.time (λ x left. (c.read.ensures.images x).0 ((c.read_rest.ensures.images x).0 left))

pub returns-in_err-read_rest-clause-passes : goal.returns-in_err-read_rest-clause-passes
returns-in_err-read_rest-clause-passes g c = passes_then _ _ _ _ _ _ _ _ c.read.ensures.time.later c.read_rest.ensures.images c.read.ensures.passes c.read_rest.ensures.passes

pub returns-clause-passes : goal.returns-clause-passes
returns-clause-passes g c = passes_then _ _ _ _ _ _ _ _ c.read.ensures.time.later c.read_rest.ensures.images c.read.ensures.passes c.read_rest.ensures.passes
