use Rattle.std.proofs.Common.{◌≡◌, [], Ok, subst, ◌∙◌}
use Rattle.square_board.specs.declared.job.Taken.TheVariants.{Job}
use Rattle.square_board.specs.Boards.{IsSamePass, HasTurned, HasTakenJob}
use Rattle.square_board.specs.Desks.{MatchTaken}
use Rattle.square_board.proofs.Seen.{and_then, by_take, by_turn}
use Rattle.square_board.proofs.Working.{worked_same, worked_job, worked_leaves_none, took_none}
use Rattle.square_board.proofs.worker.work.Goals as goal

pub returns-in-Ok-Over-clause-stopped : goal.returns-in-Ok-Over-clause-stopped
returns-in-Ok-Over-clause-stopped g c cause =
    let is = c.in-Ok-Over.is in
    let over = c.in-Ok-Over.field-0-is in
    (λ e. absurd (let f = e in cc), λ f. absurd (let t = (c.take.ensures.stopped cause).1 f in cc))

pub returns-in-Ok-Stopped-clause-stopped : goal.returns-in-Ok-Stopped-clause-stopped
returns-in-Ok-Stopped-clause-stopped g c cause =
    let is = c.in-Ok-Stopped.is in
    let stopped = c.in-Ok-Stopped.field-0-is in
    let why = c.in-Ok-Stopped.cause-is in
    (λ e. (c.take.ensures.stopped cause).0 (let f = e in cc), λ f. let t = (c.take.ensures.stopped cause).1 f in cc)

pub returns-in-Err-clause-stopped : goal.returns-in-Err-clause-stopped
returns-in-Err-clause-stopped g c cause =
    let is = c.in-Err.is in
    (λ e. absurd (let f = e in cc), λ f. absurd (let t = (c.take.ensures.stopped cause).1 f in cc))

pub returns-in-Err-clause-no_less : goal.returns-in-Err-clause-no_less
returns-in-Err-clause-no_less g c = and_then _ _ _ c.loop.invariant.no_less (by_take g.T.Stock.words _ _ _ c.take.ensures.job)

pub returns-in-Ok-Stopped-clause-no_less : goal.returns-in-Ok-Stopped-clause-no_less
returns-in-Ok-Stopped-clause-no_less g c = and_then _ _ _ c.loop.invariant.no_less (by_take g.T.Stock.words _ _ _ c.take.ensures.job)

pub returns-in-Err-clause-worked : goal.returns-in-Err-clause-worked
returns-in-Err-clause-worked g c =
    let is = c.in-Err.is in
    worked_same _ _ _ c.loop.invariant.worked (took_none g.T.Stock.words c.loop.pass c.take.new.pass c.take.result c.take.ensures.job (λ job e. let f = e in cc))

pub returns-in-Ok-Over-clause-worked : goal.returns-in-Ok-Over-clause-worked
returns-in-Ok-Over-clause-worked g c =
    let is = c.in-Ok-Over.is in
    let over = c.in-Ok-Over.field-0-is in
    worked_same _ _ _ c.loop.invariant.worked (took_none g.T.Stock.words c.loop.pass c.take.new.pass c.take.result c.take.ensures.job (λ job e. let f = e in cc))

pub returns-in-Ok-Stopped-clause-worked : goal.returns-in-Ok-Stopped-clause-worked
returns-in-Ok-Stopped-clause-worked g c =
    let is = c.in-Ok-Stopped.is in
    let stopped = c.in-Ok-Stopped.field-0-is in
    worked_same _ _ _ c.loop.invariant.worked (took_none g.T.Stock.words c.loop.pass c.take.new.pass c.take.result c.take.ensures.job (λ job e. let f = e in cc))

pub returns-in-Err-clause-stays : goal.returns-in-Err-clause-stays
returns-in-Err-clause-stays g c =
    let is = c.in-Err.is in
    let same = took_none g.T.Stock.words c.loop.pass c.take.new.pass c.take.result c.take.ensures.job (λ job e. let f = e in cc) in
    λ memory idle. let told = c.take.ensures.idle.1 (same, idle) in cc

pub returns-in-Ok-Over-clause-stays : goal.returns-in-Ok-Over-clause-stays
returns-in-Ok-Over-clause-stays g c = λ memory idle. absurd (cc)

pub returns-in-Ok-Stopped-clause-stays : goal.returns-in-Ok-Stopped-clause-stays
returns-in-Ok-Stopped-clause-stays g c = λ memory idle. absurd (cc)

pub loop-preserved-in-Ok-Job : goal.loop-preserved-in-Ok-Job
loop-preserved-in-Ok-Job g c =
    let w = g.T.Stock.words in
    let first = c.args.pass.now in
    let old = c.loop.pass in
    let mid = c.take.new.pass in
    let new = c.make.new.pass in
    let job = c.in-Ok-Job.job in
    let is = c.in-Ok-Job.is in
    let field = c.in-Ok-Job.field-0-is in
    let same_job = c.in-Ok-Job.job-is in
    let taken : c.take.result ≡ Ok (Job job) = cc in
    let took : HasTakenJob w old mid job = subst (λ r. MatchTaken r (λ j. HasTakenJob w old mid j) (HasTurned w old mid [])) taken c.take.ensures.job in
    let same : IsSamePass first new = record {
      number = c.make.ensures.same.number ∙ (c.take.ensures.same.number ∙ c.loop.invariant.same.number);
      joined = c.make.ensures.same.joined ∙ (c.take.ensures.same.joined ∙ c.loop.invariant.same.joined);
    } in
    record {
      may_go_on = tt;
      goes_on = tt;
      pass = c.make.ensures.pass;
      same = same;
      no_less = and_then first mid new (and_then first old mid c.loop.invariant.no_less (by_turn w old mid _ took.turned)) c.make.ensures.no_less;
      worked = worked_job w first old mid new job c.loop.invariant.worked took c.make.ensures.ended;
    }

pub prepare-spare-requires-clause-none : goal.prepare-spare-requires-clause-none
prepare-spare-requires-clause-none g c κs within =
    let is = c.in-Ok-Idle.is in
    let idle = c.in-Ok-Idle.field-0-is in
    let first = c.args.pass.now in
    let old = c.loop.pass in
    let new = c.take.new.pass in
    let same = took_none g.T.Stock.words old new c.take.result c.take.ensures.job (λ job e. let f = e in cc) in
    worked_leaves_none first new c.requires.none (worked_same first old new c.loop.invariant.worked same)
