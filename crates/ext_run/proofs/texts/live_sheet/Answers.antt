use Rattle.std.proofs.Common.{Bool, Ok, Err, sym, subst}
use Rattle.std.specs.Prelude.{OnOk, ⊤}
use Rattle.ext_report.specs.declared.failure.Failure.{Failure}
use Rattle.ext_report.specs.declared.failure.Failure.TheVariants.{Memory}
use Rattle.live_worker.specs.Reports.{squares_of}
use Rattle.live_worker.proofs.Reported.{retold}
use Rattle.ext_run.specs.Devices.{device_of}
use Rattle.ext_run.specs.Live.{HasHeard}
use Rattle.ext_run.specs.Plan.{live_where}
use Rattle.ext_run.proofs.Reporting.{told_there}
use Rattle.ext_run.specs.Courses.{HasCourse}
use Rattle.ext_run.proofs.Courses.{course_narrowed, no_course}
use Rattle.ext_run.proofs.texts.live_sheet.Goals as goal

pub returns-in-Ok-clause-heard : goal.returns-in-Ok-clause-heard
returns-in-Ok-clause-heard g c =
    let made = c.sheet_live-made.result.0 in
    let heard = c.sheet_live-made.result.1 in
    subst (λ (live : Bool). HasHeard (device_of g.E.Sink.written g.E.Sink.faults) (live_where live c.args.common.range) (Ok c.in-Ok.text) heard c.args.err.now c.sheet_live-made.new.err) (sym c.requires.live)
    (retold (squares_of c.args.common.range) made (Ok c.in-Ok.text) heard _ _ _ _ (told_there {Y = Failure} made (Ok c.in-Ok.text) c.in-Ok.text c.in-Ok.is) c.sheet_live-made.ensures.reported)

pub returns-in-Err-clause-heard : goal.returns-in-Err-clause-heard
returns-in-Err-clause-heard g c =
    let made = c.sheet_live-made.result.0 in
    let heard = c.sheet_live-made.result.1 in
    subst (λ (live : Bool). HasHeard (device_of g.E.Sink.written g.E.Sink.faults) (live_where live c.args.common.range) (Err Memory) heard c.args.err.now c.sheet_live-made.new.err) (sym c.requires.live)
    (retold (squares_of c.args.common.range) made (Err Memory) heard _ _ _ _ tt c.sheet_live-made.ensures.reported)

pub returns-in-Ok-clause-course : goal.returns-in-Ok-clause-course
returns-in-Ok-clause-course g c =
    let m = c.args.resolved in
    let course = subst (λ r. OnOk r (HasCourse c.args.common.workers c.args.common.range c.args.shape m.plain ⊤)) c.in-Ok.is c.sheet_live-made.ensures.course in
    course_narrowed c.args.common.workers c.args.common.range c.args.shape m.plain (λ has. tt) course

pub returns-in-Err-clause-course : goal.returns-in-Err-clause-course
returns-in-Err-clause-course g c = let m = c.args.resolved in no_course c.args.common.workers c.args.common.range c.args.shape m.plain (λ has. has)
