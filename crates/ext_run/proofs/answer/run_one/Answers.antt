use Rattle.std.proofs.Common.{false, Ok, Err, ap}
use Rattle.edge.specs.declared.faults.Failed.{Failed}
use Rattle.ext_words.specs.Words.{texts_of}
use Rattle.ext_run.specs.Devices.{device_of, store_of}
use Rattle.ext_run.specs.Plan.{asked_by}
use Rattle.ext_run.proofs.Lasting.{AreDisks}
use Rattle.ext_run.proofs.Ending.{run_of_failure, run_of_task}
use Rattle.ext_run.proofs.Reporting.{unheard}
use Rattle.ext_run.proofs.answer.run_one.Given.{Over}
use Rattle.ext_run.proofs.answer.run_one.Goals as goal

laws : (g : Over) → AreDisks (store_of g.D.Disk.now g.D.Disk.moment g.D.Disk.images g.D.Disk.images_at g.D.Disk.since g.D.Disk.faults)
laws g = record { now_is_image = g.met.D.Disk.now_is_image; counts_now = g.met.D.Disk.counts_now; only_now = g.met.D.Disk.only_now; since_earlier = g.met.D.Disk.since_earlier; since_at = λ d t u c from within there. (g.met.D.Disk.since_is d t c).1 (record { moment = u; from = from; within = within; image = there }); at_since = λ d t c was. (g.met.D.Disk.since_is d t c).0 was }

pub returns-in-Ok : goal.returns-in-Ok
returns-in-Ok g c =
    let given = c.in-Ok.ensures in
    run_of_task (device_of g.S.Source.left g.S.Source.faults) (device_of g.O.Sink.written g.O.Sink.faults) (device_of g.E.Sink.written g.E.Sink.faults) (store_of g.D.Disk.now g.D.Disk.moment g.D.Disk.images g.D.Disk.images_at g.D.Disk.since g.D.Disk.faults) (laws g)
    (asked_by (texts_of c.args.words.now)) false c.args.source.now c.task_from.new.source c.args.err.now c.outcome-status.new.err c.args.disk c.in-Ok.task given.task.bytes given.task.all given.task.holds given.answer
    (record { unread = given.unread; given = given.given; read = λ reads. given.read reads (λ h. cc) (λ h. cc); never_falls = given.never_fall; no_fault = given.no_fault (λ h. cc) })
    c.text_alone-text.result.1 c.args.out.now c.outcome-status.new.out c.outcome-status.result {F = Failed} c.args.err.now (Ok tt) c.text_alone-text.result.0 c.text_alone-text.ensures (λ is. absurd (cc))
    (unheard _ (device_of g.E.Sink.written g.E.Sink.faults) c.args.words.now given.task.bytes c.in-Ok.task c.text_alone-text.result.0 c.args.err.now c.requires given.task.holds) c.outcome-status.ensures.text c.outcome-status.ensures.failed

pub returns-in-Err : goal.returns-in-Err
returns-in-Err g c =
    let given = c.in-Err.ensures in
    run_of_failure (device_of g.S.Source.left g.S.Source.faults) (device_of g.O.Sink.written g.O.Sink.faults) (device_of g.E.Sink.written g.E.Sink.faults) (store_of g.D.Disk.now g.D.Disk.moment g.D.Disk.images g.D.Disk.images_at g.D.Disk.since g.D.Disk.faults) (laws g)
    (asked_by (texts_of c.args.words.now)) false c.args.source.now c.task_from.new.source c.args.err.now c.failed-status.new.err c.args.disk c.in-Err.failure c.failed-status.result c.args.out.now given.cause
    (record { unread = given.unread; given = given.given; read = λ reads no_6 no_12. given.read reads (λ h. no_6 cc) (λ h. no_12 cc); never_falls = given.never_fall; no_fault = λ no_6. given.no_fault (λ h. no_6 cc); failed = λ h. given.reading (ap Err h) })
    (record { status_is = c.failed-status.ensures.status; line = c.failed-status.ensures.said.line; whole_line = c.failed-status.ensures.said.whole_line; never_falls = c.failed-status.ensures.said.never_falls })
