use Rattle.std.proofs.Common.{◌≡◌, ◌∙◌, ℕ, true, List, map, ap, subst, refl, arith}
use Rattle.std.specs.Prelude.{string_bytes}
use Rattle.ext_words.specs.Words.{texts_of}
use Rattle.ext_report.specs.declared.failure.Failure.TheVariants.{Memory}
use Rattle.ext_run.specs.Devices.{device_of, store_of}
use Rattle.ext_run.specs.Plan.{asked_by}
use Rattle.ext_run.specs.Run.{IsRun}
use Rattle.ext_run.proofs.Ending.{run_of_failure}
use Rattle.ext_program.proofs.Unread.{given-none}
use Rattle.ext_program.proofs.answer.Goals as goal

-- the arguments have texts
pub returns-in-Ok : goal.returns-in-Ok
returns-in-Ok g c =
    let same : texts_of c.as_slice.result.now ≡ map string_bytes c.args.arguments.now = ap texts_of c.as_slice.ensures.value ∙ c.in-Ok.ensures in
    let P : List (List ℕ) → Type 0 = λ words. IsRun (device_of g.S.Source.left g.S.Source.faults) (device_of g.O.Sink.written g.O.Sink.faults) (device_of g.E.Sink.written g.E.Sink.faults) (store_of g.D.Disk.now g.D.Disk.moment g.D.Disk.images g.D.Disk.images_at g.D.Disk.since g.D.Disk.faults) (asked_by words) true c.run.result.status
    c.args.source.now c.run.new.source c.args.out.now c.run.new.out c.args.err.now c.run.new.err c.args.disk c.run.result.disk in
    subst P same c.run.ensures

-- there is no memory for them
pub returns-in-Err : goal.returns-in-Err
returns-in-Err g c =
    let law = g.met.D.Disk g.world.𝓛 g.world.𝓜 g.world.𝓡 ((λ s x. x), (λ x. x), (λ x. x), λ x. x) in
    run_of_failure (device_of g.S.Source.left g.S.Source.faults) (device_of g.O.Sink.written g.O.Sink.faults) (device_of g.E.Sink.written g.E.Sink.faults) (store_of g.D.Disk.now g.D.Disk.moment g.D.Disk.images g.D.Disk.images_at g.D.Disk.since g.D.Disk.faults)
    (record { now_is_image = law.now_is_image; counts_now = law.counts_now; only_now = law.only_now; since_earlier = law.since_earlier; since_at = λ d t u c from within there. (law.since_is d t c).1 (record { moment = u; from = from; within = within; image = there }); at_since = λ d t c was. (law.since_is d t c).0 was })
    (asked_by (map string_bytes c.args.arguments.now)) true c.args.source.now c.args.source.now c.args.err.now c.refused.new.err c.args.disk Memory c.refused.result c.args.out.now tt
    (record { unread = λ h. refl; given = given-none _ _; read = λ reads no_6 no_12. absurd (no_12 refl); never_falls = omega arith; no_fault = λ h. refl; failed = λ h. absurd cc })
    c.refused.ensures
