use Rattle.std.proofs.Common.{ℕ, true, List, map, ap, subst, refl}
use Rattle.std.specs.Prelude.{string_bytes}
use Rattle.ext_run.specs.Devices.{device_of, store_of}
use Rattle.ext_run.specs.Plan.{asked_by}
use Rattle.ext_run.specs.Run.{IsRun}
use Rattle.ext_program.proofs.on_streams.Goals as goal

pub returns-in-Ok-clause-answered : goal.returns-in-Ok-clause-answered
returns-in-Ok-clause-answered g c =
    let P : List (List ℕ) → Type 0 = λ words. IsRun (device_of g.S.Source.left g.S.Source.faults) (device_of g.O.Sink.written g.O.Sink.faults) (device_of g.E.Sink.written g.E.Sink.faults) (store_of g.D.Disk.now g.D.Disk.moment g.D.Disk.images g.D.Disk.images_at g.D.Disk.since g.D.Disk.faults) (asked_by words) true c.answer.result.status
    c.args.source.now c.answer.new.source c.args.out.now c.answer.new.out c.args.err.now c.answer.new.err c.args.disk c.answer.result.disk in
    rw c.in-Ok.is (subst P (ap (map string_bytes) c.as_slice.ensures.value) c.answer.ensures)

pub returns-in-Err-clause-refused : goal.returns-in-Err-clause-refused
returns-in-Err-clause-refused g c =
    rw c.in-Err.is (refl, refl, c.refused.ensures, refl)
