use Rattle.std.proofs.Common.{ℕ, true, List, map, sym, subst}
use Rattle.std.specs.Prelude.{string_bytes, Option, Result, Ok, Err, IfOk}
use Rattle.std.proofs.lemmas.Result.{IfOk-weaker}
use Rattle.path_file.specs.declared.fault.Fault.{Fault}
use Rattle.ext_run.specs.Devices.{device_of, store_of}
use Rattle.ext_run.specs.Plan.{asked_by}
use Rattle.ext_run.specs.Run.{IsRun}
use Rattle.ext_program.specs.SecondLine.{HasToldFault, HasRemarked}
use Rattle.ext_program.proofs.on_save_file.Goals as goal

both : {T E : Type 0} (r : Result T E) (P Q : T → Type 0) → IfOk r P → IfOk r Q → IfOk r (λ x. P x × Q x)
both (Ok x) P Q p q = (p, q)
both (Err e) P Q p q = tt

-- the status is that of the run, and what is told behind it is the fault that its disk knows, or more of the words
pub returns-clause-answered : goal.returns-clause-answered
returns-clause-answered g c =
    let ran = c.on_streams-ended in
    let end = c.finished-exit in
    let same = sym end.ensures.status in
    let P : ℕ → Option Fault → Type 0 = λ n fault. HasToldFault g.E.Sink.written g.E.Sink.faults n fault ran.new.err end.new.err in
    let told = subst (λ n. P n (g.D.KnowsFault.fault ran.result.disk)) same (subst (P ran.result.status) c.fault-fault.ensures end.ensures.told) in
    let Q : List (List ℕ) → ℕ → Type 0 = λ words n. IsRun (device_of g.S.Source.left g.S.Source.faults) (device_of g.O.Sink.written g.O.Sink.faults) (device_of g.E.Sink.written g.E.Sink.faults) (store_of g.D.Disk.now g.D.Disk.moment g.D.Disk.images g.D.Disk.images_at g.D.Disk.since g.D.Disk.faults) (asked_by words) true n
    c.args.source.now ran.new.source c.args.out.now ran.new.out c.args.err.now ran.new.err c.args.disk ran.result.disk in
    let R : List (List ℕ) → ℕ → Type 0 = λ words n. HasRemarked g.E.Sink.written g.E.Sink.faults n words end.new.err c.commented.new.err in
    IfOk-weaker c.args.arguments _ _
    (λ all b. (ran.new.err, ran.result.disk, subst (Q (map string_bytes all.items)) same b.0, (end.new.err, told, subst (R (map string_bytes all.items)) same b.1)))
    (both c.args.arguments _ _ ran.ensures.answered c.commented.ensures.given)
