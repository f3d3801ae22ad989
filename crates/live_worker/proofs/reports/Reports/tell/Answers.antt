use Rattle.std.proofs.Common.{◌≡◌, true, sym, subst, refl, ◌∙◌, arith}
use Rattle.live_worker.specs.declared.reports.Reports.{Reports}
use Rattle.live_worker.specs.Reports.{live_line}
use Rattle.live_worker.specs.Inside.Roles.{HasTold}
use Rattle.live_worker.proofs.Calls.{did_well, did_fail}
use Rattle.live_worker.proofs.Telling.{told_none, told_one, told_fault}
use Rattle.live_worker.proofs.reports.Reports.tell.Goals as goal
use Rattle.live_worker.proofs.reports.Reports.tell.Goals.{then-is_err, else-is_err}

pub returns-in_err-line-clause-told : goal.returns-in_err-line-clause-told
returns-in_err-line-clause-told g c = told_none g.E.Sink.written g.E.Sink.faults c.args.self.now

pub returns-clause-told : goal.returns-clause-told
returns-clause-told g c =
    let old = c.args.self.now in
    let written = g.E.Sink.written in
    let faults = g.E.Sink.faults in
    let line : c.as_slice.result.now ≡ live_line old.all c.args.squares = c.as_slice.ensures.value ∙ c.in_ok-line.ensures in
    let less = c.if-squares-self.false in
    elim c.if-is_err.branch [
      | then-is_err w ↦
          let new : Reports g.row.E.Denot = record { err = c.write_all.new.sink; most = c.args.squares; all = old.all; failed = true } in
          let risen = did_fail c.write_all.result c.is_err.result _ c.write_all.ensures.cause c.is_err.ensures.value w.if-is_err.true in
          subst (HasTold written faults old) (sym w.self-is) (told_fault written faults old new c.as_slice.result.now c.if-self.false (omega arith) c.requires refl refl line c.write_all.ensures.prefix risen c.write_all.ensures.never_fall)
      | else-is_err w ↦
          let new : Reports g.row.E.Denot = record { err = c.write_all.new.sink; most = c.args.squares; all = old.all; failed = old.failed } in
          let whole = did_well c.write_all.result c.is_err.result _ c.write_all.ensures.whole c.is_err.ensures.value w.if-is_err.false in
          let same = did_well c.write_all.result c.is_err.result _ c.write_all.ensures.no_fault c.is_err.ensures.value w.if-is_err.false in
          subst (HasTold written faults old) (sym w.self-is) (told_one written faults old new c.as_slice.result.now c.if-self.false (omega arith) c.requires refl c.if-self.false line whole same)
    ]
