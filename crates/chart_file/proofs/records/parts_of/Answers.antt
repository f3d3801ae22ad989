use Rattle.std.proofs.Common.{◌+◌, ℕ, List, sym, subst, ap, ◌∙◌, arith}
use Rattle.std.proofs.lemmas.List.{take_all}
use Rattle.save_journal.specs.Journals.{contents}
use Rattle.chart_file.specs.Parts.{Part}
use Rattle.chart_file.specs.Faults.{IsWrong}
use Rattle.chart_file.proofs.Files.{AreRead, one_body_read, refused_body}
use Rattle.chart_file.proofs.records.parts_of.Goals as goal

pub loop-i-preserved : goal.loop-i-preserved
loop-i-preserved c =
    let read = c.in-Ok.ensures.part in
    let P : List Part → Type 0 = λ parts. AreRead c.args.bodies.now (c.loop-i.i + 1) parts in
    subst P (sym c.in_ok-push-in-Ok.ensures.items) (one_body_read c.args.bodies.now c.loop-i.i c.loop-i.parts.items c.index-bodies-i.result c.in-Ok.part c.loop-i.invariant c.loop-i-test.true c.index-bodies-i.is read.0 (read.1 ∙ c.as_slice-body.ensures.value))

pub returns-in-Err-clause-refused : goal.returns-in-Err-clause-refused
returns-in-Err-clause-refused c =
    let value = c.as_slice-body.ensures.value in
    refused_body c.args.bodies.now c.loop-i.i c.loop-i.parts.items c.index-bodies-i.result c.in-Err.fault c.refusal.result c.loop-i.invariant c.loop-i-test.true c.index-bodies-i.is (λ other p is same. c.in-Err.ensures.none other p is (same ∙ sym value)) (subst (λ (b : List ℕ). IsWrong b c.in-Err.fault) value c.in-Err.ensures.wrong) c.refusal.ensures

pub returns-clause-parts : goal.returns-clause-parts
returns-clause-parts c = c.loop-i.invariant.bytes ∙ ap contents (take_all c.loop-i.i c.args.bodies.now (omega arith))

pub returns-clause-are : goal.returns-clause-are
returns-clause-are c = c.loop-i.invariant.are
