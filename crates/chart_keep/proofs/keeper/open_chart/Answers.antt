use Rattle.std.proofs.Common.{◌≡◌, rules, length, sym, ◌∙◌, ap, subst}
use Rattle.std.specs.Prelude.{IfSome}
use Rattle.save_journal.specs.Journals.{HaveSameRecords, ComeFromEarlier, contents}
use Rattle.chart_file.specs.Files.{IsRefusal}
use Rattle.chart_keep.specs.Files.{of_opening}
use Rattle.chart_keep.proofs.Opened.{refused_opening, failed_opening, not_failed, refused_parts, left_alone, has_parts}
use Rattle.chart_keep.proofs.keeper.open_chart.Goals as goal

-- ---- a file that was not opened

pub returns-in-Err-clause-refused : goal.returns-in-Err-clause-refused
returns-in-Err-clause-refused g c = refused_opening c.args.digest c.in-Err.fault c.from.result (g.D.Disk.now c.args.disk) c.from.ensures c.in-Err.ensures.refused

pub returns-in-Err-clause-same : goal.returns-in-Err-clause-same
returns-in-Err-clause-same g c = λ other memory. c.in-Err.ensures.same (λ e. other (c.from.ensures ∙ ap of_opening e))

pub returns-in-Err-clause-quiet : goal.returns-in-Err-clause-quiet
returns-in-Err-clause-quiet g c = λ other. c.in-Err.ensures.quiet (λ e. other (c.from.ensures ∙ ap of_opening e))

pub returns-in-Err-clause-cause : goal.returns-in-Err-clause-cause
returns-in-Err-clause-cause g c = λ e. c.in-Err.ensures.cause (failed_opening c.in-Err.fault (sym c.from.ensures ∙ e))

-- ---- a file with a strange body

pub returns-clause-refused : goal.returns-clause-refused
returns-clause-refused g c =
    let width : length c.args.digest ≡ 32 = search rules in
    refused_parts c.args.digest (contents c.in-Ok.opened.1.items) c.in-Err-parts_of.fault c.from-in-Err-parts_of.result (g.D.Disk.now c.args.disk) (g.D.Disk.now c.in-Ok.opened.0.disk) width c.in-Ok.ensures.file c.in-Ok.ensures.bodies (subst (λ bodies. IsRefusal (contents bodies) c.in-Err-parts_of.fault) c.as_slice.ensures.value c.in-Err-parts_of.ensures.refused) c.from-in-Err-parts_of.ensures

pub returns-clause-same : goal.returns-clause-same
returns-clause-same g c = λ other memory.
    let width : length c.args.digest ≡ 32 = search rules in
    ap g.D.Disk.now c.into_disk.ensures ∙ left_alone c.args.digest (contents c.in-Ok.opened.1.items) c.in-Err-parts_of.fault c.from-in-Err-parts_of.result (g.D.Disk.now c.args.disk) (g.D.Disk.now c.in-Ok.opened.0.disk) width c.in-Ok.ensures.file c.in-Ok.ensures.bodies (subst (λ bodies. IsRefusal (contents bodies) c.in-Err-parts_of.fault) c.as_slice.ensures.value c.in-Err-parts_of.ensures.refused) c.from-in-Err-parts_of.ensures memory

pub returns-clause-retained : goal.returns-clause-retained
returns-clause-retained g c = subst (λ d. IfSome (g.D.Disk.now c.args.disk) (λ _. ComeFromEarlier g.D.Disk.moment g.D.Disk.images_at c.args.disk d (HaveSameRecords c.args.digest))) (sym c.into_disk.ensures) c.in-Ok.ensures.retained

pub returns-clause-cause : goal.returns-clause-cause
returns-clause-cause g c = λ e. absurd (not_failed c.in-Err-parts_of.fault (sym c.from-in-Err-parts_of.ensures ∙ e))

-- ---- a file that was opened

pub returns-in-Ok-parts_of-clause-parts : goal.returns-in-Ok-parts_of-clause-parts
returns-in-Ok-parts_of-clause-parts g c = has_parts c.args.digest (contents c.in-Ok.opened.1.items) c.in-Ok-parts_of.parts.items (g.D.Disk.now c.in-Ok.opened.0.disk) c.in-Ok.ensures.bodies (c.in-Ok-parts_of.ensures.parts ∙ ap contents c.as_slice.ensures.value) c.in-Ok-parts_of.ensures.are
