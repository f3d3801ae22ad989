use Rattle.std.proofs.Common.{◌≡◌, ◌∙◌, refl, ap, inr, Err}
use Rattle.std.proofs.lemmas.Result.{err_from_is_err_and}
use Rattle.bidegree.specs.declared.shape.Shape.TheVariants.{Rectangle}
use Rattle.cert_check.specs.declared.fault.CertFault.{CertFault}
use Rattle.cert_check.proofs.Faults.{none_first}
use Rattle.ext_chart.proofs.Seen.{through_seen}
use Rattle.ext_report.specs.declared.failure.Failure.{Failure}
use Rattle.ext_report.specs.declared.failure.Failure.TheVariants.{Certificate}
use Rattle.ext_run.proofs.Verified.{through_certified, is_verified}
use Rattle.ext_run.proofs.verifying.certified_chart.Goals as goal

pub returns-in_err-verify-clause-refused : goal.returns-in_err-verify-clause-refused
returns-in_err-verify-clause-refused c = λ fault first.
    let p = err_from_is_err_and c.from_residual.result c.from_residual.ensures.1 in
    let both = (c.in_err-verify.ensures.fault fault).1 first in
    let same : c.in_err-verify.field-0.0 ≡ fault = cc in
    p.1 ∙ ap (λ (e : Failure). Err e) (p.2 ∙ ap (λ (f : CertFault). Certificate f) same)

pub returns-in_err-verify-clause-why : goal.returns-in_err-verify-clause-why
returns-in_err-verify-clause-why c =
    let p = err_from_is_err_and c.from_residual.result c.from_residual.ensures.1 in
    rw p.1 (inr (c.in_err-verify.field-0.0, p.2, (c.in_err-verify.ensures.fault c.in_err-verify.field-0.0).0 refl))

pub verified_chart-requires : goal.verified_chart-requires
verified_chart-requires c = through_seen c.args.range Rectangle c.args.table.now.rows (through_certified c.args.range c.args.table.now (c.in_ok-verify.ensures.ok.0 refl))

pub returns-in_err-verified_chart-clause-refused : goal.returns-in_err-verified_chart-clause-refused
returns-in_err-verified_chart-clause-refused c = λ fault first. absurd (none_first c.args.table.now c.args.range (c.in_ok-verify.ensures.ok.0 refl) fault first)

pub returns-clause-text : goal.returns-clause-text
returns-clause-text c =
    let certified = c.in_ok-verify.ensures.ok.0 refl in
    is_verified c.canonical_table_is_minimal_resolution.ensures c.modules_are_graded_modules.ensures c.args.range c.args.table.now c.in_ok-verified_chart.field-0.items (through_certified c.args.range c.args.table.now certified) c.in_ok-verify.ensures.counts c.in_ok-verified_chart.ensures

pub returns-clause-refused : goal.returns-clause-refused
returns-clause-refused c = λ fault first. absurd (none_first c.args.table.now c.args.range (c.in_ok-verify.ensures.ok.0 refl) fault first)
