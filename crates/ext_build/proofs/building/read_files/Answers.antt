use Rattle.std.proofs.Common.{sym}
use Rattle.std.proofs.lemmas.Result.{err_from_is_err_and}
use Rattle.ext_report.specs.Failure.{file_failure}
use Rattle.ext_build.specs.Building.{IsBuildCauseFrom}
use Rattle.read_module.proofs.Reading.{rest-read}
use Rattle.ext_build.proofs.Parts.{parts-read, parts_cause}
use Rattle.ext_build.proofs.building.read_files.Goals as goal

pub returns-in_err-read_parts-clause-cause : goal.returns-in_err-read_parts-clause-cause
returns-in_err-read_parts-clause-cause g c =
    let p = err_from_is_err_and c.from_residual-in_err-read_parts.result c.from_residual-in_err-read_parts.ensures.1 in
    let e = c.in_err-read_parts.field-0.0 in
    let cause : IsBuildCauseFrom c.args.made (g.S.Source.left c.args.source.now) (file_failure e) =
    parts_cause c.args.made _ e (λ n. parts-read _ _ c.as_slice.result.now _ (rw (c.as_slice.ensures.value, sym c.most_read.ensures) c.in_ok-bytes.ensures.given) (rw (sym c.wanted.ensures) (c.in_err-read_parts.ensures.refused n))) in
    rw (p.1, p.2) cause

pub returns-in_err-read_parts-clause-read : goal.returns-in_err-read_parts-clause-read
returns-in_err-read_parts-clause-read g c = λ a b. rest-read _ _ c.in_ok-bytes.bytes.items _ c.in_ok-bytes.bytes.ok.0 (rw (sym c.most_read.ensures) c.in_ok-bytes.ensures.given) c.in_ok-bytes.ensures.rest

pub returns-clause-files : goal.returns-clause-files
returns-clause-files g c = parts-read _ _ c.as_slice.result.now _ (rw (c.as_slice.ensures.value, sym c.most_read.ensures) c.in_ok-bytes.ensures.given) (rw (sym c.wanted.ensures) c.in_ok-read_parts.ensures.modules)

pub returns-clause-read : goal.returns-clause-read
returns-clause-read g c = λ a b. rest-read _ _ c.in_ok-bytes.bytes.items _ c.in_ok-bytes.bytes.ok.0 (rw (sym c.most_read.ensures) c.in_ok-bytes.ensures.given) c.in_ok-bytes.ensures.rest
