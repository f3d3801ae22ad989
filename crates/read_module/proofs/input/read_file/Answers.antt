use Rattle.std.proofs.Common.{sym}
use Rattle.std.proofs.lemmas.Result.{err_from_is_err_and}
use Rattle.ext_report.specs.Failure.{file_failure}
use Rattle.read_module.specs.Input.{IsFileCauseFrom}
use Rattle.read_module.proofs.Reading.{file-read, rest-read, file_cause}
use Rattle.read_module.proofs.input.read_file.Goals as goal

pub returns-in_err-read-clause-cause : goal.returns-in_err-read-clause-cause
returns-in_err-read-clause-cause g c =
    let p = err_from_is_err_and c.from_residual-in_err-read.result c.from_residual-in_err-read.ensures.1 in
    let e = c.in_err-read.field-0.0 in
    let cause : IsFileCauseFrom (g.S.Source.left c.args.source.now) (file_failure e) =
    file_cause _ e (λ n. file-read _ c.as_slice.result.now _ (rw (c.as_slice.ensures.value, sym c.most_read.ensures) c.in_ok-bytes.ensures.given) (c.in_err-read.ensures.refused n)) in
    rw (p.1, p.2) cause

pub returns-in_err-read-clause-read : goal.returns-in_err-read-clause-read
returns-in_err-read-clause-read g c = λ a b. rest-read _ _ c.in_ok-bytes.bytes.items _ c.in_ok-bytes.bytes.ok.0 (rw (sym c.most_read.ensures) c.in_ok-bytes.ensures.given) c.in_ok-bytes.ensures.rest

pub returns-clause-file : goal.returns-clause-file
returns-clause-file g c = file-read _ c.as_slice.result.now _ (rw (c.as_slice.ensures.value, sym c.most_read.ensures) c.in_ok-bytes.ensures.given) c.in_ok-read.ensures.module

pub returns-clause-read : goal.returns-clause-read
returns-clause-read g c = λ a b. rest-read _ _ c.in_ok-bytes.bytes.items _ c.in_ok-bytes.bytes.ok.0 (rw (sym c.most_read.ensures) c.in_ok-bytes.ensures.given) c.in_ok-bytes.ensures.rest
