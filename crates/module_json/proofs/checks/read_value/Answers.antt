use Rattle.std.proofs.Common.{sym}
use Rattle.std.proofs.lemmas.Result.{err_from_is_err_and}
use Rattle.module_json.specs.Checks.{too_long}
use Rattle.module_json.proofs.Reading.{value_ok, value_err}
use Rattle.module_json.proofs.checks.read_value.Goals as goal

pub returns-in_err-check_size-clause-refused : goal.returns-in_err-check_size-clause-refused
returns-in_err-check_size-clause-refused c =
    let p = err_from_is_err_and c.from_residual.result c.from_residual.ensures.1 in
    rw (p.1, p.2) (λ other. too_long c.in_err-check_size.field-0.0 (sym c.in_err-check_size.ensures))

pub returns-clause-value : goal.returns-clause-value
returns-clause-value c = value_ok c.args.bytes.now c.parse.result (sym c.in_ok-check_size.ensures) c.parse.ensures.value

pub returns-clause-refused : goal.returns-clause-refused
returns-clause-refused c = value_err c.args.bytes.now c.parse.result (sym c.in_ok-check_size.ensures) c.parse.ensures.only c.parse.ensures.refuses
