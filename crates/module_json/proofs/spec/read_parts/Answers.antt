use Rattle.std.proofs.lemmas.Result.{err_from_is_err_and}
use Rattle.serde_json.specs.View.{view}
use Rattle.module_json.specs.Parts.{modules_of, ArePartsOf, no_value, described}
use Rattle.module_json.proofs.Reading.{holds_ok, holds_err}
use Rattle.module_json.proofs.spec.read_parts.Goals as goal

pub returns-in_err-file-clause-refused : goal.returns-in_err-file-clause-refused
returns-in_err-file-clause-refused c =
    let p = err_from_is_err_and c.from_residual.result c.from_residual.ensures.1 in
    rw (p.1, p.2) (λ other. no_value c.in_err-file.field-0.0 (c.in_err-file.ensures.refused other))

pub returns-clause-modules : goal.returns-clause-modules
returns-clause-modules c = holds_ok (ArePartsOf c.args.want c.args.bytes.now) (modules_of c.args.want (view c.in_ok-file.file)) (λ specs. specs.items) c.describe_parts.result (described (view c.in_ok-file.file) c.in_ok-file.ensures.value) c.describe_parts.ensures.modules

pub returns-clause-refused : goal.returns-clause-refused
returns-clause-refused c = holds_err (ArePartsOf c.args.want c.args.bytes.now) (modules_of c.args.want (view c.in_ok-file.file)) c.describe_parts.result (described (view c.in_ok-file.file) c.in_ok-file.ensures.value) c.describe_parts.ensures.refused
