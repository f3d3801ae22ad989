use Rattle.std.proofs.lemmas.Result.{err_from_is_err_and}
use Rattle.serde_json.specs.View.{view}
use Rattle.module_json.specs.ModuleFile.{file_of, IsFileOf, no_value, described}
use Rattle.module_json.proofs.Reading.{holds_ok, holds_err}
use Rattle.module_json.proofs.spec.read.Goals as goal

pub returns-in_err-file-clause-refused : goal.returns-in_err-file-clause-refused
returns-in_err-file-clause-refused c =
    let p = err_from_is_err_and c.from_residual.result c.from_residual.ensures.1 in
    rw (p.1, p.2) (λ other. no_value c.in_err-file.field-0.0 (c.in_err-file.ensures.refused other))

pub returns-clause-module : goal.returns-clause-module
returns-clause-module c = holds_ok (IsFileOf c.args.bytes.now) (file_of (view c.in_ok-file.file)) (λ s. s) c.describe.result (described (view c.in_ok-file.file) c.in_ok-file.ensures.value) c.describe.ensures.module

pub returns-clause-refused : goal.returns-clause-refused
returns-clause-refused c = holds_err (IsFileOf c.args.bytes.now) (file_of (view c.in_ok-file.file)) c.describe.result (described (view c.in_ok-file.file) c.in_ok-file.ensures.value) c.describe.ensures.refused
