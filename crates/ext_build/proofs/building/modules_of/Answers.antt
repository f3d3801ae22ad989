use Rattle.std.proofs.Common.{rules, arith, ◌≡◌, ◌≢◌, ◌<◌, ◌∙◌, length, slice_index_or, Option, Some, List, [], ◌∷◌, ap, sym, Err}
use Rattle.std.specs.Option.{option_or, option_map}
use Rattle.std.proofs.lemmas.Result.{err_from_is_err_and}
use Rattle.module_spec.specs.Spec.{File}
use Rattle.module_check.specs.declared.fault.CheckFault.{CheckFault as Fault}
use Rattle.module_check.specs.Acceptance.{refusal_of}
use Rattle.ext_report.specs.declared.failure.Failure.{Failure}
use Rattle.ext_report.specs.declared.failure.Failure.TheVariants.{NotModule, Memory}
use Rattle.ext_build.specs.Building.{first_refused}
use Rattle.ext_build.proofs.building.modules_of.Goals as goal

-- where the first file describes no module
refused_at_once : (files : List File) (f : File) (e : Fault) → 0 < length files → f ≡ slice_index_or files 0 f → refusal_of f ≡ Some e → first_refused files ≡ Some (f, e)
refused_at_once [] f e some is refused = absurd (omega (arith, some))
refused_at_once (g ∷ files) f e some is refused =
    ap (λ (x : File). option_or (option_map (λ e. (x, e)) (refusal_of x)) (first_refused files)) (sym is) ∙ ap (λ (o : Option Fault). option_or (option_map (λ e. (f, e)) o) (first_refused files)) refused

pub returns-in_err-module-clause-cause : goal.returns-in_err-module-clause-cause
returns-in_err-module-clause-cause c =
    let p = err_from_is_err_and c.from_residual-in_err-module.result c.from_residual-in_err-module.ensures.1 in
    let failure = c.in_err-module.field-0.0 in
    let cause : failure ≢ Memory → (f : File) × (e : Fault) × (failure ≡ NotModule f e) × (first_refused c.args.files.items ≡ Some (f, e)) = λ other.
    let why = c.in_err-module.ensures.cause other in
    (c.remove.result, why.0, why.1, sym c.loop-alloc.invariant.rest ∙ refused_at_once c.loop-alloc.files.items c.remove.result why.0 (search rules) c.remove.ensures.value why.2) in
    rw (p.1, p.2) cause
