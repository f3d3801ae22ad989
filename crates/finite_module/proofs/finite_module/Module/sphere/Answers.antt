use Rattle.std.proofs.Common.{◌≡◌, ◌+ℤ◌, ◌++◌, [], ◌∷◌, List, Some, pos, length, get_or, ap, sym, ◌∙◌, arith}
use Rattle.milnor_basis.specs.Exponents.{degree_of}
use Rattle.module_spec.specs.Spec.{Generator, degree_at}
use Rattle.finite_module.specs.Module.{Module, width}
use Rattle.finite_module.specs.Checked.{sphere_file}
use Rattle.finite_module.proofs.OneGenerator.{identity, sphere-next, sphere-width, sphere-derived, sphere-is_module}
use Rattle.finite_module.proofs.finite_module.Module.sphere.Goals as goal

pub push-requires-clause-next : goal.push-requires-clause-next
push-requires-clause-next c =
    let bare : List Generator → Module = λ gs. record { generators = gs; operators = [] } in
    let made : c.in_ok-operators.operators ≡ bare sphere_file.generators = c.in_ok-operators.ensures ∙ ap bare c.in_ok-generators.ensures in
    sphere-next c.in_ok-operators.operators made ∙ ap Some (sym c.of.ensures)

pub push-requires-clause-widths : goal.push-requires-clause-widths
push-requires-clause-widths c i l =
    let m = c.in_ok-operators.operators in
    let bare : List Generator → Module = λ gs. record { generators = gs; operators = [] } in
    let made : m ≡ bare sphere_file.generators = c.in_ok-operators.ensures ∙ ap bare c.in_ok-generators.ensures in
    let one : c.in_ok-identity_on_one.field-0 ≡ identity = c.in_ok-identity_on_one.ensures in
    ap (λ values. length (get_or values i [])) one ∙ sphere-width m i made (omega (arith, ap length one)) ∙ ap (λ r. width m.generators (degree_at m.generators i +ℤ pos (degree_of r))) (sym c.of.ensures)

pub new-requires-2 : goal.new-requires-2
new-requires-2 c =
    let bare : List Generator → Module = λ gs. record { generators = gs; operators = [] } in
    let made : c.in_ok-operators.operators ≡ bare sphere_file.generators = c.in_ok-operators.ensures ∙ ap bare c.in_ok-generators.ensures in
    let gs = c.in_ok-push.ensures.generators ∙ ap (λ m. m.generators) made in
    let operators = c.in_ok-push.ensures.ok ∙ ap (λ m. m.operators ++ c.in_ok-identity_on_one.field-0 ∷ []) made ∙ ap (λ values. values ∷ []) c.in_ok-identity_on_one.ensures in
    sphere-is_module c.push.new.self (sphere-derived c.push.new.self gs operators)

pub returns : goal.returns
returns c =
    let bare : List Generator → Module = λ gs. record { generators = gs; operators = [] } in
    let made : c.in_ok-operators.operators ≡ bare sphere_file.generators = c.in_ok-operators.ensures ∙ ap bare c.in_ok-generators.ensures in
    let gs = c.in_ok-push.ensures.generators ∙ ap (λ m. m.generators) made in
    let operators = c.in_ok-push.ensures.ok ∙ ap (λ m. m.operators ++ c.in_ok-identity_on_one.field-0 ∷ []) made ∙ ap (λ values. values ∷ []) c.in_ok-identity_on_one.ensures in
    c.new-2.ensures ∙ sphere-derived c.push.new.self gs operators
