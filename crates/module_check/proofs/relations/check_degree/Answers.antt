use Rattle.std.proofs.Common.{◌≡◌, [], ◌+◌, ◌-◌, ap, sym, ◌∙◌, arith}
use Rattle.std.specs.List.{range_with_len}
use Rattle.std.proofs.lemmas.Result.{err_from_is_err_and}
use Rattle.std.proofs.lemmas.Grind.{common_steps}
use Rattle.module_check.specs.Acceptance.{first_in, relation_in_degrees}
use Rattle.module_check.specs.Inside.Relations.{reaching}
use Rattle.module_check.proofs.FirstIn.{first_in_range_more, first_in_range_found}
use Rattle.module_check.proofs.Sides.{nothing_reached}
use Rattle.module_check.proofs.relations.check_degree.Goals as goal

pub returns-then-is_empty-clause-holds : goal.returns-then-is_empty-clause-holds
returns-then-is_empty-clause-holds c =
    let none : c.in_ok-numbers.numbers.items ≡ [] = grind (arith, common_steps) in
    nothing_reached c.args.operators.now c.args.n c.generators.ensures.widths (ap (λ gs. reaching gs c.args.n) (sym c.generators.ensures.generators) ∙ sym c.in_ok-numbers.ensures ∙ none)

pub returns-in_err-check_degrees-clause-fails : goal.returns-in_err-check_degrees-clause-fails
returns-in_err-check_degrees-clause-fails c =
    let p = err_from_is_err_and c.from_residual-in_err-check_degrees.result c.from_residual-in_err-check_degrees.ensures.1 in
    rw (p.1, p.2)
    (λ other. first_in_range_found (relation_in_degrees c.args.operators.now c.args.n) 1 (c.args.n - 1) (c.loop-d.d - 1) c.loop-d.d c.in_err-check_degrees.field-0.0 (omega arith) (omega arith) c.loop-d.invariant (c.in_err-check_degrees.ensures.fails other))

pub loop-d-preserved : goal.loop-d-preserved
loop-d-preserved c =
    let f = relation_in_degrees c.args.operators.now c.args.n in
    let next : c.loop-d.d - 1 + 1 ≡ c.loop-d.d + 1 - 1 = omega arith in
    ap (λ k. first_in f (range_with_len 1 k)) (sym next) ∙ first_in_range_more f 1 (c.loop-d.d - 1) c.loop-d.d (omega arith) c.loop-d.invariant c.in_ok-check_degrees.ensures.holds
