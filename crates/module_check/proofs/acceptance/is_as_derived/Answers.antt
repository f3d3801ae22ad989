use Rattle.std.proofs.Common.{◌≡◌, [], ◌∷◌, pos, ◌+ℤ◌, to_z, of_z, w64, rules, ap, sym, ◌∙◌}
use Rattle.std.proofs.lemmas.Int.{to_z-of_z}
use Rattle.f2_vec.specs.Vectors.{sum_of}
use Rattle.module_spec.specs.Spec.{degree_at}
use Rattle.finite_module.specs.Module.{value}
use Rattle.finite_module.specs.DerivedAction.{sum_vector}
use Rattle.module_check.proofs.Entries.{as_derived}
use Rattle.module_check.proofs.acceptance.is_as_derived.Goals as goal

pub returns : goal.returns
returns c =
    let m = c.args.operators.now in
    let fits : to_z w64 (of_z w64 c.degree_above-t.result) ≡ c.degree_above-t.result = to_z-of_z w64 c.degree_above-t.result (search rules) in
    let above : c.degree_above-t.result ≡ (degree_at m.generators c.args.i +ℤ pos c.args.n) = c.degree_above-t.ensures.degree ∙ ap (λ gs. degree_at gs c.args.i +ℤ pos c.args.n) c.generators-generators.ensures.generators in
    let made : c.in_ok-difference.difference ≡ sum_vector m.generators c.args.sum.now (degree_at m.generators c.args.i +ℤ pos c.args.n) = c.in_ok-difference.ensures ∙ ap (sum_vector c.generators-generators.result.now c.args.sum.now) (fits ∙ above) ∙ ap (λ gs. sum_vector gs c.args.sum.now (degree_at m.generators c.args.i +ℤ pos c.args.n)) c.generators-generators.ensures.generators in
    let added : c.add_value.new.sum ≡ sum_of c.in_ok-difference.difference (value m.generators m.operators (c.args.n ∷ []) c.args.i) = c.add_value.ensures.sum ∙ ap (λ r. sum_of c.in_ok-difference.difference (value m.generators m.operators r c.args.i)) c.sq.ensures in
    as_derived m c.args.n c.args.i c.args.sum.now c.in_ok-difference.difference c.add_value.new.sum c.generators-generators.ensures.widths made added c.is_zero.result (sym c.if-is_power_of_two.ensures) c.is_zero.ensures.0 c.is_zero.ensures.1
