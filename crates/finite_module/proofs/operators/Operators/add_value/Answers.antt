use Rattle.std.proofs.Common.{◌≡◌, length, ap, sym, ◌∙◌}
use Rattle.f2_vec.specs.Vectors.{sum_of}
use Rattle.f2_vec.proofs.Sums.{sum_of-zeros_right, length-sum_of}
use Rattle.finite_module.proofs.operators.Operators.add_value.Goals as goal

pub returns-in-None-clause-sum : goal.returns-in-None-clause-sum
returns-in-None-clause-sum c =
    sym (ap (sum_of c.args.sum.now) c.in-None.ensures.none ∙ sum_of-zeros_right _ c.args.sum.now c.requires)

pub returns-in-Some-clause-width : goal.returns-in-Some-clause-width
returns-in-Some-clause-width c =
    let same : length c.args.sum.now ≡ length c.in-Some.value.now = c.requires ∙ sym (ap length c.in-Some.ensures.some ∙ c.in-Some.ensures.width) in
    ap length c.xor_with.ensures ∙ length-sum_of c.args.sum.now c.in-Some.value.now same
