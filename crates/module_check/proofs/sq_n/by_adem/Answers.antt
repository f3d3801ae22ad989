use Rattle.std.proofs.Common.{◌≡◌, ◌+◌, ◌-◌, ◌*◌, pos, ◌+ℤ◌, length, ap, sym, ◌∙◌, arith}
use Rattle.f2_vec.proofs.Sums.{length-sum_of, sum_of-zeros_right}
use Rattle.milnor_basis.specs.Product.{choose, is_odd}
use Rattle.module_spec.specs.Spec.{degree_at}
use Rattle.finite_module.specs.Module.{width}
use Rattle.module_check.proofs.Adem.{adem_yes, adem_no, adem_all}
use Rattle.module_check.proofs.sq_n.by_adem.Goals as goal
use Rattle.module_check.proofs.sq_n.by_adem.Goals.{then-is_odd_choice+in_ok-term, else-is_odd_choice}

pub loop-c-init : goal.loop-c-init
loop-c-init c = record {
  wide = c.in_ok-sum.ensures.width;
  sum = sym (sum_of-zeros_right _ _ (sym (ap length c.in_ok-sum.ensures.value) ∙ c.in_ok-sum.ensures.width) ∙ sym c.in_ok-sum.ensures.value);
}

pub xor_with-requires : goal.xor_with-requires
xor_with-requires c =
    let e : c.args.a + c.args.b - c.loop-c.c + c.loop-c.c ≡ c.args.a + c.args.b = omega (arith, c.loop-c-test.true) in
    c.loop-c.invariant.wide ∙ ap (λ n. width c.args.operators.now.generators (degree_at c.args.operators.now.generators c.args.i +ℤ pos n)) (sym e) ∙ sym c.in_ok-term.ensures.width

pub loop-c-preserved : goal.loop-c-preserved
loop-c-preserved c =
    let test : c.is_odd_choice.result ≡ is_odd (choose (c.args.b - c.loop-c.c - 1) (c.args.a - 2 * c.loop-c.c)) =
    c.is_odd_choice.ensures ∙ ap (λ n. is_odd (choose n (c.args.a - 2 * c.loop-c.c))) (c.saturating_sub-in-loop-c.ensures ∙ ap (λ n. n - 1) c.saturating_sub.ensures) in
    elim c.if-is_odd_choice.branch [
      | then-is_odd_choice+in_ok-term v ↦
          let e : c.args.a + c.args.b - c.loop-c.c + c.loop-c.c ≡ c.args.a + c.args.b = omega (arith, c.loop-c-test.true) in
          let same : length c.loop-c.sum ≡ length v.in_ok-term.term = c.loop-c.invariant.wide ∙ ap (λ n. width c.args.operators.now.generators (degree_at c.args.operators.now.generators c.args.i +ℤ pos n)) (sym e) ∙ sym v.in_ok-term.ensures.width in
          record {
            wide = ap length (v.sum-is ∙ v.xor_with.ensures) ∙ length-sum_of c.loop-c.sum v.in_ok-term.term same ∙ c.loop-c.invariant.wide;
            sum = adem_yes c.args.operators.now.generators c.args.operators.now.operators c.args.a c.args.b c.args.i c.loop-c.c c.loop-c.sum c.is_odd_choice.result c.loop-c.auto.c test c.loop-c.invariant.sum v.in_ok-term.term c.if-is_odd_choice.sum v.if-is_odd_choice.true v.in_ok-term.ensures.value (v.sum-is ∙ v.xor_with.ensures);
          }
      | else-is_odd_choice v ↦ record {
        wide = ap length v.sum-is ∙ c.loop-c.invariant.wide;
        sum = adem_no c.args.operators.now.generators c.args.operators.now.operators c.args.a c.args.b c.args.i c.loop-c.c c.loop-c.sum c.is_odd_choice.result c.loop-c.auto.c test c.loop-c.invariant.sum c.if-is_odd_choice.sum v.if-is_odd_choice.false v.sum-is;
      }
    ]

pub returns : goal.returns
returns c =
    c.loop-c.invariant.sum ∙ adem_all c.args.operators.now.generators c.args.operators.now.operators c.args.a c.args.b c.args.i c.loop-c.c (omega (arith, c.loop-c-test.false))
