use Rattle.std.proofs.Common.{◌≡◌, ◌-◌, pos, ◌+ℤ◌, cond, map, length, take, to_z, of_z, w64, ◌+◌, ap, sym, subst, ◌∙◌, arith}
use Rattle.std.specs.List.{range_with_len}
use Rattle.std.proofs.lemmas.Int.{ints}
use Rattle.std.proofs.lemmas.List.FromFn.{length-range_with_len}
use Rattle.f2_vec.specs.Vectors.{sum_of}
use Rattle.f2_vec.specs.Spans.{combination}
use Rattle.milnor_basis.specs.Exponents.{degree_of}
use Rattle.module_spec.specs.Spec.{degree_at}
use Rattle.finite_module.specs.Module.{Module, generators_in, width, value, act_on}
use Rattle.finite_module.specs.Operators.{HaveWidths}
use Rattle.finite_module.proofs.Values.{degree_of_number, act_more, act_all}
use Rattle.finite_module.proofs.operators.Operators.act_on.Goals as goal
use Rattle.finite_module.proofs.operators.Operators.act_on.Goals.{then-get, else-get}

pub overflow_add-start : goal.overflow_add-start
overflow_add-start c =
    let gs = c.args.self.now.generators in
    let t = to_z w64 (of_z w64 c.args.t) in
    let same : t ≡ c.args.t = omega (arith, ints) in
    let wide : length c.args.v.now ≡ width gs t = c.requires ∙ ap (width gs) (sym same) in
    let start = c.within-start.result.start in
    let numbers = subst (λ (m : Module). generators_in m.generators t ≡ range_with_len start (c.within-start.result.end - start)) c.self.view_is c.within-start.ensures.generators in
    let count : width gs t ≡ c.within-start.result.end - start = ap length numbers ∙ length-range_with_len start (c.within-start.result.end - start) in
    omega (arith, c.len-k-end.ensures, c.within-start.type_inv)

pub add_value-requires : goal.add_value-requires
add_value-requires c =
    let gs = c.args.self.now.generators in
    let t = to_z w64 (of_z w64 c.args.t) in
    let same : t ≡ c.args.t = omega (arith, ints) in
    let wide : length c.args.v.now ≡ width gs t = c.requires ∙ ap (width gs) (sym same) in
    let operators = c.args.self.now.operators in
    let r = c.args.r.now in
    let start = c.within-start.result.start in
    let widths = subst (λ (m : Module). HaveWidths m.generators m.operators) c.self.view_is c.self.invariant.widths in
    let numbers = subst (λ (m : Module). generators_in m.generators t ≡ range_with_len start (c.within-start.result.end - start)) c.self.view_is c.within-start.ensures.generators in
    let at : degree_at gs (start + c.loop-k.k) ≡ t = degree_of_number gs operators widths r t start (c.within-start.result.end - start) numbers c.loop-k.k (omega (arith, c.len-k-end.ensures)) in
    c.loop-k.invariant.wide ∙ ap (λ z. width gs (z +ℤ pos (degree_of r))) (sym at)

pub loop-k-preserved : goal.loop-k-preserved
loop-k-preserved c =
    let gs = c.args.self.now.generators in
    let t = to_z w64 (of_z w64 c.args.t) in
    let same : t ≡ c.args.t = omega (arith, ints) in
    let wide : length c.args.v.now ≡ width gs t = c.requires ∙ ap (width gs) (sym same) in
    let operators = c.args.self.now.operators in
    let r = c.args.r.now in
    let start = c.within-start.result.start in
    let widths = subst (λ (m : Module). HaveWidths m.generators m.operators) c.self.view_is c.self.invariant.widths in
    let numbers = subst (λ (m : Module). generators_in m.generators t ≡ range_with_len start (c.within-start.result.end - start)) c.self.view_is c.within-start.ensures.generators in
    let before = combination (width gs (t +ℤ pos (degree_of r))) (take c.loop-k.k c.args.v.now) (take c.loop-k.k (map (value gs operators r) (generators_in gs t))) in
    let next = value gs operators r (start + c.loop-k.k) in
    let more = act_more gs operators widths r t start (c.within-start.result.end - start) numbers c.loop-k.k c.args.v.now wide (omega (arith, c.len-k-end.ensures)) in
    elim c.if-get.branch [
      | then-get w ↦ record {
        wide = ap length w.sum-is ∙ w.add_value.ensures.width ∙ c.loop-k.invariant.wide;
        sum = w.sum-is ∙ w.add_value.ensures.sum ∙ ap (λ s. sum_of s next) c.loop-k.invariant.sum ∙ sym (more ∙ ap (λ b. cond b (sum_of before next) before) (sym c.get.ensures ∙ w.if-get.true));
      }
      | else-get w ↦ record {
        wide = ap length w.sum-is ∙ c.loop-k.invariant.wide;
        sum = w.sum-is ∙ c.loop-k.invariant.sum ∙ sym (more ∙ ap (λ b. cond b (sum_of before next) before) (sym c.get.ensures ∙ w.if-get.false));
      }
    ]

pub returns : goal.returns
returns c =
    let gs = c.args.self.now.generators in
    let t = to_z w64 (of_z w64 c.args.t) in
    let same : t ≡ c.args.t = omega (arith, ints) in
    let wide : length c.args.v.now ≡ width gs t = c.requires ∙ ap (width gs) (sym same) in
    let operators = c.args.self.now.operators in
    let r = c.args.r.now in
    let start = c.within-start.result.start in
    let widths = subst (λ (m : Module). HaveWidths m.generators m.operators) c.self.view_is c.self.invariant.widths in
    let numbers = subst (λ (m : Module). generators_in m.generators t ≡ range_with_len start (c.within-start.result.end - start)) c.self.view_is c.within-start.ensures.generators in
    c.loop-k.invariant.sum ∙ act_all gs operators widths r t start (c.within-start.result.end - start) numbers c.args.v.now c.loop-k.k wide (omega (arith, c.len-k-end.ensures)) ∙ ap (λ z. act_on gs operators r z c.args.v.now) same
