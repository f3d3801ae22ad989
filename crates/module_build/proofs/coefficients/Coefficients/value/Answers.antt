use Rattle.std.proofs.Common.{◌≡◌, ◌-◌, ℕ, Bool, pos, ◌+ℤ◌, map, to_z, of_z, w64, ap, sym, ◌∙◌, arith}
use Rattle.std.specs.List.{range_with_len}
use Rattle.std.proofs.lemmas.Int.{ints}
use Rattle.module_spec.specs.Spec.{degree_at}
use Rattle.finite_module.specs.Module.{generators_in}
use Rattle.module_build.specs.Inside.Construction.{entry_of, number_at}
use Rattle.module_build.proofs.coefficients.Coefficients.value.Goals as goal
use Rattle.finite_module.proofs.Values.{map_more}

pub loop-j-preserved : goal.loop-j-preserved
loop-j-preserved c =
    map_more (λ j. entry_of c.args.self.now (number_at c.args.order.now c.args.i) (number_at c.args.order.now j)) c.within-range.result.start c.loop-j.j c.loop-j.value c.push.new.self c.at.result c.loop-j.auto.j c.loop-j.invariant c.at.ensures c.in_ok-push.ensures.ok

pub returns : goal.returns
returns c =
    let gs = c.args.generators.now in
    let f : ℕ → Bool = λ j. entry_of c.args.self.now (number_at c.args.order.now c.args.i) (number_at c.args.order.now j) in
    let w = c.within-range.result in
    let t = to_z w64 (of_z w64 (to_z w64 (of_z w64 c.from.result) +ℤ to_z w64 (of_z w64 c.from-2.result))) in
    let at : t ≡ degree_at gs c.args.i +ℤ pos c.args.n = omega (arith, ints, c.from.ensures, c.from-2.ensures, c.degree.ensures.lowest, c.degree.ensures.highest, c.degree.ensures.degree) in
    let listed : generators_in gs (degree_at gs c.args.i +ℤ pos c.args.n) ≡ range_with_len w.start (w.end - w.start) = ap (generators_in gs) (sym at) ∙ c.within-range.ensures.generators in
    let all : c.loop-j.j ≡ w.end = omega (arith, c.within-range.ensures.start) in
    c.loop-j.invariant ∙ ap (λ k. map f (range_with_len w.start (k - w.start))) all ∙ ap (map f) (sym listed)
