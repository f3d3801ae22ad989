use Rattle.std.proofs.Common.{◌≡◌, ℕ, List, pos, ◌+ℤ◌, map, length, ap, sym, subst, ◌∙◌, arith, to_z, of_z, w64}
use Rattle.std.proofs.lemmas.Int.{ints}
use Rattle.std.proofs.lemmas.List.{take_all}
use Rattle.f2_vec.specs.Vectors.{sum_of, zeros}
use Rattle.f2_vec.proofs.Sums.{length-zeros}
use Rattle.milnor_basis.specs.Exponents.{degree_of}
use Rattle.module_spec.specs.Spec.{degree_at}
use Rattle.finite_module.specs.Module.{Module, width, value, total}
use Rattle.finite_module.proofs.Values.{total_more}
use Rattle.finite_module.proofs.operators.Operators.sum_on.Goals as goal

pub loop-r-init : goal.loop-r-init
loop-r-init c =
    let own = c.self.inside.generators in
    let t : to_z w64 (of_z w64 (to_z w64 (of_z w64 c.from.result) +ℤ to_z w64 (of_z w64 c.from-2.result))) ≡ degree_at own c.args.i +ℤ pos c.args.n =
    omega (arith, ints, c.from.ensures, c.from-2.ensures, c.degree.ensures.degree, c.degree.ensures.lowest, c.degree.ensures.highest) in
    let dim = subst (λ (m : Module). c.dim_in.result ≡ width m.generators (degree_at m.generators c.args.i +ℤ pos c.args.n)) c.self.view_is (c.dim_in.ensures ∙ ap (width own) t) in
    record {
      wide = ap length c.in_ok-sum.ensures ∙ length-zeros c.dim_in.result ∙ dim;
      sum = c.in_ok-sum.ensures ∙ ap zeros dim;
    }

pub add_value-requires : goal.add_value-requires
add_value-requires c =
    let gs = c.args.self.now.generators in
    let r = c.r-item.result in
    let same : degree_of r ≡ c.args.n = ap degree_of c.r-item.is ∙ c.requires.degrees c.loop-r.r-index r (omega arith) in
    c.loop-r.invariant.wide ∙ ap (λ n. width gs (degree_at gs c.args.i +ℤ pos n)) (sym same)

pub loop-r-preserved : goal.loop-r-preserved
loop-r-preserved c =
    let gs = c.args.self.now.generators in
    let of = λ (r : List ℕ). value gs c.args.self.now.operators r c.args.i in
    let n = width gs (degree_at gs c.args.i +ℤ pos c.args.n) in
    record {
      wide = c.add_value.ensures.width ∙ c.loop-r.invariant.wide;
      sum = c.add_value.ensures.sum ∙ ap (λ s. sum_of s (of c.r-item.result)) c.loop-r.invariant.sum ∙ sym (total_more n c.loop-r.r-index of c.args.elements.now c.r-item.result (omega arith) c.r-item.is);
    }

pub returns : goal.returns
returns c =
    let gs = c.args.self.now.generators in
    let of = λ (r : List ℕ). value gs c.args.self.now.operators r c.args.i in
    let n = width gs (degree_at gs c.args.i +ℤ pos c.args.n) in
    c.loop-r.invariant.sum ∙ ap (λ xs. total n (map of xs)) (take_all c.loop-r.r-index c.args.elements.now (omega arith))
