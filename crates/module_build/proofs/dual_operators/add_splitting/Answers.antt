use Rattle.std.proofs.Common.{◌≡◌, ◌+◌, ◌-◌, ◌<◌, ◌&&◌, ℕ, Bool, true, false, List, pos, ◌+ℤ◌, length, map, to_z, of_z, w64, ap, sym, ◌∙◌, arith}
use Rattle.std.specs.List.{range_with_len}
use Rattle.std.proofs.Math.Path.{fun_ext}
use Rattle.std.proofs.lemmas.Int.{ints}
use Rattle.f2_vec.specs.Vectors.{sum_of}
use Rattle.milnor_basis.specs.Exponents.{degree_of}
use Rattle.milnor_basis.specs.Product.{odd_by}
use Rattle.module_spec.specs.Spec.{degree_at}
use Rattle.finite_module.specs.Module.{Module, generators_in, width, value}
use Rattle.built_laws.specs.Built.{action_of}
use Rattle.module_build.specs.Inside.Construction.{number_at, dual_by}
use Rattle.module_build.proofs.Duals.{number_degree, no_generators_yet, one_generator_more, no_generator_more, in_one_degree}
use Rattle.module_build.proofs.dual_operators.add_splitting.Goals as goal
use Rattle.module_build.proofs.dual_operators.add_splitting.Goals.{then-coefficient, else-coefficient}

pub degree-requires : goal.degree-requires
degree-requires c = omega (arith, ap length c.generators-generators.ensures.generators)

pub bounds-order-k : goal.bounds-order-k
bounds-order-k c = omega (arith, c.within-range.ensures.end, ap length c.generators-generators.ensures.generators, c.requires.order.count)

pub bounds-order-i : goal.bounds-order-i
bounds-order-i c = omega (arith, c.requires.order.count)

pub coefficient-requires-clause-from : goal.coefficient-requires-clause-from
coefficient-requires-clause-from c =
    let few : c.loop-k.k < length c.args.before.now.generators = omega (arith, c.within-range.ensures.end, ap length c.generators-generators.ensures.generators) in
    omega (arith, c.requires.order.numbers c.loop-k.k few, ap (λ (m : Module). length m.generators) c.operators.ensures)

pub coefficient-requires-clause-to : goal.coefficient-requires-clause-to
coefficient-requires-clause-to c = omega (arith, c.requires.order.numbers c.args.i c.requires.generator, ap (λ (m : Module). length m.generators) c.operators.ensures)

pub loop-k-init : goal.loop-k-init
loop-k-init c =
    let m = c.args.given.now.plain in
    let gs = c.args.before.now.generators in
    let s = c.args.splitting.now in
    let order = c.args.order.now in
    let g : ℕ → ℕ → Bool = λ q j. (action_of m).coefficient s.left (number_at order q) (number_at order c.args.i) && dual_by m order s.right q j in
    let ns : List ℕ = generators_in gs (degree_at gs c.args.i +ℤ pos (degree_of s.left + degree_of s.right)) in
    record { wide = c.requires.width; sum = no_generators_yet g ns c.args.sum.now c.within-range.result.start c.requires.width }

pub add_value-requires : goal.add_value-requires
add_value-requires c =
    let m = c.args.given.now.plain in
    let gs = c.args.before.now.generators in
    let s = c.args.splitting.now in
    let order = c.args.order.now in
    let gens = c.generators-generators.ensures.generators in
    let t = to_z w64 (of_z w64 (to_z w64 (of_z w64 c.from.result) +ℤ to_z w64 (of_z w64 c.from-2.result))) in
    let d : c.degree.result ≡ degree_at gs c.args.i = c.degree.ensures.degree ∙ ap (λ g. degree_at g c.args.i) gens in
    let at : t ≡ degree_at gs c.args.i +ℤ pos (degree_of s.left) = omega (arith, ints, d, c.from.ensures, c.from-2.ensures, c.degree.ensures.lowest, c.degree.ensures.highest, c.degree-2.ensures.degree) in
    let w = c.within-range.result in
    let listed : generators_in gs (degree_at gs c.args.i +ℤ pos (degree_of s.left)) ≡ range_with_len w.start (w.end - w.start) = ap (generators_in gs) (sym at) ∙ ap (λ g. generators_in g t) (sym gens) ∙ c.within-range.ensures.generators in
    let few : c.loop-k.k < length gs = omega (arith, c.within-range.ensures.end, ap length gens) in
    let own : degree_at gs c.loop-k.k ≡ degree_at gs c.args.i +ℤ pos (degree_of s.left) = number_degree gs (degree_at gs c.args.i +ℤ pos (degree_of s.left)) w.start (w.end - w.start) c.loop-k.k listed c.loop-k.auto.k (omega arith) in
    let whole : degree_at gs c.loop-k.k +ℤ pos (degree_of s.right) ≡ degree_at gs c.args.i +ℤ pos (degree_of s.left + degree_of s.right) = omega (arith, ints, own) in
    c.loop-k.invariant.wide ∙ ap (width gs) (sym whole)

pub loop-k-preserved : goal.loop-k-preserved
loop-k-preserved c =
    let m = c.args.given.now.plain in
    let gs = c.args.before.now.generators in
    let s = c.args.splitting.now in
    let order = c.args.order.now in
    let gens = c.generators-generators.ensures.generators in
    let t = to_z w64 (of_z w64 (to_z w64 (of_z w64 c.from.result) +ℤ to_z w64 (of_z w64 c.from-2.result))) in
    let d : c.degree.result ≡ degree_at gs c.args.i = c.degree.ensures.degree ∙ ap (λ g. degree_at g c.args.i) gens in
    let at : t ≡ degree_at gs c.args.i +ℤ pos (degree_of s.left) = omega (arith, ints, d, c.from.ensures, c.from-2.ensures, c.degree.ensures.lowest, c.degree.ensures.highest, c.degree-2.ensures.degree) in
    let w = c.within-range.result in
    let listed : generators_in gs (degree_at gs c.args.i +ℤ pos (degree_of s.left)) ≡ range_with_len w.start (w.end - w.start) = ap (generators_in gs) (sym at) ∙ ap (λ g. generators_in g t) (sym gens) ∙ c.within-range.ensures.generators in
    let few : c.loop-k.k < length gs = omega (arith, c.within-range.ensures.end, ap length gens) in
    let own : degree_at gs c.loop-k.k ≡ degree_at gs c.args.i +ℤ pos (degree_of s.left) = number_degree gs (degree_at gs c.args.i +ℤ pos (degree_of s.left)) w.start (w.end - w.start) c.loop-k.k listed c.loop-k.auto.k (omega arith) in
    let whole : degree_at gs c.loop-k.k +ℤ pos (degree_of s.right) ≡ degree_at gs c.args.i +ℤ pos (degree_of s.left + degree_of s.right) = omega (arith, ints, own) in
    let g : ℕ → ℕ → Bool = λ q j. (action_of m).coefficient s.left (number_at order q) (number_at order c.args.i) && dual_by m order s.right q j in
    let ns : List ℕ = generators_in gs (degree_at gs c.args.i +ℤ pos (degree_of s.left + degree_of s.right)) in
    let found : c.coefficient.result ≡ (action_of m).coefficient s.left (number_at order c.loop-k.k) (number_at order c.args.i) = c.coefficient.ensures ∙ ap (λ n. (action_of n).coefficient s.left (number_at order c.loop-k.k) (number_at order c.args.i)) c.operators.ensures in
    elim c.if-coefficient.branch [
      | then-coefficient u ↦
          let row : value gs c.args.before.now.operators s.right c.loop-k.k ≡ map (λ j. g c.loop-k.k j) ns =
          c.requires.before c.loop-k.k few ∙ ap (λ z. map (dual_by m order s.right c.loop-k.k) (generators_in gs z)) whole ∙ ap (λ b. map (λ j. b && dual_by m order s.right c.loop-k.k j) ns) (sym u.if-coefficient.true ∙ found) in
          record {
            wide = ap length u.sum-is ∙ u.add_value.ensures.width ∙ c.loop-k.invariant.wide;
            sum = u.sum-is ∙ one_generator_more g ns c.args.sum.now c.loop-k.sum u.add_value.new.sum w.start c.loop-k.k c.loop-k.auto.k c.loop-k.invariant.sum (u.add_value.ensures.sum ∙ ap (sum_of c.loop-k.sum) row);
          }
      | else-coefficient u ↦
          record {
            wide = ap length u.sum-is ∙ c.loop-k.invariant.wide;
            sum = u.sum-is ∙ no_generator_more g ns c.args.sum.now c.loop-k.sum w.start c.loop-k.k c.loop-k.auto.k c.loop-k.invariant.wide c.loop-k.invariant.sum (λ j. ap (λ b. b && dual_by m order s.right c.loop-k.k j) (sym found ∙ u.if-coefficient.false));
          }
    ]

pub returns : goal.returns
returns c =
    let m = c.args.given.now.plain in
    let gs = c.args.before.now.generators in
    let s = c.args.splitting.now in
    let order = c.args.order.now in
    let gens = c.generators-generators.ensures.generators in
    let t = to_z w64 (of_z w64 (to_z w64 (of_z w64 c.from.result) +ℤ to_z w64 (of_z w64 c.from-2.result))) in
    let d : c.degree.result ≡ degree_at gs c.args.i = c.degree.ensures.degree ∙ ap (λ g. degree_at g c.args.i) gens in
    let at : t ≡ degree_at gs c.args.i +ℤ pos (degree_of s.left) = omega (arith, ints, d, c.from.ensures, c.from-2.ensures, c.degree.ensures.lowest, c.degree.ensures.highest, c.degree-2.ensures.degree) in
    let w = c.within-range.result in
    let listed : generators_in gs (degree_at gs c.args.i +ℤ pos (degree_of s.left)) ≡ range_with_len w.start (w.end - w.start) = ap (generators_in gs) (sym at) ∙ ap (λ g. generators_in g t) (sym gens) ∙ c.within-range.ensures.generators in
    let g : ℕ → ℕ → Bool = λ q j. (action_of m).coefficient s.left (number_at order q) (number_at order c.args.i) && dual_by m order s.right q j in
    let ns : List ℕ = generators_in gs (degree_at gs c.args.i +ℤ pos (degree_of s.left + degree_of s.right)) in
    let v = c.args.sum.now in
    let all : c.loop-k.k ≡ w.end = omega (arith, c.within-range.ensures.start) in
    c.loop-k.invariant.sum
    ∙ ap (λ n. sum_of v (map (λ j. odd_by (λ q. g q j) (range_with_len w.start (n - w.start))) ns)) all
    ∙ ap (λ ks. sum_of v (map (λ j. odd_by (λ q. g q j) ks) ns)) (sym listed)
    ∙ ap (λ (f : ℕ → Bool). sum_of v (map f ns)) (fun_ext (λ j. in_one_degree m c.args.given.now.is_module c.args.given.now.by_degree.ordered gs order c.requires.order s.left s.right c.args.i j c.requires.generator))
