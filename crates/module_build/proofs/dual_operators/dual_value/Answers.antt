use Rattle.std.proofs.Common.{◌≡◌, ◌≢◌, ◌+◌, ◌<◌, ◌&&◌, ℕ, Bool, true, not, List, [], pos, ◌+ℤ◌, length, map, take, to_z, of_z, w64, ap, sym, subst, ◌∙◌, arith}
use Rattle.std.proofs.Math.Path.{fun_ext}
use Rattle.std.proofs.lemmas.Int.{ints}
use Rattle.std.proofs.lemmas.List.{length-map, take_all}
use Rattle.f2_vec.specs.Vectors.{sum_of, zeros}
use Rattle.f2_vec.proofs.Sums.{length-zeros}
use Rattle.milnor_basis.specs.Exponents.{degree_of}
use Rattle.milnor_laws.proofs.Vectors.{zeros-map}
use Rattle.hopf_laws.proofs.Splittings.{Pair}
use Rattle.module_spec.specs.Spec.{degree_at}
use Rattle.finite_module.specs.Module.{generators_in, width}
use Rattle.built_laws.specs.Built.{values_on}
use Rattle.module_build.specs.Inside.Splittings.{sum_over, IsSplitting}
use Rattle.module_build.specs.Inside.Construction.{dual_by, dual_term, proper_term}
use Rattle.module_build.proofs.SplittingLists.{degree-splitting}
use Rattle.module_build.proofs.Duals.{dual_by_splittings, one_splitting_more, no_splitting_more, some_left, no_left, right_below}
use Rattle.module_build.proofs.dual_operators.dual_value.Goals as goal
use Rattle.module_build.proofs.dual_operators.dual_value.Goals.{then-not-is_empty, else-not-is_empty}
use Rattle.finite_module.proofs.Values.{both_empty}

pub degree-requires : goal.degree-requires
degree-requires c = omega (arith, ap length c.generators-generators.ensures.generators)

pub returns-then-width-eq0 : goal.returns-then-width-eq0
returns-then-width-eq0 c =
    let m = c.args.given.now.plain in
    let gs = c.args.before.now.generators in
    let r = c.args.r.now in
    let order = c.args.order.now in
    let gens = c.generators-generators.ensures.generators in
    let t = to_z w64 (of_z w64 (to_z w64 (of_z w64 c.from.result) +ℤ to_z w64 (of_z w64 c.from-2.result))) in
    let d : c.degree.result ≡ degree_at gs c.args.i = c.degree.ensures.degree ∙ ap (λ g. degree_at g c.args.i) gens in
    let at : t ≡ degree_at gs c.args.i +ℤ pos (degree_of r) = omega (arith, ints, d, c.from.ensures, c.from-2.ensures, c.degree.ensures.lowest, c.degree.ensures.highest, c.degree-2.ensures.degree) in
    let ns : List ℕ = generators_in gs (degree_at gs c.args.i +ℤ pos (degree_of r)) in
    let wide : c.dim_in-width.result ≡ length ns = c.dim_in-width.ensures ∙ ap (λ g. width g t) gens ∙ ap (width gs) at in
    both_empty c.in_ok-value.value (values_on gs (dual_by m order) r c.args.i) (ap length c.in_ok-value.ensures ∙ length-zeros c.dim_in-width.result ∙ c.if-width-eq0.true) (length-map ns (dual_by m order r c.args.i) ∙ sym wide ∙ c.if-width-eq0.true)

pub loop-splitting-init : goal.loop-splitting-init
loop-splitting-init c =
    let m = c.args.given.now.plain in
    let gs = c.args.before.now.generators in
    let r = c.args.r.now in
    let order = c.args.order.now in
    let gens = c.generators-generators.ensures.generators in
    let t = to_z w64 (of_z w64 (to_z w64 (of_z w64 c.from.result) +ℤ to_z w64 (of_z w64 c.from-2.result))) in
    let d : c.degree.result ≡ degree_at gs c.args.i = c.degree.ensures.degree ∙ ap (λ g. degree_at g c.args.i) gens in
    let at : t ≡ degree_at gs c.args.i +ℤ pos (degree_of r) = omega (arith, ints, d, c.from.ensures, c.from-2.ensures, c.degree.ensures.lowest, c.degree.ensures.highest, c.degree-2.ensures.degree) in
    let ns : List ℕ = generators_in gs (degree_at gs c.args.i +ℤ pos (degree_of r)) in
    let wide : c.dim_in-width.result ≡ length ns = c.dim_in-width.ensures ∙ ap (λ g. width g t) gens ∙ ap (width gs) at in
    c.in_ok-value.ensures ∙ ap zeros wide ∙ zeros-map ns

pub add_splitting-requires-clause-before : goal.add_splitting-requires-clause-before
add_splitting-requires-clause-before c =
    let own : IsSplitting c.args.r.now c.splitting-item.result = subst (IsSplitting c.args.r.now) (sym c.splitting-item.is) (c.requires.each c.loop-splitting.splitting-index c.splitting-item.result (omega arith)) in
    let some : c.splitting-item.result.left ≢ [] = λ e. let yes = c.is_empty.ensures.1 e in cc in
    λ k l. c.requires.before c.splitting-item.result.right k own.right (right_below c.args.r.now c.splitting-item.result own some) l

pub add_splitting-requires-clause-width : goal.add_splitting-requires-clause-width
add_splitting-requires-clause-width c =
    let m = c.args.given.now.plain in
    let gs = c.args.before.now.generators in
    let ns : List ℕ = generators_in gs (degree_at gs c.args.i +ℤ pos (degree_of c.args.r.now)) in
    let own : IsSplitting c.args.r.now c.splitting-item.result = subst (IsSplitting c.args.r.now) (sym c.splitting-item.is) (c.requires.each c.loop-splitting.splitting-index c.splitting-item.result (omega arith)) in
    ap length c.loop-splitting.invariant
    ∙ length-map ns (λ j. sum_over (proper_term m c.args.order.now c.args.i j) (take c.loop-splitting.splitting-index c.args.splittings.now))
    ∙ ap (λ n. width gs (degree_at gs c.args.i +ℤ pos n)) (sym (degree-splitting c.args.r.now c.splitting-item.result.left c.splitting-item.result.right own.whole))

pub loop-splitting-preserved : goal.loop-splitting-preserved
loop-splitting-preserved c =
    let m = c.args.given.now.plain in
    let gs = c.args.before.now.generators in
    let order = c.args.order.now in
    let s = c.splitting-item.result in
    let k = c.loop-splitting.splitting-index in
    let ns : List ℕ = generators_in gs (degree_at gs c.args.i +ℤ pos (degree_of c.args.r.now)) in
    let f : ℕ → Pair → Bool = λ j. proper_term m order c.args.i j in
    let own : IsSplitting c.args.r.now c.splitting-item.result = subst (IsSplitting c.args.r.now) (sym c.splitting-item.is) (c.requires.each c.loop-splitting.splitting-index c.splitting-item.result (omega arith)) in
    let sum : degree_of s.left + degree_of s.right ≡ degree_of c.args.r.now = degree-splitting c.args.r.now s.left s.right own.whole in
    elim c.if-not-is_empty.branch [
      | then-not-is_empty u ↦
          let some : s.left ≢ [] = λ e. let yes = c.is_empty.ensures.1 e in let no = u.if-not-is_empty in cc in
          let row : map (λ j. dual_term m order c.args.i j (s.left, s.right)) (generators_in gs (degree_at gs c.args.i +ℤ pos (degree_of s.left + degree_of s.right))) ≡ map (λ j. f j (s.left, s.right)) ns =
          ap (λ n. map (λ j. dual_term m order c.args.i j (s.left, s.right)) (generators_in gs (degree_at gs c.args.i +ℤ pos n))) sum ∙ ap (λ b. map (λ j. not b && dual_term m order c.args.i j (s.left, s.right)) ns) (sym (some_left s.left some)) in
          u.value-is ∙ one_splitting_more f ns c.args.splittings.now k s c.loop-splitting.value u.add_splitting.new.sum (omega arith) c.splitting-item.is c.loop-splitting.invariant (u.add_splitting.ensures ∙ ap (sum_of c.loop-splitting.value) row)
      | else-not-is_empty u ↦
          let none : s.left ≡ [] = c.is_empty.ensures.0 (let no = u.if-not-is_empty in cc) in
          u.value-is ∙ no_splitting_more f ns c.args.splittings.now k s c.loop-splitting.value (omega arith) c.splitting-item.is c.loop-splitting.invariant (λ j. ap (λ b. not b && dual_term m order c.args.i j (s.left, s.right)) (no_left s.left none))
    ]

pub returns : goal.returns
returns c =
    let m = c.args.given.now.plain in
    let gs = c.args.before.now.generators in
    let order = c.args.order.now in
    let ns : List ℕ = generators_in gs (degree_at gs c.args.i +ℤ pos (degree_of c.args.r.now)) in
    c.loop-splitting.invariant
    ∙ ap (λ xs. map (λ j. sum_over (proper_term m order c.args.i j) xs) ns) (take_all c.loop-splitting.splitting-index c.args.splittings.now (omega arith))
    ∙ ap (λ (f : ℕ → Bool). map f ns) (fun_ext (λ j. dual_by_splittings m c.args.given.now.is_module c.args.given.now.by_degree.ordered gs order c.requires.order c.args.r.now c.args.splittings.now c.args.i j c.degree-2.ensures.trimmed c.requires.positive c.requires.generator c.requires.sums))
