use Rattle.std.proofs.Common.{◌≡◌, ◌+◌, ◌-◌, ◌≤◌, ◌∷◌, [], ◌++◌, map, nat_eq, ap, sym, ◌∙◌, arith}
use Rattle.std.specs.List.{list_any, range_with_len}
use Rattle.std.proofs.lemmas.Int.{to_z-of_z}
use Rattle.finite_module.proofs.generators.Generators.sum.Goals as goal
use Rattle.finite_module.proofs.Values.{map_more}

pub loop-j-preserved : goal.loop-j-preserved
loop-j-preserved c =
    map_more (λ j. list_any (nat_eq j) c.args.numbers.now) c.within-range.result.start c.loop-j.j c.loop-j.vector c.push.new.self c.holds.result c.loop-j.auto.j c.loop-j.invariant c.holds.ensures c.in_ok-push.ensures.ok

pub returns : goal.returns
returns c =
    let fits = c.ranges.t in
    let numbers = simp to_z-of_z at c.within-range.ensures.generators in
    let last : c.loop-j.j ≡ c.within-range.result.end = omega (arith, c.loop-j.auto.j-end c.within-range.ensures.start) in
    c.loop-j.invariant ∙ ap (λ n. map (λ j. list_any (nat_eq j) c.args.numbers.now) (range_with_len c.within-range.result.start (n - c.within-range.result.start))) last ∙ sym (ap (map (λ j. list_any (nat_eq j) c.args.numbers.now)) numbers)
