use Rattle.std.proofs.Common.{ℕ, ◌+◌, ◌-◌, ◌++◌, List, [], subst, arith}
use Rattle.std.specs.List.{flat_map, range_with_len}
use Rattle.bidegree.specs.LastDegrees.{last_degree}
use Rattle.lift_laws.specs.Products.{Class}
use Rattle.chain_map.specs.Lifting.{resolution_of}
use Rattle.ext_chart.proofs.Seen.{last_within}
use Rattle.ext_products.specs.Products.{OneEach, classes_in_row}
use Rattle.ext_products.specs.Inside.{IsLineOver}
use Rattle.ext_products.proofs.Loops.{lists-more}
use Rattle.ext_products.proofs.lines.lines.Goals as goal

pub add_row-requires-clause-last : goal.add_row-requires-clause-last
add_row-requires-clause-last c = omega (arith, c.last_degree-last.ensures, last_within c.args.range c.args.shape (c.loop-s.s + c.args.a.s))

pub loop-s-preserved : goal.loop-s-preserved
loop-s-preserved c =
    let r = resolution_of c.args.table.now in
    let R = IsLineOver c.args.table.now c.args.sphere.now c.args.a in
    let f : ℕ → List Class = λ s. classes_in_row r (last_degree c.args.shape c.args.range (s + c.args.a.s) + 1 - c.args.a.above) s in
    let s = c.loop-s.s in
    let lines = c.add_row.new.lines.items in
    lists-more R f [] s lines
    (subst (λ (last : ℕ). OneEach R (flat_map f (range_with_len 0 s) ++ classes_in_row r (last + 1 - c.args.a.above) s) lines) c.last_degree-last.ensures
    (c.in_ok-add_row.ensures (flat_map f (range_with_len 0 s)) c.loop-s.invariant))
