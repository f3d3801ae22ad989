use Rattle.std.proofs.Common.{ℕ, ◌+◌, ◌-◌, ◌++◌, List, [], subst, arith}
use Rattle.std.specs.List.{flat_map, range_with_len}
use Rattle.bidegree.specs.LastDegrees.{last_degree}
use Rattle.lift_laws.specs.Products.{Class}
use Rattle.h_products.specs.ReadOff.{resolution_in}
use Rattle.ext_chart.proofs.Seen.{last_within}
use Rattle.ext_products.specs.Products.{OneEach, classes_in_row}
use Rattle.ext_products.proofs.Loops.{lists-more}
use Rattle.ext_h_products.specs.RowOne.{IsLineReadOff}
use Rattle.ext_h_products.proofs.Rows.{last-next}
use Rattle.ext_h_products.proofs.lines.lines.Goals as goal

pub add_row-requires-clause-degrees : goal.add_row-requires-clause-degrees
add_row-requires-clause-degrees c = omega (arith, c.last_degree-last.ensures, last_within c.args.range c.args.shape (c.loop-s.s + 1), c.requires.degrees)

pub add_row-requires-clause-squares : goal.add_row-requires-clause-squares
add_row-requires-clause-squares c =
    let s = c.loop-s.s in
    let here = c.requires.through s (omega (arith, c.loop-s-test.true)) in
    omega (arith, c.last_degree-last.ensures, last-next c.args.range c.args.shape s, here, c.requires.positive)

pub add_row-requires-clause-targets : goal.add_row-requires-clause-targets
add_row-requires-clause-targets c =
    let up = c.requires.through (c.loop-s.s + 1) (omega (arith, c.loop-s-test.true)) in
    omega (arith, c.last_degree-last.ensures, up)

pub loop-s-preserved : goal.loop-s-preserved
loop-s-preserved c =
    let r = resolution_in c.args.images.now in
    let R = IsLineReadOff r c.args.n in
    let f : ℕ → List Class = λ s. classes_in_row r (last_degree c.args.shape c.args.range (s + 1) + 1 - c.args.n) s in
    let s = c.loop-s.s in
    let lines = c.add_row.new.lines.items in
    lists-more R f [] s lines
    (subst (λ (last : ℕ). OneEach R (flat_map f (range_with_len 0 s) ++ classes_in_row r (last + 1 - c.args.n) s) lines) c.last_degree-last.ensures
    (c.in_ok-add_row.ensures (flat_map f (range_with_len 0 s)) c.loop-s.invariant))
