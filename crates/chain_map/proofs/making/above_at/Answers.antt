use Rattle.std.proofs.Common.{◌≡◌, ℤ, pos, ◌+ℤ◌, Some, ap, sym, ◌∙◌, w32, to_z, of_z, arith}
use Rattle.std.proofs.lemmas.Int.{to_z-of_z}
use Rattle.std.proofs.lemmas.Option.{none-some, same_Some}
use Rattle.bidegree.specs.Above.{above_of}
use Rattle.bidegree.proofs.Degrees.{above_of-is}
use Rattle.finite_module.specs.Checked.{Checked}
use Rattle.square.specs.Squares.{bottom_of}
use Rattle.square.proofs.Targets.{row_short}
use Rattle.chain_map.proofs.making.above_at.Goals as goal
use Rattle.chain_map.proofs.making.above_at.Goals.{After-above_of}

-- where the square is
found : (c : After-above_of) → above_of (to_z w32 (of_z w32 c.bottom.result)) (to_z w32 (of_z w32 c.args.t)) ≡ Some c.requires.above
found c =
    let low : to_z w32 (of_z w32 c.bottom.result) ≡ bottom_of c.args.table.now.resolved = to_z-of_z w32 c.bottom.result (record { sfits = c.bottom.type_inv }) ∙ (c.bottom.ensures.bottom ∙ ap (λ (m : Checked). bottom_of m) c.module.ensures) in
    let here : to_z w32 (of_z w32 c.args.t) ≡ c.args.t = to_z-of_z w32 c.args.t c.ranges.t in
    above_of-is (to_z w32 (of_z w32 c.bottom.result)) (to_z w32 (of_z w32 c.args.t)) c.requires.above (here ∙ (c.requires.degree ∙ ap (λ (b : ℤ). b +ℤ pos c.requires.above) (sym low)))

pub unreachable-requires : goal.unreachable-requires
unreachable-requires c = none-some c.requires.above (c.in-None.ensures.above ∙ found ((goal.at.unreachable-requires c).After-above_of))

pub overflow_cast-result : goal.overflow_cast-result
overflow_cast-result c =
    let same = same_Some c.in-Some.above c.requires.above (c.in-Some.ensures.above ∙ found ((goal.at.overflow_cast-result c).After-above_of)) in
    omega (arith, c.requires.square, row_short c.args.table.now c.front-front.ensures.is_table c.args.s)

pub returns-clause-above : goal.returns-clause-above
returns-clause-above c =
    let same = same_Some c.in-Some.above c.requires.above (c.in-Some.ensures.above ∙ found ((goal.at.returns-clause-above c).After-above_of)) in
    c.requires.degree ∙ ap (λ k. bottom_of c.args.table.now.resolved +ℤ pos k) (sym same)

pub returns-clause-there : goal.returns-clause-there
returns-clause-there c =
    let same = same_Some c.in-Some.above c.requires.above (c.in-Some.ensures.above ∙ found ((goal.at.returns-clause-there c).After-above_of)) in
    omega (arith, c.requires.square)
