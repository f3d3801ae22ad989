use Rattle.std.proofs.Common.{◌≡◌, ◌+◌, length, inl, inr, arith}
use Rattle.std.proofs.Math.Nat.{min-le_left}
use Rattle.std.proofs.lemmas.Bool.{cases_lt}
use Rattle.square.specs.Tables.{row_in}
use Rattle.square.proofs.Found.{row_within}
use Rattle.square.proofs.Targets.{row_short}
use Rattle.chain_map.proofs.making.degrees_through.Goals as goal

pub returns-in_default : goal.returns-in_default
returns-in_default c =
    let row = row_in c.args.table.now.rows (c.args.s + c.args.upto) in
    let none : length row ≡ 0 = elim (cases_lt 0 (length row)) [
      | inl l ↦ let there = row_within c.args.table.now.rows (c.args.s + c.args.upto) 0 l in absurd (c.in_default.ensures (omega arith))
      | inr l ↦ omega arith
    ] in
    omega (arith, none)

pub overflow_add-from : goal.overflow_add-from
overflow_add-from c =
    omega (arith, c.ranges.above, c.from.ensures, c.front-far.ensures.front, row_short c.args.sphere.now c.front-far.ensures.is_table c.args.upto)

pub overflow_cast-result : goal.overflow_cast-result
overflow_cast-result c =
    omega (arith, c.min.ensures, min-le_left c.front.result (c.from.result + c.front-far.result), c.front.ensures.front, row_short c.args.table.now c.front.ensures.is_table c.in-Some.row)
