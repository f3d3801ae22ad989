use Rattle.std.proofs.Common.{◌≡◌, ℤ, List, length, [], ap, ◌∙◌, w32, to_z, of_z, arith}
use Rattle.std.proofs.lemmas.Int.{to_z-of_z}
use Rattle.std.proofs.lemmas.List.{length-replicate, get_or-replicate}
use Rattle.std.specs.Prelude.{slice_index_or}
use Rattle.finite_module.specs.Checked.{Checked}
use Rattle.square.specs.Squares.{bottom_of}
use Rattle.square.proofs.Targets.{row_short}
use Rattle.chain_map.specs.Lifting.{LiftValues, no_lift}
use Rattle.chain_map.proofs.making.lifts_of.Goals as goal
use Rattle.chain_map.proofs.making.lifts_of.Goals.{In_ok-lifts}

pub overflow_cast-course : goal.overflow_cast-course
overflow_cast-course c =
    omega (arith, c.front.ensures.front, row_short c.args.sphere.now c.front.ensures.is_table c.args.upto)

one-each : (c : In_ok-lifts) → length c.in_ok-lifts.lifts.items ≡ c.args.count
one-each c = ap length c.in_ok-lifts.ensures ∙ length-replicate c.args.count (record { bottom = to_z w32 (of_z w32 c.bottom.result); rows = [] })

pub with_rows-requires-clause-classes : goal.with_rows-requires-clause-classes
with_rows-requires-clause-classes c =
    let here = (goal.at.with_rows-requires-clause-classes c).In_ok-lifts in
    omega (arith, one-each here, c.requires.classes)

pub with_rows-requires-clause-small : goal.with_rows-requires-clause-small
with_rows-requires-clause-small c =
    let here = (goal.at.with_rows-requires-clause-small c).In_ok-lifts in
    omega (arith, one-each here, c.requires.small)

pub with_rows-requires-clause-empty : goal.with_rows-requires-clause-empty
with_rows-requires-clause-empty c = λ j l.
    let here = (goal.at.with_rows-requires-clause-empty c).In_ok-lifts in
    let low : to_z w32 (of_z w32 c.bottom.result) ≡ bottom_of c.args.table.now.resolved = to_z-of_z w32 c.bottom.result (record { sfits = c.bottom.type_inv }) ∙ (c.bottom.ensures.bottom ∙ ap (λ (m : Checked). bottom_of m) c.module.ensures) in
    let v : LiftValues = record { bottom = to_z w32 (of_z w32 c.bottom.result); rows = [] } in
    ap (λ (z : List LiftValues). slice_index_or z j no_lift) c.in_ok-lifts.ensures
    ∙ (get_or-replicate c.args.count j v no_lift (omega (arith, one-each here)) ∙ ap (λ (b : ℤ). let w : LiftValues = record { bottom = b; rows = [] } in w) low)
