use Rattle.std.proofs.Common.{◌+◌, ◌<◌, ap, sym, ◌∙◌, arith, inl, inr}
use Rattle.std.proofs.lemmas.Bool.{cases_eq}
use Rattle.std.specs.Prelude.{slice_index_or}
use Rattle.chain_map.specs.Lifting.{LiftValues, no_lift}
use Rattle.chain_map.proofs.Finished.{lift_of_made, lift_of_none, reaches_all, made_empty}
use Rattle.chain_map.proofs.making.with_rows.Goals as goal

pub add_rows-requires-clause-reaches : goal.add_rows-requires-clause-reaches
add_rows-requires-clause-reaches c =
    let course = c.args.course.now in
    let some = c.if-course-eq0.false in
    let positive : 0 < course.reach = elim (cases_eq course.reach 0) [ inl e ↦ absurd (some e) | inr f ↦ omega arith ] in
    reaches_all course.table.now course.sphere.now c.requires.is_table c.requires.is_sphere_table course.s course.above c.args.upto course.reach course.far c.requires.there c.requires.reach c.requires.far positive

pub add_rows-requires-clause-made : goal.add_rows-requires-clause-made
add_rows-requires-clause-made c = λ j l.
    let course = c.args.course.now in
    made_empty course.table.now course.sphere.now course.s course.above course.reach course.far (c.args.from + j) (slice_index_or c.args.lifts.items j no_lift) (c.requires.empty j l)

pub returns-then-course-eq0-clause-lifts : goal.returns-then-course-eq0-clause-lifts
returns-then-course-eq0-clause-lifts c = λ j l.
    let course = c.args.course.now in
    let lift = slice_index_or c.args.lifts.items j no_lift in
    let empty = c.requires.empty j l in
    lift_of_none course.table.now course.sphere.now c.requires.is_table c.requires.is_sphere_table course.s course.above (c.args.from + j) c.args.upto lift (ap (λ (z : LiftValues). z.bottom) empty) (ap (λ (z : LiftValues). z.rows) empty) (sym c.requires.reach ∙ c.if-course-eq0.true)

pub returns-clause-lifts : goal.returns-clause-lifts
returns-clause-lifts c = λ j l.
    let course = c.args.course.now in
    let some = c.if-course-eq0.false in
    let positive : 0 < course.reach = elim (cases_eq course.reach 0) [ inl e ↦ absurd (some e) | inr f ↦ omega arith ] in
    let reaches = reaches_all course.table.now course.sphere.now c.requires.is_table c.requires.is_sphere_table course.s course.above c.args.upto course.reach course.far c.requires.there c.requires.reach c.requires.far positive in
    lift_of_made c.canonical_table_is_minimal_resolution.ensures c.modules_are_graded_modules.ensures course.table.now course.sphere.now course.s course.above (c.args.from + j) c.args.upto course.reach course.far (slice_index_or c.add_rows.new.lifts.items j no_lift) c.requires.sphere reaches c.requires.far c.requires.reach (omega (arith, c.requires.classes, c.in_ok-add_rows.ensures.one_each)) (c.in_ok-add_rows.ensures.made j l)
