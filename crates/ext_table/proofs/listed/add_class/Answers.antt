use Rattle.std.proofs.Common.{◌++◌, List, ℕ, ℤ, to_z, of_z, w32, ap, ◌∙◌}
use Rattle.ext_table.specs.Table.{class_line}
use Rattle.ext_table.proofs.Growing.{next_of}
use Rattle.ext_table.proofs.listed.add_class.Goals as goal

pub loop-listed-preserved : goal.loop-listed-preserved
loop-listed-preserved c =
    let t : ℤ = to_z w32 (of_z w32 c.args.t) in
    next_of (class_line c.args.s t c.args.i) _ c.loop-listed.text.items _ c.args.lists.now c.loop-listed.listed-index c.listed-item.result c.loop-listed-test.true c.loop-listed.invariant
    (c.in_ok-extend_from_slice.ensures.items
    ∙ ap (λ (x : List ℕ). c.loop-listed.text.items ++ x) (c.as_slice.ensures.value ∙ (c.in_ok-line.ensures ∙ ap (class_line c.args.s t c.args.i) c.listed-item.is)))
