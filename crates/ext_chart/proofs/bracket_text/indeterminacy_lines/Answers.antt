use Rattle.std.proofs.Common.{rules, ◌≡◌, ◌<◌, length, to_z, of_z, w32, ℤ, ap, ap₂, ◌∙◌, arith}
use Rattle.std.specs.List.{flat_map}
use Rattle.std.proofs.lemmas.Int.{ints}
use Rattle.std.proofs.lemmas.List.{take_all}
use Rattle.finite_module.proofs.TextSteps.{flat_map_take}
use Rattle.ext_chart.specs.Classes.{indeterminacy_line}
use Rattle.ext_chart.proofs.ClassSteps.{some-lines}
use Rattle.ext_chart.proofs.bracket_text.indeterminacy_lines.Goals as goal

pub loop-row-preserved : goal.loop-row-preserved
loop-row-preserved c =
    let line = indeterminacy_line (to_z w32 (of_z w32 c.args.s)) (to_z w32 (of_z w32 c.args.t)) in
    c.in_ok-extend_from_slice.ensures.items
    ∙ flat_map_take line c.args.rows.now c.loop-row.row-index c.row-item.result c.loop-row.text.items _ c.loop-row-test.true c.loop-row.invariant
    (c.as_slice.ensures.value ∙ (c.in_ok-line.ensures ∙ ap line c.row-item.is))

pub returns : goal.returns
returns c =
    let rows = c.args.rows.now in
    let some : 0 < length rows = search rules in
    let s_is : to_z w32 (of_z w32 c.args.s) ≡ c.args.s = omega (arith, ints) in
    let t_is : to_z w32 (of_z w32 c.args.t) ≡ c.args.t = omega (arith, ints) in
    c.loop-row.invariant
    ∙ (ap (flat_map (indeterminacy_line (to_z w32 (of_z w32 c.args.s)) (to_z w32 (of_z w32 c.args.t)))) (take_all c.loop-row.row-index rows c.loop-row-test.false)
    ∙ (ap₂ (λ (s t : ℤ). flat_map (indeterminacy_line s t) rows) s_is t_is ∙ some-lines c.args.s c.args.t rows some))
