use Rattle.std.proofs.Common.{◌≡◌, ◌<◌, ◌++◌, [], length, to_z, of_z, w32, ap, ◌∙◌, arith}
use Rattle.std.proofs.lemmas.Int.{ints}
use Rattle.std.proofs.lemmas.List.{get_or_default}
use Rattle.ext_chart.specs.Inside.Targets.{text_over}
use Rattle.ext_chart.proofs.DumpSteps.{lines_through, lines-more}
use Rattle.ext_chart.proofs.lines.square_lines.Goals as goal

pub loop-i-preserved : goal.loop-i-preserved
loop-i-preserved c =
    let images = c.args.images.now in
    let t = to_z w32 (of_z w32 c.args.t) in
    let i = c.loop-i.i in
    let l : i < length images = c.loop-i-test.true in
    let image = c.index-images-i.result in
    lines-more (text_over c.args.target.now t) c.args.s t images i image c.loop-i.text.items c.as_slice.result.now c.in_ok-line.line.items c.extend_from_slice.new.self.items
    c.loop-i.invariant
    (c.index-images-i.is ∙ get_or_default images i image [] l)
    (c.as_slice.ensures.value ∙ c.in_ok-sum.ensures)
    c.in_ok-line.ensures
    (c.in_ok-extend_from_slice.ensures.items ∙ ap (λ m. c.loop-i.text.items ++ m) c.as_slice-in-loop-i.ensures.value)

pub returns : goal.returns
returns c =
    let images = c.args.images.now in
    let t = c.args.t in
    let tt : to_z w32 (of_z w32 t) ≡ t = omega (arith, ints) in
    let inv : c.loop-i.text.items ≡ lines_through (text_over c.args.target.now t) c.args.s t images c.loop-i.i = simp tt at c.loop-i.invariant in
    let all : c.loop-i.i ≡ length images = omega arith in
    inv ∙ ap (lines_through (text_over c.args.target.now t) c.args.s t images) all
