use Rattle.std.proofs.Common.{◌≡◌, ◌<◌, length, map, take, get_or, to_z, of_z, w32, ◌∙◌, arith}
use Rattle.std.proofs.lemmas.Int.{ints}
use Rattle.finite_module.specs.Text.{joined_by_plus}
use Rattle.finite_module.proofs.TextSteps.{joined_by_plus-first, joined_by_plus-next}
use Rattle.ext_chart.proofs.DumpSteps.{text_at, joined-ones}
use Rattle.ext_chart.proofs.terms.free_sum_text.Goals as goal
use Rattle.ext_chart.proofs.terms.free_sum_text.Goals.{then-k-gt0+in_ok-extend_from_slice, else-k-gt0}

pub loop-k-preserved : goal.loop-k-preserved
loop-k-preserved c =
    let t = to_z w32 (of_z w32 c.args.t) in
    let f = text_at c.args.places.now c.args.gens.now t in
    let numbers = c.deref-i-items.result.now in
    let k = c.loop-k.k in
    let l : k < length numbers = c.loop-k-test.true in
    let term : c.as_slice.result.now ≡ f (get_or numbers k 0) = c.as_slice.ensures.value ∙ c.in_ok-term.ensures in
    let last = c.in_ok-extend_from_slice-2.ensures.items in
    elim c.if-k-gt0.branch [
      | then-k-gt0+in_ok-extend_from_slice w ↦
          let next = joined_by_plus-next f numbers k c.loop-k.text.items w.if-k-gt0.true l c.loop-k.invariant in
          cc (w.in_ok-extend_from_slice.ensures.items)
      | else-k-gt0 w ↦
          let first = joined_by_plus-first f numbers k c.loop-k.text.items w.if-k-gt0.false l c.loop-k.invariant in
          cc
    ]

pub returns : goal.returns
returns c =
    let places = c.args.places.now in
    let gens = c.args.gens.now in
    let t = c.args.t in
    let ones = c.deref-i-items.result.now in
    let tt : to_z w32 (of_z w32 t) ≡ t = omega (arith, ints) in
    let inv : c.loop-k.text.items ≡ joined_by_plus (map (text_at places gens t) (take c.loop-k.k ones)) = simp tt at c.loop-k.invariant in
    joined-ones places gens t c.args.v.now ones c.loop-k.k c.loop-k.text.items c.requires.width (c.deref-i-items.ensures.value ∙ c.in_ok-ones.ensures.places) c.loop-k-test.false inv
