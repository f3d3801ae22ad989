use Rattle.std.proofs.Common.{◌≡◌, ◌+◌, ◌<◌, Bool, List, ℕ, [], length, slice_index_or, ap, ◌∙◌, arith}
use Rattle.std.proofs.lemmas.List.{get_or_default}
use Rattle.f2_vec.specs.Vectors.{sum_of}
use Rattle.f2_vec.specs.Spans.{row, unit_vector}
use Rattle.milnor_basis.specs.Product.{ArePairs}
use Rattle.free_module.proofs.PairSums.{adds_none, adds_more, adds_products}
use Rattle.free_module.proofs.terms.add_products.Goals as goal

pub loop-pair-init : goal.loop-pair-init
loop-pair-init c = adds_none c.args.offset c.pairs-pair-items.result.now c.args.rows.now

pub loop-pair-preserved : goal.loop-pair-preserved
loop-pair-preserved c =
    let m = c.args.multiples.now in
    let pairs = c.pairs-pair-items.result.now in
    let i = c.loop-pair.pair-index in
    let rows : List (List Bool) = c.loop-pair.rows in
    let before : List (List Bool) = c.args.rows.now in
    let r : ℕ = c.from.result in
    let t : ℕ = c.from-in-loop-pair.result in
    let er : r ≡ (slice_index_or pairs i (0, 0)).0 = c.from.ensures in
    let et : t ≡ (slice_index_or pairs i (0, 0)).1 = c.from-in-loop-pair.ensures in
    let are : ArePairs m.degree m.right pairs = c.pairs-pair-items.ensures in
    let inside = are.within i (0, 0) c.loop-pair-test.true in
    let first : r < length before = omega (arith, c.requires.count, inside.0) in
    let there : r < length rows = omega (arith, c.loop-pair.invariant.count) in
    let old : List Bool = slice_index_or rows r c.index-rows-from.result in
    let x : old ≡ row rows r = get_or_default rows r c.index-rows-from.result [] there in
    let wide = c.requires.room r first in
    let room : c.args.offset + t < length (row rows r) = omega (arith, wide, c.loop-pair.invariant.widths r, inside.1) in
    let flipped : c.flip.new.self ≡ sum_of (row rows r) (unit_vector (length (row rows r)) (c.args.offset + t)) = c.flip.ensures ∙ ap (λ (v : List Bool). sum_of v (unit_vector (length v) (c.args.offset + t))) x in
    adds_more c.args.offset pairs i before rows r t c.flip.new.self c.loop-pair.invariant c.loop-pair-test.true er et there room flipped

pub returns : goal.returns
returns c = λ k l.
    let m = c.args.multiples.now in
    let pairs = c.pairs-pair-items.result.now in
    let are : ArePairs m.degree m.right pairs = c.pairs-pair-items.ensures in
    adds_products c.args.offset m.degree m.right pairs c.loop-pair.pair-index c.args.rows.now c.loop-pair.rows k are c.loop-pair.invariant (omega (arith, c.loop-pair-test.false)) (omega (arith, c.requires.count)) (c.requires.room k l)
