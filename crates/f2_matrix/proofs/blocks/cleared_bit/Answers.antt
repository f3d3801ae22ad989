use Rattle.std.proofs.Common.{[], ◌≡◌, ◌<◌, false, cond, map, take, length, get_or, ap, sym, ◌∙◌, arith}
use Rattle.std.proofs.lemmas.List.{take_all, length-map, get_or-map, get_or_read}
use Rattle.f2_vec.specs.Vectors.{plus, bit}
use Rattle.f2_vec.specs.Spans.{combination, row}
use Rattle.f2_vec.proofs.Sums.{bit-sum_of, plus-false, differ-plus}
use Rattle.f2_vec.proofs.Spans.{length-combination}
use Rattle.f2_matrix.proofs.BlockSums.{bit_more}
use Rattle.f2_matrix.proofs.blocks.cleared_bit.Goals.{then-get, else-get}
use Rattle.f2_matrix.proofs.blocks.cleared_bit.Goals as goal

pub loop-j-preserved : goal.loop-j-preserved
loop-j-preserved c =
    let n = c.args.cols in
    let v = c.args.row.now in
    let b = c.args.block.now in
    let ps = c.args.places.now in
    let cs = map (bit v) ps in
    let j = c.loop-j.j in
    let col = c.args.col in
    let hb : j < length b = omega (arith, c.requires.as_many) in
    let hc : j < length cs = omega (arith, length-map ps (bit v)) in
    let here : c.get.result ≡ get_or cs j false = c.get.ensures ∙ sym (get_or-map (bit v) ps j 0 false (omega arith)) in
    let z = cond (get_or cs j false) (bit (row b j) col) false in
    let new : c.if-get.bit ≡ plus c.loop-j.bit z = elim c.if-get.branch [
      | then-get w ↦
          w.bit-is ∙ differ-plus c.loop-j.bit w.get-bit-then-get.result
          ∙ ap (plus c.loop-j.bit) (w.get-bit-then-get.ensures ∙ ap (λ r. bit r col) (get_or_read b j w.index-block-j.result hb w.index-block-j.is []))
          ∙ ap (λ t. plus c.loop-j.bit (cond t (bit (row b j) col) false)) (sym w.if-get.true ∙ here)
      | else-get w ↦
          w.bit-is ∙ sym (plus-false c.loop-j.bit) ∙ ap (λ t. plus c.loop-j.bit (cond t (bit (row b j) col) false)) (sym w.if-get.false ∙ here)
    ] in
    new ∙ bit_more n j col (bit v col) c.loop-j.bit cs b c.requires.block hc hb c.loop-j.invariant

-- all rows of the block
pub returns : goal.returns
returns c =
    let cs = map (bit c.args.row.now) c.args.places.now in
    let b = c.args.block.now in
    let u = combination c.args.cols cs b in
    let lc : length cs ≡ length c.args.places.now = length-map c.args.places.now (bit c.args.row.now) in
    let same : c.args.cols ≡ length u = sym (length-combination c.args.cols cs b c.requires.block) in
    c.loop-j.invariant
    ∙ ap (λ x. plus (bit c.args.row.now c.args.col) (bit (combination c.args.cols x (take c.loop-j.j b)) c.args.col)) (take_all c.loop-j.j cs (omega arith))
    ∙ ap (λ x. plus (bit c.args.row.now c.args.col) (bit (combination c.args.cols cs x) c.args.col)) (take_all c.loop-j.j b (omega (arith, c.requires.as_many)))
    ∙ sym (bit-sum_of c.args.row.now u c.args.col (c.requires.row ∙ same))
