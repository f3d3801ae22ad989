use Rattle.std.proofs.Common.{◌≡◌, ◌≢◌, ◌<◌, ℕ, length, slice_index_or, ap, sym, ◌∙◌, arith}
use Rattle.f2_vec.specs.Vectors.{bit, sum_of}
use Rattle.f2_vec.specs.Spans.{unit_vector}
use Rattle.f2_vec.proofs.Sums.{length-sum_of}
use Rattle.f2_vec.proofs.Split.{length-unit_vector}
use Rattle.milnor_basis.proofs.Pairs.{turned_here, turned_elsewhere}
use Rattle.milnor_basis.proofs.multiples.turn_over.Goals as goal
use Rattle.milnor_basis.proofs.multiples.turn_over.Goals.{then-from-left, else-from-left}

pub loop-pair-preserved : goal.loop-pair-preserved
loop-pair-preserved c =
    let i = c.loop-pair.pair-index in
    let pairs = c.args.pairs.now in
    let bits = c.loop-pair.bits in
    let inv = c.loop-pair.invariant in
    let left : c.from.result ≡ (slice_index_or pairs i (0, 0)).0 = c.from.ensures in
    elim c.if-from-left.branch [
      | then-from-left w ↦
          let t : ℕ = w.from-then-from-left.result in
          let place : t ≡ (slice_index_or pairs i (0, 0)).1 = w.from-then-from-left.ensures in
          let here : (slice_index_or pairs i (0, 0)).0 ≡ c.args.left = omega (arith, w.if-from-left.true) in
          let within : t < length bits = (let inside = c.requires i (0, 0) c.loop-pair-test.true in omega (arith, inv.size)) in
          let is : c.if-from-left.bits ≡ sum_of bits (unit_vector (length bits) t) = w.bits-is ∙ w.flip.ensures in
          record {
            size = ap length is ∙ length-sum_of bits (unit_vector (length bits) t) (sym (length-unit_vector (length bits) t)) ∙ inv.size;
            turned = turned_here pairs i c.args.left c.args.bits.now bits c.loop-pair-test.true inv.turned t c.if-from-left.bits here place within is;
          }
      | else-from-left w ↦
          let other : (slice_index_or pairs i (0, 0)).0 ≢ c.args.left = (λ e. w.if-from-left.false (left ∙ e)) in
          record {
            size = ap length w.bits-is ∙ inv.size;
            turned = λ k. ap (λ v. bit v k) w.bits-is ∙ turned_elsewhere pairs i c.args.left c.args.bits.now bits c.loop-pair-test.true inv.turned other k;
          }
    ]
