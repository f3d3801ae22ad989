use Rattle.std.proofs.Common.{ℕ, ◌++◌, List, length, ap, ◌∙◌, arith}
use Rattle.chart_file.proofs.Squares.{square_written}
use Rattle.chart_file.proofs.writing.append_square.Goals as goal

pub returns : goal.returns
returns c =
    let q = c.args.square.now in
    let b0 = c.args.body.now.items in
    let b1 = c.extend_from_slice.new.self.items in
    let first = c.in_ok-extend_from_slice.ensures.items ∙ ap (λ (x : List ℕ). b0 ++ x) c.to_be_bytes.ensures in
    let second = c.in_ok-extend_from_slice-2.ensures.items ∙ ap (λ (x : List ℕ). b1 ++ x) c.to_be_bytes-2.ensures in
    square_written q _ c.width.result b0 b1 c.extend_from_slice-2.new.self.items c.loop-image.body.items c.images-image-items.result.now c.loop-image.image-index (ap length c.images.ensures.images) c.width.ensures first second c.loop-image.invariant c.images-image-items.ensures.images (omega arith)
