use Rattle.std.specs.Int.{bit_at}
use Rattle.std.specs.Prelude.{◌==◌}
use Rattle.std.proofs.Common.{◌+◌, ◌*◌, get_or, ap, sym, ◌∙◌}
use Rattle.f2_vec.specs.Vectors.{bit}
use Rattle.f2_vec.proofs.Packed.{unit_bit-at, bit-unit_bits}
use Rattle.f2_vec.proofs.bit_vec.BitVec.word.Goals as goal

pub returns : goal.returns
returns c = λ b h.
    let us = c.self.inside.words.items in
    let i = c.args.i in
    ap (λ x. bit_at x b == 1) c.word_or_zero.ensures
    ∙ ap (λ ws. bit_at (get_or ws i 0) b == 1) c.as_slice.ensures.value
    ∙ sym (unit_bit-at us i b h)
    ∙ sym (bit-unit_bits 64 c.self.inside.len us (64 * i + b) c.self.invariant)
    ∙ ap (λ v. bit v (64 * i + b)) c.self.view_is
