use Rattle.std.proofs.Common.{◌<◌, true, set, ap, sym, ◌∙◌, arith}
use Rattle.f2_vec.specs.Vectors.{plus, sum_of, bit}
use Rattle.f2_vec.specs.Spans.{unit_vector}
use Rattle.f2_vec.specs.Inside.Packed.{unit_bit, unit_bits}
use Rattle.f2_vec.proofs.Packed.{bit-unit_bits, HasRoom-set, unit_bits-set, length_of_bits, place_of_word}
use Rattle.f2_vec.proofs.Turned.{one_turned, sum_with_unit}
use Rattle.f2_vec.proofs.bit_vec.BitVec.flip.Goals as goal

pub index_mut-requires : goal.index_mut-requires
index_mut-requires c =
    let l = length_of_bits c.self.inside.len c.self.inside.words.items c.args.self.now c.self.view_is in
    let w = place_of_word c.self.inside.len c.args.i c.self.inside.words.items c.self.invariant (omega arith) in
    omega (arith, c.self.inside.words.ok.0, w)

pub invariant_of-self : goal.invariant_of-self
invariant_of-self c =
    let n = c.self.inside.len in
    let us = c.self.inside.words.items in
    let i = c.args.i in
    let l = length_of_bits n us c.args.self.now c.self.view_is in
    let h : i < n = omega arith in
    let w = place_of_word n i us c.self.invariant h in
    HasRoom-set n us _ i (plus (unit_bit 64 us i) true) c.self.invariant h (one_turned us i c.index_mut.result.now w c.index_mut.ensures.value)

pub returns : goal.returns
returns c =
    let n = c.self.inside.len in
    let us = c.self.inside.words.items in
    let i = c.args.i in
    let v = c.args.self.now in
    let l = length_of_bits n us v c.self.view_is in
    let h : i < n = omega arith in
    let w = place_of_word n i us c.self.invariant h in
    unit_bits-set n us _ i (plus (unit_bit 64 us i) true) h (one_turned us i c.index_mut.result.now w c.index_mut.ensures.value)
    ∙ ap (λ b. set (unit_bits 64 n us) i (plus b true)) (sym (bit-unit_bits 64 n us i c.self.invariant))
    ∙ ap (λ u. set u i (plus (bit u i) true)) c.self.view_is
    ∙ sum_with_unit n i v l h
    ∙ ap (λ m. sum_of v (unit_vector m i)) (sym l)
