use Rattle.std.proofs.Common.{set, ap, sym, ◌∙◌, arith}
use Rattle.f2_vec.specs.Vectors.{bit}
use Rattle.f2_vec.proofs.Packed.{length-unit_bits, length_of_bits}
use Rattle.f2_vec.proofs.WordSet.{HasRoom-written, bit-written, bit-elsewhere}
use Rattle.f2_vec.proofs.bit_vec.BitVec.set_word.Goals as goal

pub overflow_mul-i : goal.overflow_mul-i
overflow_mul-i c = let l = length_of_bits c.self.inside.len c.self.inside.words.items c.args.self.now c.self.view_is in omega arith

pub overflow_sub-len : goal.overflow_sub-len
overflow_sub-len c = let l = length_of_bits c.self.inside.len c.self.inside.words.items c.args.self.now c.self.view_is in omega arith

pub index_mut-requires : goal.index_mut-requires
index_mut-requires c =
    let l = length_of_bits c.self.inside.len c.self.inside.words.items c.args.self.now c.self.view_is in
    omega (arith, c.self.invariant.enough, c.self.inside.words.ok.0)

pub invariant_of-self : goal.invariant_of-self
invariant_of-self c =
    let n = c.self.inside.len in
    let us = c.self.inside.words.items in
    let l = length_of_bits n us c.args.self.now c.self.view_is in
    HasRoom-written n us c.args.i c.low_bits.result c.self.invariant (omega (arith, c.self.invariant.enough)) c.low_bits.ensures.past

pub returns-clause-length : goal.returns-clause-length
returns-clause-length c =
    let n = c.self.inside.len in
    let us = c.self.inside.words.items in
    length-unit_bits 64 n (set us c.args.i c.low_bits.result) ∙ sym (length_of_bits n us c.args.self.now c.self.view_is)

pub returns-clause-inside : goal.returns-clause-inside
returns-clause-inside c = λ b h k.
    let n = c.self.inside.len in
    let us = c.self.inside.words.items in
    let l = length_of_bits n us c.args.self.now c.self.view_is in
    bit-written n us c.args.i c.args.word c.low_bits.result b (omega (arith, c.self.invariant.enough)) h (omega arith) c.low_bits.ensures.within

pub returns-clause-others : goal.returns-clause-others
returns-clause-others c = λ k d.
    let n = c.self.inside.len in
    let us = c.self.inside.words.items in
    let l = length_of_bits n us c.args.self.now c.self.view_is in
    let room = HasRoom-written n us c.args.i c.low_bits.result c.self.invariant (omega (arith, c.self.invariant.enough)) c.low_bits.ensures.past in
    bit-elsewhere n us c.args.i c.low_bits.result k c.self.invariant room d ∙ ap (λ v. bit v k) c.self.view_is
