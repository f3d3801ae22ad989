use Rattle.std.proofs.Common.{◌≡◌, length, ap, sym, ◌∙◌, subst}
use Rattle.std.proofs.lemmas.List.{with_items_is}
use Rattle.f2_vec.specs.Vectors.{sum_of}
use Rattle.f2_vec.specs.Inside.Packed.{HasRoom, unit_bits}
use Rattle.f2_vec.proofs.Packed.{same_lengths, as_many_words, unit_bit-sums, HasRoom-sum, unit_bits-sum}
use Rattle.f2_vec.proofs.bit_vec.BitVec.xor_with.Goals as goal

pub xor_words-requires : goal.xor_words-requires
xor_words-requires c =
    let n = c.self.inside.len in
    let us = c.self.inside.words.items in
    let vs = c.other.inside.words.items in
    let e = same_lengths n c.other.inside.len us vs c.args.self.now c.args.other.now c.self.view_is c.other.view_is (sym c.requires) in
    ap length c.as_mut_slice.ensures.value
    ∙ as_many_words n us vs c.self.invariant (subst (λ m. HasRoom 64 m vs) e c.other.invariant)
    ∙ sym (ap length c.as_slice.ensures.value)

pub invariant_of-self : goal.invariant_of-self
invariant_of-self c =
    let n = c.self.inside.len in
    let us = c.self.inside.words.items in
    let vs = c.other.inside.words.items in
    let ws = c.xor_words.new.words in
    let e = same_lengths n c.other.inside.len us vs c.args.self.now c.args.other.now c.self.view_is c.other.view_is (sym c.requires) in
    let l : length ws ≡ length us = c.xor_words.ensures.length ∙ ap length c.as_mut_slice.ensures.value in
    rw (with_items_is c.self.inside.words ws (l ∙ sym c.self.inside.words.ok.0))
    (HasRoom-sum n us vs ws c.self.invariant (subst (λ m. HasRoom 64 m vs) e c.other.invariant) l
    (unit_bit-sums us vs _ _ ws c.as_mut_slice.ensures.value c.as_slice.ensures.value c.xor_words.ensures.words))

pub returns : goal.returns
returns c =
    let n = c.self.inside.len in
    let us = c.self.inside.words.items in
    let vs = c.other.inside.words.items in
    let ws = c.xor_words.new.words in
    let e = same_lengths n c.other.inside.len us vs c.args.self.now c.args.other.now c.self.view_is c.other.view_is (sym c.requires) in
    let l : length ws ≡ length us = c.xor_words.ensures.length ∙ ap length c.as_mut_slice.ensures.value in
    ap (unit_bits 64 n) (with_items_is c.self.inside.words ws (l ∙ sym c.self.inside.words.ok.0))
    ∙ unit_bits-sum n us vs ws (unit_bit-sums us vs _ _ ws c.as_mut_slice.ensures.value c.as_slice.ensures.value c.xor_words.ensures.words)
    ∙ ap (λ m. sum_of (unit_bits 64 n us) (unit_bits 64 m vs)) (sym e)
    ∙ ap (λ v. sum_of v (unit_bits 64 c.other.inside.len vs)) c.self.view_is
    ∙ ap (sum_of c.args.self.now) c.other.view_is
