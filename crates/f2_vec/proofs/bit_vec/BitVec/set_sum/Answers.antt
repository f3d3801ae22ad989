use Rattle.std.proofs.Common.{◌≡◌, length, ap, sym, ◌∙◌, subst}
use Rattle.std.proofs.lemmas.List.{with_items_is}
use Rattle.f2_vec.specs.Vectors.{sum_of}
use Rattle.f2_vec.specs.Inside.Packed.{HasRoom, unit_bits}
use Rattle.f2_vec.proofs.Packed.{same_lengths, as_many_words, unit_bit-sums, HasRoom-sum, unit_bits-sum}
use Rattle.f2_vec.proofs.bit_vec.BitVec.set_sum.Goals as goal

pub sum_words-requires-clause-left : goal.sum_words-requires-clause-left
sum_words-requires-clause-left c =
    let n = c.self.inside.len in
    let us = c.self.inside.words.items in
    let a_s = c.a.inside.words.items in
    let e = same_lengths n c.a.inside.len us a_s c.args.self.now c.args.a.now c.self.view_is c.a.view_is c.requires.left in
    ap length c.as_slice.ensures.value ∙ as_many_words n a_s us (subst (λ m. HasRoom 64 m a_s) e c.a.invariant) c.self.invariant ∙ sym (ap length c.as_mut_slice.ensures.value)

pub sum_words-requires-clause-right : goal.sum_words-requires-clause-right
sum_words-requires-clause-right c =
    let n = c.self.inside.len in
    let us = c.self.inside.words.items in
    let ys = c.b.inside.words.items in
    let e = same_lengths n c.b.inside.len us ys c.args.self.now c.args.b.now c.self.view_is c.b.view_is c.requires.right in
    ap length c.as_slice-2.ensures.value ∙ as_many_words n ys us (subst (λ m. HasRoom 64 m ys) e c.b.invariant) c.self.invariant ∙ sym (ap length c.as_mut_slice.ensures.value)

pub invariant_of-self : goal.invariant_of-self
invariant_of-self c =
    let n = c.self.inside.len in
    let us = c.self.inside.words.items in
    let xs = c.a.inside.words.items in
    let ys = c.b.inside.words.items in
    let ws = c.sum_words.new.words in
    let e = same_lengths n c.a.inside.len us xs c.args.self.now c.args.a.now c.self.view_is c.a.view_is c.requires.left in
    let f = same_lengths n c.b.inside.len us ys c.args.self.now c.args.b.now c.self.view_is c.b.view_is c.requires.right in
    let l : length ws ≡ length us = c.sum_words.ensures.length ∙ ap length c.as_mut_slice.ensures.value in
    let room = subst (λ m. HasRoom 64 m xs) e c.a.invariant in
    rw (with_items_is c.self.inside.words ws (l ∙ sym c.self.inside.words.ok.0))
    (HasRoom-sum n xs ys ws room (subst (λ m. HasRoom 64 m ys) f c.b.invariant) (l ∙ sym (as_many_words n xs us room c.self.invariant))
    (unit_bit-sums xs ys _ _ ws c.as_slice.ensures.value c.as_slice-2.ensures.value c.sum_words.ensures.words))

pub returns : goal.returns
returns c =
    let n = c.self.inside.len in
    let us = c.self.inside.words.items in
    let xs = c.a.inside.words.items in
    let ys = c.b.inside.words.items in
    let ws = c.sum_words.new.words in
    let e = same_lengths n c.a.inside.len us xs c.args.self.now c.args.a.now c.self.view_is c.a.view_is c.requires.left in
    let f = same_lengths n c.b.inside.len us ys c.args.self.now c.args.b.now c.self.view_is c.b.view_is c.requires.right in
    let l : length ws ≡ length us = c.sum_words.ensures.length ∙ ap length c.as_mut_slice.ensures.value in
    let room = subst (λ m. HasRoom 64 m xs) e c.a.invariant in
    ap (unit_bits 64 n) (with_items_is c.self.inside.words ws (l ∙ sym c.self.inside.words.ok.0))
    ∙ unit_bits-sum n xs ys ws (unit_bit-sums xs ys _ _ ws c.as_slice.ensures.value c.as_slice-2.ensures.value c.sum_words.ensures.words)
    ∙ ap (λ m. sum_of (unit_bits 64 m xs) (unit_bits 64 n ys)) (sym e)
    ∙ ap (λ m. sum_of (unit_bits 64 c.a.inside.len xs) (unit_bits 64 m ys)) (sym f)
    ∙ ap (λ v. sum_of v (unit_bits 64 c.b.inside.len ys)) c.a.view_is
    ∙ ap (sum_of c.args.a.now) c.b.view_is
