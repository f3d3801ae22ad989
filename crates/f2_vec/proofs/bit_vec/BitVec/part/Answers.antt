use Rattle.std.specs.Int.{div_ceil}
use Rattle.std.proofs.Common.{◌≡◌, ◌<◌, ◌≤◌, ℕ, length, take, drop, ap, sym, ◌∙◌, arith, subst}
use Rattle.std.proofs.lemmas.List.{length-replicate, length-set}
use Rattle.f2_vec.proofs.Packed.{length-unit_bits}
use Rattle.f2_vec.proofs.Cut.{AreCutUpTo, cut_more, HasRoom-cut, unit_bits-cut}
use Rattle.f2_vec.proofs.bit_vec.BitVec.part.Goals as goal

-- the loop goes over the words
words_end : (i a m n : ℕ) {k : ℕ} → a ≡ m → m ≡ div_ceil n 64 → k ≡ div_ceil n 64 → i < a → i < k
words_end i a m n {k} e f g h = subst (λ x. i < x) (e ∙ f ∙ sym g) h

past_words : (i a m n : ℕ) {k : ℕ} → a ≡ m → m ≡ div_ceil n 64 → k ≡ div_ceil n 64 → a ≤ i → k ≤ i
past_words i a m n {k} e f g h = subst (λ x. x ≤ i) (e ∙ f ∙ sym g) h

pub loop-i-init : goal.loop-i-init
loop-i-init c = record {
  size = ap length (c.in_ok-words.ensures.items_if_clones_equal (λ y h. h)) ∙ length-replicate {A = ℕ} c.div_ceil.result 0 ∙ c.div_ceil.ensures;
  cut = record { bits = λ k l m n. absurd (omega arith); past = λ k l m n. absurd (omega arith) };
}

pub loop-i-preserved : goal.loop-i-preserved
loop-i-preserved c =
    let i = c.loop-i.i in
    let h : i < length c.loop-i.words.items = words_end i c.len-i-end.result c.div_ceil.result c.args.len (c.len-i-end.ensures ∙ c.in_ok-words.ensures.len) c.div_ceil.ensures c.loop-i.invariant.size (omega arith) in
    record {
      size = length-set c.loop-i.words.items i c.low_bits.result ∙ c.loop-i.invariant.size;
      cut = cut_more i c.args.from c.args.len c.word_from.result c.low_bits.result _ c.loop-i.words.items h c.word_from.ensures c.low_bits.ensures.within c.low_bits.ensures.past c.loop-i.invariant.cut;
    }

pub invariant_of-result : goal.invariant_of-result
invariant_of-result c =
    HasRoom-cut c.loop-i.i c.args.from c.args.len _ c.loop-i.words.items c.loop-i.invariant.size
    (past_words c.loop-i.i c.len-i-end.result c.div_ceil.result c.args.len (c.len-i-end.ensures ∙ c.in_ok-words.ensures.len) c.div_ceil.ensures c.loop-i.invariant.size c.loop-i-test.false)
    c.loop-i.invariant.cut

pub returns : goal.returns
returns c =
    let from = c.args.from in
    let n = c.args.len in
    let m = c.self.inside.len in
    let us = c.self.inside.words.items in
    let e = ap length c.self.view_is in
    unit_bits-cut c.loop-i.i from n m us c.loop-i.words.items c.loop-i.invariant.size
    (past_words c.loop-i.i c.len-i-end.result c.div_ceil.result n (c.len-i-end.ensures ∙ c.in_ok-words.ensures.len) c.div_ceil.ensures c.loop-i.invariant.size c.loop-i-test.false)
    (omega (arith, length-unit_bits 64 m us, c.requires)) (subst (λ vs. AreCutUpTo c.loop-i.i from n vs c.loop-i.words.items) c.as_slice-all.ensures.value c.loop-i.invariant.cut)
    ∙ ap (λ v. take n (drop from v)) c.self.view_is
