use Rattle.std.proofs.Common.{◌≡◌, ◌≢◌, ℕ, ◌+◌, ◌*◌, ◌/◌, ◌%◌, [], length, set, drop, slice_index_or, refl, ap, sym, ◌∙◌, arith, subst}
use Rattle.std.proofs.lemmas.List.{length-set}
use Rattle.std.proofs.lemmas.Bool.{eqb-true, eqb-false}
use Rattle.std.proofs.Math.Facts.{Fits-lt-pow}
use Rattle.f2_vec.proofs.ByteWords.{AreWordsUpTo, eight_of_chunk, eight_of_rest, words_more, words_all}
use Rattle.f2_vec.proofs.packing.read_bytes.Goals as goal

pub loop-i-preserved : goal.loop-i-preserved
loop-i-preserved c =
    let i = c.loop-i.i in
    let bs = c.args.bytes.now in
    let chunks = c.as_chunks.result.0.now in
    let eight = eight_of_chunk (length bs / 8) i bs chunks (omega (arith, c.loop-i-test.true, c.as_chunks.ensures.front_len)) refl c.as_chunks.ensures.front in
    record {
      size = length-set c.loop-i.words i c.from_le_bytes.result ∙ c.loop-i.invariant.size;
      made = words_more i c.from_le_bytes.result bs c.loop-i.words (slice_index_or chunks i []) (omega (arith, c.requires, c.loop-i-test.true, c.loop-i.auto.words, c.as_chunks.ensures.front_len)) (λ p. Fits-lt-pow (c.type_inv.bytes p)) c.from_le_bytes.ensures eight c.loop-i.invariant.made;
    }

pub returns-then-not-is_empty-clause-bits : goal.returns-then-not-is_empty-clause-bits
returns-then-not-is_empty-clause-bits c =
    let i = length c.as_chunks.result.0.now in
    let bs = c.args.bytes.now in
    let us = c.loop-i.words in
    let x = c.from_le_bytes-then-not-is_empty.result in
    let rest : ℕ = length c.as_chunks.result.1.now in
    let done : c.loop-i.i ≡ i = omega (arith, c.loop-i-test.false, c.loop-i.auto.i-end) in
    let some : rest ≢ 0 = eqb-false rest 0 (sym c.is_empty.ensures ∙ c.if-not-is_empty.true) in
    let front : i ≡ length bs / 8 = c.as_chunks.ensures.front_len in
    let back : rest ≡ length bs % 8 = c.as_chunks.ensures.back_len in
    let needed : length us ≡ i + 1 = omega (arith, c.requires, c.loop-i.auto.words, front, back, some) in
    let eight = eight_of_rest i rest bs c.copy_from_slice.new.self front back (c.copy_from_slice.ensures.after ∙ c.as_chunks.ensures.back ∙ ap (λ m. drop (m * 8) bs) (sym front)) in
    words_all (i + 1) bs (set us i x) (omega (arith, needed, length-set us i x)) (omega (arith, needed, length-set us i x, front))
    (words_more i x bs us _ (omega (arith, needed)) (λ p. Fits-lt-pow (c.type_inv.bytes p)) c.from_le_bytes-then-not-is_empty.ensures eight (subst (λ m. AreWordsUpTo m bs us) done c.loop-i.invariant.made))

pub returns-else-not-is_empty-clause-bits : goal.returns-else-not-is_empty-clause-bits
returns-else-not-is_empty-clause-bits c =
    let i = length c.as_chunks.result.0.now in
    let bs = c.args.bytes.now in
    let us = c.loop-i.words in
    let rest : ℕ = length c.as_chunks.result.1.now in
    let none : rest ≡ 0 = eqb-true rest 0 (sym c.is_empty.ensures ∙ c.if-not-is_empty.false) in
    let front : i ≡ length bs / 8 = c.as_chunks.ensures.front_len in
    let back : rest ≡ length bs % 8 = c.as_chunks.ensures.back_len in
    let needed : length us ≡ i = omega (arith, c.requires, c.loop-i.auto.words, front, back, none) in
    words_all c.loop-i.i bs us (omega (arith, needed, c.loop-i-test.false)) (omega (arith, needed, front, back, none)) c.loop-i.invariant.made
