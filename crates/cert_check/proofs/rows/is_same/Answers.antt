use Rattle.std.proofs.Common.{◌≡◌, length, refl, sym, ◌∙◌, arith}
use Rattle.std.proofs.lemmas.Bool.{false≢true}
use Rattle.cert_check.proofs.Vectors.{same_word, words_more, all_words}
use Rattle.cert_check.proofs.rows.is_same.Goals as goal

pub returns-then-word : goal.returns-then-word
returns-then-word c = (λ t. absurd (false≢true t), λ e. absurd (c.if-word.true (same_word c.args.a.now c.args.b.now c.loop-i.i c.word.result c.word-in-loop-i.result c.word.type_inv c.word-in-loop-i.type_inv c.word.ensures c.word-in-loop-i.ensures e)))

pub loop-i-preserved : goal.loop-i-preserved
loop-i-preserved c = words_more c.args.a.now c.args.b.now c.loop-i.i c.word.result c.word-in-loop-i.result c.if-word.false c.word.ensures c.word-in-loop-i.ensures c.loop-i.invariant

pub returns : goal.returns
returns c =
    let len : length c.args.a.now ≡ length c.args.b.now = sym c.len.ensures ∙ (c.if-len.false ∙ c.len-2.ensures) in
    (λ t. all_words c.args.a.now c.args.b.now c.loop-i.i len (omega (arith, c.loop-i-test.false, c.div_ceil-i-end.ensures, c.len-3.ensures)) c.loop-i.invariant, λ e. refl)
