use Rattle.std.proofs.Common.{◌≡◌, ◌-◌, ◌+◌, ◌*◌, drop, not, Bool, true, false, refl, ap, ◌∙◌, arith}
use mathlib.Core.Bool.{beq}
use Rattle.f2_vec.specs.Vectors.{plus}
use Rattle.f2_choice.specs.Inside.Dots.{dot}
use Rattle.f2_kernel.proofs.Words.{word_more}
use Rattle.f2_kernel.proofs.form.dot.Goals as goal

unlike : (a b : Bool) → not (beq a b) ≡ plus b a
unlike false false = refl
unlike false true = refl
unlike true false = refl
unlike true true = refl

pub loop-k-preserved : goal.loop-k-preserved
loop-k-preserved c =
    let a = c.args.a.now in
    let b = c.args.b.now in
    let k = c.loop-k.k - 1 in
    let back : c.loop-k.k ≡ k + 1 = omega (arith, c.loop-k-test.true) in
    unlike c.loop-k.sum _
    ∙ word_more a b k c.word.result c.word-in-loop-k.result c.loop-k.sum c.requires (omega arith) (omega arith) (λ i l. c.word.ensures i l) (λ i l. c.word-in-loop-k.ensures i l)
    (c.loop-k.invariant ∙ ap (λ z. dot (drop (64 * z) a) (drop (64 * z) b)) back)
