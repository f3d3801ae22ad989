use Rattle.std.proofs.Common.{◌≡◌, ◌+◌, ◌*◌, ◌/◌, ◌%◌, ◌<◌, refl, sym, ap, ◌∙◌, inl, inr, get_or, length, arith}
use Rattle.std.proofs.lemmas.Bool.{cases_eq}
use Rattle.std.proofs.lemmas.List.{get_or_default}
use Rattle.f2_vec.specs.Vectors.{bit}
use Rattle.f2_kernel.proofs.CommonOnes.{common_bit, no_common_bit}
use Rattle.f2_kernel.proofs.blocks.has_mark.Goals as goal

pub returns-then-word-ne0 : goal.returns-then-word-ne0
returns-then-word-ne0 c =
    let w = c.index-word.result.now in
    let found = common_bit c.word.result c.word-in-loop-i.result c.word.type_inv c.if-word-ne0.true in
    let b = found.0 in
    let words = c.args.marks.now.words.items in
    let within : c.loop-i.i < length words = omega (arith, c.loop-i-test.true, c.len-i-end.ensures) in
    let at : get_or words c.loop-i.i 0 ≡ (64 * w + b) / 64 = omega (arith, found.1, c.index-word.ensures, get_or_default words c.loop-i.i w 0 within) in
    (λ t. (c.loop-i.i, 64 * w + b, within, at, sym (c.word.ensures b found.1) ∙ found.2, sym (c.word-in-loop-i.ensures b found.1) ∙ found.3), λ h. refl)

pub loop-i-preserved : goal.loop-i-preserved
loop-i-preserved c = λ m p less here one two. elim (cases_eq m c.loop-i.i) [
  | inr before ↦ c.loop-i.invariant m p (omega (arith, less, before)) here one two
  | inl same ↦
      let w = c.index-word.result.now in
      let b = p % 64 in
      let words = c.args.marks.now.words.items in
      let within : c.loop-i.i < length words = omega (arith, c.loop-i-test.true, c.len-i-end.ensures) in
      let e : w ≡ p / 64 = omega (arith, c.index-word.ensures, get_or_default words c.loop-i.i w 0 within, ap (λ k. get_or words k 0) same, here) in
      let small : b < 64 = omega arith in
      let at : 64 * w + b ≡ p = omega (arith, e) in
      no_common_bit c.word.result c.word-in-loop-i.result b c.if-word-ne0.false (c.word.ensures b small ∙ (ap (bit c.args.vector.now) at ∙ one)) (c.word-in-loop-i.ensures b small ∙ (ap (bit c.args.marks.now.vector) at ∙ two))
]
