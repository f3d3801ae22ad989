use Rattle.std.proofs.Common.{◌≡◌, ◌+◌, ◌*◌, ◌-◌, ◌<◌, refl, sym, ap, ◌∙◌, inl, inr, arith}
use Rattle.std.proofs.lemmas.Bool.{cases_lt, false≢true}
use Rattle.f2_vec.specs.Vectors.{bit}
use Rattle.f2_vec.proofs.Sums.{one_within}
use Rattle.f2_kernel.proofs.CommonOnes.{common_bit, no_common_bit}
use Rattle.f2_kernel.proofs.echelon.have_common_one.Goals as goal

pub returns-then-word-ne0 : goal.returns-then-word-ne0
returns-then-word-ne0 c =
    let found = common_bit c.word.result c.word-in-loop-i.result c.word.type_inv c.if-word-ne0.true in
    let b = found.0 in
    (λ t. (64 * c.loop-i.i + b, sym (c.word.ensures b found.1) ∙ found.2, sym (c.word-in-loop-i.ensures b found.1) ∙ found.3), λ h. refl)

pub loop-i-preserved : goal.loop-i-preserved
loop-i-preserved c = λ p less one two. elim (cases_lt p (64 * c.loop-i.i)) [
  | inl before ↦ c.loop-i.invariant p before one two
  | inr behind ↦
      let b = p - 64 * c.loop-i.i in
      let within : b < 64 = omega arith in
      let at : 64 * c.loop-i.i + b ≡ p = omega arith in
      no_common_bit c.word.result c.word-in-loop-i.result b c.if-word-ne0.false (c.word.ensures b within ∙ (ap (bit c.args.a.now) at ∙ one)) (c.word-in-loop-i.ensures b within ∙ (ap (bit c.args.b.now) at ∙ two))
]

pub returns : goal.returns
returns c = (
  λ t. absurd (false≢true t),
  λ h. let within = one_within c.args.a.now h.0 h.1 in absurd (c.loop-i.invariant h.0 (omega (arith, c.loop-i-test.false, c.div_ceil-i-end.ensures, c.len.ensures)) h.1 h.2),
)
