use Rattle.std.specs.Prelude.{◌==◌}
use Rattle.std.proofs.Common.{◌%◌, ap, sym, ◌∙◌, arith}
use Rattle.f2_vec.proofs.Packed.{unit_bit-at}
use Rattle.f2_vec.proofs.Next.{shifted_before, shifted_others}
use Rattle.f2_vec.proofs.words.word_without.Goals as goal

pub returns-then-at-from-clause-before : goal.returns-then-at-from-clause-before
returns-then-at-from-clause-before c = λ b l h. shifted_before _ (c.args.from % 64) b (omega (arith, c.if-at-from.true)) l

pub returns-then-at-from-clause-others : goal.returns-then-at-from-clause-others
returns-then-at-from-clause-others c = λ b l h.
    ap (λ x. x == 1) (shifted_others _ (c.args.from % 64) b (omega (arith, c.if-at-from.true)) l) ∙ sym (unit_bit-at c.args.words.now c.args.at b l)

pub returns-clause-others : goal.returns-clause-others
returns-clause-others c = λ b l h. sym (unit_bit-at c.args.words.now c.args.at b l)
