use Rattle.std.proofs.Common.{arith}
use Rattle.f2_vec.proofs.Cut.{lower_alone, lower_both}
use Rattle.f2_vec.proofs.words.word_from.Goals as goal

pub returns-then-shift-eq0 : goal.returns-then-shift-eq0
returns-then-shift-eq0 c = λ b h. lower_alone c.args.words.now c.args.from c.word_or_zero.result b h c.if-shift-eq0.true c.word_or_zero.ensures

pub returns : goal.returns
returns c = λ b h. lower_both c.args.words.now c.args.from c.word_or_zero.result c.word_or_zero-2.result b h (omega arith) c.word_or_zero.ensures c.word_or_zero-2.ensures (omega arith)
