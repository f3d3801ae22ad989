use Rattle.std.proofs.Common.{refl, arith}
use Rattle.f2_vec.proofs.Blocks.{two_words_more}
use Rattle.f2_vec.proofs.block.exchanged.Goals as goal

pub loop-k-init : goal.loop-k-init
loop-k-init c = record { size = refl; bits = λ r k l m. absurd (omega arith) }

pub loop-k-preserved : goal.loop-k-preserved
loop-k-preserved c = two_words_more c.loop-k.k c.args.s c.word_of_zeros.result c.word_of_ones.result c.args.block.now c.loop-k.words (omega arith) c.loop-k.invariant c.word_of_zeros.ensures c.word_of_ones.ensures

pub returns : goal.returns
returns c = λ r k l m. c.loop-k.invariant.bits r k (omega arith) m
