use Rattle.std.proofs.Common.{arith, ◌∙◌, sym}
use Rattle.f2_vec.proofs.Next.{zero_past, zero_before, least_end}
use Rattle.f2_vec.proofs.bit_vec.BitVec.words_up_to_last.Goals as goal

pub loop-end-init : goal.loop-end-init
loop-end-init c = zero_past c.self.inside.len c.len-end.result c.self.inside.words.items c.args.self.now c.self.invariant c.self.view_is (omega (arith, c.len-end.ensures, c.self.inside.words.ok.0))

pub loop-end-preserved : goal.loop-end-preserved
loop-end-preserved c = zero_before c.loop-end.end c.word.result c.args.self.now c.loop-end-test.true c.word.ensures c.if-word-eq0.true c.loop-end.invariant

pub returns-else-word-eq0-clause-least : goal.returns-else-word-eq0-clause-least
returns-else-word-eq0-clause-least c = λ m z. least_end c.loop-end.end m c.word.result c.args.self.now c.loop-end-test.true c.word.ensures c.if-word-eq0.false (omega arith) z
