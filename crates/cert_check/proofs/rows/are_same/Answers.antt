use Rattle.std.proofs.Common.{refl, arith}
use Rattle.cert_check.proofs.Vectors.{all_rows}
use Rattle.cert_check.proofs.rows.are_same.Goals as goal

pub returns : goal.returns
returns c = (λ t. all_rows c.args.a.now c.args.b.now c.loop-i.i c.if-a-b.false (omega (arith, c.loop-i-test.false)) c.loop-i.invariant, λ e. refl)
