use Rattle.std.proofs.Common.{◌≡◌, ◌∙◌, ap, ◌<◌, ◌^◌, length, arith}
use Rattle.save_journal.specs.Records.{framed}
use Rattle.save_journal.proofs.Frames.{body_in, framed_again, sayable_again}
use Rattle.save_journal.proofs.framing.frame.Goals as goal

pub invariant_of-result : goal.invariant_of-result
invariant_of-result c =
    let is : c.in-Ok.bytes.items ≡ framed c.args.body.items = c.in-Ok.ensures ∙ ap framed c.deref.ensures.value in
    let short : length c.args.body.items < 2 ^ 64 = omega (arith, c.args.body.ok, c.args.body.small) in
    (framed_again _ _ is, sayable_again _ _ is short)

pub returns-in-Ok-clause-framed : goal.returns-in-Ok-clause-framed
returns-in-Ok-clause-framed c =
    let is : c.in-Ok.bytes.items ≡ framed c.args.body.items = c.in-Ok.ensures ∙ ap framed c.deref.ensures.value in
    body_in c.in-Ok.bytes.items c.args.body.items is
