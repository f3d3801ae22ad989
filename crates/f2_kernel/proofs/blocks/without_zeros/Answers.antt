use Rattle.std.proofs.Common.{◌-◌, [], arith}
use Rattle.std.proofs.lemmas.Bool.{both_ways}
use Rattle.std.proofs.lemmas.List.{get_or_read}
use Rattle.f2_kernel.proofs.Blocked.{nonzero_before}
use Rattle.f2_kernel.proofs.blocks.without_zeros.Goals as goal
use Rattle.f2_kernel.proofs.blocks.without_zeros.Goals.{then-loop-end-test+else-is_zero, else-loop-end-test}

pub returns-clause-nonzero : goal.returns-clause-nonzero
returns-clause-nonzero c = λ i l. elim c.loop-end-test.branch [
  | then-loop-end-test+else-is_zero w ↦
      nonzero_before c.args.rows.now c.split_at.result.0.now c.loop-end.end w.index-rows-end.result c.requires c.split_at.ensures.front c.split_at.ensures.front_len
      (get_or_read c.args.rows.now (c.loop-end.end - 1) w.index-rows-end.result (omega (arith, w.loop-end-test.true, c.loop-end.invariant.within)) w.index-rows-end.is [])
      (λ z. both_ways w.is_zero.result w.if-is_zero.false (w.is_zero.ensures.1 z)) i l
  | else-loop-end-test w ↦ absurd (omega (arith, l, c.split_at.ensures.front_len, w.loop-end-test.false))
]
