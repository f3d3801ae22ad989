use Rattle.std.proofs.Common.{[], ◌<◌, length, arith}
use Rattle.std.proofs.lemmas.List.{get_or_read}
use Rattle.f2_sums.proofs.WithinWords.{AreWithin-more}
use Rattle.f2_sums.proofs.words.words_of.Goals as goal
use Rattle.f2_sums.proofs.words.words_of.Goals.{then-to-end, else-to-end}

pub loop-row-init : goal.loop-row-init
loop-row-init c = λ i l. absurd (omega arith)

pub loop-row-preserved : goal.loop-row-preserved
loop-row-preserved c =
    let n = c.loop-row.row-index in
    let there : n < length c.args.rows.now = c.loop-row-test.true in
    let end = c.words_up_to_last-end.result in
    let more = AreWithin-more n c.loop-row.from c.loop-row.to c.min-from.result c.if-to-end.to c.first_word.result end c.args.rows.now c.row-item.result c.loop-row.invariant (get_or_read c.args.rows.now n c.row-item.result there c.row-item.is []) c.first_word.ensures c.words_up_to_last-end.ensures.zero c.min-from.ensures in
    elim c.if-to-end.branch [
      | then-to-end w ↦ more (omega (arith, w.to-is, w.if-to-end.true)) (omega (arith, w.to-is))
      | else-to-end w ↦ more (omega (arith, w.to-is)) (omega (arith, w.to-is, w.if-to-end.false))
    ]

pub returns : goal.returns
returns c = λ i l. c.loop-row.invariant i (omega arith)
