use Rattle.std.proofs.Common.{[], length, sym, ap, ◌∙◌}
use Rattle.std.proofs.lemmas.List.{get_or_read}
use Rattle.f2_vec.proofs.Sums.{length-sum_of}
use Rattle.f2_kernel.proofs.parts.add_at.Goals as goal

pub returns-then-number-rows-clause-length : goal.returns-then-number-rows-clause-length
returns-then-number-rows-clause-length c =
    let r = c.index-rows-number.result in
    ap length c.xor_with.ensures ∙ length-sum_of c.args.sum.now r (sym (ap length (get_or_read c.args.rows.now _ r c.if-number-rows.true c.index-rows-number.is []) ∙ c.requires.rows _ c.if-number-rows.true))
