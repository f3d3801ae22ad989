use Rattle.std.proofs.Common.{◌<◌, List, [], Bool, length, refl, sym, ap, ◌∙◌, arith}
use Rattle.std.proofs.lemmas.Bool.{false≢true}
use Rattle.std.proofs.lemmas.List.{get_or_read}
use Rattle.f2_vec.specs.Spans.{row, unit_vectors}
use Rattle.f2_vec.proofs.Split.{length-unit_vectors, row-unit_vectors}
use Rattle.cert_check.proofs.Vectors.{one_row_more, all_rows}
use Rattle.cert_check.proofs.rows.are_units.Goals as goal

pub returns-then-rows-n : goal.returns-then-rows-n
returns-then-rows-n c = (λ t. absurd (false≢true t), λ e. absurd (c.if-rows-n.true (ap length e ∙ length-unit_vectors c.args.n)))

pub returns-then-not-is_unit : goal.returns-then-not-is_unit
returns-then-not-is_unit c =
    let rows = c.args.rows.now in
    let i = c.loop-i.i in
    let within : i < c.args.n = omega (arith, c.loop-i-test.true) in
    let here = get_or_read rows i c.index-rows-i.result (omega (arith, c.if-rows-n.false)) c.index-rows-i.is [] in
    (λ t. absurd (false≢true t), λ e. c.if-not-is_unit.ensures.1 (here ∙ (ap (λ (z : List (List Bool)). row z i) e ∙ row-unit_vectors c.args.n i within)))

pub loop-i-preserved : goal.loop-i-preserved
loop-i-preserved c =
    let rows = c.args.rows.now in
    let i = c.loop-i.i in
    let within : i < c.args.n = omega (arith, c.loop-i-test.true) in
    let here = get_or_read rows i c.index-rows-i.result (omega (arith, c.if-rows-n.false)) c.index-rows-i.is [] in
    one_row_more rows (unit_vectors c.args.n) i (sym here ∙ (c.if-not-is_unit.ensures.0 refl ∙ sym (row-unit_vectors c.args.n i within))) c.loop-i.invariant

pub returns : goal.returns
returns c = (λ t. all_rows c.args.rows.now (unit_vectors c.args.n) c.loop-i.i (c.if-rows-n.false ∙ sym (length-unit_vectors c.args.n)) (omega (arith, c.loop-i-test.false, c.if-rows-n.false)) c.loop-i.invariant, λ e. refl)
