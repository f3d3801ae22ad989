use Rattle.std.proofs.Common.{◌≡◌, ◌<◌, List, [], length, take, inl, inr, sym, subst, ◌∙◌, arith}
use Rattle.std.proofs.lemmas.Bool.{cases_lt}
use Rattle.std.proofs.lemmas.List.{get_or_read}
use Rattle.chart_file.specs.Parts.{Part}
use Rattle.square.specs.Squares.{over}
use Rattle.resolution_images.specs.BareRows.{BareRow}
use Rattle.chart_rows.specs.Placing.{MayStandAll, part_in, rows_of_parts, with_part}
use Rattle.chart_rows.proofs.Parts.{rows_of_parts-more}
use Rattle.chart_rows.proofs.chart.chart_of.Goals as goal

pub loop-n-preserved : goal.loop-n-preserved
loop-n-preserved c =
    let parts = c.args.parts.now in
    let n = c.loop-n.n in
    let p = c.index-parts-n.result in
    let m = over c.args.module.now in
    let chart = c.loop-n.chart in
    let new = c.place.new.self in
    let within : n < length parts = omega arith in
    let item : p ≡ part_in parts n = get_or_read parts n p within c.index-parts-n.is (record { above = 0; first = 0; squares = [] }) in
    let same = c.loop-n.invariant.resolved in
    let before = c.loop-n.invariant.rows in
    let put : new.rows ≡ with_part m (part_in parts n) (rows_of_parts m (take n parts)) =
    subst (λ (z : Part). new.rows ≡ with_part m z (rows_of_parts m (take n parts))) item
    (subst (λ (z : List BareRow). new.rows ≡ with_part m p z) before (subst (λ x. new.rows ≡ with_part (over x) p chart.rows) same c.in-Ok.ensures.put)) in
    let may : MayStandAll m (rows_of_parts m (take n parts)) (part_in parts n) =
    subst (MayStandAll m (rows_of_parts m (take n parts))) item
    (subst (λ (z : List BareRow). MayStandAll m z p) before (subst (λ x. MayStandAll (over x) chart.rows p) same c.in-Ok.ensures.may)) in
    record {
      resolved = c.place.ensures.module ∙ same;
      reach = c.place.ensures.basis ∙ c.loop-n.invariant.reach;
      rows = put ∙ sym (rows_of_parts-more m parts n within);
      may = λ j l. elim (cases_lt j n) [
        | inl b ↦ c.loop-n.invariant.may j b
        | inr b ↦
            let e : n ≡ j = omega arith in
            subst (λ x. MayStandAll m (rows_of_parts m (take x parts)) (part_in parts x)) e may
      ];
    }
