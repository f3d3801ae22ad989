use Rattle.std.proofs.Common.{◌≡◌, ◌+◌, ◌<◌, ◌++◌, [], length, take, drop, get_or, ap, inr, sym, subst, ◌∙◌, arith}
use Rattle.std.proofs.lemmas.List.{get_or_read, take_at}
use Rattle.std.proofs.lemmas.Result.{err_from_is_err_and}
use Rattle.square.specs.Squares.{over}
use Rattle.chart_rows.specs.Standing.{IsMisplaced, MayStand, AreCharted}
use Rattle.chart_rows.specs.Placing.{ChartRows, IsMisplacedAt, bare_in, with_square}
use Rattle.chart_rows.proofs.Parts.{IsAt, put_more, may_more, refused_at}
use Rattle.chart_rows.proofs.chart.Chart.place.Goals as goal

pub returns-in_err-put-clause-refused : goal.returns-in_err-put-clause-refused
returns-in_err-put-clause-refused c =
    let m = over c.self.inside.module.now in
    let p = c.args.part.now in
    let old = c.self.inside.rows.items in
    let h = c.loop-h.h in
    let rows = c.as_mut_slice.result.now in
    let s = c.first-first.result + h in
    let k = c.above-k.result in
    let q = c.square-item.result in
    let within : h < length p.squares = omega (arith, ap length c.squares-square-items.ensures.squares) in
    let item : q ≡ bare_in p h = get_or_read c.squares-square-items.result.now h q (omega arith) c.square-item.is (record { width = 0; images = [] }) ∙ ap (λ z. get_or z h (record { width = 0; images = [] })) c.squares-square-items.ensures.squares in
    let at : IsAt m p old h rows s k q = record {
      before = c.as_mut_slice.ensures.value ∙ c.loop-h.invariant.put;
      row_is = omega (arith, c.first-first.ensures.first);
      degree_is = c.above-k.ensures.above;
      square_is = item;
    } in
    let fault = c.in_err-put.field-0.0 in
    let here : IsMisplaced m rows s k q fault = subst (λ x. IsMisplaced (over x) rows s k q fault) c.loop-h.invariant.resolved c.in_err-put.ensures.refused in
    let wrong : IsMisplacedAt m old p fault = inr (refused_at m p old h rows s k q fault at within c.loop-h.invariant.may here) in
    let there : IsMisplacedAt (over c.args.self.now.resolved) c.args.self.now.rows p fault = subst (λ (x : ChartRows). IsMisplacedAt (over x.resolved) x.rows p fault) c.self.view_is wrong in
    let r = err_from_is_err_and c.from_residual.result c.from_residual.ensures.1 in
    rw (r.1, r.2) there

pub loop-h-preserved : goal.loop-h-preserved
loop-h-preserved c =
    let m = over c.self.inside.module.now in
    let p = c.args.part.now in
    let old = c.self.inside.rows.items in
    let h = c.loop-h.h in
    let rows = c.as_mut_slice.result.now in
    let s = c.first-first.result + h in
    let k = c.above-k.result in
    let q = c.square-item.result in
    let within : h < length p.squares = omega (arith, ap length c.squares-square-items.ensures.squares) in
    let item : q ≡ bare_in p h = get_or_read c.squares-square-items.result.now h q (omega arith) c.square-item.is (record { width = 0; images = [] }) ∙ ap (λ z. get_or z h (record { width = 0; images = [] })) c.squares-square-items.ensures.squares in
    let at : IsAt m p old h rows s k q = record {
      before = c.as_mut_slice.ensures.value ∙ c.loop-h.invariant.put;
      row_is = omega (arith, c.first-first.ensures.first);
      degree_is = c.above-k.ensures.above;
      square_is = item;
    } in
    let same = c.loop-h.invariant.resolved in
    let put : c.put.new.rows ≡ with_square m s k q rows = subst (λ x. c.put.new.rows ≡ with_square (over x) s k q rows) same c.in_ok-put.ensures.put in
    let may : MayStand m rows s k q = subst (λ x. MayStand (over x) rows s k q) same c.in_ok-put.ensures.may in
    let new = c.put.new.rows in
    let before = c.loop-h.self-inside.rows in
    let count : length new ≡ before.len = c.put.ensures.charted.count ∙ sym (ap length c.as_mut_slice.ensures.value ∙ c.loop-h.invariant.charted.count) ∙ c.as_mut_slice.ensures.len in
    let written : take before.len (new ++ drop (length new) before.items) ≡ new = take_at new (drop (length new) before.items) before.len count in
    record {
      resolved = same;
      reach = c.loop-h.invariant.reach;
      charted = subst (AreCharted m) (sym written) (subst (λ x. AreCharted (over x) new) same c.put.ensures.charted);
      put = written ∙ put_more m p old h rows s k q new at within put;
      may = may_more m p old h rows s k q at c.loop-h.invariant.may may;
    }
