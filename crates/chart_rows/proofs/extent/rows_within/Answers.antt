use Rattle.std.proofs.Common.{◌≡◌, ◌+◌, ◌++◌, ◌∷◌, [], ℕ, List, length, ap, inl, inr, sym, subst, ◌∙◌, arith}
use Rattle.std.proofs.lemmas.Bool.{cases_lt}
use Rattle.std.proofs.lemmas.List.{get_or_append_left, get_or_push, length_push}
use Rattle.finite_module.specs.Checked.{Checked}
use Rattle.resolution_laws.specs.Resolution.{Content}
use Rattle.square.specs.Squares.{over, bottom_of}
use Rattle.resolution_images.specs.BareRows.{BareRow, no_bare_row, bare_row_in, squares_of, IsBareRowOf}
use Rattle.resolution_images.specs.Made.{IsTableOf}
use Rattle.resolution_images.proofs.Resolved.{resolvable, a_table}
use Rattle.chart_rows.specs.Standing.{whole_row}
use Rattle.chart_rows.specs.Within.{reach_in}
use Rattle.chart_rows.proofs.Stems.{IsKnown}
use Rattle.chart_rows.proofs.Within.{AreWithin, made_within, stems_within, canonical_within}
use Rattle.chart_rows.proofs.extent.rows_within.Goals as goal

pub loop-i-preserved : goal.loop-i-preserved
loop-i-preserved c =
    let chart = c.args.chart.now in
    let e = c.args.extent in
    let t = c.args.t in
    let i = c.loop-i.i in
    let old = c.loop-i.rows.items in
    let line = c.in_ok-whole_row.field-0 in
    let new = c.push.new.self.items in
    let pushed : new ≡ old ++ line ∷ [] = c.in_ok-push.ensures.items in
    let n_is : c.from-n.result ≡ e.n = omega (arith, c.from-n.ensures) in
    let t_is : c.from.result ≡ t = omega (arith, c.from.ensures) in
    let k_is : c.reach-k.result ≡ reach_in chart.rows e.n t i =
    c.reach-k.ensures ∙ ap (λ (z : List BareRow). reach_in z c.from-n.result c.from.result i) c.rows-from.ensures.rows
    ∙ ap (λ z. reach_in chart.rows z c.from.result i) n_is ∙ ap (λ z. reach_in chart.rows e.n z i) t_is in
    let here : IsBareRowOf (bottom_of chart.resolved) (whole_row (squares_of chart.rows) i (e.n + i) (reach_in chart.rows e.n t i)) line =
    subst (λ k. IsBareRowOf (bottom_of chart.resolved) (whole_row (squares_of chart.rows) i (e.n + i) k) line) k_is
    (subst (λ n. IsBareRowOf (bottom_of chart.resolved) (whole_row (squares_of chart.rows) i (n + i) c.reach-k.result) line) n_is
    (subst (λ (z : List BareRow). IsBareRowOf (bottom_of chart.resolved) (whole_row (squares_of z) i (c.from-n.result + i) c.reach-k.result) line) c.rows-from.ensures.rows
    (subst (λ (x : Checked). IsBareRowOf (bottom_of x) (whole_row (squares_of c.rows-from.result.now) i (c.from-n.result + i) c.reach-k.result) line) c.module.ensures c.in_ok-whole_row.ensures))) in
    record {
      count = ap length pushed ∙ length_push old line ∙ ap (λ x. x + 1) c.loop-i.invariant.count;
      each = λ x l.
          let P : ℕ → BareRow → Type 0 = λ (y : ℕ) (z : BareRow). IsBareRowOf (bottom_of chart.resolved) (whole_row (squares_of chart.rows) y (e.n + y) (reach_in chart.rows e.n t y)) z in
          elim (cases_lt x i) [
            | inl b ↦
                let at : bare_row_in new x ≡ bare_row_in old x = ap (λ z. bare_row_in z x) pushed ∙ get_or_append_left old (line ∷ []) no_bare_row x (omega (arith, c.loop-i.invariant.count)) in
                subst (P x) (sym at) (c.loop-i.invariant.each x b)
            | inr b ↦
                let last : x ≡ i = omega arith in
                let at : bare_row_in new x ≡ line = ap (λ z. bare_row_in z x) pushed ∙ get_or_push old line no_bare_row x (c.loop-i.invariant.count ∙ sym last) in
                subst (P x) (sym at) (subst (λ y. P y line) (sym last) here)
          ];
    }

pub returns-clause-made : goal.returns-clause-made
returns-clause-made c = λ same.
    let chart = c.args.chart.now in
    let m = over chart.resolved in
    let e = c.args.extent in
    let lines = c.loop-i.rows.items in
    let end : c.loop-i.i ≡ e.last + 1 = omega (arith, c.loop-i-test.false, c.loop-i.auto.i-end, c.from-i-end.ensures) in
    let within : AreWithin m chart.rows e c.args.t lines = record { count = c.loop-i.invariant.count ∙ end; each = λ i l. c.loop-i.invariant.each i (omega arith) } in
    let r = resolvable c.modules_are_graded_modules.ensures chart.resolved in
    let known : (table : List (List Content)) → IsTableOf m e table → IsKnown m e.last (e.n + e.last) table = λ table canonical. record {
      free = c.linear_maps.ensures.free;
      commute = c.linear_maps.ensures.commute;
      not_met = c.new_generators_are_not_met.ensures;
      resolution = record { steenrod = r.steenrod; bounded = r.bounded; canonical = canonical };
    } in
    made_within c.rows_in_stems_are_whole.ensures m chart.rows e c.args.t lines known same within

pub returns-clause-stems : goal.returns-clause-stems
returns-clause-stems c = λ same all.
    let chart = c.args.chart.now in
    let m = over chart.resolved in
    let e = c.args.extent in
    let lines = c.loop-i.rows.items in
    let end : c.loop-i.i ≡ e.last + 1 = omega (arith, c.loop-i-test.false, c.loop-i.auto.i-end, c.from-i-end.ensures) in
    let within : AreWithin m chart.rows e c.args.t lines = record { count = c.loop-i.invariant.count ∙ end; each = λ i l. c.loop-i.invariant.each i (omega arith) } in
    let r = resolvable c.modules_are_graded_modules.ensures chart.resolved in
    let known : (table : List (List Content)) → IsTableOf m e table → IsKnown m e.last (e.n + e.last) table = λ table canonical. record {
      free = c.linear_maps.ensures.free;
      commute = c.linear_maps.ensures.commute;
      not_met = c.new_generators_are_not_met.ensures;
      resolution = record { steenrod = r.steenrod; bounded = r.bounded; canonical = canonical };
    } in
    stems_within c.rows_in_stems_are_whole.ensures m chart.rows e c.args.t lines known same within all

pub returns-clause-canonical : goal.returns-clause-canonical
returns-clause-canonical c = λ same all degree.
    let chart = c.args.chart.now in
    let m = over chart.resolved in
    let e = c.args.extent in
    let lines = c.loop-i.rows.items in
    let end : c.loop-i.i ≡ e.last + 1 = omega (arith, c.loop-i-test.false, c.loop-i.auto.i-end, c.from-i-end.ensures) in
    let within : AreWithin m chart.rows e c.args.t lines = record { count = c.loop-i.invariant.count ∙ end; each = λ i l. c.loop-i.invariant.each i (omega arith) } in
    let r = resolvable c.modules_are_graded_modules.ensures chart.resolved in
    let known : (table : List (List Content)) → IsTableOf m e table → IsKnown m e.last (e.n + e.last) table = λ table canonical. record {
      free = c.linear_maps.ensures.free;
      commute = c.linear_maps.ensures.commute;
      not_met = c.new_generators_are_not_met.ensures;
      resolution = record { steenrod = r.steenrod; bounded = r.bounded; canonical = canonical };
    } in
    let above = a_table c.canonical_table_exists.ensures chart.resolved e in
    canonical_within c.rows_in_stems_are_whole.ensures m chart.rows e c.args.t lines known same within above.0 above.1 all degree
