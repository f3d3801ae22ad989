use Rattle.std.specs.Borrow.{Bor}
use Rattle.std.proofs.Common.{ℕ, List, Bool, ◌-◌, ◌++◌, ◌∷◌, [], length, map, ap, sym, ◌∙◌, arith}
use Rattle.std.specs.List.{range_with_len}
use Rattle.std.proofs.lemmas.List.{map-append}
use Rattle.std.proofs.lemmas.List.FromFn.{map-range_with_len_more}
use Rattle.f2_choice.specs.Inside.Tables.{entry_at, row_or_zero}
use Rattle.f2_choice.proofs.parts.spread.Goals as goal

pub loop-e-preserved : goal.loop-e-preserved
loop-e-preserved c =
    let f : ℕ → List Bool = λ e. row_or_zero (length c.args.zero.now) c.args.rows.now (entry_at c.args.table.now (length c.args.table.now - 1 - e)) in
    let now : Bor (List Bool) → List Bool = λ v. v.now in
    let e = c.loop-e.e in
    ap (map now) c.in_ok-push.ensures.items
    ∙ map-append now c.loop-e.spread.items (c.row_or_zero.result ∷ [])
    ∙ ap (λ z. z ++ c.row_or_zero.result.now ∷ []) c.loop-e.invariant
    ∙ ap (λ v. map f (range_with_len 0 e) ++ v ∷ []) c.row_or_zero.ensures
    ∙ sym (map-range_with_len_more f 0 e e (omega arith))
