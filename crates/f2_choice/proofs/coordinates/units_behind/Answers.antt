use Rattle.std.proofs.Common.{◌≡◌, ◌+◌, ◌++◌, ◌∷◌, [], ℕ, List, Bool, map, ap, sym, ◌∙◌, arith}
use Rattle.std.specs.List.{range_with_len}
use Rattle.std.proofs.lemmas.List.FromFn.{map-range_with_len_more}
use Rattle.f2_vec.specs.Vectors.{zeros}
use Rattle.f2_vec.specs.Spans.{unit_vector}
use Rattle.f2_choice.proofs.Form.{unit_vector-behind}
use Rattle.f2_choice.proofs.coordinates.units_behind.Goals as goal

pub loop-i-preserved : goal.loop-i-preserved
loop-i-preserved c =
    let i = c.loop-i.i in
    let f : ℕ → List Bool = λ j. zeros c.args.n ++ unit_vector c.args.count j in
    let is : c.in_ok-unit.field-0 ≡ f i = c.in_ok-unit.ensures ∙ ap (λ w. unit_vector w (c.args.n + i)) c.requires ∙ unit_vector-behind c.args.n c.args.count i in
    c.in_ok-push.ensures.items
    ∙ ap (λ z. z ++ c.in_ok-unit.field-0 ∷ []) c.loop-i.invariant
    ∙ ap (λ v. map f (range_with_len 0 i) ++ v ∷ []) is
    ∙ sym (map-range_with_len_more f 0 i i (omega arith))
