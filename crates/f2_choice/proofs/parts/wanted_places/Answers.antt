use Rattle.std.proofs.Common.{◌≡◌, ◌+◌, ◌-◌, ◌++◌, ◌∷◌, [], length, ap, sym, ◌∙◌, arith, append_assoc}
use Rattle.std.specs.List.{range_with_len}
use Rattle.std.proofs.lemmas.List.{append-nil}
use Rattle.f2_choice.specs.Inside.Tables.{vacant_places}
use Rattle.f2_choice.proofs.Loops.{range_push}
use Rattle.f2_choice.proofs.parts.wanted_places.Goals as goal

pub loop-place-init : goal.loop-place-init
loop-place-init c =
    let n = length c.args.table.now in
    let none : 0 ≡ n - n = omega arith in
    c.in_ok-places.ensures ∙ sym (append-nil (vacant_places c.args.table.now)) ∙ ap (λ k. vacant_places c.args.table.now ++ range_with_len n k) none

pub loop-place-preserved : goal.loop-place-preserved
loop-place-preserved c =
    let from = length c.args.table.now in
    let vacant = vacant_places c.args.table.now in
    let place = c.loop-place.place in
    let m = place - from in
    let at : from + m ≡ place = omega arith in
    let more : m + 1 ≡ place + 1 - from = omega arith in
    c.in_ok-push.ensures.items
    ∙ ap (λ z. z ++ place ∷ []) c.loop-place.invariant
    ∙ append_assoc vacant (range_with_len from m) (place ∷ [])
    ∙ ap (λ z. vacant ++ (range_with_len from m ++ z ∷ [])) (sym at)
    ∙ ap (λ z. vacant ++ z) (sym (range_push from m))
    ∙ ap (λ k. vacant ++ range_with_len from k) more
