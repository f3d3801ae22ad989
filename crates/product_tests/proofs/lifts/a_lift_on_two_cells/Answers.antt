use Rattle.std.proofs.Common.{◌≡◌, ◌<◌, List, length, ap, sym, subst, ◌∙◌, arith}
use Rattle.std.proofs.lemmas.List.{get_or_default}
use Rattle.std.specs.Prelude.{slice_index_or}
use Rattle.chain_map.specs.Lifting.{LiftValues, IsLiftOver, no_lift}
use Rattle.product_tests.proofs.lifts.a_lift_on_two_cells.Goals as goal

pub value_on-value-requires-2-clause-lift : goal.value_on-value-requires-2-clause-lift
value_on-value-requires-2-clause-lift g c = λ above e.
    let made = c.as_slice.result.now in
    let one = c.in-len1.len_at_least in
    let same = c.as_slice.ensures.value in
    let there : 0 < length c.in_ok-all.all.items = subst (λ (all : List LiftValues). 0 < length all) same (omega arith) in
    let read : c.only-item.result ≡ slice_index_or c.in_ok-all.all.items 0 no_lift =
    c.only-item.is ∙ get_or_default made 0 c.only-item.result no_lift (omega arith) ∙ ap (λ (all : List LiftValues). slice_index_or all 0 no_lift) same in
    subst (IsLiftOver c.in_ok-squares.squares c.in_ok-sphere.sphere 1 above 0 1) (sym read) (c.in_ok-all.ensures.lifts above e 0 there)
