use Rattle.std.proofs.Common.{◌≡◌, ℕ, ◌<◌, ◌+◌, ◌++◌, ◌∷◌, length, List, [], slice_index_or, sym, ap, subst, ◌∙◌, arith}
use Rattle.std.proofs.lemmas.List.{get_or_read}
use Rattle.milnor_basis.proofs.ProductTerms.{ChosenSoFar, chosen_more, chosen_skip, all_chosen}
use Rattle.milnor_basis.proofs.product.chosen.Goals as goal
use Rattle.milnor_basis.proofs.product.chosen.Goals.{then-get+in_ok-push, else-get}

pub loop-i-preserved : goal.loop-i-preserved
loop-i-preserved c =
    let within : c.loop-i.i < length c.args.elements.now = c.loop-i-test.true in
    let so_far : List (List ℕ) → Type 0 = ChosenSoFar c.args.elements.now c.args.bits.now (c.loop-i.i + 1) in
    elim c.if-get.branch [
      | then-get+in_ok-push w ↦
          let read : c.index-elements-i.result ≡ slice_index_or c.args.elements.now c.loop-i.i [] = get_or_read c.args.elements.now c.loop-i.i c.index-elements-i.result within c.index-elements-i.is [] in
          let more : so_far (c.loop-i.terms.items ++ slice_index_or c.args.elements.now c.loop-i.i [] ∷ []) = chosen_more c.args.elements.now c.args.bits.now c.loop-i.i c.loop-i.terms.items within c.loop-i.invariant (sym c.get.ensures ∙ w.if-get.true) in
          let pushed : c.if-get.terms.items ≡ c.loop-i.terms.items ++ slice_index_or c.args.elements.now c.loop-i.i [] ∷ [] = ap (λ v. v.items) w.terms-is ∙ w.in_ok-push.ensures.items ∙ ap (λ (x : List ℕ). c.loop-i.terms.items ++ x ∷ []) read in
          subst so_far (sym pushed) more
      | else-get w ↦
          let skip : so_far c.loop-i.terms.items = chosen_skip c.args.elements.now c.args.bits.now c.loop-i.i c.loop-i.terms.items within c.loop-i.invariant (sym c.get.ensures ∙ w.if-get.false) in
          subst so_far (ap (λ v. v.items) (sym w.terms-is)) skip
    ]

pub returns : goal.returns
returns c = all_chosen c.args.elements.now c.args.bits.now c.loop-i.i c.loop-i.terms.items (omega arith) c.loop-i.invariant
