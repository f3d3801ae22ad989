-- The passes of a board, of which the last is taken off.
use Rattle.std.proofs.Common.{◌≡◌, ◌≢◌, ℕ, suc, ◌<◌, ◌≤◌, List, [], ◌∷◌, ◌++◌, length, get_or, sym, subst, ap, ◌∙◌, arith, inl, inr, length-append}
use Rattle.std.proofs.Math.ListN.{get_or-append}
use Rattle.std.proofs.Math.Seq.{get_or-append_seam}
use Rattle.std.proofs.lemmas.List.Elements.{Contains-get_or, Contains-append_left, Contains-append_right}
use Rattle.std.specs.Prelude.{Contains}
use mathlib.Core.List.{IsPrefix}
use mathlib.Core.Logic.{dite}
use native.Mathlib.Decide.{ℕ_discrete}
use Rattle.board_core.specs.declared.event.Entry.{Entry as Event}
use Rattle.turn_lock.specs.Turns.{TurnId, PassState, after_join, Continues}
use Rattle.turn_lock.proofs.Histories.{prefix_self, prefix_trans}
use Rattle.square_board.specs.declared.opening.Opening.{Opening}
use Rattle.square_board.specs.Workers.{IsPassAt, AreItsPasses, HasEntriesOf, HasJoined, HasPairs}

module _ {T : Type 0} (board : TurnId (Opening T)) (old new : List (PassState (Opening T) Event)) (last : PassState (Opening T) Event) (are : AreItsPasses board old) (items : old ≡ new ++ last ∷ []) where
  all_of : AreItsPasses board (new ++ last ∷ [])
  all_of = subst (λ (l : List (PassState (Opening T) Event)). AreItsPasses board l) items are

  pub others_are : AreItsPasses board new
  others_are i d h = subst (λ (p : PassState (Opening T) Event). IsPassAt board i p) (get_or-append new (last ∷ []) d i h) (all_of i d (omega (arith, length-append new (last ∷ []))))

  pub last_is : IsPassAt board (length new) last
  last_is = subst (λ (p : PassState (Opening T) Event). IsPassAt board (length new) p) (get_or-append_seam new last [] last) (all_of (length new) last (let l = length-append new (last ∷ []) in omega arith))

  pub one_more : length old ≡ suc (length new)
  one_more = let l = length-append new (last ∷ []) in let e = ap (λ (k : List (PassState (Opening T) Event)). length k) items in omega arith

-- ---- passes that are joined from the last down

abbrev Pass : Type 0 → Type 0
Pass T = PassState (Opening T) Event

-- those that are left are as they were; the others are this one, or were joined into it
pub record IsJoining {T : Type 0} (all left : List (PassState (Opening T) Event)) (last : PassState (Opening T) Event) : Type 0 where
  pub same : (i : ℕ) (d : PassState (Opening T) Event) → i < length left → get_or left i d ≡ get_or all i d
  pub own : (i : ℕ) (d : PassState (Opening T) Event) → length left ≤ i → i < length all → HasEntriesOf last i (get_or all i d).own
  pub seen : (i : ℕ) (d : PassState (Opening T) Event) → length left ≤ i → i < length all → IsPrefix (get_or all i d).seen last.seen

module _ {T : Type 0} where
  pub joining_begins : (all left : List (Pass T)) (last : Pass T) → all ≡ left ++ last ∷ [] → last.number ≡ length left → IsJoining all left last
  joining_begins all left last items number =
      let long : length all ≡ suc (length left) = ap (λ (l : List (Pass T)). length l) items ∙ (let l = length-append left (last ∷ []) in omega arith) in
      let here : (i : ℕ) (d : Pass T) → length left ≤ i → i < length all → get_or all i d ≡ last =
      λ i d more less.
      let at : i ≡ length left = omega arith in
      ap (λ (l : List (Pass T)). get_or l i d) items ∙ (ap (λ (n : ℕ). get_or (left ++ last ∷ []) n d) at ∙ get_or-append_seam left last [] d) in
      record {
        same = λ i d less. sym (ap (λ (l : List (Pass T)). get_or l i d) items ∙ get_or-append left (last ∷ []) d i less);
        own = λ i d more less. inl (let at : i ≡ length left = omega arith in number ∙ sym at, ap (λ (p : Pass T). p.own) (sym (here i d more less)));
        seen = λ i d more less. subst (λ (p : Pass T). IsPrefix p.seen last.seen) (sym (here i d more less)) (prefix_self last.seen);
      }

  pub joining_goes_on : (all old new : List (Pass T)) (last other : Pass T) (seen : List (ℕ × Event)) → IsJoining all old last → old ≡ new ++ other ∷ [] → other.number ≡ length new → Continues last seen → Continues other seen → IsJoining all new (after_join last other seen)
  joining_goes_on all old new last other seen joining items number continues others =
      let long : length old ≡ suc (length new) = ap (λ (l : List (Pass T)). length l) items ∙ (let l = length-append new (other ∷ []) in omega arith) in
      let both = after_join last other seen in
      let here : (i : ℕ) (d : Pass T) → i ≡ length new → get_or all i d ≡ other =
      λ i d at.
      sym (joining.same i d (omega arith)) ∙ (ap (λ (l : List (Pass T)). get_or l i d) items ∙ (ap (λ (n : ℕ). get_or (new ++ other ∷ []) n d) at ∙ get_or-append_seam new other [] d)) in
      let last_has : (i : ℕ) (own : List Event) → HasEntriesOf last i own → HasEntriesOf both i own =
      λ i own has. elim has [
        | inl mine ↦ inl mine
        | inr joined ↦ inr (Contains-append_left last.joined ((other.number, other.own) ∷ other.joined) (i, own) joined)
      ] in
      let first : ℕ × List Event = (other.number, other.own) in
      let other_there : Contains both.joined first = Contains-append_right last.joined (first ∷ other.joined) first (Contains-get_or (first ∷ other.joined) 0 first (omega arith)) in
      let other_has : (i : ℕ) → i ≡ length new → HasEntriesOf both i other.own =
      λ i at. inr (subst (λ (n : ℕ). Contains both.joined (n, other.own)) (number ∙ sym at) other_there) in
      record {
        same = λ i d less. sym (ap (λ (l : List (Pass T)). get_or l i d) items ∙ get_or-append new (other ∷ []) d i less) ∙ joining.same i d (omega arith);
        own = λ i d more less. dite (ℕ_discrete i (length new))
            (λ at. subst (λ (p : Pass T). HasEntriesOf both i p.own) (sym (here i d at)) (other_has i at))
            (λ ne. last_has i (get_or all i d).own (joining.own i d (omega arith) less));
        seen = λ i d more less. dite (ℕ_discrete i (length new))
            (λ at. subst (λ (p : Pass T). IsPrefix p.seen seen) (sym (here i d at)) others.seen)
            (λ ne. prefix_trans (get_or all i d).seen last.seen seen (joining.seen i d (omega arith) less) continues.seen);
      }

  pub joining_ends : (all left : List (Pass T)) (last : Pass T) → length left ≡ 0 → IsJoining all left last → HasJoined all last
  joining_ends all left last none joining = record {
    own = λ i d less. joining.own i d (omega arith) less;
    seen = λ i d less. joining.seen i d (omega arith) less;
  }

  -- where each of them made pairs
  pub joined_pairs : (board : TurnId (Opening T)) (all : List (Pass T)) (last : Pass T) → AreItsPasses board all → HasJoined all last → HasPairs (length all) last
  joined_pairs board all last are joined i less = record {
    own = (get_or all i last).own;
    has = joined.own i last less;
    pairs = (are i last less).pairs;
  }
