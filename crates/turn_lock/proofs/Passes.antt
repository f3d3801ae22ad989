-- What steps tell, read off where the code has tested it.
use Rattle.std.proofs.Common.{◌≡◌, ◌≢◌, ℕ, ◌==◌, ◌⊎◌, Bool, true, false, MatchBool, List, [], ◌∷◌, ◌++◌, ◌+◌, length, All, ⊎_elim, subst, sym, ap, ◌∙◌, refl, arith, eq-eqb, length-append}
use Rattle.std.proofs.Math.ListN.{get_or-append}
use Rattle.std.proofs.lemmas.List.{get_or-append-add}
use Rattle.std.proofs.lemmas.List.Elements.{All-head, All-tail}
use mathlib.Core.List.{IsPrefix}
use Rattle.std.specs.Prelude.{Option, Some, None}
use Rattle.atomic_table.specs.Table.{Me, rest}
use Rattle.turn_lock.specs.declared.view.View.{View}
use Rattle.turn_lock.specs.Inside.Steps.{IsKnownTo, having_stored, released}
use Rattle.turn_lock.specs.Inside.Rule.{joining}
use Rattle.turn_lock.specs.History.{entries_by, IsNext}
use Rattle.turn_lock.specs.Inside.Passes.{IsPass}
use Rattle.turn_lock.specs.Turns.{TurnId, PassState}
use Rattle.turn_lock.proofs.Histories.{prefix_trans, prefix_self, by_snoc_own, by_snoc_other}

pub matched : (a b : ℕ) (P Q : Type 0) → a ≡ b → MatchBool (a == b) P Q → P
matched a b P Q e m = subst (λ (t : Bool). MatchBool t P Q) (eq-eqb a b e) m

-- a seat with one slot in hand
pub in_hand_first : {S : Type 0} (l : List (ℕ × S)) (x : S) → l ≡ (0, x) ∷ [] → l ≡ (0, x) ∷ rest l
in_hand_first {S} l x e = let F : List (ℕ × S) → Type 0 = λ k. k ≡ (0, x) ∷ rest k in subst F (sym e) refl

-- the front that was read is the one that was asked for
pub front_is : {N E : Type 0} (front_of : N → List (ℕ × E) → ℕ → ℕ) (name name' : N) (i j n : ℕ) (history history' : List (ℕ × E)) → name ≡ name' → j ≡ i → history' ≡ history
    → (n ≡ front_of name history j) ⊎ ((e : ℕ × E) × (n ≡ front_of name (history ++ e ∷ []) j))
    → (n ≡ front_of name' history' i) ⊎ ((e : ℕ × E) × (n ≡ front_of name' (history' ++ e ∷ []) i))
front_is {N} {E} front_of name name' i j n history history' p q r f =
    let F : N → ℕ → List (ℕ × E) → Type 0 = λ m k h. (n ≡ front_of m h k) ⊎ ((e : ℕ × E) × (n ≡ front_of m (h ++ e ∷ []) k)) in
    subst (λ h. F name' i h) (sym r) (subst (λ k. F name' k history) q (subst (λ m. F m j history) p f))

-- one entry more in the history is one more of the pass's own
pub own_more : {E : Type 0} (number number' : ℕ) (seen next : List (ℕ × E)) (own : List E) (e : E) → number' ≡ number → next ≡ seen ++ (number, e) ∷ [] → entries_by number seen ≡ own → entries_by number' next ≡ own ++ e ∷ []
own_more {E} number number' seen next own e same is old =
    ap (λ (n : ℕ). entries_by n next) same ∙ (ap (λ (l : List (ℕ × E)). entries_by number l) is ∙ (by_snoc_own number seen e ∙ ap (λ (l : List E). l ++ e ∷ []) old))

module _ {T N E : Type 0} where
  -- the seat of a pass that holds the turn, with the state back in the slot
  pub put_in : (old new first : Me (Option T) (View N E)) (stored : List ℕ) (x : T) → old ≡ (having_stored first.0 stored, first.1) → first.1 ≡ (0, None) ∷ [] → new ≡ (old.0, (0, Some x) ∷ rest old.1)
      → new ≡ (having_stored first.0 stored, (0, Some x) ∷ [])
  put_in old new first stored x same carried is =
      let F : Me (Option T) (View N E) → Me (Option T) (View N E) = λ m. (m.0, (0, Some x) ∷ rest m.1) in
      is ∙ (ap F same ∙ ap (λ (l : List (ℕ × Option T)). F (having_stored first.0 stored, l)) carried)

  -- the seat after the turn
  pub ended : (entries : T → List (ℕ × E)) (first me after : Me (Option T) (View N E)) (stored : List ℕ) (x : T)
      → me ≡ (having_stored first.0 stored, (0, Some x) ∷ []) → ((state : T) → me.1 ≡ (0, Some state) ∷ [] → after ≡ (released me.0 (entries state), []))
      → after ≡ (released (having_stored first.0 stored) (entries x), [])
  ended entries first me after stored x is told = told x (ap (λ (m : Me (Option T) (View N E)). m.1) is) ∙ ap (λ (m : Me (Option T) (View N E)). (released m.0 (entries x), [])) is

  -- the fields of a pass after its turn
  pub pass_after : (entries : T → List (ℕ × E)) (name : N) (number count count' : ℕ) (first me after : Me (Option T) (View N E)) (stored : List ℕ) (x : T) → IsPass name number count first
      → me ≡ (having_stored first.0 stored, (0, Some x) ∷ []) → ((state : T) → me.1 ≡ (0, Some state) ∷ [] → after ≡ (released me.0 (entries state), []))
      → IsNext first.0.number first.0.seen (entries x) → count' ≡ length (entries x)
      → IsPass name number count' after
  pass_after entries name number count count' first me after stored x pass is told follows counted =
      let next : List (ℕ × E) = entries x in
      let end = ended entries first me after stored x is told in
      let follows' : IsNext number first.0.seen next = subst (λ (n : ℕ). IsNext n first.0.seen next) pass.numbered follows in
      let stays : (n : ℕ) → n ≢ number → entries_by n next ≡ entries_by n first.0.seen =
      λ n ne. ⊎_elim (λ e. ap (λ (l : List (ℕ × E)). entries_by n l) e) (λ t. ap (λ (l : List (ℕ × E)). entries_by n l) t.1 ∙ by_snoc_other n number first.0.seen t.0 ne) follows' in
      let P : Me (Option T) (View N E) → Type 0 = λ m. IsPass name number count' m in
      subst P (sym end) record {
        named = pass.named;
        numbered = pass.numbered;
        counted = sym counted;
        own = ap (λ (n : ℕ). entries_by n next) (sym pass.numbered);
        joined = λ k d h. stays _ (pass.apart k d h) ∙ pass.joined k d h;
        apart = pass.apart;
        in_order = prefix_self next;
        idle = λ h. refl;
        holding = λ h. absurd (let e : false ≡ true = h in cc);
      }

all_left : {A : Type 0} (P : A → Type 0) (xs ys : List A) → All P (xs ++ ys) → All P xs
all_left P xs ys all k d h = subst P (get_or-append xs ys d k h) (all k d (omega (arith, length-append xs ys)))

all_right : {A : Type 0} (P : A → Type 0) (xs ys : List A) → All P (xs ++ ys) → All P ys
all_right P xs ys all k d h = subst P (get_or-append-add xs ys k d) (all (length xs + k) d (omega (arith, length-append xs ys)))

module _ {N E : Type 0} where
  -- a pass as contracts see it, by the view of its seat
  abbrev pub seen_as : TurnId N → ℕ → View N E → PassState N E
  seen_as turn number v = record { turn = turn; number = number; seen = v.seen; latest = v.latest; own = v.own; joined = v.joined; told = v.told; holds = v.holds }

  -- what is known of a history to two passes together, was known to each
  pub first_known : (v w : View N E) (history : List (ℕ × E)) → IsKnownTo (joining v w) history → IsPrefix v.seen v.latest → IsKnownTo v history
  first_known v w history known in_order = record {
    seen = prefix_trans v.seen v.latest history in_order known.seen;
    latest = known.seen;
    own = known.own;
    joined = all_left (λ (j : ℕ × List E). entries_by j.0 history ≡ j.1) v.joined ((w.number, w.own) ∷ w.joined) known.joined;
  }

  pub second_known : (v w : View N E) (history : List (ℕ × E)) → IsKnownTo (joining v w) history → IsPrefix w.seen w.latest → IsKnownTo w history
  second_known v w history known in_order =
      let J : ℕ × List E → Type 0 = λ j. entries_by j.0 history ≡ j.1 in
      let theirs : All J ((w.number, w.own) ∷ w.joined) = all_right J v.joined ((w.number, w.own) ∷ w.joined) known.joined in
      record {
        seen = prefix_trans w.seen w.latest history in_order known.latest;
        latest = known.latest;
        own = All-head J (w.number, w.own) w.joined theirs;
        joined = All-tail J (w.number, w.own) w.joined theirs;
      }
