-- Loads: whatever the history is, the pass may learn it, and the rule stays.
use Rattle.std.proofs.Common.{◌≡◌, ◌≢◌, ℕ, suc, ◌*◌, ◌/◌, ◌≤◌, ◌<◌, ◌⊎◌, inl, inr, ⊎_elim, List, [], ◌∷◌, ◌++◌, length, set, get_or, slice_index, Option, Some, refl, ap, sym, subst, ◌∙◌, arith}
use Rattle.std.proofs.lemmas.List.{length-set, set-get_or}
use Rattle.std.proofs.lemmas.List.Elements.{All-cons}
use mathlib.Core.Option.{some, none}
use mathlib.Core.Logic.{dite}
use native.Mathlib.Decide.{ℕ_discrete}
use lib.ListN.{get_elem?}
use Rattle.atomic_table.specs.Table.{State, Me, Allows, keeps, step}
use Rattle.atomic_table.proofs.Lists.{set_here, set_else}
use Rattle.turn_lock.specs.declared.view.View.{View}
use Rattle.turn_lock.specs.History.{entries_by, IsNext}
use Rattle.turn_lock.specs.Inside.Rule.{Knows, IsTaken, Keeps}
use Rattle.turn_lock.specs.Inside.Steps.{IsKnownTo, Counts, Sees, Reads, looking, having_seen, telling}
use Rattle.turn_lock.proofs.Histories.{reached_self}
use Rattle.turn_lock.proofs.Views.{there_within, at_same, spent_else, spent_set, each_view, knows_on}

-- the number of entries is half of word 0
pub half_even : (w n : ℕ) → w ≡ 2 * n → w / 2 ≡ n
half_even w n e = omega arith

pub half_odd : (w n : ℕ) → w ≡ suc (2 * n) → w / 2 ≡ n
half_odd w n e = omega arith

module _ {T N E : Type 0} {entries : T → List (ℕ × E)} {name_of : T → N} {fronts : List (ℕ × E) → ℕ → ℕ} {width : ℕ} {name : N} {passes : ℕ} where
  pub counted : (s : State (Option T) (View N E)) (rule : Keeps entries name_of fronts width name passes s) → slice_index s.words 0 / 2 ≡ length rule.history
  counted s rule = ⊎_elim (λ f. half_even _ _ f.even) (λ t. half_odd _ _ t.odd) rule.place

  pub known_to : (s : State (Option T) (View N E)) (rule : Keeps entries name_of fronts width name passes s) (seat : ℕ) (v : View N E) → Knows fronts width name s.words s.views rule.history rule.holder seat v → IsKnownTo v rule.history
  known_to s rule seat v knows = record {
    seen = knows.seen.begins;
    latest = knows.latest.begins;
    own = subst (λ (n : ℕ). entries_by n rule.history ≡ v.own) (sym knows.number) knows.own;
    joined = λ k d h. (knows.joined k d h).0;
  }

  -- one view changes, and what it then knows is true: the rule stays
  pub another_view : (s : State (Option T) (View N E)) (rule : Keeps entries name_of fronts width name passes s) (seat : ℕ) (v w : View N E)
      → get_elem? s.views seat ≡ some v → v.name ≡ Some name → w.name ≡ v.name → w.holds ≡ v.holds
      → Knows fronts width name s.words (set s.views seat w) rule.history rule.holder seat w
      → (words : List ℕ) → words ≡ s.words
      → Keeps entries name_of fronts width name passes (record { words = words; homes = s.homes; views = set s.views seat w })
  another_view s rule seat v w at live same_name same_hold knows words same =
      let wide : length (set s.views seat w) ≡ length s.views = length-set s.views seat w in
      let taken : IsTaken name s.words s.homes s.views rule.history rule.holder → IsTaken name s.words s.homes (set s.views seat w) rule.history rule.holder =
      λ t. dite (ℕ_discrete rule.holder seat)
      (λ e. record {
        odd = t.odd;
        out = t.out;
        view = w;
        there = subst (λ (i : ℕ). get_elem? (set s.views seat w) i ≡ some w) (sym e) (set_here s.views seat w (there_within s.views seat v at));
        live = same_name ∙ live;
        holds = same_hold ∙ (ap (λ (u : View N E). u.holds) (at_same s.views seat v t.view at (subst (λ (i : ℕ). get_elem? s.views i ≡ some t.view) e t.there)) ∙ t.holds);
      })
      (λ ne. record { odd = t.odd; out = t.out; view = t.view; there = set_else s.views seat rule.holder w ne ∙ t.there; live = t.live; holds = t.holds }) in
      let P : ℕ → View N E → Type 0 = λ j u. (m : N) → u.name ≡ Some m → Knows fronts width name s.words (set s.views seat w) rule.history rule.holder j u in
      let others : (j : ℕ) (u : View N E) → j ≢ seat → get_elem? s.views j ≡ some u → P j u =
      λ j u ne there m named.
      let old = rule.known j u there m named in
      knows_on fronts width name s.words s.words s.views (set s.views seat w) rule.history rule.history rule.holder rule.holder j u old
      (λ i h. omega arith) (λ l r. r) refl (λ n p. (refl, spent_set s.views seat n v w name at live p)) old.holds
      (λ h. ((old.makes h).0, (old.makes h).1 ∙ sym wide)) in
      let R : List ℕ → Type 0 = λ ws. Keeps entries name_of fronts width name passes (record { words = ws; homes = s.homes; views = set s.views seat w }) in
      subst R (sym same) record {
        history = rule.history;
        next = rule.next;
        holder = rule.holder;
        sized = rule.sized;
        place = ⊎_elim (λ f. inl f) (λ t. inr (taken t)) rule.place;
        follows = rule.follows;
        grows = rule.grows;
        fronts_at = rule.fronts_at;
        seats = let a = rule.seats in omega arith;
        unmade = λ n h. let u = rule.unmade n in u (omega arith);
        known = each_view s.views seat w P (λ m named. knows) others;
      }

  -- what the view at a seat knows, beside any new view there
  pub knows_beside : (s : State (Option T) (View N E)) (rule : Keeps entries name_of fronts width name passes s) (seat : ℕ) (v w : View N E) → get_elem? s.views seat ≡ some v → v.name ≡ Some name
      → Knows fronts width name s.words (set s.views seat w) rule.history rule.holder seat v
  knows_beside s rule seat v w at live =
      let old = rule.known seat v at name live in
      knows_on fronts width name s.words s.words s.views (set s.views seat w) rule.history rule.history rule.holder rule.holder seat v old
      (λ i h. omega arith) (λ l r. r) refl (λ n p. (refl, spent_set s.views seat n v w name at live p)) old.holds
      (λ h. ((old.makes h).0, (old.makes h).1 ∙ sym (length-set s.views seat w)))

  pub looks : (s : State (Option T) (View N E)) (rule : Keeps entries name_of fronts width name passes s) (seat : ℕ) (v : View N E) → get_elem? s.views seat ≡ some v → v.name ≡ Some name
      → (words : List ℕ) → words ≡ s.words
      → Keeps entries name_of fronts width name passes (record { words = words; homes = s.homes; views = set s.views seat (looking v rule.history) })
  looks s rule seat v at live words same =
      let w : View N E = looking v rule.history in
      let old = knows_beside s rule seat v w at live in
      another_view s rule seat v w at live refl refl (record {
        named = old.named;
        number = old.number;
        seen = old.seen;
        latest = reached_self fronts width rule.history;
        own = old.own;
        joined = old.joined;
        told = old.told;
        holds = λ h. record { is = (old.holds h).is; odd = (old.holds h).odd; whole = (old.holds h).whole; stored = (old.holds h).stored };
        makes = old.makes;
      }) words same

  pub counts : (slots seat : ℕ) (before : Me (Option T) (View N E)) → before.0.name ≡ Some name → Allows (Keeps entries name_of fronts width name passes) slots seat before 0 (λ n. n) (Counts (step slots 0 0 0 none) before)
  counts slots seat before live s rule deep at word =
      let v = before.0 in (
        looking v rule.history,
        keeps,
        tt,
        looks s rule seat v at live _ (set-get_or s.words 0 0),
        record { history = rule.history; known = known_to s rule seat v (rule.known seat v at name live); count = counted s rule; after_is = refl },
      )

  pub sees : (slots seat : ℕ) (before : Me (Option T) (View N E)) → before.0.name ≡ Some name → Allows (Keeps entries name_of fronts width name passes) slots seat before 0 (λ n. n) (Sees (step slots 0 0 0 none) before)
  sees slots seat before live s rule deep at word =
      let v = before.0 in
      let w : View N E = having_seen v rule.history in
      let old = knows_beside s rule seat v w at live in
      let all = reached_self fronts width rule.history in
      let kept = another_view s rule seat v w at live refl refl (record {
        named = old.named;
        number = old.number;
        seen = all;
        latest = all;
        own = old.own;
        joined = old.joined;
        told = old.told;
        holds = λ h. record { is = (old.holds h).is; odd = (old.holds h).odd; whole = refl; stored = (old.holds h).stored };
        makes = old.makes;
      }) _ (set-get_or s.words 0 0) in (
        w,
        keeps,
        tt,
        kept,
        record {
          history = rule.history;
          known = known_to s rule seat v (rule.known seat v at name live);
          apart = λ k d h e. let knows = rule.known seat v at name live in spent_else s.views seat _ v name at live (knows.joined k d h).1 (e ∙ knows.number);
          count = counted s rule;
          after_is = refl;
        },
      )

exact_at : {N E : Type 0} (front_of : N → List (ℕ × E) → ℕ → ℕ) (name : N) (holder i : ℕ) (history next : List (ℕ × E)) (n : ℕ) → IsNext holder history next → (n ≡ front_of name history i) ⊎ (n ≡ front_of name next i)
    → (n ≡ front_of name history i) ⊎ ((e : ℕ × E) × (n ≡ front_of name (history ++ e ∷ []) i))
exact_at front_of name holder i history next n follows found =
    ⊎_elim (λ h. inl h)
    (λ x. ⊎_elim
    (λ same. inl (x ∙ ap (λ l. front_of name l i) same))
    (λ more. inr ((holder, more.0), x ∙ ap (λ l. front_of name l i) more.1))
    follows)
    found

-- a front word, found while the rule holds
module _ {T N E : Type 0} {entries : T → List (ℕ × E)} {name_of : T → N} (front_of : N → List (ℕ × E) → ℕ → ℕ) {width : ℕ} {name : N} {passes : ℕ} where
  pub reads : (slots seat i : ℕ) (before : Me (Option T) (View N E)) → before.0.name ≡ Some name → i < width
      → Allows (Keeps entries name_of (front_of name) width name passes) slots seat before (suc i) (λ n. n) (Reads front_of (step slots (suc i) 0 0 none) before)
  reads slots seat i before live within s rule deep at word =
      let v = before.0 in
      let found = slice_index s.words (suc i) in
      let w : View N E = telling v rule.history i found in
      let knows = rule.known seat v at name live in
      let old = knows_beside s rule seat v w at live in
      let least : front_of name rule.history i ≤ found = ⊎_elim (λ e. omega arith) (λ e. let g = rule.grows i within in omega arith) (rule.fronts_at i within) in
      let kept = another_view s rule seat v w at live refl refl (record {
        named = old.named;
        number = old.number;
        seen = old.seen;
        latest = reached_self (front_of name) width rule.history;
        own = old.own;
        joined = old.joined;
        told = All-cons (λ (p : ℕ × ℕ). (p.0 < width) × (p.1 ≤ slice_index s.words (suc p.0))) (i, found) v.told (within, omega arith) old.told;
        holds = λ h. record { is = (old.holds h).is; odd = (old.holds h).odd; whole = (old.holds h).whole; stored = (old.holds h).stored };
        makes = old.makes;
      }) _ (set-get_or s.words (suc i) 0) in (
        w,
        keeps,
        tt,
        kept,
        record {
          name = name;
          named = live;
          index = i;
          word = refl;
          history = rule.history;
          known = known_to s rule seat v knows;
          exact = exact_at front_of name rule.holder i rule.history rule.next found rule.follows (rule.fronts_at i within);
          after_seen = let b = knows.seen.below i within in omega arith;
          after_latest = let b = knows.latest.below i within in omega arith;
          after_told = λ k d h e. let t = knows.told k d h in subst (λ (j : ℕ). (get_or v.told k d).1 ≤ slice_index s.words (suc j)) e t.1;
          after_is = refl;
        },
      )

  -- the same, at the word that the code computes
  pub reads_at : (slots seat i word : ℕ) (before : Me (Option T) (View N E)) → word ≡ suc i → before.0.name ≡ Some name → i < width
      → Allows (Keeps entries name_of (front_of name) width name passes) slots seat before word (λ n. n) (Reads front_of (step slots word 0 0 none) before)
  reads_at slots seat i word before is live within =
      let A : ℕ → Type 0 = λ k. Allows (Keeps entries name_of (front_of name) width name passes) slots seat before k (λ n. n) (Reads front_of (step slots k 0 0 none) before) in
      subst A (sym is) (reads slots seat i before live within)
