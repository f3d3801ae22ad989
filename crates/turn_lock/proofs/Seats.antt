-- Seats that are made and joined, and the table at its beginning and its end.
use Rattle.std.proofs.Common.{◌≡◌, ◌≢◌, ℕ, zero, suc, ◌≤◌, ◌<◌, ◌⊎◌, inl, inr, ⊎_elim, true, false, List, [], ◌∷◌, ◌++◌, length, set, slice_index, Option, Some, None, refl, ap, sym, subst, ◌∙◌, arith, length-append}
use Rattle.std.specs.Prelude.{All, Contains}
use Rattle.std.proofs.lemmas.List.{append-nil, length-set, append_cancel_left}
use Rattle.std.proofs.lemmas.List.Elements.{All-cons, All-append}
use mathlib.Core.Option.{some, none, some-injective, some-ne-none}
use mathlib.Core.Option as maybe
use mathlib.Core.Logic.{dite}
use native.Mathlib.Decide.{dec_lt}
use lib.ListN.{get_elem?}
use Rattle.atomic_table.specs.Table.{State, Me, Splits, Joins, opening, Seen}
use Rattle.atomic_table.proofs.Lists.{set_here, set_else, at_longer}
use Rattle.turn_lock.specs.declared.view.View.{View}
use Rattle.turn_lock.specs.History.{entries_by, IsKnown}
use Rattle.turn_lock.specs.Inside.Rule.{IsSpent, Knows, IsFree, IsTaken, Keeps, first_view, spent_view, making, made_by, joining}
use Rattle.turn_lock.specs.Inside.Passes.{IsPass}
use Rattle.turn_lock.specs.Turns.{HasAll, TurnId}
use Rattle.turn_lock.proofs.Histories.{reached_self, prefix_self, by_none, by_append, by_below}
use Rattle.turn_lock.proofs.Passes.{seen_as}
use Rattle.turn_lock.proofs.Views.{there_within, at_same, spent_else, spent_set, each_view, knows_on}

append_none : {A : Type 0} (xs ys : List A) → xs ++ ys ≡ [] → ys ≡ []
append_none [] ys e = e
append_none (x ∷ xs) ys e = absurd cc

-- the one element of a list
alone_first : {A : Type 0} (a : A) (P : ℕ → A → Type 0) → P 0 a → (j : ℕ) (b : A) → get_elem? (a ∷ []) j ≡ some b → P j b
alone_first a P here zero b e = subst (λ x. P 0 x) (some-injective a b e) here
alone_first a P here (suc j) b e = absurd (some-ne-none b (sym e))

-- an element of a list with one more: an old one, or the last
snoc_cases : {A : Type 0} (l : List A) (a b : A) (j : ℕ) → get_elem? (l ++ a ∷ []) j ≡ some b → (get_elem? l j ≡ some b) ⊎ ((j ≡ length l) × (a ≡ b))
snoc_cases [] a b zero e = inr (refl, some-injective a b e)
snoc_cases [] a b (suc j) e = absurd (some-ne-none b (sym e))
snoc_cases (x ∷ xs) a b zero e = inl e
snoc_cases (x ∷ xs) a b (suc j) e = ⊎_elim (λ h. inl h) (λ t. inr (let f = t.0 in omega arith, t.1)) (snoc_cases xs a b j e)

module _ {T N E : Type 0} {entries : T → List (ℕ × E)} {name_of : T → N} {fronts : List (ℕ × E) → ℕ → ℕ} {width : ℕ} {name : N} {passes : ℕ} where
  -- the first pass makes another, whose number is the place of its seat
  pub makes : (v : View N E) → v.name ≡ Some name → 0 < v.made → v.made < passes → v.holds ≡ false
      → Splits (Keeps entries name_of fronts width name passes) 0 v (making v) (made_by v)
  makes v live some_made more free s rule at =
      let history = rule.history in
      let knows = rule.known 0 v at name live in
      let count : v.made ≡ length s.views = (knows.makes some_made).1 in
      let left : View N E = making v in
      let right : View N E = made_by v in
      let mid : List (View N E) = set s.views 0 left in
      let views : List (View N E) = mid ++ right ∷ [] in
      let wide : length views ≡ suc (length s.views) = omega (arith, length-append mid (right ∷ []), length-set s.views 0 left) in
      let spent : (n : ℕ) → IsSpent s.views n → IsSpent views n =
      λ n p. let q = spent_set s.views 0 n v left name at live p in (q.0, at_longer mid (right ∷ []) n q.0 q.1, q.2) in
      let moved : (j : ℕ) (u : View N E) → Knows fronts width name s.words s.views history rule.holder j u → (0 < u.made → (j ≡ 0) × (u.made ≡ length views)) → Knows fronts width name s.words views history rule.holder j u =
      λ j u k m. knows_on fronts width name s.words s.words s.views views history history rule.holder rule.holder j u k
      (λ i h. omega arith) (λ l r. r) refl (λ n p. (refl, spent n p)) k.holds m in
      let old = moved 0 (record v { made = 0 }) (record {
        named = knows.named;
        number = knows.number;
        seen = knows.seen;
        latest = knows.latest;
        own = knows.own;
        joined = knows.joined;
        told = knows.told;
        holds = λ h. absurd (let e : false ≡ true = sym free ∙ h in cc);
        makes = λ m. absurd (omega arith);
      }) (λ m. absurd (omega arith)) in
      let first : Knows fronts width name s.words views history rule.holder 0 left = record {
        named = old.named;
        number = old.number;
        seen = old.seen;
        latest = old.latest;
        own = old.own;
        joined = old.joined;
        told = old.told;
        holds = λ h. absurd (let e : false ≡ true = sym free ∙ h in cc);
        makes = λ m. (refl, omega arith);
      } in
      let new : Knows fronts width name s.words views history rule.holder (length s.views) right = record {
        named = live;
        number = count;
        seen = knows.seen;
        latest = knows.latest;
        own = rule.unmade (length s.views) (omega arith);
        joined = λ k d h. absurd (omega arith);
        told = λ k d h. absurd (omega arith);
        holds = λ h. absurd cc;
        makes = λ m. absurd (omega arith);
      } in
      let P : ℕ → View N E → Type 0 = λ j u. (m : N) → u.name ≡ Some m → Knows fronts width name s.words views history rule.holder j u in
      let all : (j : ℕ) (u : View N E) → get_elem? mid j ≡ some u → P j u = each_view s.views 0 left P (λ m named. first) (λ j u ne there m named.
      let k = rule.known j u there m named in moved j u k (λ h. absurd (ne (k.makes h).0))) in
      let taken : IsTaken name s.words s.homes s.views history rule.holder → IsTaken name s.words s.homes views history rule.holder =
      λ t. record {
        odd = t.odd;
        out = t.out;
        view = t.view;
        there = at_longer mid (right ∷ []) rule.holder t.view (set_else s.views 0 rule.holder left (λ e.
            let is : v ≡ t.view = at_same s.views 0 v t.view at (subst (λ i. get_elem? s.views i ≡ some t.view) e t.there) in
            let no : false ≡ true = sym free ∙ (ap (λ (u : View N E). u.holds) is ∙ t.holds) in cc) ∙ t.there);
        live = t.live;
        holds = t.holds;
      } in
      record {
        history = history;
        next = rule.next;
        holder = rule.holder;
        sized = rule.sized;
        place = ⊎_elim (λ f. inl f) (λ t. inr (taken t)) rule.place;
        follows = rule.follows;
        grows = rule.grows;
        fronts_at = rule.fronts_at;
        seats = omega arith;
        unmade = λ n h. let u = rule.unmade n in u (omega arith);
        known = λ j u there m named. ⊎_elim
            (λ h. all j u h m named)
            (λ t. let e : j ≡ length s.views = t.0 ∙ length-set s.views 0 left in
            subst (λ i. Knows fronts width name s.words views history rule.holder i u) (sym e) (subst (λ (x : View N E). Knows fronts width name s.words views history rule.holder (length s.views) x) t.1 new))
            (snoc_cases mid right u j there);
      }

  -- a pass takes in another
  pub joins : (seat other : ℕ) (v w : View N E) → v.name ≡ Some name → w.name ≡ Some name → v.holds ≡ false → w.holds ≡ false
      → Joins (Keeps entries name_of fronts width name passes) seat v other w (joining v w) spent_view
  joins seat other v w live live' free free' s rule at ne at_other =
      let history = rule.history in
      let both : View N E = joining v w in
      let mid : List (View N E) = set s.views seat both in
      let views : List (View N E) = set mid other spent_view in
      let there' : get_elem? s.views other ≡ some w = sym (set_else s.views seat other both ne) ∙ at_other in
      let wide : length views ≡ length s.views = length-set mid other spent_view ∙ length-set s.views seat both in
      let knows = rule.known seat v at name live in
      let knows' = rule.known other w there' name live' in
      let spent : (n : ℕ) → IsSpent s.views n → IsSpent views n =
      λ n p. spent_set mid other n w spent_view name at_other live' (spent_set s.views seat n v both name at live p) in
      let gone : IsSpent views other = (spent_view, set_here mid other spent_view (there_within mid other w at_other), refl) in
      let moved : (j : ℕ) (u : View N E) → Knows fronts width name s.words s.views history rule.holder j u → Knows fronts width name s.words views history rule.holder j u =
      λ j u k. knows_on fronts width name s.words s.words s.views views history history rule.holder rule.holder j u k
      (λ i h. omega arith) (λ l r. r) refl (λ n p. (refl, spent n p)) k.holds (λ m. ((k.makes m).0, (k.makes m).1 ∙ sym wide)) in
      let a = moved seat v knows in
      let b = moved other w knows' in
      let J : ℕ × List E → Type 0 = λ p. (entries_by p.0 history ≡ p.1) × IsSpent views p.0 in
      let their_own : J (w.number, w.own) = (ap (λ n. entries_by n history) knows'.number ∙ knows'.own, subst (λ n. IsSpent views n) (sym knows'.number) gone) in
      let me : Knows fronts width name s.words views history rule.holder seat both = record {
        named = live;
        number = a.number;
        seen = a.latest;
        latest = b.latest;
        own = a.own;
        joined = All-append J v.joined ((w.number, w.own) ∷ w.joined) a.joined (All-cons J (w.number, w.own) w.joined their_own b.joined);
        told = All-append (λ (p : ℕ × ℕ). (p.0 < width) × (p.1 ≤ slice_index s.words (suc p.0))) v.told w.told a.told b.told;
        holds = λ h. absurd (let e : false ≡ true = sym free ∙ h in cc);
        makes = a.makes;
      } in
      let P : ℕ → View N E → Type 0 = λ j u. (m : N) → u.name ≡ Some m → Knows fronts width name s.words views history rule.holder j u in
      let none_there : P other spent_view = λ m e. absurd (let no : None ≡ Some m = e in cc) in
      let taken : IsTaken name s.words s.homes s.views history rule.holder → IsTaken name s.words s.homes views history rule.holder =
      λ t.
      let apart : (i : ℕ) (x : View N E) → get_elem? s.views i ≡ some x → x.holds ≡ false → rule.holder ≢ i =
      λ i x here idle e.
      let is : x ≡ t.view = at_same s.views i x t.view here (subst (λ k. get_elem? s.views k ≡ some t.view) e t.there) in
      let no : false ≡ true = sym idle ∙ (ap (λ (u : View N E). u.holds) is ∙ t.holds) in cc in
      record {
        odd = t.odd;
        out = t.out;
        view = t.view;
        there = set_else mid other rule.holder spent_view (apart other w there' free') ∙ (set_else s.views seat rule.holder both (apart seat v at free) ∙ t.there);
        live = t.live;
        holds = t.holds;
      } in
      record {
        history = history;
        next = rule.next;
        holder = rule.holder;
        sized = rule.sized;
        place = ⊎_elim (λ f. inl f) (λ t. inr (taken t)) rule.place;
        follows = rule.follows;
        grows = rule.grows;
        fronts_at = rule.fronts_at;
        seats = let q = rule.seats in omega arith;
        unmade = λ n h. let u = rule.unmade n in u (omega arith);
        known = each_view mid other spent_view P none_there (λ j u ne_other there.
            each_view s.views seat both P (λ m named. me) (λ i x ne_seat here m named. moved i x (rule.known i x here m named)) j u there);
      }

  pub makes_at : (seat : ℕ) (v : View N E) → seat ≡ 0 → v.name ≡ Some name → 0 < v.made → v.made < passes → v.holds ≡ false
      → Splits (Keeps entries name_of fronts width name passes) seat v (making v) (made_by v)
  makes_at seat v first live some_made more free = subst (λ k. Splits (Keeps entries name_of fronts width name passes) k v (making v) (made_by v)) (sym first) (makes v live some_made more free)

  -- the table at its beginning
  pub opens : (words : List ℕ) (x : T) → 0 < passes → entries x ≡ [] → name_of x ≡ name → length words ≡ suc width → slice_index words 0 ≡ 0
      → ((i : ℕ) → i < width → slice_index words (suc i) ≡ fronts [] i)
      → Keeps entries name_of fronts width name passes (opening words (Some x ∷ []) (first_view name))
  opens words x some_pass empty named sized count at =
      let first : View N E = first_view name in
      let none = reached_self fronts width [] in
      let here : Knows fronts width name words (first ∷ []) [] 0 0 first = record {
        named = refl;
        number = refl;
        seen = none;
        latest = none;
        own = refl;
        joined = λ k d h. absurd (omega arith);
        told = λ k d h. absurd (omega arith);
        holds = λ h. absurd cc;
        makes = λ m. (refl, refl);
      } in
      record {
        history = [];
        next = [];
        holder = 0;
        sized = sized;
        place = inl (record { even = count; same = refl; state = x; home = refl; told = empty; named = named });
        follows = inl refl;
        grows = λ i h. omega arith;
        fronts_at = λ i h. inl (at i h);
        seats = some_pass;
        unmade = λ n h. refl;
        known = λ j u there m name_is. alone_first first (λ i v. Knows fronts width name words (first ∷ []) [] 0 i v) here j u there;
      }

-- what the rest of a history has of a number whose entries were all seen
rest_has_none : {E : Type 0} (n : ℕ) (seen rest history : List (ℕ × E)) (own : List E) → seen ++ rest ≡ history → entries_by n history ≡ own → entries_by n seen ≡ own → entries_by n rest ≡ []
rest_has_none {E} n seen rest history own whole all some_of =
    append_cancel_left (entries_by n seen) (entries_by n rest) []
    (sym (by_append n seen rest) ∙ (ap (λ (l : List (ℕ × E)). entries_by n l) whole ∙ (all ∙ (sym some_of ∙ sym (append-nil (entries_by n seen))))))

-- The table at its end, as the pass that all others were joined into knows it
pub record Ends {T N E : Type 0} (entries : T → List (ℕ × E)) (name_of : T → N) (fronts : List (ℕ × E) → ℕ → ℕ) (name : N) (passes number : ℕ) (v : View N E) (homes : List (maybe.Option (Option T))) : Type 0 where
  pub state : T
  pub home : get_elem? homes 0 ≡ some (some (Some state))
  pub named : name_of state ≡ name
  pub whole : entries state ≡ v.seen
  pub fronts_told : All (λ (p : ℕ × ℕ). p.1 ≤ fronts v.seen p.0) v.told
  pub known : IsKnown number v.seen v.latest v.own v.joined v.seen
  pub only : All (λ (e : ℕ × E). e.0 < passes) v.seen

module _ {T N E : Type 0} (entries : T → List (ℕ × E)) (name_of : T → N) {fronts : List (ℕ × E) → ℕ → ℕ} {width : ℕ} {name : N} {passes : ℕ} where
  ends : (s : State (Option T) (View N E)) (rule : Keeps entries name_of fronts width name passes s) (seat number count : ℕ) (me : Me (Option T) (View N E)) → get_elem? s.views seat ≡ some me.0
      → IsPass name number count me → me.0.holds ≡ false
      → ((n : ℕ) → 0 ≤ n → n < passes → (n ≡ number) ⊎ ((own : List E) × Contains me.0.joined (n, own)))
      → Ends entries name_of fronts name passes number me.0 s.homes
  ends s rule seat number count me at pass free all =
      let v = me.0 in
      let history = rule.history in
      let knows = rule.known seat v at name pass.named in
      let seat_is : number ≡ seat = sym pass.numbered ∙ knows.number in
      let taken_in : (n : ℕ) (own : List E) → Contains v.joined (n, own) → (entries_by n v.seen ≡ own) × (entries_by n history ≡ own) × IsSpent s.views n =
      λ n own has.
      let A : ℕ × List E → Type 0 = λ j. (entries_by j.0 v.seen ≡ j.1) × (entries_by j.0 history ≡ j.1) × IsSpent s.views j.0 in
      let k = knows.joined has.0 (n, own) has.1 in
      subst A has.2 (pass.joined has.0 (n, own) has.1, k.0, k.1) in
      let not_taken : IsTaken name s.words s.homes s.views history rule.holder → ⊥ =
      λ t.
      let wide = rule.seats in
      let inside = there_within s.views rule.holder t.view t.there in
      ⊎_elim
      (λ e.
      let there : get_elem? s.views seat ≡ some t.view = subst (λ i. get_elem? s.views i ≡ some t.view) (e ∙ seat_is) t.there in
      let is : v ≡ t.view = at_same s.views seat v t.view at there in
      let no : false ≡ true = sym free ∙ (ap (λ (u : View N E). u.holds) is ∙ t.holds) in cc)
      (λ p. spent_else s.views rule.holder rule.holder t.view name t.there t.live (taken_in rule.holder p.0 p.1).2 refl)
      (all rule.holder (omega arith) (omega arith)) in
      let rest = knows.seen.begins.0 in
      let whole : v.seen ++ rest ≡ history = knows.seen.begins.1 in
      let none_left : (n : ℕ) → entries_by n rest ≡ [] =
      λ n. dite (dec_lt n passes)
      (λ less. ⊎_elim
      (λ e. rest_has_none n v.seen rest history v.own whole
      (subst (λ i. entries_by i history ≡ v.own) (sym (e ∙ seat_is)) knows.own)
      (subst (λ i. entries_by i v.seen ≡ v.own) (sym e) pass.own))
      (λ p. let t = taken_in n p.0 p.1 in rest_has_none n v.seen rest history p.0 whole t.1 t.0)
      (all n (omega arith) less))
      (λ more. append_none (entries_by n v.seen) (entries_by n rest)
      (sym (by_append n v.seen rest) ∙ (ap (λ (l : List (ℕ × E)). entries_by n l) whole ∙ (let wide = rule.seats in rule.unmade n (omega arith))))) in
      let same : history ≡ v.seen = sym whole ∙ (ap (λ l. v.seen ++ l) (by_none rest none_left) ∙ append-nil v.seen) in
      let free_now : IsFree entries name_of name s.words s.homes history rule.next = ⊎_elim (λ f. f) (λ t. absurd (not_taken t)) rule.place in
      let word_is : (i : ℕ) → i < width → slice_index s.words (suc i) ≡ fronts v.seen i =
      λ i h. ⊎_elim (λ e. e) (λ e. e ∙ ap (λ l. fronts l i) free_now.same) (rule.fronts_at i h) ∙ ap (λ l. fronts l i) same in
      record {
        state = free_now.state;
        home = ap (λ l. get_elem? l 0) free_now.home;
        named = free_now.named;
        whole = free_now.told ∙ same;
        fronts_told = λ k d h. let t = knows.told k d h in let e = word_is _ t.0 in omega arith;
        known = record {
          seen = prefix_self v.seen;
          latest = (knows.latest.begins.0, knows.latest.begins.1 ∙ same);
          own = pass.own;
          joined = pass.joined;
        };
        only = by_below passes v.seen (λ n le. ap (λ (l : List (ℕ × E)). entries_by n l) (sym same) ∙ (let wide = rule.seats in rule.unmade n (omega arith)));
      }

-- the same by the words of the code
pub closes : {T N E : Type 0} (entries : T → List (ℕ × E)) (name_of : T → N) (front_of : N → List (ℕ × E) → ℕ → ℕ) (width_of : N → ℕ) (mine turn : TurnId N) → mine ≡ turn
    → (s : State (Option T) (View N E)) (seat number count : ℕ) (me : Me (Option T) (View N E)) → Seen (Keeps entries name_of (front_of turn.name) (width_of turn.name) turn.name turn.passes) seat me.0 s
    → IsPass mine.name number count me → me.0.holds ≡ false → HasAll (seen_as mine number me.0) → Ends entries name_of (front_of turn.name) turn.name turn.passes number me.0 s.homes
closes {T} {N} {E} entries name_of front_of width_of mine turn same s seat number count me standing pass free all =
    ends entries name_of s standing.0 seat number count me standing.1
    (subst (λ (t : TurnId N). IsPass t.name number count me) same pass) free
    (subst (λ (t : TurnId N). HasAll (seen_as t number me.0)) same all)

-- what was taken out of the slot is the state
pub taken_out : {T N E : Type 0} (entries : T → List (ℕ × E)) (name_of : T → N) (fronts : List (ℕ × E) → ℕ → ℕ) (name : N) (passes number : ℕ) (v : View N E) (homes : List (maybe.Option (Option T))) (items : List (Option T)) (result : Option T) (e : Ends entries name_of fronts name passes number v homes)
    → ((k : ℕ) (y : Option T) → get_elem? homes k ≡ some (some y) → get_elem? items k ≡ some y) → get_elem? items 0 ≡ some result → result ≡ Some e.state
taken_out entries name_of fronts name passes number v homes items result e given taken = some-injective result (Some e.state) (sym taken ∙ given 0 (Some e.state) e.home)
