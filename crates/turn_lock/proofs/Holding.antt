-- The steps of a held turn: taking it, storing fronts, ending it.
use Rattle.std.proofs.Common.{◌≡◌, ◌≢◌, ℕ, suc, ◌+◌, ◌*◌, ◌%◌, ◌≤◌, ◌<◌, ◌==◌, ◌⊎◌, inl, inr, ⊎_elim, Bool, true, false, List, [], ◌∷◌, ◌++◌, length, set, slice_index, get_or, Option, Some, MatchBool, refl, ap, sym, subst, ◌∙◌, arith, eq-eqb, ne_eqb, length-append}
use Rattle.std.proofs.lemmas.Bool.{cases_Bool}
use Rattle.std.proofs.lemmas.List.{append-nil, get_or_past, length-set, set-get_or, get_or-set_same, get_or-set_other}
use Rattle.std.proofs.Math.ListN.{get_or-append}
use Rattle.std.proofs.Math.Seq.{get_or-append_seam}
use Rattle.std.specs.Option.{unwrap_or}
use mathlib.Core.Option.{some, none}
use mathlib.Core.List.{IsPrefix}
use mathlib.Core.Logic.{dite}
use native.Mathlib.Decide.{ℕ_discrete, dec_lt}
use prog.Atomic.{either}
use lib.ListN.{get_elem?}
use Rattle.atomic_table.specs.Table.{State, Me, Allows, Act, keeps, takes, gives, step, stepped, Valid, carried_after}
use Rattle.atomic_table.proofs.Lists.{set_here}
use Rattle.turn_lock.specs.declared.view.View.{View}
use Rattle.turn_lock.specs.History.{entries_by, IsNext}
use Rattle.turn_lock.specs.Inside.Rule.{IsReached, IsSpent, IsHolder, Knows, IsFree, IsTaken, Keeps}
use Rattle.turn_lock.specs.Inside.Steps.{IsKnownTo, Holds, Acquires, Stores, Releases, IsPrepared, holding, storing, having_stored, released}
use Rattle.turn_lock.proofs.Histories.{prefix_trans, reached_self, by_snoc_other}
use Rattle.turn_lock.proofs.Views.{there_within, spent_else, spent_set, each_view, knows_on, knows_free, letting_go}
use Rattle.turn_lock.proofs.Looking.{known_to, another_view, knows_beside}

-- word 0 changes, and the front words stay
pub front_word : (words : List ℕ) (n i : ℕ) → slice_index (set words 0 n) (suc i) ≡ slice_index words (suc i)
front_word words n i = get_or-set_other words 0 (suc i) n 0 (λ e. omega arith)

pub count_word : (words : List ℕ) (n width : ℕ) → length words ≡ suc width → slice_index (set words 0 n) 0 ≡ n
count_word words n width wide = get_or-set_same words 0 n 0 (omega arith)

-- the state in the slot that was taken last
abbrev in_hand : {T : Type 0} → T → List (ℕ × Option T) → T
in_hand d [] = d
in_hand d (c ∷ cs) = unwrap_or c.1 d

longer_past : (xs : List ℕ) (n i d : ℕ) → length xs < i → get_or (xs ++ n ∷ []) i d ≡ d
longer_past xs n i d h = get_or_past (xs ++ n ∷ []) i d (omega (arith, length-append xs (n ∷ [])))

-- one more front is prepared
pub prepared_more : {E : Type 0} (fronts : List (ℕ × E) → ℕ → ℕ) (stored : List ℕ) (next : List (ℕ × E)) (n : ℕ) → IsPrepared fronts stored next → n ≡ fronts next (length stored) → IsPrepared fronts (stored ++ n ∷ []) next
prepared_more fronts stored next n prepared is i d h =
    dite (ℕ_discrete i (length stored))
    (λ e. subst (λ j. get_or (stored ++ n ∷ []) j d ≡ fronts next j) (sym e) (get_or-append_seam stored n [] d ∙ is))
    (λ ne. let l = length-append stored (n ∷ []) in let less : i < length stored = omega arith in get_or-append stored (n ∷ []) d i less ∙ prepared i d less)

-- with the first fronts prepared, each word is a front of the one history or of the other
pub between : {E : Type 0} (fronts : List (ℕ × E) → ℕ → ℕ) (width : ℕ) (words stored : List ℕ) (history next : List (ℕ × E)) → ((i : ℕ) → i < width → slice_index words (suc i) ≡ get_or stored i (fronts history i)) → IsPrepared fronts stored next
    → (i : ℕ) → i < width → (slice_index words (suc i) ≡ fronts history i) ⊎ (slice_index words (suc i) ≡ fronts next i)
between fronts width words stored history next at prepared i h =
    dite (dec_lt i (length stored))
    (λ less. inr (at i h ∙ prepared i (fronts history i) less))
    (λ more. inl (at i h ∙ get_or_past stored i (fronts history i) (omega arith)))

module _ {T N E : Type 0} {entries : T → List (ℕ × E)} {name_of : T → N} {fronts : List (ℕ × E) → ℕ → ℕ} {width : ℕ} {name : N} {passes : ℕ} where
  -- word 0 was even: the turn is free
  pub free_of : (s : State (Option T) (View N E)) (rule : Keeps entries name_of fronts width name passes s) → slice_index s.words 0 % 2 ≡ 0
      → IsFree entries name_of name s.words s.homes rule.history rule.next
  free_of s rule even = ⊎_elim (λ f. f) (λ t. let o = t.odd in absurd (omega arith)) rule.place

  -- another view than the holder's does not hold the turn
  pub alone : (s : State (Option T) (View N E)) (rule : Keeps entries name_of fronts width name passes s) (seat : ℕ) (v : View N E) → IsHolder fronts width s.words rule.history rule.holder seat v
      → (words : List ℕ) (history : List (ℕ × E)) (holder j : ℕ) (u : View N E) → j ≢ seat → Knows fronts width name s.words s.views rule.history rule.holder j u → u.holds ≡ true → IsHolder fronts width words history holder j u
  alone s rule seat v mine words history holder j u ne knows h = absurd (ne ((knows.holds h).is ∙ sym mine.is))

  pub taken_of : (s : State (Option T) (View N E)) (rule : Keeps entries name_of fronts width name passes s) → slice_index s.words 0 ≡ suc (2 * length rule.history) → IsTaken name s.words s.homes s.views rule.history rule.holder
  taken_of s rule odd = ⊎_elim (λ f. let e = f.even in absurd (omega arith)) (λ t. t) rule.place

  pub stores : (slots seat word n : ℕ) (next : List (ℕ × E)) (before : Me (Option T) (View N E)) → before.0.name ≡ Some name → before.0.holds ≡ true
      → word ≡ suc (length before.0.stored) → length before.0.stored < width → IsPrepared fronts before.0.stored next → n ≡ fronts next (length before.0.stored)
      → IsNext before.0.number before.0.seen next → ((i : ℕ) → i < width → fronts before.0.seen i ≤ fronts next i)
      → Allows (Keeps entries name_of fronts width name passes) slots seat before word (λ _. n) (λ _. Stores (step slots word n 0 none) before n)
  stores slots seat word n next before live holds is_word within prepared is_front follows grows s rule deep at bound =
      let v = before.0 in
      let k = length v.stored in
      let history = rule.history in
      let knows = rule.known seat v at name live in
      let mine = knows.holds holds in
      let whole : v.seen ≡ history = mine.whole in
      let grows' : (i : ℕ) → i < width → fronts history i ≤ fronts next i = λ i h. subst (λ l. fronts l i ≤ fronts next i) whole (grows i h) in
      let w : View N E = storing v n in
      let words : List ℕ = set s.words word n in
      let views : List (View N E) = set s.views seat w in
      let wide = rule.sized in
      let here : slice_index words (suc k) ≡ n = subst (λ j. slice_index (set s.words j n) (suc k) ≡ n) (sym is_word) (get_or-set_same s.words (suc k) n 0 (omega arith)) in
      let else_where : (j : ℕ) → j ≢ k → slice_index words (suc j) ≡ slice_index s.words (suc j) =
      λ j ne. get_or-set_other s.words word (suc j) n 0 (λ e. ne (omega arith)) in
      let zeroth : slice_index words 0 ≡ slice_index s.words 0 = get_or-set_other s.words word 0 n 0 (λ e. omega arith) in
      let before_it : slice_index s.words (suc k) ≡ fronts history k = mine.stored k within ∙ get_or_past v.stored k (fronts history k) (omega arith) in
      let rises : (j : ℕ) → j < width → slice_index s.words (suc j) ≤ slice_index words (suc j) =
      λ j h. dite (ℕ_discrete j k)
      (λ e. subst (λ i. slice_index s.words (suc i) ≤ slice_index words (suc i)) (sym e) (let g = grows' k within in omega arith))
      (λ ne. let x = else_where j ne in omega arith) in
      let odd : slice_index words 0 ≡ suc (2 * length history) = zeroth ∙ mine.odd in
      let stored : (j : ℕ) → j < width → slice_index words (suc j) ≡ get_or (v.stored ++ n ∷ []) j (fronts history j) =
      λ j h. dite (ℕ_discrete j k)
      (λ e. subst (λ i. slice_index words (suc i) ≡ get_or (v.stored ++ n ∷ []) i (fronts history i)) (sym e) (here ∙ sym (get_or-append_seam v.stored n [] (fronts history k))))
      (λ ne. else_where j ne ∙ (mine.stored j h ∙ dite (dec_lt j k)
      (λ less. sym (get_or-append v.stored (n ∷ []) (fronts history j) j less))
      (λ more. get_or_past v.stored j (fronts history j) (omega arith) ∙ sym (longer_past v.stored n j (fronts history j) (omega arith))))) in
      let moved : (j : ℕ) (u : View N E) → Knows fronts width name s.words s.views history rule.holder j u → (u.holds ≡ true → IsHolder fronts width words history rule.holder j u) → Knows fronts width name words views history rule.holder j u =
      λ j u k h. knows_on fronts width name s.words words s.views views history history rule.holder rule.holder j u k
      rises (λ l r. r) refl (λ n p. (refl, spent_set s.views seat n v w name at live p)) h
      (λ m. ((k.makes m).0, (k.makes m).1 ∙ sym (length-set s.views seat w))) in
      let still : IsHolder fronts width words history rule.holder seat w = record { is = mine.is; odd = odd; whole = whole; stored = stored } in
      let old = moved seat (letting_go v) (knows_free fronts width name s.words s.views history rule.holder seat v knows) (λ h. absurd cc) in
      let P : ℕ → View N E → Type 0 = λ j u. (m : N) → u.name ≡ Some m → Knows fronts width name words views history rule.holder j u in
      let me : Knows fronts width name words views history rule.holder seat w = record { named = old.named; number = old.number; seen = old.seen; latest = old.latest; own = old.own; joined = old.joined; told = old.told; holds = λ h. still; makes = old.makes } in
      let t = taken_of s rule mine.odd in
      let kept : Keeps entries name_of fronts width name passes (record { words = words; homes = s.homes; views = views }) = record {
        history = history;
        next = next;
        holder = rule.holder;
        sized = length-set s.words word n ∙ rule.sized;
        place = inr (record { odd = odd; out = t.out; view = w; there = subst (λ i. get_elem? views i ≡ some w) mine.is (set_here s.views seat w (there_within s.views seat v at)); live = live; holds = holds });
        follows = subst (λ m. IsNext m history next) (knows.number ∙ mine.is) (subst (λ l. IsNext v.number l next) whole follows);
        grows = grows';
        fronts_at = between fronts width words (v.stored ++ n ∷ []) history next stored (prepared_more fronts v.stored next n prepared is_front);
        seats = let a = rule.seats in let b = length-set s.views seat w in omega arith;
        unmade = λ n h. let u = rule.unmade n in let b = length-set s.views seat w in u (omega arith);
        known = each_view s.views seat w P (λ m named. me) (λ j u ne there m named. let k = rule.known j u there m named in moved j u k (alone s rule seat v mine words history rule.holder j u ne k));
      } in
      (w, keeps, tt, kept, refl)

  pub releases : (slots seat n : ℕ) (x : T) (before : Me (Option T) (View N E)) → before.0.name ≡ Some name → before.0.holds ≡ true → before.1 ≡ (0, Some x) ∷ []
      → name_of x ≡ name → n ≡ 2 * length (entries x)
      → IsNext before.0.number before.0.seen (entries x) → ((i : ℕ) → i < width → fronts before.0.seen i ≤ fronts (entries x) i)
      → ((i : ℕ) → i < width → get_or before.0.stored i (fronts before.0.seen i) ≡ fronts (entries x) i)
      → Allows (Keeps entries name_of fronts width name passes) slots seat before 0 (λ _. n) (λ _. Releases entries (step slots 0 n 0 none) before n)
  releases slots seat n x before live holds carried named is_count follows grows settled s rule deep at bound =
      let v = before.0 in
      let history = rule.history in
      let next : List (ℕ × E) = entries x in
      let knows = rule.known seat v at name live in
      let mine = knows.holds holds in
      let whole : v.seen ≡ history = mine.whole in
      let number : v.number ≡ seat = knows.number in
      let grows' : (i : ℕ) → i < width → fronts history i ≤ fronts next i = λ i h. subst (λ l. fronts l i ≤ fronts next i) whole (grows i h) in
      let follows' : IsNext seat history next = subst (λ m. IsNext m history next) number (subst (λ l. IsNext v.number l next) whole follows) in
      let w : View N E = released v next in
      let words : List ℕ = set s.words 0 n in
      let views : List (View N E) = set s.views seat w in
      let begins : IsPrefix history next = ⊎_elim (λ e. ([], append-nil history ∙ sym e)) (λ t. ((seat, t.0) ∷ [], sym t.1)) follows' in
      let reached : (l : List (ℕ × E)) → IsReached fronts width l history → IsReached fronts width l next =
      λ l r. record { begins = prefix_trans l history next r.begins begins; below = λ i h. let a = r.below i h in let b = grows' i h in omega arith } in
      let same : (m : ℕ) → m ≢ seat → entries_by m next ≡ entries_by m history =
      λ m ne. ⊎_elim (λ e. ap (entries_by m) e) (λ t. ap (entries_by m) t.1 ∙ by_snoc_other m seat history t.0 ne) follows' in
      let stays : (i : ℕ) → i < width → slice_index s.words (suc i) ≤ slice_index words (suc i) = λ i h. let e = front_word s.words n i in omega arith in
      let spent : (m : ℕ) → IsSpent s.views m → (entries_by m next ≡ entries_by m history) × IsSpent views m =
      λ m p. (same m (spent_else s.views seat m v name at live p), spent_set s.views seat m v w name at live p) in
      let others : (j : ℕ) (u : View N E) → j ≢ seat → Knows fronts width name s.words s.views history rule.holder j u → Knows fronts width name words views next seat j u =
      λ j u ne k. knows_on fronts width name s.words words s.views views history next rule.holder seat j u k
      stays reached (same j ne) spent (alone s rule seat v mine words next seat j u ne k)
      (λ m. ((k.makes m).0, (k.makes m).1 ∙ sym (length-set s.views seat w))) in
      let all = reached_self fronts width next in
      let me : Knows fronts width name words views next seat seat w = record {
        named = live;
        number = number;
        seen = all;
        latest = all;
        own = ap (λ m. entries_by m next) (sym number);
        joined = λ k d h. ((spent _ (knows.joined k d h).1).0 ∙ (knows.joined k d h).0, (spent _ (knows.joined k d h).1).1);
        told = λ k d h. let t = knows.told k d h in let r = stays _ t.0 in (t.0, omega arith);
        holds = λ h. absurd cc;
        makes = λ m. ((knows.makes m).0, (knows.makes m).1 ∙ sym (length-set s.views seat w));
      } in
      let t = taken_of s rule mine.odd in
      let at_next : (i : ℕ) → i < width → slice_index words (suc i) ≡ fronts next i =
      λ i h. front_word s.words n i ∙ (mine.stored i h ∙ (ap (λ l. get_or v.stored i (fronts l i)) (sym whole) ∙ settled i h)) in
      let P : ℕ → View N E → Type 0 = λ j u. (m : N) → u.name ≡ Some m → Knows fronts width name words views next seat j u in
      let kept : Keeps entries name_of fronts width name passes (record { words = words; homes = set s.homes 0 (some (Some x)); views = views }) = record {
        history = next;
        next = next;
        holder = seat;
        sized = length-set s.words 0 n ∙ rule.sized;
        place = inl (record { even = count_word s.words n width rule.sized ∙ is_count; same = refl; state = x; home = ap (λ l. set l 0 (some (Some x))) t.out; told = refl; named = named });
        follows = inl refl;
        grows = λ i h. omega arith;
        fronts_at = λ i h. inl (at_next i h);
        seats = let a = rule.seats in let b = length-set s.views seat w in omega arith;
        unmade = λ m h.
            let b = length-set s.views seat w in
            let inside = there_within s.views seat v at in
            same m (λ e. omega arith) ∙ rule.unmade m (omega arith);
        known = each_view s.views seat w P (λ m named. me) (λ j u ne there m named. others j u ne (rule.known j u there m named));
      } in
      let Q : List (ℕ × Option T) → Type 0 = λ c. Valid s.homes c gives × Keeps entries name_of fronts width name passes (stepped s 0 n seat c w gives)
      × Releases entries (step slots 0 n 0 none) (v, c) n (w, carried_after c gives) in
      let done : Q ((0, Some x) ∷ []) = (tt, kept, λ state e. let is : x ≡ state = ap (λ c. in_hand x c) e in ap (λ (y : T). (released v (entries y), [])) is) in
      let q = subst Q (sym carried) done in
      (w, gives, q.0, q.1, q.2)

module _ {T N E : Type 0} {entries : T → List (ℕ × E)} {name_of : T → N} (front_of : N → List (ℕ × E) → ℕ → ℕ) {width : ℕ} {name : N} {passes : ℕ} where
  takes_turn : (slots seat old : ℕ) (before : Me (Option T) (View N E)) → before.0.name ≡ Some name → (before.0.holds ≡ false → before.1 ≡ []) → old % 2 ≡ 0
      → (s : State (Option T) (View N E)) (rule : Keeps entries name_of (front_of name) width name passes s) → get_elem? s.views seat ≡ some before.0 → slice_index s.words 0 ≡ old
      → (w : View N E) × (a : Act (Option T)) × Valid s.homes before.1 a
      × Keeps entries name_of (front_of name) width name passes (stepped s 0 (old + 1) seat before.1 w a)
      × Holds entries name_of front_of before old (w, carried_after before.1 a)
  takes_turn slots seat old before live idle even s rule at is =
      let v = before.0 in
      let free = free_of s rule (rw is even) in
      let x = free.state in
      let knows = rule.known seat v at name live in
      let word : old ≡ 2 * length rule.history = sym is ∙ free.even in
      let empty : before.1 ≡ [] = ⊎_elim (λ h. let o = (knows.holds h).odd in let e = free.even in absurd (omega arith)) idle (cases_Bool v.holds) in
      let w : View N E = holding v (entries x) in
      let words : List ℕ = set s.words 0 (old + 1) in
      let views : List (View N E) = set s.views seat w in
      let odd : slice_index words 0 ≡ suc (2 * length rule.history) = count_word s.words (old + 1) width rule.sized ∙ omega arith in
      let all = reached_self (front_of name) width rule.history in
      let none_else : (j : ℕ) (u : View N E) → Knows (front_of name) width name s.words s.views rule.history rule.holder j u → u.holds ≡ true → IsHolder (front_of name) width words rule.history seat j u =
      λ j u k h. let o = (k.holds h).odd in let e = free.even in absurd (omega arith) in
      let at_history : (i : ℕ) → i < width → slice_index s.words (suc i) ≡ front_of name rule.history i =
      λ i h. ⊎_elim (λ e. e) (λ e. e ∙ ap (λ l. front_of name l i) free.same) (rule.fronts_at i h) in
      let moved : (j : ℕ) (u : View N E) → Knows (front_of name) width name s.words s.views rule.history rule.holder j u → (u.holds ≡ true → IsHolder (front_of name) width words rule.history seat j u) → Knows (front_of name) width name words views rule.history seat j u =
      λ j u k h. knows_on (front_of name) width name s.words words s.views views rule.history rule.history rule.holder seat j u k
      (λ i within. let e = front_word s.words (old + 1) i in omega arith) (λ l r. r) refl (λ n p. (refl, spent_set s.views seat n v w name at live p)) h
      (λ m. ((k.makes m).0, (k.makes m).1 ∙ sym (length-set s.views seat w))) in
      let mine = moved seat v knows (none_else seat v knows) in
      let P : ℕ → View N E → Type 0 = λ j u. (m : N) → u.name ≡ Some m → Knows (front_of name) width name words views rule.history seat j u in
      let told : entries x ≡ rule.history = free.told in
      let here : Knows (front_of name) width name words views rule.history seat seat w = record {
        named = mine.named;
        number = mine.number;
        seen = subst (λ l. IsReached (front_of name) width l rule.history) (sym told) all;
        latest = subst (λ l. IsReached (front_of name) width l rule.history) (sym told) all;
        own = mine.own;
        joined = mine.joined;
        told = mine.told;
        holds = λ h. record { is = refl; odd = odd; whole = told; stored = λ i within. front_word s.words (old + 1) i ∙ at_history i within };
        makes = mine.makes;
      } in
      let kept : Keeps entries name_of (front_of name) width name passes (record { words = words; homes = set s.homes 0 none; views = views }) = record {
        history = rule.history;
        next = rule.history;
        holder = seat;
        sized = length-set s.words 0 (old + 1) ∙ rule.sized;
        place = inr (record { odd = odd; out = ap (λ l. set l 0 none) free.home; view = w; there = set_here s.views seat w (there_within s.views seat v at); live = live; holds = refl });
        follows = inl refl;
        grows = λ i h. omega arith;
        fronts_at = λ i h. inl (front_word s.words (old + 1) i ∙ at_history i h);
        seats = let a = rule.seats in let b = length-set s.views seat w in omega arith;
        unmade = λ n h. let u = rule.unmade n in let b = length-set s.views seat w in u (omega arith);
        known = each_view s.views seat w P (λ m named. here) (λ j u ne there m named. let k = rule.known j u there m named in moved j u k (none_else j u k));
      } in
      let found = known_to s rule seat v knows in
      let word_is : (i : ℕ) → i < width → slice_index s.words (suc i) ≡ front_of (name_of x) (entries x) i =
      λ i h. at_history i h ∙ (ap (λ m. front_of m rule.history i) (sym free.named) ∙ ap (λ l. front_of (name_of x) l i) (sym told)) in (
        w,
        takes 0 (Some x),
        ap (λ l. get_elem? l 0) free.home,
        kept,
        record {
          state = x;
          named = live ∙ ap Some (sym free.named);
          known = subst (λ l. IsKnownTo v l) (sym told) found;
          fronts = λ k d h. let t = knows.told k d h in let e = word_is _ t.0 in omega arith;
          count = word ∙ ap (λ l. 2 * length l) (sym told);
          after_is = ap (λ c. (w, (0, Some x) ∷ c)) empty;
        },
      )

  pub acquires : (slots seat old : ℕ) (before : Me (Option T) (View N E)) → before.0.name ≡ Some name → (before.0.holds ≡ false → before.1 ≡ []) → old % 2 ≡ 0
      → Allows (Keeps entries name_of (front_of name) width name passes) slots seat before 0 (λ n. either (n == old) (old + 1) n) (Acquires entries name_of front_of (step slots 0 old (old + 1) none) before)
  acquires slots seat old before live idle even s rule deep at word =
      let n = slice_index s.words 0 in
      let P : Bool → Type 0 = λ b. (w : View N E) × (a : Act (Option T)) × Valid s.homes before.1 a
      × Keeps entries name_of (front_of name) width name passes (stepped s 0 (either b (old + 1) n) seat before.1 w a)
      × MatchBool b (Holds entries name_of front_of before n (w, carried_after before.1 a)) ((w, carried_after before.1 a) ≡ before) in
      dite (ℕ_discrete n old)
      (λ e. subst P (sym (eq-eqb n old e)) (
      let t = takes_turn slots seat old before live idle even s rule at e in
      (t.0, t.1, t.2, t.3, subst (λ k. Holds entries name_of front_of before k (t.0, carried_after before.1 t.1)) (sym e) t.4)))
      (λ ne. subst P (sym (ne_eqb n old ne)) (
      let old_view = knows_beside s rule seat before.0 before.0 at live in
      (before.0, keeps, tt, another_view s rule seat before.0 before.0 at live refl refl old_view _ (set-get_or s.words 0 0), refl)))

-- The same two steps in the words of the code: the name is that of the state, and the seat's view is an earlier one with more fronts stored
module _ {T N E : Type 0} {entries : T → List (ℕ × E)} {name_of : T → N} (front_of : N → List (ℕ × E) → ℕ → ℕ) (width_of : N → ℕ) {passes : ℕ} where
  pub stores_at : (name inner : N) → inner ≡ name → (slots seat i word n : ℕ) (next : List (ℕ × E)) (me : Me (Option T) (View N E)) (v : View N E) (stored : List ℕ) (c : List (ℕ × Option T)) → me ≡ (having_stored v stored, c)
      → v.name ≡ Some name → v.holds ≡ true → word ≡ suc i → length stored ≡ i → i < width_of name → IsPrepared (front_of name) stored next → n ≡ front_of name next i
      → IsNext v.number v.seen next → ((i : ℕ) → i < width_of name → front_of name v.seen i ≤ front_of name next i)
      → Allows (Keeps entries name_of (front_of inner) (width_of inner) inner passes) slots seat me word (λ _. n) (λ _. Stores (step slots word n 0 none) me n)
  stores_at name inner same slots seat i word n next me v stored c is named holds is_word long within prepared front follows grows =
      let A : N → Me (Option T) (View N E) → Type 0 = λ m b. Allows (Keeps entries name_of (front_of m) (width_of m) m passes) slots seat b word (λ _. n) (λ _. Stores (step slots word n 0 none) b n) in
      let here : A name (having_stored v stored, c) = stores {entries = entries} {name_of = name_of} {fronts = front_of name} {width = width_of name} {name = name} {passes = passes} slots seat word n next (having_stored v stored, c) named holds
      (omega arith) (omega arith) prepared (front ∙ ap (λ j. front_of name next j) (sym long)) follows grows in
      subst (λ m. A m me) (sym same) (subst (λ b. A name b) (sym is) here)

  pub releases_at : (name inner : N) → inner ≡ name → (slots seat n : ℕ) (x : T) (me : Me (Option T) (View N E)) (v : View N E) (stored : List ℕ) → me ≡ (having_stored v stored, (0, Some x) ∷ [])
      → v.name ≡ Some name → v.holds ≡ true → name_of x ≡ name → n ≡ 2 * length (entries x)
      → IsNext v.number v.seen (entries x) → ((i : ℕ) → i < width_of name → front_of name v.seen i ≤ front_of name (entries x) i)
      → ((i : ℕ) → i < width_of name → get_or stored i (front_of name v.seen i) ≡ front_of name (entries x) i)
      → Allows (Keeps entries name_of (front_of inner) (width_of inner) inner passes) slots seat me 0 (λ _. n) (λ _. Releases entries (step slots 0 n 0 none) me n)
  releases_at name inner same slots seat n x me v stored is named holds state_named count follows grows settled =
      let A : N → Me (Option T) (View N E) → Type 0 = λ m b. Allows (Keeps entries name_of (front_of m) (width_of m) m passes) slots seat b 0 (λ _. n) (λ _. Releases entries (step slots 0 n 0 none) b n) in
      let here : A name (having_stored v stored, (0, Some x) ∷ []) = releases {entries = entries} {name_of = name_of} {fronts = front_of name} {width = width_of name} {name = name} {passes = passes} slots seat n x (having_stored v stored, (0, Some x) ∷ []) named holds refl
      state_named count follows grows settled in
      subst (λ m. A m me) (sym same) (subst (λ b. A name b) (sym is) here)
