-- The entry of an action, step by step, and what holds of it.
use Rattle.std.specs.Prelude.{◌≡◌, ◌≢◌, ℕ, ◌+◌, ◌<◌, ◌≤◌, ◌==◌, ◌&&◌, nat_eq, ℤ, pos, ◌+ℤ◌, Bool, true, false, cond, List, [], ◌∷◌, ◌++◌, length, drop, count_by, All, AllPairs, position, Option, Some, None, IfSome, option_and_then, Result, Ok, Err, bytes_eq}
use Rattle.std.specs.List.{list_all, range_with_len}
use Rattle.std.specs.List.Sorted.{IsStrictlyIncreasing}
use Rattle.std.specs.Ordering.{int_eq}
use Rattle.std.specs.Cmp.Lexicographic.{pointwise}
use Rattle.std.proofs.Common.{get_or, refl, sym, ap, ◌∙◌, arith, length-append}
use Rattle.std.proofs.lemmas.Bool.{false≢true}
use Rattle.std.proofs.lemmas.Bool.Decides.{nat_tests, Decides-int_eq}
use Rattle.std.proofs.lemmas.List.{at_drop_more, at_drop_all}
use Rattle.std.proofs.lemmas.List.Elements.{All-filter, All-push, filter_passes}
use Rattle.std.proofs.lemmas.List.FromFn.{length-range_with_len, get_or-range_with_len}
use Rattle.std.proofs.lemmas.List.Kept.{IsStrictlyIncreasing-filter}
use Rattle.std.proofs.lemmas.List.Quantifiers.{position-Some, all_pairs_push}
use Rattle.std.proofs.lemmas.List.Sums.{sum_by-cons}
use Rattle.std.proofs.lemmas.Slice.Eq.{bytes_eq-Decides}
use Rattle.serde_json.specs.Data.{Data}
use Rattle.serde_json.specs.Find.{as_str}
use Rattle.serde_json.specs.View.{view, items_view}
use Rattle.serde_json.specs.declared.value.Value.{Value}
use Rattle.module_json.specs.Actions.{Written, action_of}
use Rattle.module_spec.specs.Spec.{Generator, Entry, number_of, degree_at}
use Rattle.module_json.specs.ModuleFile.{numbers_of, are_in, is_odd_in, sum_of, differs, unless_repeated, numbered_entry, named_entry, entry_of, at_index, entries_from, written}
use Rattle.module_spec.specs.WellFormed.{IsEntryOf, Agree}
use Rattle.module_json.specs.declared.malformed.Malformed.{Malformed}
use Rattle.module_json.specs.declared.malformed.Why.{Why}
use Rattle.module_json.proofs.Repeats.{position-None}
use Rattle.module_json.proofs.Squares.{action_small}

-- an action with a number and known names
pub entry_of-known : (gs : List Generator) (before : List Entry) (o : Option Written) (w : Written) (i : ℕ) (js : List ℕ) → o ≡ Some w → w.n ≢ 0 → number_of gs w.name ≡ Some i → numbers_of gs w.sum ≡ Some js → entry_of gs before o ≡ numbered_entry gs before w.n i js
entry_of-known gs before o w i js is above known all_known =
    let positive : (w.n == 0) ≡ false = grind (arith, nat_tests) in
    rw (is, positive, known, all_known) refl

-- ---- the sum

range_rises : (n : ℕ) → IsStrictlyIncreasing (range_with_len 0 n)
range_rises n k l =
    let within : k + 1 < n = omega (arith, l, length-range_with_len 0 n) in
    let one : get_or (range_with_len 0 n) k 0 ≡ 0 + k = get_or-range_with_len 0 n k 0 (omega arith) in
    let two : get_or (range_with_len 0 n) (k + 1) 0 ≡ 0 + (k + 1) = get_or-range_with_len 0 n (k + 1) 0 within in
    omega (arith, one, two)

range_below : (n : ℕ) → All (λ j. j < n) (range_with_len 0 n)
range_below n k d l =
    let within : k < n = omega (arith, l, length-range_with_len 0 n) in
    omega (arith, get_or-range_with_len 0 n k d within)

sum_rises : (count : ℕ) (js : List ℕ) → IsStrictlyIncreasing (sum_of count js)
sum_rises count js = IsStrictlyIncreasing-filter (is_odd_in js) (range_with_len 0 count) (range_rises count)

sum_below : (count : ℕ) (js : List ℕ) → All (λ j. j < count) (sum_of count js)
sum_below count js = All-filter (is_odd_in js) (λ j. j < count) (range_with_len 0 count) (range_below count)

-- what stands an odd number of times among numbers is one of them
odd_has : (p : ℕ → Bool) (js : List ℕ) (j : ℕ) → is_odd_in js j ≡ true → list_all p js ≡ true → p j ≡ true
odd_has p [] j odd all = absurd (false≢true odd)
odd_has p (k ∷ ks) j odd all = by (k == j) refl (p k) refl (odd_has p ks j)
  where
    by : (b : Bool) → (k == j) ≡ b → (c : Bool) → p k ≡ c → (is_odd_in ks j ≡ true → list_all p ks ≡ true → p j ≡ true) → p j ≡ true
    by true same true passes later = let e : k ≡ j = grind (arith, nat_tests) in rw (sym e) passes
    by b same false passes later = absurd (false≢true (rw passes at all))
    by false other true passes later =
        let rest : count_by (λ i. i == j) (k ∷ ks) ≡ count_by (λ i. i == j) ks = sum_by-cons (λ i. cond (i == j) 1 0) k ks ∙ rw other (omega arith) in
        later (rw rest at odd) (rw passes at all)

sum_in : (gs : List Generator) (z : ℤ) (js : List ℕ) → are_in gs z js ≡ true → All (λ j. degree_at gs j ≡ z) (sum_of (length gs) js)
sum_in gs z js all k d l =
    let j = get_or (sum_of (length gs) js) k d in
    (Decides-int_eq (degree_at gs j) z).0 (odd_has (λ i. int_eq (degree_at gs i) z) js j (filter_passes (is_odd_in js) (range_with_len 0 (length gs)) k d l) all)

-- ---- the entry

-- what holds of the entry of an action after the entries before it
pub record IsNext (gs : List Generator) (before : List Entry) (e : Entry) : Type 0 where
  pub entry : IsEntryOf gs e
  pub agrees : All (λ f. Agree f e) before

both : (a b : Bool) → a ≡ true → (a && b) ≡ b
both a b h = rw h refl

agrees_by : (e f : Entry) → differs e f ≡ false → Agree f e
agrees_by e f h = record { sums = same }
  where
    tested : (b : Bool) → pointwise nat_eq f.sum e.sum ≡ b → f.n ≡ e.n → f.generator ≡ e.generator → b ≡ true
    tested true is n i = refl
    tested false is n i =
        let one : (f.n == e.n) ≡ true = grind (arith, nat_tests) in
        let two : (f.generator == e.generator) ≡ true = grind (arith, nat_tests) in
        absurd (false≢true (sym (rw (one, two, is) at h)))

    same : f.n ≡ e.n → f.generator ≡ e.generator → f.sum ≡ e.sum
    same n i = (bytes_eq-Decides f.sum e.sum).0 (tested (pointwise nat_eq f.sum e.sum) refl n i)

unrepeated : (before : List Entry) (made e : Entry) → unless_repeated before made ≡ Ok e → (e ≡ made) × (position (differs made) before ≡ None)
unrepeated before made e h = by (position (differs made) before) refl
  where
    by : (o : Option ℕ) → position (differs made) before ≡ o → (e ≡ made) × (position (differs made) before ≡ None)
    by None none = let k = rw none at h in (cc, none)
    by (Some first) some = let k = rw some at h in absurd (cc)

IsNext-made : (gs : List Generator) (before : List Entry) (n i : ℕ) (js : List ℕ) (e : Entry) → 1 ≤ n → n ≤ 999 → i < length gs → are_in gs (degree_at gs i +ℤ pos n) js ≡ true → (e ≡ record { n = n; generator = i; sum = sum_of (length gs) js }) × (position (differs (record { n = n; generator = i; sum = sum_of (length gs) js })) before ≡ None) → IsNext gs before e
IsNext-made gs before n i js e positive small within all (is, none) =
    record {
      entry = rw is (record { square = positive; digits = small; generator = within; rising = sum_rises (length gs) js; within = sum_below (length gs) js; degrees = sum_in gs (degree_at gs i +ℤ pos n) js all });
      agrees = λ k d l. rw is (agrees_by (record { n = n; generator = i; sum = sum_of (length gs) js }) (get_or before k d) (position-None (differs (record { n = n; generator = i; sum = sum_of (length gs) js })) before k d none l));
    }

IsNext-numbered : (gs : List Generator) (before : List Entry) (n i : ℕ) (js : List ℕ) (e : Entry) → 1 ≤ n → n ≤ 999 → i < length gs → numbered_entry gs before n i js ≡ Ok e → IsNext gs before e
IsNext-numbered gs before n i js e positive small within h = by (are_in gs (degree_at gs i +ℤ pos n) js) refl
  where
    by : (b : Bool) → are_in gs (degree_at gs i +ℤ pos n) js ≡ b → IsNext gs before e
    by true all = IsNext-made gs before n i js e positive small within all (unrepeated before (record { n = n; generator = i; sum = sum_of (length gs) js }) e (rw all at h))
    by false other = let k = rw other at h in absurd (cc)

IsNext-named : (gs : List Generator) (before : List Entry) (n : ℕ) (name : List ℕ) (o : Option ℕ) (p : Option (List ℕ)) (e : Entry) → 1 ≤ n → n ≤ 999 → number_of gs name ≡ o → named_entry gs before n o p ≡ Ok e → IsNext gs before e
IsNext-named gs before n name None p e positive small is h = absurd (cc)
IsNext-named gs before n name (Some i) None e positive small is h = absurd (cc)
IsNext-named gs before n name (Some i) (Some js) e positive small is h = IsNext-numbered gs before n i js e positive small (position-Some (λ g. bytes_eq g.name name) gs i (record { name = []; degree = pos 0 }) is).0 h

IsNext-written : (gs : List Generator) (before : List Entry) (o : Option Written) (e : Entry) → IfSome o (λ w. w.n ≤ 999) → entry_of gs before o ≡ Ok e → IsNext gs before e
IsNext-written gs before None e small h = absurd (cc)
IsNext-written gs before (Some w) e small h = by (w.n == 0) refl
  where
    by : (b : Bool) → (w.n == 0) ≡ b → IsNext gs before e
    by true zero = let k = rw zero at h in absurd (cc)
    by false above = IsNext-named gs before w.n w.name (number_of gs w.name) (numbers_of gs w.sum) e (grind (arith, nat_tests)) small refl (rw above at h)

written_small : (o : Option (List ℕ)) → IfSome (option_and_then action_of o) (λ w. w.n ≤ 999)
written_small None = tt
written_small (Some text) = action_small text

-- An accepted action gives an entry.
pub IsNext-entry_of : (gs : List Generator) (before : List Entry) (d : Data) (e : Entry) → entry_of gs before (written d) ≡ Ok e → IsNext gs before e
IsNext-entry_of gs before d e h = IsNext-written gs before (written d) e (written_small (as_str d)) h

-- ---- the entries

at_index_ok : (i : ℕ) (r : Result Entry Why) (e : Entry) → at_index i r ≡ Ok e → r ≡ Ok e
at_index_ok i (Ok f) e h = let same : f ≡ e = cc in ap Ok same
at_index_ok i (Err why) e h = absurd (cc)

-- what is known of the entries of the actions before value i of the list
pub record AreRead (gs : List Generator) (values : List Value) (i : ℕ) (es : List Entry) : Type 0 where
  pub left : entries_from gs [] (items_view values) ≡ entries_from gs es (items_view (drop i values))
  pub count : length es ≡ i
  pub actions : All (IsEntryOf gs) es
  pub agree : AllPairs Agree es

-- the action of value i, and those behind it
turn : (gs : List Generator) (values : List Value) (i : ℕ) (es : List Entry) (v : Value) → i < length values → v ≡ get_or values i v → entries_from gs es (items_view (drop i values)) ≡ entries_from gs es (items_view (v ∷ drop (i + 1) values))
turn gs values i es v l is =
    at_drop_more (λ vs. entries_from gs es (items_view vs)) values i v l ∙ ap (λ w. entries_from gs es (items_view (w ∷ drop (i + 1) values))) (sym is)

pub AreRead-next : (gs : List Generator) (values : List Value) (i : ℕ) (es : List Entry) (v : Value) (e : Entry) → AreRead gs values i es → i < length values → v ≡ get_or values i v → at_index (length es) (entry_of gs es (written (view v))) ≡ Ok e → AreRead gs values (i + 1) (es ++ e ∷ [])
AreRead-next gs values i es v e read l is h =
    let next = IsNext-entry_of gs es (view v) e (at_index_ok (length es) (entry_of gs es (written (view v))) e h) in
    let step : entries_from gs es (items_view (v ∷ drop (i + 1) values)) ≡ entries_from gs (es ++ e ∷ []) (items_view (drop (i + 1) values)) = rw h in
    record {
      left = read.left ∙ turn gs values i es v l is ∙ step;
      count = omega (arith, read.count, length-append es (e ∷ []));
      actions = All-push (IsEntryOf gs) es e read.actions next.entry;
      agree = all_pairs_push Agree es e read.agree next.agrees;
    }

pub read_none : (gs : List Generator) (values : List Value) → AreRead gs values 0 []
read_none gs values = record { left = refl; count = refl; actions = λ k d l. absurd (omega arith); agree = λ i j d l m. absurd (omega arith) }

pub read_refused : (gs : List Generator) (values : List Value) (i : ℕ) (es : List Entry) (v : Value) (e : Malformed) → AreRead gs values i es → i < length values → v ≡ get_or values i v → at_index (length es) (entry_of gs es (written (view v))) ≡ Err e → entries_from gs [] (items_view values) ≡ Err e
read_refused gs values i es v e read l is h =
    let step : entries_from gs es (items_view (v ∷ drop (i + 1) values)) ≡ Err e = rw h in
    read.left ∙ turn gs values i es v l is ∙ step

pub read_all : (gs : List Generator) (values : List Value) (i : ℕ) (es : List Entry) → AreRead gs values i es → length values ≤ i → entries_from gs [] (items_view values) ≡ Ok es
read_all gs values i es read l = read.left ∙ at_drop_all (λ vs. entries_from gs es (items_view vs)) values i l
