-- The numbers of a sum: rising, each once, and known by their names.
use Rattle.std.specs.Prelude.{bytes_eq, nat_eq, filter}
use Rattle.std.specs.Cmp.Lexicographic.{pointwise}
use Rattle.std.specs.List.{AllByRecursion, count_by, items_where_true, list_all, list_any, range_with_len}
use Rattle.std.specs.Ordering.{int_eq}
use Rattle.std.proofs.Common.{◌≡◌, ◌≢◌, ℕ, zero, suc, ◌+◌, ◌<◌, ◌≤◌, ◌%◌, ℤ, pos, ◌+ℤ◌, inl, inr, Bool, true, false, not, ◌&&◌, ◌||◌, ◌==◌, if◌then◌else◌, cond, List, [], ◌∷◌, length, map, get_or, Some, option_map, option_and_then, Ok, refl, sym, ap, subst, ◌∙◌, arith}
use Rattle.std.proofs.lemmas.Bool.{and_from, cases_eq, eq-eqb, eqb-true, ne_eqb, false≢true}
use Rattle.std.proofs.lemmas.Bool.Decides.{Decides-int_eq}
use Rattle.std.proofs.lemmas.Slice.Eq.{bytes_eq-Decides}
use Rattle.std.proofs.lemmas.List.Sums.{sum_by-cons}
use Rattle.serde_json.specs.Data.{string}
use Rattle.module_spec.specs.Spec.{Generator, Entry, no_generator, degree_at, number_of}
use Rattle.module_json.specs.ModuleFile.{numbers_of, are_in, is_odd_in, sum_of, differs, unless_repeated, entry_of, written}
use Rattle.module_json.proofs.Entries.{entry_of-known}
use Rattle.module_json.proofs.Repeats.{position_is, position_none}
use Rattle.finite_module.specs.Text.{name_at}
use Rattle.module_build.specs.Names.{numbered_name}
use Rattle.file_text_laws.proofs.Header.{Numbered}
use Rattle.file_text_laws.proofs.Lines.{IsSquare, IsWord, AreWords, is_word, word_is, line, line_read}
use Rattle.milnor_basis.proofs.Ranges.{list_all-holds}

-- ---- lists that rise

-- from a number on
abbrev pub RisesFrom : ℕ → List ℕ → Type 0
RisesFrom a [] = Unit {0}
RisesFrom a (j ∷ js) = (a ≤ j) × RisesFrom (suc j) js

pub later : (a b : ℕ) (js : List ℕ) → b ≤ a → RisesFrom a js → RisesFrom b js
later a b [] l h = tt
later a b (j ∷ js) l h = let k = h.0 in (omega arith, h.1)

pub some_rise : (a : ℕ) (v : List Bool) (ns : List ℕ) → RisesFrom a ns → RisesFrom a (items_where_true v ns)
some_rise a [] ns h = tt
some_rise a (b ∷ v) [] h = tt
some_rise a (true ∷ v) (n ∷ ns) h = (h.0, some_rise (suc n) v ns h.1)
some_rise a (false ∷ v) (n ∷ ns) h = let k = h.0 in later (suc n) a (items_where_true v ns) (omega arith) (some_rise (suc n) v ns h.1)

pub some_have : (P : ℕ → Type 0) (v : List Bool) (ns : List ℕ) → AllByRecursion P ns → AllByRecursion P (items_where_true v ns)
some_have P [] ns h = tt
some_have P (b ∷ v) [] h = tt
some_have P (true ∷ v) (n ∷ ns) h = (h.0, some_have P v ns h.1)
some_have P (false ∷ v) (n ∷ ns) h = some_have P v ns h.1

pub all_by_index : (P : ℕ → Type 0) (ns : List ℕ) → ((p : ℕ) → p < length ns → P (get_or ns p 0)) → AllByRecursion P ns
all_by_index P [] h = tt
all_by_index P (n ∷ ns) h = (h 0 (omega arith), all_by_index P ns (λ p l. h (suc p) (omega arith)))

count_more : (j k : ℕ) (ks : List ℕ) (b : Bool) → (k == j) ≡ b → count_by (λ k. k == j) (k ∷ ks) ≡ cond b 1 0 + count_by (λ k. k == j) ks
count_more j k ks b e = sum_by-cons (λ k. cond (k == j) 1 0) k ks ∙ ap (λ c. cond c 1 0 + count_by (λ k. k == j) ks) e

none_below : (a j : ℕ) (js : List ℕ) → RisesFrom a js → j < a → count_by (λ k. k == j) js ≡ 0
none_below a j [] h l = refl
none_below a j (k ∷ ks) h l = let m = h.0 in count_more j k ks false (ne_eqb k j (λ e. omega arith)) ∙ omega (arith, none_below (suc k) j ks h.1 (omega arith))

none_of_them : (a j : ℕ) (js : List ℕ) → RisesFrom a js → j < a → list_any (nat_eq j) js ≡ false
none_of_them a j [] h l = refl
none_of_them a j (k ∷ ks) h l = let m = h.0 in ap (λ b. b || list_any (nat_eq j) ks) (ne_eqb j k (λ e. omega arith)) ∙ none_of_them (suc k) j ks h.1 (omega arith)

nothing_more : (n : ℕ) → 0 + n ≡ n
nothing_more n = omega arith

-- each stands once
odd_is_any : (a j : ℕ) (js : List ℕ) → RisesFrom a js → is_odd_in js j ≡ list_any (nat_eq j) js
odd_is_any a j [] h = refl
odd_is_any a j (k ∷ ks) h = elim (cases_eq j k) [
  | inl e ↦
      ap (λ n. n % 2 == 1) (count_more j k ks true (eq-eqb k j (sym e)))
      ∙ ap (λ n. (1 + n) % 2 == 1) (none_below (suc k) j ks h.1 (omega arith))
      ∙ sym (ap (λ b. b || list_any (nat_eq j) ks) (eq-eqb j k e))
  | inr d ↦
      ap (λ n. n % 2 == 1) (count_more j k ks false (ne_eqb k j (λ e. d (sym e))) ∙ nothing_more (count_by (λ k. k == j) ks))
      ∙ odd_is_any (suc k) j ks h.1
      ∙ sym (ap (λ b. b || list_any (nat_eq j) ks) (ne_eqb j k d))
]

-- the numbers of a range that are among those of a list
among : (p : ℕ → Bool) (a n : ℕ) (js : List ℕ) → RisesFrom a js → AllByRecursion (λ j. j < a + n) js → ((j : ℕ) → a ≤ j → p j ≡ list_any (nat_eq j) js) → filter p (range_with_len a n) ≡ js
among p a zero [] h k e = refl
among p a zero (j ∷ js) h k e = let l = h.0 in let m = k.0 in absurd (omega arith)
among p a (suc n) [] h k e =
    ap (λ b. if b then a ∷ filter p (range_with_len (a + 1) n) else filter p (range_with_len (a + 1) n)) (e a (omega arith))
    ∙ among p (a + 1) n [] tt tt (λ j l. e j (omega arith))
among p a (suc n) (j ∷ js) h k e = elim (cases_eq a j) [
  | inl same ↦
      ap (λ b. if b then a ∷ filter p (range_with_len (a + 1) n) else filter p (range_with_len (a + 1) n)) (e a (omega arith) ∙ ap (λ b. b || list_any (nat_eq a) js) (eq-eqb a j same))
      ∙ ap (λ xs. a ∷ xs) (among p (a + 1) n js (later (suc j) (a + 1) js (omega arith) h.1) (weaker js k.1) (λ i l. e i (omega arith) ∙ ap (λ b. b || list_any (nat_eq i) js) (ne_eqb i j (λ f. omega arith))))
      ∙ ap (λ i. i ∷ js) same
  | inr other ↦
      let l = h.0 in
      ap (λ b. if b then a ∷ filter p (range_with_len (a + 1) n) else filter p (range_with_len (a + 1) n)) (e a (omega arith) ∙ none_of_them (suc a) a (j ∷ js) (omega arith, h.1) (omega arith))
      ∙ among p (a + 1) n (j ∷ js) (omega arith, h.1) (weaker (j ∷ js) k) (λ i l. e i (omega arith))
]
  where
    weaker : (js : List ℕ) → AllByRecursion (λ j. j < a + suc n) js → AllByRecursion (λ j. j < a + 1 + n) js
    weaker [] h = tt
    weaker (j ∷ js) h = let l = h.0 in (omega arith, weaker js h.1)

pub sum_is : (count : ℕ) (js : List ℕ) → RisesFrom 0 js → AllByRecursion (λ j. j < count) js → sum_of count js ≡ js
sum_is count js h k = among (is_odd_in js) 0 count js h (within js k) (λ j l. odd_is_any 0 j js h)
  where
    within : (js : List ℕ) → AllByRecursion (λ j. j < count) js → AllByRecursion (λ j. j < 0 + count) js
    within [] h = tt
    within (j ∷ js) h = let l = h.0 in (omega arith, within js h.1)

pub all_in : (gs : List Generator) (t : ℤ) (js : List ℕ) → AllByRecursion (λ j. degree_at gs j ≡ t) js → are_in gs t js ≡ true
all_in gs t [] h = refl
all_in gs t (j ∷ js) h = and_from (int_eq (degree_at gs j) t) (are_in gs t js) ((Decides-int_eq (degree_at gs j) t).1 h.0) (all_in gs t js h.1)

-- ---- names

abbrev is_apart : ℕ → ℕ → Bool
is_apart i j = nat_eq i j || not (bytes_eq (numbered_name j) (numbered_name i))

abbrev are_apart : ℕ → Bool
are_apart i = list_all (is_apart i) (range_with_len 0 64)

all_apart : list_all are_apart (range_with_len 0 64) ≡ true
all_apart = refl

apart : (i j : ℕ) → i < 64 → j < 64 → i ≢ j → bytes_eq (numbered_name j) (numbered_name i) ≡ false
apart i j l m d = at (nat_eq i j) (bytes_eq (numbered_name j) (numbered_name i)) (ne_eqb i j d) (list_all-holds (is_apart i) 0 64 j (omega arith) (omega arith) (list_all-holds are_apart 0 64 i (omega arith) (omega arith) all_apart))
  where
    at : (b c : Bool) → b ≡ false → (b || not c) ≡ true → c ≡ false
    at true c e h = absurd (false≢true (sym e))
    at false true e h = absurd (false≢true h)
    at false false e h = refl

all_words : list_all (λ i. is_word (numbered_name i)) (range_with_len 0 64) ≡ true
all_words = refl

name_from : (b : ℕ) (gs : List Generator) (i : ℕ) → Numbered b gs → i < length gs → name_at gs i ≡ numbered_name (b + i)
name_from b [] i h l = absurd (omega arith)
name_from b (g ∷ gs) zero h l = let z : b ≡ b + 0 = omega arith in h.0 ∙ ap numbered_name z
name_from b (g ∷ gs) (suc i) h l = let z : suc b + i ≡ b + suc i = omega arith in name_from (suc b) gs i h.2 (omega arith) ∙ ap numbered_name z

module _ (gs : List Generator) (numbered : Numbered 0 gs) (few : length gs ≤ 64) where
  name_is : (i : ℕ) → i < length gs → name_at gs i ≡ numbered_name i
  name_is i l = let z : 0 + i ≡ i = omega arith in name_from 0 gs i numbered l ∙ ap numbered_name z

  pub word : (i : ℕ) → i < length gs → IsWord (name_at gs i)
  word i l = subst IsWord (sym (name_is i l)) (word_is (numbered_name i) (list_all-holds (λ i. is_word (numbered_name i)) 0 64 i (omega arith) (omega arith) all_words))

  pub words : (js : List ℕ) → AllByRecursion (λ j. j < length gs) js → AreWords (map (name_at gs) js)
  words [] h = tt
  words (j ∷ js) h = (word j h.0, words js h.1)

  known : (i : ℕ) → i < length gs → number_of gs (name_at gs i) ≡ Some i
  known i l =
      position_is (λ g. bytes_eq g.name (name_at gs i)) gs i no_generator l ((bytes_eq-Decides (name_at gs i) (name_at gs i)).1 refl)
      (λ k m. ap (λ n. bytes_eq n (name_at gs i)) (name_is k (omega arith)) ∙ ap (bytes_eq (numbered_name k)) (name_is i l) ∙ apart i k (omega arith) (omega arith) (λ e. omega arith))

  all_known : (js : List ℕ) → AllByRecursion (λ j. j < length gs) js → numbers_of gs (map (name_at gs) js) ≡ Some js
  all_known [] h = refl
  all_known (j ∷ js) h =
      ap (λ o. option_and_then (λ j. option_map (λ js. j ∷ js) (numbers_of gs (map (name_at gs) js))) o) (known j h.0)
      ∙ ap (option_map (λ js. j ∷ js)) (all_known js h.1)

  pub entry_is : (before : List Entry) (n i j : ℕ) (js : List ℕ) → IsSquare n → n ≢ 0 → i < length gs → AllByRecursion (λ k. k < length gs) (j ∷ js) → RisesFrom 0 (j ∷ js) → AllByRecursion (λ k. degree_at gs k ≡ (degree_at gs i +ℤ pos n)) (j ∷ js)
      → entry_of gs before (written (string (line n (name_at gs i) (map (name_at gs) (j ∷ js))))) ≡ unless_repeated before (record { n = n; generator = i; sum = j ∷ js })
  entry_is before n i j js s some l below rises degrees =
      entry_of-known gs before (written (string (line n (name_at gs i) (map (name_at gs) (j ∷ js))))) (record { n = n; name = name_at gs i; sum = map (name_at gs) (j ∷ js) }) i (j ∷ js)
      (line_read n (name_at gs i) (name_at gs j) (map (name_at gs) js) s (word i l) (word j below.0) (words js below.1)) some (known i l) (all_known (j ∷ js) below)
      ∙ rw (all_in gs (degree_at gs i +ℤ pos n) (j ∷ js) degrees, sum_is (length gs) (j ∷ js) rises below) refl

-- ---- an entry that no earlier one contradicts

same_numbers : (js : List ℕ) → pointwise nat_eq js js ≡ true
same_numbers [] = refl
same_numbers (j ∷ js) = ap (λ b. b && pointwise nat_eq js js) (eq-eqb j j refl) ∙ same_numbers js

module _ (S : ℕ → ℕ → List ℕ) where
  -- its sum is that of its square on its generator
  abbrev pub HasSum : Entry → Type 0
  HasSum e = e.sum ≡ S e.generator e.n

  agrees : (e f : Entry) → HasSum e → HasSum f → differs e f ≡ false
  agrees e f h k = at (f.n == e.n) (f.generator == e.generator) refl refl
    where
      at : (b c : Bool) → (f.n == e.n) ≡ b → (f.generator == e.generator) ≡ c → (b && c && not (pointwise nat_eq f.sum e.sum)) ≡ false
      at true true p q =
          let n : f.n ≡ e.n = eqb-true f.n e.n p in
          let g : f.generator ≡ e.generator = eqb-true f.generator e.generator q in
          let same : f.sum ≡ e.sum = k ∙ ap (λ x. S x f.n) g ∙ ap (S e.generator) n ∙ sym h in
          ap (λ s. not (pointwise nat_eq s e.sum)) same ∙ ap not (same_numbers e.sum)
      at true false p q = refl
      at false c p q = refl

  all_agree : (e d : Entry) (before : List Entry) → HasSum e → AllByRecursion HasSum before → (k : ℕ) → k < length before → differs e (get_or before k d) ≡ false
  all_agree e d [] h all k l = absurd (omega arith)
  all_agree e d (f ∷ fs) h all zero l = agrees e f h all.0
  all_agree e d (f ∷ fs) h all (suc k) l = all_agree e d fs h all.1 k (omega arith)

  pub not_repeated : (before : List Entry) (e : Entry) → HasSum e → AllByRecursion HasSum before → unless_repeated before e ≡ Ok e
  not_repeated before e h all = let none = position_none (differs e) before e (all_agree e e before h all) in rw none refl
