-- The entries that the text of a module's file describes are those of its file.
use Rattle.std.specs.Prelude.{int_le}
use Rattle.std.specs.List.{AllByRecursion, flat_map, items_where_true, list_all, list_any, range_with_len}
use Rattle.std.proofs.Common.{◌≡◌, ◌≢◌, ℕ, zero, suc, ◌+◌, ◌<◌, ◌≤◌, ℤ, pos, neg_ℤ, ◌+ℤ◌, ◌≤ℤ◌, inl, inr, Bool, true, false, if◌then◌else◌, List, [], ◌∷◌, ◌++◌, length, map, get_or, Ok, refl, sym, ap, subst, ◌∙◌, arith, append_assoc, append-nil}
use Rattle.std.specs.List.{All}
use Rattle.std.specs.Ordering.{int_eq}
use Rattle.std.proofs.lemmas.Bool.{and_from, cases_lt, cases_eq, false≢true}
use Rattle.std.proofs.lemmas.Grind.{flat_map-append}
use Rattle.std.proofs.lemmas.Int.{ints}
use Rattle.std.proofs.lemmas.List.{map-append}
use Rattle.std.proofs.lemmas.List.Elements.{All-head, All-tail}
use Rattle.milnor_basis.specs.Exponents.{degree_of}
use Rattle.serde_json.specs.Data.{string, item}
use Rattle.module_spec.specs.Spec.{Generator, Entry, no_generator, degree_at, within_limit, is_near, powers}
use Rattle.module_json.specs.ModuleFile.{spans, entry_of, entries_from, unless_repeated, written}
use Rattle.module_spec.specs.WellFormed.{AreByDegree}
use Rattle.module_spec.specs.declared.limits.TheConstants.{MAX_DEGREE, MAX_SPAN}
use Rattle.finite_module.specs.Module.{Module, generators_in, width, numbers_from}
use Rattle.finite_module.specs.ModuleLaws.{generators_in-member}
use Rattle.finite_module.specs.Axioms.{IsModule, value_of}
use Rattle.finite_module.specs.Text.{name_at}
use Rattle.file_laws.specs.Files.{entry_of as file_entry, squares_of}
use Rattle.module_build.specs.Names.{numbered_name}
use Rattle.module_build.specs.FileText.{quoted, action_text, action_of_square, actions}
use Rattle.file_text_laws.proofs.Written.{items_of}
use Rattle.file_text_laws.proofs.Header.{Numbered}
use Rattle.file_text_laws.proofs.Lines.{IsSquare, line, squares_read}
use Rattle.file_text_laws.proofs.Sums.{RisesFrom, later, some_rise, some_have, all_by_index, entry_is, HasSum, not_repeated}
use Rattle.finite_module.proofs.Degrees.{le_yes}

-- ---- limits

within : (z : ℤ) → neg_ℤ MAX_DEGREE ≤ℤ z → z ≤ℤ MAX_DEGREE → within_limit z ≡ true
within z l h = and_from (int_le (neg_ℤ MAX_DEGREE) z) (int_le z MAX_DEGREE) (grind (arith, ints)) (grind (arith, ints))

pub numbered_from : (b : ℕ) (gs : List Generator) → ((k : ℕ) → k < length gs → name_at gs k ≡ numbered_name (b + k)) → All (λ g. neg_ℤ MAX_DEGREE ≤ℤ g.degree) gs → All (λ g. g.degree ≤ℤ MAX_DEGREE) gs → Numbered b gs
numbered_from b [] h low high = tt
numbered_from b (g ∷ gs) h low high =
    let z : b + 0 ≡ b = omega arith in (
      h 0 (omega arith) ∙ ap numbered_name z,
      within g.degree (All-head (λ (g : Generator). neg_ℤ MAX_DEGREE ≤ℤ g.degree) g gs low) (All-head (λ (g : Generator). g.degree ≤ℤ MAX_DEGREE) g gs high),
      numbered_from (suc b) gs (λ k l. let y : b + suc k ≡ suc b + k = omega arith in h (suc k) (omega arith) ∙ ap numbered_name y) (All-tail (λ (g : Generator). neg_ℤ MAX_DEGREE ≤ℤ g.degree) g gs low) (All-tail (λ (g : Generator). g.degree ≤ℤ MAX_DEGREE) g gs high),
    )

list_all_by_index : (p : Generator → Bool) (xs : List Generator) → ((i : ℕ) → i < length xs → p (get_or xs i no_generator) ≡ true) → list_all p xs ≡ true
list_all_by_index p [] h = refl
list_all_by_index p (x ∷ xs) h = and_from (p x) (list_all p xs) (h 0 (omega arith)) (list_all_by_index p xs (λ i l. h (suc i) (omega arith)))

pub near : (gs : List Generator) → AreByDegree gs → spans gs ≡ true
near gs h = list_all_by_index (λ g. list_all (λ h. is_near g.degree h.degree) gs) gs (λ i l. list_all_by_index (λ h. is_near (get_or gs i no_generator).degree h.degree) gs (λ j m. le_yes (degree_at gs i) (degree_at gs j +ℤ pos MAX_SPAN) (at i j l m)))
  where
    at : (i j : ℕ) → i < length gs → j < length gs → degree_at gs i ≤ℤ (degree_at gs j +ℤ pos MAX_SPAN)
    at i j l m = elim (cases_lt i j) [
      | inl before ↦ let up : degree_at gs i ≤ℤ degree_at gs j = h.ordered i j no_generator before m in omega (arith, ints, up)
      | inr behind ↦ elim (cases_eq i j) [
        | inl e ↦ let same : degree_at gs i ≡ degree_at gs j = ap (degree_at gs) e in omega (arith, ints, same)
        | inr d ↦ h.span j i no_generator (omega arith) l
      ]
    ]

-- ---- the lines of a module

module _ (m : Module) where
  abbrev gs : List Generator
  gs = m.generators

  abbrev pub is_there : ℕ × ℕ → Bool
  is_there k = list_any (λ b. b) (value_of m (k.1 ∷ []) k.0)

  abbrev pub numbers : ℕ → ℕ → List ℕ
  numbers i n = items_where_true (value_of m (n ∷ []) i) (generators_in gs (degree_at gs i +ℤ pos n))

  abbrev pub line_of : ℕ × ℕ → List ℕ
  line_of k = line k.1 (name_at gs k.0) (map (name_at gs) (numbers k.0 k.1))

  abbrev pub lines_of : ℕ × ℕ → List (List ℕ)
  lines_of k = if is_there k then line_of k ∷ [] else []

  row_written : (i : ℕ) (ps : List ℕ) → flat_map (action_of_square m i) ps ≡ map quoted (flat_map lines_of (map (λ n. (i, n)) ps))
  row_written i [] = refl
  row_written i (n ∷ ps) = at (is_there (i, n)) (row_written i ps)
    where
      at : (b : Bool) → flat_map (action_of_square m i) ps ≡ map quoted (flat_map lines_of (map (λ n. (i, n)) ps)) → (if b then quoted (action_text m i n) ∷ [] else []) ++ flat_map (action_of_square m i) ps ≡ map quoted ((if b then line_of (i, n) ∷ [] else []) ++ flat_map lines_of (map (λ n. (i, n)) ps))
      at true e = ap (λ xs. quoted (action_text m i n) ∷ xs) e
      at false e = e

  rows_written : (is : List ℕ) → flat_map (λ i. flat_map (action_of_square m i) powers) is ≡ map quoted (flat_map lines_of (flat_map (λ i. map (λ n. (i, n)) powers) is))
  rows_written [] = refl
  rows_written (i ∷ is) =
      ap (λ xs. xs ++ flat_map (λ i. flat_map (action_of_square m i) powers) is) (row_written i powers)
      ∙ ap (λ xs. map quoted (flat_map lines_of (map (λ n. (i, n)) powers)) ++ xs) (rows_written is)
      ∙ sym (ap (map quoted) (flat_map-append lines_of (map (λ n. (i, n)) powers) (flat_map (λ i. map (λ n. (i, n)) powers) is)) ∙ map-append quoted (flat_map lines_of (map (λ n. (i, n)) powers)) (flat_map lines_of (flat_map (λ i. map (λ n. (i, n)) powers) is)))

  pub actions_written : actions m ≡ map quoted (flat_map lines_of (squares_of m))
  actions_written = rows_written (range_with_len 0 (length gs))

  -- a square on a generator
  pub record IsKey (k : ℕ × ℕ) : Type 0 where
    pub generator : k.0 < length gs
    pub square : IsSquare k.1
    pub positive : k.1 ≢ 0

  All-appended : {X : Type 0} (P : X → Type 0) (xs ys : List X) → AllByRecursion P xs → AllByRecursion P ys → AllByRecursion P (xs ++ ys)
  All-appended P [] ys h k = k
  All-appended P (x ∷ xs) ys h k = (h.0, All-appended P xs ys h.1 k)

  row_of_keys : (i : ℕ) → i < length gs → AllByRecursion IsKey (map (λ n. (i, n)) powers)
  row_of_keys i l =
      let s = squares_read in
      let some : (n : ℕ) → suc n ≢ 0 = λ n e. cc in (
        record { generator = l; square = s.0; positive = some 0 },
        (
          record { generator = l; square = s.1.0; positive = some 1 },
          (
            record { generator = l; square = s.1.1.0; positive = some 3 },
            (
              record { generator = l; square = s.1.1.1.0; positive = some 7 },
              (
                record { generator = l; square = s.1.1.1.1.0; positive = some 15 },
                (
                  record { generator = l; square = s.1.1.1.1.1.0; positive = some 31 },
                  (
                    record { generator = l; square = s.1.1.1.1.1.1; positive = some 63 },
                    tt,
                  ),
                ),
              ),
            ),
          ),
        ),
      )

  rows_of_keys : (a n : ℕ) → a + n ≤ length gs → AllByRecursion IsKey (flat_map (λ i. map (λ n. (i, n)) powers) (range_with_len a n))
  rows_of_keys a zero l = tt
  rows_of_keys a (suc n) l = All-appended IsKey (map (λ n. (a, n)) powers) (flat_map (λ i. map (λ n. (i, n)) powers) (range_with_len (a + 1) n)) (row_of_keys a (omega arith)) (rows_of_keys (a + 1) n (omega arith))

  pub keys : AllByRecursion IsKey (squares_of m)
  keys = rows_of_keys 0 (length gs) (omega arith)

-- ---- numbers

numbers_rise : (a : ℕ) (gs : List Generator) (t : ℤ) → RisesFrom a (numbers_from a gs t)
numbers_rise a [] t = tt
numbers_rise a (g ∷ gs) t = at (int_eq g.degree t) (numbers_rise (suc a) gs t)
  where
    at : (b : Bool) → RisesFrom (suc a) (numbers_from (suc a) gs t) → RisesFrom a (if b then a ∷ numbers_from (suc a) gs t else numbers_from (suc a) gs t)
    at true h = (omega arith, h)
    at false h = later (suc a) a (numbers_from (suc a) gs t) (omega arith) h

pub some_number : (v : List Bool) (ns : List ℕ) → length v ≡ length ns → list_any (λ b. b) v ≡ true → (j : ℕ) × ((js : List ℕ) × (items_where_true v ns ≡ j ∷ js))
some_number [] ns e h = absurd (false≢true h)
some_number (b ∷ v) [] e h = cc
some_number (true ∷ v) (n ∷ ns) e h = (n, (items_where_true v ns, refl))
some_number (false ∷ v) (n ∷ ns) e h = some_number v ns (omega arith) h

module _ (m : Module) (is : IsModule m) (named : Numbered 0 m.generators) (few : length m.generators ≤ 64) where
  abbrev hs : List Generator
  hs = m.generators

  abbrev up : ℕ → ℕ → ℤ
  up i n = degree_at hs i +ℤ pos n

  pub below : (i n : ℕ) → AllByRecursion (λ j. j < length hs) (numbers m i n)
  below i n = some_have (λ j. j < length hs) (value_of m (n ∷ []) i) (generators_in hs (up i n)) (all_by_index (λ j. j < length hs) (generators_in hs (up i n)) (λ p l. (generators_in-member hs (up i n) p l).0))

  pub rising : (i n : ℕ) → RisesFrom 0 (numbers m i n)
  rising i n = some_rise 0 (value_of m (n ∷ []) i) (generators_in hs (up i n)) (numbers_rise 0 hs (up i n))

  in_degree : (i n : ℕ) → AllByRecursion (λ j. degree_at hs j ≡ up i n) (numbers m i n)
  in_degree i n = some_have (λ j. degree_at hs j ≡ up i n) (value_of m (n ∷ []) i) (generators_in hs (up i n)) (all_by_index (λ j. degree_at hs j ≡ up i n) (generators_in hs (up i n)) (λ p l. (generators_in-member hs (up i n) p l).1))

  wide : (i n : ℕ) → length (value_of m (n ∷ []) i) ≡ length (generators_in hs (up i n))
  wide i n = let one : degree_of (n ∷ []) ≡ n = omega arith in is.widths (n ∷ []) i ∙ ap (λ k. width hs (up i k)) one

  pub listed : (k : ℕ × ℕ) → is_there m k ≡ true → (j : ℕ) × ((js : List ℕ) × (numbers m k.0 k.1 ≡ j ∷ js))
  listed k h = some_number (value_of m (k.1 ∷ []) k.0) (generators_in hs (up k.0 k.1)) (wide k.0 k.1) h

  abbrev entry_at : ℕ × ℕ → Entry
  entry_at k = record { n = k.1; generator = k.0; sum = numbers m k.0 k.1 }

  entry_read : (before : List Entry) (k : ℕ × ℕ) → IsKey m k → is_there m k ≡ true → AllByRecursion (HasSum (numbers m)) before → entry_of hs before (written (string (line_of m k))) ≡ Ok (entry_at k)
  entry_read before k key h all =
      let some = listed k h in
      let e : numbers m k.0 k.1 ≡ some.0 ∷ some.1.0 = some.1.1 in
      ap (λ js. entry_of hs before (written (string (line k.1 (name_at hs k.0) (map (name_at hs) js))))) e
      ∙ entry_is hs named few before k.1 k.0 some.0 some.1.0 key.square key.positive key.generator (subst (AllByRecursion (λ j. j < length hs)) e (below k.0 k.1)) (subst (RisesFrom 0) e (rising k.0 k.1)) (subst (AllByRecursion (λ j. degree_at hs j ≡ up k.0 k.1)) e (in_degree k.0 k.1))
      ∙ ap (λ js. unless_repeated before (record { n = k.1; generator = k.0; sum = js })) (sym e)
      ∙ not_repeated (numbers m) before (entry_at k) refl all

  one_read : (before : List Entry) (k : ℕ × ℕ) (rest : List (List ℕ)) → entry_of hs before (written (string (line_of m k))) ≡ Ok (entry_at k) → entries_from hs before (item (string (line_of m k)) (items_of rest)) ≡ entries_from hs (before ++ entry_at k ∷ []) (items_of rest)
  one_read before k rest h = rw h refl

  sums_pushed : (before : List Entry) (k : ℕ × ℕ) → AllByRecursion (HasSum (numbers m)) before → AllByRecursion (HasSum (numbers m)) (before ++ entry_at k ∷ [])
  sums_pushed [] k h = (refl, tt)
  sums_pushed (e ∷ es) k h = (h.0, sums_pushed es k h.1)

  all_read : (ks : List (ℕ × ℕ)) (before : List Entry) → AllByRecursion (IsKey m) ks → AllByRecursion (HasSum (numbers m)) before → entries_from hs before (items_of (flat_map (lines_of m) ks)) ≡ Ok (before ++ flat_map (file_entry m) ks)
  all_read [] before key h = ap Ok (sym (append-nil before))
  all_read (k ∷ ks) before key h = at (is_there m k) refl (all_read ks before key.1 h) (λ j. all_read ks (before ++ entry_at k ∷ []) key.1 j)
    where
      at : (b : Bool) → is_there m k ≡ b → entries_from hs before (items_of (flat_map (lines_of m) ks)) ≡ Ok (before ++ flat_map (file_entry m) ks)
          → (AllByRecursion (HasSum (numbers m)) (before ++ entry_at k ∷ []) → entries_from hs (before ++ entry_at k ∷ []) (items_of (flat_map (lines_of m) ks)) ≡ Ok ((before ++ entry_at k ∷ []) ++ flat_map (file_entry m) ks))
          → entries_from hs before (items_of ((if b then line_of m k ∷ [] else []) ++ flat_map (lines_of m) ks)) ≡ Ok (before ++ ((if b then entry_at k ∷ [] else []) ++ flat_map (file_entry m) ks))
      at true e without with_it =
          one_read before k (flat_map (lines_of m) ks) (entry_read before k key.0 e h)
          ∙ with_it (sums_pushed before k h)
          ∙ ap Ok (append_assoc before (entry_at k ∷ []) (flat_map (file_entry m) ks))
      at false e without with_it = without

  pub entries_read : entries_from hs [] (items_of (flat_map (lines_of m) (squares_of m))) ≡ Ok (flat_map (file_entry m) (squares_of m))
  entries_read = all_read (squares_of m) [] (keys m) tt
