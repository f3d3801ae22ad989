-- The file of a module is accepted, and gives the module back.
use Rattle.std.specs.List.{All, flat_map, range_with_len, items_where_true, list_all, list_any}
use Rattle.std.specs.Int.{is_power_of_two}
use Rattle.std.specs.Bool.{beq}
use Rattle.std.specs.Option.{option_or}
use Rattle.std.specs.Cmp.Lexicographic.{pointwise}
use Rattle.std.proofs.Common.{◌≡◌, ◌≢◌, ℕ, zero, suc, ◌+◌, ◌<◌, ◌≤◌, ℤ, pos, ◌+ℤ◌, inl, inr, Bool, true, false, not, ◌&&◌, ◌||◌, ◌==◌, nat_eq, if◌then◌else◌, List, [], ◌∷◌, ◌++◌, length, map, get_or, Some, None, refl, ap, sym, subst, ◌∙◌, arith}
use Rattle.std.proofs.Math.Bool as Booleans
use Rattle.std.proofs.lemmas.Bool.{cases_eq, cases_lt, and_from, and_parts, eq-eqb, eqb-true, ne_eqb, false≢true}
use Rattle.std.proofs.lemmas.Bool.Decides.{Decides-eqb}
use Rattle.std.proofs.lemmas.List.{length-map}
use Rattle.std.proofs.lemmas.List.Elements.{All-cons, All-head, All-map, All-nil, All-tail}
use Rattle.f2_vec.specs.Spans.{combination}
use Rattle.f2_vec.proofs.Combinations.{map_same, map_same_all}
use Rattle.milnor_basis.specs.Exponents.{degree_of, IsTrimmed}
use Rattle.milnor_basis.specs.Product.{product_terms}
use Rattle.milnor_basis.proofs.Ranges.{All-range, list_all-holds}
use Rattle.hopf_laws.proofs.Splittings.{All-flat_map}
use Rattle.module_spec.specs.Spec.{Generator, Entry, degree_at, powers}
use Rattle.finite_module.specs.Module.{Module, generators_in, width, total}
use Rattle.finite_module.specs.ModuleLaws.{generators_in-member}
use Rattle.finite_module.specs.DerivedAction.{listed_sum, sum_vector, span, derived_module}
use Rattle.module_check.specs.Acceptance.{listed_from, first_relation}
use Rattle.finite_module.specs.Axioms.{IsModule, value_of, one_by_one, by_their_product}
use Rattle.module_spec.specs.WellFormed.{NeverFall}
use Rattle.module_check.specs.declared.fault.CheckFault.TheVariants.{Listed}
use Rattle.finite_module.proofs.AboveSpan.{width_above_span}
use Rattle.finite_module.proofs.Widths.{terms_of_degree}
use Rattle.finite_module.proofs.Values.{both_empty}
use Rattle.derived_laws.specs.Unique.{ActsAsListed}
use Rattle.derived_laws.proofs.UniqueDerived.{derived_is_unique}
use Rattle.module_check.proofs.Powers.{none_fails}
use Rattle.built_laws.proofs.Values.{numbers_from-rising}
use Rattle.file_laws.specs.Files.{entry_of, squares_of, file_of, FilesGiveBack}

-- A vector by the names of its elements.

absent : (ns : List ℕ) (v : List Bool) (j : ℕ) → ((p : ℕ) → p < length ns → get_or ns p 0 ≢ j) → list_any (nat_eq j) (items_where_true v ns) ≡ false
absent ns [] j h = refl
absent [] (b ∷ v) j h = refl
absent (n ∷ ns) (true ∷ v) j h = ap (λ b. b || list_any (nat_eq j) (items_where_true v ns)) (ne_eqb j n (λ e. h 0 (omega arith) (sym e))) ∙ absent ns v j (λ p l. h (suc p) (omega arith))
absent (n ∷ ns) (false ∷ v) j h = absent ns v j (λ p l. h (suc p) (omega arith))

by_names : (ns : List ℕ) → ((p q : ℕ) → p < q → q < length ns → get_or ns p 0 < get_or ns q 0) → (v : List Bool) → length v ≡ length ns → map (λ j. list_any (nat_eq j) (items_where_true v ns)) ns ≡ v
by_names [] rising [] e = refl
by_names [] rising (b ∷ v) e = cc
by_names (n ∷ ns) rising [] e = cc
by_names (n ∷ ns) rising (true ∷ v) e =
    ap (λ b. (b || list_any (nat_eq n) (items_where_true v ns)) ∷ map (λ j. nat_eq j n || list_any (nat_eq j) (items_where_true v ns)) ns) (eq-eqb n n refl)
    ∙ ap (λ w. true ∷ w)
    (map_same 0 (λ j. nat_eq j n || list_any (nat_eq j) (items_where_true v ns)) (λ j. list_any (nat_eq j) (items_where_true v ns)) ns
    (λ p l. ap (λ b. b || list_any (nat_eq (get_or ns p 0)) (items_where_true v ns)) (ne_eqb (get_or ns p 0) n (λ g. omega (arith, rising 0 (suc p) (omega arith) (omega arith)))))
    ∙ by_names ns (λ p q l k. rising (suc p) (suc q) (omega arith) (omega arith)) v (omega arith))
by_names (n ∷ ns) rising (false ∷ v) e =
    ap (λ b. b ∷ map (λ j. list_any (nat_eq j) (items_where_true v ns)) ns) (absent ns v n (λ p l g. omega (arith, rising 0 (suc p) (omega arith) (omega arith))))
    ∙ ap (λ w. false ∷ w) (by_names ns (λ p q l k. rising (suc p) (suc q) (omega arith) (omega arith)) v (omega arith))

all_zero : (v : List Bool) (ns : List ℕ) → length v ≡ length ns → list_any (λ b. b) v ≡ false → map (λ j. false) ns ≡ v
all_zero [] [] e h = refl
all_zero [] (n ∷ ns) e h = cc
all_zero (b ∷ v) [] e h = cc
all_zero (true ∷ v) (n ∷ ns) e h = absurd (false≢true (sym h))
all_zero (false ∷ v) (n ∷ ns) e h = ap (λ w. false ∷ w) (all_zero v ns (omega arith) h)

-- the powers of two that a degree can be
is_listed : ℕ → Bool
is_listed n = not (is_power_of_two n) || list_any (nat_eq n) powers

all_listed : list_all (λ n. not (is_power_of_two n) || list_any (nat_eq n) powers) (range_with_len 0 65) ≡ true
unfolding lib.Count.ones
all_listed = refl

power_listed : (n : ℕ) → is_power_of_two n ≡ true → n ≤ 64 → list_any (nat_eq n) powers ≡ true
power_listed n e l = at (is_power_of_two n) e (list_all-holds (λ k. not (is_power_of_two k) || list_any (nat_eq k) powers) 0 65 n (omega arith) (omega arith) all_listed)
  where
    at : (b : Bool) → b ≡ true → (not b || list_any (nat_eq n) powers) ≡ true → list_any (nat_eq n) powers ≡ true
    at true g h = h
    at false g h = absurd (false≢true g)

-- What is listed for a square, in a list of entries that some keys have.
module _ (c : ℕ × ℕ → Bool) (s : ℕ × ℕ → List ℕ) where
  abbrev entry_at : ℕ × ℕ → List Entry
  entry_at k = if c k then record { n = k.1; generator = k.0; sum = s k } ∷ [] else []

  abbrev has_key : ℕ → ℕ → List (ℕ × ℕ) → Bool
  has_key n i [] = false
  has_key n i (k ∷ ks) = if k.1 == n && k.0 == i then true else has_key n i ks

  found : (n i : ℕ) (ks : List (ℕ × ℕ)) → listed_sum (flat_map entry_at ks) n i ≡ (if has_key n i ks && c (i, n) then s (i, n) else [])
  found n i [] = refl
  found n i (k ∷ ks) = at (c k) (k.1 == n && k.0 == i) refl refl (found n i ks)
    where
      key : (k.1 == n && k.0 == i) ≡ true → k ≡ (i, n)
      key h = let two = and_parts (k.1 == n) (k.0 == i) h in ap (λ x. (x, k.1)) ((Decides-eqb k.0 i).0 two.1) ∙ ap (λ y. (i, y)) ((Decides-eqb k.1 n).0 two.0)

      at : (b d : Bool) → c k ≡ b → (k.1 == n && k.0 == i) ≡ d → listed_sum (flat_map entry_at ks) n i ≡ (if has_key n i ks && c (i, n) then s (i, n) else [])
          → listed_sum ((if b then record { n = k.1; generator = k.0; sum = s k } ∷ [] else []) ++ flat_map entry_at ks) n i ≡ (if (if d then true else has_key n i ks) && c (i, n) then s (i, n) else [])
      at true true e h ih = ap (λ d. if d then s k else listed_sum (flat_map entry_at ks) n i) h ∙ ap s (key h) ∙ sym (ap (λ d. if d then s (i, n) else []) (ap c (sym (key h)) ∙ e))
      at true false e h ih = ap (λ d. if d then s k else listed_sum (flat_map entry_at ks) n i) h ∙ ih
      at false true e h ih = ih ∙ ap (λ d. if has_key n i ks && d then s (i, n) else []) none ∙ ap (λ d. if d then s (i, n) else []) (Booleans.and-false (has_key n i ks)) ∙ sym (ap (λ d. if d then s (i, n) else []) none)
        where
          none : c (i, n) ≡ false
          none = ap c (sym (key h)) ∙ e
      at false false e h ih = ih

  has_key-append : (n i : ℕ) (ks ls : List (ℕ × ℕ)) → has_key n i ls ≡ true → has_key n i (ks ++ ls) ≡ true
  has_key-append n i [] ls h = h
  has_key-append n i (k ∷ ks) ls h = at (k.1 == n && k.0 == i) (has_key-append n i ks ls h)
    where
      at : (d : Bool) → has_key n i (ks ++ ls) ≡ true → (if d then true else has_key n i (ks ++ ls)) ≡ true
      at true g = refl
      at false g = g

  has_key-row : (n i : ℕ) (ps : List ℕ) (ls : List (ℕ × ℕ)) → list_any (nat_eq n) ps ≡ true → has_key n i (map (λ p. (i, p)) ps ++ ls) ≡ true
  has_key-row n i [] ls h = absurd (false≢true h)
  has_key-row n i (p ∷ ps) ls h = at (nat_eq n p) refl h (has_key-row n i ps ls)
    where
      at : (d : Bool) → nat_eq n p ≡ d → (d || list_any (nat_eq n) ps) ≡ true → (list_any (nat_eq n) ps ≡ true → has_key n i (map (λ q. (i, q)) ps ++ ls) ≡ true) → (if p == n && i == i then true else has_key n i (map (λ q. (i, q)) ps ++ ls)) ≡ true
      at true e g ih = ap (λ d. if d then true else has_key n i (map (λ q. (i, q)) ps ++ ls)) (and_from (p == n) (i == i) ((Decides-eqb p n).1 (sym (eqb-true n p e))) ((Decides-eqb i i).1 refl))
      at false e g ih = either (p == n && i == i) (has_key n i (map (λ q. (i, q)) ps ++ ls)) (ih g)
        where
          either : (d x : Bool) → x ≡ true → (if d then true else x) ≡ true
          either true x h = refl
          either false x h = h

  has_key-all : (n i a b : ℕ) → list_any (nat_eq n) powers ≡ true → a ≤ i → i < a + b → has_key n i (flat_map (λ j. map (λ p. (j, p)) powers) (range_with_len a b)) ≡ true
  has_key-all n i a zero h l k = absurd (omega arith)
  has_key-all n i a (suc b) h l k = elim (cases_eq i a) [
    | inl e ↦ subst (λ j. has_key n i (map (λ p. (j, p)) powers ++ flat_map (λ x. map (λ p. (x, p)) powers) (range_with_len (a + 1) b)) ≡ true) e (has_key-row n i powers (flat_map (λ x. map (λ p. (x, p)) powers) (range_with_len (a + 1) b)) h)
    | inr d ↦ has_key-append n i (map (λ p. (a, p)) powers) (flat_map (λ x. map (λ p. (x, p)) powers) (range_with_len (a + 1) b)) (has_key-all n i (a + 1) b h (omega arith) (omega arith))
  ]

module _ (m : Module) (in_order : NeverFall m.generators) (near : span m.generators ≤ 64) (is : IsModule m) where
  abbrev gs : List Generator
  gs = m.generators

  abbrev not_zero : ℕ × ℕ → Bool
  not_zero k = list_any (λ b. b) (value_of m (k.1 ∷ []) k.0)

  abbrev items : ℕ × ℕ → List ℕ
  items k = items_where_true (value_of m (k.1 ∷ []) k.0) (generators_in gs (degree_at gs k.0 +ℤ pos k.1))

  listed : ActsAsListed (file_of m) m.operators
  listed n i e l = elim (cases_lt 64 n) [
    | inl past ↦
        let t : ℤ = degree_at gs i +ℤ pos n in
        let none : width gs t ≡ 0 = width_above_span gs i n in_order l (omega arith) in
        let one : degree_of (n ∷ []) ≡ n = omega arith in
        both_empty (value_of m (n ∷ []) i) (sum_vector gs (listed_sum (file_of m).entries n i) t) (is.widths (n ∷ []) i ∙ ap (λ k. width gs (degree_at gs i +ℤ pos k)) one ∙ none) (length-map (generators_in gs t) (λ j. list_any (nat_eq j) (listed_sum (file_of m).entries n i)) ∙ none)
    | inr within ↦
        let t : ℤ = degree_at gs i +ℤ pos n in
        let one : degree_of (n ∷ []) ≡ n = omega arith in
        let wide : length (value_of m (n ∷ []) i) ≡ width gs t = is.widths (n ∷ []) i ∙ ap (λ k. width gs (degree_at gs i +ℤ pos k)) one in
        sym (ap (λ ns. sum_vector gs ns t) (found not_zero items n i (squares_of m) ∙ ap (λ b. if b && not_zero (i, n) then items (i, n) else []) (has_key-all not_zero items n i 0 (length gs) (power_listed n e within) (omega arith) (omega arith)))
        ∙ at (not_zero (i, n)) refl wide)
  ]
    where
      at : (b : Bool) → not_zero (i, n) ≡ b → length (value_of m (n ∷ []) i) ≡ width gs (degree_at gs i +ℤ pos n) → sum_vector gs (if b then items (i, n) else []) (degree_at gs i +ℤ pos n) ≡ value_of m (n ∷ []) i
      at true h wide = by_names (generators_in gs (degree_at gs i +ℤ pos n)) (numbers_from-rising 0 gs (degree_at gs i +ℤ pos n)) (value_of m (n ∷ []) i) wide
      at false h wide = all_zero (value_of m (n ∷ []) i) (generators_in gs (degree_at gs i +ℤ pos n)) wide h

powers_are : All (λ n. is_power_of_two n ≡ true) powers
unfolding lib.Count.ones
powers_are =
    let P : ℕ → Type 0 = λ n. is_power_of_two n ≡ true in
    All-cons P 1 (2 ∷ 4 ∷ 8 ∷ 16 ∷ 32 ∷ 64 ∷ []) refl (All-cons P 2 (4 ∷ 8 ∷ 16 ∷ 32 ∷ 64 ∷ []) refl (All-cons P 4 (8 ∷ 16 ∷ 32 ∷ 64 ∷ []) refl (All-cons P 8 (16 ∷ 32 ∷ 64 ∷ []) refl (All-cons P 16 (32 ∷ 64 ∷ []) refl (All-cons P 32 (64 ∷ []) refl (All-cons P 64 [] refl (All-nil P)))))))

-- A module with the values of another has its relations.
module _ (d m : Module) (one : d.generators ≡ m.generators) (same : (r : List ℕ) (i : ℕ) → IsTrimmed r → i < length m.generators → value_of d r i ≡ value_of m r i) (is : IsModule m) where
  relations_too : (r s : List ℕ) (i : ℕ) → IsTrimmed r → IsTrimmed s → 0 < degree_of r → 0 < degree_of s → i < length m.generators → one_by_one d r s i ≡ by_their_product d r s i
  relations_too r s i hr hs pr ps l =
      let gs : List Generator = m.generators in
      let t : ℤ = degree_at gs i +ℤ pos (degree_of s) in
      let u : ℤ = degree_at gs i +ℤ pos (degree_of r + degree_of s) in
      ap (λ g. combination (width g (degree_at g i +ℤ pos (degree_of s) +ℤ pos (degree_of r))) (value_of d s i) (map (value_of d r) (generators_in g (degree_at g i +ℤ pos (degree_of s))))) one
      ∙ ap (λ v. combination (width gs (t +ℤ pos (degree_of r))) v (map (value_of d r) (generators_in gs t))) (same s i hs l)
      ∙ ap (combination (width gs (t +ℤ pos (degree_of r))) (value_of m s i)) (map_same 0 (value_of d r) (value_of m r) (generators_in gs t) (λ p h. same r (get_or (generators_in gs t) p 0) hr (generators_in-member gs t p h).0))
      ∙ is.relations r s i hr hs pr ps l
      ∙ sym (ap (λ g. total (width g (degree_at g i +ℤ pos (degree_of r + degree_of s))) (map (λ q. value_of d q i) (product_terms r s))) one
      ∙ ap (total (width gs u)) (map_same_all (λ q. IsTrimmed q × (degree_of q ≡ degree_of r + degree_of s)) (λ q. value_of d q i) (λ q. value_of m q i) (product_terms r s) (terms_of_degree r s) (λ q h. same q i h.0 l)))

  no_relation : first_relation d ≡ None
  no_relation = none_fails d (λ r s i hr hs pr ps l. relations_too r s i hr hs pr ps (omega (arith, ap length one)))

  no_entry : (k : ℕ) (es : List Entry) → All (λ e. is_power_of_two e.n ≡ true) es → listed_from d k es ≡ None
  no_entry k [] h = refl
  no_entry k (e ∷ es) h =
      ap (λ b. if b || pointwise beq (value_of d (e.n ∷ []) e.generator) (sum_vector d.generators e.sum (degree_at d.generators e.generator +ℤ pos e.n)) then listed_from d (suc k) es else Some (Listed k)) (All-head (λ (e : Entry). is_power_of_two e.n ≡ true) e es h)
      ∙ no_entry (suc k) es (All-tail (λ (e : Entry). is_power_of_two e.n ≡ true) e es h)

pub files_give_back : FilesGiveBack
files_give_back m in_order near is = (
  ap (λ o. option_or o (first_relation d)) (no_entry d m refl same is 0 (file_of m).entries entries)
      ∙ no_relation d m refl same is,
  record { count = refl; degrees = λ i l. refl; values = same },
)
  where
    d : Module
    d = derived_module (file_of m)

    same : (r : List ℕ) (i : ℕ) → IsTrimmed r → i < length m.generators → value_of (derived_module (file_of m)) r i ≡ value_of m r i
    same r i h l = sym (derived_is_unique (file_of m) m.operators in_order is (listed m in_order near is) r i h l)

    entries : All (λ (e : Entry). is_power_of_two e.n ≡ true) (file_of m).entries
    entries =
        All-flat_map (λ (e : Entry). is_power_of_two e.n ≡ true) (entry_of m) (λ k. is_power_of_two k.1 ≡ true) (squares_of m)
        (All-flat_map (λ (k : ℕ × ℕ). is_power_of_two k.1 ≡ true) (λ i. map (λ n. (i, n)) powers) (λ i. 0 ≤ i × (i < 0 + length m.generators)) (range_with_len 0 (length m.generators)) (All-range 0 (length m.generators))
        (λ i h. All-map (λ (k : ℕ × ℕ). is_power_of_two k.1 ≡ true) (λ n. (i, n)) powers powers_are))
        (λ k h. at k h (list_any (λ b. b) (value_of m (k.1 ∷ []) k.0)))
      where
        at : (k : ℕ × ℕ) → is_power_of_two k.1 ≡ true → (b : Bool) → All (λ (e : Entry). is_power_of_two e.n ≡ true) (if b then record { n = k.1; generator = k.0; sum = items_where_true (value_of m (k.1 ∷ []) k.0) (generators_in m.generators (degree_at m.generators k.0 +ℤ pos k.1)) } ∷ [] else [])
        at k h true = All-cons (λ (e : Entry). is_power_of_two e.n ≡ true) _ [] h (All-nil (λ (e : Entry). is_power_of_two e.n ≡ true))
        at k h false = All-nil (λ (e : Entry). is_power_of_two e.n ≡ true)
