-- A file whose actions are squares Sq(2^v) of which none starts where one ends: what it derives, and that this is a module.
use Rattle.std.proofs.Common.{◌≡◌, ◌⊎◌, ℕ, zero, suc, ◌+◌, ◌-◌, ◌*◌, ◌/◌, ◌%◌, ◌^◌, ◌<◌, ◌≤◌, ℤ, pos, ◌+ℤ◌, Bool, true, false, cond, not, ◌&&◌, ◌==◌, ◌||◌, nat_eq, nat_lt, List, [], ◌∷◌, length, map, get_or, All, refl, ap, sym, subst, ◌∙◌, inl, inr, arith}
use Rattle.std.specs.Int.{is_power_of_two}
use lib.Count.{ones}
use Rattle.std.specs.List.{range_with_len, list_any}
use Rattle.std.specs.Cmp.Lexicographic.{pointwise}
use borrow.Author.Tests.{ltb-true}
use Rattle.std.proofs.lemmas.Bool.{cases_eq, eqb-true, and_parts}
use Rattle.std.proofs.lemmas.Int.{ints}
use Rattle.std.proofs.lemmas.Nat.{div-add-mod'}
use Rattle.std.proofs.lemmas.List.{length-map, get_or-map}
use Rattle.std.proofs.lemmas.List.Elements.{All-cons, All-head, All-tail, All-nil, All-weaker, All-filter, filter_passes, All-from_get_or}
use Rattle.std.proofs.lemmas.List.FromFn.{get_or-range_with_len, length-range_with_len}
use Rattle.f2_vec.specs.Vectors.{sum_of, zeros, bit}
use Rattle.f2_vec.specs.Spans.{row, combination}
use Rattle.f2_vec.proofs.Sums.{length-zeros, bit-zeros, sum_of-zeros_right, one_within}
use Rattle.milnor_basis.specs.Exponents.{degree_of, degree_from, IsTrimmed}
use Rattle.milnor_basis.proofs.ExponentLemmas.{IsTrimmed-tail, length_within}
use Rattle.milnor_basis.specs.Basis.{basis_of}
use Rattle.milnor_basis.specs.Product.{choose, is_odd, coefficient, product_terms}
use Rattle.milnor_laws.proofs.Indecomposables.{indecomposable}
use Rattle.module_spec.specs.Spec.{Generator, Entry, File, degree_at}
use Rattle.finite_module.specs.Module.{generators_in, width, value, act_on, total}
use Rattle.milnor_basis.specs.Front.{front}
use Rattle.finite_module.specs.DerivedAction.{listed_sum, sum_vector, twice, by_adem, adem_terms, power_below, doubled_below, square_value, other_terms, by_product, derived_value}
use Rattle.finite_module.specs.Inside.Plain.{plain_value}
use Rattle.finite_module.proofs.Values.{width_of, degree_in}
use Rattle.milnor_basis.proofs.Fronts.{degree_of-front}
use Rattle.finite_module.proofs.Widths.{degree_of-single, terms_of_degree}

-- Each action is a square Sq(2^v), starts at a generator that is no end, and gives ends alone.
pub record ArePlain (is_end : ℕ → Bool) (entries : List Entry) : Type 0 where
  pub powers : All (λ e. (v : ℕ) × (e.n ≡ 2 ^ v)) entries
  pub tests : All (λ e. is_power_of_two e.n ≡ true) entries
  pub starts : All (λ e. is_end e.generator ≡ false) entries
  pub ends : All (λ e. All (λ j. is_end j ≡ true) e.sum) entries

-- ---- sums of zeros

-- a sum of rows of which those that are chosen are zero
combination-none : (n : ℕ) (v : List Bool) (rows : List (List Bool)) → ((k : ℕ) → k < length rows → bit v k ≡ true → row rows k ≡ zeros n) → combination n v rows ≡ zeros n
combination-none n [] rows h = refl
combination-none n (b ∷ v) [] h = refl
combination-none n (true ∷ v) (x ∷ rows) h =
    ap (sum_of x) (combination-none n v rows (λ k l e. h (suc k) (omega arith) e)) ∙ ap (λ y. sum_of y (zeros n)) (h 0 (omega arith) refl) ∙ sum_of-zeros_right n (zeros n) (length-zeros n)
combination-none n (false ∷ v) (x ∷ rows) h = combination-none n v rows (λ k l e. h (suc k) (omega arith) e)

pub total-none : (n : ℕ) (rows : List (List Bool)) → All (λ x. x ≡ zeros n) rows → total n rows ≡ zeros n
total-none n rows h = combination-none n (map (λ x. true) rows) rows (λ k l e. h k [] l)

pub All-map_where : {X Y : Type 0} (P : X → Type 0) (Q : Y → Type 0) (f : X → Y) (xs : List X) → All P xs → ((x : X) → P x → Q (f x)) → All Q (map f xs)
All-map_where P Q f [] h g = All-nil Q
All-map_where P Q f (x ∷ xs) h g = All-cons Q (f x) (map f xs) (g x (All-head P x xs h)) (All-map_where P Q f xs (All-tail P x xs h) g)

zeros-map : {X : Type 0} (xs : List X) → map (λ x. false) xs ≡ zeros (length xs)
zeros-map [] = refl
zeros-map (x ∷ xs) = ap (λ v. false ∷ v) (zeros-map xs)

pub All-both : {X : Type 0} (P Q : X → Type 0) (xs : List X) → All P xs → All Q xs → All (λ x. P x × Q x) xs
All-both P Q xs h g k d l = (h k d l, g k d l)

-- the terms of an Adem relation go from 1 to half of a
adem_terms_within : (a b : ℕ) → All (λ c. (0 < c) × (c ≤ a)) (adem_terms a b)
adem_terms_within a b =
    let whole : a / 2 * 2 + a % 2 ≡ a = div-add-mod' a 2 in
    let half : a / 2 ≤ a = omega arith in
    All-filter (λ c. is_odd (choose (b - c - 1) (a - 2 * c))) (λ c. (0 < c) × (c ≤ a)) (range_with_len 1 (a / 2))
    (All-from_get_or (λ c. (0 < c) × (c ≤ a)) (range_with_len 1 (a / 2)) 0 (λ k l. rw (get_or-range_with_len 1 (a / 2) k 0 (subst (λ m. k < m) (length-range_with_len 1 (a / 2)) l)) (omega arith, omega (arith, length-range_with_len 1 (a / 2)))))

-- ---- what is listed

-- no entry is the one that is looked for
listed_none : (P : Entry → Type 0) (es : List Entry) (n i : ℕ) → All P es → ((e : Entry) → P e → (e.n == n && e.generator == i) ≡ false) → listed_sum es n i ≡ []
listed_none P [] n i h g = refl
listed_none P (e ∷ es) n i h g =
    ap (λ b. cond b e.sum (listed_sum es n i)) (g e (All-head P e es h)) ∙ listed_none P es n i (All-tail P e es h) g

-- what is listed has what all sums have
listed_has : (P : ℕ → Type 0) (es : List Entry) (n i : ℕ) → All (λ e. All P e.sum) es → All P (listed_sum es n i)
listed_has P [] n i h = All-nil P
listed_has P (e ∷ es) n i h = by (e.n == n && e.generator == i) (All-head (λ x. All P x.sum) e es h) (listed_has P es n i (All-tail (λ x. All P x.sum) e es h))
  where
    by : (b : Bool) → All P e.sum → All P (listed_sum es n i) → All P (cond b e.sum (listed_sum es n i))
    by true here later = here
    by false here later = later

is_false : (b : Bool) → (b ≡ true → ⊥) → b ≡ false
is_false true h = absurd (h refl)
is_false false h = refl

true_false : true ≡ false → ⊥
true_false e = cc

one_of : (js : List ℕ) (p : ℕ → Bool) (j : ℕ) → All (λ k. p k ≡ true) js → list_any (nat_eq j) js ≡ true → p j ≡ true
one_of [] p j h e = cc
one_of (k ∷ js) p j h e = by (nat_eq j k) refl e (one_of js p j (All-tail (λ x. p x ≡ true) k js h))
  where
    by : (b : Bool) → nat_eq j k ≡ b → (b || list_any (nat_eq j) js) ≡ true → (list_any (nat_eq j) js ≡ true → p j ≡ true) → p j ≡ true
    by true same f later = ap p (eqb-true j k same) ∙ All-head (λ x. p x ≡ true) k js h
    by false other f later = later f

sum_vector-nothing : (gs : List Generator) (t : ℤ) → sum_vector gs [] t ≡ zeros (width gs t)
sum_vector-nothing gs t = zeros-map (generators_in gs t)

module _ (gs : List Generator) (entries : List Entry) (is_end : ℕ → Bool) (plain : ArePlain is_end entries) where
  single_width : (n i : ℕ) → width gs (degree_at gs i +ℤ pos n) ≡ width_of gs (n ∷ []) i
  single_width n i = ap (λ k. width gs (degree_at gs i +ℤ pos k)) (sym (degree_of-single n))

  plain_unlisted : (n i : ℕ) → listed_sum entries n i ≡ [] → plain_value gs entries (n ∷ []) i ≡ zeros (width_of gs (n ∷ []) i)
  plain_unlisted n i e =
      ap (λ js. sum_vector gs js (degree_at gs i +ℤ pos n)) e ∙ sum_vector-nothing gs (degree_at gs i +ℤ pos n) ∙ ap zeros (single_width n i)

  -- nothing starts at an end
  pub plain_at_end : (r : List ℕ) (i : ℕ) → 0 < degree_of r → is_end i ≡ true → plain_value gs entries r i ≡ zeros (width_of gs r i)
  plain_at_end [] i above e = absurd (omega arith)
  plain_at_end (n ∷ []) i above e =
      plain_unlisted n i (listed_none (λ x. is_end x.generator ≡ false) entries n i plain.starts (λ x s. is_false (x.n == n && x.generator == i) (λ b.
      true_false (sym e ∙ ap is_end (sym (eqb-true x.generator i (and_parts (x.n == n) (x.generator == i) b).1)) ∙ s))))
  plain_at_end (r ∷ s ∷ rs) i above e = refl

  -- and each value is a sum of ends
  pub plain_ends : (r : List ℕ) (i k : ℕ) → 0 < degree_of r → bit (plain_value gs entries r i) k ≡ true → is_end (get_or (generators_in gs (degree_at gs i +ℤ pos (degree_of r))) k 0) ≡ true
  plain_ends [] i k above e = absurd (omega arith)
  plain_ends (n ∷ []) i k above e =
      let t : ℤ = degree_at gs i +ℤ pos n in
      let js : List ℕ = listed_sum entries n i in
      let l : k < length (generators_in gs t) = omega (arith, one_within (sum_vector gs js t) k e, length-map (generators_in gs t) (λ j. list_any (nat_eq j) js)) in
      let at : bit (sum_vector gs js t) k ≡ list_any (nat_eq (get_or (generators_in gs t) k 0)) js = get_or-map (λ j. list_any (nat_eq j) js) (generators_in gs t) k 0 false l in
      ap (λ d. is_end (get_or (generators_in gs (degree_at gs i +ℤ pos d)) k 0)) (degree_of-single n)
      ∙ one_of js is_end (get_or (generators_in gs t) k 0) (listed_has (λ j. is_end j ≡ true) entries n i plain.ends) (sym at ∙ e)
  plain_ends (r ∷ s ∷ rs) i k above e =
      absurd (true_false (sym e ∙ bit-zeros (width_of gs (r ∷ s ∷ rs) i) k))

  -- a term of a product acts as zero
  pub plain_term : (r s t : List ℕ) (i : ℕ) → 0 < degree_of r → 0 < degree_of s → degree_of t ≡ degree_of r + degree_of s → coefficient r s t ≡ true → plain_value gs entries t i ≡ zeros (width_of gs t i)
  plain_term r s [] i hr hs d e = absurd (omega arith)
  plain_term r s (n ∷ []) i hr hs d e =
      plain_unlisted n i (listed_none (λ x. (v : ℕ) × (x.n ≡ 2 ^ v)) entries n i plain.powers (λ x p. is_false (x.n == n && x.generator == i) (λ b.
      let same : n ≡ 2 ^ p.0 = sym (eqb-true x.n n (and_parts (x.n == n) (x.generator == i) b).0) ∙ p.1 in
      true_false (sym e ∙ ap (λ m. coefficient r s (m ∷ [])) same ∙ indecomposable r s p.0 hr hs))))
  plain_term r s (x ∷ y ∷ t) i hr hs d e = refl

  -- Each value is zero or as here: so it is while operators are put one behind the other.
  module _ (operators : List (List (List Bool))) (part : (r : List ℕ) (i : ℕ) → (value gs operators r i ≡ zeros (width_of gs r i)) ⊎ (value gs operators r i ≡ plain_value gs entries r i)) where
    value_at_end : (r : List ℕ) (i : ℕ) → 0 < degree_of r → is_end i ≡ true → value gs operators r i ≡ zeros (width_of gs r i)
    value_at_end r i above e = elim (part r i) [
      | inl z ↦ z
      | inr p ↦ p ∙ plain_at_end r i above e
    ]

    value_ends : (r : List ℕ) (i k : ℕ) → 0 < degree_of r → bit (value gs operators r i) k ≡ true → is_end (get_or (generators_in gs (degree_at gs i +ℤ pos (degree_of r))) k 0) ≡ true
    value_ends r i k above e = elim (part r i) [
      | inl z ↦ absurd (true_false (sym e ∙ ap (λ v. bit v k) z ∙ bit-zeros (width_of gs r i) k))
      | inr p ↦ plain_ends r i k above (ap (λ v. bit v k) (sym p) ∙ e)
    ]

    pub value_term : (r s t : List ℕ) (i : ℕ) → 0 < degree_of r → 0 < degree_of s → degree_of t ≡ degree_of r + degree_of s → coefficient r s t ≡ true → value gs operators t i ≡ zeros (width_of gs t i)
    value_term r s t i hr hs d e = elim (part t i) [
      | inl z ↦ z
      | inr p ↦ p ∙ plain_term r s t i hr hs d e
    ]

    -- one operation behind another is zero
    pub no_more : (p q : List ℕ) (t : ℤ) (i : ℕ) → 0 < degree_of p → 0 < degree_of q → t ≡ degree_at gs i +ℤ pos (degree_of q) → act_on gs operators p t (value gs operators q i) ≡ zeros (width gs (t +ℤ pos (degree_of p)))
    no_more p q t i hp hq at =
        let ns : List ℕ = generators_in gs t in
        combination-none (width gs (t +ℤ pos (degree_of p))) (value gs operators q i) (map (value gs operators p) ns) (λ k l e.
        let m : k < length ns = omega (arith, length-map ns (value gs operators p)) in
        let j : ℕ = get_or ns k 0 in
        let end : is_end j ≡ true = ap (λ d. is_end (get_or (generators_in gs d) k 0)) at ∙ value_ends q i k hq e in
        get_or-map (value gs operators p) ns k 0 [] m ∙ value_at_end p j hp end
        ∙ ap (λ d. zeros (width gs (d +ℤ pos (degree_of p)))) (degree_in gs t k m))

    no_twice : (p q i w : ℕ) → 0 < p → 0 < q → w ≡ width gs (degree_at gs i +ℤ pos (p + q)) → twice gs operators p q i ≡ zeros w
    no_twice p q i w hp hq e =
        let dp : degree_of (p ∷ []) ≡ p = degree_of-single p in
        let dq : degree_of (q ∷ []) ≡ q = degree_of-single q in
        let up : (degree_at gs i +ℤ pos q) +ℤ pos (degree_of (p ∷ [])) ≡ degree_at gs i +ℤ pos (p + q) = omega (arith, ints) in
        no_more (p ∷ []) (q ∷ []) (degree_at gs i +ℤ pos q) i (omega arith) (omega arith) (ap (λ d. degree_at gs i +ℤ pos d) (sym dq))
        ∙ ap (λ d. zeros (width gs d)) up ∙ ap zeros (sym e)

    no_adem : (a b i : ℕ) → 0 < a → 0 < b → by_adem gs operators a b i ≡ zeros (width gs (degree_at gs i +ℤ pos (a + b)))
    no_adem a b i ha hb =
        let w : ℕ = width gs (degree_at gs i +ℤ pos (a + b)) in
        total-none w (twice gs operators a b i ∷ map (λ c. twice gs operators (a + b - c) c i) (adem_terms a b))
        (All-cons (λ x. x ≡ zeros w) (twice gs operators a b i) (map (λ c. twice gs operators (a + b - c) c i) (adem_terms a b)) (no_twice a b i w ha hb refl)
        (All-map_where (λ c. (0 < c) × (c ≤ a)) (λ x. x ≡ zeros w) (λ c. twice gs operators (a + b - c) c i) (adem_terms a b) (adem_terms_within a b)
        (λ c h. let e : a + b - c + c ≡ a + b = omega (arith, h.1) in no_twice (a + b - c) c i w (omega (arith, h.1)) h.0 (ap (λ n. width gs (degree_at gs i +ℤ pos n)) (sym e)))))

-- ---- what is derived

one_is_power : is_power_of_two 1 ≡ true
unfolding ones
one_is_power = refl

above_one : (n : ℕ) → is_power_of_two (suc n) ≡ false → 1 < suc n
above_one zero e = absurd (true_false (sym one_is_power ∙ e))
above_one (suc n) e = omega arith

doubled_within : (k b n : ℕ) → 0 < b → b < n → (0 < doubled_below k b n) × (doubled_below k b n < n)
doubled_within zero b n h l = (h, l)
doubled_within (suc k) b n h l = by (nat_lt (2 * b) n) refl (doubled_within k (2 * b) n)
  where
    by : (t : Bool) → nat_lt (2 * b) n ≡ t → (0 < 2 * b → 2 * b < n → (0 < doubled_below k (2 * b) n) × (doubled_below k (2 * b) n < n)) → (0 < cond t (doubled_below k (2 * b) n) b) × (cond t (doubled_below k (2 * b) n) b < n)
    by true e more = more (omega arith) (ltb-true (2 * b) n e)
    by false e more = (h, l)

front_none : (i : ℕ) (s : List ℕ) → front s ≡ 0 → degree_from i s ≡ 0
front_none i [] e = refl
front_none i (r ∷ s) e =
    let none : r ≡ 0 = omega arith in
    let here : r * (2 ^ i - 1) ≡ 0 * (2 ^ i - 1) = ap (λ k. k * (2 ^ i - 1)) none in
    let later : degree_from (suc i) s ≡ 0 = front_none (suc i) s (omega arith) in
    omega arith

abbrev pub IsPart : List Generator → List Entry → List (List (List Bool)) → Type 0
IsPart gs entries operators = (r : List ℕ) (i : ℕ) → (value gs operators r i ≡ zeros (width_of gs r i)) ⊎ (value gs operators r i ≡ plain_value gs entries r i)

module _ (f : File) (is_end : ℕ → Bool) (plain : ArePlain is_end f.entries) (operators : List (List (List Bool))) (part : IsPart f.generators f.entries operators) where
  square_plain : (n i : ℕ) → square_value f operators (suc n) i ≡ plain_value f.generators f.entries (suc n ∷ []) i
  square_plain n i = by (is_power_of_two (suc n)) refl
    where
      by : (t : Bool) → is_power_of_two (suc n) ≡ t → cond t (sum_vector f.generators (listed_sum f.entries (suc n) i) (degree_at f.generators i +ℤ pos (suc n))) (by_adem f.generators operators (suc n - power_below (suc n)) (power_below (suc n)) i) ≡ sum_vector f.generators (listed_sum f.entries (suc n) i) (degree_at f.generators i +ℤ pos (suc n))
      by true e = refl
      by false e =
          let within = doubled_within (suc n) 1 (suc n) (omega arith) (above_one n e) in
          let p : ℕ = power_below (suc n) in
          let whole : suc n - p + p ≡ suc n = omega (arith, within.1) in
          let t : ℤ = degree_at f.generators i +ℤ pos (suc n) in
          let none : listed_sum f.entries (suc n) i ≡ [] = listed_none (λ x. is_power_of_two x.n ≡ true) f.entries (suc n) i plain.tests (λ x h. is_false (x.n == suc n && x.generator == i) (λ b.
          true_false (sym h ∙ ap is_power_of_two (eqb-true x.n (suc n) (and_parts (x.n == suc n) (x.generator == i) b).0) ∙ e))) in
          no_adem f.generators f.entries is_end plain operators part (suc n - p) p i (omega (arith, within.1)) within.0
          ∙ ap (λ k. zeros (width f.generators (degree_at f.generators i +ℤ pos k))) whole
          ∙ sym (ap (λ js. sum_vector f.generators js t) none ∙ sum_vector-nothing f.generators t)

  product_plain : (r s : ℕ) (rs : List ℕ) (i : ℕ) → IsTrimmed (r ∷ s ∷ rs) → by_product f.generators operators r (s ∷ rs) i ≡ plain_value f.generators f.entries (r ∷ s ∷ rs) i
  product_plain r s rs i tight =
      let gs : List Generator = f.generators in
      let u : List ℕ = front (r ∷ s ∷ rs) ∷ [] in
      let w : ℕ = width gs (degree_at gs i +ℤ pos (degree_of (r ∷ s ∷ rs))) in
      let low : 0 < degree_of (s ∷ rs) = omega (arith, length_within (s ∷ rs) (IsTrimmed-tail r (s ∷ rs) tight)) in
      let high : 0 < front (r ∷ s ∷ rs) = front_positive low in
      let single : degree_of u ≡ front (r ∷ s ∷ rs) = degree_of-single (front (r ∷ s ∷ rs)) in
      let degrees : degree_of (r ∷ s ∷ rs) ≡ front (r ∷ s ∷ rs) + degree_of (s ∷ rs) = degree_of-front r (s ∷ rs) in
      let up : (degree_at gs i +ℤ pos (degree_of (s ∷ rs))) +ℤ pos (degree_of u) ≡ degree_at gs i +ℤ pos (degree_of (r ∷ s ∷ rs)) = omega (arith, ints) in
      let first : act_on gs operators u (degree_at gs i +ℤ pos (degree_of (s ∷ rs))) (value gs operators (s ∷ rs) i) ≡ zeros w =
      no_more gs f.entries is_end plain operators part u (s ∷ rs) (degree_at gs i +ℤ pos (degree_of (s ∷ rs))) i (omega arith) low refl ∙ ap (λ d. zeros (width gs d)) up in
      let IsOne : List ℕ → Type 0 = λ t. (coefficient u (s ∷ rs) t ≡ true) × (degree_of t ≡ degree_of u + degree_of (s ∷ rs)) in
      let terms : All IsOne (product_terms u (s ∷ rs)) =
      All-both (λ t. coefficient u (s ∷ rs) t ≡ true) (λ t. degree_of t ≡ degree_of u + degree_of (s ∷ rs)) (product_terms u (s ∷ rs)) (filter_passes (coefficient u (s ∷ rs)) (basis_of (degree_of u + degree_of (s ∷ rs))))
      (All-weaker (λ t. IsTrimmed t × (degree_of t ≡ degree_of u + degree_of (s ∷ rs))) (λ t. degree_of t ≡ degree_of u + degree_of (s ∷ rs)) (λ t h. h.1) (product_terms u (s ∷ rs)) (terms_of_degree u (s ∷ rs))) in
      total-none w (act_on gs operators u (degree_at gs i +ℤ pos (degree_of (s ∷ rs))) (value gs operators (s ∷ rs) i) ∷ map (λ t. value gs operators t i) (other_terms r (s ∷ rs)))
      (All-cons (λ x. x ≡ zeros w) (act_on gs operators u (degree_at gs i +ℤ pos (degree_of (s ∷ rs))) (value gs operators (s ∷ rs) i)) (map (λ t. value gs operators t i) (other_terms r (s ∷ rs))) first
      (All-map_where IsOne (λ x. x ≡ zeros w) (λ t. value gs operators t i) (other_terms r (s ∷ rs)) (All-filter (λ t. not (pointwise nat_eq t (r ∷ s ∷ rs))) IsOne (product_terms u (s ∷ rs)) terms)
      (λ t h. let same : degree_of t ≡ degree_of (r ∷ s ∷ rs) = omega (arith, h.1) in
      value_term gs f.entries is_end plain operators part u (s ∷ rs) t i (omega arith) low h.1 h.0 ∙ ap (λ k. zeros (width gs (degree_at gs i +ℤ pos k))) same)))
    where
      front_positive : 0 < degree_of (s ∷ rs) → 0 < front (r ∷ s ∷ rs)
      front_positive low = elim (cases_eq (front (s ∷ rs)) 0) [
        | inl none ↦ let zero_degree : degree_of (s ∷ rs) ≡ 0 = front_none 1 (s ∷ rs) none in absurd (omega arith)
        | inr some ↦ omega arith
      ]

  -- what is derived from a part is as here
  pub derived_plain : (r : List ℕ) (i : ℕ) → IsTrimmed r → derived_value f operators r i ≡ plain_value f.generators f.entries r i
  derived_plain [] i tight = refl
  derived_plain (zero ∷ []) i tight = cc
  derived_plain (suc n ∷ []) i tight = square_plain n i
  derived_plain (r ∷ s ∷ rs) i tight = product_plain r s rs i tight
