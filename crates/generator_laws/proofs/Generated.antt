-- The elements of the algebra that act as their products do are closed under sums and products. So if the squares Sq^n, n a power of
-- two, are among them, each Sq(R) is.
use Rattle.std.specs.Prelude.{nat_eq, not}
use Rattle.std.specs.Cmp.Lexicographic.{bytes_decides, pointwise}
use Rattle.std.specs.Int.{is_power_of_two}
use Rattle.std.specs.List.{All, filter}
use Rattle.std.proofs.Common.{◌≡◌, ℕ, zero, suc, ◌+◌, ◌-◌, ◌*◌, ◌<◌, ◌≤◌, ℤ, pos, ◌+ℤ◌, Bool, true, false, ◌&&◌, List, [], ◌∷◌, length, map, refl, sym, subst, ◌∙◌, ap, inl, arith}
use Rattle.std.proofs.Math.Bool as Booleans
use Rattle.std.proofs.lemmas.Bool.{and_right}
use Rattle.std.proofs.lemmas.Cmp.{nat_list_eq_equiv}
use Rattle.std.proofs.lemmas.Int.{ints}
use Rattle.std.proofs.lemmas.List.Elements.{All-filter, All-head, All-tail, All-weaker}
use Rattle.f2_vec.specs.Vectors.{sum_of, plus}
use Rattle.f2_vec.specs.Spans.{HaveWidth, combination}
use Rattle.f2_vec.proofs.Combinations.{HaveWidth-map_where, map-map, map_same_all, combination-filter}
use Rattle.milnor_basis.specs.Exponents.{degree_of, IsTrimmed}
use Rattle.milnor_basis.specs.Basis.{basis_of}
use Rattle.milnor_basis.specs.Front.{front}
use Rattle.milnor_basis.specs.Product.{coefficient, product_terms, odd_by}
use Rattle.milnor_basis.proofs.BasisLemmas.{All-basis_of}
use Rattle.milnor_basis.proofs.ExponentLemmas.{IsTrimmed-tail}
use Rattle.milnor_basis.proofs.Fronts.{degree_of-front, front_of_degree, positive_front}
use Rattle.milnor_basis.proofs.Parity.{odd_by-filter, odd_by-same}
use Rattle.milnor_laws.proofs.Associative.{associative, odd_by-same_all, once_in_basis}
use Rattle.milnor_laws.proofs.Indecomposables.{single_trimmed}
use Rattle.milnor_laws.proofs.SumsModTwo.{odd_by-and, odd_by-none, odd_by-plus, plus-and}
use Rattle.free_module.specs.Graded.{GradedModule, IsLinear, KeepsWidths}
use Rattle.finite_module.specs.DerivedAction.{adem_terms, other_terms, power_below}
use Rattle.finite_module.proofs.Widths.{degree_of-single, terms_of_degree}
use Rattle.generator_laws.proofs.Coefficients.{adem_coefficient, adem_terms_within, power_below_is, product_coefficient}
use Rattle.generator_laws.proofs.Order.{Before, number, number_below, others_before}
use Rattle.generator_laws.proofs.Sums.{HasDegree, chosen, chosen-one, chosen-plus, chosen-same, chosen-total, filter-filter}

-- of the elements of a degree one is Sq(R)
odd_by-at : (n : ℕ) (r : List ℕ) → HasDegree n r → (p : List ℕ → Bool) → odd_by (λ x. pointwise nat_eq r x && p x) (basis_of n) ≡ p r
odd_by-at n r h p =
    odd_by-same (λ x. pointwise nat_eq r x && p x) (λ x. p r && pointwise nat_eq r x) (basis_of n) (λ x. at x (pointwise nat_eq r x) refl)
    ∙ odd_by-and (p r) (pointwise nat_eq r) (basis_of n)
    ∙ ap (λ b. p r && b) (once_in_basis n r h.0 h.1)
    ∙ Booleans.and-true (p r)
  where
    at : (x : List ℕ) (b : Bool) → pointwise nat_eq r x ≡ b → (pointwise nat_eq r x && p x) ≡ (p r && pointwise nat_eq r x)
    at x true e = ap (λ b. b && p x) e ∙ ap p (sym ((bytes_decides r x).0 e)) ∙ sym (Booleans.and-true (p r)) ∙ ap (λ b. p r && b) (sym e)
    at x false e = ap (λ b. b && p x) e ∙ sym (and_right (p r) (pointwise nat_eq r x) e)

-- the coefficient of Sq(U) in the product of a sum of elements of degree n with Sq(S)
abbrev pub times : ℕ → (List ℕ → Bool) → List ℕ → List ℕ → Bool
times n c s u = odd_by (λ q. coefficient q s u) (filter c (basis_of n))

times-by : (n : ℕ) (c : List ℕ → Bool) (s u : List ℕ) → times n c s u ≡ odd_by (λ q. c q && coefficient q s u) (basis_of n)
times-by n c s u = odd_by-filter (λ q. coefficient q s u) c (basis_of n)

times-none : (n : ℕ) (s u : List ℕ) → times n (λ q. false) s u ≡ false
times-none n s u = times-by n (λ q. false) s u ∙ odd_by-none (λ q. false && coefficient q s u) (basis_of n) (λ q. refl)

times-plus : (n : ℕ) (c d : List ℕ → Bool) (s u : List ℕ) → times n (λ q. plus (c q) (d q)) s u ≡ plus (times n c s u) (times n d s u)
times-plus n c d s u =
    let f : List ℕ → Bool = λ q. coefficient q s u in
    times-by n (λ q. plus (c q) (d q)) s u
    ∙ odd_by-same (λ q. plus (c q) (d q) && f q) (λ q. plus (c q && f q) (d q && f q)) (basis_of n) (λ q. plus-and (c q) (d q) (f q))
    ∙ odd_by-plus (λ q. c q && f q) (λ q. d q && f q) (basis_of n)
    ∙ ap (λ b. plus b (odd_by (λ q. d q && f q) (basis_of n))) (sym (times-by n c s u))
    ∙ ap (plus (times n c s u)) (sym (times-by n d s u))

times-same : (n : ℕ) (c d : List ℕ → Bool) (s u : List ℕ) → ((q : List ℕ) → HasDegree n q → c q ≡ d q) → times n c s u ≡ times n d s u
times-same n c d s u h =
    times-by n c s u
    ∙ odd_by-same_all (HasDegree n) (λ q. c q && coefficient q s u) (λ q. d q && coefficient q s u) (basis_of n) (All-basis_of n) (λ q k. ap (λ b. b && coefficient q s u) (h q k))
    ∙ sym (times-by n d s u)

times-one : (n : ℕ) (r s u : List ℕ) → HasDegree n r → times n (pointwise nat_eq r) s u ≡ coefficient r s u
times-one n r s u h = times-by n (pointwise nat_eq r) s u ∙ odd_by-at n r h (λ q. coefficient q s u)

module _ (m : GradedModule) (keeps : KeepsWidths m) (linear : IsLinear m) where
  abbrev wide : ℤ → ℕ → ℕ
  wide t n = m.width (t +ℤ pos n)

  abbrev on : ℤ → List Bool → List ℕ → List Bool
  on t v q = m.action q t v

  -- Sq(R) on Sq(S) is their product
  abbrev pub Acts : List ℕ → Type 0
  Acts r = (s : List ℕ) (t : ℤ) (v : List Bool) → IsTrimmed s → 0 < degree_of s → length v ≡ m.width t →
      m.action r (t +ℤ pos (degree_of s)) (m.action s t v) ≡ chosen (wide t (degree_of r + degree_of s)) (degree_of r + degree_of s) (on t v) (coefficient r s)

  -- a sum of elements of degree n on Sq(S) is their product
  abbrev pub SumActs : ℕ → (List ℕ → Bool) → Type 0
  SumActs n c = (s : List ℕ) (t : ℤ) (v : List Bool) → IsTrimmed s → 0 < degree_of s → length v ≡ m.width t →
      chosen (wide t (n + degree_of s)) n (on (t +ℤ pos (degree_of s)) (m.action s t v)) c ≡ chosen (wide t (n + degree_of s)) (n + degree_of s) (on t v) (times n c s)

  HaveWidth-on : (n : ℕ) (t : ℤ) (v : List Bool) → length v ≡ m.width t → HaveWidth (wide t n) (map (on t v) (basis_of n))
  HaveWidth-on n t v l = HaveWidth-map_where (HasDegree n) (wide t n) (on t v) (basis_of n) (λ q h. keeps q t v l ∙ ap (wide t) h.1) (All-basis_of n)

  up : (t : ℤ) (k n : ℕ) → wide (t +ℤ pos k) n ≡ wide t (n + k)
  up t k n = let e : (t +ℤ pos k) +ℤ pos n ≡ t +ℤ pos (n + k) = omega (arith, ints) in ap m.width e

  HaveWidth-twice : (n : ℕ) (s : List ℕ) (t : ℤ) (v : List Bool) → length v ≡ m.width t → HaveWidth (wide t (n + degree_of s)) (map (on (t +ℤ pos (degree_of s)) (m.action s t v)) (basis_of n))
  HaveWidth-twice n s t v l =
      subst (λ w. HaveWidth w (map (on (t +ℤ pos (degree_of s)) (m.action s t v)) (basis_of n))) (up t (degree_of s) n) (HaveWidth-on n (t +ℤ pos (degree_of s)) (m.action s t v) (keeps s t v l))

  -- ---- sums

  sum_acts-none : (n : ℕ) → SumActs n (λ q. false)
  sum_acts-none n s t v h p l =
      let w = wide t (n + degree_of s) in
      let k = n + degree_of s in
      let nothing : ℕ → List ℕ → Bool = λ x q. false in
      sym (chosen-total w n (on (t +ℤ pos (degree_of s)) (m.action s t v)) (HaveWidth-twice n s t v l) nothing [])
      ∙ chosen-total w k (on t v) (HaveWidth-on k t v l) nothing []
      ∙ chosen-same w k (on t v) (λ q. false) (times n (λ q. false) s) (λ u o. sym (times-none n s u))

  sum_acts-plus : (n : ℕ) (c d : List ℕ → Bool) → SumActs n c → SumActs n d → SumActs n (λ q. plus (c q) (d q))
  sum_acts-plus n c d one other s t v h p l =
      let w = wide t (n + degree_of s) in
      let k = n + degree_of s in
      let f : List ℕ → List Bool = on (t +ℤ pos (degree_of s)) (m.action s t v) in
      chosen-plus w n f (HaveWidth-twice n s t v l) c d
      ∙ ap (λ x. sum_of x (chosen w n f d)) (one s t v h p l)
      ∙ ap (sum_of (chosen w k (on t v) (times n c s))) (other s t v h p l)
      ∙ sym (chosen-plus w k (on t v) (HaveWidth-on k t v l) (times n c s) (times n d s))
      ∙ chosen-same w k (on t v) (λ u. plus (times n c s u) (times n d s u)) (times n (λ q. plus (c q) (d q)) s) (λ u o. sym (times-plus n c d s u))

  sum_acts-all : {X : Type 0} → (n : ℕ) (g : X → List ℕ → Bool) (xs : List X) → All (λ x. SumActs n (g x)) xs → SumActs n (λ t. odd_by (λ x. g x t) xs)
  sum_acts-all n g [] h = sum_acts-none n
  sum_acts-all n g (x ∷ xs) h =
      sum_acts-plus n (g x) (λ t. odd_by (λ y. g y t) xs) (All-head (λ y. SumActs n (g y)) x xs h) (sum_acts-all n g xs (All-tail (λ y. SumActs n (g y)) x xs h))

  sum_acts-same : (n : ℕ) (c d : List ℕ → Bool) → ((q : List ℕ) → HasDegree n q → c q ≡ d q) → SumActs n c → SumActs n d
  sum_acts-same n c d same acts s t v h p l =
      let w = wide t (n + degree_of s) in
      chosen-same w n (on (t +ℤ pos (degree_of s)) (m.action s t v)) d c (λ q o. sym (same q o))
      ∙ acts s t v h p l
      ∙ chosen-same w (n + degree_of s) (on t v) (times n c s) (times n d s) (λ u o. times-same n c d s u same)

  -- ---- one element

  acts_one : (r : List ℕ) → IsTrimmed r → SumActs (degree_of r) (pointwise nat_eq r) → Acts r
  acts_one r hr acts s t v h p l =
      let n = degree_of r in
      let w = wide t (n + degree_of s) in
      sym (chosen-one w n (on (t +ℤ pos (degree_of s)) (m.action s t v)) (HaveWidth-twice n s t v l) r (hr, refl))
      ∙ acts s t v h p l
      ∙ chosen-same w (n + degree_of s) (on t v) (times n (pointwise nat_eq r) s) (coefficient r s) (λ u o. times-one n r s u (hr, refl))

  one_acts : (n : ℕ) (r : List ℕ) → HasDegree n r → Acts r → SumActs n (pointwise nat_eq r)
  one_acts n r hr acts s t v h p l =
      let w = wide t (n + degree_of s) in
      chosen-one w n (on (t +ℤ pos (degree_of s)) (m.action s t v)) (HaveWidth-twice n s t v l) r hr
      ∙ acts s t v h p l
      ∙ ap (λ k. chosen (wide t (k + degree_of s)) (k + degree_of s) (on t v) (coefficient r s)) hr.1
      ∙ chosen-same w (n + degree_of s) (on t v) (coefficient r s) (times n (pointwise nat_eq r) s) (λ u o. sym (times-one n r s u hr))

  -- ---- products

  module _ (p q : List ℕ) (hq : IsTrimmed q) (positive : 0 < degree_of q) (first : Acts p) (second : Acts q) where
    abbrev both : ℕ
    both = degree_of p + degree_of q

    -- Sq(P) on the sum of the terms of Sq(Q) Sq(S)
    first_on_terms : (s : List ℕ) (t : ℤ) (v : List Bool) → length v ≡ m.width t →
        m.action p (t +ℤ pos (degree_of q + degree_of s)) (chosen (wide t (degree_of q + degree_of s)) (degree_of q + degree_of s) (on t v) (coefficient q s))
        ≡ chosen (wide t (both + degree_of s)) (both + degree_of s) (on t v) (times both (coefficient p q) s)
    first_on_terms s t v l =
        let k = degree_of q + degree_of s in
        let high = both + degree_of s in
        let w = wide t high in
        let whole : degree_of p + k ≡ high = omega arith in
        let bits : List Bool = map (coefficient q s) (basis_of k) in
        let widths : m.width ((t +ℤ pos k) +ℤ pos (degree_of p)) ≡ w = up t k (degree_of p) ∙ ap (wide t) whole in
        let each : map (m.action p (t +ℤ pos k)) (map (on t v) (basis_of k)) ≡ map (λ x. chosen w high (on t v) (coefficient p x)) (basis_of k) =
        map-map (m.action p (t +ℤ pos k)) (on t v) (basis_of k)
        ∙ map_same_all (HasDegree k) (λ x. m.action p (t +ℤ pos k) (m.action x t v)) (λ x. chosen w high (on t v) (coefficient p x)) (basis_of k) (All-basis_of k) (λ x o.
        let d = o.1 in
        ap (λ j. m.action p (t +ℤ pos j) (m.action x t v)) (sym o.1)
        ∙ first x t v o.0 (omega arith) l
        ∙ ap (λ j. chosen (wide t j) j (on t v) (coefficient p x)) (ap (λ j. degree_of p + j) o.1 ∙ whole)) in
        linear p (t +ℤ pos k) bits (map (on t v) (basis_of k)) (HaveWidth-on k t v l)
        ∙ ap (λ j. combination j bits (map (m.action p (t +ℤ pos k)) (map (on t v) (basis_of k)))) widths
        ∙ ap (combination w bits) each
        ∙ combination-filter w (coefficient q s) (λ x. chosen w high (on t v) (coefficient p x)) (basis_of k)
        ∙ chosen-total w high (on t v) (HaveWidth-on high t v l) (λ x. coefficient p x) (product_terms q s)
        ∙ chosen-same w high (on t v) (λ u. odd_by (λ x. coefficient p x u) (product_terms q s)) (times both (coefficient p q) s) (λ u o. sym (associative p q s u))

    sum_acts-product : SumActs both (coefficient p q)
    sum_acts-product s t v h above l =
        let a = t +ℤ pos (degree_of s) in
        let k = degree_of q + degree_of s in
        let e : a +ℤ pos (degree_of q) ≡ t +ℤ pos k = omega (arith, ints) in
        ap (λ w. chosen w both (on a (m.action s t v)) (coefficient p q)) (sym (up t (degree_of s) both))
        ∙ sym (first q a (m.action s t v) hq positive (keeps s t v l))
        ∙ ap (λ j. m.action p j (m.action q a (m.action s t v))) e
        ∙ ap (m.action p (t +ℤ pos k)) (second s t v h above l)
        ∙ first_on_terms s t v l

  -- ---- Sq^n by the Adem relation for Sq^a Sq^b, b the greatest power of two below n

  abbrev SquaresBelow : ℕ → Type 0
  SquaresBelow n = (q : ℕ) → 0 < q → q < n → Acts (q ∷ [])

  two_squares : (p q n : ℕ) → p + q ≡ n → 0 < p → 0 < q → SquaresBelow n → SumActs n (coefficient (p ∷ []) (q ∷ []))
  two_squares p q n e hp hq below =
      let dp = degree_of-single p in
      let dq = degree_of-single q in
      let whole : degree_of (p ∷ []) + degree_of (q ∷ []) ≡ n = omega arith in
      subst (λ k. SumActs k (coefficient (p ∷ []) (q ∷ []))) whole (sum_acts-product (p ∷ []) (q ∷ []) (single_trimmed q hq) (omega arith) (below p hp (omega arith)) (below q hq (omega arith)))

  square_acts : (n : ℕ) → 0 < n → is_power_of_two n ≡ false → SquaresBelow n → Acts (n ∷ [])
  square_acts n h other below =
      let power = power_below_is n h other in
      let b = power_below n in
      let a = n - b in
      let low = power.below in
      let high = power.near in
      let whole : a + b ≡ n = omega arith in
      let g : ℕ → List ℕ → Bool = λ c. coefficient ((a + b - c) ∷ []) (c ∷ []) in
      let terms : SumActs n (λ t. odd_by (λ c. g c t) (adem_terms a b)) =
      sum_acts-all n g (adem_terms a b) (All-weaker (λ c. (0 < c) × (2 * c ≤ a)) (λ c. SumActs n (g c)) (λ c o. let some = o.0 in let half = o.1 in two_squares (a + b - c) c n (omega arith) (omega arith) some below) (adem_terms a b) (adem_terms_within a b)) in
      let all : SumActs n (λ t. plus (coefficient (a ∷ []) (b ∷ []) t) (odd_by (λ c. g c t) (adem_terms a b))) =
      sum_acts-plus n (coefficient (a ∷ []) (b ∷ [])) (λ t. odd_by (λ c. g c t) (adem_terms a b)) (two_squares a b n whole (omega arith) (omega arith) below) terms in
      let one : SumActs n (pointwise nat_eq (n ∷ [])) =
      sum_acts-same n (λ t. plus (coefficient (a ∷ []) (b ∷ []) t) (odd_by (λ c. g c t) (adem_terms a b))) (pointwise nat_eq (n ∷ []))
      (λ t o. adem_coefficient a b power.exponent power.is (omega arith) (omega arith) t ∙ ap (λ k. pointwise nat_eq (k ∷ []) t) whole) all in
      acts_one (n ∷ []) (single_trimmed n h) (subst (λ k. SumActs k (pointwise nat_eq (n ∷ []))) (sym (degree_of-single n)) one)

  -- ---- Sq(R) by the product that it is a term of

  module _ (r : ℕ) (s : List ℕ) (h : IsTrimmed (r ∷ s)) (some : 0 < length s) (before : (t : List ℕ) → IsTrimmed t → 0 < degree_of t → Before t (r ∷ s) → Acts t) where
    abbrev u : ℕ
    u = front (r ∷ s)

    abbrev degree : ℕ
    degree = degree_of (r ∷ s)

    abbrev counted : List ℕ → Bool
    counted = coefficient (u ∷ []) s

    abbrev differs : List ℕ → Bool
    differs t = not (pointwise nat_eq t (r ∷ s))

    -- the sum of the other terms, element by element
    others_counted : (t : List ℕ) → HasDegree (degree_of (u ∷ []) + degree_of s) t → odd_by (λ x. pointwise nat_eq x t) (other_terms r s) ≡ (counted t && differs t)
    others_counted t o =
        let k = degree_of (u ∷ []) + degree_of s in
        let c : List ℕ → Bool = λ x. counted x && differs x in
        ap (odd_by (λ x. pointwise nat_eq x t)) (filter-filter differs counted (basis_of k))
        ∙ odd_by-filter (λ x. pointwise nat_eq x t) c (basis_of k)
        ∙ odd_by-same (λ x. c x && pointwise nat_eq x t) (λ x. pointwise nat_eq t x && c x) (basis_of k) (λ x. Booleans.and_comm (c x) (pointwise nat_eq x t) ∙ ap (λ b. b && c x) (nat_list_eq_equiv.symm x t))
        ∙ odd_by-at k t o c

    product_acts : Acts (r ∷ s)
    product_acts =
        let tight = IsTrimmed-tail r s h in
        let positive : 0 < u = positive_front (r ∷ s) (omega arith) h in
        let rest : 0 < degree_of s = omega (arith, positive_front s some tight, front_of_degree s) in
        let single = degree_of-single u in
        let split = degree_of-front r s in
        let whole : degree_of (u ∷ []) + degree_of s ≡ degree = omega arith in
        let square : IsTrimmed (u ∷ []) = single_trimmed u positive in
        let first : SumActs degree counted =
        subst (λ k. SumActs k counted) whole (sum_acts-product (u ∷ []) s tight rest (before (u ∷ []) square (omega arith) (inl (omega arith))) (before s tight rest (inl (omega arith)))) in
        let k = degree_of (u ∷ []) + degree_of s in
        let above : 0 < degree = omega arith in
        let own : All (λ t. (IsTrimmed t × Before t (r ∷ s)) × HasDegree k t) (other_terms r s) =
        λ j d l. (others_before r s h j d l, All-filter differs (HasDegree k) (product_terms (u ∷ []) s) (terms_of_degree (u ∷ []) s) j d l) in
        let terms : SumActs degree (λ t. odd_by (λ x. pointwise nat_eq x t) (other_terms r s)) =
        sum_acts-all degree (λ x. pointwise nat_eq x) (other_terms r s) (All-weaker (λ t. (IsTrimmed t × Before t (r ∷ s)) × HasDegree k t) (λ t. SumActs degree (pointwise nat_eq t))
        (λ t o. let same : degree_of t ≡ degree = o.1.1 ∙ whole in one_acts degree t (o.0.0, same) (before t o.0.0 (omega arith) o.0.1)) (other_terms r s) own) in
        let all : SumActs degree (λ t. plus (counted t) (odd_by (λ x. pointwise nat_eq x t) (other_terms r s))) =
        sum_acts-plus degree counted (λ t. odd_by (λ x. pointwise nat_eq x t) (other_terms r s)) first terms in
        acts_one (r ∷ s) h (sum_acts-same degree (λ t. plus (counted t) (odd_by (λ x. pointwise nat_eq x t) (other_terms r s))) (pointwise nat_eq (r ∷ s))
        (λ t o. ap (plus (counted t)) (others_counted t (subst (λ k. HasDegree k t) (sym whole) o)) ∙ product_coefficient r s h t) all)

  -- ---- each element

  module _ (power : (n : ℕ) → is_power_of_two n ≡ true → Acts (n ∷ [])) where
    numbered_acts : (bound : ℕ) (r : List ℕ) (h : IsTrimmed r) → 0 < degree_of r → number r h < bound → Acts r
    numbered_acts zero r h p l = absurd (omega arith)
    numbered_acts (suc bound) [] h p l = absurd (omega arith)
    numbered_acts (suc bound) (zero ∷ []) h p l = absurd (omega arith)
    numbered_acts (suc bound) (suc k ∷ []) h p l =
        at (is_power_of_two (suc k)) refl (λ q a b.
        let hq : IsTrimmed (q ∷ []) = single_trimmed q a in
        let dq = degree_of-single q in
        let dk = degree_of-single (suc k) in
        numbered_acts bound (q ∷ []) hq (omega arith) (omega (arith, number_below (q ∷ []) (suc k ∷ []) hq h (inl (omega arith)))))
      where
        at : (b : Bool) → is_power_of_two (suc k) ≡ b → SquaresBelow (suc k) → Acts (suc k ∷ [])
        at true e below = power (suc k) e
        at false e below = square_acts (suc k) (omega arith) e below
    numbered_acts (suc bound) (r ∷ x ∷ xs) h p l =
        product_acts r (x ∷ xs) h (omega arith) (λ t ht above b. numbered_acts bound t ht above (omega (arith, number_below t (r ∷ x ∷ xs) ht h b)))

    pub all_act : (r : List ℕ) → IsTrimmed r → 0 < degree_of r → Acts r
    all_act r h p = numbered_acts (suc (number r h)) r h p (omega arith)
