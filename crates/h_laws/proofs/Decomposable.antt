-- In degree 2^v, a vector of row 0 of the sphere without Sq(2^v) is d_1 of a vector that has no generator without an operation: each
-- other element of Milnor's basis is a sum of products of elements of lower degrees. In a degree above 0 that is no power of two each
-- vector is, by the Adem relations.
use Rattle.std.specs.Prelude.{not}
use Rattle.std.specs.Cmp.Lexicographic.{bytes_decides, pointwise}
use Rattle.std.specs.Int.{is_power_of_two}
use Rattle.std.specs.List.{All, filter}
use Rattle.std.proofs.Common.{◌≡◌, inl, inr, ℕ, zero, suc, ◌+◌, ◌-◌, ◌*◌, ◌^◌, ◌<◌, ◌≤◌, ℤ, pos, ◌+ℤ◌, ◌≤ℤ◌, Bool, true, false, cond, ◌&&◌, nat_eq, List, [], ◌∷◌, length, map, get_or, refl, ap, sym, subst, ◌∙◌, arith}
use Rattle.std.proofs.lemmas.Int.{ints}
use Rattle.std.proofs.lemmas.Nat.{pow_pos}
use Rattle.std.proofs.lemmas.Bool.{cases_eq, eq-eqb, false≢true, false_from_ne_true, ne_eqb}
use Rattle.std.proofs.lemmas.List.{ext_get_or, get_or-map, get_or_default, length-map, nil_from_length}
use Rattle.std.proofs.lemmas.List.Elements.{All-head, All-tail}
use Rattle.f2_vec.specs.Vectors.{bit, plus, sum_of, zeros}
use Rattle.f2_vec.specs.Spans.{row, combination, unit_vector, unit_vectors}
use Rattle.f2_vec.proofs.Sums.{bit-sum_of, bit-zeros, length-sum_of, length-zeros, plus-false, sum_of-cancel}
use Rattle.f2_vec.proofs.Split.{bit-unit_vector, combination-unit_vectors, length-unit_vector, length-unit_vectors, row-unit_vectors}
use Rattle.f2_vec.proofs.Combinations.{combination-unit_vector}
use Rattle.milnor_basis.specs.Exponents.{degree_of, IsTrimmed}
use Rattle.milnor_basis.specs.Basis.{basis_of}
use Rattle.milnor_basis.specs.Front.{front}
use Rattle.milnor_basis.specs.Product.{coefficient, odd_by}
use Rattle.milnor_basis.proofs.BasisLemmas.{Contains-basis_of}
use Rattle.milnor_basis.proofs.ExponentLemmas.{IsTrimmed-tail}
use Rattle.milnor_basis.proofs.Fronts.{degree_of-front, positive_front}
use Rattle.milnor_laws.proofs.FreeModules.{HaveWidth-acted, free_modules_are_modules}
use Rattle.milnor_laws.proofs.Indecomposables.{indecomposable, single_trimmed}
use Rattle.milnor_laws.proofs.UnitActs.{empty_or_positive}
use Rattle.free_module.specs.FreeModule.{free_basis, free_width, free_action, acted}
use Rattle.free_module.specs.FreeBasis.{element}
use Rattle.free_module.proofs.FreeBasis.{free_basis_is_pairs}
use Rattle.finite_module.specs.DerivedAction.{adem_terms, power_below}
use Rattle.finite_module.proofs.Widths.{degree_of-single}
use Rattle.generator_laws.proofs.Coefficients.{adem_coefficient, adem_terms_within, own_term, power_below_is}
use Rattle.generator_laws.proofs.Order.{Before, number, number_below, others_before}
use Rattle.generator_laws.proofs.Sums.{filter-filter}
use Rattle.resolution_laws.proofs.Generators.{element-IsOfDegree}
use Rattle.lift_laws.specs.Lifts.{Resolution, gens, degree, free, d, IsSphere}
use Rattle.lift_laws.proofs.Linear.{map-sum, map-zeros}
use Rattle.lift_laws.proofs.Facts.{HasNoBare, IsMap-d, preimage}
use Rattle.lift_laws.proofs.Bare.{action-HasNoBare}
use Rattle.lift_laws.proofs.Resolved.{IsResolved}
use Rattle.h_laws.proofs.Squares.{power}
use Rattle.h_laws.proofs.Sphere.{only_first, same_parts, unit_there, u}

-- what holds of all that pass holds of an element that does
passed : {X : Type 0} → (P : X → Type 0) (p : X → Bool) (d : X) (xs : List X) → All P (filter p xs) → (i : ℕ) → i < length xs → p (get_or xs i d) ≡ true → P (get_or xs i d)
passed P p d [] all i l e = absurd (omega arith)
passed P p d (x ∷ xs) all zero l e = All-head P x (filter p xs) (subst (λ (b : Bool). All P (cond b (x ∷ filter p xs) (filter p xs))) e all)
passed P p d (x ∷ xs) all (suc i) l e = passed P p d xs (rest (p x) all) i (omega arith) e
  where
    rest : (b : Bool) → All P (cond b (x ∷ filter p xs) (filter p xs)) → All P (filter p xs)
    rest true a = All-tail P x (filter p xs) a
    rest false a = a

-- the terms of the product of which Sq(R) is one
before_whole : (r : ℕ) (s t : List ℕ) → IsTrimmed (r ∷ s) → IsTrimmed t → degree_of t ≡ degree_of (r ∷ s) → coefficient (front (r ∷ s) ∷ []) s t ≡ true → (t ≡ r ∷ s → ⊥) → Before t (r ∷ s)
before_whole r s t h trimmed deg term other =
    let k = degree_of (front (r ∷ s) ∷ []) + degree_of s in
    let counted : List ℕ → Bool = coefficient (front (r ∷ s) ∷ []) s in
    let differs : List ℕ → Bool = λ x. not (pointwise nat_eq x (r ∷ s)) in
    let P : List ℕ → Type 0 = λ x. IsTrimmed x × Before x (r ∷ s) in
    let all : All P (filter (λ x. counted x && differs x) (basis_of k)) = subst (λ (xs : List (List ℕ)). All P xs) (filter-filter differs counted (basis_of k)) (others_before r s h) in
    let size : degree_of t ≡ k = omega (arith, degree_of-single (front (r ∷ s)), degree_of-front r s) in
    let c = Contains-basis_of k t trimmed size in
    let here : get_or (basis_of k) c.0 [] ≡ t = get_or_default (basis_of k) c.0 [] t c.1 ∙ c.2 in
    let apart : pointwise nat_eq t (r ∷ s) ≡ false = false_from_ne_true (pointwise nat_eq t (r ∷ s)) (λ e. other ((bytes_decides t (r ∷ s)).0 e)) in
    let passes : (counted t && differs t) ≡ true = ap (λ (b : Bool). b && differs t) term ∙ ap not apart in
    (subst P here (passed P (λ x. counted x && differs x) [] (basis_of k) all c.0 c.1 (ap (λ (x : List ℕ). counted x && differs x) here ∙ passes))).1

module _ (q : Resolution) (qs qt : ℕ) (o : IsResolved q qs qt) (sphere : IsSphere q) (rows : 1 ≤ qs) where
  -- w, of degree t, is d_1 of a vector that has no generator without an operation
  pub record IsPlain (t : ℤ) (w : List Bool) : Type 0 where
    pub vector : List Bool
    pub fits : length vector ≡ free_width (gens q 1) t
    pub bare : HasNoBare (gens q 1) t vector
    pub gives : d q 1 t vector ≡ w

  plain-zeros : (t : ℤ) → IsPlain t (zeros (free_width (gens q 0) t))
  plain-zeros t =
      let n = free_width (gens q 1) t in
      record {
        vector = zeros n;
        fits = length-zeros n;
        bare = λ j l e. bit-zeros n j;
        gives = map-zeros t (free q 1) (free q 0) (d q 1) (IsMap-d q qs qt o 1 t rows) t (omega (arith, ints));
      }

  plain-sum : (t : ℤ) (a b : List Bool) → IsPlain t a → IsPlain t b → IsPlain t (sum_of a b)
  plain-sum t a b x y =
      let same = x.fits ∙ sym y.fits in
      record {
        vector = sum_of x.vector y.vector;
        fits = length-sum_of x.vector y.vector same ∙ x.fits;
        bare = λ j l e. bit-sum_of x.vector y.vector j same ∙ (ap (λ (z : Bool). plus z (bit y.vector j)) (x.bare j l e) ∙ y.bare j l e);
        gives = map-sum t (free q 1) (free q 0) (d q 1) (IsMap-d q qs qt o 1 t rows) t x.vector y.vector (omega (arith, ints)) x.fits y.fits ∙ (ap (λ (z : List Bool). sum_of z (d q 1 t y.vector)) x.gives ∙ ap (sum_of a) y.gives);
      }

  plain-combination : (t : ℤ) (c : List Bool) (xs : List (List Bool)) → ((i : ℕ) → i < length xs → bit c i ≡ true → IsPlain t (row xs i)) → IsPlain t (combination (free_width (gens q 0) t) c xs)
  plain-combination t [] xs each = plain-zeros t
  plain-combination t (c ∷ cs) [] each = plain-zeros t
  plain-combination t (false ∷ cs) (x ∷ xs) each = plain-combination t cs xs (λ i l e. each (suc i) (omega arith) e)
  plain-combination t (true ∷ cs) (x ∷ xs) each =
      plain-sum t x (combination (free_width (gens q 0) t) cs xs) (each 0 (omega arith) refl) (plain-combination t cs xs (λ i l e. each (suc i) (omega arith) e))

  pub plain-units : (t : ℤ) (w : List Bool) → length w ≡ free_width (gens q 0) t → ((j : ℕ) → j < free_width (gens q 0) t → bit w j ≡ true → IsPlain t (unit_vector (free_width (gens q 0) t) j)) → IsPlain t w
  plain-units t w e each =
      let n = free_width (gens q 0) t in
      subst (IsPlain t) (combination-unit_vectors n w e) (plain-combination t w (unit_vectors n) (λ i l b.
      let within : i < n = omega (arith, length-unit_vectors n) in
      subst (IsPlain t) (sym (row-unit_vectors n i within)) (each i within b)))

  -- an operation of positive degree on a vector of a degree in which the sphere is zero
  plain-action : (r : List ℕ) (t : ℤ) (x : List Bool) → IsTrimmed r → 0 < degree_of r → length x ≡ free_width (gens q 0) t → t ≤ℤ (q.base.bottom +ℤ pos qt) → q.base.graded.width t ≡ 0 → IsPlain (t +ℤ pos (degree_of r)) (free_action (gens q 0) r t x)
  plain-action r t x h positive len low none =
      let top = t +ℤ pos (degree_of r) in
      let nothing : d q 0 t x ≡ zeros (q.base.graded.width t) =
      nil_from_length (d q 0 t x) ((IsMap-d q qs qt o 0 t (omega arith)).fits t x (omega (arith, ints)) len ∙ none) ∙ sym (ap zeros none) in
      let y = preimage q qs qt o 0 t x rows low len nothing in
      record {
        vector = free_action (gens q 1) r t y.vector;
        fits = (free_modules_are_modules (gens q 1)).widths r t y.vector y.fits;
        bare = action-HasNoBare (gens q 1) r t y.vector positive;
        gives = (IsMap-d q qs qt o 1 top rows).commutes r t y.vector h (omega (arith, ints)) y.fits ∙ ap (free_action (gens q 0) r t) y.gives;
      }

  -- the coefficients of Sq(R) Sq(S), where x is Sq(S) on the generator
  bit-product : (r s : List ℕ) (t w : ℤ) (i j : ℕ) → t +ℤ pos (degree_of r) ≡ w → i < free_width (gens q 0) t → element (free_basis (gens q 0) t) i ≡ (0, s) → j < free_width (gens q 0) w → (element (free_basis (gens q 0) w) j).0 ≡ 0 →
      bit (free_action (gens q 0) r t (unit_vector (free_width (gens q 0) t) i)) j ≡ coefficient r s (element (free_basis (gens q 0) w) j).1
  bit-product r s t w i j e l at k first =
      let ds = gens q 0 in
      let P : ℤ → Type 0 = λ above. j < free_width ds above → (element (free_basis ds above) j).0 ≡ 0 →
      bit (combination (free_width ds above) (unit_vector (free_width ds t) i) (map (acted ds r above) (free_basis ds t))) j ≡ coefficient r s (element (free_basis ds above) j).1 in
      let here : P (t +ℤ pos (degree_of r)) = λ k first.
      let above = t +ℤ pos (degree_of r) in
      let rows = map (acted ds r above) (free_basis ds t) in
      let f = element (free_basis ds above) j in
      let chosen : combination (free_width ds above) (unit_vector (free_width ds t) i) rows ≡ row rows i = combination-unit_vector (free_width ds above) (free_width ds t) i rows (HaveWidth-acted ds r t above) (length-map (free_basis ds t) (acted ds r above)) l in
      let is : row rows i ≡ acted ds r above (0, s) = get_or-map (acted ds r above) (free_basis ds t) i (0, []) [] l ∙ ap (acted ds r above) at in
      let value : bit (acted ds r above (0, s)) j ≡ (nat_eq f.0 0 && coefficient r s f.1) = get_or-map (λ (g : ℕ × List ℕ). nat_eq g.0 0 && coefficient r s g.1) (free_basis ds above) j (0, []) false k in
      ap (λ (z : List Bool). bit z j) (chosen ∙ is) ∙ (value ∙ ap (λ (b : Bool). b && coefficient r s f.1) (eq-eqb f.0 0 first)) in
      let Q : ℤ → Type 0 = λ above. bit (combination (free_width ds above) (unit_vector (free_width ds t) i) (map (acted ds r above) (free_basis ds t))) j ≡ coefficient r s (element (free_basis ds w) j).1 in
      subst Q (sym e) (subst P e here k first)

  module _ (m : ℕ) (above_zero : 0 < m) (reach : m ≤ qt) where
    abbrev t : ℤ
    t = q.base.bottom +ℤ pos m

    abbrev n : ℕ
    n = free_width (gens q 0) t

    abbrev at : ℕ → ℕ × List ℕ
    at j = element (free_basis (gens q 0) t) j

    -- an element of the basis of degree m
    pub record IsElement (j : ℕ) : Type 0 where
      pub first : (at j).0 ≡ 0
      pub trimmed : IsTrimmed (at j).1
      pub degree_is : degree_of (at j).1 ≡ m

    pub is_element : (j : ℕ) → j < n → IsElement j
    is_element j l =
        let is = element-IsOfDegree (gens q 0) t j l in
        let first = only_first q qs qt o sphere (at j).0 is.generator in
        let here : degree q 0 (at j).0 ≡ degree q 0 0 = ap (degree q 0) first in
        let one = (unit_there q qs qt o sphere).degree in
        let deg = is.degree in
        record { first = first; trimmed = is.trimmed; degree_is = omega (arith, ints) }

    -- there is such a vector with these coefficients
    record Has (f : List ℕ → Bool) : Type 0 where
      vector : List Bool
      fits : length vector ≡ n
      plain : IsPlain t vector
      bits : (j : ℕ) → j < n → bit vector j ≡ f (at j).1

    -- with those of Sq(k) Sq(S), for S of positive degree
    has_product : (k : ℕ) (s : List ℕ) → 0 < k → IsTrimmed s → 0 < degree_of s → k + degree_of s ≡ m → Has (coefficient (k ∷ []) s)
    has_product k s some trimmed above whole =
        let b = sphere.bottom in
        let w : ℤ = q.base.bottom +ℤ pos (degree_of s) in
        let unit = unit_there q qs qt o sphere in
        let one = unit.degree in
        let size = degree_of-single k in
        let e : w +ℤ pos (degree_of (k ∷ [])) ≡ t = omega (arith, ints) in
        let none : q.base.graded.width w ≡ 0 = sphere.none w (λ z. let zero_degree : degree_of s ≡ 0 = omega (arith, ints) in omega arith) in
        let c = ((free_basis_is_pairs (gens q 0) w).members (0, s)).1 (record { generator = unit.generator; trimmed = trimmed; degree = omega (arith, ints) }) in
        let place : element (free_basis (gens q 0) w) c.0 ≡ (0, s) = get_or_default (free_basis (gens q 0) w) c.0 (0, []) (0, s) c.1 ∙ c.2 in
        let x = unit_vector (free_width (gens q 0) w) c.0 in
        let y = free_action (gens q 0) (k ∷ []) w x in
        let len = length-unit_vector (free_width (gens q 0) w) c.0 in
        record {
          vector = y;
          fits = (free_modules_are_modules (gens q 0)).widths (k ∷ []) w x len ∙ ap (free_width (gens q 0)) e;
          plain = subst (λ (z : ℤ). IsPlain z y) e (plain-action (k ∷ []) w x (single_trimmed k some) (omega arith) len (omega (arith, ints)) none);
          bits = λ j l. bit-product (k ∷ []) s w t c.0 j e c.1 place l (is_element j l).first;
        }

    -- with those of the Adem relation for Sq(a) Sq(b), b the greatest power of two below m, that is those of Sq(m)
    module _ (other : is_power_of_two m ≡ false) where
      abbrev b : ℕ
      b = power_below m

      abbrev a : ℕ
      a = m - b

      two_squares : (x y : ℕ) → 0 < x → 0 < y → x + y ≡ m → Has (coefficient (x ∷ []) (y ∷ []))
      two_squares x y p k e =
          let size = degree_of-single y in
          has_product x (y ∷ []) p (single_trimmed y k) (omega arith) (omega arith)

      abbrev term : ℕ → List ℕ → Bool
      term c r = coefficient ((a + b - c) ∷ []) (c ∷ []) r

      added : (f h : List ℕ → Bool) → Has f → Has h → Has (λ r. plus (f r) (h r))
      added f h x y =
          let same = x.fits ∙ sym y.fits in
          record {
            vector = sum_of x.vector y.vector;
            fits = length-sum_of x.vector y.vector same ∙ x.fits;
            plain = plain-sum t x.vector y.vector x.plain y.plain;
            bits = λ j l. bit-sum_of x.vector y.vector j same ∙ (ap (λ (z : Bool). plus z (bit y.vector j)) (x.bits j l) ∙ ap (plus (f (at j).1)) (y.bits j l));
          }

      terms_added : (cs : List ℕ) → All (λ c. (0 < c) × (2 * c ≤ a)) cs → Has (λ r. odd_by (λ c. term c r) cs)
      terms_added [] all = record { vector = zeros n; fits = length-zeros n; plain = plain-zeros t; bits = λ j l. bit-zeros n j }
      terms_added (c ∷ cs) all =
          let first = All-head (λ c. (0 < c) × (2 * c ≤ a)) c cs all in
          let some = first.0 in
          let half = first.1 in
          let below = (power_below_is m above_zero other).below in
          added (term c) (λ r. odd_by (λ c. term c r) cs) (two_squares (a + b - c) c (omega arith) some (omega arith)) (terms_added cs (All-tail (λ c. (0 < c) × (2 * c ≤ a)) c cs all))

      -- so Sq(m) is such a vector
      single_plain : (j : ℕ) → j < n → (at j).1 ≡ m ∷ [] → IsPlain t (unit_vector n j)
      single_plain j l e =
          let power = power_below_is m above_zero other in
          let below = power.below in
          let near = power.near in
          let whole : a + b ≡ m = omega arith in
          let x = added (coefficient (a ∷ []) (b ∷ [])) (λ r. odd_by (λ c. term c r) (adem_terms a b)) (two_squares a b (omega arith) (omega arith) whole) (terms_added (adem_terms a b) (adem_terms_within a b)) in
          let one = unit_vector n j in
          subst (IsPlain t) (ext_get_or false x.vector one (x.fits ∙ sym (length-unit_vector n j)) (λ i k.
          let c : i < n = omega (arith, x.fits) in
          let is = is_element i c in
          let own = is_element j l in
          x.bits i c
          ∙ (adem_coefficient a b power.exponent power.is (omega arith) (omega arith) (at i).1
          ∙ (ap (λ (z : ℕ). pointwise nat_eq (z ∷ []) (at i).1) whole ∙ (elim (cases_eq i j) [
            | inl z ↦ (bytes_decides (m ∷ []) (at i).1).1 (sym (ap (λ (y : ℕ). (at y).1) z ∙ e)) ∙ sym (eq-eqb i j z)
            | inr z ↦ false_from_ne_true (pointwise nat_eq (m ∷ []) (at i).1) (λ y. z ((free_basis_is_pairs (gens q 0) t).once i j c l (same_parts (at i) (0, m ∷ []) is.first (sym ((bytes_decides (m ∷ []) (at i).1).0 y)) ∙ sym (same_parts (at j) (0, m ∷ []) own.first e)))) ∙ sym (ne_eqb i j z)
          ] ∙ sym (bit-unit_vector n j i l)))))) x.plain

    -- Each element of Milnor's basis, by those before it. Those that are left out are terms of no product, and Sq(m) is one of them or is known.
    module _ (Out : List ℕ → Type 0) (single : (j : ℕ) → j < n → (at j).1 ≡ m ∷ [] → (Out (m ∷ []) → ⊥) → IsPlain t (unit_vector n j)) (no_term : (k : ℕ) (s r : List ℕ) → 0 < k → 0 < degree_of s → coefficient (k ∷ []) s r ≡ true → Out r → ⊥) where
      plain-unit : (bound j : ℕ) → j < n → (r : List ℕ) → (at j).1 ≡ r → (h : IsTrimmed r) → (Out r → ⊥) → number r h < bound → IsPlain t (unit_vector n j)
      plain-unit zero j l r e h other below = absurd (omega arith)
      plain-unit (suc bound) j l [] e h other below =
          let deg = (is_element j l).degree_is in
          let none : degree_of (at j).1 ≡ 0 = ap degree_of e in
          absurd (omega arith)
      plain-unit (suc bound) j l (k ∷ []) e h other below =
          let deg = (is_element j l).degree_is in
          let here : degree_of (at j).1 ≡ degree_of (k ∷ []) = ap degree_of e in
          let size = degree_of-single k in
          let same : k ≡ m = omega arith in
          single j l (e ∙ ap (λ (z : ℕ). z ∷ []) same) (λ out. other (subst (λ (z : ℕ). Out (z ∷ [])) (sym same) out))
      plain-unit (suc bound) j l (r ∷ x ∷ xs) e h other below =
          let s : List ℕ = x ∷ xs in
          let whole : List ℕ = r ∷ s in
          let k = front whole in
          let some : 0 < k = positive_front whole (omega arith) h in
          let tight : IsTrimmed s = IsTrimmed-tail r s h in
          let split = degree_of-front r s in
          let deg = (is_element j l).degree_is in
          let here : degree_of (at j).1 ≡ degree_of whole = ap degree_of e in
          let above : 0 < degree_of s = elim (empty_or_positive s tight) [ inl z ↦ absurd (omega (arith, ap length z)) | inr z ↦ z ] in
          let both = has_product k s some tight above (omega arith) in
          let w = both.vector in
          let one = unit_vector n j in
          let len = length-unit_vector n j in
          let same = both.fits ∙ sym len in
          let size = degree_of-single k in
          let rest = plain-units t (sum_of w one) (length-sum_of w one same ∙ both.fits) (λ i c b.
          let is = is_element i c in
          let bits : bit (sum_of w one) i ≡ plus (coefficient (k ∷ []) s (at i).1) (nat_eq i j) = bit-sum_of w one i same ∙ (ap (λ (z : Bool). plus z (bit one i)) (both.bits i c) ∙ ap (plus (coefficient (k ∷ []) s (at i).1)) (bit-unit_vector n j i l)) in
          elim (cases_eq i j) [
            | inl z ↦
                let own : coefficient (k ∷ []) s (at i).1 ≡ true = ap (coefficient (k ∷ []) s) (ap (λ (z : ℕ). (at z).1) z ∙ e) ∙ own_term r s h in
                let off : bit (sum_of w one) i ≡ false = bits ∙ (ap (λ (y : Bool). plus y (nat_eq i j)) own ∙ ap (plus true) (eq-eqb i j z)) in
                absurd (false≢true (sym off ∙ b))
            | inr z ↦
                let apart : (at i).1 ≡ whole → ⊥ = λ y. z ((free_basis_is_pairs (gens q 0) t).once i j c l (same_parts (at i) (0, whole) is.first y ∙ sym (same_parts (at j) (0, whole) (is_element j l).first e))) in
                let term : coefficient (k ∷ []) s (at i).1 ≡ true = sym (plus-false (coefficient (k ∷ []) s (at i).1)) ∙ (ap (plus (coefficient (k ∷ []) s (at i).1)) (sym (ne_eqb i j z)) ∙ (sym bits ∙ b)) in
                let degree_here : degree_of (at i).1 ≡ degree_of whole = is.degree_is ∙ (sym deg ∙ here) in
                let before = before_whole r s (at i).1 h is.trimmed degree_here term apart in
                plain-unit bound i c (at i).1 refl is.trimmed (no_term k s (at i).1 some above term) (omega (arith, number_below (at i).1 whole is.trimmed h before))
          ]) in
          subst (IsPlain t) (sum_of-cancel n w one both.fits len) (plain-sum t w (sum_of w one) both.plain rest)

      -- so it is with each vector without those
      pub plain_without : (w : List Bool) → length w ≡ n → ((j : ℕ) → j < n → Out (at j).1 → bit w j ≡ false) → IsPlain t w
      plain_without w e without =
          plain-units t w e (λ j l b.
          let is = is_element j l in
          plain-unit (suc (number (at j).1 is.trimmed)) j l (at j).1 refl is.trimmed (λ y. false≢true (sym (without j l y) ∙ b)) (omega arith))

  -- in degree 2^v, with each vector without Sq(2^v)
  pub is_plain : (v : ℕ) → 2 ^ v ≤ qt → (w : List Bool) → length w ≡ free_width (gens q 0) (u q qs qt o sphere v) → ((j : ℕ) → j < free_width (gens q 0) (u q qs qt o sphere v) → (element (free_basis (gens q 0) (u q qs qt o sphere v)) j).1 ≡ power v → bit w j ≡ false) → IsPlain (u q qs qt o sphere v) w
  is_plain v reach =
      plain_without (2 ^ v) (pow_pos v) reach (λ r. r ≡ power v) (λ j l e other. absurd (other refl)) (λ k s r some above term out.
      let size = degree_of-single k in
      false≢true (sym (indecomposable (k ∷ []) s v (omega arith) above) ∙ (sym (ap (coefficient (k ∷ []) s) out) ∙ term)))

  -- in another degree above 0, with each
  pub all_plain : (m : ℕ) → 0 < m → m ≤ qt → is_power_of_two m ≡ false → (w : List Bool) → length w ≡ free_width (gens q 0) (q.base.bottom +ℤ pos m) → IsPlain (q.base.bottom +ℤ pos m) w
  all_plain m above_zero reach other w e =
      plain_without m above_zero reach (λ r. ⊥) (λ j l is out. single_plain m above_zero reach other j l is) (λ k s r some above term out. out) w e (λ j l out. absurd out)
