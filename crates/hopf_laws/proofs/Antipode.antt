-- The conjugate turns products round, and twice it is the identity: both sides solve one equation, whose solution is made
-- degree by degree.
use Rattle.std.specs.Prelude.{nat_eq}
use Rattle.std.specs.Cmp.Lexicographic.{bytes_decides, pointwise}
use Rattle.std.specs.List.{All, flat_map, filter}
use Rattle.std.proofs.Common.{◌≡◌, ◌≢◌, ◌⊎◌, ℕ, zero, suc, ◌+◌, ◌<◌, ◌≤◌, inl, inr, Bool, true, false, not, cond, ◌&&◌, List, [], ◌∷◌, refl, sym, ◌∙◌, ap, arith}
use Rattle.std.proofs.lemmas.Bool.{cases_lt, false≢true}
use Rattle.std.proofs.lemmas.List.Elements.{All-cons, All-head, All-nil, All-tail}
use Rattle.milnor_basis.specs.Exponents.{degree_of, IsTrimmed}
use Rattle.milnor_basis.specs.Product.{coefficient, product_terms, odd_by}
use Rattle.f2_vec.specs.Vectors.{plus}
use Rattle.f2_vec.proofs.Sums.{plus-false, plus-self, same_from_plus}
use Rattle.milnor_basis.proofs.ExponentLemmas.{same_answers}
use Rattle.milnor_basis.proofs.Parity.{odd_by-filter, odd_by-flat_map, odd_by-same}
use Rattle.milnor_laws.proofs.SumsModTwo.{odd_by-none, odd_by-plus, odd_by-swap}
use Rattle.milnor_laws.proofs.Associative.{associative, odd_by-same_all}
use Rattle.milnor_laws.proofs.RightUnit.{product_has_unit}
use Rattle.milnor_laws.proofs.UnitActs.{empty_or_positive}
use Rattle.hopf_laws.specs.Diagonal.{splittings}
use Rattle.hopf_laws.specs.Conjugate.{convolved, IsConjugate, is_nothing, conjugate_within, conjugate, ConjugateExists, ConjugateIsUnique, ConjugateTurnsProducts, ConjugateTwice}
use Rattle.hopf_laws.proofs.SameCounts.{same_counts}
use Rattle.hopf_laws.proofs.Splittings.{Pair, IsSplit, All-splittings, All-flat_map, All-of_all, splittings-exchanged, splittings-nothing}
use Rattle.hopf_laws.proofs.Cartan.{HasDegree, term_count, All-product_terms, cartan}

abbrev pub Value : Type 0
Value = List ℕ → Bool

-- the sum of f over the terms of Sq(R) Sq(S)
abbrev pub over : List ℕ → List ℕ → Value → Bool
over r s f = odd_by f (product_terms r s)

-- sums in which each element stands equally often
pub same_sums : (xs ys : List (List ℕ)) → ((t : List ℕ) → odd_by (pointwise nat_eq t) xs ≡ odd_by (pointwise nat_eq t) ys) → (f : Value) → odd_by f xs ≡ odd_by f ys
same_sums xs ys h f = same_counts (pointwise nat_eq) (λ x y e. (bytes_decides x y).0 e) (λ x. (bytes_decides x x).1 refl) f xs ys h

pub over-associative : (r s q : List ℕ) (f : Value) → odd_by (λ t. over t q f) (product_terms r s) ≡ odd_by (λ t. over r t f) (product_terms s q)
over-associative r s q f =
    sym (odd_by-flat_map f (λ t. product_terms t q) (product_terms r s))
    ∙ same_sums (flat_map (λ t. product_terms t q) (product_terms r s)) (flat_map (product_terms r) (product_terms s q))
    (λ u. odd_by-flat_map (pointwise nat_eq u) (λ t. product_terms t q) (product_terms r s)
    ∙ odd_by-same (λ t. over t q (pointwise nat_eq u)) (λ t. coefficient t q u) (product_terms r s) (λ t. term_count t q u)
    ∙ associative r s q u
    ∙ odd_by-same (λ t. coefficient r t u) (λ t. over r t (pointwise nat_eq u)) (product_terms s q) (λ t. sym (term_count r t u))
    ∙ sym (odd_by-flat_map (pointwise nat_eq u) (product_terms r) (product_terms s q))) f
    ∙ odd_by-flat_map f (product_terms r) (product_terms s q)

pub pointwise-turned : (a b : List ℕ) → pointwise nat_eq a b ≡ pointwise nat_eq b a
pointwise-turned a b = same_answers (pointwise nat_eq a b) (pointwise nat_eq b a) (λ h. (bytes_decides b a).1 (sym ((bytes_decides a b).0 h))) (λ h. (bytes_decides a b).1 (sym ((bytes_decides b a).0 h)))

pub over-unit_left : (s : List ℕ) (f : Value) → IsTrimmed s → over [] s f ≡ f s
over-unit_left s f h =
    same_sums (product_terms [] s) (s ∷ []) (λ t. term_count [] s t ∙ (product_has_unit s t h).0 ∙ pointwise-turned s t ∙ sym (plus-false (pointwise nat_eq t s))) f ∙ plus-false (f s)

pub over-unit_right : (s : List ℕ) (f : Value) → IsTrimmed s → over s [] f ≡ f s
over-unit_right s f h =
    same_sums (product_terms s []) (s ∷ []) (λ t. term_count s [] t ∙ (product_has_unit s t h).1 ∙ pointwise-turned s t ∙ sym (plus-false (pointwise nat_eq t s))) f ∙ plus-false (f s)

some_positive : (r : List ℕ) → IsTrimmed r → r ≢ [] → 0 < degree_of r
some_positive r h d = elim (empty_or_positive r h) [
  | inl e ↦ absurd (d e)
  | inr l ↦ l
]

-- a sum that is 0 has one splitting more than those that give 0
pub first_alone : (g : Pair → Bool) (r : List ℕ) → IsTrimmed r → ((p : Pair) → IsSplit 1 r p → 0 < degree_of p.0 → g p ≡ false) → odd_by g (splittings r) ≡ g ([], r)
first_alone g r h none =
    splittings-nothing 1 g r (λ p k d. none p k (some_positive p.0 k.left d)) ∙ ap (λ x. g ([], x)) h

-- what is said of a conjugate, of sums of any function
pub record Conjugates (c : List ℕ → List (List ℕ)) : Type 0 where
  pub unit : (f : Value) → odd_by f (c []) ≡ f []
  pub terms : (r : List ℕ) → IsTrimmed r → All (HasDegree (degree_of r)) (c r)
  pub cancel : (r : List ℕ) (f : Value) → IsTrimmed r → 0 < degree_of r → odd_by (λ p. odd_by (λ t. over p.0 t f) (c p.1)) (splittings r) ≡ false

odd_by-convolved : (c : List ℕ → List (List ℕ)) (r : List ℕ) (f : Value) → odd_by f (convolved c r) ≡ odd_by (λ p. odd_by (λ t. over p.0 t f) (c p.1)) (splittings r)
odd_by-convolved c r f =
    odd_by-flat_map f (λ p. flat_map (product_terms p.0) (c p.1)) (splittings r)
    ∙ odd_by-same (λ p. odd_by f (flat_map (product_terms p.0) (c p.1))) (λ p. odd_by (λ t. over p.0 t f) (c p.1)) (splittings r) (λ p. odd_by-flat_map f (product_terms p.0) (c p.1))

pub conjugates_from : (c : List ℕ → List (List ℕ)) → IsConjugate c → Conjugates c
conjugates_from c is = record {
  unit = λ f. ap (odd_by f) is.nothing ∙ plus-false (f []);
  terms = is.degrees;
  cancel = λ r f h l. sym (odd_by-convolved c r f) ∙ same_sums (convolved c r) [] (λ t. is.cancels r t h l) f;
}

-- sums of a function over elements without zeros at their ends
same_over : (n : ℕ) (f g : Value) (xs : List (List ℕ)) → All (HasDegree n) xs → ((x : List ℕ) → IsTrimmed x → f x ≡ g x) → odd_by f xs ≡ odd_by g xs
same_over n f g xs all h = odd_by-same_all (HasDegree n) f g xs all (λ x k. h x k.0)

-- The two sides of the law on products.
module _ (c : List ℕ → List (List ℕ)) (is : Conjugates c) where
  abbrev of_product : List ℕ → List ℕ → Value → Bool
  of_product r s f = odd_by (λ t. odd_by f (c t)) (product_terms r s)

  abbrev pub of_factors : List ℕ → List ℕ → Value → Bool
  of_factors r s f = odd_by (λ x. odd_by (λ y. over x y f) (c r)) (c s)

  abbrev differ : List ℕ → List ℕ → Value → Bool
  differ r s f = plus (of_product r s f) (of_factors r s f)

  -- the sum over the splittings of R and S of Sq(R1) Sq(S1) times the difference at R2 and S2
  abbrev convolution : List ℕ → List ℕ → (List ℕ → List ℕ → Value → Bool) → Value → Bool
  convolution r s d f = odd_by (λ p. odd_by (λ q. odd_by (λ t. d p.1 q.1 (λ x. over t x f)) (product_terms p.0 q.0)) (splittings s)) (splittings r)

  convolution-plus : (r s : List ℕ) (f : Value) → convolution r s differ f ≡ plus (convolution r s of_product f) (convolution r s of_factors f)
  convolution-plus r s f =
      odd_by-same (λ p. odd_by (λ q. odd_by (λ t. differ p.1 q.1 (λ x. over t x f)) (product_terms p.0 q.0)) (splittings s)) (λ p. plus (odd_by (λ q. odd_by (λ t. of_product p.1 q.1 (λ x. over t x f)) (product_terms p.0 q.0)) (splittings s)) (odd_by (λ q. odd_by (λ t. of_factors p.1 q.1 (λ x. over t x f)) (product_terms p.0 q.0)) (splittings s))) (splittings r)
      (λ p. odd_by-same (λ q. odd_by (λ t. differ p.1 q.1 (λ x. over t x f)) (product_terms p.0 q.0)) (λ q. plus (odd_by (λ t. of_product p.1 q.1 (λ x. over t x f)) (product_terms p.0 q.0)) (odd_by (λ t. of_factors p.1 q.1 (λ x. over t x f)) (product_terms p.0 q.0))) (splittings s)
      (λ q. odd_by-plus (λ t. of_product p.1 q.1 (λ x. over t x f)) (λ t. of_factors p.1 q.1 (λ x. over t x f)) (product_terms p.0 q.0))
      ∙ odd_by-plus (λ q. odd_by (λ t. of_product p.1 q.1 (λ x. over t x f)) (product_terms p.0 q.0)) (λ q. odd_by (λ t. of_factors p.1 q.1 (λ x. over t x f)) (product_terms p.0 q.0)) (splittings s))
      ∙ odd_by-plus (λ p. odd_by (λ q. odd_by (λ t. of_product p.1 q.1 (λ x. over t x f)) (product_terms p.0 q.0)) (splittings s)) (λ p. odd_by (λ q. odd_by (λ t. of_factors p.1 q.1 (λ x. over t x f)) (product_terms p.0 q.0)) (splittings s)) (splittings r)

  product_convolution : (r s : List ℕ) (f : Value) → 0 < degree_of r + degree_of s → convolution r s of_product f ≡ false
  product_convolution r s f l =
      sym (cartan r s (λ z. odd_by (λ x. over z.0 x f) (c z.1)))
      ∙ odd_by-same_all (HasDegree (degree_of r + degree_of s)) (λ t. odd_by (λ z. odd_by (λ x. over z.0 x f) (c z.1)) (splittings t)) (λ t. false) (product_terms r s) (All-product_terms r s)
      (λ t h. let d = h.1 in is.cancel t f h.0 (omega arith))
      ∙ odd_by-none (λ t. false) (product_terms r s) (λ t. refl)

  -- the sum over the splittings of one factor
  one_factor : (s : List ℕ) (g : Value) → 0 < degree_of s → IsTrimmed s → odd_by (λ q. odd_by (λ x. over q.0 x g) (c q.1)) (splittings s) ≡ false
  one_factor s g l h = is.cancel s g h l

  -- for one splitting of R
  module _ (p : Pair) (f : Value) where
    abbrev after : Value
    after w = odd_by (λ y. over w y f) (c p.1)

    regrouped : (q : Pair) → odd_by (λ t. of_factors p.1 q.1 (λ x. over t x f)) (product_terms p.0 q.0) ≡ odd_by (λ x. over q.0 x (λ u. over p.0 u after)) (c q.1)
    regrouped q =
        odd_by-same (λ t. of_factors p.1 q.1 (λ z. over t z f)) (λ t. odd_by (λ x. over t x after) (c q.1)) (product_terms p.0 q.0)
        (λ t. odd_by-same (λ x. odd_by (λ y. over x y (λ z. over t z f)) (c p.1)) (λ x. over t x after) (c q.1)
        (λ x. odd_by-same (λ y. over x y (λ z. over t z f)) (λ y. odd_by (λ w. over w y f) (product_terms t x)) (c p.1) (λ y. sym (over-associative t x y f))
        ∙ odd_by-swap (λ y w. over w y f) (c p.1) (product_terms t x)))
        ∙ odd_by-swap (λ t x. over t x after) (product_terms p.0 q.0) (c q.1)
        ∙ odd_by-same (λ x. odd_by (λ t. over t x after) (product_terms p.0 q.0)) (λ x. over q.0 x (λ u. over p.0 u after)) (c q.1) (λ x. over-associative p.0 q.0 x after)

    factor_some : (s : List ℕ) → IsTrimmed s → 0 < degree_of s → odd_by (λ q. odd_by (λ t. of_factors p.1 q.1 (λ x. over t x f)) (product_terms p.0 q.0)) (splittings s) ≡ false
    factor_some s h l =
        odd_by-same (λ q. odd_by (λ t. of_factors p.1 q.1 (λ x. over t x f)) (product_terms p.0 q.0)) (λ q. odd_by (λ x. over q.0 x (λ u. over p.0 u after)) (c q.1)) (splittings s) regrouped
        ∙ is.cancel s (λ u. over p.0 u after) h l

    factor_none : IsTrimmed p.0 → odd_by (λ q. odd_by (λ t. of_factors p.1 q.1 (λ x. over t x f)) (product_terms p.0 q.0)) (splittings []) ≡ odd_by (λ y. over p.0 y f) (c p.1)
    factor_none h =
        plus-false (odd_by (λ t. of_factors p.1 [] (λ x. over t x f)) (product_terms p.0 []))
        ∙ regrouped ([], [])
        ∙ is.unit (λ x. over [] x (λ u. over p.0 u after))
        ∙ over-unit_left [] (λ u. over p.0 u after) refl
        ∙ over-unit_right p.0 after h

  factors_convolution : (r s : List ℕ) (f : Value) → IsTrimmed r → IsTrimmed s → 0 < degree_of r + degree_of s → convolution r s of_factors f ≡ false
  factors_convolution r s f hr hs l = elim (empty_or_positive s hs) [
    | inl e ↦ let zero_s : degree_of s ≡ 0 = ap degree_of e in
        ap (λ x. convolution r x of_factors f) e
        ∙ odd_by-same_all (IsSplit 1 r) (λ p. odd_by (λ q. odd_by (λ t. of_factors p.1 q.1 (λ x. over t x f)) (product_terms p.0 q.0)) (splittings [])) (λ p. odd_by (λ y. over p.0 y f) (c p.1)) (splittings r) (All-splittings 1 r) (λ p k. factor_none p f k.left)
        ∙ is.cancel r f hr (omega arith)
    | inr m ↦ odd_by-none (λ p. odd_by (λ q. odd_by (λ t. of_factors p.1 q.1 (λ x. over t x f)) (product_terms p.0 q.0)) (splittings s)) (splittings r) (λ p. factor_some p f s hs m)
  ]

  -- what multiplication by Sq() on the left leaves
  differ-unit : (r s : List ℕ) (f : Value) → IsTrimmed r → IsTrimmed s → differ r s (λ x. over [] x f) ≡ differ r s f
  differ-unit r s f hr hs =
      ap (λ b. plus b (of_factors r s (λ x. over [] x f)))
      (same_over (degree_of r + degree_of s) (λ t. odd_by (λ x. over [] x f) (c t)) (λ t. odd_by f (c t)) (product_terms r s) (All-product_terms r s)
      (λ t h. same_over (degree_of t) (λ x. over [] x f) f (c t) (is.terms t h) (λ x k. over-unit_left x f k)))
      ∙ ap (plus (of_product r s f))
      (odd_by-same (λ x. odd_by (λ y. over x y (λ z. over [] z f)) (c r)) (λ x. odd_by (λ y. over x y f) (c r)) (c s)
      (λ x. odd_by-same (λ y. over x y (λ z. over [] z f)) (λ y. over x y f) (c r)
      (λ y. same_over (degree_of x + degree_of y) (λ z. over [] z f) f (product_terms x y) (All-product_terms x y) (λ z k. over-unit_left z f k))))

  -- the one pair of splittings that stays is that of R and S whole
  alone : (r s : List ℕ) (f : Value) → IsTrimmed r → IsTrimmed s → ((a b : List ℕ) (g : Value) → IsTrimmed a → IsTrimmed b → degree_of a + degree_of b < degree_of r + degree_of s → differ a b g ≡ false) → convolution r s differ f ≡ differ r s f
  alone r s f hr hs below =
      first_alone (λ p. odd_by (λ q. odd_by (λ t. differ p.1 q.1 (λ x. over t x f)) (product_terms p.0 q.0)) (splittings s)) r hr
      (λ p k l. let d = k.degree in
      odd_by-same_all (IsSplit 1 s) (λ q. odd_by (λ t. differ p.1 q.1 (λ x. over t x f)) (product_terms p.0 q.0)) (λ q. false) (splittings s) (All-splittings 1 s)
      (λ q m. let e = m.degree in odd_by-none (λ t. differ p.1 q.1 (λ x. over t x f)) (product_terms p.0 q.0) (λ t. below p.1 q.1 (λ x. over t x f) k.right m.right (omega arith)))
      ∙ odd_by-none (λ q. false) (splittings s) (λ q. refl))
      ∙ first_alone (λ q. odd_by (λ t. differ r q.1 (λ x. over t x f)) (product_terms [] q.0)) s hs
      (λ q m l. let e = m.degree in odd_by-none (λ t. differ r q.1 (λ x. over t x f)) (product_terms [] q.0) (λ t. below r q.1 (λ x. over t x f) hr m.right (omega arith)))
      ∙ over-unit_left [] (λ t. differ r s (λ x. over t x f)) refl
      ∙ differ-unit r s f hr hs

  differ_nothing : (f : Value) → differ [] [] f ≡ false
  differ_nothing f =
      ap (λ b. plus b (of_factors [] [] f)) (over-unit_left [] (λ t. odd_by f (c t)) refl ∙ is.unit f)
      ∙ ap (plus (f [])) (is.unit (λ x. odd_by (λ y. over x y f) (c [])) ∙ is.unit (λ y. over [] y f) ∙ over-unit_left [] f refl)
      ∙ plus-self (f [])

  differ_zero : (r s : List ℕ) (f : Value) → IsTrimmed r → IsTrimmed s → degree_of r + degree_of s ≡ 0 → differ r s f ≡ false
  differ_zero r s f hr hs z = elim (empty_or_positive r hr) [
    | inl e ↦ elim (empty_or_positive s hs) [
      | inl g ↦ ap (λ x. differ x s f) e ∙ ap (λ y. differ [] y f) g ∙ differ_nothing f
      | inr m ↦ absurd (omega arith)
    ]
    | inr m ↦ absurd (omega arith)
  ]

  differ_step : (r s : List ℕ) (f : Value) → IsTrimmed r → IsTrimmed s → ((a b : List ℕ) (g : Value) → IsTrimmed a → IsTrimmed b → degree_of a + degree_of b < degree_of r + degree_of s → differ a b g ≡ false) → differ r s f ≡ false
  differ_step r s f hr hs below = elim (cases_lt 0 (degree_of r + degree_of s)) [
    | inl l ↦ sym (alone r s f hr hs below)
        ∙ convolution-plus r s f
        ∙ ap (λ b. plus b (convolution r s of_factors f)) (product_convolution r s f l)
        ∙ factors_convolution r s f hr hs l
    | inr l ↦ differ_zero r s f hr hs (omega arith)
  ]

  differ_none : (n : ℕ) (r s : List ℕ) (f : Value) → IsTrimmed r → IsTrimmed s → degree_of r + degree_of s ≤ n → differ r s f ≡ false
  differ_none zero r s f hr hs l = differ_zero r s f hr hs (omega arith)
  differ_none (suc n) r s f hr hs l = differ_step r s f hr hs (λ a b g ha hb m. differ_none n a b g ha hb (omega arith))

  -- the conjugate of a product is the product of the conjugates, turned round
  pub conjugate_product : (r s : List ℕ) (f : Value) → IsTrimmed r → IsTrimmed s → of_product r s f ≡ of_factors r s f
  conjugate_product r s f hr hs = same_from_plus (of_product r s f) (of_factors r s f) (differ_none (degree_of r + degree_of s) r s f hr hs (omega arith))

  -- Twice it is the identity.

  abbrev moved : List ℕ → Value → Bool
  moved r f = plus (f r) (odd_by (λ x. odd_by f (c x)) (c r))

  -- the product with the conjugate of Sq(A) on the right
  abbrev by_conjugate : List ℕ → Value → Value
  by_conjugate a f = λ u. odd_by (λ v. over u v f) (c a)

  moved_convolution : (r : List ℕ) (f : Value) → IsTrimmed r → 0 < degree_of r → odd_by (λ p. moved p.1 (by_conjugate p.0 f)) (splittings r) ≡ false
  moved_convolution r f h l =
      odd_by-plus (λ p. by_conjugate p.0 f p.1) (λ p. odd_by (λ x. odd_by (by_conjugate p.0 f) (c x)) (c p.1)) (splittings r)
      ∙ ap (λ b. plus b (odd_by (λ p. odd_by (λ x. odd_by (by_conjugate p.0 f) (c x)) (c p.1)) (splittings r)))
      (splittings-exchanged (λ p. by_conjugate p.0 f p.1) r ∙ is.cancel r f h l)
      ∙ odd_by-same_all (IsSplit 1 r) (λ p. odd_by (λ x. of_factors p.0 x f) (c p.1)) (λ p. odd_by (λ x. over p.0 x (λ t. odd_by f (c t))) (c p.1)) (splittings r) (All-splittings 1 r)
      (λ p k. same_over (degree_of p.1) (λ x. of_factors p.0 x f) (λ x. over p.0 x (λ t. odd_by f (c t))) (c p.1) (is.terms p.1 k.right) (λ x m. sym (conjugate_product p.0 x f k.left m)))
      ∙ is.cancel r (λ t. odd_by f (c t)) h l

  moved-unit : (r : List ℕ) (f : Value) → IsTrimmed r → moved r (by_conjugate [] f) ≡ moved r f
  moved-unit r f h =
      let at : (u : List ℕ) → IsTrimmed u → by_conjugate [] f u ≡ f u = λ u k. is.unit (λ v. over u v f) ∙ over-unit_right u f k in
      ap (λ b. plus b (odd_by (λ x. odd_by (by_conjugate [] f) (c x)) (c r))) (at r h)
      ∙ ap (plus (f r)) (same_over (degree_of r) (λ x. odd_by (by_conjugate [] f) (c x)) (λ x. odd_by f (c x)) (c r) (is.terms r h) (λ x k. same_over (degree_of x) (by_conjugate [] f) f (c x) (is.terms x k) at))

  moved_zero : (r : List ℕ) (f : Value) → r ≡ [] → moved r f ≡ false
  moved_zero r f e = ap (λ x. moved x f) e ∙ ap (plus (f [])) (is.unit (λ x. odd_by f (c x)) ∙ is.unit f) ∙ plus-self (f [])

  moved_step : (r : List ℕ) (f : Value) → IsTrimmed r → ((a : List ℕ) (g : Value) → IsTrimmed a → degree_of a < degree_of r → moved a g ≡ false) → moved r f ≡ false
  moved_step r f h below = elim (empty_or_positive r h) [
    | inl e ↦ moved_zero r f e
    | inr l ↦ sym (moved-unit r f h)
        ∙ sym (first_alone (λ p. moved p.1 (by_conjugate p.0 f)) r h (λ p k m. let d = k.degree in below p.1 (by_conjugate p.0 f) k.right (omega arith)))
        ∙ moved_convolution r f h l
  ]

  moved_none : (n : ℕ) (r : List ℕ) (f : Value) → IsTrimmed r → degree_of r ≤ n → moved r f ≡ false
  moved_none zero r f h l = moved_step r f h (λ a g k m. absurd (omega arith))
  moved_none (suc n) r f h l = moved_step r f h (λ a g k m. moved_none n a g k (omega arith))

  pub conjugate_twice : (r : List ℕ) (f : Value) → IsTrimmed r → odd_by (λ x. odd_by f (c x)) (c r) ≡ f r
  conjugate_twice r f h = sym (same_from_plus (f r) (odd_by (λ x. odd_by f (c x)) (c r)) (moved_none (degree_of r) r f h (omega arith)))

-- Two conjugates are the same.
module _ (c d : List ℕ → List (List ℕ)) (is : Conjugates c) (also : Conjugates d) where
  abbrev apart : List ℕ → Value → Bool
  apart r f = plus (odd_by f (c r)) (odd_by f (d r))

  apart_step : (r : List ℕ) (f : Value) → IsTrimmed r → ((a : List ℕ) (g : Value) → IsTrimmed a → degree_of a < degree_of r → apart a g ≡ false) → apart r f ≡ false
  apart_step r f h below = elim (empty_or_positive r h) [
    | inl e ↦ ap (λ x. apart x f) e ∙ ap (λ b. plus b (odd_by f (d []))) (is.unit f) ∙ ap (plus (f [])) (also.unit f) ∙ plus-self (f [])
    | inr l ↦ sym (ap (λ b. plus b (odd_by (λ t. over [] t f) (d r))) (same_over (degree_of r) (λ t. over [] t f) f (c r) (is.terms r h) (λ t k. over-unit_left t f k))
        ∙ ap (plus (odd_by f (c r))) (same_over (degree_of r) (λ t. over [] t f) f (d r) (also.terms r h) (λ t k. over-unit_left t f k)))
        ∙ sym (first_alone (λ p. apart p.1 (λ t. over p.0 t f)) r h (λ p k m. let e = k.degree in below p.1 (λ t. over p.0 t f) k.right (omega arith)))
        ∙ odd_by-plus (λ p. odd_by (λ t. over p.0 t f) (c p.1)) (λ p. odd_by (λ t. over p.0 t f) (d p.1)) (splittings r)
        ∙ ap (λ b. plus b (odd_by (λ p. odd_by (λ t. over p.0 t f) (d p.1)) (splittings r))) (is.cancel r f h l)
        ∙ also.cancel r f h l
  ]

  apart_none : (n : ℕ) (r : List ℕ) (f : Value) → IsTrimmed r → degree_of r ≤ n → apart r f ≡ false
  apart_none zero r f h l = apart_step r f h (λ a g k m. absurd (omega arith))
  apart_none (suc n) r f h l = apart_step r f h (λ a g k m. apart_none n a g k (omega arith))

  pub conjugate_once : (r : List ℕ) (f : Value) → IsTrimmed r → odd_by f (c r) ≡ odd_by f (d r)
  conjugate_once r f h = same_from_plus (odd_by f (c r)) (odd_by f (d r)) (apart_none (degree_of r) r f h (omega arith))

-- There is one.

All-filter : {X : Type 0} → (P : X → Type 0) (q : X → Bool) (xs : List X) → All P xs → All P (filter q xs)
All-filter P q [] all = All-nil P
All-filter P q (x ∷ xs) all = at (q x) (All-filter P q xs (All-tail P x xs all))
  where
    at : (b : Bool) → All P (filter q xs) → All P (cond b (x ∷ filter q xs) (filter q xs))
    at true rest = All-cons P x (filter q xs) (All-head P x xs all) rest
    at false rest = rest

abbrev proper : Pair → Bool
proper p = not (is_nothing p.0)

abbrev by_parts : ℕ → List ℕ → List (List ℕ)
by_parts n r = flat_map (λ p. flat_map (product_terms p.0) (conjugate_within n p.1)) (filter proper (splittings r))

HasDegree-within : (n : ℕ) (r : List ℕ) → IsTrimmed r → All (HasDegree (degree_of r)) (conjugate_within n r)
HasDegree-within zero r h = All-cons (HasDegree (degree_of r)) r [] (h, refl) (All-nil (HasDegree (degree_of r)))
HasDegree-within (suc n) [] h = All-cons (HasDegree 0) [] [] (refl, refl) (All-nil (HasDegree 0))
HasDegree-within (suc n) (x ∷ xs) h =
    All-flat_map (HasDegree (degree_of (x ∷ xs))) (λ p. flat_map (product_terms p.0) (conjugate_within n p.1)) (IsSplit 1 (x ∷ xs)) (filter proper (splittings (x ∷ xs))) (All-filter (IsSplit 1 (x ∷ xs)) proper (splittings (x ∷ xs)) (All-splittings 1 (x ∷ xs)))
    (λ p k. let d = k.degree in
    All-flat_map (HasDegree (degree_of (x ∷ xs))) (product_terms p.0) (HasDegree (degree_of p.1)) (conjugate_within n p.1) (HasDegree-within n p.1 k.right)
    (λ t m. let e = m.1 in All-of_all (HasDegree (degree_of p.0 + degree_of t)) (HasDegree (degree_of (x ∷ xs))) (product_terms p.0 t) (All-product_terms p.0 t) (λ u j. let g = j.1 in (j.0, omega arith))))

odd_by-parts : (n : ℕ) (r : List ℕ) (f : Value) → odd_by f (by_parts n r) ≡ odd_by (λ p. proper p && odd_by (λ t. over p.0 t f) (conjugate_within n p.1)) (splittings r)
odd_by-parts n r f =
    odd_by-flat_map f (λ p. flat_map (product_terms p.0) (conjugate_within n p.1)) (filter proper (splittings r))
    ∙ odd_by-filter (λ p. odd_by f (flat_map (product_terms p.0) (conjugate_within n p.1))) proper (splittings r)
    ∙ odd_by-same (λ p. proper p && odd_by f (flat_map (product_terms p.0) (conjugate_within n p.1))) (λ p. proper p && odd_by (λ t. over p.0 t f) (conjugate_within n p.1)) (splittings r) (λ p. ap (λ b. proper p && b) (odd_by-flat_map f (product_terms p.0) (conjugate_within n p.1)))

proper-positive : (xs : List ℕ) → IsTrimmed xs → (b : Bool) → not (is_nothing xs) ≡ b → b ≡ true → 0 < degree_of xs
proper-positive [] h b e g = absurd (false≢true (e ∙ g))
proper-positive (x ∷ xs) h b e g = some_positive (x ∷ xs) h (λ k. cc)

-- how many steps are taken does not matter once they are enough
enough : (n m : ℕ) (r : List ℕ) (f : Value) → IsTrimmed r → degree_of r ≤ n → degree_of r ≤ m → odd_by f (conjugate_within n r) ≡ odd_by f (conjugate_within m r)
enough zero zero r f h l k = refl
enough zero (suc m) [] f h l k = refl
enough (suc n) zero [] f h l k = refl
enough (suc n) (suc m) [] f h l k = refl
enough zero (suc m) (x ∷ xs) f h l k = let p : 0 < degree_of (x ∷ xs) = some_positive (x ∷ xs) h (λ e. cc) in absurd (omega arith)
enough (suc n) zero (x ∷ xs) f h l k = let p : 0 < degree_of (x ∷ xs) = some_positive (x ∷ xs) h (λ e. cc) in absurd (omega arith)
enough (suc n) (suc m) (x ∷ xs) f h l k =
    odd_by-parts n (x ∷ xs) f
    ∙ odd_by-same_all (IsSplit 1 (x ∷ xs)) (λ p. proper p && odd_by (λ t. over p.0 t f) (conjugate_within n p.1)) (λ p. proper p && odd_by (λ t. over p.0 t f) (conjugate_within m p.1)) (splittings (x ∷ xs)) (All-splittings 1 (x ∷ xs))
    (λ p j. let d = j.degree in at p j (λ g. enough n m p.1 (λ t. over p.0 t f) j.right (omega arith) (omega arith)) (proper p) refl)
    ∙ sym (odd_by-parts m (x ∷ xs) f)
  where
    at : (p : Pair) → IsSplit 1 (x ∷ xs) p → (0 < degree_of p.0 → odd_by (λ t. over p.0 t f) (conjugate_within n p.1) ≡ odd_by (λ t. over p.0 t f) (conjugate_within m p.1)) → (b : Bool) → proper p ≡ b → (b && odd_by (λ t. over p.0 t f) (conjugate_within n p.1)) ≡ (b && odd_by (λ t. over p.0 t f) (conjugate_within m p.1))
    at p j same true e = same (proper-positive p.0 j.left true e refl)
    at p j same false e = refl

and-split : (b c : Bool) → c ≡ plus (not b && c) (b && c)
and-split true c = refl
and-split false true = refl
and-split false false = refl

-- the conjugate of Sq(R), of positive degree, by the splittings but the first
pub conjugate-unfolded : (r : List ℕ) (f : Value) → IsTrimmed r → 0 < degree_of r → odd_by f (conjugate r) ≡ odd_by (λ p. not (is_nothing p.0) && odd_by (λ t. over p.0 t f) (conjugate p.1)) (splittings r)
conjugate-unfolded [] f h l = absurd (omega arith)
conjugate-unfolded (x ∷ xs) f h l = unfolded (degree_of (x ∷ xs)) refl
  where
    unfolded : (n : ℕ) → degree_of (x ∷ xs) ≡ n → odd_by f (conjugate_within n (x ∷ xs)) ≡ odd_by (λ p. proper p && odd_by (λ t. over p.0 t f) (conjugate p.1)) (splittings (x ∷ xs))
    unfolded zero e = absurd (omega arith)
    unfolded (suc n) e =
        odd_by-parts n (x ∷ xs) f
        ∙ odd_by-same_all (IsSplit 1 (x ∷ xs)) (λ p. proper p && odd_by (λ t. over p.0 t f) (conjugate_within n p.1)) (λ p. proper p && odd_by (λ t. over p.0 t f) (conjugate p.1)) (splittings (x ∷ xs)) (All-splittings 1 (x ∷ xs))
        (λ p j. at p j (proper p) refl)
      where
        at : (p : Pair) → IsSplit 1 (x ∷ xs) p → (b : Bool) → proper p ≡ b → (b && odd_by (λ t. over p.0 t f) (conjugate_within n p.1)) ≡ (b && odd_by (λ t. over p.0 t f) (conjugate p.1))
        at p j true w = let d = j.degree in let g : 0 < degree_of p.0 = proper-positive p.0 j.left true w refl in enough n (degree_of p.1) p.1 (λ t. over p.0 t f) j.right (omega arith) (omega arith)
        at p j false w = refl

cancels : (r : List ℕ) (f : Value) → IsTrimmed r → 0 < degree_of r → odd_by (λ p. odd_by (λ t. over p.0 t f) (conjugate p.1)) (splittings r) ≡ false
cancels r f h l =
    let g : Pair → Bool = λ p. odd_by (λ t. over p.0 t f) (conjugate p.1) in
    odd_by-same g (λ p. plus (not (proper p) && g p) (proper p && g p)) (splittings r) (λ p. and-split (proper p) (g p))
    ∙ odd_by-plus (λ p. not (proper p) && g p) (λ p. proper p && g p) (splittings r)
    ∙ ap (λ b. plus b (odd_by (λ p. proper p && g p) (splittings r)))
    (first_alone (λ p. not (proper p) && g p) r h (λ p k m. not_proper p (g p) m)
    ∙ same_over (degree_of r) (λ t. over [] t f) f (conjugate r) (HasDegree-within (degree_of r) r h) (λ t k. over-unit_left t f k)
    ∙ conjugate-unfolded r f h l)
    ∙ plus-self (odd_by (λ p. proper p && g p) (splittings r))
  where
    not_proper : (p : Pair) (b : Bool) → 0 < degree_of p.0 → (not (proper p) && b) ≡ false
    not_proper ([], s) b m = absurd (omega arith)
    not_proper (y ∷ ys, s) b m = refl

-- The laws as they are stated.

pub conjugate_exists : ConjugateExists
conjugate_exists = record {
  nothing = refl;
  degrees = λ r h. HasDegree-within (degree_of r) r h;
  cancels = λ r t h l. odd_by-convolved conjugate r (pointwise nat_eq t) ∙ cancels r (pointwise nat_eq t) h l;
}

pub conjugate_is_unique : ConjugateIsUnique
conjugate_is_unique c d is also r t h = conjugate_once c d (conjugates_from c is) (conjugates_from d also) r (pointwise nat_eq t) h

pub conjugate_turns_products : ConjugateTurnsProducts
conjugate_turns_products c is r s t hr hs =
    odd_by-flat_map (pointwise nat_eq t) c (product_terms r s)
    ∙ conjugate_product c (conjugates_from c is) r s (pointwise nat_eq t) hr hs
    ∙ sym (odd_by-flat_map (pointwise nat_eq t) (λ x. flat_map (product_terms x) (c r)) (c s)
    ∙ odd_by-same (λ x. odd_by (pointwise nat_eq t) (flat_map (product_terms x) (c r))) (λ x. odd_by (λ y. over x y (pointwise nat_eq t)) (c r)) (c s) (λ x. odd_by-flat_map (pointwise nat_eq t) (product_terms x) (c r)))

pub conjugate_twice_is : ConjugateTwice
conjugate_twice_is c is r t h =
    odd_by-flat_map (pointwise nat_eq t) c (c r) ∙ conjugate_twice c (conjugates_from c is) r (pointwise nat_eq t) h
