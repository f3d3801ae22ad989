-- The leading term of Sq(u) Sq(S) in right lexicographic order (Milnor 1958): no term has after its first number a list
-- that is above S, and where that list is S the coefficient is 1.
use Rattle.std.proofs.Common.{◌≡◌, ◌≢◌, ◌⊎◌, ℕ, zero, suc, ◌+◌, ◌-◌, ◌*◌, ◌^◌, ◌<◌, ◌≤◌, inl, inr, Bool, true, false, List, [], ◌∷◌, length, map, refl, sym, ◌∙◌, ap, subst, arith}
use Rattle.std.proofs.Math.Path.{fun_ext}
use Rattle.std.proofs.Math.Nat.{pow-suc}
use Rattle.std.proofs.lemmas.Bool.{and_from, and_parts, cases_eq, cases_lt, false_from_ne_true, false≢true}
use Rattle.milnor_basis.specs.Exponents.{entry, IsTrimmed}
use Rattle.milnor_basis.specs.Product.{coefficient}
use Rattle.f2_vec.specs.Vectors.{plus}
use Rattle.milnor_laws.proofs.Powers.{Monomial, variable, variable-same, variable-other, less, less-same, less-other, agree, agree_at, agree_from, odd_terms-one}
use Rattle.milnor_laws.proofs.Coproduct.{term, triangle, by_factors}
use Rattle.milnor_laws.proofs.Coefficients.{exponents, exponents-past}
use Rattle.adem_laws.specs.Adem.{square}
use Rattle.milnor_basis.specs.Front.{front}
use Rattle.adem_laws.proofs.Singles.{single, is_single, with_single, coefficient_single, lower, single_raised, by_right, by_left, by_right-none, by_right-some, by_left-small, by_left-none, by_left-some}

-- right lexicographic order of sequences that are 0 from some place on

abbrev pub Same : (ℕ → ℕ) → (ℕ → ℕ) → Type 0
Same f g = (i : ℕ) → f i ≡ g i

pub record IsBelow (f g : ℕ → ℕ) : Type 0 where
  pub place : ℕ
  pub smaller : f place < g place
  pub same_after : (i : ℕ) → place < i → f i ≡ g i

abbrev pub IsAtMost : (ℕ → ℕ) → (ℕ → ℕ) → Type 0
IsAtMost f g = Same f g ⊎ IsBelow f g

pub below_not_same : (f g : ℕ → ℕ) → IsBelow f g → Same f g → ⊥
below_not_same f g b s = let e = s b.place in omega (arith, b.smaller)

pub below_at_most : (f g h : ℕ → ℕ) → IsAtMost f g → IsBelow g h → IsBelow f h
below_at_most f g h (inl s) b =
    let e = s b.place in
    record { place = b.place; smaller = omega (arith, b.smaller); same_after = λ i l. s i ∙ b.same_after i l }
below_at_most f g h (inr a) b = elim (cases_lt a.place b.place) [
  | inl l ↦ let e = a.same_after b.place l in
      record { place = b.place; smaller = omega (arith, b.smaller); same_after = λ i k. a.same_after i (omega arith) ∙ b.same_after i k }
  | inr l ↦ elim (cases_eq a.place b.place) [
    | inl same ↦ let e : g a.place ≡ g b.place = ap g same in let d : h a.place ≡ h b.place = ap h same in
        record { place = a.place; smaller = omega (arith, a.smaller, b.smaller); same_after = λ i k. a.same_after i k ∙ b.same_after i (omega arith) }
    | inr other ↦ let e = b.same_after a.place (omega arith) in
        record { place = a.place; smaller = omega (arith, a.smaller); same_after = λ i k. a.same_after i k ∙ b.same_after i (omega arith) }
  ]
]

-- the same added to both
module _ (d f g f' g' : ℕ → ℕ) (left : (i : ℕ) → f' i ≡ d i + f i) (right : (i : ℕ) → g' i ≡ d i + g i) where
  added : IsAtMost f g → IsAtMost f' g'
  added (inl s) = inl (λ i. let e = s i in let l = left i in let r = right i in omega arith)
  added (inr b) = let l = left b.place in let r = right b.place in
      inr (record { place = b.place; smaller = omega (arith, b.smaller); same_after = λ i k. let e = b.same_after i k in let m = left i in let n = right i in omega arith })

  taken : Same f' g' → Same f g
  taken s i = let e = s i in let l = left i in let r = right i in omega arith

-- more added to the right, and at a later place
raised : (j : ℕ) (f g f' g' : ℕ → ℕ) → ((i : ℕ) → j ≤ i → f' i ≡ f i) → ((i : ℕ) → i ≢ j → g' i ≡ g i) → g' j ≡ g j + 1 → IsAtMost f g → IsBelow f' g'
raised j f g f' g' left right more (inl s) =
    let a = left j (omega arith) in let e = s j in
    record { place = j; smaller = omega arith; same_after = λ i k. left i (omega arith) ∙ s i ∙ sym (right i (λ x. omega arith)) }
raised j f g f' g' left right more (inr b) = elim (cases_lt j b.place) [
  | inl later ↦ let a = left b.place (omega arith) in let c = right b.place (λ x. omega arith) in
      record { place = b.place; smaller = omega (arith, b.smaller); same_after = λ i k. left i (omega arith) ∙ b.same_after i k ∙ sym (right i (λ x. omega arith)) }
  | inr within ↦ let a = left j (omega arith) in
      let at : f j ≤ g j = elim (cases_eq b.place j) [
        | inl e ↦ let x : f b.place ≡ f j = ap f e in let y : g b.place ≡ g j = ap g e in omega (arith, b.smaller)
        | inr d ↦ let x = b.same_after j (omega arith) in omega arith
      ] in
      record { place = j; smaller = omega arith; same_after = λ i k. left i (omega arith) ∙ b.same_after i (omega arith) ∙ sym (right i (λ x. omega arith)) }
]

-- f 0 + 2 (f 1) + .. + 2^(n-1) (f (n-1))
abbrev fronts : ℕ → (ℕ → ℕ) → ℕ
fronts zero f = 0
fronts (suc n) f = f 0 + 2 * fronts n (λ k. f (suc k))

fronts-same : (n : ℕ) (f g : ℕ → ℕ) → ((i : ℕ) → f i ≡ g i) → fronts n f ≡ fronts n g
fronts-same n f g h = ap (fronts n) (fun_ext (λ i. h i))

fronts-raised : (n j : ℕ) (d f : ℕ → ℕ) → j < n → d j ≡ 1 → ((i : ℕ) → i ≢ j → d i ≡ 0) → fronts n (λ k. d k + f k) ≡ 2 ^ j + fronts n f
fronts-raised zero j d f l e h = absurd (omega arith)
fronts-raised (suc n) zero d f l e h =
    let rest : fronts n (λ k. d (suc k) + f (suc k)) ≡ fronts n (λ k. f (suc k)) = fronts-same n (λ k. d (suc k) + f (suc k)) (λ k. f (suc k)) (λ k. let z = h (suc k) (λ x. omega arith) in omega arith) in
    let p : 2 ^ 0 ≡ 1 = refl in
    omega arith
fronts-raised (suc n) (suc j) d f l e h =
    let rest = fronts-raised n j (λ k. d (suc k)) (λ k. f (suc k)) (omega arith) e (λ i x. h (suc i) (λ y. x (omega arith))) in
    let z = h 0 (λ x. omega arith) in
    let p : 2 ^ suc j ≡ 2 * 2 ^ j = omega (arith, pow-suc 2 j) in
    omega arith

fronts-none : (n : ℕ) → fronts n (λ k. 0) ≡ 0
fronts-none zero = refl
fronts-none (suc n) = omega (arith, fronts-none n)

pub fronts-entries : (n : ℕ) (r : List ℕ) → length r ≤ n → fronts n (entry r) ≡ front r
fronts-entries n [] l = fronts-same n (entry []) (λ k. 0) (λ k. refl) ∙ fronts-none n
fronts-entries zero (x ∷ r) l = absurd (omega arith)
fronts-entries (suc n) (x ∷ r) l = ap (λ k. x + 2 * k) (fronts-entries n r (omega arith))

-- the exponents of x^t after its first, and those of y^s
abbrev behind : Monomial → ℕ → ℕ
behind t i = t (suc (suc i))

abbrev all_of : Monomial → ℕ → ℕ
all_of s i = s (suc i)

record Leads (n : ℕ) (t : Monomial) (u : ℕ) (s : Monomial) : Type 0 where
  at_most : with_single n t u s ≡ true → IsAtMost (behind t) (all_of s)
  leading : Same (behind t) (all_of s) → u ≡ fronts n (all_of t) → with_single n t u s ≡ true

abbrev IsWithin : ℕ → Monomial → Type 0
IsWithin n s = (k : ℕ) → n < k → s k ≡ 0

abbrev HasLeads : ℕ → Monomial → Type 0
HasLeads n t = (u : ℕ) (s : Monomial) → IsWithin n s → Leads n t u s

lower-le : (s : Monomial) (j k : ℕ) → lower s j k ≤ s k
lower-le s zero k = omega arith
lower-le s (suc j) k = elim (cases_eq k (suc j)) [
  | inl same ↦ let e : lower s (suc j) k ≡ s k - 1 = ap (less s (suc j) 1) same ∙ less-same s (suc j) 1 ∙ ap (λ x. s x - 1) (sym same) in omega arith
  | inr other ↦ let e = less-other s (suc j) 1 k other in omega arith
]

lower-within : (n : ℕ) (s : Monomial) (j : ℕ) → IsWithin n s → IsWithin n (lower s j)
lower-within n s j h k l = omega (arith, lower-le s j k, h k l)

one_of : (a b : Bool) → plus a b ≡ true → (a ≡ true) ⊎ (b ≡ true)
one_of true b e = inl refl
one_of false b e = inr e

module _ (n j : ℕ) (within : suc j ≤ n) (t : Monomial) (before : HasLeads n t) (u : ℕ) (s : Monomial) (inside : IsWithin n s) where
  abbrev more : Monomial
  more a = variable (suc j) a + t a

  -- what is added after the first exponent
  abbrev step : ℕ → ℕ
  step i = variable (suc j) (suc (suc i))

  right_at : 0 < s (suc j) → all_of s j ≡ all_of (lower s (suc j)) j + 1
  right_at l = let e = less-same s (suc j) 1 in omega arith

  right_other : (i : ℕ) → i ≢ j → all_of s i ≡ all_of (lower s (suc j)) i
  right_other i d = sym (less-other s (suc j) 1 (suc i) (λ e. d (omega arith)))

  right_below : 0 < s (suc j) → with_single n t u (lower s (suc j)) ≡ true → IsBelow (behind more) (all_of s)
  right_below l e =
      raised j (behind t) (all_of (lower s (suc j))) (behind more) (all_of s)
      (λ i k. let z = variable-other (suc j) (suc (suc i)) (λ x. omega arith) in omega arith)
      right_other
      (right_at l)
      ((before u (lower s (suc j)) (lower-within n s (suc j) inside)).at_most e)

  by_right_below : by_right n j within t u s ≡ true → IsBelow (behind more) (all_of s)
  by_right_below e = elim (cases_lt 0 (s (suc j))) [
    | inl some ↦ right_below some (sym (by_right-some n j within t u s some) ∙ e)
    | inr none ↦ absurd (false≢true (sym (by_right-none n j within t u s (omega arith)) ∙ e))
  ]

  left_at : (i : ℕ) → (0 < j → 0 < s j) → all_of s i ≡ step i + all_of (lower s j) i
  left_at i some = at j some
    where
      at : (k : ℕ) → (0 < k → 0 < s k) → all_of s i ≡ variable (suc k) (suc (suc i)) + all_of (lower s k) i
      at zero h = let z = variable-other 1 (suc (suc i)) (λ x. omega arith) in omega arith
      at (suc k) h = elim (cases_eq i k) [
        | inl same ↦
            let one : variable (suc (suc k)) (suc (suc i)) ≡ 1 = ap (λ x. variable (suc (suc k)) (suc (suc x))) same ∙ variable-same (suc (suc k)) (omega arith) in
            let e : less s (suc k) 1 (suc i) ≡ s (suc i) - 1 = ap (λ x. less s (suc k) 1 (suc x)) same ∙ less-same s (suc k) 1 ∙ ap (λ x. s (suc x) - 1) (sym same) in
            let p : 0 < s (suc i) = subst (λ x. 0 < s (suc x)) (sym same) (h (omega arith)) in
            omega arith
        | inr other ↦
            let z = variable-other (suc (suc k)) (suc (suc i)) (λ x. other (omega arith)) in
            let e = less-other s (suc k) 1 (suc i) (λ x. other (omega arith)) in
            omega arith
      ]

  by_left_at_most : by_left n j within t u s ≡ true → IsAtMost (behind more) (all_of s)
  by_left_at_most e = elim (cases_lt u (2 ^ j)) [
    | inl small ↦ absurd (false≢true (sym (by_left-small n j within t u s small) ∙ e))
    | inr enough ↦
        let some : 0 < j → 0 < s j = λ l. elim (cases_lt 0 (s j)) [
          | inl p ↦ p
          | inr z ↦ absurd (false≢true (sym (by_left-none n j within t u s l (omega arith)) ∙ e))
        ] in
        added step (behind t) (all_of (lower s j)) (behind more) (all_of s) (λ i. refl) (λ i. left_at i some)
        ((before (u - 2 ^ j) (lower s j) (lower-within n s j inside)).at_most (sym (by_left-some n j within t u s enough some) ∙ e))
  ]

  at_most_raised : with_single n more u s ≡ true → IsAtMost (behind more) (all_of s)
  at_most_raised e = elim (one_of (by_right n j within t u s) (by_left n j within t u s) (sym (single_raised n j within t u s) ∙ e)) [
    | inl r ↦ inr (by_right_below r)
    | inr l ↦ by_left_at_most l
  ]

  leading_raised : Same (behind more) (all_of s) → u ≡ fronts n (all_of more) → with_single n more u s ≡ true
  leading_raised same e =
      let add : fronts n (all_of more) ≡ 2 ^ j + fronts n (all_of t) =
      fronts-raised n j (λ i. variable (suc j) (suc i)) (all_of t) within (variable-same (suc j) (omega arith)) (λ i d. variable-other (suc j) (suc i) (λ x. d (omega arith))) in
      let some : 0 < j → 0 < s j = λ l. (let q : suc (suc (j - 1)) ≡ suc j = omega arith in
      let k : suc (j - 1) ≡ j = omega arith in
      let one : variable (suc j) (suc (suc (j - 1))) ≡ 1 = ap (variable (suc j)) q ∙ variable-same (suc j) (omega arith) in
      let z : s (suc (j - 1)) ≡ s j = ap s k in
      let f = same (j - 1) in
      omega arith) in
      let no : by_right n j within t u s ≡ false = false_from_ne_true (by_right n j within t u s) (λ r. below_not_same (behind more) (all_of s) (by_right_below r) same) in
      let yes : by_left n j within t u s ≡ true =
      by_left-some n j within t u s (omega arith) some
      ∙ (before (u - 2 ^ j) (lower s j) (lower-within n s j inside)).leading
      (taken step (behind t) (all_of (lower s j)) (behind more) (all_of s) (λ i. refl) (λ i. left_at i some) same)
      (omega arith) in
      single_raised n j within t u s ∙ ap (λ b. plus b (by_left n j within t u s)) no ∙ yes

leads_start : (n : ℕ) → HasLeads n (λ _. 0)
leads_start n u s inside = record {
  at_most = λ e. inl (λ i. elim (cases_lt n (suc i)) [
    | inl past ↦ sym (inside (suc i) past)
    | inr fits ↦ agree_at n (λ _. 0) s (and_parts (agree n (λ _. 0) (single u)) (agree n (λ _. 0) s) (sym (odd_terms-one n (map term (triangle n)) (is_single n u s)) ∙ e)).1 (suc i) (omega arith) fits
  ]);
  leading = λ same e. odd_terms-one n (map term (triangle n)) (is_single n u s)
      ∙ and_from (agree n (λ _. 0) (single u)) (agree n (λ _. 0) s)
      (agree_from n (λ _. 0) (single u) (λ k l m. nought u k (e ∙ fronts-none n)))
      (agree_from n (λ _. 0) s (λ k l m. positive k l same));
}
  where
    nought : (v k : ℕ) → v ≡ 0 → 0 ≡ single v k
    nought v zero z = refl
    nought v (suc zero) z = sym z
    nought v (suc (suc k)) z = refl

    positive : (k : ℕ) → 0 < k → Same (behind (λ _. 0)) (all_of s) → 0 ≡ s k
    positive zero l same = absurd (omega arith)
    positive (suc k) l same = same k

leads : (n : ℕ) (t : Monomial) → t 0 ≡ 0 → ((k : ℕ) → n < k → t k ≡ 0) → HasLeads n t
leads n = by_factors n (HasLeads n) (leads_start n) (λ k t above within before u s inside. step k t above within before u s inside)
  where
    step : (k : ℕ) (t : Monomial) → 0 < k → k ≤ n → HasLeads n t → HasLeads n (λ a. variable k a + t a)
    step zero t above within before u s inside = absurd (omega arith)
    step (suc j) t above within before u s inside = record { at_most = at_most_raised n j within t before u s inside; leading = leading_raised n j within t before u s inside }

-- for lists

module _ (u : ℕ) (s t : List ℕ) (tight : IsTrimmed t) where
  abbrev wide : ℕ
  wide = length s + length t + 1

  list_leads : Leads wide (exponents t) u (exponents s)
  list_leads = leads wide (exponents t) refl (λ k l. exponents-past t k (omega arith)) u (exponents s) (λ k l. exponents-past s k (omega arith))

  -- behind its first number a term of Sq(u) Sq(S) is S or below it
  pub terms_at_most : coefficient (square u) s t ≡ true → IsAtMost (λ i. entry t (suc i)) (entry s)
  terms_at_most e = list_leads.at_most (sym (coefficient_single wide u s t tight (omega arith) (omega arith)) ∙ e)

  pub leading_term : ((i : ℕ) → entry t (suc i) ≡ entry s i) → u ≡ front t → coefficient (square u) s t ≡ true
  leading_term same e =
      coefficient_single wide u s t tight (omega arith) (omega arith) ∙ list_leads.leading same (e ∙ sym (fronts-entries wide t (omega arith)))
