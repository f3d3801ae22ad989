-- The fillings of places with numbers that have given sums are the terms of a product of powers.
use Rattle.std.proofs.Common.{◌≡◌, ℕ, zero, suc, ◌+◌, ◌-◌, ◌*◌, ◌^◌, ◌<◌, ◌≤◌, inl, inr, Bool, true, false, ◌&&◌, nat_eq, if◌then◌else◌, List, [], ◌∷◌, map, bit_and, refl, sym, ◌∙◌, ap, arith}
use Rattle.std.specs.List.{All, range_with_len}
use Rattle.std.proofs.Math.Path.{fun_ext}
use Rattle.std.proofs.Math.Bool as Booleans
use Rattle.std.proofs.lemmas.Bool.{cases_eq, cases_lt, and_right, false_from_ne_true, false≢true}
use Rattle.std.proofs.lemmas.List.Elements.{All-append, All-head, All-map, All-tail, All-weaker}
use Rattle.milnor_basis.specs.Product.{choose, is_odd}
use Rattle.milnor_basis.specs.Inside.Walk.{is_odd_below, fillings, places_to, Sums, no_sums, add_at, add}
use Rattle.milnor_basis.proofs.Kummer.{choose_odd, choose-past}
use Rattle.milnor_basis.proofs.MatrixList.{IsPlace, All-range}
use Rattle.milnor_basis.proofs.Parity.{is_odd_below-same, is_odd_below-none}
use Rattle.milnor_basis.proofs.Prune.{add_at-other, add_at-same}
use Rattle.milnor_laws.proofs.SumsModTwo.{is_odd_below-swap, is_odd_below-ends}
use Rattle.milnor_laws.proofs.BinomialSums.{binomial_sum-is}
use Rattle.milnor_laws.proofs.Powers.{Monomial, Test, variable, variable-other, less, less-same, less-other, agree, agree_at, agree_from, agree_not, Term, shift, shift-shift, odd_terms, odd_terms-fails}
use Rattle.milnor_laws.proofs.Coproduct.{term}

-- a sum of tests of the fillings

pub fillings_below : {X : Type 0} → (put : ℕ → ℕ → ℕ → X → X) (bound : ℕ) (ps : List (ℕ × ℕ)) (tests : ℕ → X → Bool) (n : ℕ) (x : X) → fillings put bound ps (λ y. is_odd_below (λ v. tests v y) n) x ≡ is_odd_below (λ v. fillings put bound ps (tests v) x) n
fillings_below put bound [] tests n x = refl
fillings_below put bound (p ∷ ps) tests n x =
    ap (λ g. fillings put bound ps g x) (fun_ext (λ y. is_odd_below-swap (λ w v. tests v (put p.0 p.1 w y)) bound n))
    ∙ fillings_below put bound ps (λ v y. is_odd_below (λ w. tests v (put p.0 p.1 w y)) bound) n x

fillings_none : {X : Type 0} → (put : ℕ → ℕ → ℕ → X → X) (bound : ℕ) (ps : List (ℕ × ℕ)) (x : X) → fillings put bound ps (λ y. false) x ≡ false
fillings_none put bound [] x = refl
fillings_none put bound (p ∷ ps) x =
    ap (λ b. fillings put bound ps (λ y. b) x) (is_odd_below-none (λ v. false) bound (λ v l. refl)) ∙ fillings_none put bound ps x

pub fillings_and : {X : Type 0} → (put : ℕ → ℕ → ℕ → X → X) (bound : ℕ) (ps : List (ℕ × ℕ)) (c : Bool) (test : X → Bool) (x : X) → fillings put bound ps (λ y. c && test y) x ≡ (c && fillings put bound ps test x)
fillings_and put bound ps true test x = refl
fillings_and put bound ps false test x = fillings_none put bound ps x

-- the sums of rows or columns from 1 on
abbrev pub from_one : (ℕ → ℕ) → ℕ → ℕ
from_one f zero = 0
from_one f (suc a) = f (suc a)

from_one-zero : from_one (λ _. 0) ≡ (λ _. 0)
from_one-zero = fun_ext (λ a. at a)
  where
    at : (a : ℕ) → from_one (λ _. 0) a ≡ 0
    at zero = refl
    at (suc a) = refl

from_one-add_at : (i v : ℕ) (f : ℕ → ℕ) → from_one (add_at i v f) ≡ (λ a. v * variable i a + from_one f a)
from_one-add_at i v f = fun_ext (λ a. at i a)
  where
    times : (v x y : ℕ) → x ≡ 0 → y ≡ v * x + y
    times v x y e = let none : v * x ≡ v * 0 = ap (λ z. v * z) e in omega arith

    either : (b : Bool) (y : ℕ) → (if b then y + v else y) ≡ v * (if b then 1 else 0) + y
    either true y = omega arith
    either false y = omega arith

    at : (i a : ℕ) → from_one (add_at i v f) a ≡ v * variable i a + from_one f a
    at zero zero = times v 0 0 refl
    at (suc i) zero = times v (variable (suc i) 0) 0 (variable-other (suc i) 0 (λ e. omega arith))
    at zero (suc a) = add_at-other 0 v f (suc a) (λ e. omega arith) ∙ times v 0 (f (suc a)) refl
    at (suc i) (suc a) = either (nat_eq (suc a) (suc i)) (f (suc a))

-- whether sums are those of x^t, with rows and columns that pass
abbrev pub are_terms : ℕ → Monomial → Test → Sums → Bool
are_terms n t f y = y.apart && (agree n y.diagonals t && f (from_one y.rows) (from_one y.columns))

-- v may be added to diagonal k exactly where it is one of the parts of t k whose binomial coefficient is odd
module _ (n : ℕ) (d t : Monomial) (k v : ℕ) (above : 0 < k) (within : k ≤ n) where
  added : v ≤ t k → agree n d (less t k v) ≡ true → agree n (add_at k v d) t ≡ true
  added enough e = agree_from n (add_at k v d) t (λ a p q. elim (cases_eq a k) [
    | inl same ↦ let at : d k ≡ t k - v = agree_at n d (less t k v) e k above within ∙ less-same t k v in
        let sum : d k + v ≡ t k = omega arith in
        ap (add_at k v d) same ∙ add_at-same k v d ∙ sum ∙ ap t (sym same)
    | inr other ↦ add_at-other k v d a other ∙ agree_at n d (less t k v) e a p q ∙ less-other t k v a other
  ])

  taken : agree n (add_at k v d) t ≡ true → agree n d (less t k v) ≡ true
  taken e = agree_from n d (less t k v) (λ a p q. elim (cases_eq a k) [
    | inl same ↦ let at : add_at k v d k ≡ t k = agree_at n (add_at k v d) t e k above within in
        let sum : d k ≡ t k - v = omega (arith, add_at-same k v d) in
        ap d same ∙ sum ∙ sym (less-same t k v) ∙ ap (less t k v) (sym same)
    | inr other ↦ sym (add_at-other k v d a other) ∙ agree_at n (add_at k v d) t e a p q ∙ sym (less-other t k v a other)
  ])

  by_parts : v ≤ t k → (b : Bool) → agree n d (less t k v) ≡ b → (nat_eq (bit_and v (d k)) 0 && agree n (add_at k v d) t) ≡ (is_odd (choose (t k) v) && agree n d (less t k v))
  by_parts enough true e =
      let at : d k ≡ t k - v = agree_at n d (less t k v) e k above within ∙ less-same t k v in
      let whole : v + (t k - v) ≡ t k = omega arith in
      ap (λ b. nat_eq (bit_and v (d k)) 0 && b) (added enough e ∙ sym e)
      ∙ ap (λ b. b && agree n d (less t k v)) (ap (λ c. nat_eq (bit_and v c) 0) at ∙ sym (choose_odd v (t k - v)) ∙ ap (λ c. is_odd (choose c v)) whole)
  by_parts enough false e =
      and_right (nat_eq (bit_and v (d k)) 0) (agree n (add_at k v d) t) (false_from_ne_true (agree n (add_at k v d) t) (λ h. false≢true (sym e ∙ taken h)))
      ∙ sym (and_right (is_odd (choose (t k) v)) (agree n d (less t k v)) e)

  pub apart_added : (nat_eq (bit_and v (d k)) 0 && agree n (add_at k v d) t) ≡ (is_odd (choose (t k) v) && agree n d (less t k v))
  apart_added = elim (cases_lt (t k) v) [
    | inl past ↦ and_right (nat_eq (bit_and v (d k)) 0) (agree n (add_at k v d) t) (agree_not n (add_at k v d) t k above within (λ e. omega (arith, add_at-same k v d)))
        ∙ sym (ap (λ c. is_odd c && agree n d (less t k v)) (choose-past (t k) v past))
    | inr enough ↦ by_parts enough (agree n d (less t k v)) refl
  ]

regroup : (p q s c u g : Bool) → (q && s) ≡ (c && u) → ((p && q) && (s && g)) ≡ (c && (p && (u && g)))
regroup true q s c u g h = sym (Booleans.and_assoc q s g) ∙ ap (λ b. b && g) h ∙ Booleans.and_assoc c u g
regroup false q s c u g h = sym (Booleans.and-false c)

are_terms-add : (n : ℕ) (t : Monomial) (f : Test) (i j v : ℕ) (y : Sums) → 0 < i + j → i + j ≤ n
    → are_terms n t f (add i j v y) ≡ (is_odd (choose (t (i + j)) v) && are_terms n (less t (i + j) v) (shift v (term (i, j)) f) y)
are_terms-add n t f i j v y above within =
    let rows : from_one (add_at i (2 ^ j * v) y.rows) ≡ (λ a. v * (2 ^ j * variable i a) + from_one y.rows a) = from_one-add_at i (2 ^ j * v) y.rows ∙ fun_ext (λ a. order (2 ^ j) v (variable i a) (from_one y.rows a)) in
    let columns : from_one (add_at j v y.columns) ≡ (λ a. v * variable j a + from_one y.columns a) = from_one-add_at j v y.columns in
    ap (λ x. (y.apart && nat_eq (bit_and v (y.diagonals (i + j))) 0) && (agree n (add_at (i + j) v y.diagonals) t && f x (from_one (add_at j v y.columns)))) rows
    ∙ ap (λ x. (y.apart && nat_eq (bit_and v (y.diagonals (i + j))) 0) && (agree n (add_at (i + j) v y.diagonals) t && f (λ a. v * (2 ^ j * variable i a) + from_one y.rows a) x)) columns
    ∙ regroup y.apart (nat_eq (bit_and v (y.diagonals (i + j))) 0) (agree n (add_at (i + j) v y.diagonals) t) (is_odd (choose (t (i + j)) v)) (agree n y.diagonals (less t (i + j) v)) (shift v (term (i, j)) f (from_one y.rows) (from_one y.columns))
    (apart_added n y.diagonals t (i + j) v above within)
  where
    order : (p v x y : ℕ) → p * v * x + y ≡ v * (p * x) + y
    order p v x y = omega arith

-- no exponents of monomials that pass reach the bound
abbrev pub IsBounded : ℕ → ℕ → Test → Type 0
IsBounded n bound f = (v i j : ℕ) → bound ≤ v → i ≤ n → j ≤ n → 0 < i + j → (a b : Monomial) → shift v (term (i, j)) f a b ≡ false

IsBounded-shift : (n bound w : ℕ) (c : Term) (f : Test) → IsBounded n bound f → IsBounded n bound (shift w c f)
IsBounded-shift n bound w c f h v i j l p q above a b =
    ap (λ g. g a b) (shift-shift v w (term (i, j)) c f) ∙ h v i j l p q above (λ x. w * c.left x + a x) (λ x. w * c.right x + b x)

pub fillings_are : (n bound m w : ℕ) → m + w ≤ n → (ps : List (ℕ × ℕ)) → All (IsPlace m w) ps → (t : Monomial) (f : Test) → IsBounded n bound f
    → fillings add bound ps (are_terms n t f) no_sums ≡ odd_terms n (map term ps) t f
fillings_are n bound m w fits [] inside t f bounded = ap (λ z. agree n (λ _. 0) t && f z z) from_one-zero
fillings_are n bound m w fits (p ∷ ps) inside t f bounded =
    let place = All-head (IsPlace m w) p ps inside in
    let above = place.not_corner in let row = place.row in let column = place.column in
    let k : ℕ = p.0 + p.1 in
    let odd : ℕ → Bool = λ v. is_odd (choose (t k) v) in
    let rest : ℕ → Sums → Bool = λ v. are_terms n (less t k v) (shift v (term p) f) in
    let terms : ℕ → Bool = λ v. odd_terms n (map term ps) (less t k v) (shift v (term p) f) in
    ap (λ g. fillings add bound ps g no_sums) (fun_ext (λ y. is_odd_below-same (λ v. are_terms n t f (add p.0 p.1 v y)) (λ v. odd v && rest v y) bound (λ v l. are_terms-add n t f p.0 p.1 v y above (omega arith))))
    ∙ fillings_below add bound ps (λ v y. odd v && rest v y) bound no_sums
    ∙ is_odd_below-same (λ v. fillings add bound ps (λ y. odd v && rest v y) no_sums) (λ v. odd v && terms v) bound
    (λ v l. fillings_and add bound ps (odd v) (rest v) no_sums
    ∙ ap (λ b. odd v && b) (fillings_are n bound m w fits ps (All-tail (IsPlace m w) p ps inside) (less t k v) (shift v (term p) f) (IsBounded-shift n bound v (term p) f bounded)))
    ∙ is_odd_below-ends (λ v. odd v && terms v) bound (suc (t k))
    (λ v l. and_right (odd v) (terms v) (odd_terms-fails n (map term ps) (less t k v) (shift v (term p) f) (bounded v p.0 p.1 l (omega arith) (omega arith) above)))
    (λ v l. ap (λ c. is_odd c && terms v) (choose-past (t k) v (omega arith)))
    ∙ sym (binomial_sum-is (t k) terms)

-- the places that a product fills
pub places_to-inside : (w m : ℕ) → All (IsPlace m w) (places_to w m w)
places_to-inside w zero =
    All-map (IsPlace zero w) (λ j. (0, j)) (range_with_len 1 w) (All-range (λ j. IsPlace zero w (0, j)) 1 w (λ j l k. record { not_corner = omega arith; row = omega arith; column = omega arith }))
places_to-inside w (suc i) =
    All-append (IsPlace (suc i) w) (places_to w i w) (map (λ j. (suc i, j)) (range_with_len 0 (suc w)))
    (All-weaker (IsPlace i w) (IsPlace (suc i) w) (λ p h. let c = h.not_corner in let r = h.row in let d = h.column in record { not_corner = c; row = omega arith; column = d }) (places_to w i w) (places_to-inside w i))
    (All-map (IsPlace (suc i) w) (λ j. (suc i, j)) (range_with_len 0 (suc w)) (All-range (λ j. IsPlace (suc i) w (suc i, j)) 0 (suc w) (λ j l k. record { not_corner = omega arith; row = omega arith; column = omega arith })))

-- the sums of a matrix with rows 0 to m and columns 0 to w
pub record IsInBox (m w : ℕ) (y : Sums) : Type 0 where
  pub rows : (k : ℕ) → m < k → y.rows k ≡ 0
  pub columns : (k : ℕ) → w < k → y.columns k ≡ 0
  pub diagonals : (k : ℕ) → m + w < k → y.diagonals k ≡ 0

IsInBox-add : (m w : ℕ) (p : ℕ × ℕ) (v : ℕ) (y : Sums) → IsPlace m w p → IsInBox m w y → IsInBox m w (add p.0 p.1 v y)
IsInBox-add m w p v y place inside = let row = place.row in let column = place.column in record {
  rows = λ k l. add_at-other p.0 (2 ^ p.1 * v) y.rows k (λ e. omega arith) ∙ inside.rows k l;
  columns = λ k l. add_at-other p.1 v y.columns k (λ e. omega arith) ∙ inside.columns k l;
  diagonals = λ k l. add_at-other (p.0 + p.1) v y.diagonals k (λ e. omega arith) ∙ inside.diagonals k l;
}

-- tests that agree on those
pub fillings_same : (bound m w : ℕ) (ps : List (ℕ × ℕ)) → All (IsPlace m w) ps → (f g : Sums → Bool) → ((y : Sums) → IsInBox m w y → f y ≡ g y) → (y : Sums) → IsInBox m w y → fillings add bound ps f y ≡ fillings add bound ps g y
fillings_same bound m w [] places f g h y inside = h y inside
fillings_same bound m w (p ∷ ps) places f g h y inside =
    fillings_same bound m w ps (All-tail (IsPlace m w) p ps places) (λ x. is_odd_below (λ v. f (add p.0 p.1 v x)) bound) (λ x. is_odd_below (λ v. g (add p.0 p.1 v x)) bound)
    (λ x i. is_odd_below-same (λ v. f (add p.0 p.1 v x)) (λ v. g (add p.0 p.1 v x)) bound (λ v l. h (add p.0 p.1 v x) (IsInBox-add m w p v x (All-head (IsPlace m w) p ps places) i)))
    y inside
