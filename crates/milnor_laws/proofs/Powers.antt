-- Products of powers of sums of monomials in two sets of variables x1, x2, .. and y1, y2, .., mod 2.
use Rattle.std.proofs.Common.{◌≡◌, ◌≢◌, ℕ, zero, suc, ◌+◌, ◌-◌, ◌*◌, ◌<◌, ◌≤◌, inl, inr, Bool, true, false, ◌&&◌, nat_eq, if◌then◌else◌, List, [], ◌∷◌, refl, sym, ◌∙◌, ap, subst, arith}
use Rattle.std.proofs.Math.Path.{fun_ext}
use Rattle.std.proofs.Math.Bool as Booleans
use Rattle.std.proofs.lemmas.Bool.{cases_eq, eq-eqb, ne_eqb, eqb-true, and_from, and_parts}
use Rattle.f2_vec.specs.Vectors.{plus}
use Rattle.f2_vec.proofs.Sums.{plus-comm}
use Rattle.milnor_basis.specs.Product.{odd_by}
use Rattle.milnor_basis.proofs.Parity.{odd_by-same}
use Rattle.milnor_laws.proofs.SumsModTwo.{and-plus}
use Rattle.milnor_laws.proofs.BinomialSums.{binomial_sum, binomial_sum-same, binomial_sum-plus, binomial_sum-none, binomial_sum-and, binomial_sum-odd_by}

-- A monomial is the function of its exponents: that of x_i at i. What it says at 0 is not read.
abbrev pub Monomial : Type 0
Monomial = ℕ → ℕ

-- a test of monomials in two sets of variables
abbrev pub Test : Type 0
Test = Monomial → Monomial → Bool

-- the variable x_i, where x_0 is 1
abbrev pub variable : ℕ → Monomial
variable zero a = 0
variable (suc i) a = if nat_eq a (suc i) then 1 else 0

pub variable-same : (n : ℕ) → 0 < n → variable n n ≡ 1
variable-same zero l = absurd (omega arith)
variable-same (suc n) l = rw (eq-eqb (suc n) (suc n) refl) refl

pub variable-other : (n a : ℕ) → a ≢ n → variable n a ≡ 0
variable-other zero a d = refl
variable-other (suc n) a d = rw (ne_eqb a (suc n) d) refl

-- the exponents with v taken from that at n
abbrev pub less : Monomial → ℕ → ℕ → Monomial
less t n v a = if nat_eq a n then t a - v else t a

pub less-same : (t : Monomial) (n v : ℕ) → less t n v n ≡ t n - v
less-same t n v = rw (eq-eqb n n refl) refl

pub less-other : (t : Monomial) (n v a : ℕ) → a ≢ n → less t n v a ≡ t a
less-other t n v a d = rw (ne_eqb a n d) refl

-- whether two exponent functions agree at 1 to n
abbrev pub agree : ℕ → Test
agree zero a b = true
agree (suc n) a b = nat_eq (a (suc n)) (b (suc n)) && agree n a b

pub agree_at : (n : ℕ) (a b : Monomial) → agree n a b ≡ true → (k : ℕ) → 0 < k → k ≤ n → a k ≡ b k
agree_at zero a b h k l m = absurd (omega arith)
agree_at (suc n) a b h k l m =
    let both = and_parts (nat_eq (a (suc n)) (b (suc n))) (agree n a b) h in
    elim (cases_eq k (suc n)) [
      | inl same ↦ ap a same ∙ eqb-true (a (suc n)) (b (suc n)) both.0 ∙ ap b (sym same)
      | inr other ↦ agree_at n a b both.1 k l (omega arith)
    ]

pub agree_from : (n : ℕ) (a b : Monomial) → ((k : ℕ) → 0 < k → k ≤ n → a k ≡ b k) → agree n a b ≡ true
agree_from zero a b h = refl
agree_from (suc n) a b h =
    and_from (nat_eq (a (suc n)) (b (suc n))) (agree n a b) (eq-eqb (a (suc n)) (b (suc n)) (h (suc n) (omega arith) (omega arith))) (agree_from n a b (λ k l m. h k l (omega arith)))

pub agree_not : (n : ℕ) (a b : Monomial) (k : ℕ) → 0 < k → k ≤ n → a k ≢ b k → agree n a b ≡ false
agree_not n a b k l m d = by (agree n a b) refl
  where
    by : (c : Bool) → agree n a b ≡ c → c ≡ false
    by true e = absurd (d (agree_at n a b e k l m))
    by false e = refl

-- a term x^left y^right of the sum that x^t takes to the power t(diagonal)
pub record Term : Type 0 where
  pub diagonal : ℕ
  pub left : Monomial
  pub right : Monomial

-- a test of pairs of monomials, of those times the term to the power v
abbrev pub shift : ℕ → Term → Test → Test
shift v c f = λ a b. f (λ i. v * c.left i + a i) (λ j. v * c.right j + b j)

shift-zero : (c : Term) (f : Test) → shift 0 c f ≡ f
shift-zero c f = fun_ext (λ a. fun_ext (λ b.
    let e : (λ i. 0 * c.left i + a i) ≡ a = fun_ext (λ i. omega arith) in
    let g : (λ j. 0 * c.right j + b j) ≡ b = fun_ext (λ j. omega arith) in
    ap (λ x. f x (λ j. 0 * c.right j + b j)) e ∙ ap (f a) g))

pub shift-shift : (v w : ℕ) (c d : Term) (f : Test) → shift v c (shift w d f) ≡ shift w d (shift v c f)
shift-shift v w c d f = fun_ext (λ a. fun_ext (λ b.
    let e : (λ i. w * d.left i + (v * c.left i + a i)) ≡ (λ i. v * c.left i + (w * d.left i + a i)) = fun_ext (λ i. omega arith) in
    let g : (λ j. w * d.right j + (v * c.right j + b j)) ≡ (λ j. v * c.right j + (w * d.right j + b j)) = fun_ext (λ j. omega arith) in
    ap (λ x. f x (λ j. w * d.right j + (v * c.right j + b j))) e ∙ ap (f (λ i. v * c.left i + (w * d.left i + a i))) g))

pub shift-add : (v w u : ℕ) (c : Term) (f : Test) → v + w ≡ u → shift v c (shift w c f) ≡ shift u c f
shift-add v w u c f s = fun_ext (λ a. fun_ext (λ b.
    let e : (λ i. w * c.left i + (v * c.left i + a i)) ≡ (λ i. u * c.left i + a i) = fun_ext (λ i. together v w u (c.left i) (a i) s) in
    let g : (λ j. w * c.right j + (v * c.right j + b j)) ≡ (λ j. u * c.right j + b j) = fun_ext (λ j. together v w u (c.right j) (b j) s) in
    ap (λ x. f x (λ j. w * c.right j + (v * c.right j + b j))) e ∙ ap (f (λ i. u * c.left i + a i)) g))
  where
    together : (v w u x a : ℕ) → v + w ≡ u → w * x + (v * x + a) ≡ u * x + a
    together v w u x a s = let e : u * x ≡ (v + w) * x = ap (λ k. k * x) (sym s) in omega arith

-- Whether an odd number of terms pass a test in the product over k, from 1 to n, of (the sum of the given terms of k)^(t k),
-- multiplied out by the binomial theorem, one term after another.
abbrev pub odd_terms : ℕ → List Term → Monomial → Test → Bool
odd_terms n [] t f = agree n (λ _. 0) t && f (λ _. 0) (λ _. 0)
odd_terms n (c ∷ cs) t f = binomial_sum (t c.diagonal) (λ v. odd_terms n cs (less t c.diagonal v) (shift v c f))

-- it is additive in the test

pub odd_terms-plus : (n : ℕ) (cs : List Term) (t : Monomial) (f g : Test) → odd_terms n cs t (λ a b. plus (f a b) (g a b)) ≡ plus (odd_terms n cs t f) (odd_terms n cs t g)
odd_terms-plus n [] t f g = and-plus (agree n (λ _. 0) t) (f (λ _. 0) (λ _. 0)) (g (λ _. 0) (λ _. 0))
odd_terms-plus n (c ∷ cs) t f g =
    binomial_sum-same (t c.diagonal) (λ v. odd_terms n cs (less t c.diagonal v) (shift v c (λ a b. plus (f a b) (g a b)))) (λ v. plus (odd_terms n cs (less t c.diagonal v) (shift v c f)) (odd_terms n cs (less t c.diagonal v) (shift v c g)))
    (λ v l. odd_terms-plus n cs (less t c.diagonal v) (shift v c f) (shift v c g))
    ∙ binomial_sum-plus (t c.diagonal) (λ v. odd_terms n cs (less t c.diagonal v) (shift v c f)) (λ v. odd_terms n cs (less t c.diagonal v) (shift v c g))

pub odd_terms-none : (n : ℕ) (cs : List Term) (t : Monomial) → odd_terms n cs t (λ a b. false) ≡ false
odd_terms-none n [] t = Booleans.and-false (agree n (λ _. 0) t)
odd_terms-none n (c ∷ cs) t =
    binomial_sum-same (t c.diagonal) (λ v. odd_terms n cs (less t c.diagonal v) (λ a b. false)) (λ v. false) (λ v l. odd_terms-none n cs (less t c.diagonal v)) ∙ binomial_sum-none (t c.diagonal)

pub odd_terms-same : (n : ℕ) (cs : List Term) (t : Monomial) (f g : Test) → ((a b : Monomial) → f a b ≡ g a b) → odd_terms n cs t f ≡ odd_terms n cs t g
odd_terms-same n cs t f g h = ap (odd_terms n cs t) (fun_ext (λ a. fun_ext (λ b. h a b)))

pub odd_terms-fails : (n : ℕ) (cs : List Term) (t : Monomial) (f : Test) → ((a b : Monomial) → f a b ≡ false) → odd_terms n cs t f ≡ false
odd_terms-fails n cs t f h = odd_terms-same n cs t f (λ a b. false) h ∙ odd_terms-none n cs t

pub odd_terms-and : (n : ℕ) (cs : List Term) (t : Monomial) (c : Bool) (f : Test) → odd_terms n cs t (λ a b. c && f a b) ≡ (c && odd_terms n cs t f)
odd_terms-and n cs t true f = refl
odd_terms-and n cs t false f = odd_terms-none n cs t

pub odd_terms-odd_by : {X : Type 0} → (n : ℕ) (cs : List Term) (t : Monomial) (g : X → Test) (xs : List X) → odd_terms n cs t (λ a b. odd_by (λ x. g x a b) xs) ≡ odd_by (λ x. odd_terms n cs t (g x)) xs
odd_terms-odd_by n cs t g [] = odd_terms-none n cs t
odd_terms-odd_by n cs t g (x ∷ xs) = odd_terms-plus n cs t (g x) (λ a b. odd_by (λ y. g y a b) xs) ∙ ap (plus (odd_terms n cs t (g x))) (odd_terms-odd_by n cs t g xs)

-- the product of no powers is 1
pub odd_terms-one : (n : ℕ) (cs : List Term) (f : Test) → odd_terms n cs (λ _. 0) f ≡ f (λ _. 0) (λ _. 0)
odd_terms-one n [] f = ap (λ b. b && f (λ _. 0) (λ _. 0)) (agree_from n (λ _. 0) (λ _. 0) (λ k l m. refl))
odd_terms-one n (c ∷ cs) f =
    ap (λ t. odd_terms n cs t (shift 0 c f)) (fun_ext (λ a. nothing (nat_eq a c.diagonal)))
    ∙ ap (odd_terms n cs (λ _. 0)) (shift-zero c f)
    ∙ odd_terms-one n cs f
  where
    nothing : (b : Bool) → (if b then 0 - 0 else 0) ≡ 0
    nothing true = refl
    nothing false = refl

-- One power more is one factor more.

-- taking from the exponents of x_n times x^t
less-raised : (t : Monomial) (n k v : ℕ) → (k ≡ n → 0 < n × (v ≤ t n)) → less (λ a. variable n a + t a) k v ≡ (λ a. variable n a + less t k v a)
less-raised t n k v h = fun_ext (λ a. elim (cases_eq a k) [
  | inl same ↦ elim (cases_eq k n) [
    | inl e ↦ let all = h e in
        let at : a ≡ n = same ∙ e in
        let one : variable n a ≡ 1 = ap (variable n) at ∙ variable-same n all.0 in
        let enough : t a ≡ t n = ap t at in
        let l : less (λ b. variable n b + t b) k v a ≡ variable n a + t a - v = rw (eq-eqb a k same) refl in
        let r : less t k v a ≡ t a - v = rw (eq-eqb a k same) refl in
        let few : v ≤ t n = all.1 in
        omega arith
    | inr d ↦ let none : variable n a ≡ 0 = variable-other n a (λ e. d (sym same ∙ e)) in
        let l : less (λ b. variable n b + t b) k v a ≡ variable n a + t a - v = rw (eq-eqb a k same) refl in
        let r : less t k v a ≡ t a - v = rw (eq-eqb a k same) refl in
        omega arith
  ]
  | inr other ↦ less-other (λ b. variable n b + t b) k v a other ∙ ap (λ x. variable n a + x) (sym (less-other t k v a other))
])

less-taken : (t : Monomial) (n v : ℕ) → 0 < n → less (λ a. variable n a + t a) n (suc v) ≡ less t n v
less-taken t n v p = fun_ext (λ a. elim (cases_eq a n) [
  | inl same ↦ let one : variable n a ≡ 1 = ap (variable n) same ∙ variable-same n p in
      let l : less (λ b. variable n b + t b) n (suc v) a ≡ variable n a + t a - suc v = rw (eq-eqb a n same) refl in
      let r : less t n v a ≡ t a - v = rw (eq-eqb a n same) refl in
      omega arith
  | inr other ↦ let none : variable n a ≡ 0 = variable-other n a other in
      let l : less (λ b. variable n b + t b) n (suc v) a ≡ variable n a + t a = rw (ne_eqb a n other) refl in
      let r : less t n v a ≡ t a = rw (ne_eqb a n other) refl in
      omega arith
])

-- one factor more: the sum of the given terms of n
abbrev pub Raises : ℕ → List Term → ℕ → Type 0
Raises m cs n = (t : Monomial) (f : Test) → odd_terms m cs (λ a. variable n a + t a) f ≡ odd_by (λ d. nat_eq d.diagonal n && odd_terms m cs t (shift 1 d f)) cs

module _ (m : ℕ) (c : Term) (cs : List Term) (n : ℕ) (above : 0 < n) (rest : Raises m cs n) (t : Monomial) (f : Test) where
  -- the factor gives a term of the others
  raised_by_others : (k : ℕ) → ((v : ℕ) → v ≤ k → c.diagonal ≡ n → v ≤ t n) → binomial_sum k (λ v. odd_terms m cs (less (λ a. variable n a + t a) c.diagonal v) (shift v c f)) ≡ odd_by (λ d. nat_eq d.diagonal n && binomial_sum k (λ v. odd_terms m cs (less t c.diagonal v) (shift v c (shift 1 d f)))) cs
  raised_by_others k few =
      binomial_sum-same k (λ v. odd_terms m cs (less (λ a. variable n a + t a) c.diagonal v) (shift v c f)) (λ v. odd_by (λ d. nat_eq d.diagonal n && odd_terms m cs (less t c.diagonal v) (shift v c (shift 1 d f))) cs)
      (λ v l. ap (λ u. odd_terms m cs u (shift v c f)) (less-raised t n c.diagonal v (λ e. (above, few v l e)))
      ∙ rest (less t c.diagonal v) (shift v c f)
      ∙ odd_by-same (λ d. nat_eq d.diagonal n && odd_terms m cs (less t c.diagonal v) (shift 1 d (shift v c f))) (λ d. nat_eq d.diagonal n && odd_terms m cs (less t c.diagonal v) (shift v c (shift 1 d f))) cs
      (λ d. ap (λ g. nat_eq d.diagonal n && odd_terms m cs (less t c.diagonal v) g) (shift-shift 1 v d c f)))
      ∙ binomial_sum-odd_by k (λ d v. nat_eq d.diagonal n && odd_terms m cs (less t c.diagonal v) (shift v c (shift 1 d f))) cs
      ∙ odd_by-same (λ d. binomial_sum k (λ v. nat_eq d.diagonal n && odd_terms m cs (less t c.diagonal v) (shift v c (shift 1 d f)))) (λ d. nat_eq d.diagonal n && binomial_sum k (λ v. odd_terms m cs (less t c.diagonal v) (shift v c (shift 1 d f)))) cs
      (λ d. binomial_sum-and k (nat_eq d.diagonal n) (λ v. odd_terms m cs (less t c.diagonal v) (shift v c (shift 1 d f))))

  raised_other : c.diagonal ≢ n → odd_terms m (c ∷ cs) (λ a. variable n a + t a) f ≡ odd_by (λ d. nat_eq d.diagonal n && odd_terms m (c ∷ cs) t (shift 1 d f)) (c ∷ cs)
  raised_other d =
      let same : variable n c.diagonal + t c.diagonal ≡ t c.diagonal = omega (arith, variable-other n c.diagonal d) in
      ap (λ k. binomial_sum k (λ v. odd_terms m cs (less (λ a. variable n a + t a) c.diagonal v) (shift v c f))) same
      ∙ raised_by_others (t c.diagonal) (λ v l e. absurd (d e))
      ∙ ap (λ b. plus (b && odd_terms m (c ∷ cs) t (shift 1 c f)) (odd_by (λ d. nat_eq d.diagonal n && odd_terms m (c ∷ cs) t (shift 1 d f)) cs)) (sym (ne_eqb c.diagonal n d))

  raised_same : c.diagonal ≡ n → odd_terms m (c ∷ cs) (λ a. variable n a + t a) f ≡ odd_by (λ d. nat_eq d.diagonal n && odd_terms m (c ∷ cs) t (shift 1 d f)) (c ∷ cs)
  raised_same e =
      let more : variable n c.diagonal + t c.diagonal ≡ suc (t c.diagonal) = omega (arith, ap (variable n) e ∙ variable-same n above) in
      let others : Bool = odd_by (λ d. nat_eq d.diagonal n && odd_terms m (c ∷ cs) t (shift 1 d f)) cs in
      let taken : (v : ℕ) → odd_terms m cs (less (λ a. variable n a + t a) c.diagonal (suc v)) (shift (suc v) c f) ≡ odd_terms m cs (less t c.diagonal v) (shift v c (shift 1 c f)) =
      (λ v. ap (λ u. odd_terms m cs u (shift (suc v) c f)) (ap (λ k. less (λ a. variable n a + t a) k (suc v)) e ∙ less-taken t n v above ∙ ap (λ k. less t k v) (sym e))
      ∙ ap (odd_terms m cs (less t c.diagonal v)) (sym (shift-add v 1 (suc v) c f (omega arith)))) in
      ap (λ k. binomial_sum k (λ v. odd_terms m cs (less (λ a. variable n a + t a) c.diagonal v) (shift v c f))) more
      ∙ ap (λ b. plus b (binomial_sum (t c.diagonal) (λ v. odd_terms m cs (less (λ a. variable n a + t a) c.diagonal (suc v)) (shift (suc v) c f)))) (raised_by_others (t c.diagonal) (λ v l g. subst (λ k. v ≤ t k) e l))
      ∙ ap (plus others) (binomial_sum-same (t c.diagonal) (λ v. odd_terms m cs (less (λ a. variable n a + t a) c.diagonal (suc v)) (shift (suc v) c f)) (λ v. odd_terms m cs (less t c.diagonal v) (shift v c (shift 1 c f))) (λ v l. taken v))
      ∙ plus-comm others (odd_terms m (c ∷ cs) t (shift 1 c f))
      ∙ ap (λ b. plus (b && odd_terms m (c ∷ cs) t (shift 1 c f)) others) (sym (eq-eqb c.diagonal n e))

pub odd_terms-raised : (m : ℕ) (cs : List Term) (n : ℕ) → 0 < n → n ≤ m → Raises m cs n
odd_terms-raised m [] n above within t f =
    ap (λ b. b && f (λ _. 0) (λ _. 0)) (agree_not m (λ _. 0) (λ a. variable n a + t a) n above within (λ e. omega (arith, variable-same n above)))
odd_terms-raised m (c ∷ cs) n above within t f = elim (cases_eq c.diagonal n) [
  | inl same ↦ raised_same m c cs n above (odd_terms-raised m cs n above within) t f same
  | inr other ↦ raised_other m c cs n above (odd_terms-raised m cs n above within) t f other
]
