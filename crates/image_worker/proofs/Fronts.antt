-- Fronts of rows: how many places of each are done. What is done in a degree has all below it done, down to its first place.
use Rattle.std.proofs.Common.{◌≡◌, ◌≢◌, ℕ, zero, suc, ◌+◌, ◌-◌, ◌<◌, ◌≤◌, Bool, true, false, nat_lt, ap, subst, arith, inl, inr}
use Rattle.std.proofs.lemmas.Bool.{cases_lt, cases_eq, lt-ltb, le-ltb}
use Rattle.image_worker.specs.Stocks.{one_if}

pub started_below : (starts i : ℕ) → i < starts → one_if (nat_lt i starts) ≡ 1
started_below starts i l = let is : nat_lt i starts ≡ true = lt-ltb i starts l in ap one_if is

pub started_from : (starts i : ℕ) → starts ≤ i → one_if (nat_lt i starts) ≡ 0
started_from starts i l = let is : nat_lt i starts ≡ false = le-ltb i starts l in ap one_if is

-- what is done has what is below it done
abbrev pub Falls : ℕ → ℕ → (ℕ → ℕ) → Type 0
Falls last n f = (i k : ℕ) → i < last → k ≤ n + suc i → k < f (suc i) → k < f i

falls_down : (last n : ℕ) (f : ℕ → ℕ) → Falls last n f → (d i k : ℕ) → i + d ≤ last → k ≤ n + suc i → k < f (i + d) → k < f i
falls_down last n f h zero i k l a b = let e : i + 0 ≡ i = omega arith in subst (λ j. k < f j) e b
falls_down last n f h (suc d) i k l a b =
    let e : i + suc d ≡ suc (i + d) = omega arith in
    falls_down last n f h d i k (omega arith) a (h (i + d) k (omega arith) (omega arith) (subst (λ j. k < f j) e b))

pub falls_to : (last n : ℕ) (f : ℕ → ℕ) → Falls last n f → (i j k : ℕ) → i ≤ j → j ≤ last → k ≤ n + suc i → k < f j → k < f i
falls_to last n f h i j k a b c d =
    let e : j ≡ i + (j - i) = omega arith in
    falls_down last n f h (j - i) i k (omega arith) c (subst (λ x. k < f x) e d)

-- one place of row s more is done, and what it stands on was
pub record IsPut (n s k : ℕ) (f g : ℕ → ℕ) : Type 0 where
  pub front : f s ≡ k
  pub more : g s ≡ suc k
  pub others : (i : ℕ) → i ≢ s → g i ≡ f i
  pub stem : k ≤ n + s + 1
  pub below : (i : ℕ) → suc i ≡ s → k ≤ n + s → k < f i

module _ (last n s k : ℕ) (f g : ℕ → ℕ) (h : Falls last n f) (p : IsPut n s k f g) where
  pub put_falls : Falls last n g
  put_falls i j a b c = elim (cases_eq (suc i) s) [
    | inl e ↦
        let other : g i ≡ f i = p.others i (λ q. omega arith) in
        let j_in : j < suc k = omega (arith, ap g e, p.more) in
        elim (cases_lt j k) [
          | inl l ↦ (let below : j < f i = h i j a b (omega (arith, ap f e, p.front)) in omega arith)
          | inr l ↦ (let below : k < f i = p.below i e (omega arith) in omega arith)
        ]
    | inr apart ↦
        let above : g (suc i) ≡ f (suc i) = p.others (suc i) apart in
        let here : j < f i = h i j a b (omega arith) in
        elim (cases_eq i s) [
          | inl e ↦ omega (arith, ap f e, ap g e, p.front, p.more)
          | inr other ↦ (let same : g i ≡ f i = p.others i other in omega arith)
        ]
  ]

  -- no other row wants the kernel of that degree
  pub wanted_here : s ≤ last → ((j : ℕ) → j ≤ last → f j ≤ n + j + 2) → (i : ℕ) → i < last → k < g i → g (suc i) ≤ k → i ≡ s
  wanted_here row short i a b c = elim (cases_eq i s) [
    | inl e ↦ e
    | inr apart ↦
        let same : g i ≡ f i = p.others i apart in
        elim (cases_eq (suc i) s) [
          | inl e ↦ absurd (omega (arith, ap g e, p.more))
          | inr far ↦
              let above : g (suc i) ≡ f (suc i) = p.others (suc i) far in
              elim (cases_lt i s) [
                | inl l ↦
                    let t = s - 1 in
                    let e : suc t ≡ s = omega arith in
                    let size = short i (omega arith) in
                    let under : k < f t = p.below t e (omega (arith, size)) in
                    absurd (let down : k < f (suc i) = falls_to last n f h (suc i) t k (omega arith) (omega arith) (omega (arith, size)) under in omega arith)
                | inr l ↦
                    absurd (let down : k < f s = falls_to last n f h s i k l (omega arith) (omega (arith, p.stem)) (omega arith) in omega (arith, p.front))
              ]
        ]
  ]

  -- what is wanted at another degree was wanted
  pub wanted_lower : (i j : ℕ) → j ≢ k → j < g i → j < f i
  wanted_lower i j apart a = elim (cases_eq i s) [
    | inl e ↦ omega (arith, ap f e, ap g e, p.front, p.more)
    | inr o ↦ (let same : g i ≡ f i = p.others i o in omega arith)
  ]

  pub wanted_upper : (i j : ℕ) → g i ≤ j → f i ≤ j
  wanted_upper i j a = elim (cases_eq i s) [
    | inl e ↦ omega (arith, ap f e, ap g e, p.front, p.more)
    | inr o ↦ (let same : g i ≡ f i = p.others i o in omega arith)
  ]
