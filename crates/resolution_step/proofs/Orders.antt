-- Squares that are given row by row, at places that are told.
use Rattle.std.proofs.Common.{◌≡◌, inl, inr, ℕ, zero, suc, ◌+◌, ◌<◌, ◌⊎◌, List, [], ◌∷◌, ◌++◌, length, sym, ◌∙◌, ap, subst, arith}
use Rattle.std.specs.List.{All, AllPairs}
use Rattle.std.proofs.lemmas.Bool.{cases_lt}
use Rattle.std.proofs.lemmas.Bool.Decides.{eqb_tells}
use Rattle.std.proofs.lemmas.List.{length_push}
use Rattle.std.proofs.lemmas.List.Elements.{All-nil, All-head, All-tail, All-append, All-weaker}
use Rattle.std.proofs.lemmas.List.Kept.{AllPairs-cons}
use Rattle.resolution_laws.specs.Start.{Entry}
use Rattle.square.specs.Squares.{Placed}
use Rattle.square.specs.Tables.{row_in, with_square}
use Rattle.square.proofs.Pushing.{row_in-same, row_in-other}
use Rattle.resolution_step.specs.Alone.{AreNewAt, IsBefore}

-- ---- lists of which each element stands so to each later one

pub AllPairs-nil : {X : Type 0} (R : X → X → Type 0) → AllPairs R []
AllPairs-nil R i j d l within = absurd (omega arith)

pub AllPairs-append : {X : Type 0} (R : X → X → Type 0) (xs ys : List X) → AllPairs R xs → AllPairs R ys → All (λ x. All (R x) ys) xs → AllPairs R (xs ++ ys)
AllPairs-append R [] ys h k apart = k
AllPairs-append {X} R (x ∷ xs) ys h k apart =
    let Q : X → Type 0 = λ x. All (R x) ys in
    let head : All (R x) xs = λ j d l. h zero (suc j) d (omega arith) (omega arith) in
    AllPairs-cons R x (xs ++ ys) (All-append (R x) xs ys head (All-head Q x xs apart)) (AllPairs-append R xs ys (λ i j d l within. h (suc i) (suc j) d (omega arith) (omega arith)) k (All-tail Q x xs apart))

pub in_order_one : (e : Entry) → AllPairs IsBefore (e ∷ [])
in_order_one e = AllPairs-cons IsBefore e [] (All-nil (IsBefore e)) (AllPairs-nil IsBefore)

-- squares at places that all stand before the others
pub in_order_both : (at then : ℕ → ℕ → Type 0) (a b : List Entry) → ((i j k l : ℕ) → at i j → then k l → (i < k) ⊎ ((i ≡ k) × (j < l))) → All (λ e. at e.s e.above) a → All (λ e. then e.s e.above) b → AllPairs IsBefore a → AllPairs IsBefore b → AllPairs IsBefore (a ++ b)
in_order_both at then a b before p q h k =
    let A : Entry → Type 0 = λ e. at e.s e.above in
    let B : Entry → Type 0 = λ e. then e.s e.above in
    let Q : Entry → Type 0 = λ e. All (IsBefore e) b in
    AllPairs-append IsBefore a b h k (All-weaker A Q (λ e x. All-weaker B (IsBefore e) (λ f y. before e.s e.above f.s f.above x y) b q) a p)

-- ---- the new squares of a table

pub new_none : (at : ℕ → ℕ → Type 0) (before after : List (List Placed)) → after ≡ before → AreNewAt at before after
new_none at before after e s k l within = absurd (let same = ap (λ (x : List (List Placed)). length (row_in x s)) e in omega arith)

pub new_weaker : (at more : ℕ → ℕ → Type 0) → ((i k : ℕ) → at i k → more i k) → (before after : List (List Placed)) → AreNewAt at before after → AreNewAt more before after
new_weaker at more h before after new s k l within = h s k (new s k l within)

pub new_both : (at : ℕ → ℕ → Type 0) (before middle after : List (List Placed)) → AreNewAt at before middle → AreNewAt at middle after → AreNewAt at before after
new_both at before middle after p q s k l within =
    elim (cases_lt k (length (row_in middle s))) [
      | inl b ↦ p s k l b
      | inr b ↦ q s k b within
    ]

pub new_one : (at : ℕ → ℕ → Type 0) (before after : List (List Placed)) (s : ℕ) (q : Placed) → after ≡ with_square before s q → s < length before → at s (length (row_in before s)) → AreNewAt at before after
new_one at before after s q e there here i k l within =
    let same = ap (λ (x : List (List Placed)). length (row_in x i)) e in
    elim (eqb_tells i s) [
      | inl p ↦
          let more : length (row_in (with_square before s q) i) ≡ length (row_in before i) + 1 =
          subst (λ (x : ℕ). length (row_in (with_square before s q) x) ≡ length (row_in before x) + 1) (sym p.1) (ap length (row_in-same before s q there) ∙ length_push (row_in before s) q) in
          let last : length (row_in before i) ≡ k = omega arith in
          subst (at i) last (subst (λ (x : ℕ). at x (length (row_in before x))) (sym p.1) here)
      | inr p ↦ absurd (let other = ap length (row_in-other before s i q p.1) in omega arith)
    ]
