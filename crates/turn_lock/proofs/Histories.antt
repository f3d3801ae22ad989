-- Beginnings of histories, and the entries of one number.
use Rattle.std.proofs.Common.{◌≡◌, ◌≢◌, ℕ, ◌<◌, ◌≤◌, ◌==◌, Bool, true, false, if◌then◌else◌, List, [], ◌∷◌, ◌++◌, All, refl, ap, sym, subst, ◌∙◌, arith, append_assoc, eq-eqb, ne_eqb}
use Rattle.std.proofs.lemmas.List.{append-nil}
use Rattle.std.proofs.lemmas.List.Elements.{All-cons}
use mathlib.Core.Logic.{dite}
use native.Mathlib.Decide.{dec_lt}
use mathlib.Core.List.{IsPrefix}
use Rattle.turn_lock.specs.History.{entries_by}
use Rattle.turn_lock.specs.Inside.Rule.{IsReached}

pub prefix_self : {A : Type 0} (xs : List A) → IsPrefix xs xs
prefix_self xs = ([], append-nil xs)

pub prefix_trans : {A : Type 0} (xs ys zs : List A) → IsPrefix xs ys → IsPrefix ys zs → IsPrefix xs zs
prefix_trans xs ys zs p q = (p.0 ++ q.0, sym (append_assoc xs p.0 q.0) ∙ (ap (λ w. w ++ q.0) p.1 ∙ q.1))

module _ {E : Type 0} where
  pub by_append : (n : ℕ) (xs ys : List (ℕ × E)) → entries_by n (xs ++ ys) ≡ entries_by n xs ++ entries_by n ys
  by_append n [] ys = refl
  by_append n (x ∷ xs) ys =
      elim (x.0 == n) as (λ b. (if b then (x.1 ∷ entries_by n (xs ++ ys)) else (entries_by n (xs ++ ys))) ≡ (if b then (x.1 ∷ entries_by n xs) else (entries_by n xs)) ++ entries_by n ys) [
        | true ↦ ap (λ w. x.1 ∷ w) (by_append n xs ys)
        | false ↦ by_append n xs ys
      ]

  -- one entry, of another number or of this one
  pub by_other : (n m : ℕ) (e : E) → n ≢ m → entries_by n ((m, e) ∷ []) ≡ []
  by_other n m e ne = ap (λ (b : Bool). if b then (e ∷ []) else []) (ne_eqb m n (λ q. ne (sym q)))

  pub by_own : (n : ℕ) (e : E) → entries_by n ((n, e) ∷ []) ≡ e ∷ []
  by_own n e = ap (λ (b : Bool). if b then (e ∷ []) else []) (eq-eqb n n refl)

  pub by_snoc_other : (n m : ℕ) (xs : List (ℕ × E)) (e : E) → n ≢ m → entries_by n (xs ++ (m, e) ∷ []) ≡ entries_by n xs
  by_snoc_other n m xs e ne = by_append n xs ((m, e) ∷ []) ∙ (ap (λ w. entries_by n xs ++ w) (by_other n m e ne) ∙ append-nil (entries_by n xs))

  pub by_snoc_own : (n : ℕ) (xs : List (ℕ × E)) (e : E) → entries_by n (xs ++ (n, e) ∷ []) ≡ entries_by n xs ++ e ∷ []
  by_snoc_own n xs e = by_append n xs ((n, e) ∷ []) ∙ ap (λ w. entries_by n xs ++ w) (by_own n e)

  -- a list without an entry of any number is empty
  pub by_none : (xs : List (ℕ × E)) → ((n : ℕ) → entries_by n xs ≡ []) → xs ≡ []
  by_none [] none = refl
  by_none (x ∷ xs) none =
      let here : (x.1 ∷ entries_by x.0 xs) ≡ [] = subst (λ (b : Bool). (if b then (x.1 ∷ entries_by x.0 xs) else (entries_by x.0 xs)) ≡ []) (eq-eqb x.0 x.0 refl) (none x.0) in
      absurd cc

  -- a list whose entries from a number on are none has smaller numbers alone
  pub by_below : (bound : ℕ) (xs : List (ℕ × E)) → ((n : ℕ) → bound ≤ n → entries_by n xs ≡ []) → All (λ (e : ℕ × E). e.0 < bound) xs
  by_below bound [] none = λ k d h. absurd (omega arith)
  by_below bound (x ∷ xs) none =
      let no_first : entries_by x.0 (x ∷ xs) ≡ [] → ⊥ =
      λ e. let here : (x.1 ∷ entries_by x.0 xs) ≡ [] = subst (λ (b : Bool). (if b then (x.1 ∷ entries_by x.0 xs) else (entries_by x.0 xs)) ≡ []) (eq-eqb x.0 x.0 refl) e in cc in
      let others : (n : ℕ) → bound ≤ n → entries_by n xs ≡ [] =
      λ n le. elim (x.0 == n) as (λ b. (if b then (x.1 ∷ entries_by n xs) else (entries_by n xs)) ≡ [] → entries_by n xs ≡ []) [
        | true ↦ λ e. absurd (cc)
        | false ↦ λ e. e
      ] (none n le) in
      All-cons (λ (e : ℕ × E). e.0 < bound) x xs
      (dite (dec_lt x.0 bound) (λ less. less) (λ more. absurd (no_first (none x.0 (omega arith)))))
      (by_below bound xs others)

  pub reached_self : (fronts : List (ℕ × E) → ℕ → ℕ) (width : ℕ) (xs : List (ℕ × E)) → IsReached fronts width xs xs
  reached_self fronts width xs = record { begins = prefix_self xs; below = λ i h. omega arith }
