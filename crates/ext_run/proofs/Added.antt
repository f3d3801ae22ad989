-- What is kept of squares that get quasi-inverses.
use Rattle.std.proofs.Common.{◌≡◌, ℕ, suc, ◌⊎◌, inl, inr, Bool, true, false, nat_eq, if◌then◌else◌, List, [], ◌∷◌, ◌++◌, length, Some, ap, sym, subst, ◌∙◌, refl}
use Rattle.std.specs.Option.{option_map}
use Rattle.std.proofs.lemmas.Bool.{and_parts, eqb-true}
use Rattle.std.proofs.lemmas.Option.{same_Some}
use Rattle.f2_matrix.specs.Reduction.{Reduction}
use Rattle.save_file.specs.Bodies.{Kept, entries, is_at, kept_at, given_quasi, with_quasi_at}
use Rattle.save_file.proofs.Rules.{entry_given, entries-with_quasi_at}
use Rattle.ext_run.specs.Migrating.{Added, with_added}

-- ---- no square is added

pub same_entries : (kept : List Kept) (added : List Added) → entries (with_added kept added) ≡ entries kept
same_entries kept [] = refl
same_entries kept (q ∷ more) = same_entries (with_quasi_at kept q.s q.above q.reduction) more ∙ entries-with_quasi_at kept q.s q.above q.reduction

pub with_added-append : (kept : List Kept) (first more : List Added) → with_added kept (first ++ more) ≡ with_added (with_added kept first) more
with_added-append kept [] more = refl
with_added-append kept (q ∷ first) more = with_added-append (with_quasi_at kept q.s q.above q.reduction) first more

-- ---- a list with one quasi-inverse more

module _ (s k : ℕ) (r : Reduction) where
  pub longer_given : (kept : List Kept) → length (with_quasi_at kept s k r) ≡ length kept
  longer_given [] = refl
  longer_given (x ∷ xs) = ap (λ (n : ℕ). suc n) (longer_given xs)

  pub found_given : (kept : List Kept) (i j : ℕ) → kept_at (with_quasi_at kept s k r) i j ≡ option_map (given_quasi s k r) (kept_at kept i j)
  found_given [] i j = refl
  found_given (x ∷ xs) i j = ap (λ (e : Bool). if e then Some (given_quasi s k r x) else kept_at (with_quasi_at xs s k r) i j) (ap (λ e. is_at e i j) (entry_given s k r x)) ∙ by_test (is_at x.entry i j) (found_given xs i j)
    where
      by_test : (b : Bool) → kept_at (with_quasi_at xs s k r) i j ≡ option_map (given_quasi s k r) (kept_at xs i j) → (if b then Some (given_quasi s k r x) else kept_at (with_quasi_at xs s k r) i j) ≡ option_map (given_quasi s k r) (if b then Some x else kept_at xs i j)
      by_test true rest = refl
      by_test false rest = rest

  -- what stands at a place is of that place
  pub place_is : (kept : List Kept) (i j : ℕ) (x : Kept) → kept_at kept i j ≡ Some x → (x.entry.s ≡ i) × (x.entry.above ≡ j)
  place_is [] i j x is = absurd (cc)
  place_is (y ∷ ys) i j x is = by_test (is_at y.entry i j) refl (place_is ys i j x) is
    where
      by_test : (b : Bool) → is_at y.entry i j ≡ b → (kept_at ys i j ≡ Some x → (x.entry.s ≡ i) × (x.entry.above ≡ j)) → (if b then Some y else kept_at ys i j) ≡ Some x → (x.entry.s ≡ i) × (x.entry.above ≡ j)
      by_test true test rest there =
          let p = and_parts (nat_eq y.entry.s i) (nat_eq y.entry.above j) test in
          let same : y ≡ x = same_Some y x there in
          subst (λ (z : Kept). (z.entry.s ≡ i) × (z.entry.above ≡ j)) same (eqb-true y.entry.s i p.0, eqb-true y.entry.above j p.1)
      by_test false test rest there = rest there

  -- the quasi-inverse of a square that is given one, or not
  pub quasi_given_is : (x : Kept) (b : Bool) → is_at x.entry s k ≡ b → (q : Reduction) → (if b then record { entry = x.entry; quasi = Some r } else x).quasi ≡ Some q → (x.quasi ≡ Some q) ⊎ ((is_at x.entry s k ≡ true) × (q ≡ r))
  quasi_given_is x true test q is = inr (test, sym (same_Some r q is))
  quasi_given_is x false test q is = inl is

  pub quasi_stays_given : (x : Kept) (b : Bool) → is_at x.entry s k ≡ b → (q : Reduction) → x.quasi ≡ Some q → (is_at x.entry s k ≡ true → q ≡ r) → (if b then record { entry = x.entry; quasi = Some r } else x).quasi ≡ Some q
  quasi_stays_given x true test q is same = ap (λ (z : Reduction). Some z) (sym (same test))
  quasi_stays_given x false test q is same = is
