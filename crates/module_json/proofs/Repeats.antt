-- The first entry of one square on one generator that has another sum.
use Rattle.std.specs.Prelude.{◌≡◌, ℕ, ◌<◌, ◌≤◌, ◌==◌, ◌&&◌, nat_eq, nat_lt, Bool, true, false, not, cond, List, length, Some, None, position, AllPairs}
use Rattle.std.specs.Cmp.Lexicographic.{pointwise}
use Rattle.std.specs.List.{position_or_len}
use Rattle.std.proofs.Common.{get_or, refl, sym, subst, ◌⊎◌, inl, inr, arith}
use Rattle.std.proofs.lemmas.Bool.{cases_lt}
use Rattle.std.proofs.lemmas.Bool.Decides.{nat_tests}
use Rattle.std.proofs.lemmas.List.Sums.{position_or_len_is, fails_before_first}
use Rattle.std.proofs.lemmas.List.Quantifiers.{position-Some}
use Rattle.module_spec.specs.Spec.{Entry}
use Rattle.module_json.specs.ModuleFile.{differs}
use Rattle.module_spec.specs.WellFormed.{Agree}

-- an entry of this square on this generator
abbrev pub lists : ℕ → ℕ → Entry → Bool
lists n i f = (f.n == n) && (f.generator == i)

-- ---- the first place at which a test passes

at_place : {X : Type 0} (p : X → Bool) (xs : List X) (i : ℕ) (b : Bool) → position_or_len p xs ≡ i → nat_lt i (length xs) ≡ b → position p xs ≡ cond b (Some i) None
at_place p xs i b is e = rw (is, e)

pub position_is : {X : Type 0} (p : X → Bool) (xs : List X) (i : ℕ) (d : X) → i < length xs → p (get_or xs i d) ≡ true → ((k : ℕ) → k < i → p (get_or xs k d) ≡ false) → position p xs ≡ Some i
position_is p xs i d l here before = at_place p xs i true (position_or_len_is p xs i d (omega arith) before (λ _. here)) (grind (arith, nat_tests))

pub position_none : {X : Type 0} (p : X → Bool) (xs : List X) (d : X) → ((k : ℕ) → k < length xs → p (get_or xs k d) ≡ false) → position p xs ≡ None
position_none p xs d h = at_place p xs (length xs) false (position_or_len_is p xs (length xs) d (omega arith) h (λ l. absurd (omega (arith, l)))) (grind (arith, nat_tests))

pub position-None : {X : Type 0} (p : X → Bool) (xs : List X) (k : ℕ) (d : X) → position p xs ≡ None → k < length xs → p (get_or xs k d) ≡ false
position-None p xs k d none l = by (nat_lt (position_or_len p xs) (length xs)) refl
  where
    by : (b : Bool) → nat_lt (position_or_len p xs) (length xs) ≡ b → p (get_or xs k d) ≡ false
    by true e = let some : position p xs ≡ Some (position_or_len p xs) = rw e in absurd (cc)
    by false e = let past : length xs ≤ position_or_len p xs = grind (arith, nat_tests) in fails_before_first p xs k d (omega arith)

-- ---- entries

pub no_listing : (e : Entry) (es : List Entry) → position (lists e.n e.generator) es ≡ None → position (differs e) es ≡ None
no_listing e es none = position_none (differs e) es e (λ k l. rw (position-None (lists e.n e.generator) es k e none l))

pub first_listing_differs : (e : Entry) (es : List Entry) (i : ℕ) (d : Entry) → position (lists e.n e.generator) es ≡ Some i → d ≡ get_or es i d → pointwise nat_eq d.sum e.sum ≡ false → position (differs e) es ≡ Some i
first_listing_differs e es i d some is other =
    let first = position-Some (lists e.n e.generator) es i d some in
    position_is (differs e) es i d first.0 (rw (first.1) (rw (sym is, other))) (λ k l. rw (first.2 k l))

same_square : (e f g : Entry) → lists e.n e.generator f ≡ true → lists e.n e.generator g ≡ true → (f.n ≡ g.n) × (f.generator ≡ g.generator)
same_square e f g h k = (grind (arith, nat_tests), grind (arith, nat_tests))

agreeing : (e f : Entry) (d : Entry) → Agree d f → lists e.n e.generator d ≡ true → pointwise nat_eq d.sum e.sum ≡ true → differs e f ≡ false
agreeing e f d agree here same = by (lists e.n e.generator f) refl
  where
    by : (b : Bool) → lists e.n e.generator f ≡ b → (b && not (pointwise nat_eq f.sum e.sum)) ≡ false
    by false is = refl
    by true is =
        let squares = same_square e d f here is in
        rw (sym (agree.sums squares.0 squares.1), same)

pub first_listing_agrees : (e : Entry) (es : List Entry) (i : ℕ) (d : Entry) → AllPairs Agree es → position (lists e.n e.generator) es ≡ Some i → d ≡ get_or es i d → pointwise nat_eq d.sum e.sum ≡ true → position (differs e) es ≡ None
first_listing_agrees e es i d agree some is same =
    let first = position-Some (lists e.n e.generator) es i d some in
    let here : lists e.n e.generator d ≡ true = subst (λ x. lists e.n e.generator x ≡ true) (sym is) first.1 in
    position_none (differs e) es d (λ k l. by k here first.2 (λ later. agrees k later l) (cases_lt k i) (cases_lt i k))
  where
    agrees : (k : ℕ) → i < k → k < length es → Agree d (get_or es k d)
    agrees k l m = subst (λ x. Agree x (get_or es k d)) (sym is) (agree i k d l m)

    by : (k : ℕ) → lists e.n e.generator d ≡ true → ((j : ℕ) → j < i → lists e.n e.generator (get_or es j d) ≡ false) → (i < k → Agree d (get_or es k d)) → (k < i) ⊎ (i ≤ k) → (i < k) ⊎ (k ≤ i) → differs e (get_or es k d) ≡ false
    by k here before later (inl l) w = rw (before k l)
    by k here before later (inr l) (inl m) = agreeing e (get_or es k d) d (later m) here same
    by k here before later (inr l) (inr m) =
        let same_place : i ≡ k = omega arith in
        let this : get_or es k d ≡ d = rw (sym same_place) (sym is) in
        rw this (agreeing e d d (record { sums = λ _ _. refl }) here same)
