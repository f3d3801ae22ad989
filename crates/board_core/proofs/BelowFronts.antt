-- The squares below the fronts of rows.
use Rattle.std.proofs.Common.{◌≡◌, ℕ, zero, suc, ◌+◌, ◌-◌, ◌<◌, ◌≤◌, Bool, true, false, nat_lt, List, length, set, slice_index_or, min, refl, sym, ◌∙◌, subst, arith, inl, inr}
use Rattle.std.proofs.Math.Path.{fun_ext}
use Rattle.std.proofs.lemmas.Grind.{common_steps}
use Rattle.std.proofs.lemmas.Bool.Decides.{nat_tests, eqb_tells}
use Rattle.std.proofs.lemmas.List.{get_or-set_other}
use Rattle.board_core.specs.Board.{below_fronts}
use Rattle.board_core.specs.Machine.{Squares, HasParents, IsNumber, IsRowNumberBelow, count_below, insert_square}

-- ---- how many squares a row has

-- of the numbers below a bound, so many are below a front
pub count_below-front : (test : ℕ → Bool) (front bound : ℕ) → ((k : ℕ) → test k ≡ nat_lt k front) → count_below test bound ≡ min bound front
count_below-front test front zero h = omega arith
count_below-front test front (suc bound) h =
    let here = h bound in
    let rest = count_below-front test front bound h in
    grind (arith, nat_tests)

pub front_number : (test : ℕ → Bool) (front : ℕ) → ((k : ℕ) → test k ≡ nat_lt k front) → IsNumber test front
front_number test front h = record {
  bound = front;
  beyond = λ k least. let here = h k in grind (arith, nat_tests);
  count = count_below-front test front front h ∙ omega arith;
}

pub number_is_front : (test : ℕ → Bool) (front n : ℕ) → ((k : ℕ) → test k ≡ nat_lt k front) → IsNumber test n → n ≡ front
number_is_front test front n h is =
    let past : nat_lt front front ≡ nat_lt front front = refl in
    let beyond : nat_lt is.bound front ≡ false = sym (h is.bound) ∙ is.beyond is.bound (omega arith) in
    let count = is.count in
    let small = count_below-front test front is.bound h in
    let least : front ≤ is.bound = grind (arith, nat_tests) in
    omega arith

pub below_is_front : (done : ℕ → ℕ → Bool) (s front n : ℕ) → (s ≡ 0 → ⊥) → ((k : ℕ) → done (s - 1) k ≡ nat_lt k front) → IsRowNumberBelow done s n → n ≡ front
below_is_front done zero front n some h is = absurd (some refl)
below_is_front done (suc s) front n some h is =
    let e : suc s - 1 ≡ s = omega arith in
    number_is_front (done s) front n (subst (λ (i : ℕ). (k : ℕ) → done i k ≡ nat_lt k front) e h) is

-- a square that is not done, where the one before it is, is the first of its row that is not
first_absent : (row : ℕ → Bool) (k front : ℕ) → ((j : ℕ) → row j ≡ nat_lt j front) → ((j : ℕ) → suc j ≡ k → row j ≡ true) → row k ≡ false → k ≡ front
first_absent row zero front h before absent = let here = h 0 in grind (arith, nat_tests)
first_absent row (suc k) front h before absent =
    let here = h (suc k) in
    let there = h k in
    let done = before k refl in
    grind (arith, nat_tests)

pub stands_first : {stands : Squares} (done : Squares) (s k front : ℕ) → ((k : ℕ) → done s k ≡ nat_lt k front) → HasParents stands done s k → done s k ≡ false → k ≡ front
stands_first done s k front h parents absent = first_absent (done s) k front h parents.before absent

-- ---- one square more

pub stands_at_front : (fronts : List ℕ) (s k : ℕ) → ((j : ℕ) → suc j ≡ k → below_fronts fronts s j ≡ true) → below_fronts fronts s k ≡ false → slice_index_or fronts s 0 ≡ k
stands_at_front fronts s k before absent = sym (first_absent (below_fronts fronts s) k (slice_index_or fronts s 0) (λ j. refl) before absent)

pub add_at_front : (fronts : List ℕ) (s k : ℕ) → s < length fronts → slice_index_or fronts s 0 ≡ k → below_fronts (set fronts s (k + 1)) ≡ insert_square (below_fronts fronts) s k
add_at_front fronts s k within here = fun_ext (λ i. fun_ext (λ j. at i j))
  where
    at : (i j : ℕ) → below_fronts (set fronts s (k + 1)) i j ≡ insert_square (below_fronts fronts) s k i j
    at i j = elim (eqb_tells i s) [ inl p ↦ grind (arith, nat_tests, common_steps) | inr p ↦ let other = get_or-set_other fronts s i (k + 1) 0 p.1 in grind (arith, nat_tests) ]
