-- The number of squares of a row that are done, by those that a history gives.
use Rattle.std.proofs.Common.{◌≡◌, ℕ, zero, suc, ◌+◌, ◌<◌, ◌≤◌, ℤ, Bool, true, false, cond, ◌&&◌, ◌||◌, nat_eq, List, [], ◌∷◌, sym, ◌∙◌, ap, subst, arith, inl, inr}
use Rattle.std.proofs.Math.Bool.{or-false}
use Rattle.std.proofs.Math.Path.{fun_ext}
use Rattle.std.proofs.lemmas.List.Sums.{sum_by-cons}
use Rattle.std.proofs.lemmas.Bool.Decides.{nat_tests, eqb_tells}
use Rattle.bidegree.specs.declared.shape.Shape.{Shape}
use Rattle.board_core.specs.declared.event.Entry.{Entry}
use Rattle.board_core.specs.declared.event.Entry.TheVariants.{Take, Give, Back, Fail}
use Rattle.board_core.specs.Board.{IsSound}
use Rattle.board_core.specs.Laws.{IsReachedByEntries, given, given_in}
use Rattle.board_core.specs.Entries.{IsEntryHistory, after_entry}
use Rattle.board_core.specs.Machine.{State, IsNumber, IsRowNumber, count_below, height, opening, insert_square}
use Rattle.board_core.specs.Machine.IsHistory.{nothing, then}
use Rattle.board_core.proofs.Growth.{count_past}
use Rattle.board_core.proofs.Histories.{held_at_height, opening_is_sound, stays_sound}

-- ---- one number more

count_before : (test : ℕ → Bool) (k n : ℕ) → n ≤ k → count_below (λ j. test j || nat_eq j k) n ≡ count_below test n
count_before test k zero l = omega arith
count_before test k (suc n) l =
    let rest = count_before test k n (omega arith) in
    grind (arith, nat_tests)

count_with : (test : ℕ → Bool) (k n : ℕ) → k < n → test k ≡ false → count_below (λ j. test j || nat_eq j k) n ≡ count_below test n + 1
count_with test k zero l absent = absurd (omega arith)
count_with test k (suc n) l absent = elim (eqb_tells n k) [
  | inl p ↦
      let last : n ≡ k = p.1 in
      let here : test n ≡ false = subst (λ (j : ℕ). test j ≡ false) (sym last) absent in
      let tested = p.0 in
      let rest = count_before test k n (omega arith) in
      grind arith
  | inr p ↦
      let rest = count_with test k n (omega (arith, p.1)) absent in
      let tested = p.0 in
      grind arith
]

number_with : (test : ℕ → Bool) (k n : ℕ) → test k ≡ false → IsNumber test n → IsNumber (λ j. test j || nat_eq j k) (suc n)
number_with test k n absent is =
    let past = count_past test is.bound (suc k) is.beyond in
    let more = count_with test k (is.bound + suc k) (omega arith) absent in
    let count = is.count in
    record {
      bound = is.bound + suc k;
      beyond = λ j l. let none = is.beyond j (omega arith) in grind (arith, nat_tests);
      count = omega arith;
    }

-- ---- along a history

row_with : (state : State) (s k i n : ℕ) → state.done s k ≡ false → IsRowNumber state.done i n → IsRowNumber (insert_square state.done s k) i (cond (nat_eq s i) (suc n) n)
row_with state s k i n absent is = elim (eqb_tells i s) [
  | inl p ↦
      let more = number_with (state.done i) k n (subst (λ (r : ℕ). state.done r k ≡ false) (sym p.1) absent) is in
      let test : nat_eq s i ≡ true = let same = p.1 in grind (arith, nat_tests) in
      let counted : IsNumber (λ j. state.done i j || nat_eq j k) (cond (nat_eq s i) (suc n) n) = subst (λ (b : Bool). IsNumber (λ j. state.done i j || nat_eq j k) (cond b (suc n) n)) (sym test) more in
      subst (λ (b : Bool). IsNumber (λ j. state.done i j || (b && nat_eq j k)) (cond (nat_eq s i) (suc n) n)) (sym p.0) counted
  | inr p ↦
      let test : nat_eq s i ≡ false = let other = p.1 in let tested = p.0 in grind (arith, nat_tests) in
      let counted : IsNumber (λ j. state.done i j || false) (cond (nat_eq s i) (suc n) n) = subst (λ (b : Bool). IsNumber (λ j. state.done i j || false) (cond b (suc n) n)) (sym test) (plain (state.done i) n is) in
      subst (λ (b : Bool). IsNumber (λ j. state.done i j || (b && nat_eq j k)) (cond (nat_eq s i) (suc n) n)) (sym p.0) counted
]
  where
    plain : (test : ℕ → Bool) (n : ℕ) → IsNumber test n → IsNumber (λ j. test j || false) n
    plain test n is = subst (λ (t : ℕ → Bool). IsNumber t n) (fun_ext (λ j. sym (or-false (test j)))) is

one_more : (b : Bool) (n c : ℕ) → cond b (suc n) n + c ≡ n + (cond b 1 0 + c)
one_more true n c = omega arith
one_more false n c = omega arith

along : (first : State) (events : List Entry) (last : State) → IsEntryHistory first events last → IsSound first → (i n : ℕ) → IsRowNumber first.done i n → IsRowNumber last.done i (n + given_in i events)
along first [] last (nothing state) sound i n is = subst (IsRowNumber first.done i) (omega arith) is
along first (Take who s t snapshot ∷ events) last (then state e es l legal rest) sound i n is =
    along (after_entry first (Take who s t snapshot)) events last rest (stays_sound first (Take who s t snapshot) sound legal) i n is
along first (Give who s t ∷ events) last (then state e es l legal rest) sound i n is =
    let k = height first t in
    let taken = sound.taken s k (held_at_height first who s t legal.held) in
    let more = row_with first s k i n taken.not_done is in
    let all = along (after_entry first (Give who s t)) events last rest (stays_sound first (Give who s t) sound legal) i (cond (nat_eq s i) (suc n) n) more in
    let count : cond (nat_eq s i) (suc n) n + given_in i events ≡ n + given_in i (Give who s t ∷ events) = one_more (nat_eq s i) n (given_in i events) ∙ ap (λ (c : ℕ). n + c) (sym (sum_by-cons (λ (q : ℕ × ℤ). cond (nat_eq q.0 i) 1 0) (s, t) (given events))) in
    subst (IsRowNumber last.done i) count all
along first (Back who s t ∷ events) last (then state e es l legal rest) sound i n is =
    along (after_entry first (Back who s t)) events last rest (stays_sound first (Back who s t) sound legal) i n is
along first (Fail who s t ∷ events) last (then state e es l legal rest) sound i n is =
    along (after_entry first (Fail who s t)) events last rest (stays_sound first (Fail who s t) sound legal) i n is

pub fronts_are_given : (bottom : ℤ) (shape : Shape) (s t : ℕ) (start : List (ℕ × ℤ)) (events : List Entry) (state : State) → IsReachedByEntries bottom shape s t start events state → (i n : ℕ) → IsRowNumber (opening bottom shape s t start).done i n → IsRowNumber state.done i (n + given_in i events)
fronts_are_given bottom shape s t start events state reached = along (opening bottom shape s t start) events state reached.history (opening_is_sound bottom shape s t start reached.listed)
