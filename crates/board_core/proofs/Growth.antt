-- The squares that are done grow along each history.
use Rattle.std.proofs.Common.{◌≡◌, ℕ, zero, suc, ◌+◌, ◌≤◌, Bool, true, false, ◌&&◌, ◌||◌, nat_eq, List, [], ◌∷◌, ap, arith, inl, inr}
use Rattle.std.proofs.lemmas.Bool.{cases_Bool}
use Rattle.board_core.specs.declared.event.Entry.{Entry}
use Rattle.board_core.specs.declared.event.Entry.TheVariants.{Take, Give, Back, Fail}
use Rattle.board_core.specs.Laws.{HasMoreDone}
use Rattle.board_core.specs.Entries.{IsEntryHistory, after_entry}
use Rattle.board_core.specs.Machine.{State, IsNumber, count_below, height}
use Rattle.board_core.specs.Machine.IsHistory.{nothing, then}

stays_done : (first : State) (events : List Entry) (last : State) → IsEntryHistory first events last → (s k : ℕ) → first.done s k ≡ true → last.done s k ≡ true
stays_done first [] last (nothing state) s k here = here
stays_done first (Take who i t snapshot ∷ events) last (then state e es l legal rest) s k here = stays_done (after_entry first (Take who i t snapshot)) events last rest s k here
stays_done first (Give who i t ∷ events) last (then state e es l legal rest) s k here =
    stays_done (after_entry first (Give who i t)) events last rest s k (ap (λ x. x || (nat_eq s i && nat_eq k (height first t))) here)
stays_done first (Back who i t ∷ events) last (then state e es l legal rest) s k here = stays_done (after_entry first (Back who i t)) events last rest s k here
stays_done first (Fail who i t ∷ events) last (then state e es l legal rest) s k here = stays_done (after_entry first (Fail who i t)) events last rest s k here

-- beyond the bound nothing is counted
pub count_past : (test : ℕ → Bool) (n more : ℕ) → ((k : ℕ) → n ≤ k → test k ≡ false) → count_below test (n + more) ≡ count_below test n
count_past test n zero beyond = ap (count_below test) (omega arith)
count_past test n (suc more) beyond =
    let e : n + suc more ≡ suc (n + more) = omega arith in
    let here : test (n + more) ≡ false = beyond (n + more) (omega arith) in
    let rest = count_past test n more beyond in
    let split = ap (count_below test) e in
    grind arith

count_grows : (p q : ℕ → Bool) (n : ℕ) → ((k : ℕ) → p k ≡ true → q k ≡ true) → count_below p n ≤ count_below q n
count_grows p q zero h = omega arith
count_grows p q (suc n) h =
    let rest = count_grows p q n h in
    elim (cases_Bool (p n)) [
      | inl passes ↦ let there = h n passes in grind arith
      | inr fails ↦ grind arith
    ]

number_grows : (p q : ℕ → Bool) (m n : ℕ) → ((k : ℕ) → p k ≡ true → q k ≡ true) → IsNumber p m → IsNumber q n → m ≤ n
number_grows p q m n h at more =
    let few = count_past p at.bound more.bound at.beyond in
    let many = count_past q more.bound at.bound more.beyond in
    let same : count_below q (at.bound + more.bound) ≡ count_below q (more.bound + at.bound) = ap (count_below q) (omega arith) in
    let less = count_grows p q (at.bound + more.bound) h in
    let count = at.count in
    let count_more = more.count in
    omega arith

pub grown : (first : State) (events : List Entry) (last : State) → IsEntryHistory first events last → HasMoreDone first last
grown first events last history =
    let stays = stays_done first events last history in
    record { stays = stays; rows = λ s m n at more. number_grows (first.done s) (last.done s) m n (stays s) at more }
