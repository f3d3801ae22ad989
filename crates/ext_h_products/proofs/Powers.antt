-- Powers of two have one bit, and no other numbers have.
use Rattle.std.specs.Prelude.{count_ones}
use Rattle.std.specs.Int.{is_power_of_two}
use lib.Count.{ones_step}
use lib.Pow.{pow_mono}
use Rattle.std.proofs.Common.{◌≡◌, inl, inr, ℕ, zero, suc, ◌*◌, ◌/◌, ◌%◌, ◌^◌, ◌<◌, ◌≤◌, false, ap, sym, ◌∙◌, arith}
use Rattle.std.proofs.Math.Nat.{pow-suc}
use Rattle.std.proofs.lemmas.Bool.{cases_eq, cases_lt, eqb-true, false_from_ne_true}
use Rattle.std.proofs.lemmas.Nat.{ones_le_self, zero_from_ones}

one_bit : (d n : ℕ) → n ≤ d → count_ones n ≡ 1 → (k : ℕ) × (n ≡ 2 ^ k)
one_bit zero n h e = absurd (let few = ones_le_self n in omega arith)
one_bit (suc d) n h e =
    let s = ones_step n in
    elim (cases_eq (n % 2) 0) [
      | inl even ↦
          let r = one_bit d (n / 2) (omega arith) (omega arith) in
          let half = r.1 in
          let twice = pow-suc 2 r.0 in
          (suc r.0, omega arith)
      | inr odd ↦
          let none = zero_from_ones (n / 2) (omega arith) in
          (0, omega arith)
    ]

-- of two powers of two the one is not below the other and above its half
same_power : (v w : ℕ) → 2 ^ v ≤ 2 ^ w → 2 ^ w < 2 * 2 ^ v → v ≡ w
same_power v w low high = elim (cases_lt v w) [
  | inl l ↦ absurd (let twice = pow-suc 2 v in let more : 2 ^ suc v ≤ 2 ^ w = pow_mono (omega arith) in omega arith)
  | inr a ↦ elim (cases_lt w v) [
    | inl l ↦ absurd (let twice = pow-suc 2 w in let more : 2 ^ suc w ≤ 2 ^ v = pow_mono (omega arith) in let some : 2 ^ w < 2 ^ suc w = omega arith in omega arith)
    | inr b ↦ omega arith
  ]
]

-- a number that is not the greatest power of two up to it is none
pub no_power : (n v : ℕ) → 2 ^ v ≤ n → n < 2 * 2 ^ v → (2 ^ v ≡ n → ⊥) → is_power_of_two n ≡ false
no_power n v low high other =
    false_from_ne_true (is_power_of_two n) (λ e.
    let w = one_bit n n (omega arith) (eqb-true (count_ones n) 1 e) in
    let is = w.1 in
    let same = same_power v w.0 (omega arith) (omega arith) in
    other (ap (λ (k : ℕ). 2 ^ k) same ∙ sym is))
