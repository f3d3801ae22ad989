-- Blocks of 64 words of 64 bits: one binary digit of the places of rows and columns exchanged, and all six.
use Rattle.std.specs.Int.{w64, bit_at, bit_not}
use Rattle.std.specs.Int.Bits.{bit_and, bit_or}
use Rattle.std.proofs.Common.{◌≡◌, ℕ, zero, suc, ◌+◌, ◌-◌, ◌*◌, ◌/◌, ◌%◌, ◌^◌, ◌<◌, ◌≤◌, Bool, true, List, length, get_or, set, refl, ap, subst, sym, ◌∙◌, arith, inl, inr, ◌⊎◌}
use Rattle.std.specs.Prelude.{◌==◌, ◌&&◌, min, max}
use Rattle.std.proofs.lemmas.Bool.{cases_eq, cases_lt}
use Rattle.std.proofs.lemmas.List.{length-set, get_or-set_same, get_or-set_other}
use Rattle.std.proofs.lemmas.Bool.Decides.{Decides-eqb, Decides-below_and}
use Rattle.std.proofs.lemmas.Nat.Bits.{bit_at_and, bit_at_or, bit_at_not, bit_at-lt}
use Rattle.f2_vec.specs.Inside.Blocks.{with_digit, IsHalfMask, AreExchangedAt}
use Rattle.f2_vec.proofs.Moved.{shl_low, shl_high, shr_bit}

-- ---- one binary digit of a place below 64

-- how the place 2 ^ s below x stands to x
record StandsApart (s x : ℕ) : Type 0 where
  reached : bit_at x s ≡ 1 → 2 ^ s ≤ x
  below_one : bit_at x s ≡ 1 → bit_at (x - 2 ^ s) s ≡ 0
  below_zero : bit_at x s ≡ 0 → 2 ^ s ≤ x → bit_at (x - 2 ^ s) s ≡ 1

stands_apart : (s x : ℕ) → s < 6 → x < 64 → StandsApart s x
stands_apart zero x h l = record { reached = λ e. omega arith; below_one = λ e. omega arith; below_zero = λ e g. omega arith }
stands_apart (suc zero) x h l = record { reached = λ e. omega arith; below_one = λ e. omega arith; below_zero = λ e g. omega arith }
stands_apart (suc (suc zero)) x h l = record { reached = λ e. omega arith; below_one = λ e. omega arith; below_zero = λ e g. omega arith }
stands_apart (suc (suc (suc zero))) x h l = record { reached = λ e. omega arith; below_one = λ e. omega arith; below_zero = λ e g. omega arith }
stands_apart (suc (suc (suc (suc zero)))) x h l = record { reached = λ e. omega arith; below_one = λ e. omega arith; below_zero = λ e g. omega arith }
stands_apart (suc (suc (suc (suc (suc zero))))) x h l = record { reached = λ e. omega arith; below_one = λ e. omega arith; below_zero = λ e g. omega arith }
stands_apart (suc (suc (suc (suc (suc (suc s)))))) x h l = absurd (omega arith)

pub power_within : (s : ℕ) → s < 6 → 2 ^ s < 64
power_within zero h = omega arith
power_within (suc zero) h = omega arith
power_within (suc (suc zero)) h = omega arith
power_within (suc (suc (suc zero))) h = omega arith
power_within (suc (suc (suc (suc zero)))) h = omega arith
power_within (suc (suc (suc (suc (suc zero))))) h = omega arith
power_within (suc (suc (suc (suc (suc (suc s)))))) h = absurd (omega arith)

digit_cases : (s x : ℕ) → (bit_at x s ≡ 0) ⊎ (bit_at x s ≡ 1)
digit_cases s x = elim (cases_lt (bit_at x s) 1) [ inl l ↦ inl (omega arith) | inr g ↦ inr (omega (arith, bit_at-lt x s)) ]

with_same : (s x d : ℕ) → bit_at x s ≡ d → with_digit s x d ≡ x
with_same s x d e = ap (λ b. (x + d * 2 ^ s) - b * 2 ^ s) e ∙ less (d * 2 ^ s)
  where
    less : (k : ℕ) → (x + k) - k ≡ x
    less k = omega arith

with_more : (s x : ℕ) → bit_at x s ≡ 0 → with_digit s x 1 ≡ x + 2 ^ s
with_more s x e = ap (λ b. (x + 1 * 2 ^ s) - b * 2 ^ s) e ∙ omega arith

with_less : (s x : ℕ) → bit_at x s ≡ 1 → with_digit s x 0 ≡ x - 2 ^ s
with_less s x e = ap (λ b. (x + 0 * 2 ^ s) - b * 2 ^ s) e ∙ omega arith

-- ---- a word under a mask

let_through : (x mask b : ℕ) → bit_at mask b ≡ 1 → bit_at (bit_and x mask) b ≡ bit_at x b
let_through x mask b e = bit_at_and x mask b ∙ ap (min (bit_at x b)) e ∙ one (bit_at x b) (bit_at-lt x b)
  where
    one : (d : ℕ) → d < 2 → min d 1 ≡ d
    one d h = omega arith

kept_out : (x mask b : ℕ) → bit_at mask b ≡ 0 → bit_at (bit_and x mask) b ≡ 0
kept_out x mask b e = bit_at_and x mask b ∙ ap (min (bit_at x b)) e ∙ none (bit_at x b)
  where
    none : (d : ℕ) → min d 0 ≡ 0
    none d = omega arith

mask_one : (s mask b : ℕ) → IsHalfMask s mask → b < 64 → bit_at b s ≡ 0 → bit_at mask b ≡ 1
mask_one s mask b h l e = h b l ∙ ap (λ d. 1 - d) e

mask_zero : (s mask b : ℕ) → IsHalfMask s mask → b < 64 → bit_at b s ≡ 1 → bit_at mask b ≡ 0
mask_zero s mask b h l e = h b l ∙ ap (λ d. 1 - d) e

-- the bit of `a | b` where the other has none
left_alone : (a b c d : ℕ) → bit_at a c ≡ d → bit_at b c ≡ 0 → bit_at (bit_or a b) c ≡ d
left_alone a b c d e f = bit_at_or a b c ∙ ap (λ x. max x (bit_at b c)) e ∙ ap (max d) f ∙ omega arith

right_alone : (a b c d : ℕ) → bit_at a c ≡ 0 → bit_at b c ≡ d → bit_at (bit_or a b) c ≡ d
right_alone a b c d e f = bit_at_or a b c ∙ ap (λ x. max x (bit_at b c)) e ∙ ap (max 0) f ∙ omega arith

-- the bit of one row or the other
from_low : (us : List ℕ) (k s c d : ℕ) {b : ℕ} → bit_at c s ≡ 0 → with_digit s c d ≡ b → bit_at (get_or us (k + bit_at c s * 32) 0) (with_digit s c d) ≡ bit_at (get_or us k 0) b
from_low us k s c d e f = ap (λ z. bit_at (get_or us (k + z * 32) 0) (with_digit s c d)) e ∙ ap (λ z. bit_at (get_or us z 0) (with_digit s c d)) (omega arith) ∙ ap (bit_at (get_or us k 0)) f

from_high : (us : List ℕ) (k s c d : ℕ) {b : ℕ} → bit_at c s ≡ 1 → with_digit s c d ≡ b → bit_at (get_or us (k + bit_at c s * 32) 0) (with_digit s c d) ≡ bit_at (get_or us (k + 32) 0) b
from_high us k s c d e f = ap (λ z. bit_at (get_or us (k + z * 32) 0) (with_digit s c d)) e ∙ ap (λ z. bit_at (get_or us z 0) (with_digit s c d)) (omega arith) ∙ ap (bit_at (get_or us (k + 32) 0)) f

-- bit c of the word of columns whose digit is 0 ..
pub bit_of_zeros : (us : List ℕ) (k s p mask c : ℕ) → p ≡ 2 ^ s → s < 6 → c < 64 → IsHalfMask s mask → bit_at (bit_or (bit_and (get_or us k 0) mask) (bit_and (get_or us (k + 32) 0) mask * 2 ^ p % 2 ^ 64)) c ≡ bit_at (get_or us (k + bit_at c s * 32) 0) (with_digit s c 0)
bit_of_zeros us k s p mask c e h l m =
    let x = get_or us k 0 in
    let y = get_or us (k + 32) 0 in
    let near = bit_and x mask in
    let far = bit_and y mask * 2 ^ p % 2 ^ 64 in
    let apart = stands_apart s c h l in
    elim (digit_cases s c) [
      | inl q ↦
          let none : bit_at far c ≡ 0 =
          elim (cases_lt c p) [
            | inl b ↦ shl_low (bit_and y mask) p c b l
            | inr b ↦ shl_high (bit_and y mask) p c b l ∙ kept_out y mask (c - p) (mask_zero s mask (c - p) m (omega arith) (ap (λ z. bit_at (c - z) s) e ∙ apart.below_zero q (omega arith)))
          ] in
          left_alone near far c (bit_at x c) (let_through x mask c (mask_one s mask c m l q)) none ∙ sym (from_low us k s c 0 q (with_same s c 0 q))
      | inr q ↦
          let reached : p ≤ c = omega (arith, apart.reached q) in
          let from : bit_at far c ≡ bit_at y (c - p) =
          shl_high (bit_and y mask) p c reached l ∙ let_through y mask (c - p) (mask_one s mask (c - p) m (omega arith) (ap (λ z. bit_at (c - z) s) e ∙ apart.below_one q)) in
          right_alone near far c (bit_at y (c - p)) (kept_out x mask c (mask_zero s mask c m l q)) from ∙ sym (from_high us k s c 0 q (with_less s c q ∙ ap (λ z. c - z) (sym e)))
    ]

-- .. and of that of columns whose digit is 1
pub bit_of_ones : (us : List ℕ) (k s p mask c : ℕ) → p ≡ 2 ^ s → mask < 2 ^ 64 → c < 64 → IsHalfMask s mask → bit_at (bit_or (bit_and (get_or us k 0 / 2 ^ p) mask) (bit_and (get_or us (k + 32) 0) (bit_not w64 mask))) c ≡ bit_at (get_or us (k + bit_at c s * 32) 0) (with_digit s c 1)
bit_of_ones us k s p mask c e fits l m =
    let x = get_or us k 0 in
    let y = get_or us (k + 32) 0 in
    let near = bit_and (x / 2 ^ p) mask in
    let far = bit_and y (bit_not w64 mask) in
    let turned : bit_at (bit_not w64 mask) c ≡ 1 - bit_at mask c = bit_at_not w64 mask c fits l in
    elim (digit_cases s c) [
      | inl q ↦
          let one = mask_one s mask c m l q in
          left_alone near far c (bit_at x (p + c)) (let_through (x / 2 ^ p) mask c one ∙ shr_bit x p c) (kept_out y (bit_not w64 mask) c (turned ∙ ap (λ d. 1 - d) one))
          ∙ sym (from_low us k s c 1 q (with_more s c q ∙ ap (λ z. c + z) (sym e) ∙ turn_sum p))
      | inr q ↦
          let none = mask_zero s mask c m l q in
          right_alone near far c (bit_at y c) (kept_out (x / 2 ^ p) mask c none) (let_through y (bit_not w64 mask) c (turned ∙ ap (λ d. 1 - d) none)) ∙ sym (from_high us k s c 1 q (with_same s c 1 q))
    ]
  where
    turn_sum : (z : ℕ) → c + z ≡ z + c
    turn_sum z = omega arith

-- the first i words of the new block are those of the old one with the digit exchanged
pub record AreExchangedUpTo (i s : ℕ) (old new : List ℕ) : Type 0 where
  pub size : length new ≡ 64
  pub bits : (r c : ℕ) → r < i → c < 64 → bit_at (get_or new r 0) c ≡ bit_at (get_or old (r / 2 + bit_at c s * 32) 0) (with_digit s c (r % 2))

one_word_more : (i k d s x : ℕ) (old new : List ℕ) → i < 64 → i / 2 ≡ k → i % 2 ≡ d → AreExchangedUpTo i s old new → ((c : ℕ) → c < 64 → bit_at x c ≡ bit_at (get_or old (k + bit_at c s * 32) 0) (with_digit s c d)) → AreExchangedUpTo (i + 1) s old (set new i x)
one_word_more i k d s x old new l f g e here = record {
  size = length-set new i x ∙ e.size;
  bits = λ r c h m. elim (cases_eq r i) [
    | inl q ↦
        ap (λ j. bit_at (get_or (set new i x) j 0) c) q
        ∙ ap (λ z. bit_at z c) (get_or-set_same new i x 0 (omega (arith, e.size)))
        ∙ here c m
        ∙ ap (λ j. bit_at (get_or old (j + bit_at c s * 32) 0) (with_digit s c d)) (sym f ∙ ap (λ j. j / 2) (sym q))
        ∙ ap (λ j. bit_at (get_or old (r / 2 + bit_at c s * 32) 0) (with_digit s c j)) (sym g ∙ ap (λ j. j % 2) (sym q))
    | inr n ↦ ap (λ z. bit_at z c) (get_or-set_other new i r x 0 n) ∙ e.bits r c (omega arith) m
  ];
}

pub two_words_more : (k s x y : ℕ) (old new : List ℕ) → k < 32 → AreExchangedUpTo (2 * k) s old new → ((c : ℕ) → c < 64 → bit_at x c ≡ bit_at (get_or old (k + bit_at c s * 32) 0) (with_digit s c 0)) → ((c : ℕ) → c < 64 → bit_at y c ≡ bit_at (get_or old (k + bit_at c s * 32) 0) (with_digit s c 1)) → AreExchangedUpTo (2 * (k + 1)) s old (set (set new (2 * k) x) (2 * k + 1) y)
two_words_more k s x y old new l e f g =
    let size : 2 * k + 1 + 1 ≡ 2 * (k + 1) = omega arith in
    let one = one_word_more (2 * k) k 0 s x old new (omega arith) (omega arith) (omega arith) e f in
    let two = one_word_more (2 * k + 1) k 1 s y old (set new (2 * k) x) (omega arith) (omega arith) (omega arith) one g in
    subst (λ n. AreExchangedUpTo n s old (set (set new (2 * k) x) (2 * k + 1) y)) size two

-- ---- the masks

all_below : (ℕ → Bool) → ℕ → Bool
all_below p zero = true
all_below p (suc n) = p n && all_below p n

is_half : ℕ → ℕ → ℕ → Bool
is_half s mask b = bit_at mask b == 1 - bit_at b s

half_mask : (s mask : ℕ) → all_below (is_half s mask) 64 ≡ true → IsHalfMask s mask
unfolding is_half all_below
half_mask s mask e = (Decides-below_and (is_half s mask) (λ b. bit_at mask b ≡ 1 - bit_at b s) (all_below (is_half s mask)) (λ b. Decides-eqb (bit_at mask b) (1 - bit_at b s)) refl (λ _. refl) 64).0 e

pub mask_of_5 : IsHalfMask 5 0x00000000ffffffff
unfolding is_half all_below
mask_of_5 = half_mask 5 0x00000000ffffffff refl

pub mask_of_4 : IsHalfMask 4 0x0000ffff0000ffff
unfolding is_half all_below
mask_of_4 = half_mask 4 0x0000ffff0000ffff refl

pub mask_of_3 : IsHalfMask 3 0x00ff00ff00ff00ff
unfolding is_half all_below
mask_of_3 = half_mask 3 0x00ff00ff00ff00ff refl

pub mask_of_2 : IsHalfMask 2 0x0f0f0f0f0f0f0f0f
unfolding is_half all_below
mask_of_2 = half_mask 2 0x0f0f0f0f0f0f0f0f refl

pub mask_of_1 : IsHalfMask 1 0x3333333333333333
unfolding is_half all_below
mask_of_1 = half_mask 1 0x3333333333333333 refl

pub mask_of_0 : IsHalfMask 0 0x5555555555555555
unfolding is_half all_below
mask_of_0 = half_mask 0 0x5555555555555555 refl

-- ---- all six digits

-- where the bit at (r, c) stood before the digits from s on were exchanged: its row ..
abbrev pub row_before : ℕ → ℕ → ℕ → ℕ
row_before s r c = c / 2 ^ s * 2 ^ s + r / 2 ^ (6 - s)

-- .. and its column
abbrev pub column_before : ℕ → ℕ → ℕ → ℕ
column_before s r c = r % 2 ^ (6 - s) * 2 ^ s + c % 2 ^ s

-- the new block is the first with the digits from s on exchanged
pub record AreExchangedFrom (s : ℕ) (first new : List ℕ) : Type 0 where
  pub bits : (r c : ℕ) → r < 64 → c < 64 → bit_at (get_or new r 0) c ≡ bit_at (get_or first (row_before s r c) 0) (column_before s r c)

-- one digit more
record Moves (s r c : ℕ) : Type 0 where
  row_within : r / 2 + bit_at c s * 32 < 64
  column_within : with_digit s c (r % 2) < 64
  row : row_before (s + 1) (r / 2 + bit_at c s * 32) (with_digit s c (r % 2)) ≡ row_before s r c
  column : column_before (s + 1) (r / 2 + bit_at c s * 32) (with_digit s c (r % 2)) ≡ column_before s r c

moves : (s r c : ℕ) → s < 6 → r < 64 → c < 64 → Moves s r c
moves zero r c h k l = record { row_within = omega arith; column_within = omega arith; row = omega arith; column = omega arith }
moves (suc zero) r c h k l = record { row_within = omega arith; column_within = omega arith; row = omega arith; column = omega arith }
moves (suc (suc zero)) r c h k l = record { row_within = omega arith; column_within = omega arith; row = omega arith; column = omega arith }
moves (suc (suc (suc zero))) r c h k l = record { row_within = omega arith; column_within = omega arith; row = omega arith; column = omega arith }
moves (suc (suc (suc (suc zero)))) r c h k l = record { row_within = omega arith; column_within = omega arith; row = omega arith; column = omega arith }
moves (suc (suc (suc (suc (suc zero))))) r c h k l = record { row_within = omega arith; column_within = omega arith; row = omega arith; column = omega arith }
moves (suc (suc (suc (suc (suc (suc s)))))) r c h k l = absurd (omega arith)

pub none_exchanged : (block : List ℕ) → AreExchangedFrom 6 block block
none_exchanged block = record {
  bits = λ r c k l.
      let e : row_before 6 r c ≡ r = omega arith in
      let f : column_before 6 r c ≡ c = omega arith in
      ap (λ i. bit_at (get_or block i 0) c) (sym e) ∙ ap (bit_at (get_or block (row_before 6 r c) 0)) (sym f);
}

pub one_more_exchanged : (s : ℕ) (first old new : List ℕ) → s < 6 → AreExchangedAt s old new → AreExchangedFrom (s + 1) first old → AreExchangedFrom s first new
one_more_exchanged s first old new h e f = record {
  bits = λ r c k l.
      let m = moves s r c h k l in
      let i = r / 2 + bit_at c s * 32 in
      let j = with_digit s c (r % 2) in
      e r c k l ∙ f.bits i j m.row_within m.column_within
      ∙ ap (λ z. bit_at (get_or first z 0) (column_before (s + 1) i j)) m.row
      ∙ ap (bit_at (get_or first (row_before s r c) 0)) m.column;
}

pub all_exchanged : (first new : List ℕ) → AreExchangedFrom 0 first new → (r c : ℕ) → r < 64 → c < 64 → bit_at (get_or new r 0) c ≡ bit_at (get_or first c 0) r
all_exchanged first new f r c k l =
    let a : row_before 0 r c ≡ c = omega arith in
    let b : column_before 0 r c ≡ r = omega arith in
    f.bits r c k l ∙ ap (λ i. bit_at (get_or first i 0) (column_before 0 r c)) a ∙ ap (bit_at (get_or first c 0)) b
