-- Words moved up by some bits.
use Rattle.std.specs.Int.{bit_at}
use Rattle.std.specs.Int.Bits.{bit_or, bit_xor}
use Rattle.std.proofs.Common.{◌≡◌, ℕ, ◌+◌, ◌-◌, ◌*◌, ◌/◌, ◌%◌, ◌^◌, ◌<◌, ◌≤◌, Bool, true, false, cond, List, ◌++◌, length, get_or, set, ap, sym, ◌∙◌, arith, inl, inr}
use Rattle.std.specs.Prelude.{◌==◌, nat_lt, max}
use Rattle.std.proofs.lemmas.List.{get_or_past, get_or-set_same, get_or-set_other, length-set, length-append, get_or_append_left, get_or-append_right}
use Rattle.std.proofs.lemmas.Nat.{shr_split, shr-shr, pow_pos}
use Rattle.std.proofs.lemmas.Nat.Bits.{bit_at_or, bit_at-zero, bit_at_above, bit_at_cat_low, bit_at_cat_high}
use Rattle.std.proofs.lemmas.Bool.{cases_eq, cases_lt, lt-ltb, le-ltb}
use Rattle.f2_vec.specs.Vectors.{plus, sum_of, zeros, placed, bit}
use Rattle.f2_vec.specs.Inside.Packed.{unit_bit, unit_bits, HasRoom, moved_bit}
use Rattle.f2_vec.proofs.Sums.{length-zeros, bit-zeros, length-sum_of, bit-sum_of}
use Rattle.f2_vec.proofs.Packed.{unit_bit-at, none_past, bit_at-plus, length-unit_bits, bit-unit_bits, bit-unit_bits_within, unit_bits_from}

ltb_true : (a b : ℕ) → a < b → nat_lt a b ≡ true
ltb_true a b h = lt-ltb a b h

ltb_false : (a b : ℕ) → b ≤ a → nat_lt a b ≡ false
ltb_false a b h = le-ltb a b h

-- below the shift there are zeros, from it on the bits of the words
pub moved_below : (o : ℕ) (us : List ℕ) (k : ℕ) → k < o → moved_bit o us k ≡ false
moved_below o us k h = ap (λ t. cond t false (unit_bit 64 us (k - o))) (ltb_true k o h)

pub moved_above : (o : ℕ) (us : List ℕ) (k : ℕ) → o ≤ k → moved_bit o us k ≡ unit_bit 64 us (k - o)
moved_above o us k h = ap (λ t. cond t false (unit_bit 64 us (k - o))) (ltb_false k o h)

-- the low bits of a number are those of what is left of it
pub bit_at-mod : (n k i : ℕ) → i < k → bit_at (n % 2 ^ k) i ≡ bit_at n i
bit_at-mod n k i h = sym (bit_at_cat_low (n / 2 ^ k) k (n % 2 ^ k) i h) ∙ ap (λ m. bit_at m i) (shr_split n k)

-- what is left of `a << s`: zeros below s, and the bits of a from s on
pub shl_low : (a s b : ℕ) → b < s → b < 64 → bit_at (a * 2 ^ s % 2 ^ 64) b ≡ 0
shl_low a s b h l =
    bit_at-mod (a * 2 ^ s) 64 b l ∙ ap (λ m. bit_at m b) (omega arith) ∙ bit_at_cat_low a s 0 b h ∙ bit_at-zero b

pub shl_high : (a s b : ℕ) → s ≤ b → b < 64 → bit_at (a * 2 ^ s % 2 ^ 64) b ≡ bit_at a (b - s)
shl_high a s b h l =
    bit_at-mod (a * 2 ^ s) 64 b l ∙ ap (λ m. bit_at m b) (omega arith) ∙ bit_at_cat_high a s 0 b (pow_pos s) h

-- the bits of `p >> j`
pub shr_bit : (p j b : ℕ) → bit_at (p / 2 ^ j) b ≡ bit_at p (j + b)
shr_bit p j b = ap (λ m. m % 2) (shr-shr p j b)

pub max_right : (x y : ℕ) → x ≡ 0 → max x y ≡ y
max_right x y h = omega arith

pub max_left : (x y : ℕ) → y ≡ 0 → max x y ≡ x
max_left x y h = omega arith

upper : (us : List ℕ) (s i x b : ℕ) → s < 64 → b < 64 → x ≡ get_or us i 0 → s ≤ b → (bit_at (x * 2 ^ s % 2 ^ 64) b == 1) ≡ moved_bit s us (64 * i + b)
upper us s i x b p q e g =
    let place : 64 * i + (b - s) ≡ (64 * i + b) - s = omega arith in
    ap (λ y. y == 1) (shl_high x s b g q)
    ∙ ap (λ y. bit_at y (b - s) == 1) e
    ∙ sym (unit_bit-at us i (b - s) (omega arith))
    ∙ ap (unit_bit 64 us) place
    ∙ sym (moved_above s us (64 * i + b) (omega arith))

-- the word that `moved_word` gives: the upper part alone ..
pub upper_alone : (us : List ℕ) (s i x b : ℕ) → s < 64 → b < 64 → x ≡ get_or us i 0 → (b < s → i ≡ 0) → (bit_at (x * 2 ^ s % 2 ^ 64) b == 1) ≡ moved_bit s us (64 * i + b)
upper_alone us s i x b p q e side = elim (cases_lt b s) [
  | inl l ↦ ap (λ y. y == 1) (shl_low x s b l q) ∙ sym (moved_below s us (64 * i + b) (let z = side l in omega arith))
  | inr g ↦ upper us s i x b p q e g
]

-- .. and both parts
pub both_parts : (us : List ℕ) (s i x y b : ℕ) → s < 64 → 0 < s → 0 < i → b < 64 → x ≡ get_or us i 0 → y ≡ get_or us (i - 1) 0 → y < 2 ^ 64 → (bit_at (bit_or (x * 2 ^ s % 2 ^ 64) (y / 2 ^ (64 - s))) b == 1) ≡ moved_bit s us (64 * i + b)
both_parts us s i x y b p p0 i0 q e f fits =
    let hi = x * 2 ^ s % 2 ^ 64 in
    let lo = y / 2 ^ (64 - s) in
    ap (λ z. z == 1) (bit_at_or hi lo b) ∙ elim (cases_lt b s) [
      | inl l ↦
          let place : 64 * (i - 1) + ((64 - s) + b) ≡ (64 * i + b) - s = omega arith in
          ap (λ z. z == 1) (max_right (bit_at hi b) (bit_at lo b) (shl_low x s b l q))
          ∙ ap (λ z. z == 1) (shr_bit y (64 - s) b)
          ∙ ap (λ z. bit_at z ((64 - s) + b) == 1) f
          ∙ sym (unit_bit-at us (i - 1) ((64 - s) + b) (omega arith))
          ∙ ap (unit_bit 64 us) place
          ∙ sym (moved_above s us (64 * i + b) (omega arith))
      | inr g ↦
          ap (λ z. z == 1) (max_left (bit_at hi b) (bit_at lo b) (shr_bit y (64 - s) b ∙ bit_at_above y 64 ((64 - s) + b) fits (omega arith)))
          ∙ upper us s i x b p q e g
    ]

-- ---- the loop of `xor_moved`: below word i the sum stands, and the others are as first

pub record AreMovedUpTo (i o : ℕ) (first vs cur : List ℕ) : Type 0 where
  pub len : length cur ≡ length first
  pub sums : (k : ℕ) → k < 64 * i → k < 64 * length first → unit_bit 64 cur k ≡ plus (unit_bit 64 first k) (moved_bit o vs k)
  pub kept : (j : ℕ) → i ≤ j → get_or cur j 0 ≡ get_or first j 0

pub unit_bit_same_word : (us vs : List ℕ) (k : ℕ) → get_or us (k / 64) 0 ≡ get_or vs (k / 64) 0 → unit_bit 64 us k ≡ unit_bit 64 vs k
unfolding unit_bit
unit_bit_same_word us vs k e = ap (λ x. bit_at x (k % 64) == 1) e

pub unit_bit_word : (us : List ℕ) (k x : ℕ) → get_or us (k / 64) 0 ≡ x → unit_bit 64 us k ≡ (bit_at x (k % 64) == 1)
unfolding unit_bit
unit_bit_word us k x e = ap (λ y. bit_at y (k % 64) == 1) e

-- bits of a vector moved by o, seen from word i on
moved_at : (o i : ℕ) (vs : List ℕ) (k : ℕ) → o / 64 ≤ i → k / 64 ≡ i → moved_bit (o % 64) vs (64 * (i - o / 64) + k % 64) ≡ moved_bit o vs k
moved_at o i vs k h e = elim (cases_lt k o) [
  | inl l ↦ moved_below (o % 64) vs (64 * (i - o / 64) + k % 64) (omega arith) ∙ sym (moved_below o vs k l)
  | inr g ↦
      let place : (64 * (i - o / 64) + k % 64) - o % 64 ≡ k - o = omega arith in
      moved_above (o % 64) vs (64 * (i - o / 64) + k % 64) (omega arith) ∙ ap (unit_bit 64 vs) place ∙ sym (moved_above o vs k g)
]

-- one word more
pub moved_more : (i o x m : ℕ) (first vs cur : List ℕ) → o / 64 ≤ i → i < length cur → x ≡ get_or cur i 0 → ((b : ℕ) → b < 64 → (bit_at m b == 1) ≡ moved_bit (o % 64) vs (64 * (i - o / 64) + b)) → AreMovedUpTo i o first vs cur → AreMovedUpTo (i + 1) o first vs (set cur i (bit_xor x m))
moved_more i o x m first vs cur q h r w s =
    let new = set cur i (bit_xor x m) in
    record {
      len = length-set cur i (bit_xor x m) ∙ s.len;
      sums = λ k l n. elim (cases_eq (k / 64) i) [
        | inl e ↦
            unit_bit_word new k (bit_xor x m) (ap (λ j. get_or new j 0) e ∙ get_or-set_same cur i (bit_xor x m) 0 h)
            ∙ bit_at-plus x m (k % 64)
            ∙ ap (λ z. plus z (bit_at m (k % 64) == 1)) (sym (unit_bit_word first k x (ap (λ j. get_or first j 0) e ∙ sym (s.kept i (omega arith)) ∙ sym r)))
            ∙ ap (plus (unit_bit 64 first k)) (w (k % 64) (omega arith) ∙ moved_at o i vs k q e)
        | inr d ↦ unit_bit_same_word new cur k (get_or-set_other cur i (k / 64) (bit_xor x m) 0 d) ∙ s.sums k (omega arith) n
      ];
      kept = λ j l. get_or-set_other cur i j (bit_xor x m) 0 (λ t. absurd (omega arith)) ∙ s.kept j (omega arith);
    }

-- ---- as lists

pub length-placed : (n o : ℕ) (v : List Bool) → o + length v ≤ n → length (placed n o v) ≡ n
length-placed n o v h =
    length-append (zeros o ++ v) (zeros (n - (o + length v))) ∙ omega (arith, length-append (zeros o) v, length-zeros o, length-zeros (n - (o + length v)))

pub bit-placed_below : (n o : ℕ) (v : List Bool) (k : ℕ) → k < o → bit (placed n o v) k ≡ false
bit-placed_below n o v k h =
    let lz : length (zeros o) ≡ o = length-zeros o in
    get_or_append_left (zeros o ++ v) (zeros (n - (o + length v))) false k (omega (arith, length-append (zeros o) v))
    ∙ get_or_append_left (zeros o) v false k (omega arith)
    ∙ bit-zeros o k

pub bit-placed_above : (n o : ℕ) (v : List Bool) (k : ℕ) → o ≤ k → bit (placed n o v) k ≡ bit v (k - o)
bit-placed_above n o v k h =
    let lz : length (zeros o) ≡ o = length-zeros o in
    let la : length (zeros o ++ v) ≡ o + length v = length-append (zeros o) v ∙ omega arith in
    elim (cases_lt k (o + length v)) [
      | inl l ↦ get_or_append_left (zeros o ++ v) (zeros (n - (o + length v))) false k (omega arith) ∙ get_or-append_right (zeros o) v o k false lz h
      | inr g ↦
          get_or-append_right (zeros o ++ v) (zeros (n - (o + length v))) (o + length v) k false la g
          ∙ bit-zeros (n - (o + length v)) (k - (o + length v))
          ∙ sym (get_or_past v (k - o) false (omega arith))
    ]

-- the bits of vs moved by o, as a vector of length n
pub bit-placed_moved : (n o m : ℕ) (vs : List ℕ) (k : ℕ) → HasRoom 64 m vs → bit (placed n o (unit_bits 64 m vs)) k ≡ moved_bit o vs k
bit-placed_moved n o m vs k r = elim (cases_lt k o) [
  | inl l ↦ bit-placed_below n o (unit_bits 64 m vs) k l ∙ sym (moved_below o vs k l)
  | inr g ↦ bit-placed_above n o (unit_bits 64 m vs) k g ∙ bit-unit_bits 64 m vs (k - o) r ∙ sym (moved_above o vs k g)
]

pub HasRoom-moved : (n o m : ℕ) (us vs ws : List ℕ) → HasRoom 64 n us → HasRoom 64 m vs → o + m ≤ n → length ws ≡ length us → ((k : ℕ) → k < 64 * length us → unit_bit 64 ws k ≡ plus (unit_bit 64 us k) (moved_bit o vs k)) → HasRoom 64 n ws
HasRoom-moved n o m us vs ws r s w e h = record {
  enough = omega (arith, r.enough);
  tight = omega (arith, r.tight);
  spare = λ k l. elim (cases_lt k (64 * length us)) [
    | inl i ↦
        h k i
        ∙ ap (λ b. plus b (moved_bit o vs k)) (r.spare k l)
        ∙ moved_above o vs k (omega arith)
        ∙ s.spare (k - o) (omega arith)
    | inr i ↦ none_past ws k (omega arith)
  ];
}

pub unit_bits-moved : (n o m : ℕ) (us vs ws : List ℕ) → HasRoom 64 n us → HasRoom 64 m vs → o + m ≤ n → ((k : ℕ) → k < 64 * length us → unit_bit 64 ws k ≡ plus (unit_bit 64 us k) (moved_bit o vs k)) → unit_bits 64 n ws ≡ sum_of (unit_bits 64 n us) (placed n o (unit_bits 64 m vs))
unit_bits-moved n o m us vs ws r s w h =
    let u = unit_bits 64 n us in
    let v = unit_bits 64 m vs in
    let lu : length u ≡ n = length-unit_bits 64 n us in
    let lv : length v ≡ m = length-unit_bits 64 m vs in
    let e : length u ≡ length (placed n o v) = lu ∙ sym (length-placed n o v (omega arith)) in
    unit_bits_from 64 n ws (sum_of u (placed n o v)) (length-sum_of u (placed n o v) e ∙ lu) (λ k l.
    bit-sum_of u (placed n o v) k e
    ∙ ap (λ b. plus b (bit (placed n o v) k)) (bit-unit_bits_within 64 n us k l)
    ∙ ap (plus (unit_bit 64 us k)) (bit-placed_moved n o m vs k s)
    ∙ sym (h k (omega (arith, r.enough))))
