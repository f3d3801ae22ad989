-- Bits packed in words, as a list: reads, a bit that is set, one bit more, sums, the first 1.
use Rattle.std.specs.Int.{bit_at, div_ceil}
use Rattle.std.specs.Int.Bits.{bit_and, bit_xor}
use Rattle.std.proofs.Common.{◌≡◌, ◌≢◌, ℕ, zero, suc, ◌+◌, ◌*◌, ◌/◌, ◌%◌, ◌^◌, ◌<◌, ◌≤◌, Bool, false, List, [], ◌∷◌, ◌++◌, length, get_or, set, replicate, refl, ap, sym, ◌∙◌, arith, inl, inr}
use Rattle.std.specs.Prelude.{◌==◌}
use Rattle.std.proofs.lemmas.List.{get_or_past, get_or_read, length-set, length-replicate, get_or-set_same, get_or-set_other, get_or-replicate, get_or_append_left, length_push, get_or_push, set_at}
use Rattle.std.proofs.lemmas.List.FromFn.{length-map-range_with_len, get_or-map-range_with_len, fill_by_all}
use Rattle.std.proofs.lemmas.Nat.Bits.{bit_at_xor, bit_at-lt, bit_at-zero, shr_and_one}
use Rattle.std.proofs.lemmas.Bool.{cases_eq, cases_lt}
use Rattle.f2_vec.specs.Vectors.{plus, sum_of, zeros, bit}
use Rattle.f2_vec.specs.Inside.Packed.{unit_bit, unit_bits, HasRoom}
use Rattle.f2_vec.proofs.Sums.{bit-sum_of, length-sum_of, length-zeros, bit-zeros}

pub length-unit_bits : (w n : ℕ) (us : List ℕ) → length (unit_bits w n us) ≡ n
unfolding unit_bits
length-unit_bits w n us = length-map-range_with_len (unit_bit w us) 0 n

pub bit-unit_bits_within : (w n : ℕ) (us : List ℕ) (k : ℕ) → k < n → bit (unit_bits w n us) k ≡ unit_bit w us k
unfolding unit_bits
bit-unit_bits_within w n us k h = get_or-map-range_with_len (unit_bit w us) 0 n k k false h (omega arith)

-- the bits as a list are those of the units, also past the end
pub bit-unit_bits : (w n : ℕ) (us : List ℕ) (k : ℕ) → HasRoom w n us → bit (unit_bits w n us) k ≡ unit_bit w us k
bit-unit_bits w n us k r = elim (cases_lt k n) [
  | inl h ↦ bit-unit_bits_within w n us k h
  | inr h ↦ get_or_past (unit_bits w n us) k false (omega (arith, length-unit_bits w n us)) ∙ sym (r.spare k h)
]

-- a list with these bits is the list of the bits
pub unit_bits_from : (w n : ℕ) (us : List ℕ) (v : List Bool) → length v ≡ n → ((k : ℕ) → k < n → bit v k ≡ unit_bit w us k) → unit_bits w n us ≡ v
unfolding unit_bits
unit_bits_from w n us v e h = sym (fill_by_all (unit_bit w us) v n false e h)

pub unit_bit_zero : (w : ℕ) (us : List ℕ) (k : ℕ) → get_or us (k / w) 0 ≡ 0 → unit_bit w us k ≡ false
unfolding unit_bit
unit_bit_zero w us k e = ap (λ x. bit_at x (k % w) == 1) e ∙ ap (λ x. x == 1) (bit_at-zero (k % w))

pub get_or_zeros : (m i : ℕ) → get_or {A = ℕ} (replicate m 0) i 0 ≡ 0
get_or_zeros m i = elim (cases_lt i m) [
  | inl h ↦ get_or-replicate {A = ℕ} m i 0 0 h
  | inr h ↦ get_or_past (replicate {A = ℕ} m 0) i 0 (omega (arith, length-replicate {A = ℕ} m 0))
]

pub HasRoom-zeros : (n m : ℕ) → n ≤ 64 * m → 64 * m < n + 64 → HasRoom 64 n (replicate {A = ℕ} m 0)
HasRoom-zeros n m e t = record {
  enough = omega (arith, length-replicate {A = ℕ} m 0);
  tight = omega (arith, length-replicate {A = ℕ} m 0);
  spare = λ k _. unit_bit_zero 64 (replicate {A = ℕ} m 0) k (get_or_zeros m (k / 64));
}

pub unit_bits-zeros : (n m : ℕ) → unit_bits 64 n (replicate {A = ℕ} m 0) ≡ zeros n
unit_bits-zeros n m =
    unit_bits_from 64 n (replicate {A = ℕ} m 0) (zeros n) (length-zeros n) (λ k _. bit-zeros n k ∙ sym (unit_bit_zero 64 (replicate {A = ℕ} m 0) k (get_or_zeros m (k / 64))))

-- what a read of a word says
pub unit_bit-read : (us : List ℕ) (i x : ℕ) → i / 64 < length us → x ≡ get_or us (i / 64) x → (bit_and (x / 2 ^ (i % 64)) 1 == 1) ≡ unit_bit 64 us i
unfolding unit_bit
unit_bit-read us i x h e =
    ap (λ y. y == 1) (shr_and_one x (i % 64)) ∙ ap (λ y. bit_at y (i % 64) == 1) (get_or_read us (i / 64) x h e 0)

-- ---- a change of one bit

-- ws is us with b as bit i
pub record HasBitSet (us ws : List ℕ) (i : ℕ) (b : Bool) : Type 0 where
  pub as_many : length ws ≡ length us
  pub here : unit_bit 64 ws i ≡ b
  pub others : (k : ℕ) → k ≢ i → unit_bit 64 ws k ≡ unit_bit 64 us k

-- the word of the bit is written, x before and y after
pub HasBitSet-word : (us : List ℕ) (i x y : ℕ) (b : Bool) → i / 64 < length us → x ≡ get_or us (i / 64) x → (bit_at y (i % 64) == 1) ≡ b → ((j : ℕ) → j < 64 → j ≢ i % 64 → bit_at y j ≡ bit_at x j) → HasBitSet us (set us (i / 64) y) i b
unfolding unit_bit
HasBitSet-word us i x y b h r e o = record {
  as_many = length-set us (i / 64) y;
  here = ap (λ z. bit_at z (i % 64) == 1) (get_or-set_same us (i / 64) y 0 h) ∙ e;
  others = λ k d. elim (cases_eq (k / 64) (i / 64)) [
    | inl s ↦
        ap (λ q. bit_at (get_or (set us (i / 64) y) q 0) (k % 64) == 1) s
        ∙ ap (λ z. bit_at z (k % 64) == 1) (get_or-set_same us (i / 64) y 0 h)
        ∙ ap (λ z. z == 1) (o (k % 64) (omega arith) (λ t. d (omega arith)))
        ∙ ap (λ z. bit_at z (k % 64) == 1) (get_or_read us (i / 64) x h r 0)
        ∙ ap (λ q. bit_at (get_or us q 0) (k % 64) == 1) (sym s)
    | inr n ↦ ap (λ z. bit_at z (k % 64) == 1) (get_or-set_other us (i / 64) (k / 64) y 0 n)
  ];
}

pub HasRoom-set : (n : ℕ) (us ws : List ℕ) (i : ℕ) (b : Bool) → HasRoom 64 n us → i < n → HasBitSet us ws i b → HasRoom 64 n ws
HasRoom-set n us ws i b r h s = record {
  enough = omega (arith, r.enough, s.as_many);
  tight = omega (arith, r.tight, s.as_many);
  spare = λ k l. s.others k (omega arith) ∙ r.spare k l;
}

pub unit_bits-set : (n : ℕ) (us ws : List ℕ) (i : ℕ) (b : Bool) → i < n → HasBitSet us ws i b → unit_bits 64 n ws ≡ set (unit_bits 64 n us) i b
unit_bits-set n us ws i b h s =
    let v = unit_bits 64 n us in
    let l : length v ≡ n = length-unit_bits 64 n us in
    unit_bits_from 64 n ws (set v i b) (length-set v i b ∙ l) (λ k m. elim (cases_eq k i) [
      | inl e ↦ ap (bit (set v i b)) e ∙ get_or-set_same v i b false (omega arith) ∙ sym s.here ∙ ap (unit_bit 64 ws) (sym e)
      | inr d ↦ get_or-set_other v i k b false d ∙ bit-unit_bits_within 64 n us k m ∙ sym (s.others k d)
    ])

-- ---- one bit more, which is 0

pub HasRoom-longer : (n : ℕ) (us : List ℕ) → HasRoom 64 n us → 0 < n % 64 → HasRoom 64 (n + 1) us
HasRoom-longer n us r h = record {
  enough = omega (arith, r.enough, r.tight);
  tight = omega (arith, r.tight);
  spare = λ k l. r.spare k (omega arith);
}

pub unit_bits-longer : (n : ℕ) (us : List ℕ) → HasRoom 64 n us → unit_bits 64 (n + 1) us ≡ unit_bits 64 n us ++ false ∷ []
unit_bits-longer n us r =
    let v = unit_bits 64 n us in
    let l : length v ≡ n = length-unit_bits 64 n us in
    unit_bits_from 64 (n + 1) us (v ++ false ∷ []) (length_push v false ∙ omega arith) (λ k m. elim (cases_lt k n) [
      | inl h ↦ get_or_append_left v (false ∷ []) false k (omega arith) ∙ bit-unit_bits_within 64 n us k h
      | inr h ↦ get_or_push v false false k (omega arith) ∙ sym (r.spare k h)
    ])

push_zero : (us : List ℕ) (i : ℕ) → length us ≤ i → get_or {A = ℕ} (us ++ 0 ∷ []) i 0 ≡ 0
push_zero us i h = elim (cases_eq i (length us)) [
  | inl e ↦ get_or_push us 0 0 i (sym e)
  | inr d ↦ get_or_past (us ++ 0 ∷ []) i 0 (omega (arith, length_push us 0))
]

-- one word more, which is 0
pub unit_bit-push : (us : List ℕ) (k : ℕ) → unit_bit 64 (us ++ 0 ∷ []) k ≡ unit_bit 64 us k
unfolding unit_bit
unit_bit-push us k = elim (cases_lt (k / 64) (length us)) [
  | inl h ↦ ap (λ z. bit_at z (k % 64) == 1) (get_or_append_left us (0 ∷ []) 0 (k / 64) h)
  | inr h ↦ ap (λ z. bit_at z (k % 64) == 1) (push_zero us (k / 64) h ∙ sym (get_or_past us (k / 64) 0 h))
]

pub HasRoom-push : (n : ℕ) (us : List ℕ) → HasRoom 64 n us → n % 64 ≡ 0 → HasRoom 64 (n + 1) (us ++ 0 ∷ [])
HasRoom-push n us r h = record {
  enough = omega (arith, r.enough, r.tight, length_push us 0);
  tight = omega (arith, r.enough, r.tight, length_push us 0);
  spare = λ k l. unit_bit-push us k ∙ r.spare k (omega arith);
}

pub unit_bits-same : (n : ℕ) (us ws : List ℕ) → ((k : ℕ) → unit_bit 64 ws k ≡ unit_bit 64 us k) → unit_bits 64 n ws ≡ unit_bits 64 n us
unit_bits-same n us ws h =
    unit_bits_from 64 n ws (unit_bits 64 n us) (length-unit_bits 64 n us) (λ k m. bit-unit_bits_within 64 n us k m ∙ sym (h k))

-- ---- sums

plus-odd : (x y : ℕ) → x < 2 → y < 2 → ((x + y) % 2 == 1) ≡ plus (x == 1) (y == 1)
plus-odd zero zero p q = refl
plus-odd zero (suc zero) p q = refl
plus-odd (suc zero) zero p q = refl
plus-odd (suc zero) (suc zero) p q = refl
plus-odd zero (suc (suc y)) p q = absurd (omega arith)
plus-odd (suc zero) (suc (suc y)) p q = absurd (omega arith)
plus-odd (suc (suc x)) y p q = absurd (omega arith)

pub bit_at-plus : (a b i : ℕ) → (bit_at (bit_xor a b) i == 1) ≡ plus (bit_at a i == 1) (bit_at b i == 1)
bit_at-plus a b i = ap (λ x. x == 1) (bit_at_xor a b i) ∙ plus-odd (bit_at a i) (bit_at b i) (bit_at-lt a i) (bit_at-lt b i)

pub unit_bit-xor : (w : ℕ) (us vs ws : List ℕ) (k : ℕ) → get_or ws (k / w) 0 ≡ bit_xor (get_or us (k / w) 0) (get_or vs (k / w) 0) → unit_bit w ws k ≡ plus (unit_bit w us k) (unit_bit w vs k)
unfolding unit_bit
unit_bit-xor w us vs ws k e = ap (λ x. bit_at x (k % w) == 1) e ∙ bit_at-plus (get_or us (k / w) 0) (get_or vs (k / w) 0) (k % w)

pub HasRoom-sum : (n : ℕ) (us vs ws : List ℕ) → HasRoom 64 n us → HasRoom 64 n vs → length ws ≡ length us → ((k : ℕ) → unit_bit 64 ws k ≡ plus (unit_bit 64 us k) (unit_bit 64 vs k)) → HasRoom 64 n ws
HasRoom-sum n us vs ws r s e h = record {
  enough = omega (arith, r.enough);
  tight = omega (arith, r.tight);
  spare = λ k l. h k ∙ ap (λ b. plus b (unit_bit 64 vs k)) (r.spare k l) ∙ s.spare k l;
}

-- the same from sums of words
pub unit_bit-sums : (us vs x y ws : List ℕ) → x ≡ us → y ≡ vs → ((k : ℕ) → get_or ws k 0 ≡ bit_xor (get_or x k 0) (get_or y k 0)) → (k : ℕ) → unit_bit 64 ws k ≡ plus (unit_bit 64 us k) (unit_bit 64 vs k)
unit_bit-sums us vs x y ws e f h k =
    unit_bit-xor 64 us vs ws k (h (k / 64) ∙ ap (λ z. bit_xor (get_or z (k / 64) 0) (get_or y (k / 64) 0)) e ∙ ap (λ z. bit_xor (get_or us (k / 64) 0) (get_or z (k / 64) 0)) f)

pub unit_bits-sum : (n : ℕ) (us vs ws : List ℕ) → ((k : ℕ) → unit_bit 64 ws k ≡ plus (unit_bit 64 us k) (unit_bit 64 vs k)) → unit_bits 64 n ws ≡ sum_of (unit_bits 64 n us) (unit_bits 64 n vs)
unit_bits-sum n us vs ws h =
    let u = unit_bits 64 n us in
    let v = unit_bits 64 n vs in
    let e : length u ≡ length v = length-unit_bits 64 n us ∙ sym (length-unit_bits 64 n vs) in
    unit_bits_from 64 n ws (sum_of u v) (length-sum_of u v e ∙ length-unit_bits 64 n us) (λ k m.
    bit-sum_of u v k e
    ∙ ap (λ b. plus b (bit v k)) (bit-unit_bits_within 64 n us k m)
    ∙ ap (plus (unit_bit 64 us k)) (bit-unit_bits_within 64 n vs k m)
    ∙ sym (h k))

-- vectors seen as lists of one length are of one length
pub same_lengths : (n m : ℕ) (us vs : List ℕ) (u v : List Bool) → unit_bits 64 n us ≡ u → unit_bits 64 m vs ≡ v → length v ≡ length u → m ≡ n
same_lengths n m us vs u v e f h = let le = ap length e in let lf = ap length f in omega (arith, length-unit_bits 64 n us, length-unit_bits 64 m vs)

-- two vectors of one length have as many words
pub as_many_words : (n : ℕ) (us vs : List ℕ) → HasRoom 64 n us → HasRoom 64 n vs → length us ≡ length vs
as_many_words n us vs r s = omega (arith, r.enough, r.tight, s.enough, s.tight)

-- ---- a bit by its word

at_word : (i t : ℕ) → t < 64 → (64 * i + t) / 64 ≡ i
at_word i t h = omega arith

in_word : (i t : ℕ) → t < 64 → (64 * i + t) % 64 ≡ t
in_word i t h = omega arith

pub unit_bit-at : (us : List ℕ) (i t : ℕ) → t < 64 → unit_bit 64 us (64 * i + t) ≡ (bit_at (get_or us i 0) t == 1)
unfolding unit_bit
unit_bit-at us i t h = ap (λ q. bit_at (get_or us q 0) ((64 * i + t) % 64) == 1) (at_word i t h) ∙ ap (λ r. bit_at (get_or us i 0) r == 1) (in_word i t h)

-- past the words there is no bit
pub none_past : (us : List ℕ) (k : ℕ) → 64 * length us ≤ k → unit_bit 64 us k ≡ false
none_past us k h = unit_bit_zero 64 us k (get_or_past us (k / 64) 0 (omega arith))

-- ---- a push: ws holds the bits of us and one more, which is 0

pub record HasGrown (n : ℕ) (us ws : List ℕ) : Type 0 where
  pub room : HasRoom 64 (n + 1) ws
  pub bits : unit_bits 64 (n + 1) ws ≡ unit_bits 64 n us ++ false ∷ []

pub HasGrown-same : (n : ℕ) (us : List ℕ) → HasRoom 64 n us → (n % 64 ≡ 0 → ⊥) → HasGrown n us us
HasGrown-same n us r d = record {
  room = HasRoom-longer n us r (omega arith);
  bits = unit_bits-longer n us r;
}

pub HasGrown-push : (n : ℕ) (us : List ℕ) → HasRoom 64 n us → n % 64 ≡ 0 → HasGrown n us (us ++ 0 ∷ [])
HasGrown-push n us r e = record {
  room = HasRoom-push n us r e;
  bits = unit_bits-same (n + 1) us (us ++ 0 ∷ []) (unit_bit-push us) ∙ unit_bits-longer n us r;
}

pub push_bits : (n m : ℕ) (us ws : List ℕ) (v : List Bool) (b : Bool) → HasGrown n us ws → m ≡ n + 1 → unit_bits 64 n us ≡ v → set (unit_bits 64 m ws) n b ≡ v ++ b ∷ []
push_bits n m us ws v b g e f =
    ap (λ j. set (unit_bits 64 j ws) n b) e
    ∙ ap (λ x. set x n b) g.bits
    ∙ set_at (unit_bits 64 n us) false [] b n (length-unit_bits 64 n us)
    ∙ ap (λ x. x ++ b ∷ []) f

-- the room of ceil(n / 64) words
pub HasRoom-ceil : (n m : ℕ) (us : List ℕ) → us ≡ replicate {A = ℕ} m 0 → m ≡ div_ceil n 64 → HasRoom 64 n us
HasRoom-ceil n m us e d = rw e (HasRoom-zeros n m (omega arith) (omega arith))

-- ---- the length of the bits, and the word of a place within them

pub length_of_bits : (n : ℕ) (us : List ℕ) (v : List Bool) → unit_bits 64 n us ≡ v → length v ≡ n
length_of_bits n us v e = sym (ap length e) ∙ length-unit_bits 64 n us

pub place_of_word : (n i : ℕ) (us : List ℕ) → HasRoom 64 n us → i < n → i / 64 < length us
place_of_word n i us r h = omega (arith, r.enough)
