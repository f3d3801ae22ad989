-- The bytes of words, and words made of bytes, bit by bit.
use Rattle.std.specs.Int.{bit_at, w64, to_le_bytes, from_le_bytes}
use Rattle.std.specs.Prelude.{◌==◌, slice_index_or, take, drop}
use Rattle.std.specs.Simd.{first_chunks}
use Rattle.std.proofs.Common.{◌≡◌, ℕ, zero, suc, ◌+◌, ◌-◌, ◌*◌, ◌/◌, ◌%◌, ◌^◌, ◌<◌, ◌≤◌, List, [], ◌++◌, length, set, replicate, refl, ap, sym, ◌∙◌, arith, inl, inr}
use Rattle.std.proofs.lemmas.List.{get_or_past, get_or-take, get_or-drop, get_or_append_left, get_or-append_right, get_or-set_same, get_or-set_other, length-take-le, length-drop, length-append, drop-drop}
use Rattle.std.proofs.lemmas.Nat.{le_bytes_8}
use Rattle.std.proofs.lemmas.Bool.{cases_eq, cases_lt}
use Rattle.f2_vec.specs.Inside.Packed.{unit_bit}
use Rattle.f2_vec.proofs.Packed.{unit_bit-at, unit_bit_zero, none_past, get_or_zeros}
use Rattle.f2_vec.proofs.Moved.{bit_at-mod, shr_bit, unit_bit_word, unit_bit_same_word}
use Rattle.f2_vec.proofs.Bytes.{unit_bit_byte}

-- ---- one word and its eight bytes

byte_of_word : (x j : ℕ) → j < 8 → slice_index_or (to_le_bytes w64 x) j 0 ≡ x / 2 ^ (8 * j) % 2 ^ 8
byte_of_word x zero h = omega arith
byte_of_word x (suc zero) h = refl
byte_of_word x (suc (suc zero)) h = refl
byte_of_word x (suc (suc (suc zero))) h = refl
byte_of_word x (suc (suc (suc (suc zero)))) h = refl
byte_of_word x (suc (suc (suc (suc (suc zero))))) h = refl
byte_of_word x (suc (suc (suc (suc (suc (suc zero)))))) h = refl
byte_of_word x (suc (suc (suc (suc (suc (suc (suc zero))))))) h = refl
byte_of_word x (suc (suc (suc (suc (suc (suc (suc (suc j)))))))) h = absurd (omega arith)

bit_of_word : (x k : ℕ) → k < 64 → unit_bit 8 (to_le_bytes w64 x) k ≡ (bit_at x k == 1)
bit_of_word x k h =
    let place : 8 * (k / 8) + k % 8 ≡ k = omega arith in
    unit_bit_byte (to_le_bytes w64 x) k _ (byte_of_word x (k / 8) (omega arith))
    ∙ ap (λ y. y == 1) (bit_at-mod (x / 2 ^ (8 * (k / 8))) 8 (k % 8) (omega arith) ∙ shr_bit x (8 * (k / 8)) (k % 8) ∙ ap (bit_at x) place)

-- ---- the bytes written so far

-- the first m bytes have the bits of the words
pub record AreBytesUpTo (m : ℕ) (us bs : List ℕ) : Type 0 where
  pub same : (k : ℕ) → k < 8 * m → unit_bit 8 bs k ≡ unit_bit 64 us k

-- ys, the first bytes of word i, is written behind the bytes of the words before it
pub bytes_more : (i j n x : ℕ) (us bs ys rest : List ℕ) → x ≡ slice_index_or us i 0 → ys ≡ take j (to_le_bytes w64 x) → length ys ≡ j → j ≤ 8 → 8 * i ≤ length bs → n ≤ 8 * i + j → AreBytesUpTo (8 * i) us bs → AreBytesUpTo n us (take (8 * i) bs ++ (ys ++ rest))
bytes_more i j n x us bs ys rest r e l le h m s =
    let new = take (8 * i) bs ++ (ys ++ rest) in
    let front : length (take (8 * i) bs) ≡ 8 * i = length-take-le (8 * i) bs h in
    record {
      same = λ k c. elim (cases_lt k (64 * i)) [
        | inl b ↦
            unit_bit_byte new k _ (get_or_append_left (take (8 * i) bs) (ys ++ rest) 0 (k / 8) (omega arith) ∙ get_or-take (8 * i) bs (k / 8) 0 (omega arith))
            ∙ sym (unit_bit_byte bs k _ refl)
            ∙ s.same k (omega arith)
        | inr b ↦
            let o = k - 64 * i in
            let there : k / 8 - 8 * i ≡ o / 8 = omega arith in
            let rest_of : k % 8 ≡ o % 8 = omega arith in
            let place : 64 * i + o ≡ k = omega arith in
            unit_bit_byte new k (slice_index_or (to_le_bytes w64 x) (o / 8) 0)
            (get_or-append_right (take (8 * i) bs) (ys ++ rest) (8 * i) (k / 8) 0 front (omega arith)
            ∙ get_or_append_left ys rest 0 (k / 8 - 8 * i) (omega arith)
            ∙ ap (λ q. slice_index_or ys q 0) there
            ∙ ap (λ z. slice_index_or z (o / 8) 0) e
            ∙ get_or-take j (to_le_bytes w64 x) (o / 8) 0 (omega arith))
            ∙ ap (λ q. bit_at (slice_index_or (to_le_bytes w64 x) (o / 8) 0) q == 1) rest_of
            ∙ sym (unit_bit_byte (to_le_bytes w64 x) o _ refl)
            ∙ bit_of_word x o (omega arith)
            ∙ ap (λ y. bit_at y o == 1) r
            ∙ sym (unit_bit-at us i o (omega arith))
            ∙ ap (unit_bit 64 us) place
      ];
    }

-- ---- the words read so far

-- chunk i of eight bytes
chunk_at : (m i : ℕ) (bs d : List ℕ) → i < m → slice_index_or (first_chunks 8 m bs) i d ≡ take 8 (drop (8 * i) bs)
chunk_at zero i bs d h = absurd (omega arith)
chunk_at (suc m) zero bs d h = refl
chunk_at (suc m) (suc i) bs d h =
    let place : 8 + 8 * i ≡ 8 * suc i = omega arith in
    chunk_at m i (drop 8 bs) d (omega arith) ∙ ap (take 8) (drop-drop (8 * i) 8 bs ∙ ap (λ n. drop n bs) place)

-- the first i words have the bits of the bytes
pub record AreWordsUpTo (i : ℕ) (bs us : List ℕ) : Type 0 where
  pub same : (k : ℕ) → k < 64 * i → unit_bit 64 us k ≡ unit_bit 8 bs k

bit_of_bytes : (x k : ℕ) (ys : List ℕ) → length ys ≡ 8 → ((i : ℕ) → slice_index_or ys i 0 < 256) → x ≡ from_le_bytes w64 ys → k < 64 → (bit_at x k == 1) ≡ unit_bit 8 ys k
bit_of_bytes x k ys l below e h = sym (bit_of_word x k h) ∙ ap (λ z. unit_bit 8 z k) (le_bytes_8 ys x l below e)

-- ys are the eight bytes from place 8 i on, with zeros past the end
pub record AreEightFrom (i : ℕ) (bs ys : List ℕ) : Type 0 where
  pub count : length ys ≡ 8
  pub same : (q : ℕ) → q < 8 → slice_index_or ys q 0 ≡ slice_index_or bs (8 * i + q) 0

-- a chunk of eight bytes ..
pub eight_of_chunk : (m i : ℕ) (bs : List ℕ) (chunks : List (List ℕ)) → i < m → m ≡ length bs / 8 → chunks ≡ first_chunks 8 m bs → AreEightFrom i bs (slice_index_or chunks i [])
eight_of_chunk m i bs chunks h l e =
    let chunk : slice_index_or chunks i [] ≡ take 8 (drop (8 * i) bs) = ap (λ z. slice_index_or z i []) e ∙ chunk_at m i bs [] h in
    record {
      count = ap length chunk ∙ length-take-le 8 (drop (8 * i) bs) (omega (arith, length-drop (8 * i) bs));
      same = λ q c. ap (λ z. slice_index_or z q 0) chunk ∙ get_or-take 8 (drop (8 * i) bs) q 0 c ∙ get_or-drop (8 * i) bs q 0;
    }

-- .. and what is left, with zeros behind it
pub eight_of_rest : (i r : ℕ) (bs rs : List ℕ) → i ≡ length bs / 8 → r ≡ length bs % 8 → rs ≡ drop (i * 8) bs → AreEightFrom i bs (rs ++ drop r (replicate {A = ℕ} 8 0))
eight_of_rest i r bs rs h l e =
    let zeros = replicate {A = ℕ} 8 0 in
    let long : length rs ≡ r = ap length e ∙ length-drop (i * 8) bs ∙ omega arith in
    record {
      count = omega (arith, length-append rs (drop r zeros), length-drop r zeros);
      same = λ q c. elim (cases_lt q r) [
        | inl b ↦
            let place : i * 8 + q ≡ 8 * i + q = omega arith in
            get_or_append_left rs (drop r zeros) 0 q (omega arith) ∙ ap (λ z. slice_index_or z q 0) e ∙ get_or-drop (i * 8) bs q 0 ∙ ap (λ k. slice_index_or bs k 0) place
        | inr b ↦
            get_or-append_right rs (drop r zeros) r q 0 long b
            ∙ get_or-drop r zeros (q - r) 0
            ∙ get_or_zeros 8 (r + (q - r))
            ∙ sym (get_or_past bs (8 * i + q) 0 (omega arith))
      ];
    }

below_of_eight : (i q : ℕ) (bs ys : List ℕ) → ((p : ℕ) → slice_index_or bs p 0 < 256) → AreEightFrom i bs ys → slice_index_or ys q 0 < 256
below_of_eight i q bs ys below w = elim (cases_lt q 8) [
  | inl h ↦ omega (arith, w.same q h, below (8 * i + q))
  | inr h ↦ omega (arith, get_or_past ys q 0 (omega (arith, w.count)))
]

-- word i is made of the eight bytes from place 8 i on
pub words_more : (i x : ℕ) (bs us ys : List ℕ) → i < length us → ((p : ℕ) → slice_index_or bs p 0 < 256) → x ≡ from_le_bytes w64 ys → AreEightFrom i bs ys → AreWordsUpTo i bs us → AreWordsUpTo (i + 1) bs (set us i x)
words_more i x bs us ys h below e w s = record {
  same = λ k c. elim (cases_eq (k / 64) i) [
    | inl d ↦
        let o = k % 64 in
        let byte : 8 * i + o / 8 ≡ k / 8 = omega arith in
        let rest_of : o % 8 ≡ k % 8 = omega arith in
        unit_bit_word (set us i x) k x (ap (λ j. slice_index_or (set us i x) j 0) d ∙ get_or-set_same us i x 0 h)
        ∙ bit_of_bytes x o ys w.count (λ q. below_of_eight i q bs ys below w) e (omega arith)
        ∙ unit_bit_byte ys o _ (w.same (o / 8) (omega arith) ∙ ap (λ q. slice_index_or bs q 0) byte)
        ∙ ap (λ q. bit_at (slice_index_or bs (k / 8) 0) q == 1) rest_of
        ∙ sym (unit_bit_byte bs k _ refl)
    | inr d ↦ unit_bit_same_word (set us i x) us k (get_or-set_other us i (k / 64) x 0 d) ∙ s.same k (omega arith)
  ];
}

-- at the end each bit of the words is that of the bytes
pub words_all : (n : ℕ) (bs us : List ℕ) → length us ≤ n → length bs ≤ 8 * length us → AreWordsUpTo n bs us → (k : ℕ) → unit_bit 64 us k ≡ unit_bit 8 bs k
words_all n bs us h e s k = elim (cases_lt k (64 * n)) [
  | inl l ↦ s.same k l
  | inr g ↦ none_past us k (omega arith) ∙ sym (unit_bit_zero 8 bs k (get_or_past bs (k / 8) 0 (omega arith)))
]
