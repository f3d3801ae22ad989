-- Rows that are packed one behind the other, and unpacked again.
use Rattle.std.proofs.Common.{◌≡◌, ℕ, zero, suc, ◌+◌, ◌*◌, ◌/◌, ◌%◌, ◌<◌, Bool, false, List, [], ◌∷◌, ◌++◌, length, drop, refl, sym, ◌∙◌, ap, append_assoc, arith}
use Rattle.std.specs.Prelude.{◌==◌, slice_index_or}
use Rattle.std.specs.Int.{bit_at}
use Rattle.std.specs.List.{flat_map}
use Rattle.std.proofs.lemmas.List.{length-append, get_or_append_left, drop_at, drop-drop, ext_get_or}
use Rattle.std.proofs.lemmas.List.FromFn.{length-map-range_with_len, get_or-map-range_with_len}
use Rattle.f2_vec.specs.Vectors.{bit}
use Rattle.f2_vec.specs.Spans.{row, HaveWidth}
use Rattle.f2_vec.proofs.Spans.{HaveWidth-head, HaveWidth-tail}
use Rattle.f2_vec.specs.Bytes.{packed}
use Rattle.save_file.specs.Reading.{unpacked, packed_len}
use Rattle.f2_vec.proofs.Bytes.{length-packed, unit_bit_byte, unit_bit-packed}

pub length-unpacked : (n : ℕ) (bytes : List ℕ) → length (unpacked n bytes) ≡ n
unfolding unpacked
length-unpacked n bytes = length-map-range_with_len (λ k. bit_at (slice_index_or bytes (k / 8) 0) (k % 8) == 1) 0 n

bit-unpacked : (n : ℕ) (bytes : List ℕ) (k : ℕ) → k < n → bit (unpacked n bytes) k ≡ (bit_at (slice_index_or bytes (k / 8) 0) (k % 8) == 1)
unfolding unpacked
bit-unpacked n bytes k l = get_or-map-range_with_len (λ k. bit_at (slice_index_or bytes (k / 8) 0) (k % 8) == 1) 0 n k k false l (omega arith)

pub unpacked-packed : (v : List Bool) (n : ℕ) (rest : List ℕ) → length v ≡ n → unpacked n (packed v ++ rest) ≡ v
unpacked-packed v n rest len =
    let count = length-unpacked n (packed v ++ rest) in
    let bytes = length-packed v in
    ext_get_or false (unpacked n (packed v ++ rest)) v (count ∙ sym len) (λ k l.
    let within : k < n = omega arith in
    bit-unpacked n (packed v ++ rest) k within
    ∙ ap (λ x. bit_at x (k % 8) == 1) (get_or_append_left (packed v) rest 0 (k / 8) (omega arith))
    ∙ sym (unit_bit_byte (packed v) k (slice_index_or (packed v) (k / 8) 0) refl)
    ∙ unit_bit-packed v k)

-- as many bytes as the rows take together
pub length-rows : (n : ℕ) (rows : List (List Bool)) → HaveWidth n rows → length (flat_map packed rows) ≡ length rows * packed_len n
length-rows n [] wide = let none : 0 * packed_len n ≡ 0 = omega arith in sym none
length-rows n (r ∷ rows) wide =
    let rest = length-rows n rows (HaveWidth-tail n r rows wide) in
    let first = length-packed r ∙ ap packed_len (HaveWidth-head n r rows wide) in
    let both = length-append (packed r) (flat_map packed rows) in
    let l = packed_len n in
    let sum : suc (length rows) * l ≡ l + length rows * l = omega arith in
    omega arith

-- the row at a place
pub unpacked_row : (n : ℕ) (rows : List (List Bool)) (rest : List ℕ) (i : ℕ) → HaveWidth n rows → i < length rows → unpacked n (drop (i * packed_len n) (flat_map packed rows ++ rest)) ≡ row rows i
unpacked_row n [] rest i wide l = absurd (omega arith)
unpacked_row n (r ∷ rows) rest zero wide l =
    let none : 0 * packed_len n ≡ 0 = omega arith in
    ap (λ d. unpacked n (drop d ((packed r ++ flat_map packed rows) ++ rest))) none
    ∙ ap (unpacked n) (append_assoc (packed r) (flat_map packed rows) rest)
    ∙ unpacked-packed r n (flat_map packed rows ++ rest) (HaveWidth-head n r rows wide)
unpacked_row n (r ∷ rows) rest (suc i) wide l =
    let len = packed_len n in
    let first : length (packed r) ≡ len = length-packed r ∙ ap packed_len (HaveWidth-head n r rows wide) in
    let step : suc i * len ≡ len + i * len = omega arith in
    let behind : drop (suc i * len) ((packed r ++ flat_map packed rows) ++ rest) ≡ drop (i * len) (flat_map packed rows ++ rest) =
    ap (λ d. drop d ((packed r ++ flat_map packed rows) ++ rest)) step
    ∙ sym (drop-drop (i * len) len ((packed r ++ flat_map packed rows) ++ rest))
    ∙ ap (λ (x : List ℕ). drop (i * len) (drop len x)) (append_assoc (packed r) (flat_map packed rows) rest)
    ∙ ap (drop (i * len)) (drop_at (packed r) (flat_map packed rows ++ rest) len first) in
    ap (unpacked n) behind ∙ unpacked_row n rows rest i (HaveWidth-tail n r rows wide) (omega arith)

-- rows are determined by their bytes
pub unpacked_once : (n : ℕ) (xs ys : List (List Bool)) → HaveWidth n xs → HaveWidth n ys → length xs ≡ length ys → flat_map packed xs ≡ flat_map packed ys → xs ≡ ys
unpacked_once n xs ys wide wide' many same = ext_get_or [] xs ys many (λ i l.
    let within : i < length ys = omega arith in
    sym (unpacked_row n xs [] i wide l) ∙ ap (λ (b : List ℕ). unpacked n (drop (i * packed_len n) (b ++ []))) same ∙ unpacked_row n ys [] i wide' within)
