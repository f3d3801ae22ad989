-- The degree of T that is not made up yet: what the diagonals have so far, what is left of the columns, and what is left for the rows.
use Rattle.std.proofs.Common.{◌≡◌, ℕ, zero, suc, ◌+◌, ◌-◌, ◌*◌, ◌^◌, ◌<◌, ◌≤◌, List, [], ◌∷◌, length, take, refl, sym, ◌∙◌, ap, arith, slice_index, slice_set, bit_and, bit_or}
use Rattle.std.proofs.lemmas.Nat.{and_comm, or_disjoint, pow_pos, pow-add}
use Rattle.std.proofs.Math.Nat.{pow-suc}
use Rattle.std.proofs.lemmas.List.{ext_get_or, get_or-take, length-take-le}
use Rattle.milnor_basis.specs.Exponents.{entry, degree_from, degree_of}
use Rattle.milnor_basis.specs.Inside.Walk.{taken}
use Rattle.milnor_basis.specs.Inside.FreeRows.{greatest_free}
use Rattle.milnor_basis.proofs.ExponentLemmas.{degree_of-trimmed, trimmed-zeros}
use Rattle.milnor_basis.proofs.Counting.{degree_next}
use Rattle.milnor_basis.proofs.FreeRows.{degree_set, fits_room, fits_column_free}

degree_taken : (j : ℕ) (xs : List ℕ) (c w v : ℕ) → c < w → c < length xs → v ≤ slice_index xs c → degree_from j (take w (slice_set xs c (slice_index xs c - v))) + v * (2 ^ (j + c) - 1) ≡ degree_from j (take w xs)
degree_taken j [] c w v m l h = absurd (omega arith)
degree_taken j (x ∷ xs) c zero v m l h = absurd (omega arith)
degree_taken j (x ∷ xs) zero (suc w) v m l h =
    let e : j + 0 ≡ j = omega arith in
    let whole : x - v + v ≡ x = omega arith in
    let ring : (x - v) * (2 ^ j - 1) + v * (2 ^ j - 1) ≡ (x - v + v) * (2 ^ j - 1) = grind arith in
    let all : (x - v + v) * (2 ^ j - 1) ≡ x * (2 ^ j - 1) = ap (λ n. n * (2 ^ j - 1)) whole in
    rw e (omega arith)
degree_taken j (x ∷ xs) (suc c) (suc w) v m l h =
    let e : suc j + c ≡ j + suc c = omega arith in
    let rest : degree_from (suc j) (take w (slice_set xs c (slice_index xs c - v))) + v * (2 ^ (j + suc c) - 1) ≡ degree_from (suc j) (take w xs) =
    ap (λ k. degree_from (suc j) (take w (slice_set xs c (slice_index xs c - v))) + v * (2 ^ k - 1)) (sym e) ∙ degree_taken (suc j) xs c w v (omega arith) (omega arith) h
    in
    omega arith

weights : (a b v : ℕ) → 0 < a → 0 < b → v * (a * b - 1) ≡ v * b * (a - 1) + v * (b - 1)
weights zero b v h k = absurd (omega arith)
weights (suc a) zero v h k = absurd (omega arith)
weights (suc a) (suc b) v h k =
    let ea : suc a - 1 ≡ a = omega arith in
    let eb : suc b - 1 ≡ b = omega arith in
    let all : suc a * suc b ≡ suc (a * suc b + b) = grind arith in
    let less : suc a * suc b - 1 ≡ a * suc b + b = omega arith in
    let ring : v * (a * suc b + b) ≡ v * suc b * a + v * b = grind arith in
    ap (λ n. v * n) less ∙ ring ∙ ap (λ n. v * suc b * n + v * b) (sym ea) ∙ ap (λ n. v * suc b * (suc a - 1) + v * n) (sym eb)

-- a number at a place that is not in row 0
pub put_weight : (product room w : ℕ) (columns diagonals : List ℕ) (row column v : ℕ) → 0 < row → row ≤ 8 → column ≤ w → w ≤ 8 → length columns ≡ 8 → length diagonals ≡ 16
    → v ≤ greatest_free row column room columns → bit_and v (slice_index diagonals (row + column - 1)) ≡ 0 → degree_of diagonals + (degree_of (take w columns) + room) ≡ product
    → degree_of (slice_set diagonals (row + column - 1) (bit_or (slice_index diagonals (row + column - 1)) v)) + (degree_of (take w (taken column v columns)) + (room - v * 2 ^ column * (2 ^ row - 1))) ≡ product
put_weight product room w columns diagonals row column v some high right few wide long most apart weight =
    let i = row + column - 1 in
    let d = slice_index diagonals i in
    let sum : bit_or d v ≡ d + v = or_disjoint d v (and_comm d v ∙ apart) in
    let at : 1 + i ≡ row + column = omega arith in
    let more : degree_of (slice_set diagonals i (bit_or d v)) ≡ degree_of diagonals + v * (2 ^ (row + column) - 1) =
    ap (λ x. degree_of (slice_set diagonals i x)) sum ∙ degree_set 1 diagonals i v (omega arith) ∙ ap (λ k. degree_of diagonals + v * (2 ^ k - 1)) at
    in
    let fits : v * 2 ^ column * (2 ^ row - 1) ≤ room = fits_room room columns row column v most in
    let rest : degree_of (take w (taken column v columns)) + v * (2 ^ column - 1) ≡ degree_of (take w columns) = by column right most in
    let both : 2 ^ (row + column) ≡ 2 ^ row * 2 ^ column = pow-add 2 row column in
    let ring : v * (2 ^ (row + column) - 1) ≡ v * 2 ^ column * (2 ^ row - 1) + v * (2 ^ column - 1) = ap (λ n. v * (n - 1)) both ∙ weights (2 ^ row) (2 ^ column) v (pow_pos row) (pow_pos column) in
    omega arith
  where
    by : (column : ℕ) → column ≤ w → v ≤ greatest_free row column room columns → degree_of (take w (taken column v columns)) + v * (2 ^ column - 1) ≡ degree_of (take w columns)
    by zero right most = let none : v * (2 ^ 0 - 1) ≡ 0 = omega arith in omega arith
    by (suc c) right most =
        let e : 1 + c ≡ suc c = omega arith in
        ap (λ k. degree_of (take w (taken (suc c) v columns)) + v * (2 ^ k - 1)) (sym e) ∙ degree_taken 1 columns c w v (omega arith) (omega arith) (fits_column_free room columns row (suc c) v most c refl)

-- a number v at (1, column), where the next diagonal is t
pub first_weight : (below room above v t column : ℕ) (columns diagonals : List ℕ) → 0 < column → column ≤ 8 → length columns ≡ 8 → length diagonals ≡ 16
    → below ≡ degree_of (take (column + 1) diagonals) + (above * (2 ^ (column + 1) - 1) + (degree_of (take column columns) + room))
    → v ≤ slice_index columns (column - 1) → v * 2 ^ column ≤ room → t ≡ slice_index diagonals column + above + v
    → (t * (2 ^ (column + 1) - 1) ≤ below) × (below - t * (2 ^ (column + 1) - 1) ≡ degree_of (take (column - 1 + 1) diagonals) + ((slice_index columns (column - 1) - v) * (2 ^ (column - 1 + 1) - 1) + (degree_of (take (column - 1) columns) + (room - v * 2 ^ column))))
first_weight below room above v t column columns diagonals some high wide long weight most fits is =
    let j = column - 1 in
    let p = 2 ^ column in
    let c = slice_index columns j in
    let d = slice_index diagonals column in
    let w = 2 ^ (column + 1) - 1 in
    let one : 0 < p = pow_pos column in
    let back : j + 1 ≡ column = omega arith in
    let back_suc : suc j ≡ column = omega arith in
    let next : suc column ≡ column + 1 = omega arith in
    let double : 2 ^ (column + 1) ≡ p * 2 = ap (λ k. 2 ^ k) (sym next) ∙ pow-suc 2 column in
    let parts : w ≡ p + (p - 1) = omega arith in
    let diagonal : degree_of (take column diagonals) + d * w ≡ degree_of (take (column + 1) diagonals) =
    ap (λ k. degree_of (take column diagonals) + d * (2 ^ k - 1)) (sym next) ∙ degree_next diagonals column (degree_of (take column diagonals)) (omega arith) refl
    in
    let columns_next : degree_of (take j columns) + c * (p - 1) ≡ degree_of (take column columns) =
    ap (λ k. degree_of (take j columns) + c * (2 ^ k - 1)) (sym back_suc) ∙ degree_next columns j (degree_of (take j columns)) (omega arith) refl ∙ ap (λ k. degree_of (take k columns)) back
    in
    let whole : c - v + v ≡ c = omega arith in
    let r1 : t * w ≡ d * w + above * w + v * w = ap (λ n. n * w) is ∙ ring_three d above v w in
    let r2 : v * w ≡ v * p + v * (p - 1) = ap (λ n. v * n) parts ∙ ring_two v p (p - 1) in
    let r3 : (c - v) * (p - 1) + v * (p - 1) ≡ c * (p - 1) = ring_sum (c - v) v (p - 1) ∙ ap (λ n. n * (p - 1)) whole in
    let so_far : below ≡ degree_of (take column diagonals) + d * w + (above * w + (degree_of (take j columns) + c * (p - 1) + room)) = omega arith in
    let left : below - t * w ≡ degree_of (take column diagonals) + ((c - v) * (p - 1) + (degree_of (take j columns) + (room - v * p))) = omega arith in (
      omega arith,
      left ∙ ap (λ k. degree_of (take k diagonals) + ((c - v) * (p - 1) + (degree_of (take j columns) + (room - v * p)))) (sym back)
          ∙ ap (λ k. degree_of (take (j + 1) diagonals) + ((c - v) * (2 ^ k - 1) + (degree_of (take j columns) + (room - v * p)))) (sym back),
    )
  where
    ring_three : (a b c n : ℕ) → (a + b + c) * n ≡ a * n + b * n + c * n
    ring_three a b c n = grind arith

    ring_two : (a b c : ℕ) → a * (b + c) ≡ a * b + a * c
    ring_two a b c = grind arith

    ring_sum : (a b n : ℕ) → a * n + b * n ≡ (a + b) * n
    ring_sum a b n = grind arith

-- at the first place of row 1
pub last_weight : (column below room above : ℕ) (columns diagonals : List ℕ) → column ≡ 0 → length diagonals ≡ 16
    → below ≡ degree_of (take (column + 1) diagonals) + (above * (2 ^ (column + 1) - 1) + (degree_of (take column columns) + room)) → below ≡ slice_index diagonals 0 + above + room
last_weight zero below room above columns diagonals e long weight =
    let first : 0 + entry diagonals 0 * (2 ^ suc 0 - 1) ≡ degree_of (take (0 + 1) diagonals) = degree_next diagonals 0 0 (omega arith) refl in
    omega arith
last_weight (suc j) below room above columns diagonals e long weight = absurd (omega arith)

-- at first
pub start_weight : (degree : ℕ) (s columns diagonals : List ℕ) → length s ≤ 8 → length columns ≡ 8 → ((j : ℕ) → j < 8 → slice_index columns j ≡ entry s j) → ((k : ℕ) → slice_index diagonals k ≡ 0)
    → degree_of diagonals + (degree_of (take (length s) columns) + degree) ≡ degree + degree_of s
start_weight degree s columns diagonals few wide own clear =
    let none : degree_of diagonals ≡ 0 = sym (degree_of-trimmed diagonals) ∙ ap degree_of (trimmed-zeros diagonals clear) in
    let long : length (take (length s) columns) ≡ length s = length-take-le (length s) columns (omega arith) in
    let same : take (length s) columns ≡ s = ext_get_or 0 (take (length s) columns) s long (λ k l. get_or-take (length s) columns k 0 (omega arith) ∙ own k (omega arith)) in
    let sum : degree_of (take (length s) columns) ≡ degree_of s = ap degree_of same in
    omega arith
