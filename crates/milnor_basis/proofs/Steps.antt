-- What a number that is put at a place leaves.
use Rattle.std.proofs.Common.{◌≡◌, ℕ, zero, suc, ◌+◌, ◌-◌, ◌*◌, ◌/◌, ◌<◌, ◌≤◌, ◌^◌, ◌≢◌, inl, inr, true, nat_eq, List, [], ◌∷◌, length, refl, sym, ◌∙◌, ap, arith, slice_index, slice_set, bit_and, bit_or}
use Rattle.std.specs.List.{sum}
use Rattle.std.proofs.lemmas.List.Sums.{sum_by-cons}
use Rattle.std.proofs.Math.Nat.{mul-le-mul_left}
use Rattle.std.proofs.lemmas.List.{get_or-set_same, get_or-set_other}
use Rattle.std.proofs.lemmas.Nat.{or_disjoint, and_comm, pow_pos}
use Rattle.std.proofs.lemmas.Bool.{eq-eqb, eqb-true, eqb-false, cases_Bool}
use Rattle.milnor_basis.specs.Exponents.{entry}
use Rattle.milnor_basis.specs.Inside.Walk.{Sums, add_at, add, IsLeft, least, greatest, taken, next_row, next_column}
use Rattle.milnor_basis.proofs.Prune.{add_at-other, add_at-same}

pub taken-same : (xs : List ℕ) (i v : ℕ) → i < length xs → slice_index (taken (suc i) v xs) i ≡ slice_index xs i - v
taken-same xs i v l = get_or-set_same xs i (slice_index xs i - v) 0 l

pub taken-other : (xs : List ℕ) (at v i : ℕ) → at ≢ suc i → slice_index (taken at v xs) i ≡ slice_index xs i
taken-other xs zero v i h = refl
taken-other xs (suc a) v i h = let other : i ≢ a = omega arith in get_or-set_other xs a i (slice_index xs a - v) 0 other

-- what is left and the sum so far still make up the whole
pub taken_sum : (xs : List ℕ) (at v u : ℕ) (f : ℕ → ℕ) (i n : ℕ) → i < length xs → u ≡ v → (at ≡ suc i → v ≤ slice_index xs i) → slice_index xs i + f (suc i) ≡ n → slice_index (taken at v xs) i + add_at at u f (suc i) ≡ n
taken_sum xs at v u f i n l e fits h = elim (cases_Bool (nat_eq at (suc i))) [
  | inl t ↦ let same : at ≡ suc i = eqb-true at (suc i) t in
      let left : slice_index (taken at v xs) i ≡ slice_index xs i - v = ap (λ a. slice_index (taken a v xs) i) same ∙ taken-same xs i v l in
      let sum : add_at at u f (suc i) ≡ f (suc i) + u = ap (λ a. add_at a u f (suc i)) same ∙ add_at-same (suc i) u f in
      let fit = fits same in omega arith
  | inr t ↦ let other : at ≢ suc i = eqb-false at (suc i) t in
      let left = taken-other xs at v i other in
      let sum = add_at-other at u f (suc i) (omega arith) in omega arith
]

pub under_quotient : (n d v : ℕ) → 0 < d → v ≤ n / d → v * d ≤ n
under_quotient n d v p l = let times = mul-le-mul_left d l in omega arith

-- a number that is not too great fits its row and its column
pub fits_row : (rows columns : List ℕ) (row column v : ℕ) → v ≤ greatest row column rows columns → (i : ℕ) → row ≡ suc i → v * 2 ^ column ≤ slice_index rows i
fits_row rows columns zero column v high i f = absurd (omega arith)
fits_row rows columns (suc a) zero v high i f = let k : suc a - 1 ≡ i = omega arith in let at = ap (λ b. slice_index rows b) k in omega arith
fits_row rows columns (suc a) (suc c) v high i f =
    let k : a ≡ i = omega arith in let at = ap (λ b. slice_index rows b) k in
    let below : v ≤ slice_index rows a / 2 ^ suc c = omega arith in
    let fit = under_quotient (slice_index rows a) (2 ^ suc c) v (pow_pos (suc c)) below in omega arith

pub fits_column : (rows columns : List ℕ) (row column v : ℕ) → v ≤ greatest row column rows columns → (j : ℕ) → column ≡ suc j → v ≤ slice_index columns j
fits_column rows columns row zero v high j f = absurd (omega arith)
fits_column rows columns zero (suc c) v high j f = let k : c ≡ j = omega arith in let at = ap (λ b. slice_index columns b) k in omega arith
fits_column rows columns (suc a) (suc c) v high j f = let k : c ≡ j = omega arith in let at = ap (λ b. slice_index columns b) k in omega arith

module _ (r s rows columns diagonals : List ℕ) (w : ℕ) (sums : Sums) (e : w ≡ length s) (many : length r ≤ length rows) (wide : length s ≤ length columns) where
  -- a row and a column that are filled have nothing left
  rows_emptied : (row column v : ℕ) → IsLeft r s row column rows columns diagonals sums → row ≤ length r → 0 < row + column → least row column rows columns ≤ v
      → (i : ℕ) → next_row row column ≤ i → i < length r → slice_index (taken row (v * 2 ^ column) rows) i ≡ 0
  rows_emptied zero zero v is p above low i h l = absurd (omega arith)
  rows_emptied zero (suc c) v is p above low i h l = is.rows_done i h l
  rows_emptied (suc a) (suc c) v is p above low i h l = taken-other rows (suc a) (v * 2 ^ suc c) i (omega arith) ∙ is.rows_done i h l
  rows_emptied (suc a) zero v is p above low i h l = elim (cases_Bool (nat_eq a i)) [
    | inl t ↦ let same : a ≡ i = eqb-true a i t in
        let k : suc a - 1 ≡ i = omega arith in let at = ap (λ b. slice_index rows b) k in
        let left : slice_index (taken (suc a) (v * 2 ^ 0) rows) i ≡ slice_index rows i - v * 2 ^ 0 = ap (λ b. slice_index (taken (suc b) (v * 2 ^ 0) rows) i) same ∙ taken-same rows i (v * 2 ^ 0) (omega arith) in omega arith
    | inr t ↦ let other : a ≢ i = eqb-false a i t in
        taken-other rows (suc a) (v * 2 ^ 0) i (omega arith) ∙ is.rows_done i (omega arith) l
  ]

  columns_emptied : (row column v : ℕ) → IsLeft r s row column rows columns diagonals sums → column ≤ w → 0 < row + column → least row column rows columns ≤ v
      → next_row row column ≡ 0 → (j : ℕ) → next_column w row column ≤ j → j < length s → slice_index (taken column v columns) j ≡ 0
  columns_emptied row zero v is q above low z j h l = absurd (omega arith)
  columns_emptied (suc a) (suc c) v is q above low z j h l = absurd (omega arith)
  columns_emptied zero (suc c) v is q above low z j h l = elim (cases_Bool (nat_eq c j)) [
    | inl t ↦ let same : c ≡ j = eqb-true c j t in
        let at = ap (λ b. slice_index columns b) same in
        let left : slice_index (taken (suc c) v columns) j ≡ slice_index columns j - v = ap (λ b. slice_index (taken (suc b) v columns) j) same ∙ taken-same columns j v (omega arith) in omega arith
    | inr t ↦ let other : c ≢ j = eqb-false c j t in
        taken-other columns (suc c) v j (omega arith) ∙ is.columns_done refl j (omega arith) l
  ]

module _ (r s rows columns diagonals : List ℕ) (w row column v : ℕ) (sums : Sums) (is : IsLeft r s row column rows columns diagonals sums)
    (e : w ≡ length s) (p : row ≤ length r) (q : column ≤ w) (above : 0 < row + column) (many : length r ≤ length rows) (wide : length s ≤ length columns) (long : length r + length s ≤ length diagonals)
    (low : least row column rows columns ≤ v) (high : v ≤ greatest row column rows columns) where
  pub left_after : bit_and v (slice_index diagonals (row + column - 1)) ≡ 0
      → IsLeft r s (next_row row column) (next_column w row column) (taken row (v * 2 ^ column) rows) (taken column v columns) (slice_set diagonals (row + column - 1) (bit_or (slice_index diagonals (row + column - 1)) v)) (add row column v sums)
  left_after apart =
      let k0 = row + column - 1 in
      let at : suc k0 ≡ row + column = omega arith in
      let d = slice_index diagonals k0 in
      let sum : bit_or d v ≡ d + v = or_disjoint d v (and_comm d v ∙ apart) in
      let so_far : d ≡ sums.diagonals (row + column) = is.diagonals_so_far k0 (omega arith) ∙ ap sums.diagonals at in
      record {
        rows_left = λ i l. taken_sum rows row (v * 2 ^ column) (2 ^ column * v) sums.rows i (entry r i) (omega arith) (omega arith) (fits_row rows columns row column v high i) (is.rows_left i l);
        columns_left = λ j l. taken_sum columns column v v sums.columns j (entry s j) (omega arith) refl (fits_column rows columns row column v high j) (is.columns_left j l);
        diagonals_so_far = λ k l. elim (cases_Bool (nat_eq k k0)) [
          | inl t ↦ let same : k ≡ k0 = eqb-true k k0 t in
              let there : slice_index (slice_set diagonals k0 (bit_or d v)) k ≡ bit_or d v = ap (slice_index (slice_set diagonals k0 (bit_or d v))) same ∙ get_or-set_same diagonals k0 (bit_or d v) 0 (omega arith) in
              let new : add_at (row + column) v sums.diagonals (suc k) ≡ sums.diagonals (row + column) + v = ap (add_at (row + column) v sums.diagonals) (let f : suc k ≡ row + column = omega arith in f) ∙ add_at-same (row + column) v sums.diagonals in
              omega arith
          | inr t ↦ let other : k ≢ k0 = eqb-false k k0 t in
              let there = get_or-set_other diagonals k0 k (bit_or d v) 0 other in
              let new = add_at-other (row + column) v sums.diagonals (suc k) (omega arith) in
              there ∙ is.diagonals_so_far k l ∙ sym new
        ];
        no_more_diagonals = λ k l. get_or-set_other diagonals k0 k (bit_or d v) 0 (omega arith) ∙ is.no_more_diagonals k l;
        rows_done = rows_emptied r s rows columns diagonals w sums e many wide row column v is p above low;
        columns_done = columns_emptied r s rows columns diagonals w sums e many wide row column v is q above low;
        is_apart = let clear : nat_eq (bit_and v (sums.diagonals (row + column))) 0 ≡ true = ap (λ n. nat_eq (bit_and v n) 0) (sym so_far) ∙ eq-eqb (bit_and v d) 0 apart in rw (is.is_apart, clear) refl;
      }

-- the place after this one is a place too, and comes sooner
pub next_is : (m w row column : ℕ) → 0 < row + column → row ≤ m → column ≤ w → w ≤ 8 → (next_row row column ≤ m) × (next_column w row column ≤ w) × (next_row row column * 9 + next_column w row column < row * 9 + column)
next_is m w zero zero h p q r = absurd (omega arith)
next_is m w zero (suc c) h p q r = (omega arith, omega arith, omega arith)
next_is m w (suc i) zero h p q r = (omega arith, omega arith, omega arith)
next_is m w (suc i) (suc c) h p q r = (omega arith, omega arith, omega arith)

pub entry-sum : (xs : List ℕ) (i : ℕ) → entry xs i ≤ sum xs
entry-sum [] i = omega arith
entry-sum (x ∷ xs) zero = omega (arith, sum_by-cons (λ y. y) x xs)
entry-sum (x ∷ xs) (suc i) = omega (arith, sum_by-cons (λ y. y) x xs, entry-sum xs i)

-- no number is greater than what R and S add up to
pub greatest_below : (r s rows columns diagonals : List ℕ) (w row column : ℕ) (sums : Sums) → IsLeft r s row column rows columns diagonals sums → w ≡ length s → row ≤ length r → column ≤ w → 0 < row + column → greatest row column rows columns < suc (sum r + sum s)
greatest_below r s rows columns diagonals w zero zero sums is e p q h = absurd (omega arith)
greatest_below r s rows columns diagonals w zero (suc c) sums is e p q h = let left = is.columns_left c (omega arith) in let part = entry-sum s c in omega arith
greatest_below r s rows columns diagonals w (suc i) zero sums is e p q h = let left = is.rows_left i (omega arith) in let part = entry-sum r i in let k : suc i - 1 ≡ i = omega arith in let at = ap (λ b. slice_index rows b) k in omega arith
greatest_below r s rows columns diagonals w (suc i) (suc c) sums is e p q h = let left = is.columns_left c (omega arith) in let part = entry-sum s c in omega arith
