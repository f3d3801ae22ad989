-- The place of an element whose exponents are chosen from the last on.
use Rattle.std.proofs.Common.{◌≡◌, ℕ, zero, suc, ◌+◌, ◌-◌, ◌*◌, ◌^◌, ◌<◌, ◌≤◌, inl, inr, Some, List, [], ◌∷◌, ◌++◌, length, take, drop, slice_get, slice_index, refl, ap, sym, subst, ◌∙◌, arith}
use Rattle.std.proofs.lemmas.Bool.{cases_lt, cases_eq}
use Rattle.std.proofs.lemmas.List.{append_assoc, get_or-drop, drop_more, length-map}
use Rattle.std.proofs.lemmas.Nat.{mul-le}
use Rattle.std.proofs.Math.Pow.{pow_mono}
use Rattle.milnor_basis.specs.Exponents.{entry, degree_of, put_before, trimmed}
use Rattle.milnor_basis.specs.Basis.{lists_of, basis_of}
use Rattle.milnor_basis.specs.Inside.FreeRows.{ArePlaced}
use Rattle.milnor_basis.proofs.BasisLemmas.{lists_of_one, placed_basis}
use Rattle.milnor_basis.proofs.Counting.{length_split, count_small, count_more, place_pushed, place_in_basis, degree_next}
use Rattle.milnor_basis.proofs.ExponentLemmas.{trimmed-zeros, entry_within, degree_of-trimmed}
use Rattle.milnor_basis.proofs.Bits.{trimmed_take}

fewer : (k m degree e : ℕ) → m ≡ degree + e * (2 ^ suc k - 1) → length (lists_of (suc k) degree) ≤ length (lists_of (suc k) m)
fewer k m degree e is = subst (λ j. length (lists_of (suc k) degree) ≤ length (lists_of (suc k) j)) (sym is) (omega (arith, length_split k degree e))

shorter : (k n : ℕ) → length (lists_of k n) ≤ length (lists_of (suc k) n)
shorter k n = elim (cases_lt n (2 ^ suc k - 1)) [
  | inl a ↦ omega (arith, count_small k n a)
  | inr b ↦ omega (arith, count_more k n b)
]

placed_next : (n k m degree e place : ℕ) (others : List ℕ) → m ≡ degree + e * (2 ^ suc k - 1) → ArePlaced n (suc k) m place others
    → ArePlaced n k degree (place + (length (lists_of (suc k) m) - length (lists_of (suc k) degree))) (e ∷ others)
placed_next n k m degree e place others is placed q front at =
    let d = length (lists_of (suc k) m) - length (lists_of (suc k) degree) in
    let pushed : slice_get (lists_of (suc k) m) (q + d) ≡ Some (front ++ e ∷ []) =
    subst (λ j. slice_get (lists_of (suc k) j) (q + (length (lists_of (suc k) j) - length (lists_of (suc k) degree))) ≡ Some (front ++ e ∷ [])) (sym is) (place_pushed k degree e q front at)
    in
    let sum : q + (place + d) ≡ q + d + place = omega arith in
    ap (slice_get (basis_of n)) sum ∙ placed (q + d) (front ++ e ∷ []) pushed ∙ ap (λ xs. Some (trimmed xs)) (append_assoc front (e ∷ []) others)

-- one exponent more is chosen, the k-th
module _ (k m degree e place place' : ℕ) (some : 0 < k) (is : m ≡ degree + e * (2 ^ k - 1)) (at : place' ≡ place + (length (lists_of k m) - length (lists_of k degree))) where
  pub fewer_lists : length (lists_of k degree) ≤ length (lists_of k m)
  fewer_lists = by k some is where
    by : (k : ℕ) → 0 < k → m ≡ degree + e * (2 ^ k - 1) → length (lists_of k degree) ≤ length (lists_of k m)
    by zero some is = absurd (omega arith)
    by (suc k) some is = fewer k m degree e is

  pub chosen_placed : (n : ℕ) (others : List ℕ) → ArePlaced n k m place others → ArePlaced n (k - 1) degree place' (e ∷ others)
  chosen_placed n others placed = subst (λ p. ArePlaced n (k - 1) degree p (e ∷ others)) (sym at) (by k some is placed) where
    by : (k : ℕ) → 0 < k → m ≡ degree + e * (2 ^ k - 1) → ArePlaced n k m place others → ArePlaced n (k - 1) degree (place + (length (lists_of k m) - length (lists_of k degree))) (e ∷ others)
    by zero some is placed = absurd (omega arith)
    by (suc k) some is placed =
        let back : k ≡ suc k - 1 = omega arith in
        subst (λ j. ArePlaced n j degree (place + (length (lists_of (suc k) m) - length (lists_of (suc k) degree))) (e ∷ others)) back (placed_next n k m degree e place others is placed)

  pub chosen_room : place' + length (lists_of (k - 1) degree) ≤ place + length (lists_of k m)
  chosen_room = omega (arith, at, fewer_lists, by k some) where
    by : (k : ℕ) → 0 < k → length (lists_of (k - 1) degree) ≤ length (lists_of k degree)
    by zero some = absurd (omega arith)
    by (suc k) some = let back : suc k - 1 ≡ k = omega arith in subst (λ j. length (lists_of j degree) ≤ length (lists_of (suc k) degree)) (sym back) (shorter k degree)

-- one exponent alone is left, which takes what is left of the degree
pub placed_last_one : (n m place : ℕ) (others : List ℕ) → ArePlaced n 1 m place others → slice_get (basis_of n) place ≡ Some (trimmed (m ∷ others))
placed_last_one n m place others placed =
    let first : place ≡ 0 + place = omega arith in
    ap (slice_get (basis_of n)) first ∙ placed 0 (m ∷ []) (ap (λ ls. slice_get ls 0) (lists_of_one m))

-- No exponent past the eighth fits a degree up to 255.
pub no_ninth : (xs : List ℕ) (i : ℕ) → degree_of xs ≤ 255 → 8 ≤ i → entry xs i ≡ 0
no_ninth xs i small past = elim (cases_eq (entry xs i) 0) [
  | inl z ↦ z
  | inr some ↦
      let weight : entry xs i * (2 ^ (1 + i) - 1) ≤ degree_of xs = entry_within 1 xs i in
      let far : 9 ≤ 1 + i = omega arith in
      let grows : 2 ^ 9 ≤ 2 ^ (1 + i) = pow_mono far in
      let least : 1 * (2 ^ (1 + i) - 1) ≤ entry xs i * (2 ^ (1 + i) - 1) = mul-le 1 (2 ^ (1 + i) - 1) (entry xs i) (2 ^ (1 + i) - 1) (omega arith) (omega arith) in
      absurd (omega arith)
]

trimmed_behind : (front zs : List ℕ) → ((i : ℕ) → entry zs i ≡ 0) → trimmed (front ++ zs) ≡ trimmed front
trimmed_behind [] zs h = trimmed-zeros zs h
trimmed_behind (x ∷ front) zs h = ap (put_before x) (trimmed_behind front zs h)

-- nothing is chosen
pub none_chosen : (n k : ℕ) (others : List ℕ) → ((i : ℕ) → entry others i ≡ 0) → ArePlaced n k n 0 others
none_chosen n k others blank q front at =
    let none : q + 0 ≡ q = omega arith in
    ap (slice_get (basis_of n)) none ∙ place_in_basis k n q front at ∙ ap Some (sym (trimmed_behind front others blank))

pub past_eighth : (xs : List ℕ) → degree_of xs ≤ 255 → (i : ℕ) → entry (drop 9 xs) i ≡ 0
past_eighth xs small i = get_or-drop 9 xs i 0 ∙ no_ninth xs (9 + i) small (omega arith)

-- a greater number of exponents makes for no fewer lists
pub no_fewer : (d k n : ℕ) → length (lists_of k n) ≤ length (lists_of (d + k) n)
no_fewer zero k n = let e : 0 + k ≡ k = omega arith in subst (λ j. length (lists_of k n) ≤ length (lists_of j n)) (sym e) (omega arith)
no_fewer (suc d) k n =
    let e : suc d + k ≡ suc (d + k) = omega arith in
    subst (λ j. length (lists_of k n) ≤ length (lists_of j n)) (sym e) (omega (arith, no_fewer d k n, shorter (d + k) n))

pub all_of_nine : (n : ℕ) → n ≤ 255 → length (lists_of 9 n) ≡ length (basis_of n)
all_of_nine n small = sym (length-map (lists_of 9 n) (λ front. trimmed (front ++ []))) ∙ ap length (placed_basis 9 n (omega arith))

pub degree_of_nine : (xs : List ℕ) → degree_of xs ≤ 255 → degree_of (take 9 xs) ≡ degree_of xs
degree_of_nine xs small = sym (degree_of-trimmed (take 9 xs)) ∙ ap degree_of (trimmed_take 9 xs (λ i l. no_ninth xs i small (omega arith))) ∙ degree_of-trimmed xs

-- the last exponent that is left
pub last_left : (xs : List ℕ) (k : ℕ) → 0 < k → k ≤ length xs → (degree_of (take (k - 1) xs) + slice_index xs (k - 1) * (2 ^ k - 1) ≡ degree_of (take k xs)) × (slice_index xs (k - 1) ∷ drop k xs ≡ drop (k - 1) xs)
last_left xs k some l =
    let back : k - 1 + 1 ≡ k = omega arith in
    let back_suc : suc (k - 1) ≡ k = omega arith in (
      ap (λ j. degree_of (take (k - 1) xs) + slice_index xs (k - 1) * (2 ^ j - 1)) (sym back_suc) ∙ degree_next xs (k - 1) (degree_of (take (k - 1) xs)) (omega arith) refl ∙ ap (λ j. degree_of (take j xs)) back,
      sym (drop_more xs (k - 1) 0 (omega arith) ∙ ap (λ j. slice_index xs (k - 1) ∷ drop j xs) back),
    )

-- with one exponent left the place is T's
pub place_within : (column degree place n : ℕ) → column ≡ 0 → place + length (lists_of (column + 1) degree) ≤ n → place < n
place_within column degree place n e fits =
    let one : length (lists_of (column + 1) degree) ≡ 1 = ap (λ k. length (lists_of (k + 1) degree)) e ∙ ap length (lists_of_one degree) in
    omega arith
