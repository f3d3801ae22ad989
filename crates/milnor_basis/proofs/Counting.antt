-- How many exponent lists there are, and the place of one among them.
use Rattle.std.proofs.Common.{◌≡◌, ℕ, zero, suc, ◌+◌, ◌-◌, ◌*◌, ◌/◌, ◌%◌, ◌^◌, ◌<◌, ◌≤◌, inl, inr, Some, List, [], ◌∷◌, ◌++◌, length, map, take, slice_index, slice_get, refl, ap, sym, subst, ◌∙◌, arith}
use Rattle.std.specs.Option.{option_map}
use Rattle.std.specs.List.{flat_map, range_with_len}
use Rattle.std.proofs.lemmas.Bool.{cases_eq}
use Rattle.std.proofs.lemmas.Nat.{div-mul-add, div-add-mod', mul-le}
use Rattle.std.proofs.Math.Nat.{div-eq_of_lt, mod-lt, pow-suc, pow-le-pow_right}
use Rattle.std.proofs.lemmas.List.{append-nil, append_assoc, length-append, length-map, length_push, get_or_push, get_or_append_left, take_more, take_all, length-take-le}
use Rattle.std.proofs.lemmas.Option.{slice_get-map}
use Rattle.milnor_basis.specs.Exponents.{entry, degree_from, degree_of, trimmed, IsTrimmed}
use Rattle.milnor_basis.specs.Basis.{lists_of, basis_of}
use Rattle.milnor_basis.specs.Inside.Counted.{IsCounted}
use Rattle.milnor_basis.proofs.ExponentLemmas.{below_power, degree_of-push}
use Rattle.milnor_basis.proofs.BasisLemmas.{placed, placed-suc, placed-zero, placed_basis, lists_of_one, weight_above}

-- the lists of k + 1 exponents of degree n whose last is r
abbrev ending : ℕ → ℕ → ℕ → List (List ℕ)
ending k n r = map (λ front. front ++ r ∷ []) (lists_of k (n - r * (2 ^ suc k - 1)))

flat_map-ranges : {X : Type 0} → (f : ℕ → List X) (a m n : ℕ) → flat_map f (range_with_len a (m + n)) ≡ flat_map f (range_with_len a m) ++ flat_map f (range_with_len (a + m) n)
flat_map-ranges f a zero n = let e : 0 + n ≡ n = omega arith in let g : a ≡ a + 0 = omega arith in ap (λ c. flat_map f (range_with_len a c)) e ∙ ap (λ c. flat_map f (range_with_len c n)) g
flat_map-ranges f a (suc m) n =
    let e : suc m + n ≡ suc (m + n) = omega arith in
    let g : a + 1 + m ≡ a + suc m = omega arith in
    ap (λ c. flat_map f (range_with_len a c)) e
    ∙ ap (λ xs. f a ++ xs) (flat_map-ranges f (a + 1) m n ∙ ap (λ c. flat_map f (range_with_len (a + 1) m) ++ flat_map f (range_with_len c n)) g)
    ∙ sym (append_assoc (f a) (flat_map f (range_with_len (a + 1) m)) (flat_map f (range_with_len (a + suc m) n)))

length-flat_map : {X Y : Type 0} → (f : ℕ → List X) (g : ℕ → List Y) (a r m : ℕ) → ((i : ℕ) → length (f (i + r)) ≡ length (g i)) → length (flat_map f (range_with_len (a + r) m)) ≡ length (flat_map g (range_with_len a m))
length-flat_map f g a r zero h = refl
length-flat_map f g a r (suc m) h =
    let e : a + r + 1 ≡ a + 1 + r = omega arith in
    let here : length (f (a + r)) ≡ length (g a) = h a in
    let rest : length (flat_map f (range_with_len (a + r + 1) m)) ≡ length (flat_map g (range_with_len (a + 1) m)) = ap (λ c. length (flat_map f (range_with_len c m))) e ∙ length-flat_map f g (a + 1) r m h in
    omega (arith, length-append (f (a + r)) (flat_map f (range_with_len (a + r + 1) m)), length-append (g a) (flat_map g (range_with_len (a + 1) m)))

length-ending : (k n r i : ℕ) → length (ending k (n + r * (2 ^ suc k - 1)) (i + r)) ≡ length (ending k n i)
length-ending k n r i =
    let w = 2 ^ suc k - 1 in
    let ring : (i + r) * w ≡ i * w + r * w = grind arith in
    let left : n + r * w - (i + r) * w ≡ n - i * w = omega arith in
    length-map (lists_of k (n + r * w - (i + r) * w)) (λ front. front ++ (i + r) ∷ [])
    ∙ ap (λ m. length (lists_of k m)) left
    ∙ sym (length-map (lists_of k (n - i * w)) (λ front. front ++ i ∷ []))

quotient_more : (n r w : ℕ) → 0 < w → (n + r * w) / w ≡ n / w + r
quotient_more n r w p =
    let whole : n / w * w + n % w ≡ n = div-add-mod' n w in
    let ring : (n / w + r) * w ≡ n / w * w + r * w = grind arith in
    let sum : n + r * w ≡ (n / w + r) * w + n % w = omega arith in
    let below : n % w < w = mod-lt n p in
    ap (λ m. m / w) sum ∙ div-mul-add (n / w + r) w (n % w) below

-- Of the lists of degree n + r w, those whose last exponent is below r come first, and the others are as many as those of degree n.
module _ (k n r : ℕ) where
  lists_split : lists_of (suc k) (n + r * (2 ^ suc k - 1)) ≡ flat_map (ending k (n + r * (2 ^ suc k - 1))) (range_with_len 0 r) ++ flat_map (ending k (n + r * (2 ^ suc k - 1))) (range_with_len r (n / (2 ^ suc k - 1) + 1))
  lists_split =
      let w = 2 ^ suc k - 1 in
      let more : (n + r * w) / w ≡ n / w + r = quotient_more n r w (weight_above k) in
      let count : (n + r * w) / w + 1 ≡ r + (n / w + 1) = omega arith in
      let e : 0 + r ≡ r = omega arith in
      ap (λ m. flat_map (ending k (n + r * w)) (range_with_len 0 m)) count
      ∙ flat_map-ranges (ending k (n + r * w)) 0 r (n / w + 1)
      ∙ ap (λ a. flat_map (ending k (n + r * w)) (range_with_len 0 r) ++ flat_map (ending k (n + r * w)) (range_with_len a (n / w + 1))) e

  length-rest : length (flat_map (ending k (n + r * (2 ^ suc k - 1))) (range_with_len r (n / (2 ^ suc k - 1) + 1))) ≡ length (lists_of (suc k) n)
  length-rest =
      let w = 2 ^ suc k - 1 in
      let e : r ≡ 0 + r = omega arith in
      ap (λ a. length (flat_map (ending k (n + r * w)) (range_with_len a (n / w + 1)))) e
      ∙ length-flat_map (ending k (n + r * w)) (ending k n) 0 r (n / w + 1) (length-ending k n r)

  pub length_split : length (lists_of (suc k) (n + r * (2 ^ suc k - 1))) ≡ length (flat_map (ending k (n + r * (2 ^ suc k - 1))) (range_with_len 0 r)) + length (lists_of (suc k) n)
  length_split =
      let w = 2 ^ suc k - 1 in
      ap length lists_split
      ∙ length-append (flat_map (ending k (n + r * w)) (range_with_len 0 r)) (flat_map (ending k (n + r * w)) (range_with_len r (n / w + 1)))
      ∙ ap (λ m. length (flat_map (ending k (n + r * w)) (range_with_len 0 r)) + m) length-rest

slice_get_append_left : {X : Type 0} → (xs ys : List X) (i : ℕ) (x : X) → slice_get xs i ≡ Some x → slice_get (xs ++ ys) i ≡ Some x
slice_get_append_left [] ys i x h = cc
slice_get_append_left (y ∷ xs) ys zero x h = h
slice_get_append_left (y ∷ xs) ys (suc i) x h = slice_get_append_left xs ys i x h

slice_get_append_right : {X : Type 0} → (xs ys : List X) (i : ℕ) → slice_get (xs ++ ys) (length xs + i) ≡ slice_get ys i
slice_get_append_right [] ys i = let e : 0 + i ≡ i = omega arith in ap (slice_get ys) e
slice_get_append_right (x ∷ xs) ys i = let e : suc (length xs) + i ≡ suc (length xs + i) = omega arith in ap (slice_get (x ∷ xs ++ ys)) e ∙ slice_get_append_right xs ys i

-- the place of a list with one more exponent: what comes before it is what comes before it without that exponent, and
-- the lists of the same degree whose last exponent is smaller
pub place_pushed : (k n r p : ℕ) (xs : List ℕ) → slice_get (lists_of k n) p ≡ Some xs
    → slice_get (lists_of (suc k) (n + r * (2 ^ suc k - 1))) (p + (length (lists_of (suc k) (n + r * (2 ^ suc k - 1))) - length (lists_of (suc k) n))) ≡ Some (xs ++ r ∷ [])
place_pushed k n r p xs h =
    let w = 2 ^ suc k - 1 in
    let before = flat_map (ending k (n + r * w)) (range_with_len 0 r) in
    let rest = flat_map (ending k (n + r * w)) (range_with_len (r + 1) (n / w)) in
    let one : n / w + 1 ≡ suc (n / w) = omega arith in
    let parts : lists_of (suc k) (n + r * w) ≡ before ++ (ending k (n + r * w) r ++ rest) = lists_split k n r ∙ ap (λ m. before ++ flat_map (ending k (n + r * w)) (range_with_len r m)) one in
    let place : p + (length (lists_of (suc k) (n + r * w)) - length (lists_of (suc k) n)) ≡ length before + p = omega (arith, length_split k n r) in
    let left : n + r * w - r * w ≡ n = omega arith in
    let here : slice_get (ending k (n + r * w) r) p ≡ Some (xs ++ r ∷ []) =
    slice_get-map (λ (front : List ℕ). front ++ r ∷ []) (lists_of k (n + r * w - r * w)) p ∙ ap (λ m. option_map (λ (front : List ℕ). front ++ r ∷ []) (slice_get (lists_of k m) p)) left ∙ ap (option_map (λ (front : List ℕ). front ++ r ∷ [])) h
    in
    ap (slice_get (lists_of (suc k) (n + r * w))) place
    ∙ ap (λ ls. slice_get ls (length before + p)) parts
    ∙ slice_get_append_right before (ending k (n + r * w) r ++ rest) p
    ∙ slice_get_append_left (ending k (n + r * w) r) rest p (xs ++ r ∷ []) here

-- How many there are: the last exponent is 0, or it can be made smaller by 1.
pub count_small : (k n : ℕ) → n < 2 ^ suc k - 1 → length (lists_of (suc k) n) ≡ length (lists_of k n)
count_small k n h =
    let w = 2 ^ suc k - 1 in
    let none : n / w ≡ 0 = div-eq_of_lt h in
    let whole : n - 0 * w ≡ n = omega arith in
    ap (λ m. length (flat_map (ending k n) (range_with_len 0 (m + 1)))) none
    ∙ ap length (append-nil (ending k n 0))
    ∙ length-map (lists_of k (n - 0 * w)) (λ front. front ++ 0 ∷ [])
    ∙ ap (λ m. length (lists_of k m)) whole

pub count_more : (k n : ℕ) → 2 ^ suc k - 1 ≤ n → length (lists_of (suc k) n) ≡ length (lists_of k n) + length (lists_of (suc k) (n - (2 ^ suc k - 1)))
count_more k n h =
    let w = 2 ^ suc k - 1 in
    let whole : n - w + 1 * w ≡ n = omega arith in
    let all : n - 0 * w ≡ n = omega arith in
    let first : length (flat_map (ending k n) (range_with_len 0 1)) ≡ length (lists_of k n) =
    ap length (append-nil (ending k n 0)) ∙ length-map (lists_of k (n - 0 * w)) (λ front. front ++ 0 ∷ []) ∙ ap (λ m. length (lists_of k m)) all
    in
    subst (λ m. length (lists_of (suc k) m) ≡ length (flat_map (ending k m) (range_with_len 0 1)) + length (lists_of (suc k) (n - w))) whole (length_split k (n - w) 1)
    ∙ ap (λ m. m + length (lists_of (suc k) (n - w))) first

-- There is room for each count.
length-blocks : {X : Type 0} → (f : ℕ → List X) (b a m : ℕ) → ((i : ℕ) → length (f i) ≤ b) → length (flat_map f (range_with_len a m)) ≤ m * b
length-blocks f b a zero h = omega arith
length-blocks f b a (suc m) h =
    let here : length (f a) ≤ b = h a in
    let rest : length (flat_map f (range_with_len (a + 1) m)) ≤ m * b = length-blocks f b (a + 1) m h in
    let ring : suc m * b ≡ b + m * b = grind arith in
    omega (arith, length-append (f a) (flat_map f (range_with_len (a + 1) m)))

count_bound : (k n : ℕ) → n ≤ 255 → length (lists_of (suc k) n) ≤ 256 ^ k
count_bound zero n h = omega (arith, ap length (lists_of_one n))
count_bound (suc k) n h =
    let w = 2 ^ suc (suc k) - 1 in
    let each : (r : ℕ) → length (ending (suc k) n r) ≤ 256 ^ k = λ r. omega (arith, length-map (lists_of (suc k) (n - r * w)) (λ front. front ++ r ∷ []), count_bound k (n - r * w) (omega arith)) in
    let all : length (lists_of (suc (suc k)) n) ≤ (n / w + 1) * 256 ^ k = length-blocks (ending (suc k) n) (256 ^ k) 0 (n / w + 1) each in
    let whole : n / w * w + n % w ≡ n = div-add-mod' n w in
    let least : n / w * 1 ≤ n / w * w = mul-le (n / w) 1 (n / w) w (omega arith) (weight_above (suc k)) in
    let most : (n / w + 1) * 256 ^ k ≤ 256 * 256 ^ k = mul-le (n / w + 1) (256 ^ k) 256 (256 ^ k) (omega arith) (omega arith) in
    let power : 256 ^ suc k ≡ 256 ^ k * 256 = pow-suc 256 k in
    omega arith

pub count_fits : (k n : ℕ) → k ≤ 8 → n ≤ 255 → length (lists_of k n) < 2 ^ 64
count_fits zero zero h l = omega arith
count_fits zero (suc n) h l = omega arith
count_fits (suc k) n h l =
    let most : 256 ^ k ≤ 256 ^ 7 = pow-le-pow_right {n = 256} (omega arith) {i = k} {j = 7} (omega arith) in
    omega (arith, count_bound k n l)

-- The table.
-- one more number at its end
pub counted_push : (numbers : List ℕ) (n k count : ℕ) → k ≤ 8 → length numbers ≡ 9 * n + k → count ≡ length (lists_of k n) → IsCounted numbers → IsCounted (numbers ++ count ∷ [])
counted_push numbers n k count h e c so_far m j b l = elim (cases_eq (9 * m + j) (9 * n + k)) [
  | inl same ↦ let em : m ≡ n = omega arith in let ej : j ≡ k = omega arith in
      get_or_push numbers count 0 (9 * m + j) (e ∙ sym same) ∙ c ∙ ap (λ a. length (lists_of a n)) (sym ej) ∙ ap (λ a. length (lists_of j a)) (sym em)
  | inr other ↦ let within : 9 * m + j < length numbers = omega (arith, length_push numbers count) in
      get_or_append_left numbers (count ∷ []) 0 (9 * m + j) within ∙ so_far m j b within
]

-- the next number, where the last exponent can be made smaller and where it cannot
pub counted_more : (numbers : List ℕ) (n k w at count read : ℕ) → 0 < k → k ≤ 8 → w ≡ 2 ^ k - 1 → w ≤ n → at ≡ 9 * (n - w) + k → at < length numbers → IsCounted numbers
    → count ≡ length (lists_of (k - 1) n) → read ≡ slice_index numbers at → count + read ≡ length (lists_of k n)
counted_more numbers n zero w at count read p h ew fits e within so_far before is = absurd (omega arith)
counted_more numbers n (suc k) w at count read p h ew fits e within so_far before is =
    let back : suc k - 1 ≡ k = omega arith in
    let known : slice_index numbers (9 * (n - w) + suc k) ≡ length (lists_of (suc k) (n - w)) = so_far (n - w) (suc k) h (omega arith) in
    let there : read ≡ length (lists_of (suc k) (n - w)) = is ∙ ap (slice_index numbers) e ∙ known in
    let weighed : length (lists_of (suc k) (n - w)) ≡ length (lists_of (suc k) (n - (2 ^ suc k - 1))) = ap (λ v. length (lists_of (suc k) (n - v))) ew in
    let first : count ≡ length (lists_of k n) = before ∙ ap (λ j. length (lists_of j n)) back in
    omega (arith, count_more k n (omega arith))

pub counted_none : (n k w count : ℕ) → 0 < k → w ≡ 2 ^ k - 1 → n < w → count ≡ length (lists_of (k - 1) n) → count ≡ length (lists_of k n)
counted_none n zero w count p ew over before = absurd (omega arith)
counted_none n (suc k) w count p ew over before =
    let back : suc k - 1 ≡ k = omega arith in
    before ∙ ap (λ j. length (lists_of j n)) back ∙ sym (count_small k n (omega arith))

-- The place in the basis.
-- more exponents leave the place
place_more : (k n p : ℕ) (x : List ℕ) → slice_get (placed k n []) p ≡ Some x → slice_get (placed (suc k) n []) p ≡ Some x
place_more k n p x h =
    let w = 2 ^ suc k - 1 in
    let one : n / w + 1 ≡ suc (n / w) = omega arith in
    let whole : n - 0 * w ≡ n = omega arith in
    let rest = flat_map (λ r. placed k (n - r * w) (r ∷ [])) (range_with_len (0 + 1) (n / w)) in
    let first : placed k (n - 0 * w) (0 ∷ []) ≡ placed k n [] = ap (λ m. placed k m (0 ∷ [])) whole ∙ placed-zero k n in
    let parts : placed (suc k) n [] ≡ placed k n [] ++ rest =
    placed-suc k n [] ∙ ap (λ m. flat_map (λ r. placed k (n - r * w) (r ∷ [])) (range_with_len 0 m)) one ∙ ap (λ xs. xs ++ rest) first
    in
    ap (λ xs. slice_get xs p) parts ∙ slice_get_append_left (placed k n []) rest p x h

place_enough : (d k n p : ℕ) (x : List ℕ) → slice_get (placed k n []) p ≡ Some x → slice_get (placed (d + k) n []) p ≡ Some x
place_enough zero k n p x h = let e : 0 + k ≡ k = omega arith in ap (λ j. slice_get (placed j n []) p) e ∙ h
place_enough (suc d) k n p x h = let e : suc d + k ≡ suc (d + k) = omega arith in ap (λ j. slice_get (placed j n []) p) e ∙ place_more (d + k) n p x (place_enough d k n p x h)

pub place_in_basis : (k n p : ℕ) (xs : List ℕ) → slice_get (lists_of k n) p ≡ Some xs → slice_get (basis_of n) p ≡ Some (trimmed xs)
place_in_basis k n p xs h =
    let fits : n < 2 ^ suc (n + k) - 1 = omega (arith, below_power (suc (n + k))) in
    let here : slice_get (placed k n []) p ≡ Some (trimmed xs) =
    slice_get-map (λ (front : List ℕ). trimmed (front ++ [])) (lists_of k n) p ∙ ap (option_map (λ (front : List ℕ). trimmed (front ++ []))) h ∙ ap (λ ys. Some (trimmed ys)) (append-nil xs)
    in
    ap (λ ls. slice_get ls p) (sym (placed_basis (n + k) n fits)) ∙ place_enough n k n p (trimmed xs) here

-- One more exponent of a list, from the first on.
degree_from-take : (j i : ℕ) (r : List ℕ) → degree_from j (take i r) ≤ degree_from j r
degree_from-take j zero r = omega arith
degree_from-take j (suc i) [] = omega arith
degree_from-take j (suc i) (x ∷ r) = omega (arith, degree_from-take (suc j) i r)

module _ (r : List ℕ) (i n : ℕ) (within : i < length r) where
  pub degree_next : n ≡ degree_of (take i r) → n + entry r i * (2 ^ suc i - 1) ≡ degree_of (take (i + 1) r)
  degree_next e = ap (λ m. m + entry r i * (2 ^ suc i - 1)) e ∙ sym (ap degree_of (take_more r i 0 within) ∙ degree_of-push (take i r) i (entry r i) (length-take-le i r (omega arith)))

  pub degree_past : (max : ℕ) → n ≡ degree_of (take i r) → max < n + entry r i * (2 ^ suc i - 1) → max < degree_of r
  degree_past max e h = omega (arith, degree_next e, degree_from-take 1 (i + 1) r)

  pub place_next : (n' p a b : ℕ) → slice_get (lists_of i n) p ≡ Some (take i r) → n' ≡ n + entry r i * (2 ^ suc i - 1) → a ≡ length (lists_of (i + 1) n') → b ≡ length (lists_of (i + 1) n)
      → (b ≤ a) × (slice_get (lists_of (i + 1) n') (p + (a - b)) ≡ Some (take (i + 1) r))
  place_next n' p a b at e ea eb =
      let next : i + 1 ≡ suc i = omega arith in
      let last = entry r i in
      let degree : n + last * (2 ^ suc i - 1) ≡ n' = sym e in
      let ea' : a ≡ length (lists_of (suc i) n') = ea ∙ ap (λ k. length (lists_of k n')) next in
      let eb' : b ≡ length (lists_of (suc i) n) = eb ∙ ap (λ k. length (lists_of k n)) next in
      let fewer : length (lists_of (suc i) n) ≤ length (lists_of (suc i) n') = subst (λ m. length (lists_of (suc i) n) ≤ length (lists_of (suc i) m)) degree (omega (arith, length_split i n last)) in
      let place : p + (a - b) ≡ p + (length (lists_of (suc i) n') - length (lists_of (suc i) n)) = omega arith in
      let pushed : slice_get (lists_of (suc i) n') (p + (length (lists_of (suc i) n') - length (lists_of (suc i) n))) ≡ Some (take i r ++ last ∷ []) =
      subst (λ m. slice_get (lists_of (suc i) m) (p + (length (lists_of (suc i) m) - length (lists_of (suc i) n))) ≡ Some (take i r ++ last ∷ [])) degree (place_pushed i n last p (take i r) at)
      in
      (omega arith, ap (λ k. slice_get (lists_of k n') (p + (a - b))) next ∙ ap (slice_get (lists_of (suc i) n')) place ∙ pushed ∙ ap Some (sym (take_more r i 0 within)))

-- all exponents of a list
pub place_of_all : (r : List ℕ) (i n p : ℕ) → IsTrimmed r → length r ≤ i → slice_get (lists_of i n) p ≡ Some (take i r) → slice_get (basis_of n) p ≡ Some r
place_of_all r i n p trim all at = place_in_basis i n p (take i r) at ∙ ap (λ xs. Some (trimmed xs)) (take_all i r all) ∙ ap Some trim
