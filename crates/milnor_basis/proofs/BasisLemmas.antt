-- The basis of a degree: how it is made, and what it holds.
use Rattle.std.proofs.Common.{◌≡◌, ℕ, zero, suc, ◌+◌, ◌-◌, ◌*◌, ◌/◌, ◌%◌, ◌^◌, ◌<◌, ◌≤◌, List, [], ◌∷◌, ◌++◌, length, map, take, drop, set, refl, ap, sym, subst, ◌∙◌, inl, inr, arith}
use Rattle.std.proofs.Math.Nat.{pow-le-pow_right, div-eq_of_lt}
use Rattle.std.specs.List.{flat_map, range_with_len, All, AllPairs, Contains}
use Rattle.std.proofs.lemmas.Bool.{cases_lt}
use Rattle.std.proofs.lemmas.List.{append-nil, append_assoc, drop-set, flat_map_more, map-append, length_push, length-take-le, take_all, take_more, get_or_push, get_or_append_left, get_or-append_right}
use Rattle.std.proofs.lemmas.List.Elements.{All-nil, All-cons, All-map, All-weaker, All-contains}
use Rattle.std.proofs.lemmas.Nat.{mul-le, le-div, div-add-mod'}
use Rattle.f2_vec.proofs.Ones.{range_more}
use Rattle.milnor_basis.specs.Exponents.{entry, degree_of, put_before, trimmed, IsTrimmed, IsRightLexBelow}
use Rattle.milnor_basis.specs.Basis.{lists_of, basis_of, BasisIsMilnors}
use Rattle.milnor_basis.specs.Inside.Padding.{padded}
use Rattle.milnor_basis.proofs.Blocks.{All-blocks, Contains-blocks, Contains-map, AllPairs-blocks, AllPairs-map}
use Rattle.milnor_basis.proofs.ExponentLemmas.{degree_of-trimmed, degree_of-push, entry-trimmed, entry_past, IsTrimmed-trimmed, length_above, length_within, length-padded, trimmed-padded, below_power}

-- the elements whose first k exponents make up degree n, and whose others are given
abbrev pub placed : ℕ → ℕ → List ℕ → List (List ℕ)
placed k n rest = map (λ front. trimmed (front ++ rest)) (lists_of k n)

-- those with a given exponent at the last of the k places
abbrev pub placed_last : ℕ → ℕ → List ℕ → ℕ → List (List ℕ)
placed_last k n rest r = placed (k - 1) (n - r * (2 ^ k - 1)) (r ∷ rest)

map-flat_map : {A B : Type 0} (f : A → B) (g : ℕ → List A) (xs : List ℕ) → map f (flat_map g xs) ≡ flat_map (λ x. map f (g x)) xs
map-flat_map f g [] = refl
map-flat_map f g (x ∷ xs) = map-append f (g x) (flat_map g xs) ∙ ap (λ ys. map f (g x) ++ ys) (map-flat_map f g xs)

flat_map_agree : {A : Type 0} (f g : ℕ → List A) → ((x : ℕ) → f x ≡ g x) → (xs : List ℕ) → flat_map f xs ≡ flat_map g xs
flat_map_agree f g h [] = refl
flat_map_agree f g h (x ∷ xs) = cc (h x, flat_map_agree f g h xs)

placed-front : (rest : List ℕ) (r : ℕ) (fronts : List (List ℕ)) → map (λ list. trimmed (list ++ rest)) (map (λ front. front ++ r ∷ []) fronts) ≡ map (λ front. trimmed (front ++ (r ∷ rest))) fronts
placed-front rest r [] = refl
placed-front rest r (front ∷ fronts) =
    let here : (front ++ r ∷ []) ++ rest ≡ front ++ (r ∷ rest) = append_assoc front (r ∷ []) rest in
    cc (ap trimmed here, placed-front rest r fronts)

-- the definition of `lists_of`, with the exponents that are given behind it
pub placed-suc : (k n : ℕ) (rest : List ℕ) → placed (suc k) n rest ≡ flat_map (λ r. placed k (n - r * (2 ^ suc k - 1)) (r ∷ rest)) (range_with_len 0 (n / (2 ^ suc k - 1) + 1))
placed-suc k n rest =
    map-flat_map (λ front. trimmed (front ++ rest)) (λ r. map (λ front. front ++ r ∷ []) (lists_of k (n - r * (2 ^ suc k - 1)))) (range_with_len 0 (n / (2 ^ suc k - 1) + 1))
    ∙ flat_map_agree _ _ (λ r. placed-front rest r (lists_of k (n - r * (2 ^ suc k - 1)))) (range_with_len 0 (n / (2 ^ suc k - 1) + 1))

pub placed_by_last : (k n : ℕ) (rest : List ℕ) → 0 < k → flat_map (placed_last k n rest) (range_with_len 0 (n / (2 ^ k - 1) + 1)) ≡ placed k n rest
placed_by_last zero n rest h = absurd (omega arith)
placed_by_last (suc k) n rest h =
    let back : suc k - 1 ≡ k = omega arith in
    subst (λ j. flat_map (λ r. placed j (n - r * (2 ^ suc k - 1)) (r ∷ rest)) (range_with_len 0 (n / (2 ^ suc k - 1) + 1)) ≡ placed (suc k) n rest) (sym back) (sym (placed-suc k n rest))

-- one more exponent at the last place
pub placed_more : (self level level' : List (List ℕ)) (k n r : ℕ) (rest : List ℕ) → level ≡ self ++ flat_map (placed_last k n rest) (range_with_len 0 r) → level' ≡ level ++ placed_last k n rest r → level' ≡ self ++ flat_map (placed_last k n rest) (range_with_len 0 (r + 1))
placed_more self level level' k n r rest e e' =
    e' ∙ ap (λ xs. xs ++ placed_last k n rest r) e ∙ flat_map_more (placed_last k n rest) self (range_with_len 0 r) r ∙ ap (λ xs. self ++ flat_map (placed_last k n rest) xs) (sym (range_more 0 r r (omega arith)))

-- the exponents from place k - 1 on, once one is put there
pub drop_set_back : (numbers : List ℕ) (k r : ℕ) → 0 < k → k ≤ length numbers → drop (k - 1) (set numbers (k - 1) r) ≡ r ∷ drop k numbers
drop_set_back numbers k r h w =
    let back : k - 1 + 1 ≡ k = omega arith in
    drop-set numbers (k - 1) r (omega arith) ∙ ap (λ j. r ∷ drop j numbers) back

-- A single exponent is the degree.
one_from : (m a n : ℕ) → a + m ≡ n → flat_map (λ r. map (λ front. front ++ r ∷ []) (lists_of zero (n - r * 1))) (range_with_len a (suc m)) ≡ (n ∷ []) ∷ []
one_from zero a n e =
    let same : a ≡ n = omega arith in
    let none : n - a * 1 ≡ 0 = omega arith in
    ap (λ k. map (λ front. front ++ a ∷ []) (lists_of zero k) ++ []) none ∙ ap (λ b. (b ∷ []) ∷ []) same
one_from (suc m) a n e =
    let some : n - a * 1 ≡ suc m = omega arith in
    ap (λ k. map (λ front. front ++ a ∷ []) (lists_of zero k) ++ flat_map (λ r. map (λ front. front ++ r ∷ []) (lists_of zero (n - r * 1))) (range_with_len (a + 1) (suc m))) some
    ∙ one_from m (a + 1) n (omega arith)

pub lists_of_one : (n : ℕ) → lists_of 1 n ≡ (n ∷ []) ∷ []
lists_of_one n =
    let count : n / 1 + 1 ≡ suc n = omega arith in
    ap (λ m. flat_map (λ r. map (λ front. front ++ r ∷ []) (lists_of zero (n - r * 1))) (range_with_len 0 m)) count ∙ one_from n 0 n (omega arith)

pub placed_one : (n : ℕ) (rest : List ℕ) → placed 1 n rest ≡ trimmed (n ∷ rest) ∷ []
placed_one n rest = ap (map (λ front. trimmed (front ++ rest))) (lists_of_one n)

-- one turn of the loop of `Level::with_lists`
pub placed_turn :
    (self level level' : List (List ℕ)) (numbers numbers' : List ℕ) (k n r weight : ℕ)
    → 0 < k → k ≤ length numbers' → weight ≡ 2 ^ k - 1 → drop k numbers' ≡ drop k numbers
    → level ≡ self ++ flat_map (placed_last k n (drop k numbers)) (range_with_len 0 r)
    → level' ≡ level ++ placed (k - 1) (n - r * weight) (drop (k - 1) (set numbers' (k - 1) r))
    → level' ≡ self ++ flat_map (placed_last k n (drop k numbers)) (range_with_len 0 (r + 1))
placed_turn self level level' numbers numbers' k n r weight h w e same before more =
    let rest : drop (k - 1) (set numbers' (k - 1) r) ≡ r ∷ drop k numbers = drop_set_back numbers' k r h w ∙ ap (λ xs. r ∷ xs) same in
    let part : placed (k - 1) (n - r * weight) (drop (k - 1) (set numbers' (k - 1) r)) ≡ placed_last k n (drop k numbers) r =
    ap (λ v. placed (k - 1) (n - r * v) (drop (k - 1) (set numbers' (k - 1) r))) e ∙ ap (placed (k - 1) (n - r * (2 ^ k - 1))) rest
    in
    placed_more self level level' k n r (drop k numbers) before (more ∙ ap (λ xs. level ++ xs) part)

-- and its end
pub placed_end :
    (self level : List (List ℕ)) (k n r weight : ℕ) (rest : List ℕ)
    → 0 < k → weight ≡ 2 ^ k - 1 → r ≡ n / weight
    → level ≡ self ++ flat_map (placed_last k n rest) (range_with_len 0 (r + 1))
    → level ≡ self ++ placed k n rest
placed_end self level k n r weight rest h e last made =
    let whole : r ≡ n / (2 ^ k - 1) = last ∙ ap (λ v. n / v) e in
    made ∙ ap (λ m. self ++ flat_map (placed_last k n rest) (range_with_len 0 (m + 1))) whole ∙ ap (λ xs. self ++ xs) (placed_by_last k n rest h)

-- A zero at the end changes no element, so exponents that do not fit the degree may be left out.
map_agree : {X Y : Type 0} (f g : X → Y) → ((x : X) → f x ≡ g x) → (xs : List X) → map f xs ≡ map g xs
map_agree f g h [] = refl
map_agree f g h (x ∷ xs) = cc (h x, map_agree f g h xs)

trimmed-zero : (rs : List ℕ) → trimmed (rs ++ 0 ∷ []) ≡ trimmed (rs ++ [])
trimmed-zero [] = refl
trimmed-zero (r ∷ rs) = ap (put_before r) (trimmed-zero rs)

pub placed-zero : (k n : ℕ) → placed k n (0 ∷ []) ≡ placed k n []
placed-zero k n = map_agree (λ front. trimmed (front ++ 0 ∷ [])) (λ front. trimmed (front ++ [])) trimmed-zero (lists_of k n)

-- one exponent less, where the last does not fit the degree
placed_less : (k n : ℕ) → n < 2 ^ suc k - 1 → placed (suc k) n [] ≡ placed k n []
placed_less k n h =
    let w = 2 ^ suc k - 1 in
    let none : n / w ≡ 0 = div-eq_of_lt h in
    let whole : n - 0 * w ≡ n = omega arith in
    placed-suc k n []
    ∙ ap (λ m. flat_map (λ r. placed k (n - r * w) (r ∷ [])) (range_with_len 0 (m + 1))) none
    ∙ append-nil (placed k (n - 0 * w) (0 ∷ []))
    ∙ ap (λ m. placed k m (0 ∷ [])) whole
    ∙ placed-zero k n

placed_enough : (d k n : ℕ) → n < 2 ^ suc k - 1 → placed (d + k) n [] ≡ placed k n []
placed_enough zero k n h = let e : 0 + k ≡ k = omega arith in ap (λ j. placed j n []) e
placed_enough (suc d) k n h =
    let e : suc d + k ≡ suc (d + k) = omega arith in
    let more : 2 ^ suc k ≤ 2 ^ suc (d + k) = pow-le-pow_right {n = 2} (omega arith) {i = suc k} {j = suc (d + k)} (omega arith) in
    ap (λ j. placed j n []) e ∙ placed_less (d + k) n (omega arith) ∙ placed_enough d k n h

-- enough exponents make the basis
pub placed_basis : (k n : ℕ) → n < 2 ^ suc k - 1 → placed k n [] ≡ basis_of n
placed_basis k n h =
    let turned : n + k ≡ k + n = omega arith in
    let fits : n < 2 ^ suc n - 1 = (let p : suc n < 2 ^ suc n = below_power (suc n) in omega arith) in
    sym (placed_enough n k n h) ∙ ap (λ j. placed j n []) turned ∙ placed_enough k n n fits
    ∙ map_agree (λ front. trimmed (front ++ [])) trimmed (λ front. ap trimmed (append-nil front)) (lists_of n n)

-- What `lists_of` holds.
abbrev pub IsListOf : ℕ → ℕ → List ℕ → Type 0
IsListOf k n r = (length r ≡ k) × (degree_of r ≡ n)

-- an exponent up to n / w has a degree within n
fits_by_quotient : (n w r : ℕ) → 0 < w → r < 0 + (n / w + 1) → r * w ≤ n
fits_by_quotient n w r p h =
    let whole : n / w * w + n % w ≡ n = div-add-mod' n w in
    let below : r * w ≤ n / w * w = mul-le r w (n / w) w (omega arith) (omega arith) in
    omega arith

pub weight_above : (k : ℕ) → 0 < 2 ^ suc k - 1
weight_above k = let p : suc k < 2 ^ suc k = below_power (suc k) in omega arith

pub All-lists_of : (k n : ℕ) → All (IsListOf k n) (lists_of k n)
All-lists_of zero zero = All-cons (IsListOf zero zero) [] [] (refl, refl) (All-nil (IsListOf zero zero))
All-lists_of zero (suc n) = All-nil (IsListOf zero (suc n))
All-lists_of (suc k) n =
    let w = 2 ^ suc k - 1 in
    All-blocks (IsListOf (suc k) n) (λ r. map (λ front. front ++ r ∷ []) (lists_of k (n - r * w))) 0 (n / w + 1)
    (λ r lo hi. All-map (IsListOf (suc k) n) (λ front. front ++ r ∷ []) (lists_of k (n - r * w))
    (All-weaker (IsListOf k (n - r * w)) (λ front. IsListOf (suc k) n (front ++ r ∷ [])) (λ front h. longer k n r front (fits_by_quotient n w r (weight_above k) hi) h) (lists_of k (n - r * w)) (All-lists_of k (n - r * w))))
  where
    longer : (k n r : ℕ) (front : List ℕ) → r * (2 ^ suc k - 1) ≤ n → IsListOf k (n - r * (2 ^ suc k - 1)) front → IsListOf (suc k) n (front ++ r ∷ [])
    longer k n r front fit h =
        let lens : length front ≡ k = h.0 in
        let degrees : degree_of front ≡ n - r * (2 ^ suc k - 1) = h.1 in
        let push : degree_of (front ++ r ∷ []) ≡ degree_of front + r * (2 ^ suc k - 1) = degree_of-push front k r lens in
        let len : length (front ++ r ∷ []) ≡ length front + 1 = length_push front r in
        (omega arith, omega arith)

pub Contains-lists_of : (k n : ℕ) (r : List ℕ) → length r ≡ k → degree_of r ≡ n → Contains (lists_of k n) r
Contains-lists_of zero n [] e d = subst (λ m. Contains (lists_of zero m) []) d (zero, omega arith, refl)
Contains-lists_of zero n (x ∷ r) e d = cc
Contains-lists_of (suc k) n r e d =
    let w = 2 ^ suc k - 1 in
    let last = entry r k in
    let front = take k r in
    let len : length front ≡ k = length-take-le k r (omega arith) in
    let split : r ≡ front ++ last ∷ [] = sym (take_all (k + 1) r (omega arith)) ∙ take_more r k 0 (omega arith) in
    let push : degree_of (front ++ last ∷ []) ≡ degree_of front + last * w = degree_of-push front k last len in
    let whole : degree_of front + last * w ≡ n = sym push ∙ ap degree_of (sym split) ∙ d in
    let quotient : last ≤ n / w = le-div last n w (weight_above k) (omega arith) in
    let rest : degree_of front ≡ n - last * w = omega arith in
    subst (Contains (lists_of (suc k) n)) (sym split)
    (Contains-blocks (λ s. map (λ f. f ++ s ∷ []) (lists_of k (n - s * w))) 0 (n / w + 1) last (front ++ last ∷ []) (omega arith) (omega arith)
    (Contains-map (λ f. f ++ last ∷ []) (lists_of k (n - last * w)) front (Contains-lists_of k (n - last * w) front len rest)))

-- Right lexicographic order.
-- one more exponent, the same for both, keeps the order
below_push : (k r : ℕ) (x y : List ℕ) → length x ≡ k → length y ≡ k → IsRightLexBelow x y → IsRightLexBelow (x ++ r ∷ []) (y ++ r ∷ [])
below_push k r x y ex ey h =
    let within : h.place < length y = length_above y h.place (λ z. let own : entry x h.place < entry y h.place = h.smaller in absurd (omega arith)) in
    record {
      place = h.place;
      smaller = rw (get_or_append_left x (r ∷ []) 0 h.place (omega arith), get_or_append_left y (r ∷ []) 0 h.place (omega arith)) h.smaller;
      same_after = λ j after. elim (cases_lt j k) [
        | inl a ↦ get_or_append_left x (r ∷ []) 0 j (omega arith) ∙ h.same_after j after ∙ sym (get_or_append_left y (r ∷ []) 0 j (omega arith))
        | inr b ↦ get_or-append_right x (r ∷ []) k j 0 ex (omega arith) ∙ sym (get_or-append_right y (r ∷ []) k j 0 ey (omega arith))
      ];
    }

-- the last exponents decide, if they differ
below_by_last : (k r s : ℕ) (x y : List ℕ) → r < s → length x ≡ k → length y ≡ k → IsRightLexBelow (x ++ r ∷ []) (y ++ s ∷ [])
below_by_last k r s x y h ex ey =
    record {
      place = k;
      smaller = rw (get_or_push x r 0 k ex, get_or_push y s 0 k ey) h;
      same_after = λ j after. entry_past (x ++ r ∷ []) j (omega (arith, length_push x r)) ∙ sym (entry_past (y ++ s ∷ []) j (omega (arith, length_push y s)));
    }

below_trimmed : (x y : List ℕ) → IsRightLexBelow x y → IsRightLexBelow (trimmed x) (trimmed y)
below_trimmed x y h =
    record {
      place = h.place;
      smaller = rw (entry-trimmed x h.place, entry-trimmed y h.place) h.smaller;
      same_after = λ j after. entry-trimmed x j ∙ h.same_after j after ∙ sym (entry-trimmed y j);
    }

lists_of_long : (k n : ℕ) → All (λ r. length r ≡ k) (lists_of k n)
lists_of_long k n = All-weaker (IsListOf k n) (λ r. length r ≡ k) (λ r h. h.0) (lists_of k n) (All-lists_of k n)

pub AllPairs-lists_of : (k n : ℕ) → AllPairs IsRightLexBelow (lists_of k n)
AllPairs-lists_of zero zero = λ i j d h w. absurd (omega arith)
AllPairs-lists_of zero (suc n) = λ i j d h w. absurd (omega arith)
AllPairs-lists_of (suc k) n =
    let w = 2 ^ suc k - 1 in
    AllPairs-blocks IsRightLexBelow (λ r. map (λ front. front ++ r ∷ []) (lists_of k (n - r * w))) 0 (n / w + 1)
    (λ r. AllPairs-map (λ x. length x ≡ k) IsRightLexBelow IsRightLexBelow (λ front. front ++ r ∷ []) (λ x y ex ey h. below_push k r x y ex ey h) (lists_of k (n - r * w)) (lists_of_long k (n - r * w)) (AllPairs-lists_of k (n - r * w)))
    (λ r s h. All-map (λ x. All (IsRightLexBelow x) (map (λ front. front ++ s ∷ []) (lists_of k (n - s * w)))) (λ front. front ++ r ∷ []) (lists_of k (n - r * w))
    (All-weaker (λ x. length x ≡ k) _ (λ x ex. All-map (IsRightLexBelow (x ++ r ∷ [])) (λ front. front ++ s ∷ []) (lists_of k (n - s * w))
    (All-weaker (λ y. length y ≡ k) _ (λ y ey. below_by_last k r s x y h ex ey) (lists_of k (n - s * w)) (lists_of_long k (n - s * w)))) (lists_of k (n - r * w)) (lists_of_long k (n - r * w))))

-- The basis.
pub All-basis_of : (n : ℕ) → All (λ r. IsTrimmed r × (degree_of r ≡ n)) (basis_of n)
All-basis_of n =
    All-map (λ r. IsTrimmed r × (degree_of r ≡ n)) trimmed (lists_of n n)
    (All-weaker (IsListOf n n) (λ r. IsTrimmed (trimmed r) × (degree_of (trimmed r) ≡ n)) (λ r h. (IsTrimmed-trimmed r, degree_of-trimmed r ∙ h.1)) (lists_of n n) (All-lists_of n n))

pub Contains-basis_of : (n : ℕ) (r : List ℕ) → IsTrimmed r → degree_of r ≡ n → Contains (basis_of n) r
Contains-basis_of n r h d =
    let short : length r ≤ n = omega (arith, length_within r h) in
    let same : trimmed (padded n r) ≡ r = trimmed-padded n r short ∙ h in
    let degree : degree_of (padded n r) ≡ n = sym (degree_of-trimmed (padded n r)) ∙ ap degree_of same ∙ d in
    subst (Contains (basis_of n)) same (Contains-map trimmed (lists_of n n) (padded n r) (Contains-lists_of n n (padded n r) (length-padded n r) degree))

pub basis_is_milnors : BasisIsMilnors
basis_is_milnors n =
    record {
      members = λ r. (All-contains (λ s. IsTrimmed s × (degree_of s ≡ n)) (basis_of n) r (All-basis_of n), λ h. Contains-basis_of n r h.0 h.1);
      in_order = λ i j h w. AllPairs-map (λ x. length x ≡ n) IsRightLexBelow IsRightLexBelow trimmed (λ x y ex ey b. below_trimmed x y b) (lists_of n n) (lists_of_long n n) (AllPairs-lists_of n n) i j [] h w;
    }
