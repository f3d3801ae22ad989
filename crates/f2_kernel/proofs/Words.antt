-- The product of two vectors, 64 places at a time: whether the words of these places have an odd number of 1s in common.
use Rattle.std.specs.Prelude.{◌==◌}
use Rattle.std.specs.Int.{bit_at}
use Rattle.std.specs.Int.Bits.{bit_and}
use Rattle.std.specs.Int.Count.{ones, ones_step}
use Rattle.std.proofs.Common.{◌≡◌, ℕ, zero, suc, ◌+◌, ◌-◌, ◌*◌, ◌/◌, ◌%◌, ◌^◌, ◌<◌, min, Bool, true, false, ◌&&◌, List, [], ◌∷◌, ◌++◌, length, take, drop, refl, ap, sym, ◌∙◌, arith, inl, inr}
use Rattle.std.proofs.lemmas.Bool.{cases_lt}
use Rattle.std.proofs.lemmas.List.{get_or_past, get_or-take, get_or-drop, length-take, length-drop, take-append-drop, drop-drop}
use Rattle.std.proofs.lemmas.Nat.{ones_le_self}
use Rattle.std.proofs.lemmas.Nat.Bits.{bit_at_and, bit_at-suc, bit_at_lowest, bit_at-lt, bit_at-zero, bit_at_above, same_from_bits}
use Rattle.f2_vec.specs.Vectors.{plus, bit}
use Rattle.f2_choice.specs.Inside.Dots.{dot}
use Rattle.f2_kernel.proofs.Solved.{dot-append}

-- the sum of a bit and a number is odd where one of them is and the other is not
odd_sum : (x y : ℕ) → x < 2 → y < 2 → plus (x == 1) (y == 1) ≡ ((x + y) % 2 == 1)
odd_sum zero zero p q = refl
odd_sum zero (suc zero) p q = refl
odd_sum (suc zero) zero p q = refl
odd_sum (suc zero) (suc zero) p q = refl
odd_sum zero (suc (suc y)) p q = absurd (omega arith)
odd_sum (suc zero) (suc (suc y)) p q = absurd (omega arith)
odd_sum (suc (suc x)) y p q = absurd (omega arith)

-- a number whose bits are the products at each place
odd_ones : (xs ys : List Bool) (w : ℕ) → length xs ≡ length ys → ((i : ℕ) → (bit_at w i == 1) ≡ (bit xs i && bit ys i)) → (ones w % 2 == 1) ≡ dot xs ys
odd_ones [] [] w e h =
    let none : w ≡ 0 = same_from_bits w 0 (λ i. no_one (bit_at w i) (bit_at-lt w i) (h i) ∙ sym (bit_at-zero i)) in
    let zero_ones : ones 0 ≡ 0 = omega (arith, ones_le_self 0) in
    ap (λ n. ones n % 2 == 1) none ∙ ap (λ n. n % 2 == 1) zero_ones
  where
    no_one : (b : ℕ) → b < 2 → (b == 1) ≡ false → b ≡ 0
    no_one zero l q = refl
    no_one (suc zero) l q = absurd (let r : true ≡ false = q in cc)
    no_one (suc (suc b)) l q = absurd (omega arith)
odd_ones [] (y ∷ ys) w e h = absurd (omega arith)
odd_ones (x ∷ xs) [] w e h = absurd (omega arith)
odd_ones (x ∷ xs) (y ∷ ys) w e h =
    let rest : (ones (w / 2) % 2 == 1) ≡ dot xs ys = odd_ones xs ys (w / 2) (omega arith) (λ i. ap (λ b. b == 1) (sym (bit_at-suc w i)) ∙ h (suc i)) in
    let low : (w % 2 == 1) ≡ (x && y) = ap (λ b. b == 1) (sym (bit_at_lowest w)) ∙ h 0 in
    let step : ones w % 2 ≡ (w % 2 + ones (w / 2) % 2) % 2 = omega (arith, ones_step w) in
    ap (λ n. n == 1) step ∙ sym (odd_sum (w % 2) (ones (w / 2) % 2) (omega arith) (omega arith)) ∙ ap (λ b. plus b (ones (w / 2) % 2 == 1)) low ∙ ap (plus (x && y)) rest

-- the places from 64 k on that a word has
abbrev pub part : ℕ → List Bool → List Bool
part k v = take 64 (drop (64 * k) v)

both : (p q : ℕ) → p < 2 → q < 2 → (min p q == 1) ≡ ((p == 1) && (q == 1))
both zero zero l m = refl
both zero (suc zero) l m = refl
both (suc zero) zero l m = refl
both (suc zero) (suc zero) l m = refl
both zero (suc (suc q)) l m = absurd (omega arith)
both (suc zero) (suc (suc q)) l m = absurd (omega arith)
both (suc (suc p)) q l m = absurd (omega arith)

bit-part : (v : List Bool) (k u i : ℕ) → u < 2 ^ 64 → ((b : ℕ) → b < 64 → (bit_at u b == 1) ≡ bit v (64 * k + b)) → (bit_at u i == 1) ≡ bit (part k v) i
bit-part v k u i l h =
    elim (cases_lt i 64) [
      | inl m ↦ h i m ∙ sym (get_or-drop (64 * k) v i false) ∙ sym (get_or-take 64 (drop (64 * k) v) i false m)
      | inr m ↦ ap (λ b. b == 1) (bit_at_above u 64 i l m) ∙ sym (get_or_past (part k v) i false (omega (arith, length-take 64 (drop (64 * k) v))))
    ]

length-part : (a b : List Bool) (k : ℕ) → length a ≡ length b → length (part k a) ≡ length (part k b)
length-part a b k e = length-take 64 (drop (64 * k) a) ∙ ap (min 64) (length-drop (64 * k) a ∙ ap (λ n. n - 64 * k) e ∙ sym (length-drop (64 * k) b)) ∙ sym (length-take 64 (drop (64 * k) b))

-- one word more, from the last one down
pub word_more : (a b : List Bool) (k u v : ℕ) (sum : Bool) → length a ≡ length b → u < 2 ^ 64 → v < 2 ^ 64 → ((i : ℕ) → i < 64 → (bit_at u i == 1) ≡ bit a (64 * k + i)) → ((i : ℕ) → i < 64 → (bit_at v i == 1) ≡ bit b (64 * k + i))
    → sum ≡ dot (drop (64 * (k + 1)) a) (drop (64 * (k + 1)) b) → plus (ones (bit_and u v) % 2 == 1) sum ≡ dot (drop (64 * k) a) (drop (64 * k) b)
word_more a b k u v sum e lu lv hu hv before =
    let here : (ones (bit_and u v) % 2 == 1) ≡ dot (part k a) (part k b) =
    odd_ones (part k a) (part k b) (bit_and u v) (length-part a b k e)
    (λ i. ap (λ n. n == 1) (bit_at_and u v i) ∙ both (bit_at u i) (bit_at v i) (bit_at-lt u i) (bit_at-lt v i) ∙ ap (λ x. x && (bit_at v i == 1)) (bit-part a k u i lu hu) ∙ ap (λ x. bit (part k a) i && x) (bit-part b k v i lv hv)) in
    let next : 64 * k + 64 ≡ 64 * (k + 1) = omega arith in
    let rest_a : drop (64 * (k + 1)) a ≡ drop 64 (drop (64 * k) a) = ap (λ n. drop n a) (sym next) ∙ sym (drop-drop 64 (64 * k) a) in
    let rest_b : drop (64 * (k + 1)) b ≡ drop 64 (drop (64 * k) b) = ap (λ n. drop n b) (sym next) ∙ sym (drop-drop 64 (64 * k) b) in
    ap (λ x. plus x sum) here
    ∙ ap (plus (dot (part k a) (part k b))) (before ∙ ap (λ z. dot z (drop (64 * (k + 1)) b)) rest_a ∙ ap (dot (drop 64 (drop (64 * k) a))) rest_b)
    ∙ sym (dot-append (part k a) (drop 64 (drop (64 * k) a)) (part k b) (drop 64 (drop (64 * k) b)) (length-part a b k e))
    ∙ ap (λ z. dot z (part k b ++ drop 64 (drop (64 * k) b))) (take-append-drop 64 (drop (64 * k) a))
    ∙ ap (dot (drop (64 * k) a)) (take-append-drop 64 (drop (64 * k) b))
