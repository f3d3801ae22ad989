-- Which multinomials are odd: those of numbers no two of which share a binary digit.
use Rattle.std.specs.Prelude.{bit_and, bit_or, nat_eq, ◌*◌, ◌%◌, ◌&&◌}
use Rattle.std.specs.List.{sum}
use Rattle.std.proofs.Common.{◌≡◌, ℕ, zero, suc, ◌+◌, ◌<◌, ◌≤◌, Bool, true, false, List, [], ◌∷◌, length, get_or, set, refl, ap, sym, ◌∙◌, arith}
use Rattle.std.proofs.lemmas.Nat.{le_or_l, and_block, and_comm, mod_below, mul-mod, or_disjoint}
use Rattle.std.proofs.lemmas.Nat.Bits.{bit_at_and, bit_at_or, same_from_bits}
use Rattle.std.proofs.Math.Bool as Booleans
use Rattle.std.proofs.lemmas.Bool.{eqb-true}
use Rattle.std.proofs.lemmas.Bool.Decides.{nat_tests}
use Rattle.std.proofs.lemmas.List.Sums.{sum_by-cons, sum_by-set}
use Rattle.milnor_basis.specs.Product.{choose, multinomial, is_odd}

-- Pascal's triangle is 0 past its edge
pub choose-past : (n k : ℕ) → n < k → choose n k ≡ 0
choose-past n zero l = absurd (omega arith)
choose-past zero (suc k) l = refl
choose-past (suc n) (suc k) l = omega (arith, choose-past n k (omega arith), choose-past n (suc k) (omega arith))

abbrev double : ℕ → ℕ
double zero = zero
double (suc n) = suc (suc (double n))

double_is : (n : ℕ) → double n ≡ n * 2
double_is zero = refl
double_is (suc n) = omega (arith, double_is n)

double-add : (m n : ℕ) → double m + double n ≡ double (m + n)
double-add m n = omega (arith, double_is m, double_is n, double_is (m + n))

-- each number is 2 h or 2 h + 1
by_halves : (P : ℕ → Type 0) → ((h : ℕ) → P (double h)) → ((h : ℕ) → P (suc (double h))) → (n : ℕ) → P n
by_halves P even odd zero = even zero
by_halves P even odd (suc zero) = odd zero
by_halves P even odd (suc (suc n)) = by_halves (λ k. P (suc (suc k))) (λ h. even (suc h)) (λ h. odd (suc h)) n

-- Pascal's triangle mod 2, two rows at a time
choose-even_odd : (n k : ℕ) → choose (double n) (suc (double k)) % 2 ≡ 0
choose-even_odd zero k = refl
choose-even_odd (suc n) zero = omega (arith, choose-even_odd n zero)
choose-even_odd (suc n) (suc k) = omega (arith, choose-even_odd n k, choose-even_odd n (suc k))

choose-even_even : (n k : ℕ) → choose (double n) (double k) % 2 ≡ choose n k % 2
choose-even_even zero zero = refl
choose-even_even zero (suc k) = refl
choose-even_even (suc n) zero = refl
choose-even_even (suc n) (suc k) = omega (arith, choose-even_even n k, choose-even_even n (suc k))

choose-odd_odd : (n k : ℕ) → choose (suc (double n)) (suc (double k)) % 2 ≡ choose n k % 2
choose-odd_odd n k = omega (arith, choose-even_even n k, choose-even_odd n k)

choose-odd_even : (n k : ℕ) → choose (suc (double n)) (double k) % 2 ≡ choose n k % 2
choose-odd_even n zero = refl
choose-odd_even n (suc k) = omega (arith, choose-even_even n (suc k), choose-even_odd n k)

-- the digits that two numbers share, the lowest first
and-halves : (a b r s : ℕ) → r < 2 → s < 2 → bit_and (a * 2 + r) (b * 2 + s) ≡ bit_and a b * 2 + bit_and r s
and-halves a b r s = and_block 1 a b r s

pub and-digits : (m n a b r s : ℕ) → r < 2 → s < 2 → m ≡ a * 2 + r → n ≡ b * 2 + s → bit_and m n ≡ bit_and a b * 2 + bit_and r s
and-digits m n a b r s p q e f = ap (λ k. bit_and k n) e ∙ ap (λ k. bit_and (a * 2 + r) k) f ∙ and-halves a b r s p q

and-even_even : (a b : ℕ) → bit_and (double a) (double b) ≡ bit_and a b * 2
and-even_even a b =
    and-digits (double a) (double b) a b 0 0 (omega arith) (omega arith) (omega (arith, double_is a)) (omega (arith, double_is b)) ∙ omega arith

and-odd_even : (a b : ℕ) → bit_and (suc (double a)) (double b) ≡ bit_and a b * 2
and-odd_even a b =
    and-digits (suc (double a)) (double b) a b 1 0 (omega arith) (omega arith) (omega (arith, double_is a)) (omega (arith, double_is b)) ∙ omega arith

and-even_odd : (a b : ℕ) → bit_and (double a) (suc (double b)) ≡ bit_and a b * 2
and-even_odd a b = and_comm (double a) (suc (double b)) ∙ and-odd_even b a ∙ ap (λ n. n * 2) (and_comm b a)

and-odd_odd : (a b : ℕ) → bit_and (suc (double a)) (suc (double b)) ≡ bit_and a b * 2 + 1
and-odd_odd a b =
    and-digits (suc (double a)) (suc (double b)) a b 1 1 (omega arith) (omega arith) (omega (arith, double_is a)) (omega (arith, double_is b))

-- choosing a of a + b is odd where a and b share no digit
abbrev IsOddWhenApart : ℕ → ℕ → Type 0
IsOddWhenApart a b = is_odd (choose (a + b) a) ≡ nat_eq (bit_and a b) 0

odd-at : (m n k c : ℕ) → m % 2 ≡ n % 2 → k ≡ c * 2 → is_odd n ≡ nat_eq c 0 → is_odd m ≡ nat_eq k 0
odd-at m n k c p q h = grind (arith, nat_tests)

-- the four ways in which the lowest digits of two numbers can be
apart-even_even : (a b : ℕ) → IsOddWhenApart a b → IsOddWhenApart (double a) (double b)
apart-even_even a b h =
    rw double-add (odd-at (choose (double (a + b)) (double a)) (choose (a + b) a) (bit_and (double a) (double b)) (bit_and a b) (choose-even_even (a + b) a) (and-even_even a b) h)

apart-odd_even : (a b : ℕ) → IsOddWhenApart a b → IsOddWhenApart (suc (double a)) (double b)
apart-odd_even a b h =
    let e : suc (double a) + double b ≡ suc (double (a + b)) = omega (arith, double-add a b) in
    rw e (odd-at (choose (suc (double (a + b))) (suc (double a))) (choose (a + b) a) (bit_and (suc (double a)) (double b)) (bit_and a b) (choose-odd_odd (a + b) a) (and-odd_even a b) h)

apart-even_odd : (a b : ℕ) → IsOddWhenApart a b → IsOddWhenApart (double a) (suc (double b))
apart-even_odd a b h =
    let e : double a + suc (double b) ≡ suc (double (a + b)) = omega (arith, double-add a b) in
    rw e (odd-at (choose (suc (double (a + b))) (double a)) (choose (a + b) a) (bit_and (double a) (suc (double b))) (bit_and a b) (choose-odd_even (a + b) a) (and-even_odd a b) h)

apart-odd_odd : (a b : ℕ) → IsOddWhenApart (suc (double a)) (suc (double b))
apart-odd_odd a b =
    let e : suc (double a) + suc (double b) ≡ double (suc (a + b)) = omega (arith, double-add a b) in
    let f : choose (double (suc (a + b))) (suc (double a)) % 2 ≡ 0 = choose-even_odd (suc (a + b)) a in
    let g : bit_and (suc (double a)) (suc (double b)) ≡ bit_and a b * 2 + 1 = and-odd_odd a b in
    rw (e, g) (neither (choose (double (suc (a + b))) (suc (double a))) (bit_and a b) f)
  where
    neither : (m c : ℕ) → m % 2 ≡ 0 → is_odd m ≡ nat_eq (c * 2 + 1) 0
    neither m c p = grind (arith, nat_tests)

choose_odd_below : (m a b : ℕ) → a ≤ m → IsOddWhenApart a b
choose_odd_below zero a b l =
    let e : a ≡ zero = omega arith in
    rw e refl
choose_odd_below (suc m) a b l =
    by_halves (λ n. n ≤ suc m → IsOddWhenApart n b)
    (λ h i. by_halves (λ n. IsOddWhenApart (double h) n) (λ k. apart-even_even h k (choose_odd_below m h k (omega (arith, double_is h)))) (λ k. apart-even_odd h k (choose_odd_below m h k (omega (arith, double_is h)))) b)
    (λ h i. by_halves (λ n. IsOddWhenApart (suc (double h)) n) (λ k. apart-odd_even h k (choose_odd_below m h k (omega (arith, double_is h)))) (λ k. apart-odd_odd h k) b)
    a l

pub choose_odd : (a b : ℕ) → is_odd (choose (a + b) a) ≡ nat_eq (bit_and a b) 0
choose_odd a b = choose_odd_below a a b (omega arith)

-- an odd product has odd factors alone
pub odd-times : (m n : ℕ) → is_odd (m * n) ≡ (is_odd m && is_odd n)
odd-times m n = by_digits (m % 2) (n % 2) (mod_below m 2 (omega arith)) (mod_below n 2 (omega arith)) (mul-mod m n 2)
  where
    by_digits : (r s : ℕ) → r < 2 → s < 2 → (m * n) % 2 ≡ (r * s) % 2 → nat_eq ((m * n) % 2) 1 ≡ (nat_eq r 1 && nat_eq s 1)
    by_digits zero s p q e = grind (arith, nat_tests)
    by_digits (suc zero) s p q e = grind (arith, nat_tests)
    by_digits (suc (suc r)) s p q e = absurd (omega arith)

pub sum-cons : (x : ℕ) (xs : List ℕ) → sum (x ∷ xs) ≡ x + sum xs
sum-cons x xs = sum_by-cons (λ n. n) x xs

pub multinomial-odd_cons : (x : ℕ) (xs : List ℕ) → is_odd (multinomial (x ∷ xs)) ≡ (nat_eq (bit_and x (sum xs)) 0 && is_odd (multinomial xs))
multinomial-odd_cons x xs =
    odd-times (choose (x + sum xs) x) (multinomial xs) ∙ ap (λ b. b && is_odd (multinomial xs)) (choose_odd x (sum xs))

-- whether two numbers share no binary digit
abbrev apart : ℕ → ℕ → Bool
apart a b = nat_eq (bit_and a b) 0

pub bit_and-or : (a b c : ℕ) → bit_and a (bit_or b c) ≡ bit_or (bit_and a b) (bit_and a c)
bit_and-or a b c =
    same_from_bits (bit_and a (bit_or b c)) (bit_or (bit_and a b) (bit_and a c))
    (λ i. omega (arith, bit_at_and a (bit_or b c) i, bit_at_or b c i, bit_at_or (bit_and a b) (bit_and a c) i, bit_at_and a b i, bit_at_and a c i))

-- a shares no digit with the sum of b and c, which share none, where it shares none with either
pub apart-add : (a b c : ℕ) → bit_and b c ≡ 0 → nat_eq (bit_and a (b + c)) 0 ≡ (nat_eq (bit_and a b) 0 && nat_eq (bit_and a c) 0)
apart-add a b c h =
    let e : bit_and a (b + c) ≡ bit_or (bit_and a b) (bit_and a c) = ap (λ n. bit_and a n) (sym (or_disjoint b c h)) ∙ bit_and-or a b c in
    rw e (either (bit_and a b) (bit_and a c))
  where
    either : (m n : ℕ) → nat_eq (bit_or m n) 0 ≡ (nat_eq m 0 && nat_eq n 0)
    either zero n = refl
    either (suc m) n = grind (arith, nat_tests, le_or_l (suc m) n)

-- of three numbers no two share a digit
apart-all : (a b c : ℕ) → (apart a (b + c) && apart b c) ≡ (apart a b && (apart a c && apart b c))
apart-all a b c =
    under (apart a (b + c)) (apart a b) (apart a c) (apart b c) (λ h. apart-add a b c (eqb-true (bit_and b c) 0 h))
  where
    under : (p q r s : Bool) → (s ≡ true → p ≡ (q && r)) → (p && s) ≡ (q && (r && s))
    under p q r true h = Booleans.and-true p ∙ h refl ∙ ap (λ t. q && t) (sym (Booleans.and-true r))
    under p q r false h = Booleans.and-false p ∙ sym (ap (λ t. q && t) (Booleans.and-false r) ∙ Booleans.and-false q)

-- the test that no two of three numbers share a digit, begun at either of two
pub apart-three : (a b c : ℕ) → (nat_eq (bit_and a (b + c)) 0 && nat_eq (bit_and b c) 0) ≡ (nat_eq (bit_and b (a + c)) 0 && nat_eq (bit_and a c) 0)
apart-three a b c =
    apart-all a b c ∙ ap (λ n. nat_eq n 0 && (apart a c && apart b c)) (and_comm a b) ∙ ap (λ t. apart b a && t) (Booleans.and_comm (apart a c) (apart b c)) ∙ sym (apart-all b a c)

-- an entry put where a list has 0 adds the condition that it shares no digit with the list's sum
pub digits_apart : (xs : List ℕ) (i v : ℕ) → i < length xs → get_or xs i 0 ≡ 0 → is_odd (multinomial (set xs i v)) ≡ (nat_eq (bit_and v (sum xs)) 0 && is_odd (multinomial xs))
digits_apart [] i v l z = absurd (omega arith)
digits_apart (x ∷ xs) zero v l z =
    let e : sum (x ∷ xs) ≡ sum xs = omega (arith, sum-cons x xs) in
    let f : is_odd (multinomial (x ∷ xs)) ≡ is_odd (multinomial xs) = ap (λ n. is_odd (multinomial (n ∷ xs))) z ∙ multinomial-odd_cons 0 xs in
    multinomial-odd_cons v xs ∙ ap (λ n. nat_eq (bit_and v n) 0 && is_odd (multinomial xs)) (sym e) ∙ ap (λ t. nat_eq (bit_and v (sum (x ∷ xs))) 0 && t) (sym f)
digits_apart (x ∷ xs) (suc i) v l z =
    let e : sum (set xs i v) ≡ v + sum xs = omega (arith, sum_by-set (λ n. n) xs i v 0 (omega arith)) in
    let h : is_odd (multinomial (set xs i v)) ≡ (apart v (sum xs) && is_odd (multinomial xs)) = digits_apart xs i v (omega arith) z in
    multinomial-odd_cons x (set xs i v)
    ∙ ap (λ n. apart x n && is_odd (multinomial (set xs i v))) e
    ∙ ap (λ t. apart x (v + sum xs) && t) h
    ∙ regroup (apart x (v + sum xs)) (apart v (sum xs)) (apart v (x + sum xs)) (apart x (sum xs)) (is_odd (multinomial xs)) (apart-three x v (sum xs))
    ∙ ap (λ n. apart v n && (apart x (sum xs) && is_odd (multinomial xs))) (sym (sum-cons x xs))
    ∙ ap (λ t. apart v (sum (x ∷ xs)) && t) (sym (multinomial-odd_cons x xs))
  where
    regroup : (p q r s t : Bool) → (p && q) ≡ (r && s) → (p && (q && t)) ≡ (r && (s && t))
    regroup p q r s t h = sym (Booleans.and_assoc p q t) ∙ ap (λ b. b && t) h ∙ Booleans.and_assoc r s t
