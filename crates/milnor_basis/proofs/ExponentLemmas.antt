-- Exponent lists: what trimming keeps, and how degree, length and entries bound one another.
use Rattle.std.proofs.Common.{◌≡◌, ◌≢◌, ℕ, zero, suc, ◌+◌, ◌-◌, ◌*◌, ◌^◌, ◌<◌, ◌≤◌, Bool, true, false, inl, inr, nat_eq, List, [], ◌∷◌, ◌++◌, length, drop, refl, ap, sym, subst, ◌∙◌, arith}
use Rattle.std.specs.Cmp.Lexicographic.{pointwise}
use Rattle.std.specs.Str.{bytes_eq}
use Rattle.std.proofs.lemmas.Bool.{cases_eq}
use Rattle.std.proofs.lemmas.Slice.Eq.{bytes_eq-Decides}
use Rattle.std.proofs.Math.Nat.{pow-suc}
use Rattle.std.proofs.lemmas.Nat.{mul-le}
use Rattle.std.proofs.lemmas.List.{get_or_past, drop_more, nil_from_length}
use Rattle.milnor_basis.specs.Exponents.{entry, degree_from, degree_of, put_before, trimmed, IsTrimmed}
use Rattle.milnor_basis.specs.Inside.Padding.{padded, padded-trimmed}

-- what `put_before` does to a degree, to entries and to trimming
pub degree_from-put_before : (i r : ℕ) (t : List ℕ) → degree_from i (put_before r t) ≡ r * (2 ^ i - 1) + degree_from (suc i) t
degree_from-put_before i zero [] = omega arith
degree_from-put_before i (suc r) [] = refl
degree_from-put_before i zero (x ∷ xs) = refl
degree_from-put_before i (suc r) (x ∷ xs) = refl

pub degree_from-trimmed : (i : ℕ) (rs : List ℕ) → degree_from i (trimmed rs) ≡ degree_from i rs
degree_from-trimmed i [] = refl
degree_from-trimmed i (r ∷ rs) = degree_from-put_before i r (trimmed rs) ∙ ap (λ n. r * (2 ^ i - 1) + n) (degree_from-trimmed (suc i) rs)

pub degree_of-trimmed : (rs : List ℕ) → degree_of (trimmed rs) ≡ degree_of rs
degree_of-trimmed rs = degree_from-trimmed 1 rs

pub entry-put_before-zero : (r : ℕ) (t : List ℕ) → entry (put_before r t) zero ≡ r
entry-put_before-zero zero [] = refl
entry-put_before-zero (suc r) [] = refl
entry-put_before-zero zero (x ∷ xs) = refl
entry-put_before-zero (suc r) (x ∷ xs) = refl

pub entry-put_before-suc : (r : ℕ) (t : List ℕ) (j : ℕ) → entry (put_before r t) (suc j) ≡ entry t j
entry-put_before-suc zero [] j = refl
entry-put_before-suc (suc r) [] j = refl
entry-put_before-suc zero (x ∷ xs) j = refl
entry-put_before-suc (suc r) (x ∷ xs) j = refl

pub entry-trimmed : (rs : List ℕ) (j : ℕ) → entry (trimmed rs) j ≡ entry rs j
entry-trimmed [] j = refl
entry-trimmed (r ∷ rs) zero = entry-put_before-zero r (trimmed rs)
entry-trimmed (r ∷ rs) (suc j) = entry-put_before-suc r (trimmed rs) j ∙ entry-trimmed rs j

pub trimmed-put_before : (r : ℕ) (t : List ℕ) → IsTrimmed t → IsTrimmed (put_before r t)
trimmed-put_before zero [] h = refl
trimmed-put_before (suc r) [] h = refl
trimmed-put_before zero (x ∷ xs) h = ap (put_before zero) h
trimmed-put_before (suc r) (x ∷ xs) h = ap (put_before (suc r)) h

pub IsTrimmed-trimmed : (rs : List ℕ) → IsTrimmed (trimmed rs)
IsTrimmed-trimmed [] = refl
IsTrimmed-trimmed (r ∷ rs) = trimmed-put_before r (trimmed rs) (IsTrimmed-trimmed rs)

pub length-put_before : (r : ℕ) (t : List ℕ) → length (put_before r t) ≤ suc (length t)
length-put_before zero [] = omega arith
length-put_before (suc r) [] = omega arith
length-put_before zero (x ∷ xs) = omega arith
length-put_before (suc r) (x ∷ xs) = omega arith

pub length-trimmed : (rs : List ℕ) → length (trimmed rs) ≤ length rs
length-trimmed [] = omega arith
length-trimmed (r ∷ rs) = let own : length (put_before r (trimmed rs)) ≤ suc (length (trimmed rs)) = length-put_before r (trimmed rs) in omega (arith, own, length-trimmed rs)

-- no exponent past the end
pub entry_past : (rs : List ℕ) (j : ℕ) → length rs ≤ j → entry rs j ≡ 0
entry_past rs j h = get_or_past rs j 0 h

-- the tail of a trimmed list is trimmed, and a trimmed list of a single exponent has it above zero
trimmed_part : (r : ℕ) (t : List ℕ) → length (put_before r t) ≡ suc (length t) → put_before r t ≡ r ∷ t
trimmed_part zero [] h = cc
trimmed_part (suc r) [] h = refl
trimmed_part zero (x ∷ xs) h = refl
trimmed_part (suc r) (x ∷ xs) h = refl

pub IsTrimmed-tail : (r : ℕ) (rs : List ℕ) → IsTrimmed (r ∷ rs) → IsTrimmed rs
IsTrimmed-tail r rs h =
    let lens : length (put_before r (trimmed rs)) ≡ suc (length rs) = ap length h in
    let own : length (put_before r (trimmed rs)) ≤ suc (length (trimmed rs)) = length-put_before r (trimmed rs) in
    let below : length (trimmed rs) ≤ length rs = length-trimmed rs in
    let whole : length (put_before r (trimmed rs)) ≡ suc (length (trimmed rs)) = omega arith in
    let parts : put_before r (trimmed rs) ≡ r ∷ trimmed rs = trimmed_part r (trimmed rs) whole in
    let same : r ∷ trimmed rs ≡ r ∷ rs = sym parts ∙ h in
    cc

-- the last exponent of a trimmed list is not zero
pub entry_last : (rs : List ℕ) (j : ℕ) → IsTrimmed rs → length rs ≡ suc j → entry rs j ≢ 0
entry_last [] j h e = λ z. cc
entry_last (zero ∷ []) zero h e = λ z. cc
entry_last (suc r ∷ []) zero h e = λ z. cc
entry_last (r ∷ []) (suc j) h e = λ z. cc
entry_last (r ∷ x ∷ rs) zero h e = λ z. cc
entry_last (r ∷ x ∷ rs) (suc j) h e = entry_last (x ∷ rs) j (IsTrimmed-tail r (x ∷ rs) h) (omega arith)

-- a list is as long as its last exponent above zero, or longer
pub length_above : (rs : List ℕ) (j : ℕ) → entry rs j ≢ 0 → j < length rs
length_above [] j h = absurd (h refl)
length_above (r ∷ rs) zero h = omega arith
length_above (r ∷ rs) (suc j) h = let more : j < length rs = length_above rs j h in omega arith

-- padding adds only zeros to a shorter list
pub length-padded : (n : ℕ) (rs : List ℕ) → length (padded n rs) ≡ n
length-padded zero rs = refl
length-padded (suc n) [] = ap suc (length-padded n [])
length-padded (suc n) (r ∷ rs) = ap suc (length-padded n rs)

trimmed-padded-nil : (n : ℕ) → trimmed (padded n []) ≡ []
trimmed-padded-nil zero = refl
trimmed-padded-nil (suc n) = ap (put_before 0) (trimmed-padded-nil n)

pub trimmed-padded : (n : ℕ) (rs : List ℕ) → length rs ≤ n → trimmed (padded n rs) ≡ trimmed rs
trimmed-padded zero [] h = refl
trimmed-padded zero (r ∷ rs) h = absurd (omega arith)
trimmed-padded (suc n) [] h = trimmed-padded-nil (suc n)
trimmed-padded (suc n) (r ∷ rs) h = ap (put_before r) (trimmed-padded n rs (omega arith))

-- numbers below a bound give a degree below the bound times a power of two
pub degree_from_bound : (b i : ℕ) (rs : List ℕ) → ((j : ℕ) → entry rs j ≤ b) → degree_from i rs + b * 2 ^ i ≤ b * 2 ^ (i + length rs)
degree_from_bound b i [] h = let same : i + 0 ≡ i = omega arith in rw same (omega arith)
degree_from_bound b i (r ∷ rs) h =
    let rest : degree_from (suc i) rs + b * 2 ^ suc i ≤ b * 2 ^ (suc i + length rs) = degree_from_bound b (suc i) rs (λ j. h (suc j)) in
    let here : r * (2 ^ i - 1) ≤ b * 2 ^ i = mul-le r (2 ^ i - 1) b (2 ^ i) (h zero) (omega arith) in
    let double : b * 2 ^ suc i ≡ b * 2 ^ i + b * 2 ^ i = rw pow-suc (grind arith) in
    let place : suc i + length rs ≡ i + suc (length rs) = omega arith in
    let rest' : degree_from (suc i) rs + b * 2 ^ suc i ≤ b * 2 ^ (i + suc (length rs)) = subst (λ k. degree_from (suc i) rs + b * 2 ^ suc i ≤ b * 2 ^ k) place rest in
    omega arith

-- two lists of one length are equal exactly if they are without the zeros at their ends
pub same_from_trimmed : (rs ss : List ℕ) → length rs ≡ length ss → trimmed rs ≡ trimmed ss → rs ≡ ss
same_from_trimmed rs ss e h = sym (padded-trimmed (length ss) rs e) ∙ ap (padded (length ss)) h ∙ padded-trimmed (length ss) ss refl

-- two tests that hold together are one
pub same_answers : (a b : Bool) → (a ≡ true → b ≡ true) → (b ≡ true → a ≡ true) → a ≡ b
same_answers true b f g = sym (f refl)
same_answers false true f g = g refl
same_answers false false f g = refl

pub pointwise-trimmed : (rs ss : List ℕ) → length rs ≡ length ss → pointwise nat_eq rs ss ≡ pointwise nat_eq (trimmed rs) (trimmed ss)
pointwise-trimmed rs ss e =
    same_answers (bytes_eq rs ss) (bytes_eq (trimmed rs) (trimmed ss))
    (λ h. (bytes_eq-Decides (trimmed rs) (trimmed ss)).1 (ap trimmed ((bytes_eq-Decides rs ss).0 h)))
    (λ h. (bytes_eq-Decides rs ss).1 (same_from_trimmed rs ss e ((bytes_eq-Decides (trimmed rs) (trimmed ss)).0 h)))

-- the search for the last exponent above 0: one place back over a zero, and the end at another number
pub length_back : (rs : List ℕ) (n : ℕ) → length (trimmed rs) ≤ n → entry rs (n - 1) ≡ 0 → length (trimmed rs) ≤ n - 1
length_back rs zero h z = omega arith
length_back rs (suc n) h z =
    elim (cases_eq (length (trimmed rs)) (suc n)) [
      | inl e ↦ absurd (entry_last (trimmed rs) n (IsTrimmed-trimmed rs) e (entry-trimmed rs n ∙ subst (λ k. entry rs k ≡ 0) (let e : suc n - 1 ≡ n = omega arith in e) z))
      | inr d ↦ omega arith
    ]

pub length_reached : (rs : List ℕ) (n : ℕ) → length (trimmed rs) ≤ n → (0 < n → entry rs (n - 1) ≢ 0) → n ≡ length (trimmed rs)
length_reached rs zero h d = omega arith
length_reached rs (suc n) h d =
    let above : n < length (trimmed rs) = length_above (trimmed rs) n (λ z. d (omega arith) (subst (λ k. entry rs k ≡ 0) (let e : n ≡ suc n - 1 = omega arith in e) (sym (entry-trimmed rs n) ∙ z))) in
    omega arith

-- one step of the sum of a degree, at place i of the list
pub degree_from-drop : (rs : List ℕ) (i : ℕ) → i < length rs → degree_from (i + 1) (drop i rs) ≡ entry rs i * (2 ^ (i + 1) - 1) + degree_from (i + 1 + 1) (drop (i + 1) rs)
degree_from-drop rs i h =
    let parts : drop i rs ≡ entry rs i ∷ drop (i + 1) rs = drop_more rs i 0 h in
    let next : suc (i + 1) ≡ i + 1 + 1 = omega arith in
    ap (degree_from (i + 1)) parts ∙ ap (λ k. entry rs i * (2 ^ (i + 1) - 1) + degree_from k (drop (i + 1) rs)) next

-- the degree of eight exponents of 16 bits is below 2^25
pub degree_of_bound : (rs : List ℕ) → length rs ≡ 8 → ((j : ℕ) → entry rs j < 2 ^ 16) → degree_of rs ≤ 2 ^ 25
degree_of_bound rs e h =
    let below : degree_from 1 rs + 2 ^ 16 * 2 ^ 1 ≤ 2 ^ 16 * 2 ^ (1 + length rs) = degree_from_bound (2 ^ 16) 1 rs (λ j. let own : entry rs j < 2 ^ 16 = h j in omega arith) in
    let at : degree_from 1 rs + 2 ^ 16 * 2 ^ 1 ≤ 2 ^ 16 * 2 ^ (1 + 8) = subst (λ n. degree_from 1 rs + 2 ^ 16 * 2 ^ 1 ≤ 2 ^ 16 * 2 ^ (1 + n)) e below in
    omega arith

pub degree_from-append : (i : ℕ) (rs ss : List ℕ) → degree_from i (rs ++ ss) ≡ degree_from i rs + degree_from (i + length rs) ss
degree_from-append i [] ss = let same : i + 0 ≡ i = omega arith in rw same (omega arith)
degree_from-append i (r ∷ rs) ss =
    let place : suc i + length rs ≡ i + suc (length rs) = omega arith in
    let rest : degree_from (suc i) (rs ++ ss) ≡ degree_from (suc i) rs + degree_from (i + suc (length rs)) ss =
    degree_from-append (suc i) rs ss ∙ ap (λ k. degree_from (suc i) rs + degree_from k ss) place
    in
    omega arith

-- the degree with one more exponent, the k-th from 0
pub degree_of-push : (rs : List ℕ) (k r : ℕ) → length rs ≡ k → degree_of (rs ++ r ∷ []) ≡ degree_of rs + r * (2 ^ suc k - 1)
degree_of-push rs k r e =
    let place : 1 + length rs ≡ suc k = omega arith in
    let last : degree_from (suc k) (r ∷ []) ≡ r * (2 ^ suc k - 1) = omega arith in
    degree_from-append 1 rs (r ∷ []) ∙ ap (λ i. degree_of rs + degree_from i (r ∷ [])) place ∙ ap (λ d. degree_of rs + d) last

-- each exponent by itself is within the degree
pub entry_within : (i : ℕ) (rs : List ℕ) (j : ℕ) → entry rs j * (2 ^ (i + j) - 1) ≤ degree_from i rs
entry_within i [] j = omega arith
entry_within i (r ∷ rs) zero = let same : i + 0 ≡ i = omega arith in rw same (omega arith)
entry_within i (r ∷ rs) (suc j) =
    let place : suc i + j ≡ i + suc j = omega arith in
    let rest : entry rs j * (2 ^ (i + suc j) - 1) ≤ degree_from (suc i) rs = subst (λ k. entry rs j * (2 ^ k - 1) ≤ degree_from (suc i) rs) place (entry_within (suc i) rs j) in
    omega arith

pub below_power : (n : ℕ) → n < 2 ^ n
below_power zero = omega arith
below_power (suc n) = let double : 2 ^ suc n ≡ 2 ^ n * 2 = pow-suc 2 n in omega (arith, below_power n)

positive : (n : ℕ) → n ≢ 0 → 0 < n
positive zero h = absurd (h refl)
positive (suc n) h = omega arith

-- a list without zeros at its end is no longer than its degree
pub length_within : (rs : List ℕ) → IsTrimmed rs → length rs ≤ degree_of rs
length_within rs h = by (length rs) refl
  where
    by : (n : ℕ) → length rs ≡ n → n ≤ degree_of rs
    by zero e = omega arith
    by (suc j) e =
        let last : 0 < entry rs j = positive (entry rs j) (entry_last rs j h e) in
        let part : entry rs j * (2 ^ (1 + j) - 1) ≤ degree_from 1 rs = entry_within 1 rs j in
        let power : 1 + j < 2 ^ (1 + j) = below_power (1 + j) in
        let least : 1 * (2 ^ (1 + j) - 1) ≤ entry rs j * (2 ^ (1 + j) - 1) = mul-le 1 (2 ^ (1 + j) - 1) (entry rs j) (2 ^ (1 + j) - 1) last (omega arith) in
        omega arith

-- Sq() is the one basis element of degree 0
pub of_degree_zero : (rs : List ℕ) → IsTrimmed rs → degree_of rs ≡ 0 → rs ≡ []
of_degree_zero rs h e = nil_from_length rs (let few = length_within rs h in omega arith)

-- zeros at the end may be cut off
pub trimmed-zeros : (xs : List ℕ) → ((i : ℕ) → entry xs i ≡ 0) → trimmed xs ≡ []
trimmed-zeros [] z = refl
trimmed-zeros (x ∷ xs) z = let here : x ≡ 0 = z 0 in rw (trimmed-zeros xs (λ i. z (suc i)), here) refl

-- lists with the same exponents, but for zeros, are one when trimmed
pub trimmed-same : (xs ys : List ℕ) → ((i : ℕ) → entry xs i ≡ entry ys i) → trimmed xs ≡ trimmed ys
trimmed-same [] [] h = refl
trimmed-same [] (y ∷ ys) h = sym (trimmed-zeros (y ∷ ys) (λ i. sym (h i)))
trimmed-same (x ∷ xs) [] h = trimmed-zeros (x ∷ xs) h
trimmed-same (x ∷ xs) (y ∷ ys) h = let here : x ≡ y = h 0 in let rest = trimmed-same xs ys (λ i. h (suc i)) in cc
