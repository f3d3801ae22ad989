-- The number n of an action Sq^n has at most three digits.
use Rattle.std.specs.Prelude.{◌≡◌, ℕ, ◌≤◌, ◌&&◌, ◌==◌, nat_le, Bool, true, false, cond, List, [], ◌∷◌, length, Option, Some, None, IfSome, option_map, option_and_then}
use Rattle.std.specs.List.{list_all}
use Rattle.std.proofs.Common.{refl, sym, ◌∙◌, arith}
use Rattle.std.proofs.lemmas.Bool.{false≢true}
use Rattle.std.proofs.lemmas.Bool.Decides.{nat_tests}
use Rattle.module_json.specs.Actions.{Written, is_digit, number_after, number_of, square_of, words, pieces, one_name, acting, sum_names, sides, action_of}

digit_small : (b : ℕ) → is_digit b ≡ true → b ≤ 57
digit_small b h = grind (arith, nat_tests)

both : (a b : Bool) → (a && b) ≡ true → (a ≡ true) × (b ≡ true)
both true b h = (refl, h)
both false b h = absurd (cc)

if_small : (b : Bool) (n : ℕ) → (b ≡ true → n ≤ 999) → IfSome (cond b (Some n) None) (λ k. k ≤ 999)
if_small true n h = h refl
if_small false n h = tt

number_small : (digits : List ℕ) → IfSome (number_of digits) (λ n. n ≤ 999)
number_small [] = tt
number_small (a ∷ []) = if_small (list_all is_digit (a ∷ [])) (number_after 0 (a ∷ [])) (λ h. let p : a ≤ 57 = digit_small a (both (is_digit a) true h).0 in omega arith)
number_small (a ∷ b ∷ []) =
    if_small (list_all is_digit (a ∷ b ∷ [])) (number_after 0 (a ∷ b ∷ [])) (λ h.
    let p : a ≤ 57 = digit_small a (both (is_digit a) (list_all is_digit (b ∷ [])) h).0 in
    let q : b ≤ 57 = digit_small b (both (is_digit b) true (both (is_digit a) (list_all is_digit (b ∷ [])) h).1).0 in
    omega arith)
number_small (a ∷ b ∷ c ∷ []) =
    if_small (list_all is_digit (a ∷ b ∷ c ∷ [])) (number_after 0 (a ∷ b ∷ c ∷ [])) (λ h.
    let two = both (is_digit a) (list_all is_digit (b ∷ c ∷ [])) h in
    let one = both (is_digit b) (list_all is_digit (c ∷ [])) two.1 in
    let p : a ≤ 57 = digit_small a two.0 in
    let q : b ≤ 57 = digit_small b one.0 in
    let r : c ≤ 57 = digit_small c (both (is_digit c) true one.1).0 in
    omega arith)
number_small (a ∷ b ∷ c ∷ d ∷ rest) =
    let digits = a ∷ b ∷ c ∷ d ∷ rest in
    let long : nat_le (length digits) 3 ≡ false = grind (arith, nat_tests) in
    if_small (nat_le 1 (length digits) && nat_le (length digits) 3 && list_all is_digit digits) (number_after 0 digits) (λ h. absurd (false≢true (sym long ∙ (both (nat_le 1 (length digits)) (nat_le (length digits) 3) (both (nat_le 1 (length digits) && nat_le (length digits) 3) (list_all is_digit digits) h).0).1)))

if_square : (b : Bool) (digits : List ℕ) → IfSome (cond b (number_of digits) None) (λ n. n ≤ 999)
if_square true digits = number_small digits
if_square false digits = tt

square_small : (word : List ℕ) → IfSome (square_of word) (λ n. n ≤ 999)
square_small [] = tt
square_small (s ∷ []) = tt
square_small (s ∷ q ∷ digits) = if_square (s == 83 && q == 113) digits

-- a square and a name, and with a sum an action
abbrev paired : Option (List ℕ) → Option ℕ → Option (ℕ × List ℕ)
paired o p = option_and_then (λ name. option_map (λ n. (n, name)) p) o

abbrev summed : Option (ℕ × List ℕ) → Option (List (List ℕ)) → Option Written
summed o p = option_and_then (λ a. option_map (λ s. record { n = a.0; name = a.1; sum = s }) p) o

paired_small : (o : Option (List ℕ)) (p : Option ℕ) → IfSome p (λ n. n ≤ 999) → IfSome (paired o p) (λ a. a.0 ≤ 999)
paired_small None p h = tt
paired_small (Some name) None h = tt
paired_small (Some name) (Some n) h = h

summed_small : (o : Option (ℕ × List ℕ)) (p : Option (List (List ℕ))) → IfSome o (λ a. a.0 ≤ 999) → IfSome (summed o p) (λ w. w.n ≤ 999)
summed_small None p h = tt
summed_small (Some a) None h = tt
summed_small (Some a) (Some s) h = h

acting_small : (ws : List (List ℕ)) → IfSome (acting ws) (λ a. a.0 ≤ 999)
acting_small [] = tt
acting_small (w ∷ ws) = paired_small (one_name ws) (square_of w) (square_small w)

sides_small : (ps : List (List ℕ)) → IfSome (sides ps) (λ w. w.n ≤ 999)
sides_small [] = tt
sides_small (left ∷ []) = tt
sides_small (left ∷ right ∷ []) = summed_small (acting (words left)) (sum_names right) (acting_small (words left))
sides_small (left ∷ right ∷ more ∷ ps) = tt

pub action_small : (text : List ℕ) → IfSome (action_of text) (λ w. w.n ≤ 999)
action_small text = sides_small (pieces 61 text)
