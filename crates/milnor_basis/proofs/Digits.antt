-- The numbers that share no binary digit with a given one, in order.
use Rattle.std.specs.Prelude.{bit_and, ◌*◌, ◌%◌, ◌/◌, ◌-◌, ◌≢◌}
use Rattle.std.proofs.Common.{◌≡◌, ℕ, zero, suc, ◌+◌, ◌<◌, ◌≤◌, refl, ap, sym, subst, ◌∙◌, arith}
use Rattle.std.proofs.Math.Nat.{mod-lt}
use Rattle.std.proofs.lemmas.Nat.{and_or_self, or_disjoint, div-add-mod'}
use Rattle.milnor_basis.proofs.Kummer.{and-digits}

-- a sum of numbers that share no digit has the digits of both
and-sum : (x d : ℕ) → bit_and x d ≡ 0 → bit_and (x + d) d ≡ d
and-sum x d h = ap (λ m. bit_and m d) (sym (or_disjoint x d h)) ∙ and_or_self d x

-- Above x, the first number that shares no digit with d is x + d + 1 without the digits of d: the lowest digit, and those above it.
by_digits : (d x v d0 x0 v0 : ℕ) → d0 < 2 → x0 < 2 → v0 < 2 → bit_and x d * 2 + bit_and x0 d0 ≡ 0 → bit_and v d * 2 + bit_and v0 d0 ≡ 0 → x * 2 + x0 < v * 2 + v0
    → (x < v → x + d + 1 ≤ v + bit_and (x + d + 1) d)
    → (x * 2 + x0) + (d * 2 + d0) + 1 ≤ (v * 2 + v0) + bit_and ((x * 2 + x0) + (d * 2 + d0) + 1) (d * 2 + d0)
by_digits d x v zero zero v0 p q r ex ev l ih =
    let sum : bit_and ((x * 2 + 0) + (d * 2 + 0) + 1) (d * 2 + 0) ≡ bit_and (x + d) d * 2 + 0 = and-digits ((x * 2 + 0) + (d * 2 + 0) + 1) (d * 2 + 0) (x + d) d 1 0 (omega arith) (omega arith) (omega arith) refl in
    let both : bit_and (x + d) d ≡ d = and-sum x d (omega arith) in
    omega arith
by_digits d x v zero (suc zero) v0 p q r ex ev l ih =
    let sum : bit_and ((x * 2 + 1) + (d * 2 + 0) + 1) (d * 2 + 0) ≡ bit_and (x + d + 1) d * 2 + 0 = and-digits ((x * 2 + 1) + (d * 2 + 0) + 1) (d * 2 + 0) (x + d + 1) d 0 0 (omega arith) (omega arith) (omega arith) refl in
    let above : x < v = omega arith in
    omega (arith, ih above)
by_digits d x v (suc zero) zero zero p q r ex ev l ih =
    let sum : bit_and ((x * 2 + 0) + (d * 2 + 1) + 1) (d * 2 + 1) ≡ bit_and (x + d + 1) d * 2 + 0 = and-digits ((x * 2 + 0) + (d * 2 + 1) + 1) (d * 2 + 1) (x + d + 1) d 0 1 (omega arith) (omega arith) (omega arith) refl in
    let above : x < v = omega arith in
    omega (arith, ih above)
by_digits d x v (suc zero) (suc zero) v0 p q r ex ev l ih = absurd (omega arith)
by_digits d x v (suc zero) zero (suc zero) p q r ex ev l ih = absurd (omega arith)
by_digits d x v (suc zero) zero (suc (suc v0)) p q r ex ev l ih = absurd (omega arith)
by_digits d x v (suc (suc d0)) x0 v0 p q r ex ev l ih = absurd (omega arith)
by_digits d x v zero (suc (suc x0)) v0 p q r ex ev l ih = absurd (omega arith)
by_digits d x v (suc zero) (suc (suc x0)) v0 p q r ex ev l ih = absurd (omega arith)

next_below : (m d x v : ℕ) → d ≤ m → bit_and x d ≡ 0 → bit_and v d ≡ 0 → x < v → x + d + 1 ≤ v + bit_and (x + d + 1) d
next_below zero d x v h ex ev l = omega arith
next_below (suc m) d x v h ex ev l =
    let dd : d ≡ d / 2 * 2 + d % 2 = sym (div-add-mod' d 2) in
    let dx : x ≡ x / 2 * 2 + x % 2 = sym (div-add-mod' x 2) in
    let dv : v ≡ v / 2 * 2 + v % 2 = sym (div-add-mod' v 2) in
    let ad : d % 2 < 2 = mod-lt d (omega arith) in
    let ax : x % 2 < 2 = mod-lt x (omega arith) in
    let av : v % 2 < 2 = mod-lt v (omega arith) in
    let parts_x : bit_and (x / 2) (d / 2) * 2 + bit_and (x % 2) (d % 2) ≡ 0 = sym (and-digits x d (x / 2) (d / 2) (x % 2) (d % 2) ax ad dx dd) ∙ ex in
    let parts_v : bit_and (v / 2) (d / 2) * 2 + bit_and (v % 2) (d % 2) ≡ 0 = sym (and-digits v d (v / 2) (d / 2) (v % 2) (d % 2) av ad dv dd) ∙ ev in
    let made : (x / 2 * 2 + x % 2) + (d / 2 * 2 + d % 2) + 1 ≤ (v / 2 * 2 + v % 2) + bit_and ((x / 2 * 2 + x % 2) + (d / 2 * 2 + d % 2) + 1) (d / 2 * 2 + d % 2) =
    by_digits (d / 2) (x / 2) (v / 2) (d % 2) (x % 2) (v % 2) ad ax av parts_x parts_v (omega arith)
    (λ a. next_below m (d / 2) (x / 2) (v / 2) (omega arith) (omega arith) (omega arith) a)
    in
    let at_d : (x / 2 * 2 + x % 2) + d + 1 ≤ (v / 2 * 2 + v % 2) + bit_and ((x / 2 * 2 + x % 2) + d + 1) d = subst (λ b. (x / 2 * 2 + x % 2) + b + 1 ≤ (v / 2 * 2 + v % 2) + bit_and ((x / 2 * 2 + x % 2) + b + 1) b) (sym dd) made in
    let at_x : x + d + 1 ≤ (v / 2 * 2 + v % 2) + bit_and (x + d + 1) d = subst (λ y. y + d + 1 ≤ (v / 2 * 2 + v % 2) + bit_and (y + d + 1) d) (sym dx) at_d in
    omega arith

-- each number in between shares a digit with d
pub skipped_shares : (d x v : ℕ) → bit_and x d ≡ 0 → x < v → v < x + d + 1 - bit_and (x + d + 1) d → bit_and v d ≢ 0
skipped_shares d x v h l m e = omega (arith, next_below d d x v (omega arith) h e l)
