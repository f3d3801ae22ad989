-- The value of a monomial, one square more at its front.
use Rattle.std.specs.List.{sum}
use Rattle.std.proofs.Common.{◌≡◌, ℕ, ◌+◌, ◌<◌, ◌≤◌, pos, Bool, List, length, drop, sym, ap, ◌∙◌, arith}
use Rattle.std.proofs.lemmas.List.{at_drop_more}
use Rattle.std.proofs.lemmas.List.Sums.{sum_by-drop_more, sum_by-take-drop}
use Rattle.milnor_basis.specs.Exponents.{entry}
use Rattle.milnor_product.specs.Times.{times_at}
use Rattle.adem_laws.specs.Adem.{square}
use Rattle.adem_laws.specs.Admissible.{value}

value_more : (m : List ℕ) (i : ℕ) → i < length m → value (drop i m) ≡ times_at (square (entry m i)) (pos (sum (drop (i + 1) m))) (value (drop (i + 1) m))
value_more m i l = at_drop_more value m i 0 l

sum_more : (m : List ℕ) (i : ℕ) → i < length m → sum (drop i m) ≡ entry m i + sum (drop (i + 1) m)
sum_more m i l = sum_by-drop_more (λ n. n) m i 0 l

pub sum_within : (m : List ℕ) (i : ℕ) → sum (drop i m) ≤ sum m
sum_within m i = omega (arith, sum_by-take-drop (λ n. n) m i)

pub product_more : (m : List ℕ) (i j n : ℕ) (product : List Bool) → i + 1 ≡ j → i < length m → product ≡ value (drop j m) → n ≡ sum (drop j m) → times_at (square (entry m i)) (pos n) product ≡ value (drop i m)
product_more m i j n product e l is degree =
    ap (times_at (square (entry m i)) (pos n)) (is ∙ ap (λ k. value (drop k m)) (sym e))
    ∙ ap (λ k. times_at (square (entry m i)) (pos k) (value (drop (i + 1) m))) (degree ∙ ap (λ k. sum (drop k m)) (sym e))
    ∙ sym (value_more m i l)

pub degree_more : (m : List ℕ) (i j n : ℕ) → i + 1 ≡ j → i < length m → n ≡ sum (drop j m) → n + entry m i ≡ sum (drop i m)
degree_more m i j n e l degree =
    let rest : n ≡ sum (drop (i + 1) m) = degree ∙ ap (λ k. sum (drop k m)) (sym e) in
    omega (arith, sum_more m i l, rest)
