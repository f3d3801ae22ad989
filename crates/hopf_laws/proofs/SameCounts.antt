-- Two lists in which each element stands equally often, mod 2, have the same sums.
use Rattle.std.proofs.Common.{◌≡◌, ℕ, zero, suc, ◌≤◌, Bool, true, false, not, cond, ◌&&◌, List, [], ◌∷◌, ◌++◌, length, refl, sym, ◌∙◌, ap, arith}
use Rattle.std.specs.List.{filter}
use Rattle.std.proofs.Math.Bool as Booleans
use Rattle.f2_vec.specs.Vectors.{plus}
use Rattle.milnor_basis.specs.Product.{odd_by}
use Rattle.milnor_basis.proofs.Parity.{odd_by-append}
use Rattle.milnor_laws.proofs.SumsModTwo.{plus-swap}
use Rattle.f2_vec.proofs.Sums.{plus-self, same_from_plus}

module _ {X : Type 0} (eq : X → X → Bool) (sound : (x y : X) → eq x y ≡ true → x ≡ y) (same : (x : X) → eq x x ≡ true) where
  abbrev others : X → List X → List X
  others x xs = filter (λ y. not (eq x y)) xs

  parted : (f : X → Bool) (x : X) (xs : List X) → odd_by f xs ≡ plus (f x && odd_by (eq x) xs) (odd_by f (others x xs))
  parted f x [] = sym (ap (λ b. plus b false) (Booleans.and-false (f x)))
  parted f x (y ∷ ys) = at (eq x y) refl (parted f x ys)
    where
      taken : (a e o : Bool) → plus a (plus (a && e) o) ≡ plus (a && not e) o
      taken true true true = refl
      taken true true false = refl
      taken true false o = refl
      taken false e o = refl

      at : (b : Bool) → eq x y ≡ b → odd_by f ys ≡ plus (f x && odd_by (eq x) ys) (odd_by f (others x ys))
          → plus (f y) (odd_by f ys) ≡ plus (f x && plus b (odd_by (eq x) ys)) (odd_by f (cond (not b) (y ∷ others x ys) (others x ys)))
      at true e ih = ap (λ z. plus (f z) (odd_by f ys)) (sym (sound x y e)) ∙ ap (plus (f x)) ih ∙ taken (f x) (odd_by (eq x) ys) (odd_by f (others x ys))
      at false e ih = ap (plus (f y)) ih ∙ plus-swap (f y) (f x && odd_by (eq x) ys) (odd_by f (others x ys))

  length-others : (x : X) (xs : List X) → length (others x xs) ≤ length xs
  length-others x [] = omega arith
  length-others x (y ∷ ys) = at (not (eq x y)) (length-others x ys)
    where
      at : (b : Bool) → length (others x ys) ≤ length ys → length (cond b (y ∷ others x ys) (others x ys)) ≤ length (y ∷ ys)
      at true l = omega arith
      at false l = omega arith

  vanishes : (f : X → Bool) (n : ℕ) (xs : List X) → length xs ≤ n → ((x : X) → odd_by (eq x) xs ≡ false) → odd_by f xs ≡ false
  vanishes f n [] l h = refl
  vanishes f zero (x ∷ xs) l h = absurd (omega arith)
  vanishes f (suc n) (x ∷ xs) l h =
      let rest : List X = others x (x ∷ xs) in
      let here : others x (x ∷ xs) ≡ others x xs = ap (λ b. cond (not b) (x ∷ others x xs) (others x xs)) (same x) in
      let fewer : length rest ≤ n = omega (arith, length-others x xs, ap length here) in
      let none : (g : X → Bool) → odd_by g (x ∷ xs) ≡ odd_by g rest = λ g. parted g x (x ∷ xs) ∙ ap (λ b. plus (g x && b) (odd_by g rest)) (h x) ∙ ap (λ b. plus b (odd_by g rest)) (Booleans.and-false (g x)) in
      none f ∙ vanishes f n rest fewer (λ y. sym (none (eq y)) ∙ h y)

  pub same_counts : (f : X → Bool) (xs ys : List X) → ((x : X) → odd_by (eq x) xs ≡ odd_by (eq x) ys) → odd_by f xs ≡ odd_by f ys
  same_counts f xs ys h =
      same_from_plus (odd_by f xs) (odd_by f ys)
      (sym (odd_by-append f xs ys)
      ∙ vanishes f (length (xs ++ ys)) (xs ++ ys) (omega arith)
      (λ x. odd_by-append (eq x) xs ys ∙ ap (λ b. plus b (odd_by (eq x) ys)) (h x) ∙ plus-self (odd_by (eq x) ys)))
