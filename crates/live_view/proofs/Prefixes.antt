-- Beginnings of one list.
use Rattle.std.proofs.Common.{◌≡◌, ℕ, ◌≤◌, ◌<◌, List, [], ◌∷◌, length, Some, slice_get, refl, ap, sym, ◌∙◌, arith, length-append}
use Rattle.finite_module.proofs.Elements.{slice_get-append_left}
use mathlib.Core.List.{IsPrefix}
use Rattle.std.specs.Prelude.{MatchBool, nat_lt, Bool, true, false}
use Rattle.std.proofs.lemmas.Bool.Decides.{nat_tests}

-- of two beginnings of one list the shorter begins the longer
pub prefix_shorter : {A : Type 0} (xs ys zs : List A) → IsPrefix xs zs → IsPrefix ys zs → length xs ≤ length ys → IsPrefix xs ys
prefix_shorter [] ys zs p q le = (ys, refl)
prefix_shorter (x ∷ xs) [] zs p q le = absurd (omega arith)
prefix_shorter (x ∷ xs) (y ∷ ys) [] p q le = absurd (cc (p.1))
prefix_shorter (x ∷ xs) (y ∷ ys) (z ∷ zs) p q le =
    let heads : x ≡ y = cc (p.1, q.1) in
    let rest = prefix_shorter xs ys zs (p.0, cc (p.1)) (q.0, cc (q.1)) (omega arith) in
    (rest.0, cc (heads, rest.1))

-- a beginning as long as the whole is the whole
pub prefix_whole : {A : Type 0} (xs ys : List A) → IsPrefix xs ys → length ys ≤ length xs → xs ≡ ys
prefix_whole [] [] p le = refl
prefix_whole [] (y ∷ ys) p le = absurd (omega arith)
prefix_whole (x ∷ xs) [] p le = absurd (cc (p.1))
prefix_whole (x ∷ xs) (y ∷ ys) p le = let rest = prefix_whole xs ys (p.0, cc (p.1)) (omega arith) in cc (p.1, rest)

pub prefix_length : {A : Type 0} (xs ys : List A) → IsPrefix xs ys → length xs ≤ length ys
prefix_length xs ys p = omega (arith, sym (ap length p.1) ∙ length-append xs p.0)

-- of two beginnings of one list, by numbers that are their lengths, the shorter begins the longer
pub shorter_begins : {A : Type 0} (xs ys zs : List A) (m n : ℕ) → m ≡ length xs → n ≡ length ys → IsPrefix xs zs → IsPrefix ys zs → MatchBool (nat_lt m n) (IsPrefix xs ys) (IsPrefix ys xs)
shorter_begins {A} xs ys zs m n a b p q = by (nat_lt m n) refl
  where
    by : (t : Bool) → nat_lt m n ≡ t → MatchBool t (IsPrefix xs ys) (IsPrefix ys xs)
    by true is = prefix_shorter xs ys zs p q (let less : m < n = grind (arith, nat_tests) in omega arith)
    by false is = prefix_shorter ys xs zs q p (let more : n ≤ m = grind (arith, nat_tests) in omega arith)

-- what stands in the whole, and where the beginning has something, stands in the beginning
pub prefix_has : {A : Type 0} (xs ys : List A) (k : ℕ) (x : A) → IsPrefix xs ys → k < length xs → slice_get ys k ≡ Some x → slice_get xs k ≡ Some x
prefix_has {A} xs ys k x p less at = sym (ap (λ (l : List A). slice_get l k) (sym p.1) ∙ slice_get-append_left xs p.0 k less) ∙ at
