-- A list in the order of degree: its elements, their sums, and that it rises.
use Rattle.std.specs.List.{All, AllPairs}
use Rattle.std.proofs.Common.{◌≡◌, ℤ, pos, ◌-ℤ◌, ◌≤ℤ◌, ◌<ℤ◌, int_le, Bool, true, false, if◌then◌else◌, List, [], ◌∷◌, ◌++◌, map, refl, ap, sym, ◌∙◌, arith}
use Rattle.std.proofs.lemmas.Int.{ints}
use Rattle.std.proofs.lemmas.List.Elements.{All-append, All-cons, All-head, All-map, All-tail}
use Rattle.std.proofs.lemmas.List.Kept.{AllPairs-cons}
use Rattle.f2_vec.specs.Vectors.{plus}
use Rattle.milnor_basis.specs.Product.{odd_by}
use Rattle.milnor_laws.proofs.SumsModTwo.{plus-swap}
use Rattle.module_spec.specs.Sorting.{inserted, sorted_by}
use Rattle.module_spec.proofs.Sorting.{AllPairs-tail, AllPairs-head, AllPairs-nil}

pub AllPairs-append : {X : Type 0} → (R : X → X → Type 0) (xs ys : List X) → AllPairs R xs → AllPairs R ys → All (λ x. All (R x) ys) xs → AllPairs R (xs ++ ys)
AllPairs-append R [] ys h g k = g
AllPairs-append R (x ∷ xs) ys h g k =
    AllPairs-cons R x (xs ++ ys) (All-append (R x) xs ys (AllPairs-head R x xs h) (All-head (λ z. All (R z) ys) x xs k)) (AllPairs-append R xs ys (AllPairs-tail R x xs h) g (All-tail (λ z. All (R z) ys) x xs k))

pub AllPairs-map : {X Y : Type 0} → (R : Y → Y → Type 0) (f : X → Y) (xs : List X) → AllPairs (λ a b. R (f a) (f b)) xs → AllPairs R (map f xs)
AllPairs-map R f [] h = AllPairs-nil R
AllPairs-map R f (x ∷ xs) h = AllPairs-cons R (f x) (map f xs) (All-map (R (f x)) f xs (AllPairs-head (λ a b. R (f a) (f b)) x xs h)) (AllPairs-map R f xs (AllPairs-tail (λ a b. R (f a) (f b)) x xs h))

module _ {X : Type 0} (degree : X → ℤ) where
  odd_by-inserted : (f : X → Bool) (x : X) (ys : List X) → odd_by f (inserted degree x ys) ≡ plus (f x) (odd_by f ys)
  odd_by-inserted f x [] = refl
  odd_by-inserted f x (y ∷ ys) = at (int_le (degree x) (degree y)) (odd_by-inserted f x ys)
    where
      at : (b : Bool) → odd_by f (inserted degree x ys) ≡ plus (f x) (odd_by f ys) → odd_by f (if b then x ∷ y ∷ ys else y ∷ inserted degree x ys) ≡ plus (f x) (plus (f y) (odd_by f ys))
      at true e = refl
      at false e = ap (plus (f y)) e ∙ plus-swap (f y) (f x) (odd_by f ys)

  pub odd_by-sorted_by : (f : X → Bool) (xs : List X) → odd_by f (sorted_by degree xs) ≡ odd_by f xs
  odd_by-sorted_by f [] = refl
  odd_by-sorted_by f (x ∷ xs) = odd_by-inserted f x (sorted_by degree xs) ∙ ap (plus (f x)) (odd_by-sorted_by f xs)

  All-inserted : (P : X → Type 0) (x : X) (ys : List X) → P x → All P ys → All P (inserted degree x ys)
  All-inserted P x [] p h = All-cons P x [] p h
  All-inserted P x (y ∷ ys) p h = at (int_le (degree x) (degree y)) (All-inserted P x ys p (All-tail P y ys h))
    where
      at : (b : Bool) → All P (inserted degree x ys) → All P (if b then x ∷ y ∷ ys else y ∷ inserted degree x ys)
      at true g = All-cons P x (y ∷ ys) p h
      at false g = All-cons P y (inserted degree x ys) (All-head P y ys h) g

  pub All-sorted_by : (P : X → Type 0) (xs : List X) → All P xs → All P (sorted_by degree xs)
  All-sorted_by P [] h = h
  All-sorted_by P (x ∷ xs) h = All-inserted P x (sorted_by degree xs) (All-head P x xs h) (All-sorted_by P xs (All-tail P x xs h))

  -- pairs that stand both ways
  AllPairs-inserted : (R : X → X → Type 0) → ((a b : X) → R a b → R b a) → (x : X) (ys : List X) → All (R x) ys → AllPairs R ys → AllPairs R (inserted degree x ys)
  AllPairs-inserted R turn x [] h g = AllPairs-cons R x [] h g
  AllPairs-inserted R turn x (y ∷ ys) h g =
      at (int_le (degree x) (degree y)) (AllPairs-inserted R turn x ys (All-tail (R x) y ys h) (AllPairs-tail R y ys g))
    where
      at : (b : Bool) → AllPairs R (inserted degree x ys) → AllPairs R (if b then x ∷ y ∷ ys else y ∷ inserted degree x ys)
      at true k = AllPairs-cons R x (y ∷ ys) h g
      at false k = AllPairs-cons R y (inserted degree x ys) (All-inserted (R y) x ys (turn x y (All-head (R x) y ys h)) (AllPairs-head R y ys g)) k

  pub AllPairs-sorted_by : (R : X → X → Type 0) → ((a b : X) → R a b → R b a) → (xs : List X) → AllPairs R xs → AllPairs R (sorted_by degree xs)
  AllPairs-sorted_by R turn [] h = h
  AllPairs-sorted_by R turn (x ∷ xs) h = AllPairs-inserted R turn x (sorted_by degree xs) (All-sorted_by (R x) xs (AllPairs-head R x xs h)) (AllPairs-sorted_by R turn xs (AllPairs-tail R x xs h))

  inserted-yes : (x z : X) (zs : List X) → int_le (degree x) (degree z) ≡ true → inserted degree x (z ∷ zs) ≡ x ∷ z ∷ zs
  inserted-yes x z zs e = ap (λ b. if b then x ∷ z ∷ zs else z ∷ inserted degree x zs) e

  inserted-no : (x z : X) (zs : List X) → int_le (degree x) (degree z) ≡ false → inserted degree x (z ∷ zs) ≡ z ∷ inserted degree x zs
  inserted-no x z zs e = ap (λ b. if b then x ∷ z ∷ zs else z ∷ inserted degree x zs) e

  -- elements of different degrees are put in in either order
  inserted-swap : (x y : X) (zs : List X) → degree x <ℤ degree y → inserted degree x (inserted degree y zs) ≡ inserted degree y (inserted degree x zs)
  inserted-swap x y [] l =
      let e : int_le (degree x) (degree y) ≡ true = grind (arith, ints) in let f : int_le (degree y) (degree x) ≡ false = grind (arith, ints) in
      inserted-yes x y [] e ∙ sym (inserted-no y x [] f)
  inserted-swap x y (z ∷ zs) l = at (int_le (degree x) (degree z)) (int_le (degree y) (degree z)) refl refl (inserted-swap x y zs l)
    where
      xy : int_le (degree x) (degree y) ≡ true
      xy = grind (arith, ints)

      yx : int_le (degree y) (degree x) ≡ false
      yx = grind (arith, ints)

      at : (a b : Bool) → int_le (degree x) (degree z) ≡ a → int_le (degree y) (degree z) ≡ b → inserted degree x (inserted degree y zs) ≡ inserted degree y (inserted degree x zs)
          → inserted degree x (inserted degree y (z ∷ zs)) ≡ inserted degree y (inserted degree x (z ∷ zs))
      at true true e f ih = ap (inserted degree x) (inserted-yes y z zs f) ∙ inserted-yes x y (z ∷ zs) xy ∙ sym (ap (inserted degree y) (inserted-yes x z zs e) ∙ inserted-no y x (z ∷ zs) yx ∙ ap (λ w. x ∷ w) (inserted-yes y z zs f))
      at true false e f ih = ap (inserted degree x) (inserted-no y z zs f) ∙ inserted-yes x z (inserted degree y zs) e ∙ sym (ap (inserted degree y) (inserted-yes x z zs e) ∙ inserted-no y x (z ∷ zs) yx ∙ ap (λ w. x ∷ w) (inserted-no y z zs f))
      at false true e f ih = let no : ⊥ = grind (arith, ints) in absurd no
      at false false e f ih = ap (inserted degree x) (inserted-no y z zs f) ∙ inserted-no x z (inserted degree y zs) e ∙ ap (λ w. z ∷ w) ih ∙ sym (ap (inserted degree y) (inserted-no x z zs e) ∙ inserted-no y z (inserted degree x zs) f)

-- the order of the negated degrees, put in order again
module _ {X : Type 0} (degree : X → ℤ) where
  abbrev negated : X → ℤ
  negated x = pos 0 -ℤ degree x

  again-inserted : (x : X) (ys : List X) → sorted_by degree (inserted negated x ys) ≡ inserted degree x (sorted_by degree ys)
  again-inserted x [] = refl
  again-inserted x (y ∷ ys) = at (int_le (negated x) (negated y)) refl (again-inserted x ys)
    where
      at : (b : Bool) → int_le (negated x) (negated y) ≡ b → sorted_by degree (inserted negated x ys) ≡ inserted degree x (sorted_by degree ys)
          → sorted_by degree (if b then x ∷ y ∷ ys else y ∷ inserted negated x ys) ≡ inserted degree x (inserted degree y (sorted_by degree ys))
      at true e ih = refl
      at false e ih = let l : degree x <ℤ degree y = grind (arith, ints) in ap (inserted degree y) ih ∙ sym (inserted-swap degree x y (sorted_by degree ys) l)

  pub again : (xs : List X) → sorted_by degree (sorted_by negated xs) ≡ sorted_by degree xs
  again [] = refl
  again (x ∷ xs) = again-inserted x (sorted_by negated xs) ∙ ap (inserted degree x) (again xs)

-- degrees that agree on a list, and those of images
pub sorted_by-same : {X : Type 0} → (f g : X → ℤ) (xs : List X) → All (λ x. f x ≡ g x) xs → sorted_by f xs ≡ sorted_by g xs
sorted_by-same f g [] h = refl
sorted_by-same {X = X} f g (x ∷ xs) h =
    ap (inserted f x) (sorted_by-same f g xs (All-tail (λ z. f z ≡ g z) x xs h))
    ∙ inserted-same x (sorted_by g xs) (All-head (λ z. f z ≡ g z) x xs h) (All-sorted_by g (λ z. f z ≡ g z) xs (All-tail (λ z. f z ≡ g z) x xs h))
  where
    inserted-same : (x : X) (ys : List X) → f x ≡ g x → All (λ z. f z ≡ g z) ys → inserted f x ys ≡ inserted g x ys
    inserted-same x [] e h = refl
    inserted-same x (y ∷ ys) e h =
        ap (λ d. if int_le d (f y) then x ∷ y ∷ ys else y ∷ inserted f x ys) e
        ∙ ap (λ d. if int_le (g x) d then x ∷ y ∷ ys else y ∷ inserted f x ys) (All-head (λ z. f z ≡ g z) y ys h)
        ∙ ap (λ zs. if int_le (g x) (g y) then x ∷ y ∷ ys else y ∷ zs) (inserted-same x ys e (All-tail (λ z. f z ≡ g z) y ys h))

pub sorted_by-map : {X Y : Type 0} → (degree : Y → ℤ) (f : X → Y) (xs : List X) → map f (sorted_by (λ x. degree (f x)) xs) ≡ sorted_by degree (map f xs)
sorted_by-map degree f [] = refl
sorted_by-map {X = X} degree f (x ∷ xs) = inserted-map x (sorted_by (λ z. degree (f z)) xs) ∙ ap (inserted degree (f x)) (sorted_by-map degree f xs)
  where
    inserted-map : (x : X) (ys : List X) → map f (inserted (λ z. degree (f z)) x ys) ≡ inserted degree (f x) (map f ys)
    inserted-map x [] = refl
    inserted-map x (y ∷ ys) = at (int_le (degree (f x)) (degree (f y))) (inserted-map x ys)
      where
        at : (b : Bool) → map f (inserted (λ z. degree (f z)) x ys) ≡ inserted degree (f x) (map f ys) → map f (if b then x ∷ y ∷ ys else y ∷ inserted (λ z. degree (f z)) x ys) ≡ (if b then f x ∷ f y ∷ map f ys else f y ∷ inserted degree (f x) (map f ys))
        at true e = refl
        at false e = ap (λ zs. f y ∷ zs) e
