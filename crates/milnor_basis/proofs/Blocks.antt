-- Lists made block by block, one block for each number of a range: what holds of each element and of each pair.
use Rattle.std.proofs.Common.{ℕ, zero, suc, ◌+◌, ◌<◌, ◌≤◌, List, [], ◌∷◌, ◌++◌, map, get_or, ap, sym, subst, ◌∙◌, inl, inr, arith}
use Rattle.std.specs.List.{flat_map, range_with_len, All, AllPairs, Contains}
use Rattle.std.proofs.lemmas.Bool.{cases_eq}
use Rattle.std.proofs.lemmas.List.{get_or-map, length-map}
use Rattle.std.proofs.lemmas.List.Elements.{All-nil, All-head, All-tail, All-append, All-map, Contains-append_left, Contains-append_right}
use Rattle.std.proofs.lemmas.List.Kept.{AllPairs-cons}

pub All-blocks : {X : Type 0} (P : X → Type 0) (f : ℕ → List X) (a m : ℕ) → ((r : ℕ) → a ≤ r → r < a + m → All P (f r)) → All P (flat_map f (range_with_len a m))
All-blocks P f a zero h = All-nil P
All-blocks P f a (suc m) h =
    All-append P (f a) (flat_map f (range_with_len (a + 1) m)) (h a (omega arith) (omega arith)) (All-blocks P f (a + 1) m (λ r lo hi. h r (omega arith) (omega arith)))

pub Contains-blocks : {X : Type 0} (f : ℕ → List X) (a m r : ℕ) (x : X) → a ≤ r → r < a + m → Contains (f r) x → Contains (flat_map f (range_with_len a m)) x
Contains-blocks f a zero r x lo hi h = absurd (omega arith)
Contains-blocks f a (suc m) r x lo hi h =
    elim (cases_eq a r) [
      | inl e ↦ Contains-append_left (f a) (flat_map f (range_with_len (a + 1) m)) x (subst (λ k. Contains (f k) x) (sym e) h)
      | inr d ↦ Contains-append_right (f a) (flat_map f (range_with_len (a + 1) m)) x (Contains-blocks f (a + 1) m r x (omega arith) (omega arith) h)
    ]

pub Contains-map : {X Y : Type 0} (f : X → Y) (xs : List X) (x : X) → Contains xs x → Contains (map f xs) (f x)
Contains-map f xs x h =
    (h.0, rw length-map h.1, get_or-map f xs h.0 x (f x) h.1 ∙ ap f h.2)

AllPairs-head : {X : Type 0} (R : X → X → Type 0) (x : X) (xs : List X) → AllPairs R (x ∷ xs) → All (R x) xs
AllPairs-head R x xs p = λ k d h. p zero (suc k) d (omega arith) (omega arith)

AllPairs-tail : {X : Type 0} (R : X → X → Type 0) (x : X) (xs : List X) → AllPairs R (x ∷ xs) → AllPairs R xs
AllPairs-tail R x xs p = λ i j d h w. p (suc i) (suc j) d (omega arith) (omega arith)

AllPairs-nil : {X : Type 0} (R : X → X → Type 0) → AllPairs R []
AllPairs-nil R = λ i j d h w. absurd (omega arith)

AllPairs-append : {X : Type 0} (R : X → X → Type 0) (xs ys : List X) → AllPairs R xs → AllPairs R ys → All (λ x. All (R x) ys) xs → AllPairs R (xs ++ ys)
AllPairs-append R [] ys p q c = q
AllPairs-append R (x ∷ xs) ys p q c =
    AllPairs-cons R x (xs ++ ys)
    (All-append (R x) xs ys (AllPairs-head R x xs p) (All-head (λ z. All (R z) ys) x xs c))
    (AllPairs-append R xs ys (AllPairs-tail R x xs p) q (All-tail (λ z. All (R z) ys) x xs c))

-- a relation within each block, and between the elements of a block and of a later one
pub AllPairs-blocks : {X : Type 0} (R : X → X → Type 0) (f : ℕ → List X) (a m : ℕ) → ((r : ℕ) → AllPairs R (f r)) → ((r s : ℕ) → r < s → All (λ x. All (R x) (f s)) (f r)) → AllPairs R (flat_map f (range_with_len a m))
AllPairs-blocks R f a zero own cross = AllPairs-nil R
AllPairs-blocks R f a (suc m) own cross =
    AllPairs-append R (f a) (flat_map f (range_with_len (a + 1) m)) (own a) (AllPairs-blocks R f (a + 1) m own cross)
    (λ k d h. All-blocks (R (get_or (f a) k d)) f (a + 1) m (λ s lo hi. cross a s (omega arith) k d h))

-- a map that takes one relation to another, given a fact of each element
pub AllPairs-map : {X Y : Type 0} (P : X → Type 0) (R : X → X → Type 0) (S : Y → Y → Type 0) (f : X → Y) → ((x y : X) → P x → P y → R x y → S (f x) (f y)) → (xs : List X) → All P xs → AllPairs R xs → AllPairs S (map f xs)
AllPairs-map P R S f h [] p q = AllPairs-nil S
AllPairs-map P R S f h (x ∷ xs) p q =
    AllPairs-cons S (f x) (map f xs)
    (All-map (S (f x)) f xs (λ k d w. h x (get_or xs k d) (All-head P x xs p) (All-tail P x xs p k d w) (AllPairs-head R x xs q k d w)))
    (AllPairs-map P R S f h xs (All-tail P x xs p) (AllPairs-tail R x xs q))
