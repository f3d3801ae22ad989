-- What a test leaves of a list that is made row by row, and of a list with one element for each of another.
use Rattle.std.proofs.Common.{◌≡◌, ℕ, zero, suc, ◌+◌, ◌<◌, ◌≤◌, Bool, true, false, if◌then◌else◌, List, [], ◌∷◌, map, refl, ◌∙◌, arith}
use Rattle.std.specs.List.{All, filter, flat_map, range_with_len}
use Rattle.std.proofs.lemmas.List.Elements.{filter-append, All-head, All-tail}
use Rattle.ext_products.specs.Products.{OneEach}

module _ {X : Type 0} (p : X → Bool) where
  -- where the test is one for all
  pub filter-map_same : (b : Bool) (f : ℕ → X) → ((i : ℕ) → p (f i) ≡ b) → (is : List ℕ) → filter p (map f is) ≡ (if b then map f is else [])
  filter-map_same true f same [] = refl
  filter-map_same false f same [] = refl
  filter-map_same true f same (i ∷ is) = let ih = filter-map_same true f same is in let h = same i in cc
  filter-map_same false f same (i ∷ is) = let ih = filter-map_same false f same is in let h = same i in cc

  pub filter-none : (f : ℕ → List X) (a n : ℕ) → ((k : ℕ) → a ≤ k → filter p (f k) ≡ []) → filter p (flat_map f (range_with_len a n)) ≡ []
  filter-none f a zero none = refl
  filter-none f a (suc n) none =
      let rest : filter p (flat_map f (range_with_len (a + 1) n)) ≡ [] = filter-none f (a + 1) n (λ k l. none k (omega arith)) in
      filter-append p (f a) (flat_map f (range_with_len (a + 1) n)) ∙ cc (none a (omega arith), rest)

  -- the first m rows are left as g says, and nothing of the others
  pub filter-first : (f g : ℕ → List X) (a m n : ℕ) → ((k : ℕ) → k < a + m → filter p (f k) ≡ g k) → ((k : ℕ) → a + m ≤ k → filter p (f k) ≡ []) → (all : ℕ) → all ≡ m + n → filter p (flat_map f (range_with_len a all)) ≡ flat_map g (range_with_len a m)
  filter-first f g a zero n some none all e = filter-none f a all (λ k l. none k (omega arith))
  filter-first f g a (suc m) n some none zero e = absurd (omega arith)
  filter-first f g a (suc m) n some none (suc all) e =
      let rest : filter p (flat_map f (range_with_len (a + 1) all)) ≡ flat_map g (range_with_len (a + 1) m) = filter-first f g (a + 1) m n (λ k l. some k (omega arith)) (λ k l. none k (omega arith)) all (omega arith) in
      filter-append p (f a) (flat_map f (range_with_len (a + 1) all)) ∙ cc (some a (omega arith), rest)

pub OneEach-filter : {A B : Type 0} (R : A → B → Type 0) (p : A → Bool) (q : B → Bool) → ((x : A) (y : B) → R x y → p x ≡ q y) → (xs : List A) (ys : List B) → OneEach R xs ys → OneEach R (filter p xs) (filter q ys)
OneEach-filter R p q same [] [] each = tt
OneEach-filter R p q same [] (y ∷ ys) each = absurd each
OneEach-filter R p q same (x ∷ xs) [] each = absurd each
OneEach-filter R p q same (x ∷ xs) (y ∷ ys) each = by (p x) (q y) (same x y each.0) (OneEach-filter R p q same xs ys each.1)
  where
    by : (a b : Bool) → a ≡ b → OneEach R (filter p xs) (filter q ys) → OneEach R (if a then x ∷ filter p xs else filter p xs) (if b then y ∷ filter q ys else filter q ys)
    by true true e rest = (each.0, rest)
    by false false e rest = rest
    by true false e rest = absurd cc
    by false true e rest = absurd cc

-- two lists whose elements are equal where both are for one of the first list
pub OneEach-same : {A B : Type 0} (P : A → Type 0) (R S : A → B → Type 0) → ((x : A) (y z : B) → P x → R x y → S x z → y ≡ z) → (xs : List A) (ys zs : List B) → All P xs → OneEach R xs ys → OneEach S xs zs → ys ≡ zs
OneEach-same P R S one [] [] [] all h k = refl
OneEach-same P R S one [] [] (z ∷ zs) all h k = absurd k
OneEach-same P R S one [] (y ∷ ys) zs all h k = absurd h
OneEach-same P R S one (x ∷ xs) [] zs all h k = absurd h
OneEach-same P R S one (x ∷ xs) (y ∷ ys) [] all h k = absurd k
OneEach-same P R S one (x ∷ xs) (y ∷ ys) (z ∷ zs) all h k =
    let first : y ≡ z = one x y z (All-head P x xs all) h.0 k.0 in
    let rest : ys ≡ zs = OneEach-same P R S one xs ys zs (All-tail P x xs all) h.1 k.1 in
    cc
