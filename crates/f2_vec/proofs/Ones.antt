-- The places that hold a 1, one place after another.
use Rattle.std.proofs.Common.{◌≡◌, ℕ, zero, suc, ◌+◌, ◌<◌, Bool, true, false, cond, List, [], ◌∷◌, ◌++◌, length, take, get_or, refl, ap, sym, ◌∙◌, arith}
use Rattle.std.specs.List.{range_with_len, items_where_true}
use Rattle.std.proofs.lemmas.List.{take_more, length-take-le, map-id}
use Rattle.std.proofs.lemmas.List.FromFn.{length-range_with_len, map-range_with_len_more}
use Rattle.f2_vec.specs.Vectors.{bit}

-- a range by its last number
pub range_more : (a n j : ℕ) → a + n ≡ j → range_with_len a (n + 1) ≡ range_with_len a n ++ j ∷ []
range_more a n j e = sym (map-id (range_with_len a (n + 1))) ∙ map-range_with_len_more (λ (x : ℕ). x) a n j e ∙ ap (λ xs. xs ++ j ∷ []) (map-id (range_with_len a n))

-- one item more
pub items_where_true-push : {A : Type 0} (bs : List Bool) (b : Bool) (xs : List A) (x : A) → length bs ≡ length xs → items_where_true (bs ++ b ∷ []) (xs ++ x ∷ []) ≡ items_where_true bs xs ++ cond b (x ∷ []) []
items_where_true-push [] true [] x e = refl
items_where_true-push [] false [] x e = refl
items_where_true-push [] b (y ∷ ys) x e = absurd (omega arith)
items_where_true-push (c ∷ cs) b [] x e = absurd (omega arith)
items_where_true-push (true ∷ cs) b (y ∷ ys) x e = ap (λ t. y ∷ t) (items_where_true-push cs b ys x (omega arith))
items_where_true-push (false ∷ cs) b (y ∷ ys) x e = items_where_true-push cs b ys x (omega arith)

-- the ones of the first i coordinates, and of one more
pub ones_more : (v : List Bool) (i : ℕ) (ones : List ℕ) (b : Bool) → i < length v → ones ≡ items_where_true (take i v) (range_with_len 0 i) → b ≡ bit v i → ones ++ cond b (i ∷ []) [] ≡ items_where_true (take (i + 1) v) (range_with_len 0 (i + 1))
ones_more v i ones b h e f =
    let more : take (i + 1) v ≡ take i v ++ bit v i ∷ [] = take_more v i false h in
    let range : range_with_len 0 (i + 1) ≡ range_with_len 0 i ++ i ∷ [] = range_more 0 i i (omega arith) in
    let len : length (take i v) ≡ length (range_with_len 0 i) = length-take-le i v (omega arith) ∙ sym (length-range_with_len 0 i) in
    rw (more, range) (ap (λ t. t ++ cond b (i ∷ []) []) e ∙ ap (λ c. items_where_true (take i v) (range_with_len 0 i) ++ cond c (i ∷ []) []) f ∙ sym (items_where_true-push (take i v) (bit v i) (range_with_len 0 i) i len))

-- each number is below n, also of one more
pub below_push : (n : ℕ) (xs : List ℕ) (y : ℕ) → ((k : ℕ) → k < length xs → get_or xs k 0 < n) → y < n → (k : ℕ) → k < length (xs ++ y ∷ []) → get_or (xs ++ y ∷ []) k 0 < n
below_push n [] y h l zero k = l
below_push n [] y h l (suc j) k = absurd (omega arith)
below_push n (x ∷ xs) y h l zero k = h zero (omega arith)
below_push n (x ∷ xs) y h l (suc j) k = below_push n xs y (λ i m. h (suc i) (omega arith)) l j (omega arith)
