-- One step of each loop that builds the parts.
use Rattle.std.proofs.Common.{◌≡◌, ℕ, suc, zero, ◌+◌, ◌<◌, Bool, true, false, cond, List, [], ◌∷◌, ◌++◌, length, map, take, get_or, ap, sym, ◌∙◌, arith}
use Rattle.std.specs.List.{range_with_len, filter}
use Rattle.std.proofs.lemmas.List.{map-append, append-nil, take_more}
use Rattle.std.proofs.lemmas.List.Elements.{filter-append}

-- one element more
pub map_more : {A B : Type 0} (f : A → B) (xs : List A) (i : ℕ) (d x : A) (old new : List B) (y : B) → i < length xs → x ≡ get_or xs i d → old ≡ map f (take i xs) → new ≡ old ++ y ∷ [] → y ≡ f x → new ≡ map f (take (i + 1) xs)
map_more f xs i d x old new y l e o n v =
    n ∙ ap (λ z. z ++ y ∷ []) o ∙ ap (λ z. map f (take i xs) ++ z ∷ []) (v ∙ ap f e) ∙ sym (map-append f (take i xs) (get_or xs i d ∷ [])) ∙ ap (map f) (sym (take_more xs i d l))

-- a place more, where it passes or not
pub range_push : (a n : ℕ) → range_with_len a (n + 1) ≡ range_with_len a n ++ (a + n) ∷ []
range_push a zero = let e : a ≡ a + 0 = omega arith in let f : 0 + 1 ≡ 1 = omega arith in ap (range_with_len a) f ∙ ap (λ x. x ∷ []) e
range_push a (suc n) =
    let e : (a + 1) + n ≡ a + suc n = omega arith in
    let f : suc n + 1 ≡ suc (n + 1) = omega arith in
    ap (range_with_len a) f ∙ ap (λ xs. a ∷ xs) (range_push (a + 1) n ∙ ap (λ x. range_with_len (a + 1) n ++ x ∷ []) e)

pub filter_more_true : {B : Type 0} (f : ℕ → B) (p : ℕ → Bool) (k : ℕ) (old new : List B) (y : B) → old ≡ map f (filter p (range_with_len 0 k)) → p k ≡ true → new ≡ old ++ y ∷ [] → y ≡ f k → new ≡ map f (filter p (range_with_len 0 (k + 1)))
filter_more_true f p k old new y o t n v =
    let e : 0 + k ≡ k = omega arith in
    let whole : filter p (range_with_len 0 (k + 1)) ≡ filter p (range_with_len 0 k) ++ k ∷ [] =
    ap (filter p) (range_push 0 k ∙ ap (λ x. range_with_len 0 k ++ x ∷ []) e) ∙ filter-append p (range_with_len 0 k) (k ∷ []) ∙ ap (λ b. filter p (range_with_len 0 k) ++ cond b (k ∷ []) []) t in
    n ∙ ap (λ z. z ++ y ∷ []) o ∙ ap (λ z. map f (filter p (range_with_len 0 k)) ++ z ∷ []) v ∙ sym (map-append f (filter p (range_with_len 0 k)) (k ∷ [])) ∙ ap (map f) (sym whole)

pub filter_more_false : {B : Type 0} (f : ℕ → B) (p : ℕ → Bool) (k : ℕ) (old : List B) → old ≡ map f (filter p (range_with_len 0 k)) → p k ≡ false → old ≡ map f (filter p (range_with_len 0 (k + 1)))
filter_more_false f p k old o t =
    let e : 0 + k ≡ k = omega arith in
    let whole : filter p (range_with_len 0 (k + 1)) ≡ filter p (range_with_len 0 k) =
    ap (filter p) (range_push 0 k ∙ ap (λ x. range_with_len 0 k ++ x ∷ []) e) ∙ filter-append p (range_with_len 0 k) (k ∷ []) ∙ ap (λ b. filter p (range_with_len 0 k) ++ cond b (k ∷ []) []) t ∙ append-nil (filter p (range_with_len 0 k)) in
    o ∙ ap (map f) (sym whole)
