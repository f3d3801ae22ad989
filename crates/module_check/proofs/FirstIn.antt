-- The first answer of a function on a list, element by element.
use Rattle.std.proofs.Common.{◌≡◌, ℕ, suc, ◌+◌, ◌-◌, ◌<◌, ◌≤◌, Bool, true, false, cond, List, [], ◌∷◌, ◌++◌, length, take, drop, get_or, filter, All, Option, Some, None, refl, ap, sym, ◌∙◌, arith}
use Rattle.std.specs.Option.{option_or}
use Rattle.std.specs.List.{range_with_len}
use Rattle.std.proofs.Math.Seq.{drop-cons}
use Rattle.std.proofs.lemmas.List.{take_more, take_all, take-append-drop}
use Rattle.std.proofs.lemmas.List.Elements.{All-head, All-tail, All-weaker}
use Rattle.f2_vec.proofs.Ones.{range_more}
use Rattle.module_check.specs.Acceptance.{first_in}
use Rattle.milnor_basis.proofs.Ranges.{range-split}

option_or-assoc : {A : Type 0} (o p q : Option A) → option_or o (option_or p q) ≡ option_or (option_or o p) q
option_or-assoc None p q = refl
option_or-assoc (Some x) p q = refl

first_in-append : {A B : Type 0} (f : A → Option B) (xs ys : List A) → first_in f (xs ++ ys) ≡ option_or (first_in f xs) (first_in f ys)
first_in-append f [] ys = refl
first_in-append f (x ∷ xs) ys = ap (option_or (f x)) (first_in-append f xs ys) ∙ option_or-assoc (f x) (first_in f xs) (first_in f ys)

-- no answer so far, and none at the next element
pub first_in_more : {A B : Type 0} (f : A → Option B) (xs : List A) (k : ℕ) (d : A) → k < length xs → first_in f (take k xs) ≡ None → f (get_or xs k d) ≡ None → first_in f (take (k + 1) xs) ≡ None
first_in_more f xs k d l before here =
    let e : first_in f (take (k + 1) xs) ≡ option_or (first_in f (take k xs)) (option_or (f (get_or xs k d)) None) = ap (first_in f) (take_more xs k d l) ∙ first_in-append f (take k xs) (get_or xs k d ∷ []) in
    e ∙ ap (λ o. option_or o (option_or (f (get_or xs k d)) None)) before ∙ ap (λ o. option_or o None) here

-- no answer so far, and one at the next element
pub first_in_found : {A B : Type 0} (f : A → Option B) (xs : List A) (k : ℕ) (d : A) (b : B) → k < length xs → first_in f (take k xs) ≡ None → f (get_or xs k d) ≡ Some b → first_in f xs ≡ Some b
first_in_found f xs k d b l before here =
    let split : xs ≡ take k xs ++ (get_or xs k d ∷ drop (suc k) xs) = sym (take-append-drop k xs) ∙ ap (λ ys. take k xs ++ ys) (drop-cons xs k d l) in
    let e : first_in f xs ≡ option_or (first_in f (take k xs)) (option_or (f (get_or xs k d)) (first_in f (drop (suc k) xs))) = ap (first_in f) split ∙ first_in-append f (take k xs) (get_or xs k d ∷ drop (suc k) xs) in
    e ∙ ap (λ o. option_or o (option_or (f (get_or xs k d)) (first_in f (drop (suc k) xs)))) before ∙ ap (λ o. option_or o (first_in f (drop (suc k) xs))) here

-- no answer on all
pub first_in_all : {A B : Type 0} (f : A → Option B) (xs : List A) (k : ℕ) → length xs ≤ k → first_in f (take k xs) ≡ None → first_in f xs ≡ None
first_in_all f xs k l before = ap (first_in f) (sym (take_all k xs l)) ∙ before

-- the same of a list that is given as another, and of its element as a loop reads it
pub first_in_more_at : {A B : Type 0} (f : A → Option B) (xs : List A) (k : ℕ) (x : A) → k < length xs → first_in f (take k xs) ≡ None → x ≡ get_or xs k x → f x ≡ None → first_in f (take (k + 1) xs) ≡ None
first_in_more_at f xs k x l before at here = first_in_more f xs k x l before (ap f (sym at) ∙ here)

pub first_in_found_at : {A B : Type 0} (f : A → Option B) (xs ys : List A) (k : ℕ) (x : A) (b : B) → xs ≡ ys → k < length xs → first_in f (take k xs) ≡ None → x ≡ get_or xs k x → f x ≡ Some b → first_in f ys ≡ Some b
first_in_found_at f xs ys k x b e l before at here = ap (first_in f) (sym e) ∙ first_in_found f xs k x b l before (ap f (sym at) ∙ here)

-- no answer at any element
pub first_in_nothing : {A B : Type 0} (f : A → Option B) (xs : List A) → All (λ x. f x ≡ None) xs → first_in f xs ≡ None
first_in_nothing f [] h = refl
first_in_nothing f (x ∷ xs) h =
    ap (λ o. option_or o (first_in f xs)) (All-head (λ y. f y ≡ None) x xs h) ∙ first_in_nothing f xs (All-tail (λ y. f y ≡ None) x xs h)

-- the same, where all elements are of a kind
pub first_in-none : {A B : Type 0} → (P : A → Type 0) (f : A → Option B) (xs : List A) → All P xs → ((x : A) → P x → f x ≡ None) → first_in f xs ≡ None
first_in-none P f xs all h = first_in_nothing f xs (All-weaker P (λ x. f x ≡ None) h xs all)

-- the same over a range
pub first_in_range_more : {B : Type 0} (f : ℕ → Option B) (a k j : ℕ) → a + k ≡ j → first_in f (range_with_len a k) ≡ None → f j ≡ None → first_in f (range_with_len a (k + 1)) ≡ None
first_in_range_more f a k j e before here =
    ap (first_in f) (range_more a k j e) ∙ first_in-append f (range_with_len a k) (j ∷ []) ∙ ap (λ o. option_or o (option_or (f j) None)) before ∙ ap (λ o. option_or o None) here

pub first_in_range_found : {B : Type 0} (f : ℕ → Option B) (a n k j : ℕ) (b : B) → k < n → a + k ≡ j → first_in f (range_with_len a k) ≡ None → f j ≡ Some b → first_in f (range_with_len a n) ≡ Some b
first_in_range_found f a n k j b l e before here =
    let whole : n ≡ k + suc (n - k - 1) = omega arith in
    let rest = range_with_len (j + 1) (n - k - 1) in
    let split : range_with_len a n ≡ range_with_len a k ++ (j ∷ rest) = ap (range_with_len a) whole ∙ range-split a k (suc (n - k - 1)) ∙ ap (λ c. range_with_len a k ++ range_with_len c (suc (n - k - 1))) e in
    ap (first_in f) split ∙ first_in-append f (range_with_len a k) (j ∷ rest) ∙ ap (λ o. option_or o (option_or (f j) (first_in f rest))) before ∙ ap (λ o. option_or o (first_in f rest)) here

-- elements that a test leaves out, where there is no answer
pub first_in-filter : {A B : Type 0} (p : A → Bool) (f : A → Option B) → ((x : A) → p x ≡ false → f x ≡ None) → (xs : List A) → first_in f (filter p xs) ≡ first_in f xs
first_in-filter p f h [] = refl
first_in-filter p f h (x ∷ xs) = by_test p f h x xs (p x) refl (first_in-filter p f h xs)
  where
    by_test : {A B : Type 0} (p : A → Bool) (f : A → Option B) → ((x : A) → p x ≡ false → f x ≡ None) → (x : A) (xs : List A) (b : Bool) → p x ≡ b → first_in f (filter p xs) ≡ first_in f xs → first_in f (cond b (x ∷ filter p xs) (filter p xs)) ≡ option_or (f x) (first_in f xs)
    by_test p f h x xs true e rest = ap (option_or (f x)) rest
    by_test p f h x xs false e rest = rest ∙ ap (λ o. option_or o (first_in f xs)) (sym (h x e))
