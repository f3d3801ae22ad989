-- The steps of the loops that add lines.
use Rattle.std.proofs.Common.{◌≡◌, ℕ, ◌+◌, ◌<◌, List, ◌∷◌, [], ◌++◌, length, take, get_or, ap, sym, subst, ◌∙◌, append_assoc}
use Rattle.std.specs.List.{flat_map, range_with_len}
use Rattle.std.proofs.lemmas.List.{flat_map_more, take_more}
use Rattle.ext_products.specs.Products.{OneEach}
use Rattle.ext_products.proofs.Loops.{flat_map-next}
use Rattle.ext_products.proofs.OneEach.{OneEach-append}

-- one number more
pub one_more : (f : ℕ → List ℕ) (before text new : List ℕ) (k : ℕ) → text ≡ before ++ flat_map f (range_with_len 0 k) → new ≡ text ++ f k → new ≡ before ++ flat_map f (range_with_len 0 (k + 1))
one_more f before text new k so_far grown =
    grown ∙ (ap (λ (x : List ℕ). x ++ f k) so_far ∙ (append_assoc before (flat_map f (range_with_len 0 k)) (f k) ∙ ap (λ (x : List ℕ). before ++ x) (flat_map-next f k)))

-- one element more
pub next_of : {X : Type 0} (f : X → List ℕ) (before text new : List ℕ) (xs : List X) (k : ℕ) (d : X) → k < length xs → text ≡ before ++ flat_map f (take k xs) → new ≡ text ++ f (get_or xs k d) → new ≡ before ++ flat_map f (take (k + 1) xs)
next_of f before text new xs k d within so_far grown =
    grown ∙ (ap (λ x. x ++ f (get_or xs k d)) so_far ∙ (flat_map_more f before (take k xs) (get_or xs k d) ∙ ap (λ z. before ++ flat_map f z) (sym (take_more xs k d within))))

-- one class more, with what is listed of it
pub listed_more : {X Y : Type 0} (R : X → Y → Type 0) (xs : List X) (k : ℕ) (d : X) (ys new : List Y) (y : Y) → k < length xs → OneEach R (take k xs) ys → R (get_or xs k d) y → new ≡ ys ++ y ∷ [] → OneEach R (take (k + 1) xs) new
listed_more R xs k d ys new y within so_far is grown =
    let x = get_or xs k d in
    let more = OneEach-append R (take k xs) (x ∷ []) ys (y ∷ []) so_far (is, tt) in
    subst (λ zs. OneEach R (take (k + 1) xs) zs) (sym grown) (subst (λ zs. OneEach R zs (ys ++ y ∷ [])) (sym (take_more xs k d within)) more)
