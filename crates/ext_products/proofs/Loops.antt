-- The steps of the loops that make lines.
use Rattle.std.proofs.Common.{◌≡◌, ℕ, ◌+◌, List, [], ◌∷◌, ◌++◌, map, ap, sym, subst, ◌∙◌, append_assoc, append-nil, arith}
use Rattle.std.specs.List.{flat_map, range_with_len}
use Rattle.std.proofs.lemmas.Grind.{flat_map-append}
use Rattle.std.proofs.lemmas.List.FromFn.{map-range_with_len_more}
use Rattle.f2_vec.proofs.Ones.{range_more}
use Rattle.ext_products.specs.Products.{OneEach}
use Rattle.ext_products.proofs.OneEach.{OneEach-append}

pub flat_map-next : {X : Type 0} (f : ℕ → List X) (k : ℕ) → flat_map f (range_with_len 0 k) ++ f k ≡ flat_map f (range_with_len 0 (k + 1))
flat_map-next f k =
    ap (λ ys. flat_map f (range_with_len 0 k) ++ ys) (sym (append-nil (f k))) ∙ sym (flat_map-append f (range_with_len 0 k) (k ∷ [])) ∙ ap (flat_map f) (sym (range_more 0 k k (omega arith)))

module _ {A B : Type 0} (R : A → B → Type 0) where
  -- the lines of one list more
  pub lists-more : (f : ℕ → List A) (before : List A) (k : ℕ) (lines : List B) → OneEach R ((before ++ flat_map f (range_with_len 0 k)) ++ f k) lines → OneEach R (before ++ flat_map f (range_with_len 0 (k + 1))) lines
  lists-more f before k lines h =
      subst (λ (xs : List A). OneEach R xs lines) (append_assoc before (flat_map f (range_with_len 0 k)) (f k) ∙ ap (λ ys. before ++ ys) (flat_map-next f k)) h

  -- one line more
  pub line-more : (f : ℕ → A) (before : List A) (k : ℕ) (lines after : List B) (line : B) → OneEach R (before ++ map f (range_with_len 0 k)) lines → R (f k) line → after ≡ lines ++ line ∷ [] → OneEach R (before ++ map f (range_with_len 0 (k + 1))) after
  line-more f before k lines after line h is e =
      let more : OneEach R ((before ++ map f (range_with_len 0 k)) ++ f k ∷ []) (lines ++ line ∷ []) = OneEach-append R (before ++ map f (range_with_len 0 k)) (f k ∷ []) lines (line ∷ []) h (is, tt) in
      let same : (before ++ map f (range_with_len 0 k)) ++ f k ∷ [] ≡ before ++ map f (range_with_len 0 (k + 1)) = append_assoc before (map f (range_with_len 0 k)) (f k ∷ []) ∙ ap (λ ys. before ++ ys) (sym (map-range_with_len_more f 0 k k (omega arith))) in
      subst (λ (ls : List B). OneEach R (before ++ map f (range_with_len 0 (k + 1))) ls) (sym e) (subst (λ (xs : List A). OneEach R xs (lines ++ line ∷ [])) same more)
