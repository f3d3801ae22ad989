-- The texts of arguments: one more at a time, and the first.
use Rattle.std.proofs.Common.{◌≡◌, ◌∙◌, ℕ, ◌+◌, ◌<◌, List, [], ◌∷◌, ◌++◌, length, map, take, get_or, Some, ap, sym}
use Rattle.std.proofs.lemmas.List.{map-append, map_more}
use Rattle.std.proofs.lemmas.Option.{same_Some}
use Rattle.std.specs.Borrow.{Bor}
use Rattle.std.specs.Prelude.{slice_get}
use Rattle.ext_words.specs.Words.{texts_of}

pub texts-more : {X : Type 0} (f : X → List ℕ) (xs : List X) (words new : List (Bor (List ℕ))) (i : ℕ) (d : X) (w : Bor (List ℕ)) → i < length xs → texts_of words ≡ map f (take i xs) → w.now ≡ f (get_or xs i d) → new ≡ words ++ w ∷ [] → texts_of new ≡ map f (take (i + 1) xs)
texts-more f xs words new i d w inside so_far text pushed =
    ap texts_of pushed
    ∙ (map-append (λ (b : Bor (List ℕ)). b.now) words (w ∷ [])
    ∙ (ap (λ (l : List (List ℕ)). l ++ w.now ∷ []) so_far
    ∙ (ap (λ (t : List ℕ). map f (take i xs) ++ t ∷ []) text
    ∙ sym (map_more f xs i d inside))))

-- the first of some texts
pub texts-first : {X Y : Type 0} (f : X → Y) (xs : List X) (x : X) → slice_get xs 0 ≡ Some x → take 1 (map f xs) ≡ f x ∷ []
texts-first f [] x e = absurd (cc)
texts-first f (y ∷ ys) x e = ap (λ v. f v ∷ []) (same_Some y x e)
