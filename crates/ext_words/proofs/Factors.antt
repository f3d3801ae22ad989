-- What is read of words, one after another.
use Rattle.std.proofs.Common.{◌≡◌, ℕ, ◌+◌, ◌<◌, ◌≤◌, List, [], ◌∷◌, ◌++◌, length, drop, get_or, Option, Some, None, ap, sym, ◌∙◌, append_assoc, append-nil, refl}
use Rattle.std.specs.Prelude.{option_map, option_and_then}
use Rattle.std.specs.Borrow.{Bor}
use Rattle.std.proofs.lemmas.List.{at_drop_more, at_drop_all}
use Rattle.ext_words.specs.Words.{texts_of, read_each}

module _ {X : Type 0} (read : List ℕ → Option X) where
  -- what is read of the words, behind what was read before
  abbrev pub behind : List X → List (Bor (List ℕ)) → Option (List X)
  behind before words = option_map (λ rest. before ++ rest) (read_each read (texts_of words))

  abbrev with_one : List X → List (Bor (List ℕ)) → Option X → Option (List X)
  with_one before words x = option_map (λ rest. before ++ rest) (option_and_then (λ y. option_map (λ ys. y ∷ ys) (read_each read (texts_of words))) x)

  one-more : (before : List X) (x : X) (rest : Option (List X)) → option_map (λ ys. before ++ ys) (option_map (λ ys. x ∷ ys) rest) ≡ option_map (λ ys. (before ++ x ∷ []) ++ ys) rest
  one-more before x None = refl
  one-more before x (Some ys) = ap Some (sym (append_assoc before (x ∷ []) ys))

  pub one-read : (before more : List X) (words : List (Bor (List ℕ))) (i : ℕ) (x : X) (d : Bor (List ℕ)) → i < length words → read (get_or words i d).now ≡ Some x → more ≡ before ++ x ∷ [] → behind before (drop i words) ≡ behind more (drop (i + 1) words)
  one-read before more words i x d within is grown =
      at_drop_more (behind before) words i d within ∙ (ap (with_one before (drop (i + 1) words)) is
      ∙ (one-more before x (read_each read (texts_of (drop (i + 1) words))) ∙ ap (λ (xs : List X). behind xs (drop (i + 1) words)) (sym grown)))

  pub none-read : (before : List X) (words : List (Bor (List ℕ))) (i : ℕ) (d : Bor (List ℕ)) → i < length words → read (get_or words i d).now ≡ None → behind before (drop i words) ≡ None
  none-read before words i d within none = at_drop_more (behind before) words i d within ∙ ap (with_one before (drop (i + 1) words)) none

  pub all-read : (before : List X) (words : List (Bor (List ℕ))) (i : ℕ) → length words ≤ i → behind before (drop i words) ≡ Some before
  all-read before words i past = at_drop_all (behind before) words i past ∙ ap Some (append-nil before)
