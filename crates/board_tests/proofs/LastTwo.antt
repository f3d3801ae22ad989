-- The last two of a list, taken from its end.
use Rattle.std.proofs.Common.{◌≡◌, ℕ, ◌<◌, List, [], ◌∷◌, ◌++◌, length, slice_get, Some, sym, ◌∙◌, ap, arith, length-append}
use Rattle.std.proofs.lemmas.Option.{same_Some}

are_two : {P : Type 0} (rest : List P) (first second : P) (all mid : List P) → length all ≡ 2 → all ≡ mid ++ second ∷ [] → mid ≡ rest ++ first ∷ [] → all ≡ first ∷ second ∷ []
are_two {P} [] first second all mid long is more = is ∙ ap (λ (l : List P). l ++ second ∷ []) more
are_two {P} (x ∷ rest) first second all mid long is more =
    let whole = ap (λ (l : List P). length l) is in
    let most = ap (λ (l : List P). length l) more in
    let one = length-append mid (second ∷ []) in
    let two = length-append rest (first ∷ []) in
    absurd (omega arith)

pub last_two : {P : Type 0} (at : ℕ → P) (rest : List P) (first second : P) (all mid : List P) → length all ≡ 2 → all ≡ mid ++ second ∷ [] → mid ≡ rest ++ first ∷ [] → ((i : ℕ) → i < 2 → slice_get all i ≡ Some (at i)) → (first ≡ at 0) × (second ≡ at 1)
last_two {P} at rest first second all mid long is more each =
    let two = are_two rest first second all mid long is more in (
      same_Some first (at 0) (sym (ap (λ (l : List P). slice_get l 0) two) ∙ each 0 (omega arith)),
      same_Some second (at 1) (sym (ap (λ (l : List P). slice_get l 1) two) ∙ each 1 (omega arith)),
    )
