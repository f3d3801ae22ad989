-- Lists of published views.
use Rattle.std.proofs.Common.{◌≡◌, ℕ, zero, suc, ◌<◌, List, [], ◌∷◌, ◌++◌, length, All, refl, sym, ◌∙◌, arith}
use Rattle.std.specs.Prelude.{slice_index_or}
use Rattle.std.proofs.lemmas.List.Elements.{All-append, All-contains}
use Rattle.live_view.specs.declared.published.Published.{Published as Shown}
use Rattle.live_view.specs.Views.{blank, IsWithin}
use Rattle.live_view.specs.Published.{last_from, IsRising, IsRightOf, ArePublished, MayFollow}

pub last_then : (view : List (List ℕ)) (published : List Shown) (p : Shown) → last_from view (published ++ p ∷ []) ≡ p.view
last_then view [] p = refl
last_then view (q ∷ published) p = last_then q.view published p

rising_then : (view : List (List ℕ)) (published : List Shown) (p : Shown) → IsRising view published → IsWithin (last_from view published) p.view → IsRising view (published ++ p ∷ [])
rising_then view [] p rising within = (within, tt)
rising_then view (q ∷ published) p rising within = (rising.0, rising_then q.view published p rising.1 within)

one_alone : (P : Shown → Type 0) (p : Shown) → P p → All P (p ∷ [])
one_alone P p is k d less = get k d less
  where
    get : (k : ℕ) (d : Shown) → k < length (p ∷ []) → P (slice_index_or (p ∷ []) k d)
    get zero d less = is
    get (suc k) d less = absurd (omega arith)

-- a view that may be published behind others keeps what is so of all
pub published_then : (published : List Shown) (p : Shown) → ArePublished published → MayFollow published p → ArePublished (published ++ p ∷ [])
published_then published p are may =
    let same : All (λ (q : Shown). q.of ≡ p.of) (published ++ p ∷ []) = All-append (λ (q : Shown). q.of ≡ p.of) published (p ∷ []) may.one (one_alone (λ (q : Shown). q.of ≡ p.of) p refl) in
    record {
      right = All-append IsRightOf published (p ∷ []) are.right (one_alone IsRightOf p may.right);
      rising = rising_then blank published p are.rising may.within;
      one = λ q r there here. All-contains (λ (x : Shown). x.of ≡ p.of) (published ++ p ∷ []) q same there ∙ sym (All-contains (λ (x : Shown). x.of ≡ p.of) (published ++ p ∷ []) r same here);
    }
