-- A keeper that was given nothing.
use Rattle.std.proofs.Common.{◌≡◌, ℕ, List, [], ◌∷◌, ◌++◌, length, Some, Result, Ok, Err, refl, sym, ◌∙◌, ap, arith}
use Rattle.std.specs.Result.{OnOk}
use Rattle.std.proofs.lemmas.List.{append-nil, length-append, length_push, nil_from_length}
use Rattle.resolution_laws.specs.Resolution.{Module}
use Rattle.resolution_laws.specs.Start.{Entry}
use Rattle.square.specs.declared.keep.KeepFault.{KeepFault}
use Rattle.square.specs.declared.keep.KeepFault.TheVariants.{Failed, Memory}
use Rattle.square.specs.Squares.{Placed, entry_of}
use Rattle.square.specs.Tables.{Staircase}
use Rattle.square.specs.Keeping.{Keeper, with_squares, HasPut}
use Rattle.resolution_step.specs.Alone.{IsUntouched}
use Rattle.resolution_step.specs.Inside.Adding.{HasAdded}

module _ {K : Type 0} (telling : K → Keeper) where
  pub untouched_same : (keeper : K) → IsUntouched telling keeper keeper
  untouched_same keeper live list before after = refl

  -- a square that was put there is told
  pub untouched_put : (m : Module) (start : List Entry) (old new : K) (before after : Staircase) (q : Placed) (result : Result (Unit {0}) KeepFault) → OnOk result (HasPut m start (telling old) (telling new) before after q) → (result ≡ Err Failed → (telling new).live → ⊥) → (result ≡ Err Memory → new ≡ old) → IsUntouched telling old new
  untouched_put m start old new before after q (Ok x) put dead memory live list told same =
      let more : Some (list ++ entry_of q ∷ []) ≡ Some list = sym (put.kept.kept ∙ ap (λ o. with_squares o (entry_of q ∷ [])) told) ∙ same in
      let longer : list ++ entry_of q ∷ [] ≡ list = cc in
      absurd (let n = sym (length_push list (entry_of q)) ∙ ap length longer in omega arith)
  untouched_put m start old new before after q (Err Failed) put dead memory live list told same = absurd (dead refl live)
  untouched_put m start old new before after q (Err Memory) put dead memory live list told same = memory refl

  -- one call after the other
  pub untouched_then : (at then : ℕ → ℕ → Type 0) (old mid new : K) (before middle after : Staircase) → HasAdded at (telling old) (telling mid) before middle → HasAdded then (telling mid) (telling new) middle after → IsUntouched telling old mid → IsUntouched telling mid new → IsUntouched telling old new
  untouched_then at then old mid new before middle after p q first second live list told same =
      let a = p.given.given in
      let b = q.given.given in
      let between : (telling mid).kept ≡ Some (list ++ a) = p.given.kept.kept ∙ ap (λ o. with_squares o a) told in
      let behind : (telling new).kept ≡ Some ((list ++ a) ++ b) = q.given.kept.kept ∙ ap (λ o. with_squares o b) between in
      let all : Some ((list ++ a) ++ b) ≡ Some list = sym behind ∙ same in
      let lists : (list ++ a) ++ b ≡ list = cc in
      let long = ap length lists in
      let outer = length-append (list ++ a) b in
      let inner = length-append list a in
      let none : a ≡ [] = nil_from_length a (omega arith) in
      let here : (telling mid).kept ≡ Some list = between ∙ ap (λ (x : List Entry). Some x) (ap (λ (x : List Entry). list ++ x) none ∙ append-nil list) in
      second live list here same ∙ first (q.given.kept.was_live live) list told here
