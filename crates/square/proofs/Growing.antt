-- A table with one square more, its keeper, and the list of a keeper that has just its squares.
use Rattle.std.proofs.Common.{◌≡◌, ◌≢◌, inl, inr, ℕ, zero, suc, ◌+◌, ◌<◌, ◌≤◌, List, [], ◌∷◌, ◌++◌, length, replicate, Option, Some, None, IfSome, refl, sym, ◌∙◌, ap, subst, arith}
use Rattle.std.specs.Prelude.{IsSome, slice_get}
use Rattle.std.specs.Option.{option_map}
use Rattle.std.proofs.lemmas.Bool.Decides.{eqb_tells}
use Rattle.std.proofs.lemmas.List.{append-nil, append_assoc, length_push, length-append}
use Rattle.std.proofs.lemmas.Option.{slice_get_past}
use Rattle.resolution_laws.specs.Start.{Entry, entry_at}
use Rattle.resolution_laws.proofs.StartLaws.{entry_at-other, entry_at-new}
use Rattle.square.specs.Squares.{Placed, entry_of, content_of}
use Rattle.square.specs.Tables.{Staircase, row_in, with_square, IsNext}
use Rattle.square.specs.Keeping.{Keeper, with_squares, IsNextIn, HoldsTable, IsKeeperOf}
use Rattle.std.proofs.lemmas.Option.{IfSome_then}
use Rattle.square.proofs.Places.{next_length, row_in-none}
use Rattle.square.proofs.Pushing.{length-with_square, row_in-same, row_in-other}
use Rattle.square.specs.Growing.{IsMore, HasGrown}

-- ---- reading a table with one square more

slice_get-end : (row : List Placed) (q : Placed) → slice_get (row ++ q ∷ []) (length row) ≡ Some q
slice_get-end [] q = refl
slice_get-end (x ∷ row) q = slice_get-end row q

slice_get-before : (row : List Placed) (q : Placed) (k : ℕ) → k ≢ length row → slice_get (row ++ q ∷ []) k ≡ slice_get row k
slice_get-before [] q zero off = absurd (off refl)
slice_get-before [] q (suc k) off = refl
slice_get-before (x ∷ row) q zero off = refl
slice_get-before (x ∷ row) q (suc k) off = slice_get-before row q k (λ e. off (omega arith))

pub read_new : (rows : List (List Placed)) (s k : ℕ) (q : Placed) → s < length rows → length (row_in rows s) ≡ k → slice_get (row_in (with_square rows s q) s) k ≡ Some q
read_new rows s k q l e =
    let there : slice_get (row_in rows s ++ q ∷ []) (length (row_in rows s)) ≡ Some q = slice_get-end (row_in rows s) q in
    ap (λ (x : List Placed). slice_get x k) (row_in-same rows s q l) ∙ (ap (slice_get (row_in rows s ++ q ∷ [])) (sym e) ∙ there)

pub read_other : (rows : List (List Placed)) (s k i j : ℕ) (q : Placed) → s < length rows → length (row_in rows s) ≡ k → (i ≡ s → j ≡ k → ⊥) → slice_get (row_in (with_square rows s q) i) j ≡ slice_get (row_in rows i) j
read_other rows s k i j q l e off =
    elim (eqb_tells i s) [
      | inl p ↦
          let P : ℕ → Type 0 = λ x. slice_get (row_in (with_square rows s q) x) j ≡ slice_get (row_in rows x) j in
          let here : slice_get (row_in (with_square rows s q) s) j ≡ slice_get (row_in rows s) j =
          ap (λ (x : List Placed). slice_get x j) (row_in-same rows s q l) ∙ slice_get-before (row_in rows s) q j (λ f. off p.1 (f ∙ e)) in
          subst P (sym p.1) here
      | inr p ↦ ap (λ (x : List Placed). slice_get x j) (row_in-other rows s i q p.1)
    ]

-- the same place or another
pub place_cases : (s k i j : ℕ) {P : Type 0} → ((i ≡ s) → (j ≡ k) → P) → ((i ≡ s → j ≡ k → ⊥) → P) → P
place_cases s k i j here there =
    elim (eqb_tells i s) [
      | inl p ↦ elim (eqb_tells j k) [
        | inl r ↦ here p.1 r.1
        | inr r ↦ there (λ _ e. r.1 e)
      ]
      | inr p ↦ there (λ e _. p.1 e)
    ]

-- ---- the table grows

pub IsMore-none : (row : List Placed) → IsMore row row
IsMore-none row = record { more = []; is = sym (append-nil row) }

pub IsMore-then : (a b c : List Placed) → IsMore a b → IsMore b c → IsMore a c
IsMore-then a b c p q = record { more = p.more ++ q.more; is = q.is ∙ (ap (λ (x : List Placed). x ++ q.more) p.is ∙ append_assoc a p.more q.more) }

pub length-IsMore : (a b : List Placed) → IsMore a b → length a ≤ length b
length-IsMore a b p = let e = ap length p.is in let len = length-append a p.more in omega arith

pub HasGrown-then : (a b c : Staircase) → HasGrown a b → HasGrown b c → HasGrown a c
HasGrown-then a b c p q = record {
  resolved = q.resolved ∙ p.resolved;
  start = q.start ∙ p.start;
  rows = λ s. IsMore-then (row_in a.rows s) (row_in b.rows s) (row_in c.rows s) (p.rows s) (q.rows s);
}

-- a table of the same rows
pub HasGrown-same : (before after : Staircase) → after.resolved ≡ before.resolved → after.start ≡ before.start → after.rows ≡ before.rows → HasGrown before after
HasGrown-same before after e f g = record {
  resolved = e;
  start = f;
  rows = λ s. subst (λ (x : List (List Placed)). IsMore (row_in before.rows s) (row_in x s)) (sym g) (IsMore-none (row_in before.rows s));
}

-- one square more
pub HasGrown-push : (before after : Staircase) (q : Placed) → after.resolved ≡ before.resolved → after.start ≡ before.start → after.rows ≡ with_square before.rows q.s q → q.s < length before.rows → HasGrown before after
HasGrown-push before after q e f g l = record {
  resolved = e;
  start = f;
  rows = λ s. subst (λ (x : List (List Placed)). IsMore (row_in before.rows s) (row_in x s)) (sym g) (row s);
}
  where
    row : (s : ℕ) → IsMore (row_in before.rows s) (row_in (with_square before.rows q.s q) s)
    row s =
        elim (eqb_tells s q.s) [
          | inl p ↦ subst (λ (x : ℕ). IsMore (row_in before.rows x) (row_in (with_square before.rows q.s q) x)) (sym p.1) (record { more = q ∷ []; is = row_in-same before.rows q.s q l })
          | inr p ↦ subst (IsMore (row_in before.rows s)) (sym (row_in-other before.rows q.s s q p.1)) (IsMore-none (row_in before.rows s))
        ]

pub length-push : (before after : List (List Placed)) (q : Placed) → after ≡ with_square before q.s q → length after ≡ length before
length-push before after q g = ap length g ∙ length-with_square before q.s q

pub longer-push : (before after : List (List Placed)) (s : ℕ) (q : Placed) → after ≡ with_square before s q → s < length before → length (row_in after s) ≡ length (row_in before s) + 1
longer-push before after s q g l = ap (λ (x : List (List Placed)). length (row_in x s)) g ∙ (ap length (row_in-same before s q l) ∙ length_push (row_in before s) q)

-- ---- the list has just the table's squares

pub HoldsTable-push : (list : List Entry) (before after : List (List Placed)) (q : Placed) → after ≡ with_square before q.s q → q.s < length before → IsNext before q.s q.above → HoldsTable list before → HoldsTable (list ++ entry_of q ∷ []) after
HoldsTable-push list before after q g l next holds s k =
    let len = next_length before q.s q.above next in
    let past = next.absent in
    let P : List (List Placed) → Type 0 = λ x. entry_at (list ++ entry_of q ∷ []) s k ≡ option_map content_of (slice_get (row_in x s) k) in
    subst P (sym g) (place_cases q.s q.above s k
    (λ a b.
    let absent : entry_at list q.s q.above ≡ None = holds q.s q.above ∙ ap (option_map content_of) (slice_get_past (row_in before q.s) q.above past) in
    let A : ℕ → Type 0 = λ x. entry_at (list ++ entry_of q ∷ []) x k ≡ option_map content_of (slice_get (row_in (with_square before q.s q) x) k) in
    let B : ℕ → Type 0 = λ x. entry_at (list ++ entry_of q ∷ []) q.s x ≡ option_map content_of (slice_get (row_in (with_square before q.s q) q.s) x) in
    subst A (sym a) (subst B (sym b) (entry_at-new list (entry_of q) absent ∙ sym (ap (option_map content_of) (read_new before q.s q.above q l len)))))
    (λ off.
    entry_at-other list (entry_of q) s k (λ a b. off (sym a) (sym b)) ∙ (holds s k ∙ sym (ap (option_map content_of) (read_other before q.s q.above s k q l len off)))))

-- a list of no square has the squares of no square
pub HoldsTable-none : (n : ℕ) → HoldsTable [] (replicate n [])
HoldsTable-none n s k = sym (ap (λ (row : List Placed). option_map content_of (slice_get row k)) (row_in-none n s))

is_some_there : (row : List Placed) (k : ℕ) → k < length row → IsSome (option_map content_of (slice_get row k))
is_some_there [] k l = absurd (omega arith)
is_some_there (x ∷ row) zero l = refl
is_some_there (x ∷ row) (suc k) l = is_some_there row k (omega arith)

-- the next square of the table is the next of the list
pub IsNextIn-table : (list : List Entry) (rows : List (List Placed)) (q : Placed) → HoldsTable list rows → IsNext rows q.s q.above → IsNextIn list q
IsNextIn-table list rows q holds next = record {
  absent = holds q.s q.above ∙ ap (option_map content_of) (slice_get_past (row_in rows q.s) q.above next.absent);
  before = λ j e. subst IsSome (sym (holds q.s j)) (is_some_there (row_in rows q.s) j (next.before j e));
  below = λ i e. subst IsSome (sym (holds i q.above)) (is_some_there (row_in rows i) q.above (next.below i e));
}

-- ---- the keeper of the table

onto : {X Y : Type 0} (o : Option X) (f : X → Y) (P : X → Type 0) (Q : Y → Type 0) → ((x : X) → P x → Q (f x)) → IfSome o P → IfSome (option_map f o) Q
onto None f P Q h p = tt
onto (Some x) f P Q h p = h x p

-- the keeper goes with the table that has one square more
pub IsKeeperOf-more : (old new : Keeper) (a q : Placed) (before after : Staircase) → a ≡ q → IsKeeperOf old before → new.kept ≡ with_squares old.kept (entry_of a ∷ []) → new.resolved ≡ old.resolved → new.start ≡ old.start → after.resolved ≡ before.resolved → after.start ≡ before.start → after.rows ≡ with_square before.rows q.s q → q.s < length before.rows → IsNext before.rows q.s q.above → IsKeeperOf new after
IsKeeperOf-more old new a q before after same goes put e f g h rows l next =
    let Q : List Entry → Type 0 = λ list. HoldsTable list after.rows in
    let step : (list : List Entry) → HoldsTable list before.rows → Q (list ++ entry_of a ∷ []) = λ list holds. subst (λ (x : Placed). Q (list ++ entry_of x ∷ [])) (sym same) (HoldsTable-push list before.rows after.rows q rows l next holds) in
    record {
      holds = subst (λ o. IfSome o Q) (sym put) (onto old.kept (λ list. list ++ entry_of a ∷ []) (λ list. HoldsTable list before.rows) Q step goes.holds);
      resolved = subst (λ o. IfSome o (λ m. after.resolved ≡ m)) (sym e) (IfSome_then old.resolved goes.resolved (λ m r. g ∙ r));
      start = subst (λ o. IfSome o (λ st. after.start ≡ st)) (sym f) (IfSome_then old.start goes.start (λ st r. h ∙ r));
    }
