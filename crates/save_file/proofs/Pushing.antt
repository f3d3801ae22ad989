-- Squares that were read, put into a table one after the other.
use Rattle.std.proofs.Common.{◌≡◌, ◌⊎◌, ℕ, zero, suc, ◌<◌, ◌≤◌, Bool, true, false, nat_eq, if◌then◌else◌, List, [], ◌∷◌, ◌++◌, length, map, replicate, Option, Some, IsSome, refl, sym, ◌∙◌, ap, subst, arith, inl, inr}
use Rattle.std.specs.Prelude.{slice_get, option_and_then}
use Rattle.std.specs.List.{AllByRecursion}
use Rattle.std.proofs.lemmas.Bool.{cases_eq, false≢true, cond-true, and_parts, and_from, eqb-true, eq-eqb}
use Rattle.std.proofs.lemmas.List.{map-append}
use Rattle.f2_matrix.specs.Reduction.{Reduction}
use Rattle.std.proofs.lemmas.Option.{none-some}
use Rattle.bidegree.specs.declared.range.TheConstants.{MAX_S}
use Rattle.resolution_laws.specs.Start.{Entry, entry_at}
use Rattle.resolution_laws.proofs.StartLaws.{entry_at-new}
use Rattle.square.specs.Squares.{Placed, entry_of, WasRead}
use Rattle.square.specs.Tables.{Staircase, row_in, with_square, AllRead, IsNext, IsTable, reduced_in_row, with_quasi}
use Rattle.square.proofs.Places.{row_in-none, next_length}
use Rattle.square.proofs.Growing.{read_new, read_other}
use Rattle.square.proofs.Reducing.{in_rows}
use Rattle.square.proofs.Pushing.{row_in-same, row_in-other}
use Rattle.save_file.specs.Bodies.{Kept, kept_of, is_at, given_quasi, with_quasi_at}
use Rattle.save_file.specs.Saved.{quasi_kept, kept_of_table}
use Rattle.save_file.proofs.Entries.{some_is, next_place, kept_with}

pub AllRead-none : (n : ℕ) → AllRead (replicate n [])
AllRead-none n s k q e = absurd (none-some q (ap (λ (row : List Placed). slice_get row k) (sym (row_in-none n s)) ∙ e))

last_or_before : (row : List Placed) (q x : Placed) (k : ℕ) → slice_get (row ++ q ∷ []) k ≡ Some x → (slice_get row k ≡ Some x) ⊎ (q ≡ x)
last_or_before [] q x zero e = inr cc
last_or_before [] q x (suc k) e = absurd (none-some x e)
last_or_before (y ∷ row) q x zero e = inl e
last_or_before (y ∷ row) q x (suc k) e = last_or_before row q x k e

pub AllRead-push : (rows : List (List Placed)) (s : ℕ) (q : Placed) → s < length rows → AllRead rows → WasRead q → AllRead (with_square rows s q)
AllRead-push rows s q within read was i k x e = elim (cases_eq i s) [
  | inr other ↦ read i k x (ap (λ (row : List Placed). slice_get row k) (sym (row_in-other rows s i q other)) ∙ e)
  | inl same ↦
      let here : slice_get (row_in rows s ++ q ∷ []) k ≡ Some x = ap (λ (row : List Placed). slice_get row k) (sym (row_in-same rows s q within)) ∙ ap (λ n. slice_get (row_in (with_square rows s q) n) k) (sym same) ∙ e in
      elim (last_or_before (row_in rows s) q x k here) [
        | inl before ↦ read s k x before
        | inr last ↦ subst WasRead last was
      ]
]

-- the table with a square that was read behind its own
pub AllRead-pushed : (table : Staircase) (q p : Placed) (rows : List (List Placed)) → IsTable table → AllRead table.rows → q.s ≤ MAX_S → q.start ≡ table.start ++ entry_of q ∷ [] → IsNext table.rows q.s q.above → p ≡ q → rows ≡ with_square table.rows p.s p → AllRead rows
AllRead-pushed table q p rows h read within start next same e =
    let place = next_place table h read q.s q.above next in
    let was : WasRead q = subst IsSome (sym (ap (λ l. entry_at l q.s q.above) start ∙ entry_at-new table.start (entry_of q) place.absent)) refl in
    let rows_are = h.rows in
    subst AllRead (sym (e ∙ ap (λ (x : Placed). with_square table.rows x.s x) same)) (AllRead-push table.rows q.s q (omega arith) read was)

-- ---- squares at the places of a list

pub some_more : (x : Entry) (list : List Entry) (s k : ℕ) → IsSome (entry_at list s k) → IsSome (entry_at (x ∷ list) s k)
some_more x list s k there = by_test (is_at x s k)
  where
    by_test : (b : Bool) → IsSome (if b then Some x.content else entry_at list s k)
    by_test true = refl
    by_test false = there

abbrev IsListed : List Entry → Entry → Type 0
IsListed list e = IsSome (entry_at list e.s e.above)

listed_more : (x : Entry) (list part : List Entry) → AllByRecursion (IsListed list) part → AllByRecursion (IsListed (x ∷ list)) part
listed_more x list [] all = tt
listed_more x list (e ∷ part) all = (some_more x list e.s e.above all.0, listed_more x list part all.1)

pub first_listed : (x : Entry) (list : List Entry) → IsSome (entry_at (x ∷ list) x.s x.above)
first_listed x list =
    let here : is_at x x.s x.above ≡ true = and_from (nat_eq x.s x.s) (nat_eq x.above x.above) (eq-eqb x.s x.s refl) (eq-eqb x.above x.above refl) in
    subst IsSome (sym (cond-true (is_at x x.s x.above) (Some x.content) (entry_at list x.s x.above) here)) refl

all_listed : (list : List Entry) → AllByRecursion (IsListed list) list
all_listed [] = tt
all_listed (x ∷ list) = (first_listed x list, listed_more x list list (all_listed list))

map_same : (f g : Entry → Kept) (P : Entry → Type 0) (list : List Entry) → AllByRecursion P list → ((e : Entry) → P e → f e ≡ g e) → map f list ≡ map g list
map_same f g P [] all same = refl
map_same f g P (e ∷ list) all same = ap (λ k. k ∷ map f list) (same e all.0) ∙ ap (λ l. g e ∷ l) (map_same f g P list all.1 same)

-- where the list of a table has a square, the table has one
within_of : (table : Staircase) → IsTable table → (e : Entry) → IsListed table.start e → e.above < length (row_in table.rows e.s)
within_of table h e there = let found = some_is (entry_at table.start e.s e.above) there in h.started e.s e.above found.0 found.1

-- ---- what is kept with a square more

kept_stays : (table : Staircase) (q : Placed) → IsTable table → q.s < length table.rows → length (row_in table.rows q.s) ≡ q.above → map (kept_with (with_square table.rows q.s q)) table.start ≡ map (kept_with table.rows) table.start
kept_stays table q h within end = map_same (kept_with (with_square table.rows q.s q)) (kept_with table.rows) (IsListed table.start) table.start (all_listed table.start) (λ e there.
    let l = within_of table h e there in
    let off : e.s ≡ q.s → e.above ≡ q.above → ⊥ = λ p r. let same = ap (λ i. length (row_in table.rows i)) p in omega arith in
    let made = λ (r : Option Reduction). let x : Kept = record { entry = e; quasi = r } in x in
    ap (λ o. made (option_and_then (λ (x : Placed). x.quasi) o)) (read_other table.rows q.s q.above e.s e.above q within end off))

pub kept_pushed : (table new : Staircase) (q p : Placed) → IsTable table → q.s ≤ MAX_S → IsNext table.rows q.s q.above → p ≡ q → new.rows ≡ with_square table.rows p.s p → new.start ≡ p.start → q.start ≡ table.start ++ entry_of q ∷ [] → kept_of_table new ≡ kept_of_table table ++ kept_of q ∷ []
kept_pushed table new q p h small next same rows start more =
    let rows_are = h.rows in
    let within : q.s < length table.rows = omega arith in
    let end = next_length table.rows q.s q.above next in
    let after = with_square table.rows q.s q in
    let rows' : new.rows ≡ after = rows ∙ ap (λ (x : Placed). with_square table.rows x.s x) same in
    let start' : new.start ≡ table.start ++ entry_of q ∷ [] = start ∙ ap (λ (x : Placed). x.start) same ∙ more in
    let made = λ (r : Option Reduction). let x : Kept = record { entry = entry_of q; quasi = r } in x in
    let last : kept_with after (entry_of q) ≡ kept_of q = ap (λ o. made (option_and_then (λ (x : Placed). x.quasi) o)) (read_new table.rows q.s q.above q within end) in
    ap (λ r. map (kept_with r) new.start) rows'
    ∙ ap (map (kept_with after)) start'
    ∙ map-append (kept_with after) table.start (entry_of q ∷ [])
    ∙ ap (λ l. l ++ kept_with after (entry_of q) ∷ []) (kept_stays table q h within end)
    ∙ ap (λ k. map (kept_with table.rows) table.start ++ k ∷ []) last

-- ---- what is kept where a square was given its reduction

quasi_in : List Placed → ℕ → Option Reduction
quasi_in row k = option_and_then (λ (q : Placed). q.quasi) (slice_get row k)

given_in_row : (row : List Placed) (k : ℕ) (r : Reduction) → k < length row → quasi_in (reduced_in_row row k r) k ≡ Some r
unfolding quasi_in
given_in_row [] k r l = absurd (omega arith)
given_in_row (q ∷ row) zero r l = refl
given_in_row (q ∷ row) (suc k) r l = given_in_row row k r (omega arith)

other_in_row : (row : List Placed) (k j : ℕ) (r : Reduction) → (j ≡ k → ⊥) → quasi_in (reduced_in_row row k r) j ≡ quasi_in row j
unfolding quasi_in
other_in_row [] k j r off = refl
other_in_row (q ∷ row) zero zero r off = absurd (off refl)
other_in_row (q ∷ row) zero (suc j) r off = refl
other_in_row (q ∷ row) (suc k) zero r off = refl
other_in_row (q ∷ row) (suc k) (suc j) r off = other_in_row row k j r (λ e. off (ap suc e))

pub quasi_given : (rows : List (List Placed)) (s k : ℕ) (r : Reduction) → k < length (row_in rows s) → quasi_kept (with_quasi rows s k r) s k ≡ Some r
unfolding quasi_in
quasi_given [] s k r l = absurd (omega arith)
quasi_given (row ∷ rows) zero k r l = given_in_row row k r l
quasi_given (row ∷ rows) (suc s) k r l = quasi_given rows s k r l

pub quasi_stays : (rows : List (List Placed)) (s k i j : ℕ) (r : Reduction) → (i ≡ s → j ≡ k → ⊥) → quasi_kept (with_quasi rows s k r) i j ≡ quasi_kept rows i j
unfolding quasi_in
quasi_stays [] s k i j r off = refl
quasi_stays (row ∷ rows) zero k zero j r off = other_in_row row k j r (off refl)
quasi_stays (row ∷ rows) zero k (suc i) j r off = refl
quasi_stays (row ∷ rows) (suc s) k zero j r off = refl
quasi_stays (row ∷ rows) (suc s) k (suc i) j r off = quasi_stays rows s k i j r (λ e f. off (ap suc e) f)

abbrev with_kept : Entry → Option Reduction → Kept
with_kept e o = record { entry = e; quasi = o }

given_one : (rows : List (List Placed)) (s k : ℕ) (r : Reduction) → k < length (row_in rows s) → (e : Entry) → kept_with (with_quasi rows s k r) e ≡ given_quasi s k r (kept_with rows e)
given_one rows s k r l e = by_test (is_at e s k) refl
  where
    by_test : (b : Bool) → is_at e s k ≡ b → kept_with (with_quasi rows s k r) e ≡ (if b then record { entry = e; quasi = Some r } else kept_with rows e)
    by_test true t =
        let p = and_parts (nat_eq e.s s) (nat_eq e.above k) t in
        ap (with_kept e) (ap (λ i. quasi_kept (with_quasi rows s k r) i e.above) (eqb-true e.s s p.0) ∙ ap (quasi_kept (with_quasi rows s k r) s) (eqb-true e.above k p.1) ∙ quasi_given rows s k r l)
    by_test false t = ap (with_kept e) (quasi_stays rows s k e.s e.above r (λ p q. false≢true (sym t ∙ and_from (nat_eq e.s s) (nat_eq e.above k) (eq-eqb e.s s p) (eq-eqb e.above k q))))

given_all : (rows : List (List Placed)) (s k : ℕ) (r : Reduction) → k < length (row_in rows s) → (list : List Entry) → map (kept_with (with_quasi rows s k r)) list ≡ with_quasi_at (map (kept_with rows) list) s k r
given_all rows s k r l [] = refl
given_all rows s k r l (e ∷ list) = ap (λ x. x ∷ map (kept_with (with_quasi rows s k r)) list) (given_one rows s k r l e) ∙ ap (λ xs. given_quasi s k r (kept_with rows e) ∷ xs) (given_all rows s k r l list)

pub kept_given : (table new : Staircase) (s k : ℕ) (r : Reduction) → k < length (row_in table.rows s) → new.rows ≡ with_quasi table.rows s k r → new.start ≡ table.start → kept_of_table new ≡ with_quasi_at (kept_of_table table) s k r
kept_given table new s k r l rows start =
    ap (λ x. map (kept_with x) new.start) rows ∙ ap (map (kept_with (with_quasi table.rows s k r))) start ∙ given_all table.rows s k r l table.start

-- the squares were read as before
pub AllRead-given : (rows new : List (List Placed)) (s k : ℕ) (r : Reduction) → new ≡ with_quasi rows s k r → AllRead rows → AllRead new
AllRead-given rows new s k r e read = subst AllRead (sym e) (λ i j p there.
    let found = in_rows rows s k i j r p there in
    subst WasRead (sym found.is) (read i j found.old found.there))
