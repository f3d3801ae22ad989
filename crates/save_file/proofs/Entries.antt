-- A table whose squares were all read has what its start has.
use Rattle.std.proofs.Common.{◌≡◌, ℕ, zero, suc, ◌<◌, ◌≤◌, Bool, true, false, nat_eq, if◌then◌else◌, List, [], ◌∷◌, length, map, take, Option, Some, None, MatchOption, IsSome, refl, sym, ◌∙◌, ap, subst, arith, inl, inr}
use Rattle.std.specs.Prelude.{slice_get, option_and_then}
use Rattle.std.specs.Option.{is_some, unwrap_or, option_map}
use Rattle.std.proofs.lemmas.Option.{none-some}
use Rattle.std.proofs.lemmas.Bool.{cases_lt, false≢true, and_parts, eqb-true}
use Rattle.f2_matrix.specs.Reduction.{Reduction}
use Rattle.resolution_laws.specs.Resolution.{Content, no_content, row_of, below_of}
use Rattle.resolution_laws.specs.Start.{Entry, entry_at, squares_below, row_below}
use Rattle.resolution_laws.proofs.StartLaws.{IsOf-over, squares_below-same, row_below-same}
use Rattle.square.specs.Squares.{Placed, target_width, width_with, square_matrix, over}
use Rattle.square.specs.Tables.{Staircase, row_in, plain_rows, content_at, AllRead, IsNext, IsTable, next_target_width, next_width}
use Rattle.square.proofs.Places.{slice_get-there, content_at-is, table_before, table_below, next_length}
use Rattle.save_file.specs.Bodies.{Kept, entries, is_at, kept_at, content_in, target_dim, source_dim, matrix_with, IsNextPlace}
use Rattle.save_file.specs.Saved.{quasi_kept, kept_of_table}

pub some_is : {A : Type 0} (o : Option A) → IsSome o → (x : A) × (o ≡ Some x)
some_is None e = absurd (false≢true e)
some_is (Some x) e = (x, refl)

pub none_or_some : {A : Type 0} (o : Option A) → ((x : A) → o ≡ Some x → ⊥) → o ≡ None
none_or_some None h = refl
none_or_some (Some x) h = absurd (h x refl)

pub is_within : {X : Type 0} (xs : List X) (k : ℕ) (x : X) → slice_get xs k ≡ Some x → k < length xs
is_within [] k x e = absurd (none-some x e)
is_within (y ∷ xs) zero x e = omega arith
is_within (y ∷ xs) (suc k) x e = let l = is_within xs k x e in omega arith

read_content : (o : Option Content) (S : Type 0) (H : Type 0) (c : Content) → IsSome o → MatchOption o S (λ read. (c ≡ read) × H) → o ≡ Some c
read_content None S H c e p = absurd (false≢true e)
read_content (Some x) S H c e p = ap (λ (y : Content). Some y) (sym p.0)

-- ---- a table whose squares were all read

pub entry_there : (table : Staircase) → IsTable table → AllRead table.rows → (s k : ℕ) → k < length (row_in table.rows s) → entry_at table.start s k ≡ Some (content_at table.rows s k)
entry_there table h read s k l =
    let there = slice_get-there (row_in table.rows s) k l in
    let q = there.0 in
    let is = h.placed s k q there.1 in
    let was : IsSome (entry_at q.start q.s q.above) = read s k q there.1 in
    let at_s = subst (λ n. IsSome (entry_at q.start n q.above)) is.s_is was in
    let at_k = subst (λ n. IsSome (entry_at q.start s n)) is.above_is at_s in
    let here : IsSome (entry_at table.start s k) = subst IsSome (is.beneath s k (omega arith) (omega arith)) at_k in
    let o = IsOf-over (over table.resolved) table.start s k q.content is.is_of in
    read_content (entry_at table.start s k) _ _ q.content here o.here ∙ ap (λ (x : Content). Some x) (sym (content_at-is table.rows s k q there.1))

content_there : (table : Staircase) → IsTable table → AllRead table.rows → (s k : ℕ) → k < length (row_in table.rows s) → content_in table.start s k ≡ content_at table.rows s k
content_there table h read s k l = ap (λ o. unwrap_or o no_content) (entry_there table h read s k l)

-- ---- the next place

pub next_place : (table : Staircase) → IsTable table → AllRead table.rows → (s k : ℕ) → IsNext table.rows s k → IsNextPlace table.start s k
next_place table h read s k next = record {
  absent = none_or_some (entry_at table.start s k) (λ c e. let there = h.started s k c e in let absent = next.absent in omega arith);
  before = λ j e. subst IsSome (sym (entry_there table h read s j (next.before j e))) refl;
  below = λ i e. subst IsSome (sym (entry_there table h read i k (next.below i e))) refl;
}

pub place_next : (table : Staircase) → IsTable table → AllRead table.rows → (s k : ℕ) → IsNextPlace table.start s k → IsNext table.rows s k
place_next table h read s k place = record {
  absent = elim (cases_lt k (length (row_in table.rows s))) [
    | inl l ↦ absurd (false≢true (ap is_some (sym place.absent ∙ entry_there table h read s k l)))
    | inr l ↦ l
  ];
  before = λ j e. let there = some_is (entry_at table.start s j) (place.before j e) in h.started s j there.0 there.1;
  below = λ i e. let there = some_is (entry_at table.start i k) (place.below i e) in h.started i k there.0 there.1;
}

-- ---- the dimensions and the matrix at a place behind squares of its row, with the squares of the row below

-- the place is behind squares of its row, and those of the row below reach it
pub record IsReached (table : Staircase) (s k : ℕ) : Type 0 where
  pub before : k ≤ length (row_in table.rows s)
  pub below : (i : ℕ) → suc i ≡ s → k < length (row_in table.rows i)

pub reached_next : (table : Staircase) (s k : ℕ) → IsNext table.rows s k → IsReached table s k
reached_next table s k next = record { before = let len = next_length table.rows s k next in omega arith; below = next.below }

pub reached_there : (table : Staircase) → IsTable table → (s k : ℕ) → k < length (row_in table.rows s) → IsReached table s k
reached_there table h s k l = record {
  before = omega arith;
  below = λ i e.
      let falls = h.never_rise i in
      let here : k < length (row_in table.rows (suc i)) = subst (λ n. k < length (row_in table.rows n)) (sym e) l in
      omega arith;
}

-- where a list has what the rows have
abbrev pub HasRows : List Entry → List (List Placed) → Type 0
HasRows list rows = (i j : ℕ) → j < length (row_in rows i) → content_in list i j ≡ content_at rows i j

module _ (table : Staircase) (list : List Entry) (has : HasRows list table.rows) (s k : ℕ) (reached : IsReached table s k) where
  rows_before : squares_below (content_in list) s k ≡ take k (row_of (plain_rows table.rows) s)
  rows_before = let l = reached.before in squares_below-same (content_in list) (content_at table.rows) s k (λ j b. has s j (omega arith)) ∙ table_before table.rows s k l

  row_under : row_below (content_in list) s k ≡ below_of (plain_rows table.rows) s k
  row_under = row_below-same (content_in list) (content_at table.rows) s k (λ i j e l. let below = reached.below i e in has i j (omega arith)) ∙ table_below table.rows s k reached.below

  pub target_dim_over : target_dim (over table.resolved) list s k ≡ target_width (over table.resolved) (below_of (plain_rows table.rows) s k) (take k (row_of (plain_rows table.rows) s))
  target_dim_over =
      let m = over table.resolved in
      ap (λ x. target_width m x (squares_below (content_in list) s k)) row_under ∙ ap (λ x. target_width m (below_of (plain_rows table.rows) s k) x) rows_before

  pub source_dim_over : (count : ℕ) → source_dim (over table.resolved) list s k count ≡ width_with (over table.resolved) (take k (row_of (plain_rows table.rows) s)) count
  source_dim_over count = ap (λ x. width_with (over table.resolved) x count) rows_before

  pub matrix_over : (images : List (List Bool)) → matrix_with (over table.resolved) list s k images ≡ square_matrix (over table.resolved) (below_of (plain_rows table.rows) s k) (take k (row_of (plain_rows table.rows) s)) (record { images = images; kernel = [] })
  matrix_over images =
      let m = over table.resolved in
      let c : Content = record { images = images; kernel = [] } in
      ap (λ x. square_matrix m x (squares_below (content_in list) s k) c) row_under ∙ ap (λ x. square_matrix m (below_of (plain_rows table.rows) s k) x c) rows_before

module _ (table : Staircase) (h : IsTable table) (read : AllRead table.rows) (s k : ℕ) (reached : IsReached table s k) where
  pub target_dim_at : target_dim (over table.resolved) table.start s k ≡ target_width (over table.resolved) (below_of (plain_rows table.rows) s k) (take k (row_of (plain_rows table.rows) s))
  target_dim_at = target_dim_over table table.start (content_there table h read) s k reached

  pub source_dim_at : (count : ℕ) → source_dim (over table.resolved) table.start s k count ≡ width_with (over table.resolved) (take k (row_of (plain_rows table.rows) s)) count
  source_dim_at count = source_dim_over table table.start (content_there table h read) s k reached count

  pub matrix_at_is : (images : List (List Bool)) → matrix_with (over table.resolved) table.start s k images ≡ square_matrix (over table.resolved) (below_of (plain_rows table.rows) s k) (take k (row_of (plain_rows table.rows) s)) (record { images = images; kernel = [] })
  matrix_at_is images = matrix_over table table.start (content_there table h read) s k reached images

pub target_dim_is : (table : Staircase) → IsTable table → AllRead table.rows → (s k : ℕ) → IsNext table.rows s k → target_dim (over table.resolved) table.start s k ≡ next_target_width table s k
target_dim_is table h read s k next = target_dim_at table h read s k (reached_next table s k next)

pub source_dim_is : (table : Staircase) → IsTable table → AllRead table.rows → (s k count : ℕ) → IsNext table.rows s k → source_dim (over table.resolved) table.start s k count ≡ next_width table s k count
source_dim_is table h read s k count next = source_dim_at table h read s k (reached_next table s k next) count

-- ---- what the list of a table keeps

-- a square of the start with the reduction that it has in these rows
abbrev pub kept_with : List (List Placed) → Entry → Kept
kept_with rows e = record { entry = e; quasi = quasi_kept rows e.s e.above }

entries-kept_with : (rows : List (List Placed)) (list : List Entry) → entries (map (kept_with rows) list) ≡ list
entries-kept_with rows [] = refl
entries-kept_with rows (e ∷ list) = ap (λ l. e ∷ l) (entries-kept_with rows list)

pub entries_of_table : (table : Staircase) → entries (kept_of_table table) ≡ table.start
entries_of_table table = entries-kept_with table.rows table.start

-- what is kept at a place, if the list has something there
pub kept_content : (rows : List (List Placed)) (s k : ℕ) → Content → Kept
kept_content rows s k c = kept_with rows (record { s = s; above = k; content = c })

kept_at_with : (rows : List (List Placed)) (list : List Entry) (s k : ℕ) → kept_at (map (kept_with rows) list) s k ≡ option_map (kept_content rows s k) (entry_at list s k)
unfolding kept_content
kept_at_with rows [] s k = refl
kept_at_with rows (e ∷ list) s k = by_test (kept_at_with rows list s k) (is_at e s k) refl
  where
    by_test : kept_at (map (kept_with rows) list) s k ≡ option_map (kept_content rows s k) (entry_at list s k) → (b : Bool) → is_at e s k ≡ b → (if b then Some (kept_with rows e) else kept_at (map (kept_with rows) list) s k) ≡ option_map (kept_content rows s k) (if b then Some e.content else entry_at list s k)
    by_test rest true t =
        let p = and_parts (nat_eq e.s s) (nat_eq e.above k) t in
        let made = λ (i j : ℕ). let x : Entry = record { s = i; above = j; content = e.content } in x in
        ap (λ i. Some (kept_with rows (made i e.above))) (eqb-true e.s s p.0) ∙ ap (λ j. Some (kept_with rows (made s j))) (eqb-true e.above k p.1)
    by_test rest false t = rest

-- a square of the table is kept with the reduction that it has
pub kept_there : (table : Staircase) → IsTable table → AllRead table.rows → (s k : ℕ) (q : Placed) → slice_get (row_in table.rows s) k ≡ Some q → kept_at (kept_of_table table) s k ≡ Some (record { entry = record { s = s; above = k; content = q.content }; quasi = q.quasi })
unfolding kept_content
kept_there table h read s k q there =
    let l = is_within (row_in table.rows s) k q there in
    let made = λ (c : Content) (r : Option Reduction). let x : Kept = record { entry = record { s = s; above = k; content = c }; quasi = r } in x in
    let quasi : quasi_kept table.rows s k ≡ q.quasi = ap (option_and_then (λ (x : Placed). x.quasi)) there in
    kept_at_with table.rows table.start s k
    ∙ ap (option_map (kept_content table.rows s k)) (entry_there table h read s k l)
    ∙ ap (λ c. Some (made c (quasi_kept table.rows s k))) (content_at-is table.rows s k q there)
    ∙ ap (λ r. Some (made q.content r)) quasi

-- what is kept is a square of the table
pub kept_is_there : (table : Staircase) → IsTable table → (s k : ℕ) (x : Kept) → kept_at (kept_of_table table) s k ≡ Some x → (q : Placed) × (slice_get (row_in table.rows s) k ≡ Some q)
kept_is_there table h s k x e = from (entry_at table.start s k) refl
  where
    from : (o : Option Content) → entry_at table.start s k ≡ o → (q : Placed) × (slice_get (row_in table.rows s) k ≡ Some q)
    from None none = absurd (none-some x (sym (kept_at_with table.rows table.start s k ∙ ap (option_map (kept_content table.rows s k)) none) ∙ e))
    from (Some c) there = slice_get-there (row_in table.rows s) k (h.started s k c there)

-- ---- the next square of a row

pub next_first : (rows : List (List Placed)) (s k : ℕ) → length (row_in rows s) ≡ k → s ≡ 0 → IsNext rows s k
next_first rows s k len e = record { absent = omega arith; before = λ j d. omega arith; below = λ i d. absurd (omega arith) }
