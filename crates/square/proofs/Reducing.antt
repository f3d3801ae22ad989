-- A table, one square of which is given its reduction.
use Rattle.std.proofs.Common.{◌≡◌, ℕ, ℤ, zero, suc, List, [], ◌∷◌, length, map, get_or, Some, refl, sym, ◌∙◌, ap, subst, arith}
use Rattle.std.specs.Prelude.{slice_get, slice_set}
use Rattle.std.proofs.lemmas.List.{length-map}
use Rattle.std.proofs.lemmas.Option.{slice_get_within, slice_get_read}
use Rattle.f2_matrix.specs.Reduction.{Reduction}
use Rattle.finite_module.specs.Checked.{Checked}
use Rattle.resolution_laws.specs.Start.{Entry}
use Rattle.square.specs.Squares.{Placed}
use Rattle.square.specs.Tables.{Staircase, Shelf, contents, row_in, plain_rows, square_at, reduced_in_row, with_quasi, IsIn, IsTable}
use Rattle.square.proofs.Found.{square_found, row_within}

-- a square of the new rows is that of the old ones, but for its reduction
pub record IsButReduced (rows : List (List Placed)) (i j : ℕ) (p : Placed) : Type 0 where
  pub old : Placed
  pub there : slice_get (row_in rows i) j ≡ Some old
  pub is : p ≡ record old { quasi = p.quasi }

in_row : (row : List Placed) (k j : ℕ) (r : Reduction) (p : Placed) → slice_get (reduced_in_row row k r) j ≡ Some p → (old : Placed) × (slice_get row j ≡ Some old) × (p ≡ record old { quasi = p.quasi })
in_row [] k j r p e = cc
in_row (q ∷ row) zero zero r p e = let same : record q { quasi = Some r } ≡ p = cc in (q, refl, subst (λ (x : Placed). x ≡ record q { quasi = x.quasi }) same refl)
in_row (q ∷ row) zero (suc j) r p e = (p, e, refl)
in_row (q ∷ row) (suc k) zero r p e = (p, e, refl)
in_row (q ∷ row) (suc k) (suc j) r p e = in_row row k j r p e

pub in_rows : (rows : List (List Placed)) (s k i j : ℕ) (r : Reduction) (p : Placed) → slice_get (row_in (with_quasi rows s k r) i) j ≡ Some p → IsButReduced rows i j p
in_rows [] s k i j r p e = cc
in_rows (row ∷ rows) zero k zero j r p e = let found = in_row row k j r p e in record { old = found.0; there = found.1; is = found.2 }
in_rows (row ∷ rows) zero k (suc i) j r p e = record { old = p; there = e; is = refl }
in_rows (row ∷ rows) (suc s) k zero j r p e = record { old = p; there = e; is = refl }
in_rows (row ∷ rows) (suc s) k (suc i) j r p e = let rest = in_rows rows s k i j r p e in record { old = rest.old; there = rest.there; is = rest.is }

length-in_row : (row : List Placed) (k : ℕ) (r : Reduction) → length (reduced_in_row row k r) ≡ length row
length-in_row [] k r = refl
length-in_row (q ∷ row) zero r = refl
length-in_row (q ∷ row) (suc k) r = ap suc (length-in_row row k r)

pub length-in_rows : (rows : List (List Placed)) (s k i : ℕ) (r : Reduction) → length (row_in (with_quasi rows s k r) i) ≡ length (row_in rows i)
length-in_rows [] s k i r = refl
length-in_rows (row ∷ rows) zero k zero r = length-in_row row k r
length-in_rows (row ∷ rows) zero k (suc i) r = refl
length-in_rows (row ∷ rows) (suc s) k zero r = refl
length-in_rows (row ∷ rows) (suc s) k (suc i) r = length-in_rows rows s k i r

length-with_quasi : (rows : List (List Placed)) (s k : ℕ) (r : Reduction) → length (with_quasi rows s k r) ≡ length rows
length-with_quasi [] s k r = refl
length-with_quasi (row ∷ rows) zero k r = refl
length-with_quasi (row ∷ rows) (suc s) k r = ap suc (length-with_quasi rows s k r)

contents-in_row : (row : List Placed) (k : ℕ) (r : Reduction) → contents (reduced_in_row row k r) ≡ contents row
contents-in_row [] k r = refl
contents-in_row (q ∷ row) zero r = refl
contents-in_row (q ∷ row) (suc k) r = ap (λ l. q.content ∷ l) (contents-in_row row k r)

-- the squares hold what they held
pub plain_rows-with_quasi : (rows : List (List Placed)) (s k : ℕ) (r : Reduction) → plain_rows (with_quasi rows s k r) ≡ plain_rows rows
plain_rows-with_quasi [] s k r = refl
plain_rows-with_quasi (row ∷ rows) zero k r = ap (λ l. l ∷ plain_rows rows) (contents-in_row row k r)
plain_rows-with_quasi (row ∷ rows) (suc s) k r = ap (λ l. contents row ∷ l) (plain_rows-with_quasi rows s k r)

-- a square with another reduction is as much in the table
IsIn-reduced : (resolved : Checked) (start : List Entry) (rows rows' : List (List Placed)) (spare spare' s k : ℕ) (old p : Placed) → p ≡ record old { quasi = p.quasi } → IsIn (record { resolved = resolved; start = start; rows = rows; spare = spare }) s k old → IsIn (record { resolved = resolved; start = start; rows = rows'; spare = spare' }) s k p
IsIn-reduced resolved start rows rows' spare spare' s k old p is h =
    let P : Placed → Type 0 = λ x. IsIn (record { resolved = resolved; start = start; rows = rows'; spare = spare' }) s k x in
    let here : P (record old { quasi = p.quasi }) = record { s_is = h.s_is; above_is = h.above_is; within = h.within; resolved_is = h.resolved_is; is_of = h.is_of; beneath = h.beneath; start_is = h.start_is } in
    subst P (sym is) here

pub IsTable-quasi : (resolved : Checked) (start : List Entry) (rows rows' : List (List Placed)) (s k spare spare' : ℕ) (r : Reduction) → rows' ≡ with_quasi rows s k r → IsTable (record { resolved = resolved; start = start; rows = rows; spare = spare }) → IsTable (record { resolved = resolved; start = start; rows = rows'; spare = spare' })
IsTable-quasi resolved start rows rows' s k spare spare' r e h =
    let P : List (List Placed) → Type 0 = λ x. IsTable (record { resolved = resolved; start = start; rows = x; spare = spare' }) in
    subst P (sym e) (record {
      rows = length-with_quasi rows s k r ∙ h.rows;
      never_rise = λ i.
          let low = length-in_rows rows s k (suc i) r in
          let high = length-in_rows rows s k i r in
          let fall = h.never_rise i in
          omega arith;
      placed = λ i j p there. let found = in_rows rows s k i j r p there in IsIn-reduced resolved start rows (with_quasi rows s k r) spare spare' i j found.old p found.is (h.placed i j found.old found.there);
      started = λ i j c at. let len = length-in_rows rows s k i r in let within = h.started i j c at in omega arith;
    })

-- ---- the rows as they are held

set_in_row : (row : List Placed) (k : ℕ) (q : Placed) (r : Reduction) → slice_get row k ≡ Some q → slice_set row k (record q { quasi = Some r }) ≡ reduced_in_row row k r
set_in_row [] k q r e = refl
set_in_row (x ∷ row) zero q r e = let same : x ≡ q = cc in ap (λ (y : Placed). record y { quasi = Some r } ∷ row) (sym same)
set_in_row (x ∷ row) (suc k) q r e = ap (λ l. x ∷ l) (set_in_row row k q r e)

map-reduced : (rows : List Shelf) (s k : ℕ) (old new : Shelf) (q : Placed) (r : Reduction) → slice_get rows s ≡ Some old → slice_get old.squares k ≡ Some q → new.squares ≡ slice_set old.squares k (record q { quasi = Some r }) → map (λ (x : Shelf). x.squares) (slice_set rows s new) ≡ with_quasi (map (λ (x : Shelf). x.squares) rows) s k r
map-reduced [] s k old new q r e there h = cc
map-reduced (x ∷ rows) zero k old new q r e there h =
    let same : x ≡ old = cc in
    ap (λ l. l ∷ map (λ (x : Shelf). x.squares) rows) (h ∙ set_in_row old.squares k q r there ∙ ap (λ (y : Shelf). reduced_in_row y.squares k r) (sym same))
map-reduced (x ∷ rows) (suc s) k old new q r e there h = ap (λ l. x.squares ∷ l) (map-reduced rows s k old new q r e there h)

-- a row and a square of it, as they are held
pub record IsHeldAt (rows : List Shelf) (s k : ℕ) (old : Shelf) (q : Placed) : Type 0 where
  pub row : slice_get rows s ≡ Some old
  pub square : slice_get old.squares k ≡ Some q

row_in-held : (rows : List Shelf) (s : ℕ) (old : Shelf) → slice_get rows s ≡ Some old → row_in (map (λ (x : Shelf). x.squares) rows) s ≡ old.squares
row_in-held [] s old e = cc
row_in-held (x ∷ rows) zero old e = let same : x ≡ old = cc in ap (λ (y : Shelf). y.squares) same
row_in-held (x ∷ rows) (suc s) old e = row_in-held rows s old e

held_at : (rows : List Shelf) (seen : List (List Placed)) (s k i : ℕ) (old : Shelf) (q : Placed) → map (λ (x : Shelf). x.squares) rows ≡ seen → slice_get (row_in seen s) k ≡ Some q → i ≡ s → old ≡ get_or rows i old → IsHeldAt rows i k old q
held_at rows seen s k i old q same there at e =
    let within = row_within seen s k (slice_get_within (row_in seen s) k q there) in
    let len = length-map rows (λ (x : Shelf). x.squares) in
    let lens = ap length same in
    let row : slice_get rows i ≡ Some old = slice_get_read rows (length rows) i old refl (omega arith) e in
    let squares : row_in seen s ≡ old.squares = ap (λ (x : List (List Placed)). row_in x s) (sym same) ∙ ap (row_in (map (λ (x : Shelf). x.squares) rows)) (sym at) ∙ row_in-held rows i old row in
    record { row = row; square = ap (λ (x : List Placed). slice_get x k) (sym squares) ∙ there }

-- the square that is found in a degree of the table
pub held_found : (table : Staircase) → IsTable table → (s : ℕ) (t : ℤ) (q : Placed) (rows : List Shelf) (i j : ℕ) (old : Shelf) → map (λ (x : Shelf). x.squares) rows ≡ table.rows → square_at table s t ≡ Some q → i ≡ s → j ≡ q.above → old ≡ get_or rows i old → IsHeldAt rows i j old q
held_found table h s t q rows i j old seen there row at e =
    let f = square_found table s t q there in
    let same : f.above ≡ j = sym (at ∙ (h.placed s f.above q f.there).above_is) in
    subst (λ (n : ℕ). IsHeldAt rows i n old q) same (held_at rows table.rows s f.above i old q seen f.there row e)

-- its row, with the square that has its reduction in its place
pub put_reduced : (rows : List Shelf) (i j : ℕ) (old new : Shelf) (q p : Placed) (r : Reduction) → IsHeldAt rows i j old q → p ≡ record q { quasi = Some r } → new.squares ≡ slice_set old.squares j p → map (λ (x : Shelf). x.squares) (slice_set rows i new) ≡ with_quasi (map (λ (x : Shelf). x.squares) rows) i j r
put_reduced rows i j old new q p r held is same = map-reduced rows i j old new q r held.row held.square (same ∙ ap (slice_set old.squares j) is)
