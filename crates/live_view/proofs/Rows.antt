-- The rows of a view as they lie in memory.
use Rattle.std.proofs.Common.{◌≡◌, ℕ, zero, suc, ◌+◌, ◌-◌, ◌<◌, ◌≤◌, List, [], ◌∷◌, ◌++◌, length, map, set, take, get_or, refl, sym, ap, ◌∙◌, subst, arith, length-take}
use Rattle.std.specs.Prelude.{replicate, min}
use Rattle.std.specs.List.{sum, range_with_len}
use Rattle.std.proofs.Math.ListN.{get_or-append}
use Rattle.std.proofs.lemmas.List.{append_assoc, take_all, take_more_set, get_or-map, length-append, length-map, length-replicate, length-set, map-append, replicate-append-replicate}
use Rattle.std.proofs.lemmas.List.Elements.{All-get_or}
use Rattle.std.proofs.lemmas.List.FromFn.{sum_by-map-range_with_len_more}
use Rattle.bidegree.specs.declared.range.TheConstants.{MAX_S, MAX_T}
use Rattle.live_view.specs.declared.view.Row.{Row}
use Rattle.live_view.specs.Views.{row_of}
use Rattle.live_view.specs.Inside.Rows.{numbers_of, rows_of, IsRow, AreRows, empty_row, with_count}

-- a row that is written
row_written : (rows : List Row) (s : ℕ) (r : Row) → s < length rows → row_of (rows_of rows) s ≡ numbers_of (get_or rows s r)
row_written rows s r there =
    let l = length-map rows numbers_of in
    get_or-append (map numbers_of rows) (replicate (MAX_S + 1 - length rows) []) [] s (omega arith) ∙ get_or-map numbers_of rows s r [] there

empty_numbers : (n : ℕ) → map numbers_of (replicate n empty_row) ≡ replicate n []
empty_numbers zero = refl
empty_numbers (suc n) = ap (λ (v : List (List ℕ)). [] ∷ v) (empty_numbers n)

-- with so many rows more that have no square
more_same : (rows : List Row) (n : ℕ) → length rows + n ≤ MAX_S + 1 → rows_of (rows ++ replicate n empty_row) ≡ rows_of rows
more_same rows n room =
    let long : length (rows ++ replicate n empty_row) ≡ length rows + n = length-append rows (replicate n empty_row) ∙ ap (λ (k : ℕ). length rows + k) (length-replicate n empty_row) in
    let left : n + (MAX_S + 1 - (length rows + n)) ≡ MAX_S + 1 - length rows = omega arith in
    let none : ℕ → List (List ℕ) = λ (k : ℕ). replicate k [] in
    ap (λ (k : ℕ). map numbers_of (rows ++ replicate n empty_row) ++ none (MAX_S + 1 - k)) long
    ∙ (ap (λ (v : List (List ℕ)). v ++ none (MAX_S + 1 - (length rows + n))) (map-append numbers_of rows (replicate n empty_row) ∙ ap (λ (v : List (List ℕ)). map numbers_of rows ++ v) (empty_numbers n))
    ∙ (append_assoc (map numbers_of rows) (none n) (none (MAX_S + 1 - (length rows + n)))
    ∙ ap (λ (v : List (List ℕ)). map numbers_of rows ++ v) (replicate-append-replicate n (MAX_S + 1 - (length rows + n)) [] ∙ ap none left)))

-- the rows, through row s
pub reach_same : (rows next : List Row) (s n : ℕ) → n ≡ length rows → n ≤ s → s ≤ MAX_S → next ≡ take (s + 1) rows ++ replicate (s + 1 - n) empty_row → rows_of next ≡ rows_of rows
reach_same rows next s n long less most is =
    let whole : take (s + 1) rows ≡ rows = take_all (s + 1) rows (omega arith) in
    ap rows_of (is ∙ ap (λ (l : List Row). l ++ replicate (s + 1 - n) empty_row) whole) ∙ more_same rows (s + 1 - n) (omega arith)

-- a row with one square more
pushed : (rows : List Row) (none : List (List ℕ)) (s : ℕ) (r : Row) (n : ℕ) → s < length rows → r ≡ get_or rows s r → r.done < length r.counts → map numbers_of (set rows s (record { done = r.done + 1; counts = set r.counts r.done n })) ++ none ≡ with_count (map numbers_of rows ++ none) s n
pushed [] none s r n l is room = absurd (omega arith)
pushed (x ∷ rows) none zero r n l is room = ap (λ (row : List ℕ). row ∷ (map numbers_of rows ++ none)) (take_more_set r.counts r.done n room ∙ ap (λ (y : Row). numbers_of y ++ n ∷ []) is)
pushed (x ∷ rows) none (suc s) r n l is room = ap (λ (v : List (List ℕ)). numbers_of x ∷ v) (pushed rows none s r n (omega arith) is room)

pub push_is : (view : List (List ℕ)) (rows : List Row) (s i : ℕ) (r : Row) (n : ℕ) → AreRows rows → i < length rows → rows_of rows ≡ view → i ≡ s → r ≡ get_or rows i r → length (row_of view s) ≤ MAX_T → rows_of (set rows i (record { done = r.done + 1; counts = set r.counts r.done n })) ≡ with_count view s n
push_is view rows s i r n are there of at is room =
    let next : List Row = set rows i (record { done = r.done + 1; counts = set r.counts r.done n }) in
    let row : IsRow r = subst IsRow (sym is) (All-get_or IsRow rows i r there are.each) in
    let here : row_of view s ≡ numbers_of r = ap (λ (k : ℕ). row_of view k) (sym at) ∙ (ap (λ (v : List (List ℕ)). row_of v i) (sym of) ∙ (row_written rows i r there ∙ ap numbers_of (sym is))) in
    let long = length-take r.done r.counts in
    let same = ap length here in
    let low = row.room in
    let whole = row.whole in
    ap (λ (k : ℕ). map numbers_of next ++ replicate (MAX_S + 1 - k) []) (length-set rows i (record { done = r.done + 1; counts = set r.counts r.done n }))
    ∙ (pushed rows (replicate (MAX_S + 1 - length rows) []) i r n there is (omega arith)
    ∙ (ap (λ (v : List (List ℕ)). with_count v i n) of ∙ ap (λ (k : ℕ). with_count view k n) at))

-- the squares of one row more
pub total_more : (f : ℕ → ℕ) (k total n : ℕ) → total ≡ sum (map f (range_with_len 0 k)) → n ≡ f k → total + n ≡ sum (map f (range_with_len 0 (k + 1)))
total_more f k total n e h = ap (λ x. x + n) e ∙ ap (λ x. sum (map f (range_with_len 0 k)) + x) h ∙ sym (sum_by-map-range_with_len_more (λ x. x) f 0 k k (omega arith))

-- the squares of a row that are of the range
pub row_more : (n len t row most : ℕ) → n ≡ min len (t + 1) → len ≡ row → t ≡ most → n ≡ min row (most + 1)
row_more n len t row most is long wide = is ∙ (ap (λ (k : ℕ). min k (t + 1)) long ∙ ap (λ (k : ℕ). min row (k + 1)) wide)
