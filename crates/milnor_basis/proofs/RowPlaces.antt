-- A row of a matrix that is being filled: what a number there leaves of R's exponents, and of the row's sum.
use Rattle.std.proofs.Common.{◌≡◌, ℕ, zero, suc, ◌+◌, ◌-◌, ◌*◌, ◌/◌, ◌^◌, ◌<◌, ◌≤◌, min, Some, List, [], ◌∷◌, length, drop, refl, sym, subst, ap, ◌∙◌, arith, slice_index, slice_get, slice_set, ◌≢◌, inl, bit_and, bit_or}
use Rattle.std.proofs.Math.Nat.{div-mul-le_self, lt-div-mul-add}
use Rattle.std.proofs.lemmas.Nat.{div-mul-add, mul-le, pow_pos}
use Rattle.std.specs.Int.Bits.{and_zero_l, or_zero_r}
use Rattle.std.proofs.lemmas.List.{get_or-set_same, get_or-set_other, length-set, set-get_or, set-set, drop_more}
use Rattle.milnor_basis.specs.Exponents.{trimmed}
use Rattle.milnor_basis.specs.Basis.{lists_of, basis_of}
use Rattle.milnor_basis.specs.Inside.Walk.{taken, next_row, next_column}
use Rattle.milnor_basis.specs.Inside.FreeRows.{added, greatest_of, least_free, greatest_free, number_above, ArePlaced, IsInRow, TurnsOverAll}
use Rattle.milnor_basis.proofs.BasisLemmas.{weight_above}
use Rattle.milnor_basis.proofs.Steps.{under_quotient}
use Rattle.milnor_basis.proofs.RowZero.{apart_both}
use Rattle.milnor_basis.proofs.FirstRow.{drop_agree, least_none}
use Rattle.milnor_basis.proofs.FreeFill.{TurnsOverAllBelow, free_start, free_end, free_turn, free_shuts}
use Rattle.milnor_basis.proofs.PlacesLeft.{chosen_placed, chosen_room, placed_last_one}

-- Numbers.
pub weight_some : (row : ℕ) → 0 < row → 0 < 2 ^ row - 1
weight_some zero some = absurd (omega arith)
weight_some (suc i) some = weight_above i

quotient_less : (room w n : ℕ) → 0 < w → n ≤ room / w → (room - n * w) / w ≡ room / w - n
quotient_less room w n some l =
    let q = room / w in
    let whole : q - n + n ≡ q = omega arith in
    let ring : (q - n) * w + n * w ≡ (q - n + n) * w = grind arith in
    let all : (q - n) * w + n * w ≡ q * w = ring ∙ ap (λ m. m * w) whole in
    let least : q * w ≤ room = div-mul-le_self room w in
    let most : room < q * w + w = lt-div-mul-add some in
    let is : room - n * w ≡ (q - n) * w + (room - q * w) = omega arith in
    ap (λ m. m / w) is ∙ div-mul-add (q - n) w (room - q * w) (omega arith)

sum_times : (a b n : ℕ) → (a + b) * n ≡ a * n + b * n
sum_times a b n = grind arith

-- The greatest number of a place.
pub greatest_same : (row column room most : ℕ) (columns : List ℕ) → 0 < row → most ≡ room / (2 ^ row - 1) → greatest_of column most columns ≡ greatest_free row column room columns
greatest_same zero column room most columns some e = absurd (omega arith)
greatest_same (suc i) zero room most columns some e = e
greatest_same (suc i) (suc j) room most columns some e = ap (λ m. min (m / 2 ^ suc j) (slice_index columns j)) e

pub greatest_fits : (column most v : ℕ) (columns : List ℕ) → v ≤ greatest_of column most columns → v * 2 ^ column ≤ most
greatest_fits zero most v columns l = let one : v * 2 ^ 0 ≡ v = omega arith in omega arith
greatest_fits (suc j) most v columns l = under_quotient most (2 ^ suc j) v (pow_pos (suc j)) (omega arith)

pub greatest_column : (column most v : ℕ) (columns : List ℕ) → v ≤ greatest_of column most columns → 0 < column → v ≤ slice_index columns (column - 1)
greatest_column zero most v columns l some = absurd (omega arith)
greatest_column (suc j) most v columns l some = let back : j ≡ suc j - 1 = omega arith in subst (λ k. v ≤ slice_index columns k) back (omega arith)

-- what the row can take, with what it has, fits the degree
pub sum_fits : (row sum most below : ℕ) → 0 < row → sum * (2 ^ row - 1) ≤ below → most ≡ (below - sum * (2 ^ row - 1)) / (2 ^ row - 1) → (sum + most) * (2 ^ row - 1) ≤ below
sum_fits row sum most below some fits is =
    let part : most * (2 ^ row - 1) ≤ below - sum * (2 ^ row - 1) = under_quotient (below - sum * (2 ^ row - 1)) (2 ^ row - 1) most (weight_some row some) (subst (λ q. most ≤ q) is (omega arith)) in
    let ring = sum_times sum most (2 ^ row - 1) in
    omega arith

pub sum_small : (row sum below : ℕ) → 0 < row → sum * (2 ^ row - 1) ≤ below → sum ≤ below
sum_small row sum below some fits =
    let least : sum * 1 ≤ sum * (2 ^ row - 1) = mul-le sum 1 sum (2 ^ row - 1) (omega arith) (weight_some row some) in
    omega arith

pub part_fits : (row part sum below : ℕ) → part ≤ sum → sum * (2 ^ row - 1) ≤ below → part * (2 ^ row - 1) ≤ below
part_fits row part sum below l fits =
    let less : part * (2 ^ row - 1) ≤ sum * (2 ^ row - 1) = mul-le part (2 ^ row - 1) sum (2 ^ row - 1) l (omega arith) in
    omega arith

-- a number in the row stays within the degree
pub number_fits : (row part sum most below : ℕ) → 0 < row → part ≤ most → (sum + most) * (2 ^ row - 1) ≤ below → (sum + part ≤ below) × ((sum + part) * (2 ^ row - 1) ≤ below)
number_fits row part sum most below some l fits =
    let all : sum + most ≤ below = sum_small row (sum + most) below some fits in
    (omega arith, part_fits row (sum + part) (sum + most) below (omega arith) fits)

-- The row before anything is in it.
pub nothing_taken : (below weight : ℕ) → below - 0 * weight ≡ below
nothing_taken below weight = omega arith

-- Rows with a number put into one.
row_grows : (degree row sum below left n : ℕ) (rows : List ℕ) → 1 < row → row ≤ 8 → IsInRow degree row sum below left rows → IsInRow degree row (sum + n) below left (added row n rows)
row_grows degree zero sum below left n rows past high is = absurd (omega arith)
row_grows degree (suc i) sum below left n rows past high is =
    let x = slice_index rows i + n in
    let back : suc i - 1 ≡ i = omega arith in
    let here : slice_index rows i ≡ sum = ap (slice_index rows) (sym back) ∙ is.own in
    record {
      high = length-set rows i x ∙ is.high;
      own = ap (slice_index (slice_set rows i x)) back ∙ get_or-set_same rows i x 0 (omega (arith, is.high)) ∙ ap (λ m. m + n) here;
      blank = λ k l. get_or-set_other rows i k x 0 (λ e. omega arith) ∙ is.blank k l;
      placed = subst (ArePlaced degree (suc i) below left) (drop_agree (suc i) rows (slice_set rows i x) (sym (length-set rows i x)) (λ k l. sym (get_or-set_other rows i k x 0 (λ e. omega arith)))) is.placed;
    }

row_ends : (degree row sum below left n below' left' : ℕ) (rows : List ℕ) → 1 < row → row ≤ 8 → below ≡ below' + (sum + n) * (2 ^ row - 1) → left' ≡ left + (length (lists_of row below) - length (lists_of row below'))
    → IsInRow degree row sum below left rows → IsInRow degree (row - 1) 0 below' left' (added row n rows)
row_ends degree zero sum below left n below' left' rows past high of at is = absurd (omega arith)
row_ends degree (suc i) sum below left n below' left' rows past high of at is =
    let x = slice_index rows i + n in
    let back : suc i - 1 ≡ i = omega arith in
    let next : i + 1 ≡ suc i = omega arith in
    let here : slice_index rows i ≡ sum = ap (slice_index rows) (sym back) ∙ is.own in
    let same : drop (suc i) (slice_set rows i x) ≡ drop (suc i) rows = drop_agree (suc i) (slice_set rows i x) rows (length-set rows i x) (λ k l. get_or-set_other rows i k x 0 (λ e. omega arith)) in
    let parts : drop i (slice_set rows i x) ≡ (sum + n) ∷ drop (suc i) rows =
    drop_more (slice_set rows i x) i 0 (omega (arith, length-set rows i x, is.high))
    ∙ ap (λ m. m ∷ drop (i + 1) (slice_set rows i x)) (get_or-set_same rows i x 0 (omega (arith, is.high)) ∙ ap (λ m. m + n) here)
    ∙ ap (λ k. (sum + n) ∷ drop k (slice_set rows i x)) next ∙ ap (λ xs. (sum + n) ∷ xs) same
    in
    let placed : ArePlaced degree (suc i - 1) below' left' ((sum + n) ∷ drop (suc i) rows) = chosen_placed (suc i) below below' (sum + n) left left' (omega arith) of at degree (drop (suc i) rows) is.placed in
    record {
      high = length-set rows i x ∙ is.high;
      own = get_or-set_other rows i (suc i - 1 - 1) x 0 (λ e. omega arith) ∙ is.blank (suc i - 1 - 1) (omega arith);
      blank = λ k l. get_or-set_other rows i k x 0 (λ e. omega arith) ∙ is.blank k (omega arith);
      placed = subst (ArePlaced degree (suc i - 1) below' left') (sym (ap (λ k. drop k (slice_set rows i x)) back ∙ parts)) placed;
    }

-- In row 1 R is known.
pub first_placed : (degree row sum below left : ℕ) (rows : List ℕ) → row ≡ 1 → sum ≡ 0 → IsInRow degree row sum below left rows → slice_get (basis_of degree) left ≡ Some (trimmed (added 1 below rows))
first_placed degree row sum below left rows one none is = by rows is.high (ap (slice_index rows) first ∙ is.own ∙ none) (subst (λ k. ArePlaced degree k below left (drop k rows)) one is.placed) where
  first : 0 ≡ row - 1
  first = omega arith

  by : (rows : List ℕ) → length rows ≡ 8 → slice_index rows 0 ≡ 0 → ArePlaced degree 1 below left (drop 1 rows) → slice_get (basis_of degree) left ≡ Some (trimmed (added 1 below rows))
  by [] high own placed = absurd (omega arith)
  by (x ∷ xs) high own placed =
      let none : x ≡ 0 = own in
      let sum : below ≡ x + below = omega arith in
      placed_last_one degree below left xs placed ∙ ap (λ m. Some (trimmed (m ∷ xs))) sum

-- What is known of the row `next` of the next place, once v is put at (row, column).
pub record IsNextRow (row column v sum below left sum' most' below' left' next : ℕ) : Type 0 where
  pub room : below' - sum' * (2 ^ next - 1) ≡ below - sum * (2 ^ row - 1) - v * 2 ^ column * (2 ^ row - 1)
  pub fits : sum' * (2 ^ next - 1) ≤ below'
  pub most : most' ≡ (below' - sum' * (2 ^ next - 1)) / (2 ^ next - 1)
  pub less : below' ≤ below
  pub place : left' + length (lists_of next below') ≤ left + length (lists_of row below)
  pub begun : next ≡ 1 → sum' ≡ 0
  pub in_row : (degree : ℕ) (rows : List ℕ) → IsInRow degree row sum below left rows → IsInRow degree next sum' below' left' (added row (v * 2 ^ column) rows)

-- it is the same row
module _ (row column v sum most below left sum' most' below' left' next : ℕ) (past : 1 < row) (high : row ≤ 8) (fits : sum * (2 ^ row - 1) ≤ below)
    (is_most : most ≡ (below - sum * (2 ^ row - 1)) / (2 ^ row - 1)) (within : v * 2 ^ column ≤ most) where
  taken_fits : (sum + v * 2 ^ column) * (2 ^ row - 1) ≤ below
  taken_fits = part_fits row (sum + v * 2 ^ column) (sum + most) below (omega arith) (sum_fits row sum most below (omega arith) fits is_most)

  parts : (sum + v * 2 ^ column) * (2 ^ row - 1) ≡ sum * (2 ^ row - 1) + v * 2 ^ column * (2 ^ row - 1)
  parts = sum_times sum (v * 2 ^ column) (2 ^ row - 1)

  pub row_goes_on : next ≡ row → below' ≡ below → left' ≡ left → sum' ≡ sum + v * 2 ^ column → most' ≡ most - v * 2 ^ column → IsNextRow row column v sum below left sum' most' below' left' next
  row_goes_on stays same same_place grown fewer =
      let times : sum' * (2 ^ next - 1) ≡ (sum + v * 2 ^ column) * (2 ^ row - 1) = ap (λ n. n * (2 ^ next - 1)) grown ∙ ap (λ k. (sum + v * 2 ^ column) * (2 ^ k - 1)) stays in
      let room_is : below' - sum' * (2 ^ next - 1) ≡ below - sum * (2 ^ row - 1) - v * 2 ^ column * (2 ^ row - 1) = omega (arith, parts) in
      let many : length (lists_of next below') ≡ length (lists_of row below) = ap (λ k. length (lists_of k below')) stays ∙ ap (λ b. length (lists_of row b)) same in
      record {
        room = room_is;
        fits = omega (arith, taken_fits);
        most =
            fewer ∙ ap (λ m. m - v * 2 ^ column) is_most
            ∙ sym (quotient_less (below - sum * (2 ^ row - 1)) (2 ^ row - 1) (v * 2 ^ column) (weight_some row (omega arith)) (subst (λ m. v * 2 ^ column ≤ m) is_most within))
            ∙ ap (λ b. b / (2 ^ row - 1)) (sym room_is) ∙ ap (λ k. (below' - sum' * (2 ^ next - 1)) / (2 ^ k - 1)) (sym stays);
        less = omega arith;
        place = omega arith;
        begun = λ one. absurd (omega arith);
        in_row = λ degree rows is.
            subst (λ k. IsInRow degree k sum' below' left' (added row (v * 2 ^ column) rows)) (sym stays)
            (subst (λ n. IsInRow degree row n below' left' (added row (v * 2 ^ column) rows)) (sym grown)
            (subst (λ b. IsInRow degree row (sum + v * 2 ^ column) b left' (added row (v * 2 ^ column) rows)) (sym same)
            (subst (λ l. IsInRow degree row (sum + v * 2 ^ column) below l (added row (v * 2 ^ column) rows)) (sym same_place)
            (row_grows degree row sum below left (v * 2 ^ column) rows past high is))));
      }

  -- it is the one above, and the sum is R's exponent
  pub row_is_done : next ≡ row - 1 → sum' ≡ 0 → most' ≡ below' / (2 ^ (row - 1) - 1) → below' ≡ below - (sum + v * 2 ^ column) * (2 ^ row - 1)
      → left' ≡ left + (length (lists_of row below) - length (lists_of row below')) → IsNextRow row column v sum below left sum' most' below' left' next
  row_is_done up none full ends at =
      let whole : below ≡ below' + (sum + v * 2 ^ column) * (2 ^ row - 1) = omega (arith, taken_fits) in
      let nothing : below' - sum' * (2 ^ next - 1) ≡ below' = ap (λ n. below' - n * (2 ^ next - 1)) none ∙ nothing_taken below' (2 ^ next - 1) in
      record {
        room = nothing ∙ ends ∙ omega (arith, parts);
        fits = subst (λ n. n * (2 ^ next - 1) ≤ below') (sym none) (omega arith);
        most = full ∙ ap (λ k. below' / (2 ^ k - 1)) (sym up) ∙ ap (λ b. b / (2 ^ next - 1)) (sym nothing);
        less = omega arith;
        place = subst (λ k. left' + length (lists_of k below') ≤ left + length (lists_of row below)) (sym up) (chosen_room row below below' (sum + v * 2 ^ column) left left' (omega arith) whole at);
        begun = λ one. none;
        in_row = λ degree rows is.
            subst (λ k. IsInRow degree k sum' below' left' (added row (v * 2 ^ column) rows)) (sym up)
            (subst (λ n. IsInRow degree (row - 1) n below' left' (added row (v * 2 ^ column) rows)) (sym none)
            (row_ends degree row sum below left (v * 2 ^ column) below' left' rows past high whole at is));
      }

next_row_above : (row : ℕ) → 1 < row → next_row row 0 ≡ row - 1
next_row_above zero l = absurd (omega arith)
next_row_above (suc i) l = omega arith

pub next_is : (row column v sum most below left sum' most' below' left' next : ℕ) → 1 < row → row ≤ 8 → sum * (2 ^ row - 1) ≤ below → most ≡ (below - sum * (2 ^ row - 1)) / (2 ^ row - 1) → v * 2 ^ column ≤ most → next ≡ next_row row column
    → (0 < column → below' ≡ below) → (0 < column → left' ≡ left) → (0 < column → sum' ≡ sum + v * 2 ^ column) → (0 < column → most' ≡ most - v * 2 ^ column)
    → (column ≡ 0 → sum' ≡ 0) → (column ≡ 0 → most' ≡ below' / (2 ^ (row - 1) - 1)) → (column ≡ 0 → below' ≡ below - (sum + v * 2 ^ column) * (2 ^ row - 1))
    → (column ≡ 0 → left' ≡ left + (length (lists_of row below) - length (lists_of row below'))) → IsNextRow row column v sum below left sum' most' below' left' next
next_is row zero v sum most below left sum' most' below' left' next past high fits is_most within is_next same same_place grown fewer none full ends at =
    row_is_done row zero v sum most below left sum' most' below' left' next past high fits is_most within (is_next ∙ next_row_above row past) (none refl) (full refl) (ends refl) (at refl)
next_is row (suc j) v sum most below left sum' most' below' left' next past high fits is_most within is_next same same_place grown fewer none full ends at =
    let some : 0 < suc j = omega arith in
    row_goes_on row (suc j) v sum most below left sum' most' below' left' next past high fits is_most within is_next (same some) (same_place some) (grown some) (fewer some)

-- A number that has its turn, and those up to the next one that shares no digit with the diagonal.
module _ (degree product w row column v sum below left sum' most' below' left' i j next : ℕ) (columns diagonals columns' diagonals' : List ℕ) (before middle after : List (ℕ × ℕ))
    (small : degree ≤ 255) (past : 1 < row) (high : row ≤ 8) (right : column ≤ w) (known : IsNextRow row column v sum below left sum' most' below' left' i) where
  pub row_turn : i ≡ next_row row column → j ≡ next_column w row column → columns' ≡ taken column v columns
      → diagonals' ≡ slice_set diagonals (row + column - 1) (bit_or (slice_index diagonals (row + column - 1)) v) → length columns ≡ 8 → length diagonals ≡ 16
      → v ≤ greatest_free row column (below - sum * (2 ^ row - 1)) columns → bit_and v (slice_index diagonals (row + column - 1)) ≡ 0
      → v < next → ((u : ℕ) → v < u → u < next → bit_and u (slice_index diagonals (row + column - 1)) ≢ 0)
      → ((rows : List ℕ) → IsInRow degree i sum' below' left' rows → TurnsOverAll degree product w i j (below' - sum' * (2 ^ i - 1)) rows columns' diagonals' middle after)
      → (rows : List ℕ) → IsInRow degree row sum below left rows → TurnsOverAllBelow degree product w row column (below - sum * (2 ^ row - 1)) rows columns diagonals v before middle
      → TurnsOverAllBelow degree product w row column (below - sum * (2 ^ row - 1)) rows columns diagonals next before after
  row_turn at_row at_column is_columns is_diagonals wide long most apart above least turns rows is inv =
      let room = below - sum * (2 ^ row - 1) in
      let d = slice_index diagonals (row + column - 1) in
      let from : least_free row column room columns ≤ v = omega (arith, least_none row column room columns past) in
      let turned = free_turn degree product w row column room rows columns diagonals small high (omega arith) right is.high before v
      i j (below' - sum' * (2 ^ i - 1)) middle after (added row (v * 2 ^ column) rows) columns' diagonals' at_row at_column known.room refl is_columns is_diagonals
      wide long from most apart inv (turns (added row (v * 2 ^ column) rows) (known.in_row degree rows is))
      in
      let skipped = free_shuts degree product w row column room rows columns diagonals small high (omega arith) right is.high before (next - suc v) (suc v) after
      (λ u l m. inl (λ shared. least u (omega arith) (omega arith) (apart_both u d (number_above w row column columns) shared))) turned
      in
      let whole : next - suc v + suc v ≡ next = omega arith in
      subst (λ (m : ℕ). TurnsOverAllBelow degree product w row column room rows columns diagonals m before after) whole skipped

-- Nothing at a place.
pub taken_none : (column : ℕ) (columns : List ℕ) → columns ≡ taken column 0 columns
taken_none zero columns = refl
taken_none (suc j) columns = let same : slice_index columns j ≡ slice_index columns j - 0 = omega arith in sym (set-get_or columns j 0) ∙ ap (slice_set columns j) same

pub with_none : (k : ℕ) (diagonals : List ℕ) → diagonals ≡ slice_set diagonals k (bit_or (slice_index diagonals k) 0)
with_none k diagonals = sym (set-get_or diagonals k 0) ∙ ap (slice_set diagonals k) (sym (or_zero_r (slice_index diagonals k)))

-- A number that is put in a column and taken back.
pub back_fits : (column v : ℕ) (columns : List ℕ) → 0 < column → column ≤ length columns → v ≤ slice_index columns (column - 1) → slice_index (taken column v columns) (column - 1) + v ≡ slice_index columns (column - 1)
back_fits zero v columns some inside fits = absurd (omega arith)
back_fits (suc j) v columns some inside fits =
    let x = slice_index columns j in
    let back : suc j - 1 ≡ j = omega arith in
    let there : slice_index columns (suc j - 1) ≡ x = ap (slice_index columns) back in
    let here : slice_index (slice_set columns j (x - v)) (suc j - 1) ≡ x - v = ap (slice_index (slice_set columns j (x - v))) back ∙ get_or-set_same columns j (x - v) 0 (omega arith) in
    omega (arith, here, there, fits)

pub taken_back : (column v : ℕ) (columns : List ℕ) → column ≤ length columns → (0 < column → v ≤ slice_index columns (column - 1)) → added column v (taken column v columns) ≡ columns
taken_back zero v columns inside fits = refl
taken_back (suc j) v columns inside fits =
    let x = slice_index columns j in
    let some : 0 < suc j = omega arith in
    let back : suc j - 1 ≡ j = omega arith in
    let there : slice_index columns (suc j - 1) ≡ x = ap (slice_index columns) back in
    let whole : slice_index (slice_set columns j (x - v)) j + v ≡ x = omega (arith, get_or-set_same columns j (x - v) 0 (omega arith), there, fits some) in
    set-set columns j (x - v) (slice_index (slice_set columns j (x - v)) j + v) ∙ ap (slice_set columns j) whole ∙ set-get_or columns j 0

pub set_back : (k n : ℕ) (diagonals : List ℕ) → slice_set (slice_set diagonals k n) k (slice_index diagonals k) ≡ diagonals
set_back k n diagonals = set-set diagonals k n (slice_index diagonals k) ∙ set-get_or diagonals k 0

added_none : (row n : ℕ) (rows : List ℕ) → n ≡ 0 → rows ≡ added row n rows
added_none zero n rows e = refl
added_none (suc i) n rows e = let same : slice_index rows i ≡ slice_index rows i + n = omega arith in sym (set-get_or rows i 0) ∙ ap (slice_set rows i) same

-- Columns in which nothing can stand are passed over.
module _ (degree product w row room : ℕ) (rows columns diagonals : List ℕ) (small : degree ≤ 255) (past : 1 < row) (high : row ≤ 8) (many : length rows ≡ 8) (wide : length columns ≡ 8) (long : length diagonals ≡ 16)
    (before after : List (ℕ × ℕ)) where
  pass_one : (column : ℕ) → suc column ≤ w → greatest_free row (suc column) room columns ≡ 0
      → TurnsOverAll degree product w row column room rows columns diagonals before after → TurnsOverAll degree product w row (suc column) room rows columns diagonals before after
  pass_one column right shut turns =
      let above : 0 < row + suc column = omega arith in
      let at = row + suc column - 1 in
      let none : 0 * 2 ^ suc column ≡ 0 = omega arith in
      let same_room : room ≡ room - 0 * 2 ^ suc column * (2 ^ row - 1) = omega arith in
      let least : least_free row (suc column) room columns ≡ 0 = least_none row (suc column) room columns past in
      let start = free_start degree product w row (suc column) room rows columns diagonals small high above right many before in
      free_end degree product w row (suc column) room rows columns diagonals small high above right many before 1 after (omega arith)
      (free_turn degree product w row (suc column) room rows columns diagonals small high above right many before 0 row column room before after rows columns diagonals
      refl refl same_room (added_none row (0 * 2 ^ suc column) rows none) (taken_none (suc column) columns) (with_none at diagonals) wide long (omega arith) (omega arith) (and_zero_l (slice_index diagonals at))
      (subst (λ (n : ℕ). TurnsOverAllBelow degree product w row (suc column) room rows columns diagonals n before before) least start) turns)

  pub pass_over : (more column : ℕ) → more + column ≤ w → ((j : ℕ) → column < j → j ≤ more + column → greatest_free row j room columns ≡ 0)
      → TurnsOverAll degree product w row column room rows columns diagonals before after → TurnsOverAll degree product w row (more + column) room rows columns diagonals before after
  pass_over zero column right shut turns =
      let e : column ≡ 0 + column = omega arith in
      subst (λ (n : ℕ). TurnsOverAll degree product w row n room rows columns diagonals before after) e turns
  pass_over (suc more) column right shut turns =
      let e : suc (more + column) ≡ suc more + column = omega arith in
      subst (λ (n : ℕ). TurnsOverAll degree product w row n room rows columns diagonals before after) e
      (pass_one (more + column) (omega arith) (shut (suc (more + column)) (omega arith) (omega arith)) (pass_over more column (omega arith) (λ j l m. shut j l (omega arith)) turns))
