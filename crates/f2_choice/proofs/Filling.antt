-- Columns of coefficients that are filled in one after the other.
use Rattle.std.proofs.Common.{◌≡◌, ◌≢◌, ℕ, ◌+◌, ◌-◌, ◌<◌, ◌≤◌, nat_eq, Bool, false, List, [], ◌++◌, length, map, set, reverse, refl, ap, sym, ◌∙◌, arith, inl, inr}
use Rattle.std.specs.List.{range_with_len}
use Rattle.std.proofs.lemmas.Bool.{cases_lt, cases_eq, eq-eqb, ne_eqb}
use Rattle.std.proofs.lemmas.List.{ext_get_or, get_or-map, length-map, length-set, length-append, get_or-set_same, get_or-set_other, get_or_append_left, get_or-append_right, length-reverse}
use Rattle.std.proofs.lemmas.List.FromFn.{length-map-range_with_len, get_or-map-range_with_len}
use Rattle.f2_vec.specs.Vectors.{plus, sum_of, zeros, bit}
use Rattle.f2_vec.specs.Spans.{row, HaveWidth, unit_vector}
use Rattle.f2_vec.proofs.Sums.{bit-sum_of, bit-zeros, length-sum_of, length-zeros, plus-false}
use Rattle.f2_vec.proofs.Split.{length-unit_vector, bit-unit_vector}
use Rattle.f2_matrix.specs.Preimages.{pivot_of, at_pivots}
use Rattle.f2_matrix.specs.Reduction.{augmented}
use Rattle.f2_matrix.proofs.Split.{length-augmented, row-augmented}
use Rattle.f2_matrix.proofs.Pivots.{bit-at_pivots}
use Rattle.f2_choice.specs.Inside.Columns.{column, ChangesOnlyColumn}
use Rattle.f2_choice.specs.Coordinates.{coordinates}
use Rattle.f2_choice.proofs.OnCandidates.{row-column}

pub length-column : (k : ℕ) (rows : List (List Bool)) → length (column k rows) ≡ length rows
length-column k rows = length-map rows (λ v. bit v k)

-- ---- one column

pub ChangesOnlyColumn-start : (at : ℕ) (rows : List (List Bool)) → ChangesOnlyColumn at rows rows
ChangesOnlyColumn-start at rows = record { as_many = refl; lengths = λ k. refl; others = λ k j d. refl }

-- row i gets another coordinate in that column
pub ChangesOnlyColumn-more : (at i : ℕ) (old cur : List (List Bool)) (x : List Bool) → i < length cur → at < length (row cur i) → x ≡ sum_of (row cur i) (unit_vector (length (row cur i)) at) → ChangesOnlyColumn at old cur → ChangesOnlyColumn at old (set cur i x)
ChangesOnlyColumn-more at i old cur x l m e h = record {
  as_many = length-set cur i x ∙ h.as_many;
  lengths = λ k. elim (cases_eq k i) [
    | inl q ↦ ap (λ z. length (row (set cur i x) z)) q ∙ ap length (here ∙ e) ∙ length-sum_of (row cur i) (unit_vector (length (row cur i)) at) size ∙ h.lengths i ∙ ap (λ z. length (row old z)) (sym q)
    | inr d ↦ ap length (there k d) ∙ h.lengths k
  ];
  others = λ k j n. elim (cases_eq k i) [
    | inl q ↦
        ap (λ z. bit (row (set cur i x) z) j) q
        ∙ ap (λ v. bit v j) (here ∙ e)
        ∙ bit-sum_of (row cur i) (unit_vector (length (row cur i)) at) j size
        ∙ ap (plus (bit (row cur i) j)) (bit-unit_vector (length (row cur i)) at j m ∙ ne_eqb j at n)
        ∙ plus-false (bit (row cur i) j)
        ∙ h.others i j n
        ∙ ap (λ z. bit (row old z) j) (sym q)
    | inr d ↦ ap (λ v. bit v j) (there k d) ∙ h.others k j n
  ];
}
  where
    size : length (row cur i) ≡ length (unit_vector (length (row cur i)) at)
    size = sym (length-unit_vector (length (row cur i)) at)

    here : row (set cur i x) i ≡ x
    here = get_or-set_same cur i x [] l

    there : (k : ℕ) → k ≢ i → row (set cur i x) k ≡ row cur k
    there k d = get_or-set_other cur i k x [] d

-- which is turned over in it
pub column-more : (at i : ℕ) (cur : List (List Bool)) (x : List Bool) → i < length cur → at < length (row cur i) → x ≡ sum_of (row cur i) (unit_vector (length (row cur i)) at) → column at (set cur i x) ≡ sum_of (column at cur) (unit_vector (length (column at cur)) i)
column-more at i cur x l m e =
    let u = unit_vector (length (column at cur)) i in
    let lu : length (column at cur) ≡ length u = sym (length-unit_vector (length (column at cur)) i) in
    let size : length (row cur i) ≡ length (unit_vector (length (row cur i)) at) = sym (length-unit_vector (length (row cur i)) at) in
    let ln : length (column at (set cur i x)) ≡ length cur = length-column at (set cur i x) ∙ length-set cur i x in
    ext_get_or false (column at (set cur i x)) (sum_of (column at cur) u) (ln ∙ sym (length-sum_of (column at cur) u lu ∙ length-column at cur))
    (λ k b.
    let c : k < length cur = omega (arith, ln) in
    row-column at (set cur i x) k (omega (arith, length-set cur i x))
    ∙ elim (cases_eq k i) [
      | inl q ↦
          ap (λ z. bit (row (set cur i x) z) at) q
          ∙ ap (λ v. bit v at) (get_or-set_same cur i x [] l ∙ e)
          ∙ bit-sum_of (row cur i) (unit_vector (length (row cur i)) at) at size
          ∙ ap (plus (bit (row cur i) at)) (bit-unit_vector (length (row cur i)) at at m ∙ eq-eqb at at refl ∙ sym (eq-eqb k i q))
          ∙ ap (λ z. plus (bit (row cur z) at) (nat_eq k i)) (sym q)
      | inr d ↦ ap (λ v. bit v at) (get_or-set_other cur i k x [] d) ∙ sym (plus-false (bit (row cur k) at)) ∙ ap (plus (bit (row cur k) at)) (sym (ne_eqb k i d))
    ]
    ∙ ap (λ z. plus z (nat_eq k i)) (sym (row-column at cur k c))
    ∙ ap (plus (bit (column at cur) k)) (sym (bit-unit_vector (length (column at cur)) i k (omega (arith, length-column at cur))))
    ∙ sym (bit-sum_of (column at cur) u k lu))

-- the other columns
pub column-others : (at j : ℕ) (old new : List (List Bool)) → j ≢ at → ChangesOnlyColumn at old new → column j new ≡ column j old
column-others at j old new d h =
    ext_get_or false (column j new) (column j old) (length-column j new ∙ h.as_many ∙ sym (length-column j old))
    (λ k l.
    row-column j new k (omega (arith, length-column j new))
    ∙ h.others k j d
    ∙ sym (row-column j old k (omega (arith, length-column j new, h.as_many))))

-- ---- all columns, one after the other

-- of as many columns as there are rows, the first `n`, in rows for the candidates, have the coordinates at the pivots of the rows,
-- the last row first, and the others are zero; behind them stands the unit matrix
pub record AreCoordinatesTo (n : ℕ) (candidates rows columns : List (List Bool)) : Type 0 where
  pub as_many : length columns ≡ length candidates
  pub lengths : HaveWidth (length rows + length candidates) columns
  pub filled : (j : ℕ) → j < n → column j columns ≡ at_pivots candidates (row (reverse rows) j)
  pub blank : (j : ℕ) → n ≤ j → j < length rows → column j columns ≡ zeros (length candidates)
  pub behind : (i j : ℕ) → i < length candidates → length rows ≤ j → bit (row columns i) j ≡ bit (unit_vector (length candidates) i) (j - length rows)

pub AreCoordinatesTo-start : (candidates rows columns : List (List Bool)) → columns ≡ map (λ i. zeros (length rows) ++ unit_vector (length candidates) i) (range_with_len 0 (length candidates)) → AreCoordinatesTo 0 candidates rows columns
AreCoordinatesTo-start candidates rows columns e =
    let n = length rows in
    let m = length candidates in
    record {
      as_many = as_many;
      lengths = λ k l. ap length (each k (omega (arith, as_many))) ∙ length-append (zeros n) (unit_vector m k) ∙ omega (arith, length-zeros n, length-unit_vector m k);
      filled = λ j l. absurd (omega arith);
      blank = λ j l b.
          ext_get_or false (column j columns) (zeros m) (length-column j columns ∙ as_many ∙ sym (length-zeros m))
          (λ k h.
          let c : k < length columns = omega (arith, length-column j columns) in
          row-column j columns k c ∙ ap (λ v. bit v j) (each k (omega (arith, as_many))) ∙ get_or_append_left (zeros n) (unit_vector m k) false j (omega (arith, length-zeros n)) ∙ bit-zeros n j ∙ sym (bit-zeros m k));
      behind = λ i j l b. ap (λ v. bit v j) (each i l) ∙ get_or-append_right (zeros n) (unit_vector m i) n j false (length-zeros n) b;
    }
  where
    as_many : length columns ≡ length candidates
    as_many = ap length e ∙ length-map-range_with_len (λ i. zeros (length rows) ++ unit_vector (length candidates) i) 0 (length candidates)

    each : (k : ℕ) → k < length candidates → row columns k ≡ zeros (length rows) ++ unit_vector (length candidates) k
    each k l = ap (λ z. row z k) e ∙ get_or-map-range_with_len (λ i. zeros (length rows) ++ unit_vector (length candidates) i) 0 (length candidates) k k [] l (omega arith)

pub AreCoordinatesTo-more : (n m : ℕ) (candidates rows old new : List (List Bool)) → m ≡ n + 1 → n < length rows → ChangesOnlyColumn n old new → column n new ≡ at_pivots candidates (row (reverse rows) n) → AreCoordinatesTo n candidates rows old → AreCoordinatesTo m candidates rows new
AreCoordinatesTo-more n m candidates rows old new e within c f h = record {
  as_many = c.as_many ∙ h.as_many;
  lengths = λ k l. c.lengths k ∙ h.lengths k (omega (arith, c.as_many));
  filled = λ j l. elim (cases_eq j n) [
    | inl q ↦ ap (λ z. column z new) q ∙ f ∙ ap (λ z. at_pivots candidates (row (reverse rows) z)) (sym q)
    | inr d ↦ column-others n j old new d c ∙ h.filled j (omega arith)
  ];
  blank = λ j l b. let d : j ≢ n = omega arith in column-others n j old new d c ∙ h.blank j (omega arith) b;
  behind = λ i j l b. let d : j ≢ n = omega arith in c.others i j d ∙ h.behind i j l b;
}

pub AreCoordinatesTo-end : (n : ℕ) (candidates rows columns : List (List Bool)) → length rows ≤ n → AreCoordinatesTo n candidates rows columns → columns ≡ augmented (coordinates candidates rows)
AreCoordinatesTo-end n candidates rows columns l h =
    let xs = coordinates candidates rows in
    let many : length xs ≡ length candidates = length-map candidates (λ c. column (pivot_of c) (reverse rows)) in
    ext_get_or [] columns (augmented xs) (h.as_many ∙ sym (length-augmented xs ∙ many))
    (λ i b.
    let c : i < length candidates = omega (arith, h.as_many) in
    let p = pivot_of (row candidates i) in
    let x = row xs i in
    let is : x ≡ column p (reverse rows) = get_or-map (λ v. column (pivot_of v) (reverse rows)) candidates i [] [] c in
    let lx : length x ≡ length rows = ap length is ∙ length-column p (reverse rows) ∙ length-reverse rows in
    let u = unit_vector (length xs) i in
    let size : length (row columns i) ≡ length (x ++ u) = h.lengths i b ∙ sym (length-append x u ∙ omega (arith, length-unit_vector (length xs) i)) in
    ext_get_or false (row columns i) (x ++ u) size
    (λ j m.
    elim (cases_lt j (length rows)) [
      | inl k ↦
          sym (row-column j columns i b)
          ∙ ap (λ v. bit v i) (h.filled j (omega arith))
          ∙ bit-at_pivots candidates (row (reverse rows) j) i c
          ∙ sym (row-column p (reverse rows) j (omega (arith, length-reverse rows)))
          ∙ ap (λ v. bit v j) (sym is)
          ∙ sym (get_or_append_left x u false j (omega arith))
      | inr k ↦ h.behind i j c k ∙ ap (λ z. bit (unit_vector z i) (j - length rows)) (sym many) ∙ sym (get_or-append_right x u (length rows) j false lx k)
    ])
    ∙ sym (row-augmented xs i (omega arith)))
