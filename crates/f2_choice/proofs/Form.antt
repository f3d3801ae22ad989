-- The rows of the form of [X | I], uncut, and their columns.
use Rattle.std.proofs.Common.{◌≡◌, ℕ, zero, suc, ◌+◌, ◌-◌, ◌<◌, ◌≤◌, Bool, true, false, ◌&&◌, not, Option, List, [], ◌∷◌, ◌++◌, length, map, take, drop, set, reverse, refl, ap, sym, ◌∙◌, arith, subst, inl, inr}
use Rattle.std.specs.List.{range_with_len, filter}
use Rattle.std.proofs.lemmas.Bool.{cases_lt, both_ways}
use Rattle.std.proofs.lemmas.List.{ext_get_or, get_or-take, get_or-drop, get_or_past, length-map, length-append, map-append, get_or_append_left, get_or-append_right, set-append_left, set-append_right, take_all, length-reverse}
use Rattle.std.proofs.lemmas.List.FromFn.{length-map-range_with_len, get_or-map-range_with_len}
use Rattle.f2_vec.specs.Vectors.{bit, sum_of, zeros, IsZero, IsFirstOne, IsNextOne}
use Rattle.f2_vec.specs.Spans.{row, HaveWidth, combination, unit_vector}
use Rattle.f2_vec.proofs.Sums.{bit-zeros, length-zeros, sum_of-comm, sum_of-zeros_left}
use Rattle.f2_vec.proofs.Spans.{length-combination}
use Rattle.f2_vec.proofs.Split.{sum_of-append, zeros-append, length-unit_vector}
use Rattle.f2_vec.proofs.Combinations.{map-map, map_same, HaveWidth-map}
use Rattle.f2_matrix.specs.Echelon.{IsReduced, HasNoZeroRow, IsEchelonForm}
use Rattle.f2_matrix.specs.Preimages.{pivot_of}
use Rattle.f2_matrix.specs.Reduction.{Reduction, augmented, has_one, image_part, chosen_part, kernel_part, IsReductionOf}
use Rattle.f2_choice.specs.Inside.Columns.{column, columns}
use Rattle.f2_matrix.proofs.Kept.{place_of, kept_at}
use Rattle.f2_matrix.proofs.Parts.{has_one-zero, has_one-nonzero, left_first, has_left, has_no_left, zero_has_none, zero_below, row-map_take}
use Rattle.f2_matrix.proofs.Pivots.{pivot_first, is_pivot}
use Rattle.f2_matrix.proofs.Unique.{zero_or_first}
use Rattle.f2_choice.specs.Coordinates.{coordinates}
use Rattle.f2_choice.specs.Inside.Coordinates.{pivot_units, relation_of, preimage_at, preimages_of}
use Rattle.f2_choice.specs.Inside.Form.{is_left, is_right, parts_of}
use Rattle.f2_choice.specs.Inside.Tables.{entry_at, spread_by, IsTableOfPivots, IsReducedBasis}
use Rattle.f2_choice.proofs.OnCandidates.{row-column, HaveWidth-units}
use Rattle.f2_choice.proofs.Tables.{column-spread}

-- ---- the rows with a 1 before a place are the first ones

-- a row behind one that has none before the place has none either
pub none_behind : (rows : List (List Bool)) (i j end : ℕ) → IsReduced rows → i ≤ j → ((p : ℕ) → IsFirstOne (row rows i) p → end ≤ p) → has_one (take end (row rows j)) ≡ false
none_behind rows i j end reduced l late =
    elim (zero_or_first (row rows j)) [
      | inl z ↦ zero_has_none (take end (row rows j)) (zero_below end (row rows j) z)
      | inr g ↦ has_no_left end (row rows j) g.0 g.1 (elim (zero_or_first (row rows i)) [
        | inl z ↦ elim (cases_lt i j) [
          | inl m ↦ absurd (both_ways (bit (row rows j) g.0) (reduced.zero_rows_last i j m z g.0) g.1.one)
          | inr m ↦ let e : i ≡ j = omega arith in absurd (both_ways (bit (row rows j) g.0) (subst (λ (k : ℕ). bit (row rows k) g.0 ≡ false) e (z g.0)) g.1.one)
        ]
        | inr f ↦ elim (cases_lt i j) [
          | inl m ↦ omega (arith, late f.0 f.1, reduced.pivots_rise i j f.0 g.0 m f.1 g.1)
          | inr m ↦ let e : j ≡ i = omega arith in late g.0 (subst (λ (k : ℕ). IsFirstOne (row rows k) g.0) e g.1)
        ]
      ])
    ]

pub some_longer : (n m : ℕ) (v : List Bool) → n ≤ m → has_one (take n v) ≡ true → has_one (take m v) ≡ true
some_longer n m v l h =
    elim (zero_or_first (take n v)) [
      | inl z ↦ absurd (has_one-nonzero (take n v) h z)
      | inr g ↦ let at = left_first n v g.0 g.1 in has_left m v g.0 at.1 (omega (arith, at.0))
    ]

filter_none : (test : List Bool → Bool) (rows : List (List Bool)) → ((i : ℕ) → i < length rows → test (row rows i) ≡ false) → filter test rows ≡ []
filter_none test [] h = refl
filter_none test (r ∷ rows) h = let e : test r ≡ false = h 0 (omega arith) in rw e (filter_none test rows (λ i l. h (suc i) (omega arith)))

-- the rows from a on and before b
pub filter_between : (test : List Bool → Bool) (rows : List (List Bool)) (a b : ℕ) → a ≤ b → b ≤ length rows → ((i : ℕ) → i < a → test (row rows i) ≡ false) → ((i : ℕ) → a ≤ i → i < b → test (row rows i) ≡ true) → ((i : ℕ) → b ≤ i → i < length rows → test (row rows i) ≡ false) → filter test rows ≡ take (b - a) (drop a rows)
filter_between test rows zero zero l m before within behind = filter_none test rows (λ i k. behind i (omega arith) k)
filter_between test rows (suc a) zero l m before within behind = absurd (omega arith)
filter_between test [] zero (suc b) l m before within behind = absurd (omega arith)
filter_between test [] (suc a) (suc b) l m before within behind = absurd (omega arith)
filter_between test (r ∷ rows) zero (suc b) l m before within behind =
    let e : test r ≡ true = within 0 (omega arith) (omega arith) in
    let n : b - 0 ≡ b = omega arith in
    let all : suc b ≡ suc b - 0 = omega arith in
    let rest = filter_between test rows zero b (omega arith) (omega arith) (λ i k. absurd (omega arith)) (λ i k j. within (suc i) (omega arith) (omega arith)) (λ i k j. behind (suc i) (omega arith) (omega arith)) in
    rw e (ap (λ (z : List (List Bool)). r ∷ z) (rest ∙ ap (λ k. take k rows) n) ∙ ap (λ k. take k (r ∷ rows)) all)
filter_between test (r ∷ rows) (suc a) (suc b) l m before within behind =
    let e : test r ≡ false = before 0 (omega arith) in
    let n : b - a ≡ suc b - suc a = omega arith in
    let rest = filter_between test rows a b (omega arith) (omega arith) (λ i k. before (suc i) (omega arith)) (λ i k j. within (suc i) (omega arith) (omega arith)) (λ i k j. behind (suc i) (omega arith) (omega arith)) in
    rw e (rest ∙ ap (λ k. take k (drop a rows)) n)

pub ends_in_order : (n w bar end : ℕ) (rows : List (List Bool)) → n ≤ w → ((i : ℕ) → i < bar → has_one (take n (row rows i)) ≡ true) → ((i : ℕ) → end ≤ i → has_one (take w (row rows i)) ≡ false) → bar ≤ end
ends_in_order n w bar end rows l before others =
    elim (cases_lt end bar) [
      | inl m ↦ absurd (both_ways (has_one (take w (row rows end))) (others end (omega arith)) (some_longer n w (row rows end) l (before end m)))
      | inr m ↦ m
    ]

-- so the rows for the image stand first, and those for the kernel behind them
pub left_are : (n bar : ℕ) (rows : List (List Bool)) → bar ≤ length rows → ((i : ℕ) → i < bar → has_one (take n (row rows i)) ≡ true) → ((i : ℕ) → bar ≤ i → has_one (take n (row rows i)) ≡ false) → take bar rows ≡ filter (is_left n) rows
left_are n bar rows l before others =
    let same : bar - 0 ≡ bar = omega arith in
    sym (filter_between (is_left n) rows 0 bar (omega arith) l (λ i m. absurd (omega arith)) (λ i m h. before i h) (λ i m h. others i m) ∙ ap (λ k. take k rows) same)

pub right_are : (n w bar end : ℕ) (rows : List (List Bool)) → HaveWidth w rows → bar ≤ end → end ≤ length rows → ((i : ℕ) → i < bar → has_one (take n (row rows i)) ≡ true) → ((i : ℕ) → bar ≤ i → has_one (take n (row rows i)) ≡ false) → ((i : ℕ) → i < end → has_one (take w (row rows i)) ≡ true) → ((i : ℕ) → end ≤ i → has_one (take w (row rows i)) ≡ false)
    → take (end - bar) (drop bar rows) ≡ filter (is_right n) rows
right_are n w bar end rows wide m l left others some none =
    sym (filter_between (is_right n) rows bar end m l
    (λ i h. let e = left i h in rw e refl)
    (λ i a b. let e = others i a in let f : has_one (row rows i) ≡ true = ap has_one (sym (whole i (omega arith))) ∙ some i b in rw (e, f) refl)
    (λ i a b. let e = others i (omega arith) in let f : has_one (row rows i) ≡ false = ap has_one (sym (whole i b)) ∙ none i a in rw (e, f) refl))
  where
    whole : (i : ℕ) → i < length rows → take w (row rows i) ≡ row rows i
    whole i h = take_all w (row rows i) (omega (arith, wide i h))

-- a row for the kernel has no 1 left of the bar
pub none_left : (n : ℕ) (form : List (List Bool)) (i : ℕ) → has_one (take n (row (filter (is_right n) form) i)) ≡ false
none_left n form i =
    let kept = filter (is_right n) form in
    elim (cases_lt i (length kept)) [
      | inl l ↦
          let at = kept_at (is_right n) [] form i l in
          let v = row form (place_of (is_right n) form i) in
          ap (λ r. has_one (take n r)) at.1 ∙ first (has_one (take n v)) (has_one v) at.2
      | inr l ↦ ap (λ r. has_one (take n r)) (get_or_past kept i [] l) ∙ zero_has_none (take n []) (zero_below n [] (λ k. refl))
    ]
  where
    first : (a b : Bool) → (not a && b) ≡ true → a ≡ false
    first false b h = refl
    first true b h = absurd (both_ways false refl h)

wide_coordinates : (candidates rows : List (List Bool)) → HaveWidth (length rows) (coordinates candidates rows)
wide_coordinates candidates rows = HaveWidth-map (length rows) (λ c. column (pivot_of c) (reverse rows)) candidates (λ c. length-map (reverse rows) (λ v. bit v (pivot_of c)) ∙ length-reverse rows)

-- these rows have the parts of the reduction of the coordinates
pub form_reduction : (n w : ℕ) (rows candidates form image kernel : List (List Bool)) → n ≡ length rows → w ≡ length rows + length candidates → IsEchelonForm w (augmented (coordinates candidates rows)) form → image ≡ filter (is_left n) form → kernel ≡ filter (is_right n) form
    → IsReductionOf (length rows) (coordinates candidates rows) (parts_of n (w - n) image kernel)
form_reduction n w rows candidates form image kernel e f h i k =
    let xs = coordinates candidates rows in
    let many : length xs ≡ length candidates = length-map candidates (λ c. column (pivot_of c) (reverse rows)) in
    let whole : w ≡ length rows + length xs = omega arith in
    record {
      widths = wide_coordinates candidates rows;
      form = form;
      is_form = subst (λ c. IsEchelonForm c (augmented xs) form) whole h;
      cols = e;
      height = omega arith;
      image = ap (map (take n)) i ∙ ap (λ m. image_part m form) e;
      chosen = ap (map (drop n)) i ∙ ap (λ m. chosen_part m form) e;
      kernel = ap (map (drop n)) k ∙ ap (λ m. kernel_part m form) e;
    }

-- ---- pivots

-- what is left of the bar has the row's pivot
pivot_left : (n : ℕ) (v : List Bool) → (IsZero (take n v) → ⊥) → pivot_of v ≡ pivot_of (take n v)
pivot_left n v nonzero = pivot_first v (pivot_of (take n v)) (left_first n v (pivot_of (take n v)) (is_pivot (take n v) nonzero)).1

nonzero_left : (n : ℕ) (rows : List (List Bool)) → HasNoZeroRow (map (take n) rows) → (i : ℕ) → i < length rows → IsZero (take n (row rows i)) → ⊥
nonzero_left n rows h i l z = h i (omega (arith, length-map rows (take n))) (subst IsZero (sym (row-map_take n rows i l)) z)

pub HasNoZeroRow-left : (n : ℕ) (rows : List (List Bool)) → HasNoZeroRow (map (take n) rows) → HasNoZeroRow rows
HasNoZeroRow-left n rows h i l z = nonzero_left n rows h i l (zero_below n (row rows i) z)

pub pivots_left : (n : ℕ) (rows : List (List Bool)) → HasNoZeroRow (map (take n) rows) → (i : ℕ) → i < length rows → pivot_of (row rows i) < n
pivots_left n rows h i l =
    let v = row rows i in
    let nonzero = nonzero_left n rows h i l in
    omega (arith, pivot_left n v nonzero, (left_first n v (pivot_of (take n v)) (is_pivot (take n v) nonzero)).0)

pub IsTableOfPivots-left : (n : ℕ) (rows : List (List Bool)) (table : List (Option ℕ)) → HasNoZeroRow (map (take n) rows) → IsTableOfPivots n rows table → IsTableOfPivots n (map (take n) rows) table
IsTableOfPivots-left n rows table h t = record {
  size = t.size;
  found = λ p i e. let f = t.found p i e in (omega (arith, f.0, length-map rows (take n)), sym (same i f.0) ∙ f.1);
  none = λ i l e. let m : i < length rows = omega (arith, length-map rows (take n)) in t.none i m (ap (entry_at table) (same i m) ∙ e);
}
  where
    same : (i : ℕ) → i < length rows → pivot_of (row rows i) ≡ pivot_of (row (map (take n) rows) i)
    same i l = pivot_left n (row rows i) (nonzero_left n rows h i l) ∙ ap pivot_of (sym (row-map_take n rows i l))

-- the first 1 right of the bar is the pivot of what stands there
pub pivot_right : (n p : ℕ) (v : List Bool) → IsNextOne v n p → pivot_of (drop n v) ≡ p - n
pivot_right n p v next =
    let at : n + (p - n) ≡ p = omega (arith, next.reached) in
    pivot_first (drop n v) (p - n) (record {
      one = get_or-drop n v (p - n) false ∙ ap (bit v) at ∙ next.one;
      zeros_before = λ k l. get_or-drop n v k false ∙ next.zeros_between (n + k) (omega arith) (omega (arith, next.reached));
    })

-- ---- columns

column-left : (n c : ℕ) (rows : List (List Bool)) → c < n → column c rows ≡ column c (map (take n) rows)
column-left n c rows l = sym (map-map (λ v. bit v c) (take n) rows ∙ map_same [] (λ v. bit (take n v) c) (λ v. bit v c) rows (λ i m. get_or-take n (row rows i) c false l))

column-right : (n i : ℕ) (rows : List (List Bool)) → column (n + i) rows ≡ column i (map (drop n) rows)
column-right n i rows = sym (map-map (λ v. bit v i) (drop n) rows ∙ map_same [] (λ v. bit (drop n v) i) (λ v. bit v (n + i)) rows (λ j m. get_or-drop n (row rows j) i false))

column-zero : (c : ℕ) (rows : List (List Bool)) → ((i : ℕ) → bit (row rows i) c ≡ false) → column c rows ≡ zeros (length rows)
column-zero c rows none =
    ext_get_or false (column c rows) (zeros (length rows)) (length-map rows (λ v. bit v c) ∙ sym (length-zeros (length rows)))
    (λ i l. row-column c rows i (omega (arith, length-map rows (λ v. bit v c))) ∙ none i ∙ sym (bit-zeros (length rows) i))

-- the sum of the elements of the image rows with a 1 at place c, and zeros for the new rows
abbrev pub elements_at : Reduction → ℕ → List Bool
elements_at r c = combination r.cols (column c r.image) (pivot_units r.cols r.image) ++ zeros (length r.kernel)

pub columns-form : (n k : ℕ) (image kernel : List (List Bool)) (table : List (Option ℕ)) → IsTableOfPivots n (map (take n) image) table → IsReducedBasis n (map (take n) image) → ((i : ℕ) → has_one (take n (row kernel i)) ≡ false)
    → columns (n + k) (spread_by table (n + k) image ++ kernel) ≡ map (elements_at (parts_of n k image kernel)) (range_with_len 0 n) ++ preimages_of (parts_of n k image kernel)
columns-form n k image kernel table t basis none =
    let r = parts_of n k image kernel in
    let s = spread_by table (n + k) image in
    let rows = s ++ kernel in
    let left = map (elements_at r) (range_with_len 0 n) in
    let wide : length (columns (n + k) rows) ≡ n + k = length-map-range_with_len (λ c. column c rows) 0 (n + k) in
    let ll : length left ≡ n = length-map-range_with_len (elements_at r) 0 n in
    let lr : length (preimages_of r) ≡ k = length-map-range_with_len (preimage_at r) 0 k in
    ext_get_or [] (columns (n + k) rows) (left ++ preimages_of r) (wide ∙ sym (length-append left (preimages_of r) ∙ omega arith))
    (λ c l.
    let m : c < n + k = omega arith in
    get_or-map-range_with_len (λ j. column j rows) 0 (n + k) c c [] m (omega arith)
    ∙ map-append (λ v. bit v c) s kernel
    ∙ ap (λ (z : List Bool). z ++ column c kernel) (column-spread n (n + k) c (map (take n) image) image table t basis (sym (length-map image (take n))))
    ∙ elim (cases_lt c n) [
      | inl b ↦
          ap (λ (z : List Bool). combination n z (pivot_units n (map (take n) image)) ++ column c kernel) (column-left n c image b)
          ∙ ap (λ (z : List Bool). combination n (column c r.image) (pivot_units n r.image) ++ z) (column-zero c kernel (λ i. sym (get_or-take n (row kernel i) c false b) ∙ has_one-zero (take n (row kernel i)) (none i) c) ∙ ap zeros (sym (length-map kernel (drop n))))
          ∙ sym (get_or_append_left left (preimages_of r) [] c (omega arith) ∙ get_or-map-range_with_len (elements_at r) 0 n c c [] b (omega arith))
      | inr b ↦
          let i = c - n in
          let e : c ≡ n + i = omega arith in
          ap (λ (z : List Bool). combination n z (pivot_units n (map (take n) image)) ++ column c kernel) (ap (λ x. column x image) e ∙ column-right n i image)
          ∙ ap (λ (z : List Bool). combination n (column i r.chosen) (pivot_units n r.image) ++ z) (ap (λ x. column x kernel) e ∙ column-right n i kernel)
          ∙ sym (get_or-append_right left (preimages_of r) n c [] ll b ∙ get_or-map-range_with_len (preimage_at r) 0 k i i [] (omega arith) (omega arith))
    ])

-- ---- relations

-- a unit vector, whose 1 stands behind zeros or before some
pub unit_vector-behind : (n m i : ℕ) → unit_vector (n + m) (n + i) ≡ zeros n ++ unit_vector m i
unit_vector-behind n m i =
    let back : n + i - n ≡ i = omega arith in
    ap (λ z. set z (n + i) true) (zeros-append n m) ∙ set-append_right (zeros n) (zeros m) n (n + i) true (length-zeros n) (omega arith) ∙ ap (λ k. zeros n ++ set (zeros m) k true) back

unit_vector-append : (n m e : ℕ) → e < n → unit_vector (n + m) e ≡ unit_vector n e ++ zeros m
unit_vector-append n m e l = ap (λ z. set z e true) (zeros-append n m) ∙ set-append_left (zeros n) (zeros m) e true (omega (arith, length-zeros n))

-- the sum at the place of an element, with this element turned over, is its relation
pub relation-turned : (r : Reduction) (e : ℕ) (x v : List Bool) → e < r.cols → x ≡ elements_at r (r.cols - 1 - e) → v ≡ sum_of x (unit_vector (length x) e) → v ≡ relation_of r.cols r.image e ++ zeros (length r.kernel)
relation-turned r e x v l is f =
    let n = r.cols in
    let m = length r.kernel in
    let units = pivot_units n r.image in
    let y = combination n (column (n - 1 - e) r.image) units in
    let ly : length y ≡ n = length-combination n (column (n - 1 - e) r.image) units (HaveWidth-units n r.image) in
    let lx : length x ≡ n + m = ap length is ∙ length-append y (zeros m) ∙ omega (arith, ly, length-zeros m) in
    f ∙ ap (λ i. sum_of x (unit_vector i e)) lx
    ∙ ap (λ (u : List Bool). sum_of u (unit_vector (n + m) e)) is
    ∙ ap (sum_of (y ++ zeros m)) (unit_vector-append n m e l)
    ∙ sum_of-append y (zeros m) (unit_vector n e) (zeros m) (ly ∙ sym (length-unit_vector n e))
    ∙ ap (λ (u : List Bool). u ++ sum_of (zeros m) (zeros m)) (sum_of-comm y (unit_vector n e))
    ∙ ap (λ (u : List Bool). relation_of n r.image e ++ u) (sum_of-zeros_left m (zeros m) (length-zeros m))

pub length-elements_at : (r : Reduction) (c : ℕ) → length (elements_at r c) ≡ r.cols + length r.kernel
length-elements_at r c =
    let y = combination r.cols (column c r.image) (pivot_units r.cols r.image) in
    length-append y (zeros (length r.kernel)) ∙ omega (arith, length-combination r.cols (column c r.image) (pivot_units r.cols r.image) (HaveWidth-units r.cols r.image), length-zeros (length r.kernel))
