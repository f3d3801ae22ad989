-- The parts of a reduction are the rows by which each row of the matrix, with its unit vector beside it, is split.
use Rattle.std.proofs.Common.{◌≡◌, ℕ, ◌+◌, ◌<◌, ◌≤◌, Bool, false, List, [], ◌++◌, length, map, refl, sym, ◌∙◌, ap, subst, arith}
use Rattle.std.specs.Prelude.{slice_index_or}
use Rattle.std.specs.List.{range_with_len}
use Rattle.std.proofs.lemmas.List.{ext_get_or, get_or-map, length-map, length-append, get_or_append_left, get_or-append_right}
use Rattle.std.proofs.lemmas.List.FromFn.{get_or-map-range_with_len, length-map-range_with_len}
use Rattle.f2_vec.specs.Vectors.{bit, sum_of, zeros, IsZero, IsFirstOne}
use Rattle.f2_vec.specs.Spans.{row, HaveWidth, combination, unit_vector, unit_vectors, IsInSpan}
use Rattle.f2_vec.proofs.Sums.{length-sum_of, length-zeros, bit-zeros, sum_of-comm, sum_of-assoc, sum_of-zeros_left, sum_of-zeros_right, sum_of-self, sum_of-cancel, sum_of-cancel_right, zeros_from_bits}
use Rattle.f2_vec.proofs.Spans.{length-combination, combination-sum_of, combination-append, HaveWidth-append, row-IsInSpan}
use Rattle.f2_vec.proofs.Split.{length-unit_vector, combination-unit_vectors, row-unit_vectors, length-unit_vectors}
use Rattle.f2_vec.proofs.Combinations.{HaveWidth-map, combination-combination, combination-zero_rows, combination-unit_vector}
use Rattle.f2_matrix.specs.Echelon.{IsReduced, HasNoZeroRow, IsRowBasis, IsKernelBasis}
use Rattle.f2_matrix.specs.Parts.{AreReductionParts, PartsAreReduction}
use Rattle.f2_matrix.specs.Preimages.{IsPreimage, at_pivots, quasi_of, rest_of}
use Rattle.f2_matrix.specs.Rank.{SpanAll}
use Rattle.f2_matrix.specs.Reduction.{image_part, kernel_part}
use Rattle.f2_matrix.proofs.Parts.{image_is_row_basis, kernel_is_kernel_basis}
use Rattle.f2_matrix.proofs.Pivots.{length-at_pivots, sum_at_pivots, rest_length, rest_apart}
use Rattle.f2_matrix.proofs.Preimages.{quasi_of-IsPreimage, preimage_unique}
use Rattle.f2_matrix.proofs.Spanning.{spanning_is_full}
use Rattle.f2_kernel.specs.Inside.Split.{IsSplit, AreSplit, AreNumbersOf}
use Rattle.f2_kernel.proofs.Numbers.{unit_added}
use Rattle.f2_kernel.proofs.Tested.{parts_from}

-- ---- rows that split the matrix

-- what is known of the rows before: their lengths, and how many they are
pub record DoFit (n : ℕ) (rows image chosen kernel : List (List Bool)) : Type 0 where
  pub wide : HaveWidth n rows
  pub image_wide : HaveWidth n image
  pub chosen_wide : HaveWidth (length rows) chosen
  pub kernel_wide : HaveWidth (length rows) kernel
  pub as_many : length chosen ≡ length image
  pub count : length image + length kernel ≡ length rows

-- the coefficients at row r, of number j, of the chosen and the kernel rows
abbrev coordinates : (m j : ℕ) (image kernel : List (List Bool)) (r : List Bool) → List Bool
coordinates m j image kernel r = at_pivots image r ++ at_pivots kernel (unit_vector m j)

length-coordinates : (n j : ℕ) (rows image chosen kernel : List (List Bool)) (r : List Bool) → DoFit n rows image chosen kernel → length (coordinates (length rows) j image kernel r) ≡ length rows
length-coordinates n j rows image chosen kernel r h =
    let e = unit_vector (length rows) j in
    length-append (at_pivots image r) (at_pivots kernel e) ∙ omega (arith, length-at_pivots image r, length-at_pivots kernel e, h.count)

-- the values of the chosen and the kernel rows
abbrev values : ℕ → (image kernel : List (List Bool)) → List (List Bool)
values n image kernel = image ++ map (λ x. zeros n) kernel

values_wide : (n : ℕ) (image kernel : List (List Bool)) → HaveWidth n image → HaveWidth n (values n image kernel)
values_wide n image kernel w = HaveWidth-append n image (map (λ x. zeros n) kernel) w (HaveWidth-map n (λ x. zeros n) kernel (λ x. length-zeros n))

length-values : (n : ℕ) (image kernel : List (List Bool)) → length (values n image kernel) ≡ length image + length kernel
length-values n image kernel = length-append image (map (λ x. zeros n) kernel) ∙ ap (λ k. length image + k) (length-map kernel (λ x. zeros n))

-- with these coefficients the rows give the unit vector, and their values the row
unit_given : (n j : ℕ) (rows image chosen kernel : List (List Bool)) (r : List Bool) → DoFit n rows image chosen kernel → IsSplit n (length rows) j image chosen kernel r
    → combination (length rows) (coordinates (length rows) j image kernel r) (chosen ++ kernel) ≡ unit_vector (length rows) j
unit_given n j rows image chosen kernel r h s =
    let m = length rows in
    let e = unit_vector m j in
    let k = combination m (at_pivots kernel e) kernel in
    combination-append m (at_pivots image r) (at_pivots kernel e) chosen kernel h.chosen_wide h.kernel_wide (length-at_pivots image r ∙ sym h.as_many)
    ∙ ap (λ u. sum_of u k) s.beside
    ∙ sum_of-cancel_right m e k (length-unit_vector m j) (length-combination m (at_pivots kernel e) kernel h.kernel_wide)

row_given : (n j : ℕ) (rows image chosen kernel : List (List Bool)) (r : List Bool) → DoFit n rows image chosen kernel → length r ≡ n → IsSplit n (length rows) j image chosen kernel r
    → combination n (coordinates (length rows) j image kernel r) (values n image kernel) ≡ r
row_given n j rows image chosen kernel r h lr s =
    let d = at_pivots kernel (unit_vector (length rows) j) in
    let sum = combination n (at_pivots image r) image in
    let ls : length sum ≡ n = length-combination n (at_pivots image r) image h.image_wide in
    combination-append n (at_pivots image r) d image (map (λ x. zeros n) kernel) h.image_wide (HaveWidth-map n (λ x. zeros n) kernel (λ x. length-zeros n)) (length-at_pivots image r)
    ∙ ap (sum_of sum) (combination-zero_rows n d kernel)
    ∙ sum_of-zeros_right n sum ls
    ∙ sym (sum_of-cancel n r sum lr ls)
    ∙ ap (sum_of r) s.gives
    ∙ sum_of-zeros_right n r lr

-- the coefficients of all rows
abbrev table : (rows image kernel : List (List Bool)) → List (List Bool)
table rows image kernel = map (λ j. coordinates (length rows) j image kernel (row rows j)) (range_with_len 0 (length rows))

length-table : (rows image kernel : List (List Bool)) → length (table rows image kernel) ≡ length rows
length-table rows image kernel = length-map-range_with_len (λ j. coordinates (length rows) j image kernel (row rows j)) 0 (length rows)

row-table : (rows image kernel : List (List Bool)) (j : ℕ) → j < length rows → row (table rows image kernel) j ≡ coordinates (length rows) j image kernel (row rows j)
row-table rows image kernel j l = get_or-map-range_with_len (λ j. coordinates (length rows) j image kernel (row rows j)) 0 (length rows) j j [] l (omega arith)

table_wide : (n : ℕ) (rows image chosen kernel : List (List Bool)) → DoFit n rows image chosen kernel → HaveWidth (length rows) (table rows image kernel)
table_wide n rows image chosen kernel h =
    HaveWidth-map (length rows) (λ j. coordinates (length rows) j image kernel (row rows j)) (range_with_len 0 (length rows)) (λ j. length-coordinates n j rows image chosen kernel (row rows j) h)

units_given : (n : ℕ) (rows image chosen kernel : List (List Bool)) → DoFit n rows image chosen kernel → AreSplit n rows image chosen kernel → map (λ u. combination (length rows) u (chosen ++ kernel)) (table rows image kernel) ≡ unit_vectors (length rows)
units_given n rows image chosen kernel h s =
    let m = length rows in
    let all = table rows image kernel in
    let f : List Bool → List Bool = λ u. combination m u (chosen ++ kernel) in
    let long : length (map f all) ≡ m = length-map all f ∙ length-table rows image kernel in
    ext_get_or [] (map f all) (unit_vectors m) (long ∙ sym (length-unit_vectors m))
    (λ j k.
    let l : j < m = omega (arith, k, long) in
    get_or-map f all j [] [] (omega (arith, l, length-table rows image kernel))
    ∙ ap f (row-table rows image kernel j l)
    ∙ unit_given n j rows image chosen kernel (row rows j) h (s j l)
    ∙ sym (row-unit_vectors m j l))

rows_given : (n : ℕ) (rows image chosen kernel : List (List Bool)) → DoFit n rows image chosen kernel → AreSplit n rows image chosen kernel → map (λ u. combination n u (values n image kernel)) (table rows image kernel) ≡ rows
rows_given n rows image chosen kernel h s =
    let all = table rows image kernel in
    let f : List Bool → List Bool = λ u. combination n u (values n image kernel) in
    let long : length (map f all) ≡ length rows = length-map all f ∙ length-table rows image kernel in
    ext_get_or [] (map f all) rows long
    (λ j k.
    let l : j < length rows = omega (arith, k, long) in
    get_or-map f all j [] [] (omega (arith, l, length-table rows image kernel))
    ∙ ap f (row-table rows image kernel j l)
    ∙ row_given n j rows image chosen kernel (row rows j) h (h.wide j l) (s j l))

length-both : (n : ℕ) (rows image chosen kernel : List (List Bool)) → DoFit n rows image chosen kernel → length (chosen ++ kernel) ≡ length rows
length-both n rows image chosen kernel h = length-append chosen kernel ∙ omega (arith, h.as_many, h.count)

both_wide : (n : ℕ) (rows image chosen kernel : List (List Bool)) → DoFit n rows image chosen kernel → HaveWidth (length rows) (chosen ++ kernel)
both_wide n rows image chosen kernel h = HaveWidth-append (length rows) chosen kernel h.chosen_wide h.kernel_wide

-- each vector is the sum with the coefficients that the table gives for it
sum_given : (n : ℕ) (rows image chosen kernel : List (List Bool)) (v : List Bool) → DoFit n rows image chosen kernel → AreSplit n rows image chosen kernel → length v ≡ length rows
    → combination (length rows) (combination (length rows) v (table rows image kernel)) (chosen ++ kernel) ≡ v
sum_given n rows image chosen kernel v h s l =
    let m = length rows in
    combination-combination m m v (table rows image kernel) (chosen ++ kernel) (length-both n rows image chosen kernel h) (table_wide n rows image chosen kernel h) (both_wide n rows image chosen kernel h)
    ∙ ap (combination m v) (units_given n rows image chosen kernel h s)
    ∙ combination-unit_vectors m v l

all_spanned : (n : ℕ) (rows image chosen kernel : List (List Bool)) → DoFit n rows image chosen kernel → AreSplit n rows image chosen kernel → SpanAll (length rows) (chosen ++ kernel)
all_spanned n rows image chosen kernel h s = λ v l. record {
  coefficients = combination (length rows) v (table rows image kernel);
  one_each = length-combination (length rows) v (table rows image kernel) (table_wide n rows image chosen kernel h) ∙ sym (length-both n rows image chosen kernel h);
  sum = sum_given n rows image chosen kernel v h s l;
}

-- so they are independent, each sum has one list of coefficients, and its product with the matrix is that sum of the values
product_given : (n : ℕ) (rows image chosen kernel : List (List Bool)) (c : List Bool) → DoFit n rows image chosen kernel → AreSplit n rows image chosen kernel → length c ≡ length rows
    → combination n (combination (length rows) c (chosen ++ kernel)) rows ≡ combination n c (values n image kernel)
product_given n rows image chosen kernel c h s l =
    let m = length rows in
    let both = chosen ++ kernel in
    let all = table rows image kernel in
    let r = combination m c both in
    let d = combination m r all in
    let wide : HaveWidth m both = both_wide n rows image chosen kernel h in
    let many : length both ≡ m = length-both n rows image chosen kernel h in
    let tall : HaveWidth m all = table_wide n rows image chosen kernel h in
    let lr : length r ≡ m = length-combination m c both wide in
    let ld : length d ≡ m = length-combination m r all tall in
    let len : length (sum_of c d) ≡ m = length-sum_of c d (l ∙ sym ld) ∙ l in
    let vanishes : combination m (sum_of c d) both ≡ zeros m = combination-sum_of m c d both wide (l ∙ sym ld) ∙ ap (sum_of r) (sum_given n rows image chosen kernel r h s lr) ∙ sum_of-self m r lr in
    let full = spanning_is_full m both wide (all_spanned n rows image chosen kernel h s) in
    let nothing : sum_of c d ≡ zeros m = zeros_from_bits m (sum_of c d) len (full.independent many (sum_of c d) (record { one_each = len ∙ sym many; vanishes = vanishes })) in
    let same : d ≡ c = sym (sum_of-cancel m c d l ld) ∙ ap (sum_of c) nothing ∙ sum_of-zeros_right m c l in
    ap (combination n r) (sym (rows_given n rows image chosen kernel h s))
    ∙ sym (combination-combination n m r all (values n image kernel) (length-values n image kernel ∙ h.count) tall (values_wide n image kernel h.image_wide))
    ∙ ap (λ u. combination n u (values n image kernel)) same

row_product : (n i : ℕ) (rows image chosen kernel : List (List Bool)) → DoFit n rows image chosen kernel → AreSplit n rows image chosen kernel → i < length rows
    → combination n (row (chosen ++ kernel) i) rows ≡ row (values n image kernel) i
row_product n i rows image chosen kernel h s l =
    let m = length rows in
    ap (λ u. combination n u rows) (sym (combination-unit_vector m m i (chosen ++ kernel) (both_wide n rows image chosen kernel h) (length-both n rows image chosen kernel h) l))
    ∙ product_given n rows image chosen kernel (unit_vector m i) h s (length-unit_vector m i)
    ∙ combination-unit_vector n m i (values n image kernel) (values_wide n image kernel h.image_wide) (length-values n image kernel ∙ h.count) l

-- row i of the second rows stands behind the first ones
behind : (xs ys : List (List Bool)) (i : ℕ) → row (xs ++ ys) (length xs + i) ≡ row ys i
behind xs ys i = get_or-append_right xs ys (length xs) (length xs + i) [] refl (omega arith) ∙ ap (row ys) (omega arith)

-- the rows are the parts
pub parts_of_split : (n : ℕ) (rows image chosen kernel : List (List Bool)) → DoFit n rows image chosen kernel → IsReduced image → HasNoZeroRow image → IsReduced kernel → HasNoZeroRow kernel
    → ((i j p : ℕ) → i < length chosen → IsFirstOne (row kernel j) p → bit (row chosen i) p ≡ false) → AreSplit n rows image chosen kernel → AreReductionParts n rows image chosen kernel
parts_of_split n rows image chosen kernel h image_reduced image_nonzero reduced nonzero clear s =
    parts_from n rows image chosen kernel h.image_wide h.chosen_wide h.kernel_wide reduced nonzero h.count h.as_many image_reduced image_nonzero clear
    (λ i l.
    ap (λ u. combination n u rows) (sym (get_or_append_left chosen kernel [] i (omega (arith, l, h.as_many))))
    ∙ row_product n i rows image chosen kernel h s (omega (arith, l, h.count))
    ∙ get_or_append_left image (map (λ x. zeros n) kernel) [] i l)
    (λ i l.
    ap (λ u. combination n u rows) (sym (behind chosen kernel i))
    ∙ row_product n (length chosen + i) rows image chosen kernel h s (omega (arith, l, h.count, h.as_many))
    ∙ ap (λ k. row (values n image kernel) (k + i)) h.as_many
    ∙ behind image (map (λ x. zeros n) kernel) i
    ∙ get_or-map (λ x. zeros n) kernel i [] [] l)

-- ---- the parts split the matrix

-- the unit vector, cleared at the pivots of the kernel rows, is the preimage of its row
unit_preimage : (n j : ℕ) (rows kernel : List (List Bool)) → HaveWidth n rows → IsKernelBasis n rows kernel → j < length rows → IsPreimage n rows kernel (row rows j) (rest_of (length rows) kernel (unit_vector (length rows) j))
unit_preimage n j rows kernel wide basis l =
    let m = length rows in
    let e = unit_vector m j in
    let le : length e ≡ m = length-unit_vector m j in
    let c = at_pivots kernel e in
    let k = combination m c kernel in
    let relation = (basis.spans_kernel k).1 (record { coefficients = c; one_each = length-at_pivots kernel e; sum = refl }) in
    record {
      one_each = rest_length m kernel e basis.widths le;
      gives =
          combination-sum_of n e k rows wide (le ∙ sym (length-combination m c kernel basis.widths))
          ∙ ap (sum_of (combination n e rows)) relation.vanishes
          ∙ ap (λ u. sum_of u (zeros n)) (combination-unit_vector n m j rows wide refl l)
          ∙ sum_of-zeros_right n (row rows j) (wide j l);
      clear = λ i p f. rest_apart m kernel e i p basis.widths basis.reduced basis.nonzero le f;
    }

pub split_of_parts : PartsAreReduction → (n : ℕ) (rows image chosen kernel : List (List Bool)) → HaveWidth n rows → AreReductionParts n rows image chosen kernel → AreSplit n rows image chosen kernel
split_of_parts law n rows image chosen kernel wide h = λ j l.
    let r = row rows j in
    let own = (law n rows image chosen kernel wide).0 h in
    let is_image : image ≡ image_part n own.form = own.image in
    let is_kernel : kernel ≡ kernel_part n own.form = own.kernel in
    let basis : IsRowBasis n rows image = subst (IsRowBasis n rows) (sym is_image) (image_is_row_basis n rows own.form wide own.is_form) in
    let relations : IsKernelBasis n rows kernel = subst (IsKernelBasis n rows) (sym is_kernel) (kernel_is_kernel_basis n rows own.form wide own.is_form) in
    let inside : IsInSpan n image r = (basis.same_span r).0 (row-IsInSpan n rows j wide l) in
    record {
      gives = ap (sum_of r) (sum_at_pivots n image r h.image_widths h.image_reduced h.image_nonzero inside) ∙ sum_of-self n r (wide j l);
      beside =
          preimage_unique n rows kernel r (quasi_of (length rows) image chosen r) (rest_of (length rows) kernel (unit_vector (length rows) j)) wide relations
          (quasi_of-IsPreimage n rows kernel image chosen r wide h.image_widths h.image_reduced h.image_nonzero h.preimages inside)
          (unit_preimage n j rows kernel wide relations l);
    }

-- ---- one row, added up

-- what is left of row r, of number j, and of its unit vector
pub record AreLeft (n m j : ℕ) (image chosen kernel : List (List Bool)) (r rest beside : List Bool) : Type 0 where
  pub rest_is : rest ≡ rest_of n image r
  pub beside_is : beside ≡ sum_of (quasi_of m image chosen r) (rest_of m kernel (unit_vector m j))

pub left_of : (n m j : ℕ) (image chosen kernel : List (List Bool)) (numbers in_kernel : List ℕ) (r rest0 rest1 rest2 beside0 beside1 beside2 beside3 : List Bool) → HaveWidth n image → HaveWidth m chosen → HaveWidth m kernel → length chosen ≡ length image
    → AreNumbersOf n image numbers → AreNumbersOf m kernel in_kernel → j < m → length r ≡ n → rest0 ≡ zeros n → beside0 ≡ zeros m → rest1 ≡ sum_of rest0 r
    → ((xs : List (List Bool)) → AreNumbersOf (length r) xs numbers → length image ≡ length xs → rest2 ≡ sum_of rest1 (combination (length rest1) (at_pivots xs r) image))
    → ((xs : List (List Bool)) → AreNumbersOf (length r) xs numbers → length chosen ≡ length xs → beside1 ≡ sum_of beside0 (combination (length beside0) (at_pivots xs r) chosen))
    → (slice_index_or in_kernel j 0 < length kernel → beside2 ≡ sum_of beside1 (row kernel (slice_index_or in_kernel j 0))) → (length kernel ≤ slice_index_or in_kernel j 0 → beside2 ≡ beside1)
    → length beside2 ≡ length beside1 → beside3 ≡ sum_of beside2 (unit_vector (length beside2) j) → AreLeft n m j image chosen kernel r rest2 beside3
left_of n m j image chosen kernel numbers in_kernel r rest0 rest1 rest2 beside0 beside1 beside2 beside3 image_wide chosen_wide kernel_wide many h k l lr rest_zero beside_zero first images preimages added as_before long flipped =
    let here : AreNumbersOf (length r) image numbers = subst (λ (z : ℕ). AreNumbersOf z image numbers) (sym lr) h in
    let c = at_pivots image r in
    let e = unit_vector m j in
    let q = quasi_of m image chosen r in
    let more = combination m (at_pivots kernel e) kernel in
    let lq : length q ≡ m = length-combination m c chosen chosen_wide in
    let row_first : rest1 ≡ r = first ∙ ap (λ z. sum_of z r) rest_zero ∙ sum_of-zeros_left n r lr in
    let quasi_first : beside1 ≡ q =
    preimages image here many ∙ ap (λ z. sum_of beside0 (combination z c chosen)) (ap length beside_zero ∙ length-zeros m) ∙ ap (λ z. sum_of z q) beside_zero ∙ sum_of-zeros_left m q lq in
    let relation : beside2 ≡ sum_of beside1 more = unit_added m j kernel in_kernel beside1 beside2 kernel_wide k l (ap length quasi_first ∙ lq) added as_before in
    record {
      rest_is = images image here refl ∙ ap (λ z. sum_of rest1 (combination z c image)) (ap length row_first ∙ lr) ∙ ap (λ z. sum_of z (combination n c image)) row_first;
      beside_is =
          flipped
          ∙ ap (λ z. sum_of beside2 (unit_vector z j)) (long ∙ ap length quasi_first ∙ lq)
          ∙ ap (λ z. sum_of z e) (relation ∙ ap (λ z. sum_of z more) quasi_first)
          ∙ sum_of-assoc q more e
          ∙ ap (sum_of q) (sum_of-comm more e);
    }

length-left : (n m j : ℕ) (image chosen kernel : List (List Bool)) (r rest beside : List Bool) → HaveWidth n image → HaveWidth m chosen → HaveWidth m kernel → length r ≡ n → AreLeft n m j image chosen kernel r rest beside → (length rest ≡ n) × (length beside ≡ m)
length-left n m j image chosen kernel r rest beside image_wide chosen_wide kernel_wide lr h =
    let e = unit_vector m j in
    let lq : length (quasi_of m image chosen r) ≡ m = length-combination m (at_pivots image r) chosen chosen_wide in
    let lt : length (rest_of m kernel e) ≡ m = rest_length m kernel e kernel_wide (length-unit_vector m j) in
    (ap length h.rest_is ∙ rest_length n image r image_wide lr, ap length h.beside_is ∙ length-sum_of (quasi_of m image chosen r) (rest_of m kernel e) (lq ∙ sym lt) ∙ lq)

-- nothing is left just where the row is split
pub none_left : (n m j : ℕ) (image chosen kernel : List (List Bool)) (r rest beside : List Bool) → HaveWidth n image → HaveWidth m chosen → HaveWidth m kernel → length r ≡ n → AreLeft n m j image chosen kernel r rest beside → IsZero rest → IsZero beside
    → (rest ≡ zeros n) × (beside ≡ zeros m) × IsSplit n m j image chosen kernel r
none_left n m j image chosen kernel r rest beside image_wide chosen_wide kernel_wide lr h rest_zero beside_zero =
    let e = unit_vector m j in
    let q = quasi_of m image chosen r in
    let t = rest_of m kernel e in
    let lq : length q ≡ m = length-combination m (at_pivots image r) chosen chosen_wide in
    let lt : length t ≡ m = rest_length m kernel e kernel_wide (length-unit_vector m j) in
    let long = length-left n m j image chosen kernel r rest beside image_wide chosen_wide kernel_wide lr h in
    let no_rest : rest ≡ zeros n = zeros_from_bits n rest long.0 rest_zero in
    let none_beside : beside ≡ zeros m = zeros_from_bits m beside long.1 beside_zero in (
      no_rest,
      none_beside,
      record {
        gives = sym h.rest_is ∙ no_rest;
        beside = sym (sum_of-cancel_right m q t lq lt) ∙ ap (λ z. sum_of z t) (sym h.beside_is ∙ none_beside) ∙ sum_of-zeros_left m t lt;
      },
    )

pub split_leaves_none : (n m j : ℕ) (image chosen kernel : List (List Bool)) (r rest beside : List Bool) → HaveWidth m chosen → AreLeft n m j image chosen kernel r rest beside → IsSplit n m j image chosen kernel r → IsZero rest × IsZero beside
split_leaves_none n m j image chosen kernel r rest beside chosen_wide h s =
    let q = quasi_of m image chosen r in
    let lq : length q ≡ m = length-combination m (at_pivots image r) chosen chosen_wide in
    let no_rest : rest ≡ zeros n = h.rest_is ∙ s.gives in
    let none_beside : beside ≡ zeros m = h.beside_is ∙ ap (sum_of q) (sym s.beside) ∙ sum_of-self m q lq in
    (subst IsZero (sym no_rest) (bit-zeros n), subst IsZero (sym none_beside) (bit-zeros m))
