-- Squares of a chart that are those of the canonical resolution, beside the squares in stems.
use Rattle.std.proofs.Common.{◌≡◌, ℕ, zero, suc, ◌+◌, ◌<◌, ◌≤◌, Bool, false, pos, ◌+ℤ◌, List, [], ◌∷◌, ◌++◌, length, map, take, drop, get_or, refl, ap, sym, subst, ◌∙◌, arith, inl, inr}
use Rattle.std.proofs.lemmas.Bool.{cases_lt}
use Rattle.std.proofs.lemmas.List.{append-nil, ext_get_or, length-drop, length-map, length-take, length-take-le, get_or_past, get_or-take, get_or-map, get_or-drop, get_or_append_left, get_or_push, take-append-drop}
use Rattle.f2_vec.specs.Vectors.{zeros, IsZeroFrom}
use Rattle.f2_vec.specs.Spans.{row, HaveWidth}
use Rattle.f2_vec.proofs.Sums.{zeros_from_bits}
use Rattle.free_module.specs.Graded.{FreeModulesAreModules, free_graded}
use Rattle.free_module.specs.LinearMap.{MapsCommute}
use Rattle.resolution_laws.specs.Resolution.{Module, Content, no_content, degrees_from, images_of, row_of, square_in, generator_count}
use Rattle.resolution_laws.specs.Exactness.{target_of}
use Rattle.resolution_laws.proofs.Squares.{IsResolved, image_widths}
use Rattle.stem_laws.specs.Stems.{first_new, on_edge, in_stems, IsCanonicalResolution, NewGeneratorsAreNotMet, RowsInStemsAreWhole}
use Rattle.resolution_images.specs.BareRows.{BareRow, bare_row_in, squares_of}
use Rattle.resolution_images.proofs.Contents.{bare, length-row}
use Rattle.chart_rows.specs.Standing.{target_below, new_below, whole_images, whole_row}
use Rattle.chart_rows.specs.Canonical.{bare_square, AreRowsOfResolution}
use Rattle.chart_rows.proofs.Widths.{width_at, degrees_by_count}
use Rattle.chart_rows.proofs.Whole.{length-whole_row, square-whole_row}

-- ---- what is left out, and put back

-- the first n coordinates of a vector that is zero from there on, and zeros behind them
front_and_zeros : (n w : ℕ) (v : List Bool) → length v ≡ n + w → IsZeroFrom v n → take n v ++ zeros w ≡ v
front_and_zeros n w v e z =
    let left : length (drop n v) ≡ w = omega (arith, length-drop n v) in
    let none : drop n v ≡ zeros w = zeros_from_bits w (drop n v) left (λ k. get_or-drop n v k false ∙ z (n + k) (omega arith)) in
    ap (λ (x : List Bool). take n v ++ x) (sym none) ∙ take-append-drop n v

pub fronts_and_zeros : (n w : ℕ) (vectors : List (List Bool)) → HaveWidth (n + w) vectors → ((h : ℕ) → h < length vectors → IsZeroFrom (row vectors h) n) → map (λ v. v ++ zeros w) (map (take n) vectors) ≡ vectors
fronts_and_zeros n w vectors wide z =
    let cut : List Bool → List Bool = take n in
    let pad : List Bool → List Bool = λ v. v ++ zeros w in
    ext_get_or [] (map pad (map cut vectors)) vectors (length-map (map cut vectors) pad ∙ length-map vectors cut)
    (λ h l.
    let b : h < length vectors = omega (arith, length-map (map cut vectors) pad, length-map vectors cut) in
    let c : h < length (map cut vectors) = omega (arith, length-map vectors cut) in
    get_or-map pad (map cut vectors) h [] [] c ∙ ap pad (get_or-map cut vectors h [] [] b) ∙ front_and_zeros n w (row vectors h) (wide h b) (z h b))

no_zeros : (vectors : List (List Bool)) → map (λ v. v ++ zeros 0) vectors ≡ vectors
no_zeros [] = refl
no_zeros (v ∷ vectors) = ap (λ (x : List Bool). x ∷ map (λ u. u ++ zeros 0) vectors) (append-nil v) ∙ ap (λ (xs : List (List Bool)). v ∷ xs) (no_zeros vectors)

pub count-bare_square : (m : Module) (table : List (List Content)) (i k : ℕ) → length (bare_square m table i k).images ≡ generator_count table i k
count-bare_square m table zero k = refl
count-bare_square m table (suc i) k = length-map (square_in (row_of table (suc i)) k).images (take (first_new m table i k))

-- ---- a table and the rows of a chart that has squares of it

-- what is known of the table
pub record IsKnown (m : Module) (s t : ℕ) (table : List (List Content)) : Type 0 where
  pub free : FreeModulesAreModules
  pub commute : MapsCommute
  pub not_met : NewGeneratorsAreNotMet
  pub resolution : IsCanonicalResolution m s t table

pub resolved_of : (m : Module) (s t : ℕ) (table : List (List Content)) → IsKnown m s t table → IsResolved m s t table
resolved_of m s t table a = record { free = a.free; commute = a.commute; steenrod = a.resolution.steenrod; bounded = a.resolution.bounded; canonical = a.resolution.canonical }

-- where zeros are put back at generators of their own degree, the images are those of the table
pub put_back : (m : Module) (s t : ℕ) (table : List (List Content)) → IsKnown m s t table → (i k : ℕ) → suc i ≤ s → k ≤ t → map (λ v. v ++ zeros (generator_count table i k)) (bare_square m table (suc i) k).images ≡ (square_in (row_of table (suc i)) k).images
put_back m s t table a i k l b =
    let whole = (square_in (row_of table (suc i)) k).images in
    let n = first_new m table i k in
    let wide : HaveWidth ((target_of m table (suc i)).width (m.bottom +ℤ pos k)) whole = image_widths m s t table (resolved_of m s t table a) (suc i) k l b in
    let split : HaveWidth (n + generator_count table i k) whole = subst (λ (x : ℕ). HaveWidth x whole) (width_at m.bottom (row_of table i) k) wide in
    fronts_and_zeros n (generator_count table i k) whole split ((a.not_met m s t table a.resolution i k (omega arith) b).images l)

module _ (m : Module) (rows : List BareRow) (s t : ℕ) (table : List (List Content)) (a : IsKnown m s t table) (same : AreRowsOfResolution m rows) where
  -- a square has as many generators as that of the table
  pub count_same : (i k : ℕ) → i ≤ s → k ≤ t → k < length (bare_row_in rows i).counts → length (square_in (row_of (squares_of rows) i) k).images ≡ generator_count table i k
  count_same i k l b there = ap length (same i k there s t table a.resolution.canonical l b) ∙ count-bare_square m table i k

  -- and so are the degrees of the first squares of a row
  pub degrees_same_as : (xs : List Content) (i k : ℕ) → i ≤ s → k ≤ t + 1 → k ≤ length (bare_row_in rows i).counts → length xs ≡ k → ((j : ℕ) → j < k → length (square_in xs j).images ≡ generator_count table i j) → degrees_from m.bottom xs ≡ degrees_from m.bottom (take k (row_of (squares_of rows) i))
  degrees_same_as xs i k l b there len counts =
      let ys = take k (row_of (squares_of rows) i) in
      let many : (c : Content) → ℕ = λ c. length c.images in
      let long : length ys ≡ k = length-take-le k (row_of (squares_of rows) i) (omega (arith, length-row rows i)) in
      degrees_by_count m.bottom xs ys (ext_get_or 0 (map many xs) (map many ys) (length-map xs many ∙ len ∙ sym (length-map ys many ∙ long))
      (λ j c.
      let within : j < k = omega (arith, length-map xs many) in
      let left : get_or (map many xs) j 0 ≡ length (square_in xs j).images = get_or-map many xs j no_content 0 (omega arith) in
      let right : get_or (map many ys) j 0 ≡ length (square_in ys j).images = get_or-map many ys j no_content 0 (omega arith) in
      left ∙ counts j within ∙ sym (right ∙ ap many (get_or-take k (row_of (squares_of rows) i) j no_content within) ∙ count_same i j l (omega arith) (omega arith))))

  -- the target of a square
  pub target_same : (i k : ℕ) → i ≤ s → k ≤ t + 1 → ((j : ℕ) → suc j ≡ i → k ≤ length (bare_row_in rows j).counts) → target_below m table i k ≡ target_below m (squares_of rows) i k
  target_same zero k l b there = refl
  target_same (suc i) k l b there =
      let xs = take k (row_of table i) in
      let size = a.resolution.canonical.squares i (omega arith) in
      ap free_graded (degrees_same_as xs i k (omega arith) b (there i refl) (length-take-le k (row_of table i) (omega arith)) (λ j c. ap (λ (x : Content). length x.images) (get_or-take k (row_of table i) j no_content c)))

-- ---- the squares in stems

-- off the edge they are those of the table
square_off : (m : Module) (n : ℕ) (table : List (List Content)) (i j : ℕ) → n + i < length (row_of table i) → j < n + i → square_in (in_stems m n table i) j ≡ square_in (row_of table i) j
square_off m n table i j long l =
    let first = take (n + i) (row_of table i) in
    let len : length first ≡ n + i = length-take-le (n + i) (row_of table i) (omega arith) in
    get_or_append_left first (on_edge m table i (n + i) (square_in (row_of table i) (n + i)) ∷ []) no_content j (omega arith) ∙ get_or-take (n + i) (row_of table i) j no_content l

pub square_edge : (m : Module) (n : ℕ) (table : List (List Content)) (i : ℕ) → n + i < length (row_of table i) → square_in (in_stems m n table i) (n + i) ≡ on_edge m table i (n + i) (square_in (row_of table i) (n + i))
square_edge m n table i long =
    get_or_push (take (n + i) (row_of table i)) (on_edge m table i (n + i) (square_in (row_of table i) (n + i))) no_content (n + i) (length-take-le (n + i) (row_of table i) (omega arith))

module _ (m : Module) (rows : List BareRow) (s n : ℕ) (table : List (List Content)) (a : IsKnown m s (n + s) table) (same : AreRowsOfResolution m rows) where
  long : (i : ℕ) → i ≤ s → n + i < length (row_of table i)
  long i l = let size = a.resolution.canonical.squares i l in omega arith

  -- the images of a chart's square with zeros put back are those of the square in stems, where the row below has its generators
  pub whole_same : (i j : ℕ) → i ≤ s → j ≤ n + i → j < length (bare_row_in rows i).counts → ((x : ℕ) → suc x ≡ i → j < n + i → j < length (bare_row_in rows x).counts) → whole_images (squares_of rows) i (n + i) j ≡ (square_in (in_stems m n table i) j).images
  whole_same zero j l b there below =
      let short : (square_in (row_of (squares_of rows) 0) j).images ≡ (square_in (row_of table 0) j).images = same 0 j there s (n + s) table a.resolution.canonical l (omega arith) in
      let as_it_is : square_in (in_stems m n table 0) j ≡ square_in (row_of table 0) j = elim (cases_lt j (n + 0)) [
        | inl c ↦ square_off m n table 0 j (long 0 l) c
        | inr c ↦
            let e : n + 0 ≡ j = omega arith in
            subst (λ x. square_in (in_stems m n table 0) x ≡ square_in (row_of table 0) x) e (square_edge m n table 0 (long 0 l))
      ] in
      no_zeros (square_in (row_of (squares_of rows) 0) j).images ∙ short ∙ sym (ap (λ (c : Content). c.images) as_it_is)
  whole_same (suc i) j l b there below =
      let cut = n + suc i in
      let old = (square_in (row_of (squares_of rows) (suc i)) j).images in
      let short : old ≡ (bare_square m table (suc i) j).images = same (suc i) j there s (n + s) table a.resolution.canonical l (omega arith) in
      elim (cases_lt j cut) [
        | inl c ↦
            let count : new_below (squares_of rows) (suc i) cut j ≡ generator_count table i j =
            ap (λ (x : Content). length x.images) (get_or-take cut (row_of (squares_of rows) i) j no_content c)
            ∙ count_same m rows s (n + s) table a same i j (omega arith) (omega arith) (below i refl c) in
            ap (map (λ (v : List Bool). v ++ zeros (new_below (squares_of rows) (suc i) cut j))) short
            ∙ ap (λ w. map (λ (v : List Bool). v ++ zeros w) (bare_square m table (suc i) j).images) count
            ∙ put_back m s (n + s) table a i j l (omega arith)
            ∙ sym (ap (λ (x : Content). x.images) (square_off m n table (suc i) j (long (suc i) l) c))
        | inr c ↦
            let e : n + suc i ≡ j = omega arith in
            let none : new_below (squares_of rows) (suc i) cut j ≡ 0 =
            ap (λ (x : Content). length x.images) (get_or_past (take cut (row_of (squares_of rows) i)) j no_content (omega (arith, length-take cut (row_of (squares_of rows) i)))) in
            ap (λ w. map (λ (v : List Bool). v ++ zeros w) old) none ∙ no_zeros old ∙ short
            ∙ sym (subst (λ x. (square_in (in_stems m n table (suc i)) x).images ≡ (on_edge m table (suc i) x (square_in (row_of table (suc i)) x)).images) e (ap (λ (x : Content). x.images) (square_edge m n table (suc i) (long (suc i) l))))
      ]

  -- its first squares with zeros put back are those in stems
  pub first_whole : RowsInStemsAreWhole → (i k : ℕ) → i ≤ s → k ≤ n + i + 1 → k ≤ length (bare_row_in rows i).counts → ((x j : ℕ) → suc x ≡ i → j < k → j < n + i → j < length (bare_row_in rows x).counts) → whole_row (squares_of rows) i (n + i) k ≡ map bare (take k (in_stems m n table i))
  first_whole whole i k l b there below =
      let xs = whole_row (squares_of rows) i (n + i) k in
      let ys = take k (in_stems m n table i) in
      let size = whole m s n table a.resolution.canonical i l in
      let left : length xs ≡ k = length-whole_row (squares_of rows) i (n + i) k in
      let right : length ys ≡ k = length-take-le k (in_stems m n table i) (omega arith) in
      let alone : List (List Bool) → Content = λ (z : List (List Bool)). record { images = z; kernel = [] } in
      ext_get_or no_content xs (map bare ys) (left ∙ sym (length-map ys bare ∙ right)) (λ j c.
      let within : j < k = omega arith in
      square-whole_row (squares_of rows) i (n + i) k j within
      ∙ ap alone (whole_same i j l (omega arith) (omega arith) (λ x e f. below x j e within f))
      ∙ ap bare (sym (get_or-take k (in_stems m n table i) j no_content within))
      ∙ sym (get_or-map bare ys j no_content no_content (omega arith)))

-- the images of squares without their kernels
pub images_if_bare : (xs ys : List Content) → xs ≡ map bare ys → images_of xs ≡ images_of ys
images_if_bare xs [] e = ap images_of e
images_if_bare xs (y ∷ ys) e = ap images_of e ∙ ap (λ (z : List (List Bool)). y.images ++ z) (images_if_bare (map bare ys) ys refl)
