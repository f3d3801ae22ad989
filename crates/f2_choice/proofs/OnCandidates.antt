-- Rows that are sums of reduced candidates, by their values at the pivots of these: what the parts of the coordinates' reduction
-- say of them.
use Rattle.std.proofs.Common.{◌≡◌, ℕ, ◌-◌, ◌<◌, nat_eq, Bool, false, List, [], ◌++◌, length, map, reverse, refl, ap, sym, ◌∙◌, arith, subst, inl, inr}
use Rattle.std.proofs.lemmas.Bool.{cases_lt, cases_eq, eq-eqb, ne_eqb}
use Rattle.std.proofs.lemmas.List.{ext_get_or, get_or-map, length-map, length-reverse, get_or-reverse, length-append, get_or_append_left, get_or-append_right}
use Rattle.f2_vec.specs.Vectors.{plus, sum_of, zeros, bit, IsZero, IsFirstOne}
use Rattle.f2_vec.proofs.Sums.{bit-zeros, bit-sum_of, length-sum_of, plus-false, sum_of-comm, sum_of-self, sum_of-cancel}
use Rattle.f2_vec.specs.Spans.{row, HaveWidth, combination, unit_vector, IsInSpan}
use Rattle.f2_vec.proofs.Spans.{length-combination, length-IsInSpan, combination-sum_of, combination-append, row-IsInSpan, combination-IsInSpan, HaveWidth-append}
use Rattle.f2_vec.proofs.Split.{bit-unit_vector, length-unit_vector}
use Rattle.f2_vec.proofs.Combinations.{map-map, map_same, HaveWidth-map, combination-combination, combination-unit_vector}
use Rattle.f2_matrix.specs.Echelon.{IsReduced, HasNoZeroRow, IsRowBasis, IsKernelBasis}
use Rattle.f2_matrix.specs.Preimages.{IsPreimage, ArePreimages, pivot_of, at_pivots, quasi_of}
use Rattle.f2_choice.specs.Inside.Columns.{column}
use Rattle.f2_matrix.proofs.Pivots.{length-at_pivots, bit-at_pivots, sum_at_pivots, is_pivot, pivot_within}
use Rattle.f2_matrix.proofs.Preimages.{quasi_of-IsPreimage}
use Rattle.f2_choice.specs.Coordinates.{coordinates}
use Rattle.f2_choice.specs.Inside.Coordinates.{element_of, pivot_units, new_rows, relation_of}
use Rattle.f2_choice.proofs.Dots.{dot, dot-comm, dot-unit, bit-combination-dot, pairing}

-- the value of a row at the pivot of another
pub bit_at_pivot : (n : ℕ) (rows : List (List Bool)) (i j : ℕ) → IsReduced rows → HasNoZeroRow rows → i < length rows → j < length rows → bit (row rows j) (pivot_of (row rows i)) ≡ nat_eq i j
bit_at_pivot n rows i j h nz l m =
    let f = is_pivot (row rows i) (nz i l) in
    elim (cases_eq i j) [
      | inl e ↦ ap (λ k. bit (row rows k) (pivot_of (row rows i))) (sym e) ∙ f.one ∙ sym (eq-eqb i j e)
      | inr d ↦ h.pivots_alone i j (pivot_of (row rows i)) d f ∙ sym (ne_eqb i j d)
    ]

-- two vectors of the span that agree at the pivots
pub same_at_pivots : (n : ℕ) (rows : List (List Bool)) (u v : List Bool) → HaveWidth n rows → IsReduced rows → HasNoZeroRow rows → IsInSpan n rows u → IsInSpan n rows v → ((i : ℕ) → i < length rows → bit u (pivot_of (row rows i)) ≡ bit v (pivot_of (row rows i))) → u ≡ v
same_at_pivots n rows u v w h nz s t same =
    let agree : at_pivots rows u ≡ at_pivots rows v =
    ext_get_or false (at_pivots rows u) (at_pivots rows v) (length-at_pivots rows u ∙ sym (length-at_pivots rows v))
    (λ i l.
    let m : i < length rows = omega (arith, length-at_pivots rows u) in
    bit-at_pivots rows u i m ∙ same i m ∙ sym (bit-at_pivots rows v i m)) in
    sym (sum_at_pivots n rows u w h nz s) ∙ ap (λ c. combination n c rows) agree ∙ sum_at_pivots n rows v w h nz t

pub HaveWidth-units : (n : ℕ) (image : List (List Bool)) → HaveWidth n (pivot_units n image)
HaveWidth-units n image = HaveWidth-map n (λ r. unit_vector n (element_of n r)) image (λ r. length-unit_vector n (element_of n r))

pub row-column : (k : ℕ) (rows : List (List Bool)) (i : ℕ) → i < length rows → bit (column k rows) i ≡ bit (row rows i) k
row-column k rows i l = get_or-map (λ v. bit v k) rows i [] false l

pub nat_eq-comm : (a b : ℕ) → nat_eq a b ≡ nat_eq b a
nat_eq-comm a b = elim (cases_eq a b) [ inl e ↦ eq-eqb a b e ∙ sym (eq-eqb b a (sym e)) | inr d ↦ ne_eqb a b d ∙ sym (ne_eqb b a (λ e. d (sym e))) ]

-- what holds of each row of two lists holds of each row of both together
pub each_row-append : (P : List Bool → Type 0) (xs ys : List (List Bool)) → ((i : ℕ) → i < length xs → P (row xs i)) → ((i : ℕ) → i < length ys → P (row ys i)) → (i : ℕ) → i < length (xs ++ ys) → P (row (xs ++ ys) i)
each_row-append P xs ys h g i l =
    elim (cases_lt i (length xs)) [
      | inl b ↦ subst P (sym (get_or_append_left xs ys [] i b)) (h i b)
      | inr b ↦ subst P (sym (get_or-append_right xs ys (length xs) i [] refl b)) (g (i - length xs) (omega (arith, length-append xs ys)))
    ]

-- ---- the rows, the candidates, and the parts of the coordinates' reduction

-- candidates, sums of them, and the parts of the reduction of their coordinates
pub record AreParts (w : ℕ) (rows candidates image chosen kernel : List (List Bool)) : Type 0 where
  pub widths : HaveWidth w candidates
  pub reduced : IsReduced candidates
  pub nonzero : HasNoZeroRow candidates
  pub inside : (i : ℕ) → i < length rows → IsInSpan w candidates (row rows i)
  pub basis : IsRowBasis (length rows) (coordinates candidates rows) image
  pub relations : IsKernelBasis (length rows) (coordinates candidates rows) kernel
  pub preimages : ArePreimages (length rows) (coordinates candidates rows) kernel image chosen

module _ (w : ℕ) (rows candidates image chosen kernel : List (List Bool)) (g : AreParts w rows candidates image chosen kernel) where
  pub wide_rows : HaveWidth w rows
  wide_rows = λ i l. length-IsInSpan w candidates (row rows i) g.widths (g.inside i l)

  pub length-coordinates : length (coordinates candidates rows) ≡ length candidates
  length-coordinates = length-map candidates (λ c. column (pivot_of c) (reverse rows))

  row-coordinates : (l : ℕ) → l < length candidates → row (coordinates candidates rows) l ≡ column (pivot_of (row candidates l)) (reverse rows)
  row-coordinates l m = get_or-map (λ c. column (pivot_of c) (reverse rows)) candidates l [] [] m

  length-row : (q : ℕ) → length (column q (reverse rows)) ≡ length rows
  length-row q = length-map (reverse rows) (λ v. bit v q) ∙ length-reverse rows

  pub wide_coordinates : HaveWidth (length rows) (coordinates candidates rows)
  wide_coordinates = HaveWidth-map (length rows) (λ c. column (pivot_of c) (reverse rows)) candidates (λ c. length-row (pivot_of c))

  -- the coordinates are what the rows have at the pivots of the candidates
  pub bit-coordinates : (l j : ℕ) → l < length candidates → j < length rows → bit (row (coordinates candidates rows) l) j ≡ bit (row rows (length rows - 1 - j)) (pivot_of (row candidates l))
  bit-coordinates l j m k =
      let q = pivot_of (row candidates l) in
      ap (λ v. bit v j) (row-coordinates l m) ∙ row-column q (reverse rows) j (omega (arith, length-reverse rows)) ∙ ap (λ v. bit v q) (get_or-reverse rows j [] k)

  -- so its columns are the rows in the coordinates of the candidates
  pub column-coordinates : (j : ℕ) → j < length rows → column j (coordinates candidates rows) ≡ at_pivots candidates (row rows (length rows - 1 - j))
  column-coordinates j k =
      let x = row rows (length rows - 1 - j) in
      ext_get_or false (column j (coordinates candidates rows)) (at_pivots candidates x)
      (length-map (coordinates candidates rows) (λ v. bit v j) ∙ length-coordinates ∙ sym (length-at_pivots candidates x))
      (λ l m.
      let a : l < length (coordinates candidates rows) = omega (arith, length-map (coordinates candidates rows) (λ v. bit v j)) in
      let b : l < length candidates = omega (arith, length-coordinates) in
      row-column j (coordinates candidates rows) l a ∙ bit-coordinates l j b k ∙ sym (bit-at_pivots candidates x l b))

  pub element_within : (t : ℕ) → t < length image → (element_of (length rows) (row image t) < length rows) × (length rows - 1 - element_of (length rows) (row image t) ≡ pivot_of (row image t))
  element_within t l = let p = pivot_within (length rows) image t g.basis.widths g.basis.nonzero l in (omega arith, omega arith)

  -- the rows at the pivots of the image
  abbrev pivot_rows : List (List Bool)
  pivot_rows = map (λ v. row rows (element_of (length rows) v)) image

  wide_pivot_rows : HaveWidth w pivot_rows
  wide_pivot_rows = λ t l.
      let m : t < length image = omega (arith, length-map image (λ v. row rows (element_of (length rows) v))) in
      ap length (get_or-map (λ v. row rows (element_of (length rows) v)) image t [] [] m) ∙ wide_rows (element_of (length rows) (row image t)) (element_within t m).0

  -- what they have at a candidate's pivot
  column-pivot_rows : (l : ℕ) → l < length candidates → column (pivot_of (row candidates l)) pivot_rows ≡ at_pivots image (row (coordinates candidates rows) l)
  column-pivot_rows l m =
      let q = pivot_of (row candidates l) in
      map-map (λ v. bit v q) (λ v. row rows (element_of (length rows) v)) image
      ∙ map_same [] (λ v. bit (row rows (element_of (length rows) v)) q) (λ v. bit (row (coordinates candidates rows) l) (pivot_of v)) image
      (λ t k. sym (bit-coordinates l (pivot_of (row image t)) m (pivot_within (length rows) image t g.basis.widths g.basis.nonzero k)))

  -- a sum of unit vectors of these elements gives a sum of these rows
  pub combination-units : (c : List Bool) → combination w (combination (length rows) c (pivot_units (length rows) image)) rows ≡ combination w c pivot_rows
  combination-units c =
      let units = pivot_units (length rows) image in
      combination-combination w (length rows) c units rows refl (HaveWidth-units (length rows) image) wide_rows
      ∙ ap (combination w c)
      (map-map (λ x. combination w x rows) (λ r. unit_vector (length rows) (element_of (length rows) r)) image
      ∙ map_same [] (λ r. combination w (unit_vector (length rows) (element_of (length rows) r)) rows) (λ v. row rows (element_of (length rows) v)) image
      (λ t k. combination-unit_vector w (length rows) (element_of (length rows) (row image t)) rows wide_rows refl (element_within t k).0))

  -- ---- a unit vector is what is chosen for its coordinates, and kernel rows

  -- the pivots of the kernel rows are candidates' places
  pub kernel_pivot : (j : ℕ) → j < length kernel → pivot_of (row kernel j) < length candidates
  kernel_pivot j l = let p = pivot_within (length (coordinates candidates rows)) kernel j g.relations.widths g.relations.nonzero l in omega (arith, length-coordinates)

  unit_parts : (l : ℕ) → l < length candidates → sum_of (combination (length candidates) (at_pivots image (row (coordinates candidates rows) l)) chosen) (combination (length candidates) (at_pivots kernel (unit_vector (length candidates) l)) kernel) ≡ unit_vector (length candidates) l
  unit_parts l m =
      let n = length rows in
      let xs = coordinates candidates rows in
      let k = length xs in
      let x = row xs l in
      let u = unit_vector k l in
      let a : l < k = omega (arith, length-coordinates) in
      let q = quasi_of k image chosen x in
      let s : IsInSpan n image x = (g.basis.same_span x).0 (row-IsInSpan n xs l wide_coordinates a) in
      let p : IsPreimage n xs kernel x q = quasi_of-IsPreimage n xs kernel image chosen x wide_coordinates g.basis.widths g.basis.reduced g.basis.nonzero g.preimages s in
      let lu : length u ≡ k = length-unit_vector k l in
      let e = sum_of u q in
      let le : length e ≡ k = length-sum_of u q (lu ∙ sym p.one_each) ∙ lu in
      let gone : combination n e xs ≡ zeros n =
      combination-sum_of n u q xs wide_coordinates (lu ∙ sym p.one_each) ∙ ap (λ v. sum_of v (combination n q xs)) (combination-unit_vector n k l xs wide_coordinates refl a) ∙ ap (sum_of x) p.gives ∙ sum_of-self n x (wide_coordinates l a) in
      let t : IsInSpan k kernel e = (g.relations.spans_kernel e).0 (record { one_each = le; vanishes = gone }) in
      let there : at_pivots kernel e ≡ at_pivots kernel u =
      map_same [] (λ r. bit e (pivot_of r)) (λ r. bit u (pivot_of r)) kernel
      (λ j b.
      let z = is_pivot (row kernel j) (g.relations.nonzero j b) in
      bit-sum_of u q (pivot_of (row kernel j)) (lu ∙ sym p.one_each) ∙ ap (plus (bit u (pivot_of (row kernel j)))) (p.clear j (pivot_of (row kernel j)) z) ∙ plus-false (bit u (pivot_of (row kernel j)))) in
      let rest : combination k (at_pivots kernel u) kernel ≡ e = ap (λ c. combination k c kernel) (sym there) ∙ sum_at_pivots k kernel e g.relations.widths g.relations.reduced g.relations.nonzero t in
      let all : sum_of q (combination k (at_pivots kernel u) kernel) ≡ u =
      ap (sum_of q) (rest ∙ sum_of-comm u q) ∙ sum_of-cancel k q u p.one_each lu in
      subst (λ (z : ℕ). sum_of (combination z (at_pivots image x) chosen) (combination z (at_pivots kernel (unit_vector z l)) kernel) ≡ unit_vector z l) length-coordinates all

  wide_chosen : HaveWidth (length candidates) chosen
  wide_chosen = subst (λ z. HaveWidth z chosen) length-coordinates g.preimages.widths

  wide_kernel : HaveWidth (length candidates) kernel
  wide_kernel = subst (λ z. HaveWidth z kernel) length-coordinates g.relations.widths

  -- ---- the new rows

  pub row-new : (j : ℕ) → j < length kernel → row (new_rows candidates kernel) j ≡ row candidates (pivot_of (row kernel j))
  row-new j l = get_or-map (λ v. row candidates (pivot_of v)) kernel j [] [] l

  pub length-new : length (new_rows candidates kernel) ≡ length kernel
  length-new = length-map kernel (λ v. row candidates (pivot_of v))

  pub new-IsInSpan : (j : ℕ) → j < length (new_rows candidates kernel) → IsInSpan w candidates (row (new_rows candidates kernel) j)
  new-IsInSpan j l =
      let m : j < length kernel = omega (arith, length-new) in
      subst (IsInSpan w candidates) (sym (row-new j m)) (row-IsInSpan w candidates (pivot_of (row kernel j)) g.widths (kernel_pivot j m))

  pub wide_new : HaveWidth w (new_rows candidates kernel)
  wide_new = λ j l. length-IsInSpan w candidates (row (new_rows candidates kernel) j) g.widths (new-IsInSpan j l)

  column-new : (l : ℕ) → l < length candidates → column (pivot_of (row candidates l)) (new_rows candidates kernel) ≡ at_pivots kernel (unit_vector (length candidates) l)
  column-new l m =
      let q = pivot_of (row candidates l) in
      map-map (λ v. bit v q) (λ v. row candidates (pivot_of v)) kernel
      ∙ map_same [] (λ v. bit (row candidates (pivot_of v)) q) (λ v. bit (unit_vector (length candidates) l) (pivot_of v)) kernel
      (λ j b.
      let z = pivot_of (row kernel j) in
      bit_at_pivot w candidates l z g.reduced g.nonzero m (kernel_pivot j b) ∙ nat_eq-comm l z ∙ sym (bit-unit_vector (length candidates) l z m))

  -- ---- the g.preimages

  abbrev pub preimage : ℕ → List Bool
  preimage i = combination (length rows) (column i chosen) (pivot_units (length rows) image) ++ column i kernel

  preimage-parts : (i : ℕ) → combination w (preimage i) (rows ++ new_rows candidates kernel) ≡ sum_of (combination w (column i chosen) pivot_rows) (combination w (column i kernel) (new_rows candidates kernel))
  preimage-parts i =
      let a = combination (length rows) (column i chosen) (pivot_units (length rows) image) in
      combination-append w a (column i kernel) rows (new_rows candidates kernel) wide_rows wide_new (length-combination (length rows) (column i chosen) (pivot_units (length rows) image) (HaveWidth-units (length rows) image))
      ∙ ap (λ v. sum_of v (combination w (column i kernel) (new_rows candidates kernel))) (combination-units (column i chosen))

  pub wide_all : HaveWidth w (rows ++ new_rows candidates kernel)
  wide_all = HaveWidth-append w rows (new_rows candidates kernel) wide_rows wide_new

  pub all-IsInSpan : (i : ℕ) → i < length (rows ++ new_rows candidates kernel) → IsInSpan w candidates (row (rows ++ new_rows candidates kernel) i)
  all-IsInSpan = each_row-append (IsInSpan w candidates) rows (new_rows candidates kernel) g.inside new-IsInSpan

  -- each gives its candidate
  pub preimage-gives : (i : ℕ) → i < length candidates → combination w (preimage i) (rows ++ new_rows candidates kernel) ≡ row candidates i
  preimage-gives i m =
      let new = new_rows candidates kernel in
      let k = length candidates in
      let v = combination w (preimage i) (rows ++ new) in
      let a = combination w (column i chosen) pivot_rows in
      let b = combination w (column i kernel) new in
      let la : length a ≡ length b = length-combination w (column i chosen) pivot_rows wide_pivot_rows ∙ sym (length-combination w (column i kernel) new wide_new) in
      same_at_pivots w candidates v (row candidates i) g.widths g.reduced g.nonzero (combination-IsInSpan w (preimage i) (rows ++ new) candidates g.widths all-IsInSpan) (row-IsInSpan w candidates i g.widths m)
      (λ l b.
      let q = pivot_of (row candidates l) in
      let x = row (coordinates candidates rows) l in
      let y = combination k (at_pivots image x) chosen in
      let z = combination k (at_pivots kernel (unit_vector k l)) kernel in
      let left : dot (column i chosen) (column q pivot_rows) ≡ bit y i =
      ap (dot (column i chosen)) (column-pivot_rows l b) ∙ dot-comm (column i chosen) (at_pivots image x) ∙ sym (bit-combination-dot k (at_pivots image x) chosen i wide_chosen) in
      let right : dot (column i kernel) (column q new) ≡ bit z i =
      ap (dot (column i kernel)) (column-new l b) ∙ dot-comm (column i kernel) (at_pivots kernel (unit_vector k l)) ∙ sym (bit-combination-dot k (at_pivots kernel (unit_vector k l)) kernel i wide_kernel) in
      let lyz : length y ≡ length z = length-combination k (at_pivots image x) chosen wide_chosen ∙ sym (length-combination k (at_pivots kernel (unit_vector k l)) kernel wide_kernel) in
      ap (λ u. bit u q) (preimage-parts i)
      ∙ bit-sum_of a _ q la
      ∙ ap (λ c. plus c (bit (combination w (column i kernel) new) q)) (bit-combination-dot w (column i chosen) pivot_rows q wide_pivot_rows ∙ left)
      ∙ ap (plus (bit y i)) (bit-combination-dot w (column i kernel) new q wide_new ∙ right)
      ∙ sym (bit-sum_of y z i lyz)
      ∙ ap (λ u. bit u i) (unit_parts l b)
      ∙ bit-unit_vector k l i b
      ∙ nat_eq-comm i l
      ∙ sym (bit_at_pivot w candidates l i g.reduced g.nonzero b m))

  -- ---- g.relations between the rows

  -- each row is a sum of those at the pivots of the image
  row_by_pivots : (e : ℕ) → e < length rows → row rows e ≡ combination w (column (length rows - 1 - e) image) pivot_rows
  row_by_pivots e m =
      let n = length rows in
      let j = n - 1 - e in
      let jn : j < n = omega arith in
      let back : n - 1 - j ≡ e = omega arith in
      let c = column j image in
      same_at_pivots w candidates (row rows e) (combination w c pivot_rows) g.widths g.reduced g.nonzero (g.inside e m)
      (combination-IsInSpan w c pivot_rows candidates g.widths
      (λ t k.
      let a : t < length image = omega (arith, length-map image (λ v. row rows (element_of n v))) in
      subst (IsInSpan w candidates) (sym (get_or-map (λ v. row rows (element_of n v)) image t [] [] a)) (g.inside (element_of n (row image t)) (element_within t a).0)))
      (λ l b.
      let q = pivot_of (row candidates l) in
      let x = row (coordinates candidates rows) l in
      let ld : l < length (coordinates candidates rows) = omega (arith, length-coordinates) in
      let s : IsInSpan n image x = (g.basis.same_span x).0 (row-IsInSpan n (coordinates candidates rows) l wide_coordinates ld) in
      ap (λ z. bit (row rows z) q) (sym back)
      ∙ sym (bit-coordinates l j b jn)
      ∙ ap (λ v. bit v j) (sym (sum_at_pivots n image x g.basis.widths g.basis.reduced g.basis.nonzero s))
      ∙ bit-combination-dot n (at_pivots image x) image j g.basis.widths
      ∙ dot-comm (at_pivots image x) c
      ∙ ap (dot c) (sym (column-pivot_rows l b))
      ∙ sym (bit-combination-dot w c pivot_rows q wide_pivot_rows))

  pub relation-vanishes : (e : ℕ) → e < length rows → combination w (relation_of (length rows) image e) rows ≡ zeros w
  relation-vanishes e m =
      let n = length rows in
      let c = column (n - 1 - e) image in
      let y = combination n c (pivot_units n image) in
      let ly : length (unit_vector n e) ≡ length y = length-unit_vector n e ∙ sym (length-combination n c (pivot_units n image) (HaveWidth-units n image)) in
      combination-sum_of w (unit_vector n e) y rows wide_rows ly
      ∙ ap (λ v. sum_of v (combination w y rows)) (combination-unit_vector w n e rows wide_rows refl m)
      ∙ ap (sum_of (row rows e)) (combination-units c ∙ sym (row_by_pivots e m))
      ∙ sum_of-self w (row rows e) (wide_rows e m)

  -- ---- products with coordinates

  pub pairing-row : (y : List Bool) (e : ℕ) → e < length rows → pairing candidates y (row rows e) ≡ bit (combination (length rows) y (coordinates candidates rows)) (length rows - 1 - e)
  pairing-row y e m =
      let n = length rows in
      let j = n - 1 - e in
      let jn : j < n = omega arith in
      let back : n - 1 - j ≡ e = omega arith in
      ap (λ z. dot y (at_pivots candidates (row rows z))) (sym back) ∙ ap (dot y) (sym (column-coordinates j jn)) ∙ sym (bit-combination-dot n y (coordinates candidates rows) j wide_coordinates)

  pub pairing-candidate : (y : List Bool) (z : ℕ) → z < length candidates → pairing candidates y (row candidates z) ≡ bit y z
  pairing-candidate y z m =
      let k = length candidates in
      let v = row candidates z in
      let unit : at_pivots candidates v ≡ unit_vector k z =
      ext_get_or false (at_pivots candidates v) (unit_vector k z) (length-at_pivots candidates v ∙ sym (length-unit_vector k z))
      (λ l b.
      let c : l < k = omega (arith, length-at_pivots candidates v) in
      bit-at_pivots candidates v l c ∙ bit_at_pivot w candidates l z g.reduced g.nonzero c m ∙ sym (bit-unit_vector k z l m)) in
      ap (dot y) unit ∙ dot-unit y k z m

  pub pairing-new : (y : List Bool) (j : ℕ) → j < length kernel → pairing candidates y (row (new_rows candidates kernel) j) ≡ bit y (pivot_of (row kernel j))
  pairing-new y j l = ap (pairing candidates y) (row-new j l) ∙ pairing-candidate y (pivot_of (row kernel j)) (kernel_pivot j l)

  pub pairing-row_kernel : (j e : ℕ) → j < length kernel → e < length rows → pairing candidates (row kernel j) (row rows e) ≡ false
  pairing-row_kernel j e l m =
      let in_kernel = (g.relations.spans_kernel (row kernel j)).1 (row-IsInSpan (length (coordinates candidates rows)) kernel j g.relations.widths l) in
      pairing-row (row kernel j) e m ∙ ap (λ v. bit v (length rows - 1 - e)) in_kernel.vanishes ∙ bit-zeros (length rows) (length rows - 1 - e)

  pub pairing-row_chosen : (t e : ℕ) → t < length image → e < length rows → pairing candidates (row chosen t) (row rows e) ≡ bit (row image t) (length rows - 1 - e)
  pairing-row_chosen t e l m = pairing-row (row chosen t) e m ∙ ap (λ v. bit v (length rows - 1 - e)) (g.preimages.each t l).gives

  pub pairing-new_kernel : (i j : ℕ) → i < length kernel → j < length kernel → pairing candidates (row kernel i) (row (new_rows candidates kernel) j) ≡ nat_eq j i
  pairing-new_kernel i j l m = pairing-new (row kernel i) j m ∙ bit_at_pivot (length (coordinates candidates rows)) kernel j i g.relations.reduced g.relations.nonzero m l

  pub pairing-new_chosen : (t j : ℕ) → t < length image → j < length kernel → pairing candidates (row chosen t) (row (new_rows candidates kernel) j) ≡ false
  pairing-new_chosen t j l m = pairing-new (row chosen t) j m ∙ (g.preimages.each t l).clear j (pivot_of (row kernel j)) (is_pivot (row kernel j) (g.relations.nonzero j m))
