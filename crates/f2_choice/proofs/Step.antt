-- The candidates, their preimages, the choice, and the whole reduction.
use Rattle.std.proofs.Common.{◌≡◌, ◌≢◌, ℕ, zero, suc, ◌+◌, ◌-◌, ◌<◌, ◌≤◌, nat_eq, Bool, true, false, ◌||◌, List, [], ◌∷◌, ◌++◌, length, map, take, get_or, refl, ap, sym, ◌∙◌, arith, subst, inl, inr}
use Rattle.std.specs.List.{range_with_len, list_any, items_where_true}
use Rattle.std.proofs.lemmas.Bool.{cases_lt, cases_eq, both_ways, eq-eqb, ne_eqb, false_from_ne_true}
use Rattle.std.proofs.lemmas.List.{get_or-map, get_or_past, length-map, length-append, length-take-le, get_or_append_left, get_or-append_right, get_or-append-add, get_or-take}
use Rattle.std.proofs.lemmas.List.Folds.{list_any_at}
use Rattle.std.proofs.lemmas.List.FromFn.{length-range_with_len, get_or-range_with_len, length-map-range_with_len, get_or-map-range_with_len}
use Rattle.f2_vec.specs.Vectors.{bit, zeros}
use Rattle.f2_vec.specs.Spans.{row, HaveWidth, combination, unit_vector, IsInSpan}
use Rattle.f2_vec.proofs.Spans.{HaveWidth-append, length-combination, bit-combination_zero, row-IsInSpan, HaveSameSpan_from_rows}
use Rattle.f2_vec.proofs.Split.{bit-unit_vector}
use Rattle.f2_vec.proofs.Combinations.{map_same, HaveWidth-map, HaveWidth-take}
use Rattle.f2_matrix.specs.Echelon.{IsReduced, HasNoZeroRow, IsRowBasis, IsKernelBasis}
use Rattle.f2_matrix.specs.Reduction.{Reduction, IsReductionOf}
use Rattle.f2_matrix.specs.Preimages.{IsPreimage, ArePreimages, pivot_of}
use Rattle.f2_matrix.proofs.Elimination.{IsFirstOne-unique}
use Rattle.f2_matrix.proofs.Parts.{combination_where-IsInSpan, image_is_row_basis, kernel_is_kernel_basis, chosen_are_preimages}
use Rattle.f2_matrix.specs.Choice.{IsChosen}
use Rattle.f2_choice.specs.Inside.Columns.{column}
use Rattle.f2_choice.specs.Coordinates.{coordinates}
use Rattle.f2_choice.specs.Inside.Coordinates.{element_of, pivot_units, is_free, free_elements, new_rows, relation_of, relations_of, preimages_of, reduction_over}
use Rattle.f2_matrix.proofs.Pivots.{is_pivot}
use Rattle.f2_choice.proofs.Dots.{pairing, pairing_none}
use Rattle.f2_matrix.proofs.FromParts.{reduction_from_parts}
use Rattle.f2_choice.proofs.OnCandidates.{AreParts, row-column, HaveWidth-units, each_row-append, element_within, wide_rows, wide_all, length-coordinates, row-new, kernel_pivot, preimage, preimage-gives, all-IsInSpan, pairing-row_kernel, pairing-candidate}
use Rattle.f2_choice.proofs.Relations.{found, free_at, free_at-is, free_no_pivot, whole, made, length-whole, length-made, made_firsts, made-IsKernelBasis}

-- ---- the rows at rising pivots are those that a test over all places picks

abbrev pub has_pivot : List (List Bool) → ℕ → Bool
has_pivot ks i = list_any (λ v. nat_eq (pivot_of v) i) ks

abbrev PivotsRise : List (List Bool) → Type 0
PivotsRise ks = (i j : ℕ) → i < j → j < length ks → pivot_of (row ks i) < pivot_of (row ks j)

pick_true : (b : Bool) (bs cs : List Bool) (x : List Bool) (xs : List (List Bool)) → b ≡ true → bs ≡ cs → items_where_true (b ∷ bs) (x ∷ xs) ≡ x ∷ items_where_true cs xs
pick_true b bs cs x xs e f = ap (λ c. items_where_true (c ∷ bs) (x ∷ xs)) e ∙ ap (λ (ds : List Bool). x ∷ items_where_true ds xs) f

pick_false : (b : Bool) (bs : List Bool) (x : List Bool) (xs : List (List Bool)) → b ≡ false → items_where_true (b ∷ bs) (x ∷ xs) ≡ items_where_true bs xs
pick_false b bs x xs e = ap (λ c. items_where_true (c ∷ bs) (x ∷ xs)) e

shifted : (a : ℕ) (x : List Bool) (xs : List (List Bool)) (p : ℕ) → a < p → row xs (p - (a + 1)) ≡ row (x ∷ xs) (p - a)
shifted a x xs p l = let e : suc (p - (a + 1)) ≡ p - a = omega arith in ap (row (x ∷ xs)) e

picked : (a : ℕ) (xs ks : List (List Bool)) → PivotsRise ks → ((t : ℕ) → t < length ks → a ≤ pivot_of (row ks t)) → ((t : ℕ) → t < length ks → pivot_of (row ks t) < a + length xs) → items_where_true (map (has_pivot ks) (range_with_len a (length xs))) xs ≡ map (λ v. row xs (pivot_of v - a)) ks
picked a [] [] rise low high = refl
picked a [] (v ∷ ks) rise low high = absurd (omega (arith, low 0 (omega arith), high 0 (omega arith)))
picked a (x ∷ xs) [] rise low high = picked (a + 1) xs [] (λ i j l m. absurd (omega arith)) (λ t l. absurd (omega arith)) (λ t l. absurd (omega arith))
picked a (x ∷ xs) (v ∷ ks) rise low high =
    elim (cases_eq (pivot_of v) a) [
      | inl e ↦
          let here : has_pivot (v ∷ ks) a ≡ true = list_any_at (λ u. nat_eq (pivot_of u) a) (v ∷ ks) 0 [] (omega arith) (eq-eqb (pivot_of v) a e) in
          let above : (t : ℕ) → t < length ks → a < pivot_of (row ks t) = λ t l. omega (arith, rise 0 (suc t) (omega arith) (omega arith)) in
          let same : map (has_pivot (v ∷ ks)) (range_with_len (a + 1) (length xs)) ≡ map (has_pivot ks) (range_with_len (a + 1) (length xs)) =
          map_same 0 (has_pivot (v ∷ ks)) (has_pivot ks) (range_with_len (a + 1) (length xs))
          (λ i l.
          let q = get_or (range_with_len (a + 1) (length xs)) i 0 in
          let at : q ≡ a + 1 + i = get_or-range_with_len (a + 1) (length xs) i 0 (omega (arith, length-range_with_len (a + 1) (length xs))) in
          let apart : pivot_of v ≢ q = λ o. omega arith in
          ap (λ b. b || has_pivot ks q) (ne_eqb (pivot_of v) q apart)) in
          let rest = picked (a + 1) xs ks (λ i j l m. rise (suc i) (suc j) (omega arith) (omega arith)) (λ t l. omega (arith, above t l)) (λ t l. omega (arith, high (suc t) (omega arith))) in
          let none : pivot_of v - a ≡ 0 = omega arith in
          let first : x ≡ row (x ∷ xs) (pivot_of v - a) = ap (row (x ∷ xs)) (sym none) in
          pick_true (has_pivot (v ∷ ks) a) _ _ x xs here same
          ∙ ap (λ (z : List (List Bool)). x ∷ z) (rest ∙ map_same [] (λ u. row xs (pivot_of u - (a + 1))) (λ u. row (x ∷ xs) (pivot_of u - a)) ks (λ t l. shifted a x xs (pivot_of (row ks t)) (above t l)))
          ∙ ap (λ (z : List Bool). z ∷ map (λ u. row (x ∷ xs) (pivot_of u - a)) ks) first
      | inr d ↦
          let first : a ≤ pivot_of v = low 0 (omega arith) in
          let above : (t : ℕ) → t < length (v ∷ ks) → a < pivot_of (row (v ∷ ks) t) = all_above first d in
          let here : has_pivot (v ∷ ks) a ≡ false = false_from_ne_true (has_pivot (v ∷ ks) a) (λ h. let f = found pivot_of (v ∷ ks) a h in omega (arith, above f.0 f.1, f.2)) in
          let rest = picked (a + 1) xs (v ∷ ks) rise (λ t l. omega (arith, above t l)) (λ t l. omega (arith, high t l)) in
          pick_false (has_pivot (v ∷ ks) a) _ x xs here
          ∙ rest
          ∙ map_same [] (λ u. row xs (pivot_of u - (a + 1))) (λ u. row (x ∷ xs) (pivot_of u - a)) (v ∷ ks) (λ t l. shifted a x xs (pivot_of (row (v ∷ ks) t)) (above t l))
    ]
  where
    all_above : a ≤ pivot_of v → pivot_of v ≢ a → (t : ℕ) → t < length (v ∷ ks) → a < pivot_of (row (v ∷ ks) t)
    all_above l d zero m = omega arith
    all_above l d (suc t) m = omega (arith, rise 0 (suc t) (omega arith) m)

-- ---- the parts

module _ (w : ℕ) (rows candidates image chosen kernel : List (List Bool)) (g : AreParts w rows candidates image chosen kernel) where
  abbrev all : List (List Bool)
  all = whole w rows candidates image chosen kernel g

  abbrev relations_made : List (List Bool)
  relations_made = made w rows candidates image chosen kernel g

  abbrev preimages_made : List (List Bool)
  preimages_made = map (preimage w rows candidates image chosen kernel g) (range_with_len 0 (length candidates))

  length-front : (i : ℕ) → length (combination (length rows) (column i chosen) (pivot_units (length rows) image)) ≡ length rows
  length-front i = length-combination (length rows) (column i chosen) (pivot_units (length rows) image) (HaveWidth-units (length rows) image)

  length-preimage : (i : ℕ) → length (preimage w rows candidates image chosen kernel g i) ≡ length all
  length-preimage i =
      length-append (combination (length rows) (column i chosen) (pivot_units (length rows) image)) (column i kernel)
      ∙ omega (arith, length-front i, length-map kernel (λ v. bit v i), length-whole w rows candidates image chosen kernel g)

  candidate-within : (i : ℕ) → i < length candidates → IsInSpan w all (row candidates i)
  candidate-within i l = record {
    coefficients = preimage w rows candidates image chosen kernel g i;
    one_each = length-preimage i;
    sum = preimage-gives w rows candidates image chosen kernel g i l;
  }

  -- the candidates are the reduced basis of the span
  pub candidates-IsRowBasis : IsRowBasis w all candidates
  candidates-IsRowBasis = record {
    widths = g.widths;
    same_span = HaveSameSpan_from_rows w all candidates (wide_all w rows candidates image chosen kernel g) g.widths (all-IsInSpan w rows candidates image chosen kernel g) candidate-within;
    reduced = g.reduced;
    nonzero = g.nonzero;
  }

  -- a preimage has no 1 at a free element
  preimage-clear : (i e : ℕ) → e < length rows → is_free (length rows) image e ≡ true → bit (preimage w rows candidates image chosen kernel g i) e ≡ false
  preimage-clear i e l f =
      let n = length rows in
      let units = pivot_units n image in
      let x = combination n (column i chosen) units in
      get_or_append_left x (column i kernel) false e (omega (arith, length-front i))
      ∙ bit-combination_zero n (column i chosen) units e (HaveWidth-units n image)
      (λ t m.
      let u = λ (r : List Bool). unit_vector n (element_of n r) in
      let k : t < length image = omega (arith, length-map image u) in
      let at = element_within w rows candidates image chosen kernel g t k in
      let apart : e ≢ element_of n (row image t) = free_no_pivot n image e t f k in
      ap (λ v. bit v e) (get_or-map u image t [] [] k) ∙ bit-unit_vector n (element_of n (row image t)) e at.0 ∙ ne_eqb e (element_of n (row image t)) apart)

  pub preimages_made-ArePreimages : ArePreimages w all relations_made candidates preimages_made
  preimages_made-ArePreimages = record {
    widths = HaveWidth-map (length all) (preimage w rows candidates image chosen kernel g) (range_with_len 0 (length candidates)) length-preimage;
    as_many = length-map-range_with_len (preimage w rows candidates image chosen kernel g) 0 (length candidates);
    each = λ i l.
        let same : row preimages_made i ≡ preimage w rows candidates image chosen kernel g i = get_or-map-range_with_len (preimage w rows candidates image chosen kernel g) 0 (length candidates) i i [] l (omega arith) in
        subst (IsPreimage w all relations_made (row candidates i)) (sym same) (each_preimage i l);
  }
    where
      each_preimage : (i : ℕ) → i < length candidates → IsPreimage w all relations_made (row candidates i) (preimage w rows candidates image chosen kernel g i)
      each_preimage i l = record {
        one_each = length-preimage i;
        gives = preimage-gives w rows candidates image chosen kernel g i l;
        clear = λ t p f.
            let n = length rows in
            elim (cases_lt t (length relations_made)) [
              | inl m ↦
                  let at = free_at-is n image t (omega (arith, length-made w rows candidates image chosen kernel g)) in
                  let e : p ≡ free_at n image t = IsFirstOne-unique (row relations_made t) p (free_at n image t) f ((made_firsts w rows candidates image chosen kernel g).first t m) in
                  ap (bit (preimage w rows candidates image chosen kernel g i)) e ∙ preimage-clear i (free_at n image t) at.0 at.2
              | inr m ↦ absurd (both_ways (bit (row relations_made t) p) (ap (λ v. bit v p) (get_or_past relations_made t [] m)) f.one)
            ];
      }

  -- ---- the choice

  abbrev kept : List Bool
  kept = map (has_pivot kernel) (range_with_len 0 (length candidates))

  pub bit-kept : (i : ℕ) → i < length candidates → bit kept i ≡ has_pivot kernel i
  bit-kept i l = get_or-map-range_with_len (has_pivot kernel) 0 (length candidates) i i false l (omega arith)

  pivots_rise : PivotsRise kernel
  pivots_rise i j l m = g.relations.reduced.pivots_rise i j (pivot_of (row kernel i)) (pivot_of (row kernel j)) l (is_pivot (row kernel i) (g.relations.nonzero i (omega arith))) (is_pivot (row kernel j) (g.relations.nonzero j m))

  pub new-IsPicked : new_rows candidates kernel ≡ items_where_true kept candidates
  new-IsPicked =
      sym (picked 0 candidates kernel pivots_rise (λ t l. omega arith) (λ t l. omega (arith, kernel_pivot w rows candidates image chosen kernel g t l))
      ∙ map_same [] (λ v. row candidates (pivot_of v - 0)) (λ v. row candidates (pivot_of v)) kernel
      (λ t l. let e : pivot_of (row kernel t) - 0 ≡ pivot_of (row kernel t) = omega arith in ap (row candidates) e))

  wide_before : (i : ℕ) → HaveWidth w (rows ++ take i candidates)
  wide_before i = HaveWidth-append w rows (take i candidates) (wide_rows w rows candidates image chosen kernel g) (HaveWidth-take w i candidates g.widths)

  -- a candidate at no pivot is a sum of rows and candidates before it
  pub dropped-IsInSpan : (i : ℕ) → i < length candidates → has_pivot kernel i ≡ false → IsInSpan w (rows ++ take i candidates) (row candidates i)
  dropped-IsInSpan i l none =
      let n = length rows in
      let c = preimage w rows candidates image chosen kernel g i in
      let before = rows ++ take i candidates in
      let wide = wide_before i in
      subst (IsInSpan w before) (preimage-gives w rows candidates image chosen kernel g i l)
      (combination_where-IsInSpan w c all before wide
      (λ j m one.
      elim (cases_lt j n) [
        | inl a ↦
            let same : row before j ≡ row all j = get_or_append_left rows (take i candidates) [] j a ∙ sym (get_or_append_left rows (new_rows candidates kernel) [] j a) in
            subst (IsInSpan w before) same (row-IsInSpan w before j wide (omega (arith, length-append rows (take i candidates))))
        | inr a ↦
            let h = j - n in
            let hl : h < length kernel = omega (arith, length-whole w rows candidates image chosen kernel g) in
            let v = row kernel h in
            let z = pivot_of v in
            let x = combination n (column i chosen) (pivot_units n image) in
            let bit_there : bit c j ≡ bit v i = get_or-append_right x (column i kernel) n j false (length-front i) a ∙ row-column i kernel h hl in
            let apart : z ≢ i = λ q. both_ways (has_pivot kernel i) none (list_any_at (λ u. nat_eq (pivot_of u) i) kernel h [] hl (eq-eqb z i q)) in
            let at_most : z ≤ i = elim (cases_lt i z) [
              | inl b ↦ absurd (both_ways (bit v i) ((is_pivot v (g.relations.nonzero h hl)).zeros_before i b) (sym bit_there ∙ one))
              | inr b ↦ b
            ] in
            let zi : z < i = omega arith in
            let zl : z < length (take i candidates) = omega (arith, length-take-le i candidates (omega arith)) in
            let same : row before (n + z) ≡ row all j =
            get_or-append-add rows (take i candidates) z [] ∙ get_or-take i candidates z [] zi ∙ sym (row-new w rows candidates image chosen kernel g h hl) ∙ sym (get_or-append_right rows (new_rows candidates kernel) n j [] refl a) in
            subst (IsInSpan w before) same (row-IsInSpan w before (n + z) wide (omega (arith, length-append rows (take i candidates))))
      ]))

  -- one at a pivot is not: the kernel row tells it from them
  pub kept-apart : (i : ℕ) → i < length candidates → IsInSpan w (rows ++ take i candidates) (row candidates i) → has_pivot kernel i ≡ false
  kept-apart i l s =
      false_from_ne_true (has_pivot kernel i)
      (λ some.
      let f = found pivot_of kernel i some in
      let v = row kernel f.0 in
      let p = is_pivot v (g.relations.nonzero f.0 f.1) in
      let one : pairing candidates v (row candidates i) ≡ true = pairing-candidate w rows candidates image chosen kernel g v i l ∙ ap (bit v) (sym f.2) ∙ p.one in
      let none : pairing candidates v (row candidates i) ≡ false =
      pairing_none candidates v w (rows ++ take i candidates) (row candidates i) (wide_before i)
      (each_row-append (λ x. pairing candidates v x ≡ false) rows (take i candidates)
      (λ e m. pairing-row_kernel w rows candidates image chosen kernel g f.0 e f.1 m)
      (λ z m.
      let zi : z < i = omega (arith, length-take-le i candidates (omega arith)) in
      ap (pairing candidates v) (get_or-take i candidates z [] zi) ∙ pairing-candidate w rows candidates image chosen kernel g v z (omega arith) ∙ p.zeros_before z (omega (arith, f.2))))
      s in
      both_ways (pairing candidates v (row candidates i)) none one)

  pub new-IsChosen : IsChosen w rows candidates (new_rows candidates kernel)
  new-IsChosen = record {
    kept = kept;
    one_each = length-map-range_with_len (has_pivot kernel) 0 (length candidates);
    dropped = λ i l. (
      λ e. dropped-IsInSpan i l (sym (bit-kept i l) ∙ e),
      λ s. bit-kept i l ∙ kept-apart i l s,
    );
    chosen_are = new-IsPicked;
  }

  pub parts-IsReductionOf : IsReductionOf w all (record { cols = w; height = length all; image = candidates; chosen = preimages_made; kernel = relations_made })
  parts-IsReductionOf = reduction_from_parts w all candidates preimages_made relations_made (wide_all w rows candidates image chosen kernel g) candidates-IsRowBasis (made-IsKernelBasis w rows candidates image chosen kernel g) preimages_made-ArePreimages

-- ---- the law

pub parts_of : (w : ℕ) (rows candidates : List (List Bool)) (r : Reduction) → HaveWidth w candidates → IsReduced candidates → HasNoZeroRow candidates → ((i : ℕ) → i < length rows → IsInSpan w candidates (row rows i)) → IsReductionOf (length rows) (coordinates candidates rows) r → AreParts w rows candidates r.image r.chosen r.kernel
parts_of w rows candidates r wc hc nz inside h =
    let n = length rows in
    let xs = coordinates candidates rows in
    record {
      widths = wc;
      reduced = hc;
      nonzero = nz;
      inside = inside;
      basis = subst (λ (z : List (List Bool)). IsRowBasis n xs z) (sym h.image) (image_is_row_basis n xs h.form h.widths h.is_form);
      relations = subst (λ (z : List (List Bool)). IsKernelBasis n xs z) (sym h.kernel) (kernel_is_kernel_basis n xs h.form h.widths h.is_form);
      preimages = rw (h.image, h.chosen, h.kernel) (chosen_are_preimages n xs h.form h.widths h.is_form);
    }

-- the new rows are those that are chosen, and that reduction is the one with them behind the rows
pub record IsChoiceBy (w : ℕ) (rows candidates : List (List Bool)) (r : Reduction) : Type 0 where
  pub chosen : IsChosen w rows candidates (new_rows candidates r.kernel)
  pub reduction : IsReductionOf w (rows ++ new_rows candidates r.kernel) (reduction_over w candidates r)

pub covered_choice : (w : ℕ) (rows candidates : List (List Bool)) (r : Reduction) → HaveWidth w candidates → IsReduced candidates → HasNoZeroRow candidates → ((i : ℕ) → i < length rows → IsInSpan w candidates (row rows i)) → IsReductionOf (length rows) (coordinates candidates rows) r → IsChoiceBy w rows candidates r
covered_choice w rows candidates r wc hc nz inside h =
    let g = parts_of w rows candidates r wc hc nz inside h in
    let n = length rows in
    let k = length candidates in
    let all = rows ++ new_rows candidates r.kernel in
    let P : ℕ → ℕ → ℕ → Type 0 = λ c height total. IsReductionOf w all (record {
      cols = w;
      height = total;
      image = candidates;
      chosen = map (λ i. combination c (column i r.chosen) (pivot_units c r.image) ++ column i r.kernel) (range_with_len 0 height);
      kernel = map (λ e. relation_of c r.image e ++ zeros (length r.kernel)) (free_elements c r.image);
    }) in
    let cols : n ≡ r.cols = sym h.cols in
    let height : k ≡ r.height = sym (h.height ∙ length-coordinates w rows candidates r.image r.chosen r.kernel g) in
    let total : length all ≡ r.cols + length r.kernel = length-whole w rows candidates r.image r.chosen r.kernel g ∙ ap (λ z. z + length r.kernel) cols in
    let start : P n k (length all) = parts-IsReductionOf w rows candidates r.image r.chosen r.kernel g in
    record {
      chosen = new-IsChosen w rows candidates r.image r.chosen r.kernel g;
      reduction = subst (λ z. P r.cols r.height z) total (subst (λ z. P r.cols z (length all)) height (subst (λ z. P z k (length all)) cols start));
    }

-- ---- what the functions that build the parts ask

pub reduction_kernel : (n : ℕ) (rows : List (List Bool)) (r : Reduction) → IsReductionOf n rows r → IsKernelBasis n rows r.kernel
reduction_kernel n rows r h = subst (λ (z : List (List Bool)). IsKernelBasis n rows z) (sym h.kernel) (kernel_is_kernel_basis n rows h.form h.widths h.is_form)

pub reduction_preimages : (n : ℕ) (rows : List (List Bool)) (r : Reduction) → IsReductionOf n rows r → ArePreimages n rows r.kernel r.image r.chosen
reduction_preimages n rows r h = rw (h.image, h.chosen, h.kernel) (chosen_are_preimages n rows h.form h.widths h.is_form)

-- what the parts are asked to be, and are
pub record IsBuilt (w whole : ℕ) (rows candidates new chosen kernel : List (List Bool)) : Type 0 where
  pub chosen_widths : HaveWidth whole chosen
  pub as_many : length chosen ≡ length candidates
  pub kernel_widths : HaveWidth whole kernel
  pub is_chosen : IsChosen w rows candidates new
  pub is_kernel : IsKernelBasis w (rows ++ new) kernel
  pub reduction : IsReductionOf w (rows ++ new) (record { cols = w; height = whole; image = candidates; chosen = chosen; kernel = kernel })

-- the parts of the step, by the names that they have there
module _ (w whole : ℕ) (rows candidates new chosen kernel : List (List Bool)) (r : Reduction) (h : IsReductionOf (length rows) (coordinates candidates rows) r) (wc : HaveWidth w candidates) (hc : IsReduced candidates) (nz : HasNoZeroRow candidates) (inside : (i : ℕ) → i < length rows → IsInSpan w candidates (row rows i)) (is_new : new ≡ new_rows candidates r.kernel) (is_whole : whole ≡ length rows + length r.kernel) (is_chosen : chosen ≡ preimages_of r) (is_kernel : kernel ≡ relations_of r) where
  step_here : IsChoiceBy w rows candidates r
  step_here = covered_choice w rows candidates r wc hc nz inside h

  length-all : length (rows ++ new_rows candidates r.kernel) ≡ whole
  length-all = length-append rows (new_rows candidates r.kernel) ∙ omega (arith, length-map r.kernel (λ v. row candidates (pivot_of v)))

  built_chosen_widths : HaveWidth whole chosen
  built_chosen_widths =
      let p = reduction_preimages w (rows ++ new_rows candidates r.kernel) (reduction_over w candidates r) step_here.reduction in
      subst (λ (z : List (List Bool)). HaveWidth whole z) (sym is_chosen) (subst (λ (k : ℕ). HaveWidth k (preimages_of r)) length-all p.widths)

  built_as_many : length chosen ≡ length candidates
  built_as_many = ap length is_chosen ∙ (reduction_preimages w (rows ++ new_rows candidates r.kernel) (reduction_over w candidates r) step_here.reduction).as_many

  built_kernel_widths : HaveWidth whole kernel
  built_kernel_widths =
      let p = reduction_kernel w (rows ++ new_rows candidates r.kernel) (reduction_over w candidates r) step_here.reduction in
      subst (λ (z : List (List Bool)). HaveWidth whole z) (sym is_kernel) (subst (λ (k : ℕ). HaveWidth k (relations_of r)) length-all p.widths)

  built_is_chosen : IsChosen w rows candidates new
  built_is_chosen = subst (λ (z : List (List Bool)). IsChosen w rows candidates z) (sym is_new) step_here.chosen

  built_reduction : IsReductionOf w (rows ++ new) (record { cols = w; height = whole; image = candidates; chosen = chosen; kernel = kernel })
  built_reduction =
      let cols : r.cols ≡ length rows = h.cols in
      let height : r.cols + length r.kernel ≡ whole = omega arith in
      rw (is_new, is_chosen, is_kernel, ← height) step_here.reduction

  built_kernel : IsKernelBasis w (rows ++ new) kernel
  built_kernel = reduction_kernel w (rows ++ new) (record { cols = w; height = whole; image = candidates; chosen = chosen; kernel = kernel }) built_reduction

  pub built : IsBuilt w whole rows candidates new chosen kernel
  built = record {
    chosen_widths = built_chosen_widths;
    as_many = built_as_many;
    kernel_widths = built_kernel_widths;
    is_chosen = built_is_chosen;
    is_kernel = built_kernel;
    reduction = built_reduction;
  }
