-- The parts of a reduction are determined by how they stand to the matrix and to each other.
use Rattle.std.proofs.Common.{◌≡◌, inl, inr, ℕ, suc, ◌+◌, ◌<◌, ◌≤◌, Bool, true, false, cond, ◌&&◌, not, List, [], ◌∷◌, ◌++◌, length, map, take, drop, refl, sym, ◌∙◌, ap, subst, arith}
use Rattle.std.specs.List.{filter}
use Rattle.std.proofs.lemmas.Bool.{cases_Bool, both_ways, eq-eqb, ne_eqb}
use Rattle.std.proofs.lemmas.List.{length-map, get_or-drop}
use Rattle.f2_vec.specs.Vectors.{bit, IsZero, zeros}
use Rattle.f2_vec.specs.Spans.{row, HaveWidth, combination, IsInSpan, IsInKernel, unit_vector}
use Rattle.f2_vec.proofs.Sums.{zeros_from_bits}
use Rattle.f2_vec.proofs.Spans.{length-combination, row-IsInSpan}
use Rattle.f2_vec.proofs.Split.{combination-split, HaveWidth-left, HaveWidth-right, length-unit_vector, bit-unit_vector}
use Rattle.f2_vec.proofs.Combinations.{combination_alone}
use Rattle.f2_matrix.specs.Echelon.{HasNoZeroRow, IsEchelonForm, IsRowBasis, IsKernelBasis}
use Rattle.f2_matrix.specs.Reduction.{augmented, has_one, image_part, chosen_part, kernel_part, IsReductionOf}
use Rattle.f2_matrix.specs.Rank.{SpanAll}
use Rattle.f2_matrix.specs.Parts.{AreReductionParts, PartsAreReduction}
use Rattle.f2_matrix.proofs.Eliminate.{has_reduction}
use Rattle.f2_matrix.proofs.FromParts.{reduction_from_parts}
use Rattle.f2_matrix.proofs.Parts.{has_one-zero, same_parts, whole_in_form, row-map_drop, image_is_row_basis, kernel_is_kernel_basis, chosen_are_preimages}
use Rattle.f2_matrix.proofs.Spanning.{lengths_within, spanning_is_full}
use Rattle.f2_matrix.proofs.Split.{length-augmented}
use Rattle.f2_matrix.proofs.Within.{not_more, same_rows}

-- ---- rows that keep the rules are the parts

-- they are within the spans of the parts that there are, as many, and reduced as these are
parts_determine : (n : ℕ) (rows image chosen kernel : List (List Bool)) → HaveWidth n rows → AreReductionParts n rows image chosen kernel → IsReductionOf n rows (record { cols = n; height = length rows; image = image; chosen = chosen; kernel = kernel })
parts_determine n rows image chosen kernel w p =
    let v = length rows in
    let own = has_reduction n rows w in
    let form = own.1.form in
    let image0 = image_part n form in
    let kernel0 = kernel_part n form in
    let ib = image_is_row_basis n rows form w own.1.is_form in
    let kb = kernel_is_kernel_basis n rows form w own.1.is_form in
    let image_inside : (i : ℕ) → i < length image → IsInSpan n image0 (row image i) = λ i l.
    let pre = p.preimages.each i l in
    (ib.same_span (row image i)).0 (record { coefficients = row chosen i; one_each = pre.one_each; sum = pre.gives }) in
    let kernel_inside : (i : ℕ) → i < length kernel → IsInSpan v kernel0 (row kernel i) = λ i l. (kb.spans_kernel (row kernel i)).0 (p.relations i l) in
    let few_images : length image ≤ length image0 = not_more n image image0 p.image_widths ib.widths p.image_reduced ib.reduced p.image_nonzero ib.nonzero image_inside in
    let few_relations : length kernel ≤ length kernel0 = not_more v kernel kernel0 p.kernel_widths kb.widths p.kernel_reduced kb.reduced p.kernel_nonzero kb.nonzero kernel_inside in
    let most = lengths_within n form in
    let all : length form ≡ length rows = own.1.is_form.as_many ∙ length-augmented rows in
    let count = p.rank_and_nullity in
    let images_same : image ≡ image0 = same_rows n image image0 p.image_widths ib.widths p.image_reduced ib.reduced p.image_nonzero ib.nonzero image_inside (omega arith) in
    let kernels_same : kernel ≡ kernel0 = same_rows v kernel kernel0 p.kernel_widths kb.widths p.kernel_reduced kb.reduced p.kernel_nonzero kb.nonzero kernel_inside (omega arith) in
    reduction_from_parts n rows image chosen kernel w (subst (IsRowBasis n rows) (sym images_same) ib) (subst (IsKernelBasis n rows) (sym kernels_same) kb) p.preimages

-- ---- the parts keep the rules: none of the rows of the form is zero

-- right of the bar the rows of the form span all vectors
right_spans_all : (n : ℕ) (xs form : List (List Bool)) → HaveWidth n xs → IsEchelonForm (n + length xs) (augmented xs) form → SpanAll (length xs) (map (drop n) form)
right_spans_all n xs form w e = λ c l.
    let m = length xs in
    let s = whole_in_form n xs form c w e l in
    let d = s.coefficients in
    let halves : combination n c xs ++ c ≡ combination n d (map (take n) form) ++ combination m d (map (drop n) form) = sym s.sum ∙ combination-split n m d form e.widths in
    let same = same_parts n (combination n c xs) c (combination n d (map (take n) form)) (combination m d (map (drop n) form)) (length-combination n c xs w) (length-combination n d (map (take n) form) (HaveWidth-left n m form e.widths)) halves in
    record { coefficients = d; one_each = s.one_each ∙ sym (length-map form (drop n)); sum = sym same.1 }

-- as many as the dimension, so that they are independent, and none is zero
form_nonzero : (n : ℕ) (xs form : List (List Bool)) → HaveWidth n xs → IsEchelonForm (n + length xs) (augmented xs) form → HasNoZeroRow form
form_nonzero n xs form w e = λ i l z.
    let m = length xs in
    let right = map (drop n) form in
    let wide : HaveWidth m right = HaveWidth-right n m form e.widths in
    let many : length right ≡ m = length-map form (drop n) ∙ (e.as_many ∙ length-augmented xs) in
    let there : i < m = omega (arith, length-map form (drop n)) in
    let c = unit_vector m i in
    let here : bit c i ≡ true = bit-unit_vector m i i there ∙ eq-eqb i i refl in
    let alone : combination m c right ≡ row right i = combination_alone m c right i wide (omega arith) here (λ j d. bit-unit_vector m i j there ∙ ne_eqb j i d) in
    let zero_row : row right i ≡ zeros m = zeros_from_bits m (row right i) (wide i (omega arith)) (λ k. ap (λ (v : List Bool). bit v k) (row-map_drop n form i l) ∙ zero_behind n (row form i) z k) in
    let relation : IsInKernel m right c = record { one_each = length-unit_vector m i ∙ sym many; vanishes = alone ∙ zero_row } in
    let none : bit c i ≡ false = (spanning_is_full m right wide (right_spans_all n xs form w e)).independent many c relation i in
    both_ways (bit c i) none here
  where
    zero_behind : (n : ℕ) (v : List Bool) → IsZero v → (k : ℕ) → bit (drop n v) k ≡ false
    zero_behind n v z k = get_or-drop n v k false ∙ z (n + k)

-- so each row has a part left of the bar, or only right of it
parts_of_nonzero : (f : List Bool → Bool) (rows : List (List Bool)) → ((i : ℕ) → i < length rows → has_one (row rows i) ≡ true) → length (filter f rows) + length (filter (λ r. not (f r) && has_one r) rows) ≡ length rows
parts_of_nonzero f [] h = refl
parts_of_nonzero f (r ∷ rows) h =
    let rest = parts_of_nonzero f rows (λ i l. h (suc i) (omega arith)) in
    by (f r) (has_one r) (h 0 (omega arith)) rest
  where
    by : (b c : Bool) → c ≡ true → length (filter f rows) + length (filter (λ r. not (f r) && has_one r) rows) ≡ length rows → length (cond b (r ∷ filter f rows) (filter f rows)) + length (cond (not b && c) (r ∷ filter (λ r. not (f r) && has_one r) rows) (filter (λ r. not (f r) && has_one r) rows)) ≡ suc (length rows)
    by true c e h = omega arith
    by false true e h = omega arith
    by false false e h = absurd (both_ways false refl e)

rank_and_nullity_are : (n : ℕ) (xs form : List (List Bool)) → HaveWidth n xs → IsEchelonForm (n + length xs) (augmented xs) form → length (image_part n form) + length (kernel_part n form) ≡ length xs
rank_and_nullity_are n xs form w e =
    let f = λ (r : List Bool). has_one (take n r) in
    let k = λ (r : List Bool). not (has_one (take n r)) && has_one r in
    let some : (i : ℕ) → i < length form → has_one (row form i) ≡ true = λ i l. elim (cases_Bool (has_one (row form i))) [
      | inl one ↦ one
      | inr none ↦ absurd (form_nonzero n xs form w e i l (has_one-zero (row form i) none))
    ] in
    let h = parts_of_nonzero f form some in
    let a : length (image_part n form) ≡ length (filter f form) = length-map (filter f form) (take n) in
    let b : length (kernel_part n form) ≡ length (filter k form) = length-map (filter k form) (drop n) in
    let c : length form ≡ length xs = e.as_many ∙ length-augmented xs in
    omega arith

parts_keep : (n : ℕ) (rows image chosen kernel : List (List Bool)) → HaveWidth n rows → IsReductionOf n rows (record { cols = n; height = length rows; image = image; chosen = chosen; kernel = kernel }) → AreReductionParts n rows image chosen kernel
parts_keep n rows image chosen kernel w h =
    let form = h.form in
    let is_image : image ≡ image_part n form = h.image in
    let is_chosen : chosen ≡ chosen_part n form = h.chosen in
    let is_kernel : kernel ≡ kernel_part n form = h.kernel in
    let basis : IsRowBasis n rows image = subst (IsRowBasis n rows) (sym is_image) (image_is_row_basis n rows form w h.is_form) in
    let relations : IsKernelBasis n rows kernel = subst (IsKernelBasis n rows) (sym is_kernel) (kernel_is_kernel_basis n rows form w h.is_form) in
    record {
      image_widths = basis.widths;
      image_reduced = basis.reduced;
      image_nonzero = basis.nonzero;
      kernel_widths = relations.widths;
      kernel_reduced = relations.reduced;
      kernel_nonzero = relations.nonzero;
      rank_and_nullity = let a = ap length is_image in let b = ap length is_kernel in let c = rank_and_nullity_are n rows form w h.is_form in omega arith;
      relations = λ i l. (relations.spans_kernel (row kernel i)).1 (row-IsInSpan (length rows) kernel i relations.widths l);
      preimages = rw (is_image, is_chosen, is_kernel) (chosen_are_preimages n rows form w h.is_form);
    }

pub parts_are_reduction : PartsAreReduction
parts_are_reduction n rows image chosen kernel w = (parts_determine n rows image chosen kernel w, parts_keep n rows image chosen kernel w)
