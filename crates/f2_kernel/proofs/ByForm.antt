-- The form of the coordinates on reduced candidates: which candidates are chosen, and that the relations solved from it are the reduced
-- basis of the kernel.
use Rattle.std.proofs.Common.{◌≡◌, ◌≢◌, inl, inr, ℕ, ◌-◌, ◌<◌, ◌≤◌, nat_eq, Bool, true, false, not, List, [], ◌++◌, length, map, reverse, get_or, refl, ap, sym, subst, ◌∙◌, arith}
use Rattle.std.specs.List.{range_with_len, list_any, items_where_true}
use Rattle.std.proofs.lemmas.Bool.{cases_Bool, cases_order, both_ways, eq-eqb, ne_eqb, false_from_ne_true}
use Rattle.std.proofs.lemmas.List.{ext_get_or, get_or-map, length-map, length-reverse, get_or-reverse, reverse-reverse}
use Rattle.std.proofs.lemmas.List.Folds.{list_any_at}
use Rattle.std.proofs.lemmas.List.FromFn.{length-range_with_len, get_or-range_with_len, length-map-range_with_len}
use Rattle.f2_vec.specs.Vectors.{sum_of, zeros, bit, IsZero, IsFirstOne}
use Rattle.f2_vec.proofs.Sums.{bit-zeros, length-zeros, sum_of-zeros_right}
use Rattle.f2_vec.specs.Spans.{row, HaveWidth, combination, unit_vector, IsInSpan, IsInKernel}
use Rattle.f2_vec.proofs.Spans.{row-IsInSpan, zeros-IsInSpan, combination-IsInSpan, combination-append, combination-zeros}
use Rattle.f2_vec.proofs.Split.{bit-unit_vector, length-unit_vector}
use Rattle.f2_vec.proofs.Combinations.{HaveWidth-map, combination-unit_vector}
use Rattle.f2_matrix.specs.Echelon.{IsReduced, HasNoZeroRow, IsKernelBasis}
use Rattle.f2_matrix.specs.Preimages.{pivot_of, at_pivots}
use Rattle.f2_matrix.specs.Reduction.{has_one}
use Rattle.f2_matrix.specs.Choice.{IsChosen}
use Rattle.f2_choice.specs.Inside.Columns.{column}
use Rattle.f2_matrix.proofs.Eliminate.{has_reduction}
use Rattle.f2_matrix.proofs.Parts.{has_one-zero, zero_has_none}
use Rattle.f2_matrix.proofs.Pivots.{is_pivot, pivot_first, pivot_zero, length-at_pivots, bit-at_pivots, sum_at_pivots}
use Rattle.f2_matrix.proofs.Unique.{span_first-IsPivot}
use Rattle.f2_choice.specs.Inside.Dots.{dot}
use Rattle.f2_choice.specs.Coordinates.{coordinates}
use Rattle.f2_choice.specs.Inside.Coordinates.{element_of, is_free, free_elements, new_rows}
use Rattle.f2_choice.proofs.Dots.{dot-comm, bit-combination-dot}
use Rattle.f2_choice.proofs.OnCandidates.{AreParts, row-column, wide_rows, wide_new, length-new, length-coordinates, wide_coordinates, element_within, same_at_pivots}
use Rattle.f2_choice.proofs.Relations.{found, free_or_pivot, free_no_pivot, free_at, free_at-is, free_at-rises, whole, made, length-whole, length-made, wide_made, made_firsts, made-IsKernelBasis}
use Rattle.f2_choice.proofs.Step.{has_pivot, bit-kept, new-IsPicked, parts_of, dropped-IsInSpan, kept-apart}
use Rattle.f2_choice.proofs.WantedColumns.{filter_same_on}
use Rattle.f2_kernel.specs.Inside.Upward.{upward, solved, are_zero, has_no_pivot, vacant_elements, relation, relations}
use Rattle.f2_kernel.proofs.Cleared.{zero_or_pivot, length-upward, AreCleared-upward, upward-IsInSpan, span_first, zero_from_relation, relation_from_zero}
use Rattle.f2_kernel.proofs.Solved.{dot-reverse, dot-combination, length-solved, solved-orthogonal}
use Rattle.f2_kernel.proofs.Relations.{vacant_at, vacant_at-is, length-front, length-relation, relation_vacant, length-relations, row-relations}

-- the reversed column is the column of the reversed rows
column_reversed : (q : ℕ) (rows : List (List Bool)) → reverse (column q rows) ≡ column q (reverse rows)
column_reversed q rows =
    let a : length (column q rows) ≡ length rows = length-map rows (λ v. bit v q) in
    let b : length (column q (reverse rows)) ≡ length (reverse rows) = length-map (reverse rows) (λ v. bit v q) in
    ext_get_or false (reverse (column q rows)) (column q (reverse rows)) (length-reverse (column q rows) ∙ a ∙ sym (b ∙ length-reverse rows))
    (λ i l.
    let m : i < length rows = omega (arith, length-reverse (column q rows), a) in
    let c : i < length (reverse rows) = omega (arith, length-reverse rows) in
    get_or-reverse (column q rows) i false (omega (arith, a))
    ∙ ap (λ z. bit (column q rows) (z - 1 - i)) a
    ∙ row-column q rows (length rows - 1 - i) (omega arith)
    ∙ ap (λ v. bit v q) (sym (get_or-reverse rows i [] m))
    ∙ sym (row-column q (reverse rows) i c))

module _ (w : ℕ) (rows candidates image chosen kernel : List (List Bool)) (g : AreParts w rows candidates image chosen kernel) where
  abbrev n : ℕ
  n = length rows

  abbrev xs : List (List Bool)
  xs = coordinates candidates rows

  abbrev us : List (List Bool)
  us = upward (coordinates candidates rows)

  wide : HaveWidth n xs
  wide = wide_coordinates w rows candidates image chosen kernel g

  length-us : length us ≡ length candidates
  length-us = length-upward xs ∙ length-coordinates w rows candidates image chosen kernel g

  -- ---- the pivots of the form are those of the image

  vacant_is_free : (e : ℕ) → e < n → has_no_pivot us (n - 1 - e) ≡ is_free n image e
  vacant_is_free e l =
      let p = n - 1 - e in
      let h = AreCleared-upward n xs wide in
      let same = upward-IsInSpan n xs wide in
      let any = list_any (λ r. nat_eq (pivot_of r) p) us in
      elim (free_or_pivot n image e) [
        | inl free ↦
            let none : any ≡ false = false_from_ne_true any (λ some.
            let f = found pivot_of us p some in
            elim (zero_or_pivot (row us f.0)) [
              | inl z ↦ absurd (let past = pivot_of_zero (row us f.0) z in omega (arith, h.widths f.0 f.1, f.2))
              | inr first ↦
                  let s : IsInSpan n image (row us f.0) = (g.basis.same_span (row us f.0)).0 ((same (row us f.0)).1 (row-IsInSpan n us f.0 h.widths f.1)) in
                  let at = span_first-IsPivot n image (row us f.0) (pivot_of (row us f.0)) g.basis.widths g.basis.reduced s first in
                  let there : pivot_of (row image at.0) ≡ p = pivot_first (row image at.0) (pivot_of (row us f.0)) at.2 ∙ f.2 in
                  let is : e ≡ element_of n (row image at.0) = omega (arith, there) in
                  free_no_pivot n image e at.0 free at.1 is
            ]) in
            ap not none ∙ sym free
        | inr at ↦
            let t = at.0 in
            let within = element_within w rows candidates image chosen kernel g t at.1 in
            let there : pivot_of (row image t) ≡ p = omega (arith, within.1, at.2) in
            let first : IsFirstOne (row image t) p = subst (IsFirstOne (row image t)) there (is_pivot (row image t) (g.basis.nonzero t at.1)) in
            let s : IsInSpan n us (row image t) = (same (row image t)).0 ((g.basis.same_span (row image t)).1 (row-IsInSpan n image t g.basis.widths at.1)) in
            let j = span_first n us s.coefficients p h (subst (λ v. IsFirstOne v p) (sym s.sum) first) in
            let some : any ≡ true = list_any_at (λ r. nat_eq (pivot_of r) p) us j.0 [] j.1 (eq-eqb (pivot_of (row us j.0)) p (pivot_first (row us j.0) p j.2)) in
            let taken : is_free n image e ≡ false = false_from_ne_true (is_free n image e) (λ f. free_no_pivot n image e t f at.1 (sym at.2)) in
            ap not some ∙ sym taken
      ]
    where
      pivot_of_zero : (v : List Bool) → IsZero v → length v ≤ pivot_of v
      pivot_of_zero v z = omega (arith, pivot_zero v z)

  vacant_are_free : vacant_elements n us ≡ free_elements n image
  vacant_are_free =
      filter_same_on (λ e. has_no_pivot us (n - 1 - e)) (is_free n image) (range_with_len 0 n)
      (λ i l.
      let m : i < n = omega (arith, length-range_with_len 0 n) in
      let at : get_or (range_with_len 0 n) i 0 ≡ i = omega (arith, get_or-range_with_len 0 n i 0 m) in
      ap (λ e. has_no_pivot us (n - 1 - e)) at ∙ vacant_is_free i m ∙ ap (is_free n image) (sym at))

  -- ---- a relation is in the kernel

  abbrev front : ℕ → List Bool
  front e = reverse (solved us (unit_vector n (n - 1 - e)))

  front-vanishes : (e : ℕ) → combination w (front e) rows ≡ zeros w
  front-vanishes e =
      let h = AreCleared-upward n xs wide in
      let z = solved us (unit_vector n (n - 1 - e)) in
      let lz : length z ≡ n = length-solved n us (unit_vector n (n - 1 - e)) (length-unit_vector n (n - 1 - e)) in
      let wr = wide_rows w rows candidates image chosen kernel g in
      same_at_pivots w candidates (combination w (front e) rows) (zeros w) g.widths g.reduced g.nonzero
      (combination-IsInSpan w (front e) rows candidates g.widths g.inside)
      (zeros-IsInSpan w candidates g.widths)
      (λ l b.
      let q = pivot_of (row candidates l) in
      let m : l < length xs = omega (arith, length-coordinates w rows candidates image chosen kernel g) in
      let x : row xs l ≡ column q (reverse rows) = get_or-map (λ c. column (pivot_of c) (reverse rows)) candidates l [] [] b in
      let s : IsInSpan n us (row xs l) = (upward-IsInSpan n xs wide (row xs l)).0 (row-IsInSpan n xs l wide m) in
      let none : dot (row xs l) z ≡ false = ap (λ v. dot v z) (sym s.sum) ∙ dot-combination n z s.coefficients us h.widths (solved-orthogonal n us (unit_vector n (n - 1 - e)) h (length-unit_vector n (n - 1 - e))) in
      let lc : length (column q rows) ≡ n = length-map rows (λ v. bit v q) in
      bit-combination-dot w (front e) rows q wr
      ∙ ap (dot (front e)) (sym (reverse-reverse (column q rows)))
      ∙ dot-reverse z (reverse (column q rows)) (lz ∙ sym (length-reverse (column q rows) ∙ lc))
      ∙ ap (dot z) (column_reversed q rows)
      ∙ dot-comm z (column q (reverse rows))
      ∙ ap (λ v. dot v z) (sym x)
      ∙ none
      ∙ sym (bit-zeros w q))

  relation-IsInKernel : (e : ℕ) → IsInKernel w (whole w rows candidates image chosen kernel g) (relation n (length kernel) us e)
  relation-IsInKernel e =
      let new = new_rows candidates kernel in
      let wr = wide_rows w rows candidates image chosen kernel g in
      let wn = wide_new w rows candidates image chosen kernel g in
      let h = AreCleared-upward n xs wide in
      record {
        one_each = length-relation n (length kernel) us h e ∙ sym (length-whole w rows candidates image chosen kernel g);
        vanishes = combination-append w (front e) (zeros (length kernel)) rows new wr wn (length-front n (length kernel) us h e) ∙ ap (λ v. sum_of v (combination w (zeros (length kernel)) new)) (front-vanishes e) ∙ ap (sum_of (zeros w)) (combination-zeros w (length kernel) new) ∙ sum_of-zeros_right w (zeros w) (length-zeros w);
      }

  -- ---- the relations are the reduced basis of the kernel

  relations_are_made : relations n (length kernel) us ≡ made w rows candidates image chosen kernel g
  relations_are_made =
      let h = AreCleared-upward n xs wide in
      let m = length kernel in
      let all = whole w rows candidates image chosen kernel g in
      let basis = made w rows candidates image chosen kernel g in
      let is = made-IsKernelBasis w rows candidates image chosen kernel g in
      let many : length (vacant_elements n us) ≡ length (free_elements n image) = ap length vacant_are_free in
      ext_get_or [] (relations n m us) basis (length-relations n m us h ∙ many ∙ sym (length-made w rows candidates image chosen kernel g))
      (λ i l.
      let a : i < length (vacant_elements n us) = omega (arith, length-relations n m us h) in
      let b : i < length (free_elements n image) = omega (arith, many) in
      let c : i < length basis = omega (arith, length-made w rows candidates image chosen kernel g) in
      let va = vacant_at-is n us i a in
      let fa = free_at-is n image i b in
      let e = vacant_at n us i in
      let at : e ≡ free_at n image i = sym va.1 ∙ ap (λ z. get_or z i 0) vacant_are_free ∙ fa.1 in
      let v = relation n m us e in
      let inside : IsInSpan (length all) basis v = (is.spans_kernel v).0 (relation-IsInKernel e) in
      let unit : at_pivots basis v ≡ unit_vector (length basis) i =
      ext_get_or false (at_pivots basis v) (unit_vector (length basis) i) (length-at_pivots basis v ∙ sym (length-unit_vector (length basis) i))
      (λ j k.
      let d : j < length basis = omega (arith, length-at_pivots basis v) in
      let fb : j < length (free_elements n image) = omega (arith, length-made w rows candidates image chosen kernel g) in
      let f = free_at-is n image j fb in
      let x = free_at n image j in
      let pivot : pivot_of (row basis j) ≡ x = pivot_first (row basis j) x ((made_firsts w rows candidates image chosen kernel g).first j d) in
      let vacant : has_no_pivot us (n - 1 - x) ≡ true = vacant_is_free x f.0 ∙ f.2 in
      bit-at_pivots basis v j d ∙ ap (bit v) pivot ∙ relation_vacant n m us h e x va.0 f.0 vacant ∙ ap (nat_eq x) at ∙ same_place i j b fb ∙ sym (bit-unit_vector (length basis) i j c)) in
      row-relations n m us h i l
      ∙ sym (sum_at_pivots (length all) basis v (wide_made w rows candidates image chosen kernel g) is.reduced is.nonzero inside)
      ∙ ap (λ z. combination (length all) z basis) unit
      ∙ combination-unit_vector (length all) (length basis) i basis (wide_made w rows candidates image chosen kernel g) refl c)
    where
      same_place : (i j : ℕ) → i < length (free_elements n image) → j < length (free_elements n image) → nat_eq (free_at n image j) (free_at n image i) ≡ nat_eq j i
      same_place i j a b = elim (cases_order j i) [
        | inl e ↦ eq-eqb (free_at n image j) (free_at n image i) (ap (free_at n image) e) ∙ sym (eq-eqb j i e)
        | inr o ↦ elim o [
          | inl l ↦ let d : free_at n image j ≢ free_at n image i = λ q. omega (arith, free_at-rises n image j i l a) in let f : j ≢ i = λ q. omega arith in ne_eqb (free_at n image j) (free_at n image i) d ∙ sym (ne_eqb j i f)
          | inr l ↦ let d : free_at n image j ≢ free_at n image i = λ q. omega (arith, free_at-rises n image i j l b) in let f : j ≢ i = λ q. omega arith in ne_eqb (free_at n image j) (free_at n image i) d ∙ sym (ne_eqb j i f)
        ]
      ]

  pub relations-IsKernelBasis : IsKernelBasis w (rows ++ new_rows candidates kernel) (relations n (length kernel) us)
  relations-IsKernelBasis = subst (λ (z : List (List Bool)). IsKernelBasis w (rows ++ new_rows candidates kernel) z) (sym relations_are_made) (made-IsKernelBasis w rows candidates image chosen kernel g)

  -- ---- the candidates whose row of the form is zero are those that are chosen

  zero_is_pivot : (i : ℕ) → i < length candidates → bit (are_zero us) i ≡ has_pivot kernel i
  zero_is_pivot i l =
      let lx : length xs ≡ length candidates = length-coordinates w rows candidates image chosen kernel g in
      let at : bit (are_zero us) i ≡ not (has_one (row us i)) = get_or-map (λ v. not (has_one v)) us i [] false (omega (arith, length-us)) in
      elim (cases_Bool (has_pivot kernel i)) [
        | inl some ↦
            let f = found pivot_of kernel i some in
            let v = row kernel f.0 in
            let first : IsFirstOne v i = subst (IsFirstOne v) f.2 (is_pivot v (g.relations.nonzero f.0 f.1)) in
            let k = (g.relations.spans_kernel v).1 (row-IsInSpan (length xs) kernel f.0 g.relations.widths f.1) in
            at ∙ ap not (zero_has_none (row us i) (zero_from_relation n xs v i wide k.one_each k.vanishes first)) ∙ sym some
        | inr none ↦
            elim (cases_Bool (has_one (row us i))) [
              | inl one ↦ at ∙ ap not one ∙ sym none
              | inr zero ↦
                  let r = relation_from_zero n xs i wide (omega arith) (has_one-zero (row us i) zero) in
                  let s = (g.relations.spans_kernel r.coefficients).0 (record { one_each = r.one_each; vanishes = r.vanishes }) in
                  let p = span_first-IsPivot (length xs) kernel r.coefficients i g.relations.widths g.relations.reduced s r.first in
                  absurd (both_ways (has_pivot kernel i) none (list_any_at (λ u. nat_eq (pivot_of u) i) kernel p.0 [] p.1 (eq-eqb (pivot_of (row kernel p.0)) i (pivot_first (row kernel p.0) i p.2))))
            ]
      ]

  pub zero_IsChosen : IsChosen w rows candidates (items_where_true (are_zero us) candidates)
  zero_IsChosen = record {
    kept = are_zero us;
    one_each = length-map us (λ v. not (has_one v)) ∙ length-us;
    dropped = λ i l. (
      λ e. dropped-IsInSpan w rows candidates image chosen kernel g i l (sym (zero_is_pivot i l) ∙ e),
      λ s. zero_is_pivot i l ∙ kept-apart w rows candidates image chosen kernel g i l s,
    );
    chosen_are = refl;
  }

  zero_are_new : items_where_true (are_zero us) candidates ≡ new_rows candidates kernel
  zero_are_new =
      let taken : List Bool = map (has_pivot kernel) (range_with_len 0 (length candidates)) in
      let many : length (are_zero us) ≡ length candidates = length-map us (λ v. not (has_one v)) ∙ length-us in
      let same : are_zero us ≡ taken =
      ext_get_or false (are_zero us) taken (many ∙ sym (length-map-range_with_len (has_pivot kernel) 0 (length candidates)))
      (λ i l.
      let m : i < length candidates = omega (arith, many) in
      zero_is_pivot i m ∙ sym (bit-kept w rows candidates image chosen kernel g i m)) in
      ap (λ kept. items_where_true kept candidates) same ∙ sym (new-IsPicked w rows candidates image chosen kernel g)

-- ---- the law

-- what the form of the coordinates gives: the new rows, and the kernel of the rows with these behind them
pub record IsChoiceByForm (w : ℕ) (rows candidates new : List (List Bool)) : Type 0 where
  pub chosen : IsChosen w rows candidates new
  pub kernel : IsKernelBasis w (rows ++ new) (relations (length rows) (length new) (upward (coordinates candidates rows)))

pub wide_on : (n : ℕ) (rows candidates : List (List Bool)) → length rows ≡ n → HaveWidth n (coordinates candidates rows)
wide_on n rows candidates e = HaveWidth-map n (λ c. column (pivot_of c) (reverse rows)) candidates (λ c. length-map (reverse rows) (λ v. bit v (pivot_of c)) ∙ length-reverse rows ∙ e)

pub choice_by_form : (w : ℕ) (rows candidates : List (List Bool)) → HaveWidth w candidates → IsReduced candidates → HasNoZeroRow candidates → ((i : ℕ) → i < length rows → IsInSpan w candidates (row rows i)) → IsChoiceByForm w rows candidates (items_where_true (are_zero (upward (coordinates candidates rows))) candidates)
choice_by_form w rows candidates wc hc nz inside =
    let n = length rows in
    let xs = coordinates candidates rows in
    let us = upward xs in
    let wide : HaveWidth n xs = wide_on n rows candidates refl in
    let red = has_reduction n xs wide in
    let r = red.0 in
    let g = parts_of w rows candidates r wc hc nz inside red.1 in
    let new = items_where_true (are_zero us) candidates in
    let same : new_rows candidates r.kernel ≡ new = sym (zero_are_new w rows candidates r.image r.chosen r.kernel g) in
    let many : length r.kernel ≡ length new = sym (length-new w rows candidates r.image r.chosen r.kernel g) ∙ ap length same in
    let k : IsKernelBasis w (rows ++ new_rows candidates r.kernel) (relations n (length r.kernel) us) = relations-IsKernelBasis w rows candidates r.image r.chosen r.kernel g in
    record {
      chosen = zero_IsChosen w rows candidates r.image r.chosen r.kernel g;
      kernel = subst (λ z. IsKernelBasis w (rows ++ new) (relations n z us)) many (subst (λ (z : List (List Bool)). IsKernelBasis w (rows ++ z) (relations n (length r.kernel) us)) same k);
    }
