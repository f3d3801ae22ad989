-- The kernel of rows alone, solved from their columns. The law of the choice has the kernel of rows with the new rows
-- behind them. Without these, its vectors lose the zeros behind.
use Rattle.std.proofs.Common.{◌≡◌, ℕ, ◌+◌, ◌-◌, ◌<◌, Bool, true, List, [], ◌∷◌, ◌++◌, length, map, take, reverse, refl, ap, sym, subst, ◌∙◌, arith}
use Rattle.std.specs.List.{items_where_true}
use Rattle.std.proofs.lemmas.List.{append-nil, take_at, length-append}
use Rattle.f2_vec.specs.Vectors.{sum_of, zeros}
use Rattle.f2_vec.proofs.Sums.{length-zeros, sum_of-zeros_right}
use Rattle.f2_vec.specs.Spans.{row, HaveWidth, combination, unit_vector, unit_vectors, IsInSpan, IsInKernel}
use Rattle.f2_vec.proofs.Spans.{HaveWidth-items_where_true, length-combination, combination-zeros, combination-append}
use Rattle.f2_vec.proofs.Split.{length-unit_vectors, HaveWidth-unit_vectors, combination-unit_vectors}
use Rattle.f2_vec.proofs.Combinations.{combination-padded_right}
use Rattle.f2_matrix.specs.Echelon.{IsKernelBasis}
use Rattle.f2_choice.specs.Coordinates.{coordinates}
use Rattle.f2_choice.proofs.Units.{IsReduced-unit_vectors, HasNoZeroRow-unit_vectors}
use Rattle.f2_kernel.specs.Inside.Upward.{AreCleared, upward, solved, are_zero, vacant_elements, relation, relations}
use Rattle.f2_kernel.specs.Coordinates.{AreColumnsOf}
use Rattle.f2_kernel.proofs.Cleared.{AreCleared-upward}
use Rattle.f2_kernel.proofs.Relations.{length-relations, wide_relations, relations_reduced, relations_nonzero}
use Rattle.f2_kernel.proofs.ByForm.{choice_by_form, wide_on}

-- ---- the zeros behind

abbrev padded : ℕ → List Bool → List Bool
padded k v = v ++ zeros k

relations_padded : (n k : ℕ) (form : List (List Bool)) (es : List ℕ) → map (relation n k form) es ≡ map (padded k) (map (relation n 0 form) es)
relations_padded n k form [] = refl
relations_padded n k form (e ∷ es) =
    let front = reverse (solved form (unit_vector n (n - 1 - e))) in
    ap (λ (z : List Bool). (z ++ zeros k) ∷ map (relation n k form) es) (sym (append-nil front))
    ∙ ap (λ (z : List (List Bool)). padded k (relation n 0 form e) ∷ z) (relations_padded n k form es)

module _ (w : ℕ) (rows new form : List (List Bool)) (wr : HaveWidth w rows) (wn : HaveWidth w new) (h : AreCleared (length rows) form) (basis : IsKernelBasis w (rows ++ new) (relations (length rows) (length new) form)) where
  abbrev n : ℕ
  n = length rows

  abbrev k : ℕ
  k = length new

  wide : HaveWidth n (relations n 0 form)
  wide = let e : n + 0 ≡ n = omega arith in subst (λ z. HaveWidth z (relations n 0 form)) e (wide_relations n 0 form h)

  all_padded : relations n k form ≡ map (padded k) (relations n 0 form)
  all_padded = relations_padded n k form (vacant_elements n form)

  combination_padded : (c : List Bool) → combination (length (rows ++ new)) c (relations n k form) ≡ combination n c (relations n 0 form) ++ zeros k
  combination_padded c =
      ap (λ z. combination z c (relations n k form)) (length-append rows new)
      ∙ ap (combination (n + k) c) all_padded
      ∙ combination-padded_right n k c (relations n 0 form) wide

  longer : (c : List Bool) → length c ≡ n → combination w (c ++ zeros k) (rows ++ new) ≡ combination w c rows
  longer c e =
      combination-append w c (zeros k) rows new wr wn e
      ∙ ap (sum_of (combination w c rows)) (combination-zeros w k new)
      ∙ sum_of-zeros_right w (combination w c rows) (length-combination w c rows wr)

  many : length (relations n k form) ≡ length (relations n 0 form)
  many = length-relations n k form h ∙ sym (length-relations n 0 form h)

  into : (c : List Bool) → IsInKernel w rows c → IsInSpan n (relations n 0 form) c
  into c v =
      let s = (basis.spans_kernel (c ++ zeros k)).0 (record {
        one_each = length-append c (zeros k) ∙ (let e : length c + length (zeros k) ≡ length rows + length new = omega (arith, v.one_each, length-zeros k) in e) ∙ sym (length-append rows new);
        vanishes = longer c v.one_each ∙ v.vanishes;
      }) in
      let d = s.coefficients in
      let same : combination n d (relations n 0 form) ++ zeros k ≡ c ++ zeros k = sym (combination_padded d) ∙ s.sum in
      record {
        coefficients = d;
        one_each = s.one_each ∙ many;
        sum = sym (take_at (combination n d (relations n 0 form)) (zeros k) n (length-combination n d (relations n 0 form) wide)) ∙ ap (take n) same ∙ take_at c (zeros k) n v.one_each;
      }

  back : (c : List Bool) → IsInSpan n (relations n 0 form) c → IsInKernel w rows c
  back c s =
      let d = s.coefficients in
      let lc : length c ≡ n = ap length (sym s.sum) ∙ length-combination n d (relations n 0 form) wide in
      let v = (basis.spans_kernel (c ++ zeros k)).1 (record {
        coefficients = d;
        one_each = s.one_each ∙ sym many;
        sum = combination_padded d ∙ ap (padded k) s.sum;
      }) in
      record { one_each = lc; vanishes = sym (longer c lc) ∙ v.vanishes }

  alone-IsKernelBasis : IsKernelBasis w rows (relations n 0 form)
  alone-IsKernelBasis = record {
    widths = wide;
    spans_kernel = λ c. (into c, back c);
    reduced = relations_reduced n 0 form h;
    nonzero = relations_nonzero n 0 form h;
  }

-- ---- unit vectors as candidates

pub wide_columns : (n w : ℕ) (rows columns : List (List Bool)) → AreColumnsOf n w rows columns → HaveWidth n columns
wide_columns n w rows columns h = subst (λ (z : List (List Bool)). HaveWidth n z) (sym h.columns_are) (wide_on n rows (unit_vectors w) h.count)

pub kernel_by_columns : (n w : ℕ) (rows columns : List (List Bool)) → AreColumnsOf n w rows columns → IsKernelBasis w rows (relations n 0 (upward columns))
kernel_by_columns n w rows columns h =
    let units = unit_vectors w in
    let xs = coordinates units rows in
    let wu = HaveWidth-unit_vectors w in
    let inside : (i : ℕ) → i < length rows → IsInSpan w units (row rows i) = λ i l. record {
      coefficients = row rows i;
      one_each = h.widths i l ∙ sym (length-unit_vectors w);
      sum = combination-unit_vectors w (row rows i) (h.widths i l);
    } in
    let new = items_where_true (are_zero (upward xs)) units in
    let by = choice_by_form w rows units wu (IsReduced-unit_vectors w) (HasNoZeroRow-unit_vectors w) inside in
    let cleared = AreCleared-upward (length rows) xs (wide_on (length rows) rows units refl) in
    let there = alone-IsKernelBasis w rows new (upward xs) h.widths (HaveWidth-items_where_true w (are_zero (upward xs)) units wu) cleared by.kernel in
    subst (λ (z : List (List Bool)). IsKernelBasis w rows (relations n 0 (upward z))) (sym h.columns_are) (subst (λ z. IsKernelBasis w rows (relations z 0 (upward xs))) h.count there)
