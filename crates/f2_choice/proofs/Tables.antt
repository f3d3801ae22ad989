-- Tables of pivots, and what they spread.
use Rattle.std.proofs.Common.{◌≡◌, ◌≢◌, ◌⊎◌, inl, inr, ℕ, ◌+◌, ◌-◌, ◌<◌, Bool, true, false, Option, Some, None, List, [], length, set, refl, ap, sym, ◌∙◌, arith, subst}
use Rattle.std.specs.Option.{is_some}
use Rattle.std.proofs.lemmas.Bool.{cases_lt, cases_eq, false_from_ne_true, true≢false}
use Rattle.std.proofs.lemmas.List.{length-set, get_or-set_same, get_or-set_other}
use Rattle.std.proofs.lemmas.List.FromFn.{length-map-range_with_len, get_or-map-range_with_len}
use Rattle.f2_vec.specs.Vectors.{bit, zeros, IsZero, IsFirstOne}
use Rattle.f2_vec.proofs.Sums.{bit-zeros}
use Rattle.f2_vec.specs.Spans.{row, combination}
use Rattle.f2_matrix.specs.Preimages.{pivot_of}
use Rattle.f2_choice.specs.Inside.Columns.{column, columns}
use Rattle.f2_matrix.proofs.Pivots.{pivot_first, pivot_within, is_pivot}
use Rattle.f2_choice.specs.Inside.Coordinates.{element_of, is_free, pivot_units}
use Rattle.f2_choice.specs.Inside.Tables.{entry_at, row_or_zero, spread_by, IsTableOfPivots, IsReducedBasis}
use Rattle.f2_choice.proofs.Relations.{free_or_pivot, free_no_pivot}
use Rattle.f2_choice.proofs.Spread.{AreApart, AreWithin, combination-spread, IsSpread}

-- ---- filling a table

some_none : {A : Type 0} (x : A) → Some x ≢ None
some_none x e = cc

-- the table of the first i rows
pub record IsTableTo (i n : ℕ) (rows : List (List Bool)) (table : List (Option ℕ)) : Type 0 where
  pub size : length table ≡ n
  pub found : (p t : ℕ) → entry_at table p ≡ Some t → (t < length rows) × (pivot_of (row rows t) ≡ p)
  pub none : (j : ℕ) → j < i → entry_at table (pivot_of (row rows j)) ≢ None

pub IsTableTo-more : (i n p : ℕ) (rows : List (List Bool)) (table : List (Option ℕ)) → IsTableTo i n rows table → i < length rows → p < n → IsFirstOne (row rows i) p → IsTableTo (i + 1) n rows (set table p (Some i))
IsTableTo-more i n p rows table h l b first = record {
  size = length-set table p (Some i) ∙ h.size;
  found = λ q t e.
      elim (cases_eq q p) [
        | inl o ↦
            let same : Some t ≡ Some i = sym e ∙ ap (entry_at (set table p (Some i))) o ∙ here in
            let number : t ≡ i = cc in
            subst (λ k. (k < length rows) × (pivot_of (row rows k) ≡ q)) (sym number) (l, is ∙ sym o)
        | inr d ↦ h.found q t (sym (get_or-set_other table p q (Some i) None d) ∙ e)
      ];
  none = λ j m e.
      elim (cases_eq (pivot_of (row rows j)) p) [
        | inl o ↦ some_none i (sym here ∙ ap (entry_at (set table p (Some i))) (sym o) ∙ e)
        | inr d ↦ h.none j (below j m d) (sym (get_or-set_other table p (pivot_of (row rows j)) (Some i) None d) ∙ e)
      ];
}
  where
    is : pivot_of (row rows i) ≡ p
    is = pivot_first (row rows i) p first

    here : entry_at (set table p (Some i)) p ≡ Some i
    here = get_or-set_same table p (Some i) None (omega (arith, h.size))

    below : (j : ℕ) → j < i + 1 → pivot_of (row rows j) ≢ p → j < i
    below j m d = elim (cases_eq j i) [ inl o ↦ absurd (d (ap (λ k. pivot_of (row rows k)) o ∙ is)) | inr o ↦ omega arith ]

-- ---- coordinates as columns

-- ---- spreading

pub length-spread : (table : List (Option ℕ)) (w : ℕ) (rows : List (List Bool)) → length (spread_by table w rows) ≡ length table
length-spread table w rows = length-map-range_with_len (λ e. row_or_zero w rows (entry_at table (length table - 1 - e))) 0 (length table)

pub IsSpread-spread : (n w : ℕ) (image rows : List (List Bool)) (table : List (Option ℕ)) → IsTableOfPivots n image table → IsReducedBasis n image → IsSpread n image rows (spread_by table w rows)
IsSpread-spread n w image rows table t basis = record {
  size = length-spread table w rows ∙ t.size;
  each = λ e l. at e l (entry_at table (length table - 1 - e)) refl;
}
  where
    at : (e : ℕ) → e < n → (entry : Option ℕ) → entry_at table (length table - 1 - e) ≡ entry
        → ((i : ℕ) × (i < length image) × (element_of n (row image i) ≡ e) × (row (spread_by table w rows) e ≡ row rows i)) ⊎ (IsZero (row (spread_by table w rows) e) × ((i : ℕ) → i < length image → element_of n (row image i) ≢ e))
    at e l None f =
        let same : row (spread_by table w rows) e ≡ zeros w = get_or-map-range_with_len (λ k. row_or_zero w rows (entry_at table (length table - 1 - k))) 0 (length table) e e [] (omega (arith, t.size)) (omega arith) ∙ ap (row_or_zero w rows) f in
        inr (
          λ k. ap (λ v. bit v k) same ∙ bit-zeros w k,
          λ i b o.
              let p = pivot_within n image i basis.widths basis.nonzero b in
              let there : pivot_of (row image i) ≡ length table - 1 - e = omega (arith, t.size) in
              t.none i b (ap (entry_at table) there ∙ f),
        )
    at e l (Some i) f =
        let a = t.found (length table - 1 - e) i f in
        let is : element_of n (row image i) ≡ e = omega (arith, a.1, t.size) in
        let same : row (spread_by table w rows) e ≡ row rows i = get_or-map-range_with_len (λ k. row_or_zero w rows (entry_at table (length table - 1 - k))) 0 (length table) e e [] (omega (arith, t.size)) (omega arith) ∙ ap (row_or_zero w rows) f in
        inl (i, a.0, is, same)

pub elements_within : (n : ℕ) (image : List (List Bool)) → IsReducedBasis n image → AreWithin n image
elements_within n image basis t l = let p = pivot_within n image t basis.widths basis.nonzero l in omega arith

pub elements_apart : (n : ℕ) (image : List (List Bool)) → IsReducedBasis n image → AreApart n image
elements_apart n image basis s t d l m e =
    let a = pivot_within n image s basis.widths basis.nonzero l in
    let b = pivot_within n image t basis.widths basis.nonzero m in
    elim (cases_lt s t) [
      | inl o ↦ omega (arith, basis.reduced.pivots_rise s t (pivot_of (row image s)) (pivot_of (row image t)) o (is_pivot (row image s) (basis.nonzero s l)) (is_pivot (row image t) (basis.nonzero t m)))
      | inr o ↦ omega (arith, d, basis.reduced.pivots_rise t s (pivot_of (row image t)) (pivot_of (row image s)) (omega (arith, d)) (is_pivot (row image t) (basis.nonzero t m)) (is_pivot (row image s) (basis.nonzero s l)))
    ]

-- a column of spread rows is the sum of unit vectors
pub column-spread : (n w i : ℕ) (image rows : List (List Bool)) (table : List (Option ℕ)) → IsTableOfPivots n image table → IsReducedBasis n image → length rows ≡ length image → column i (spread_by table w rows) ≡ combination n (column i rows) (pivot_units n image)
column-spread n w i image rows table t basis len =
    sym (combination-spread n i image rows (spread_by table w rows) len (elements_within n image basis) (elements_apart n image basis) (IsSpread-spread n w image rows table t basis))

-- ---- relations

some_from_taken : (entry : Option ℕ) → is_some entry ≡ true → (i : ℕ) × (entry ≡ Some i)
some_from_taken None h = absurd (true≢false (sym h))
some_from_taken (Some i) h = (i, refl)

none_from_vacant : (entry : Option ℕ) → is_some entry ≡ false → entry ≡ None
none_from_vacant None h = refl
none_from_vacant (Some i) h = absurd (true≢false h)

pub free_where_vacant : (n e : ℕ) (image : List (List Bool)) (table : List (Option ℕ)) → IsTableOfPivots n image table → IsReducedBasis n image → e < n → is_some (entry_at table (n - 1 - e)) ≡ false → is_free n image e ≡ true
free_where_vacant n e image table t basis l vacant =
    let f = none_from_vacant (entry_at table (n - 1 - e)) vacant in
    elim (free_or_pivot n image e) [
      | inl free ↦ free
      | inr at ↦
          let p = pivot_within n image at.0 basis.widths basis.nonzero at.1 in
          let there : pivot_of (row image at.0) ≡ n - 1 - e = omega (arith, at.2) in
          absurd (t.none at.0 at.1 (ap (entry_at table) there ∙ f))
    ]

pub not_free_where_taken : (n e : ℕ) (image : List (List Bool)) (table : List (Option ℕ)) → IsTableOfPivots n image table → e < n → is_some (entry_at table (n - 1 - e)) ≡ true → is_free n image e ≡ false
not_free_where_taken n e image table t l f =
    let s = some_from_taken (entry_at table (n - 1 - e)) f in
    let at = t.found (n - 1 - e) s.0 s.1 in
    let same : e ≡ element_of n (row image s.0) = omega (arith, at.1) in
    false_from_ne_true (is_free n image e) (λ h. free_no_pivot n image e s.0 h at.0 same)
