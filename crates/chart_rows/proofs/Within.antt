-- The rows of an extent out of a chart.
use Rattle.std.proofs.Common.{◌≡◌, ℕ, zero, suc, ◌+◌, ◌<◌, ◌≤◌, Bool, ℤ, pos, ◌+ℤ◌, List, [], ◌∷◌, ◌++◌, length, map, take, refl, ap, sym, subst, ◌∙◌, arith, inl, inr}
use Rattle.std.proofs.lemmas.Bool.{cases_lt, le-leb, lt-leb}
use Rattle.std.proofs.lemmas.List.{take_all}
use Rattle.std.proofs.lemmas.List.FromFn.{map-range_with_len_more}
use Rattle.std.specs.Prelude.{if◌then◌else◌}
use Rattle.f2_vec.specs.Vectors.{zeros}
use Rattle.f2_vec.proofs.Combinations.{map-map}
use Rattle.resolution_laws.specs.Resolution.{Module, Content, row_of, square_in}
use Rattle.stem_laws.specs.Stems.{in_stems, RowsInStemsAreWhole}
use Rattle.resolution_images.specs.declared.resolve.Extent.{Extent}
use Rattle.resolution_images.specs.BareRows.{BareRow, bare_row_in, squares_of, AreOfCanonical, AreOfStems, IsBareRowOf}
use Rattle.resolution_images.specs.Made.{IsTableOf, IsMadeThrough, with_one_square}
use Rattle.resolution_images.specs.Inside.Columns.{AreMadeThrough}
use Rattle.resolution_images.proofs.Contents.{bare, degrees_bare}
use Rattle.resolution_images.proofs.Rectangle.{canonical_lines}
use Rattle.chart_rows.specs.Standing.{new_below, whole_row, whole_square}
use Rattle.chart_rows.specs.Canonical.{AreRowsOfResolution}
use Rattle.chart_rows.specs.Within.{known_in, reach_in, HaveStems, HaveDegrees}
use Rattle.chart_rows.proofs.Growing.{line_grown}
use Rattle.chart_rows.proofs.Whole.{length-whole_row}
use Rattle.chart_rows.proofs.Stems.{IsKnown, first_whole, images_if_bare}

-- ---- how far

pub known_more : (rows : List BareRow) (n i x : ℕ) → i ≡ suc x → n + i ≤ length (bare_row_in rows x).counts → n + i + 1 ≡ known_in rows n i
known_more rows n i x e l =
    let below = length (bare_row_in rows x).counts in
    subst (λ z. n + z + 1 ≡ known_in rows n z) (sym e)
    (sym (ap (λ (b : Bool). if b then n + suc x + 1 else below) (le-leb (n + suc x) below (omega arith))))

pub known_less : (rows : List BareRow) (n i x : ℕ) → i ≡ suc x → length (bare_row_in rows x).counts < n + i → length (bare_row_in rows x).counts ≡ known_in rows n i
known_less rows n i x e l =
    let below = length (bare_row_in rows x).counts in
    subst (λ z. below ≡ known_in rows n z) (sym e)
    (sym (ap (λ (b : Bool). if b then n + suc x + 1 else below) (lt-leb (n + suc x) below (omega arith))))

-- each square so far is one of the row in these stems, and the row below has its degree, but where it is the last one
known_most : (rows : List BareRow) (n i : ℕ) → known_in rows n i ≤ n + i + 1
known_most rows n zero = omega arith
known_most rows n (suc x) = elim (cases_lt (length (bare_row_in rows x).counts) (n + suc x)) [
  | inl l ↦ let e = known_less rows n (suc x) x refl l in omega arith
  | inr l ↦ let e = known_more rows n (suc x) x refl l in omega arith
]

known_below : (rows : List BareRow) (n i x j : ℕ) → suc x ≡ i → j < known_in rows n i → j < n + i → j < length (bare_row_in rows x).counts
known_below rows n i x j e l b = elim (cases_lt (length (bare_row_in rows x).counts) (n + i)) [
  | inl c ↦ let f = known_less rows n i x (sym e) c in omega arith
  | inr c ↦ omega arith
]

-- ---- one row

-- one square more, with its zeros
pub whole_line : (m : Module) (rows : List BareRow) (s n j count : ℕ) (line new : BareRow) (t : ℤ) (image images : List (List Bool)) → IsBareRowOf m.bottom (whole_row (squares_of rows) s n j) line → t ≡ m.bottom +ℤ pos j → count ≡ new_below (squares_of rows) s n j → image ≡ (square_in (row_of (squares_of rows) s) j).images → images ≡ map (λ v. v ++ zeros count) image → new ≡ with_one_square line t images → IsBareRowOf m.bottom (whole_row (squares_of rows) s n (j + 1)) new
whole_line m rows s n j count line new t image images h at many is put is_new =
    let squares = squares_of rows in
    let first = whole_row squares s n j in
    let c = whole_square squares s n j in
    let more : first ++ c ∷ [] ≡ whole_row squares s n (j + 1) = sym (map-range_with_len_more (whole_square squares s n) 0 j j (omega arith)) in
    let place : t ≡ m.bottom +ℤ pos (length first) = at ∙ ap (λ x. m.bottom +ℤ pos x) (sym (length-whole_row squares s n j)) in
    let whole : images ≡ c.images = put ∙ ap (λ x. map (λ (v : List Bool). v ++ zeros x) image) many ∙ ap (λ (z : List (List Bool)). map (λ v. v ++ zeros (new_below squares s n j)) z) is in
    subst (λ (z : List Content). IsBareRowOf m.bottom z new) more
    (subst (IsBareRowOf m.bottom (first ++ c ∷ [])) (sym (is_new ∙ ap (with_one_square line t) whole)) (line_grown m.bottom first line t c h place))

-- a row of squares without their kernels is that of the squares
of_bare : (b : ℤ) (squares : List Content) (line : BareRow) → IsBareRowOf b (map bare squares) line → IsBareRowOf b squares line
of_bare b squares line h = record {
  degrees = h.degrees ∙ degrees_bare b squares;
  images = h.images ∙ images_if_bare (map bare squares) squares refl;
  counts = h.counts ∙ map-map (λ (c : Content). length c.images) bare squares;
}

-- ---- the rows

-- those of a range that are made of a chart
pub record AreWithin (m : Module) (rows : List BareRow) (e : Extent) (t : ℕ) (lines : List BareRow) : Type 0 where
  pub count : length lines ≡ e.last + 1
  pub each : (i : ℕ) → i ≤ e.last → IsBareRowOf m.bottom (whole_row (squares_of rows) i (e.n + i) (reach_in rows e.n t i)) (bare_row_in lines i)

module _ (whole : RowsInStemsAreWhole) (m : Module) (rows : List BareRow) (e : Extent) (t : ℕ) (lines : List BareRow) (known : (table : List (List Content)) → IsTableOf m e table → IsKnown m e.last (e.n + e.last) table) (same : AreRowsOfResolution m rows) (h : AreWithin m rows e t lines) where
  pub made_within : (i : ℕ) → i ≤ e.last → IsMadeThrough m e i (reach_in rows e.n t i) (bare_row_in lines i)
  made_within i l table canonical =
      let k = reach_in rows e.n t i in
      let most = known_most rows e.n i in
      let is = first_whole m rows e.last e.n table (known table canonical) same whole i k l (omega arith) (omega arith) (λ x j q b c. known_below rows e.n i x j q (omega arith) c) in
      of_bare m.bottom (take k (in_stems m e.n table i)) (bare_row_in lines i) (subst (λ (z : List Content). IsBareRowOf m.bottom z (bare_row_in lines i)) is (h.each i l))

  pub stems_within : HaveStems rows e t → AreOfStems m e.last e.n lines
  stems_within all = record {
    rows = h.count;
    each = λ table canonical i l.
        let xs = in_stems m e.n table i in
        let size = whole m e.last e.n table canonical i l in
        let most : take (reach_in rows e.n t i) xs ≡ xs = take_all (reach_in rows e.n t i) xs (omega (arith, all i l)) in
        subst (λ (z : List Content). IsBareRowOf m.bottom z (bare_row_in lines i)) most (made_within i l table canonical);
  }

  pub canonical_within : (above : List (List Content)) → IsTableOf m e above → HaveDegrees rows e t → e.n ≡ t → AreOfCanonical m e.last t lines
  canonical_within above far all same_degree =
      let made : (i : ℕ) → i ≤ e.last → IsMadeThrough m e i (suc e.n) (bare_row_in lines i) = λ i l.
      let k : reach_in rows e.n t i ≡ suc e.n = omega (arith, all i l) in subst (λ x. IsMadeThrough m e i x (bare_row_in lines i)) k (made_within i l) in
      let column : AreMadeThrough m e 0 (suc e.n) lines = record { done = λ i a b. absurd (omega arith); others = λ i a b. made i (omega (arith, h.count)) } in
      subst (λ x. AreOfCanonical m e.last x lines) same_degree (canonical_lines m e.last e.n lines above far h.count column)
