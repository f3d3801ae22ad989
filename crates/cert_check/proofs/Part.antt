-- The part of a table in a range: its squares, and what they stand on, are the table's.
use Rattle.std.proofs.Common.{◌≡◌, ℕ, zero, suc, ◌+◌, ◌<◌, ◌≤◌, pos, ◌+ℤ◌, Bool, List, [], ◌∷◌, length, map, take, Option, Some, refl, sym, ap, subst, ◌∙◌, arith}
use Rattle.std.specs.List.{slice_get}
use Rattle.std.proofs.lemmas.List.{get_or-take, length-take-le, length-take, take-take}
use Rattle.std.proofs.lemmas.Option.{slice_get_within}
use Rattle.bidegree.specs.declared.range.Range.{Range}
use Rattle.f2_vec.specs.Spans.{HaveWidth}
use Rattle.f2_matrix.specs.Reduction.{Reduction, IsReductionOf}
use Rattle.f2_matrix.proofs.Unique.{kernel_basis_unique}
use Rattle.resolution_laws.specs.Resolution.{Module, Content, no_content, square_in, row_of, below_of, target_over}
use Rattle.resolution_laws.specs.Start.{squares_below, row_below, HasShape}
use Rattle.resolution_laws.specs.Exactness.{target_of, differential, IsTable as HasSquares}
use Rattle.resolution_laws.proofs.StartTables.{start_table_shape}
use Rattle.certificate_laws.specs.Certificates.{IsReductionAt}
use Rattle.certificate_laws.proofs.Square.{target_agrees, matrix_through}
use Rattle.square.specs.Squares.{Placed, IsQuasi, IsSquare, over, target_width, square_matrix}
use Rattle.square.specs.Tables.{Staircase, row_in, plain_rows, content_at, IsTable, IsThrough}
use Rattle.square.proofs.Found.{kept_here}
use Rattle.square.proofs.Places.{length-row_of, content_at-is, table_before, table_below, table_under, table_content}
use Rattle.cert_check.specs.Certified.{part_of}

-- ---- rows

take_none : (n : ℕ) → take {A = Content} n [] ≡ []
take_none zero = refl
take_none (suc n) = refl

row_of-cut_rows : (n : ℕ) (rows : List (List Content)) (m s : ℕ) → s < m → row_of (map (take n) (take m rows)) s ≡ take n (row_of rows s)
row_of-cut_rows n rows zero s l = absurd (omega arith)
row_of-cut_rows n [] (suc m) s l = sym (take_none n)
row_of-cut_rows n (r ∷ rows) (suc m) zero l = refl
row_of-cut_rows n (r ∷ rows) (suc m) (suc s) l = row_of-cut_rows n rows m s (omega arith)

module _ (table : Staircase) (range : Range) where
  abbrev m : Module
  m = over table.resolved

  abbrev part : List (List Content)
  part = part_of table range

  pub row_of-part : (s : ℕ) → s ≤ range.s → row_of part s ≡ take (range.t + 1) (row_of (plain_rows table.rows) s)
  row_of-part s h = row_of-cut_rows (range.t + 1) (plain_rows table.rows) (range.s + 1) s (omega arith)

  pub before-part : (s n : ℕ) → s ≤ range.s → n ≤ range.t + 1 → take n (row_of part s) ≡ take n (row_of (plain_rows table.rows) s)
  before-part s n h l = ap (take n) (row_of-part s h) ∙ take-take n (range.t + 1) (row_of (plain_rows table.rows) s) l

  pub below-part : (s k : ℕ) → s ≤ range.s → k ≤ range.t → below_of part s k ≡ below_of (plain_rows table.rows) s k
  below-part zero k h l = refl
  below-part (suc i) k h l = ap (λ (x : List Content). Some x) (before-part i (suc k) (omega arith) (omega arith))

  pub content-part : (s k : ℕ) → s ≤ range.s → k ≤ range.t → square_in (row_of part s) k ≡ content_at table.rows s k
  content-part s k h l = ap (λ (x : List Content). square_in x k) (row_of-part s h) ∙ get_or-take (range.t + 1) (row_of (plain_rows table.rows) s) k no_content (omega arith)

  pub square-part : (s k : ℕ) (q : Placed) → s ≤ range.s → k ≤ range.t → slice_get (row_in table.rows s) k ≡ Some q → square_in (row_of part s) k ≡ q.content
  square-part s k q h l there = content-part s k h l ∙ content_at-is table.rows s k q there

  pub within-part : (s k : ℕ) → s ≤ range.s → k ≤ range.t → k < length (row_in table.rows s) → k < length (row_of part s)
  within-part s k h l there =
      let len = ap length (row_of-part s h) ∙ length-take (range.t + 1) (row_of (plain_rows table.rows) s) in
      let whole = length-row_of table.rows s in
      omega arith

  -- ---- the quasi-inverse of a square

  pub reduction-part : IsTable table → (s k : ℕ) (q : Placed) (r : Reduction) → s ≤ range.s → k ≤ range.t → slice_get (row_in table.rows s) k ≡ Some q → IsSquare q → q.quasi ≡ Some r → IsReductionAt m part s k r
  reduction-part known s k q r h l there square kept =
      let b = m.bottom in
      let here = within-part s k h l (slice_get_within (row_in table.rows s) k q there) in
      let squares = take k (row_of part s) in
      let c = square_in (row_of part s) k in
      let quasi = kept_here table known s k q r there square kept in
      let quasi1 = subst (λ (x : Option (List Content)). IsQuasi m x (take k (row_of (plain_rows table.rows) s)) (content_at table.rows s k) r) (sym (below-part s k h l)) quasi in
      let quasi2 = subst (λ (x : List Content). IsQuasi m (below_of part s k) x (content_at table.rows s k) r) (sym (before-part s k h (omega arith))) quasi1 in
      let quasi3 : IsQuasi m (below_of part s k) squares c r = subst (λ (x : Content). IsQuasi m (below_of part s k) squares x r) (sym (content-part s k h l)) quasi2 in
      let len : length squares ≡ k = length-take-le k (row_of part s) (omega arith) in
      let width : target_width m (below_of part s k) squares ≡ (target_of m part s).width (b +ℤ pos k) = ap (λ (n : ℕ). (target_over m (below_of part s k)).width (b +ℤ pos n)) len ∙ (target_agrees m part s k).width in
      let matrix : square_matrix m (below_of part s k) squares c ≡ differential m part s (b +ℤ pos k) = matrix_through m part s k here in
      let P : ℕ → Type 0 = λ n. IsReductionOf n (square_matrix m (below_of part s k) squares c) r in
      let Q : List (List Bool) → Type 0 = λ rows. IsReductionOf ((target_of m part s).width (b +ℤ pos k)) rows r in
      subst Q matrix (subst P width quasi3)

  -- ---- where each square is there

  widths-part : IsTable table → (s k : ℕ) → s ≤ range.s → k ≤ range.t → k < length (row_in table.rows s) → HaveWidth ((target_of m part s).width (m.bottom +ℤ pos k)) (square_in (row_of part s) k).images
  widths-part known s k h l there =
      let at = content_at table.rows in
      let lower : (i : ℕ) → suc i ≡ s → k < length (row_in table.rows i) = λ i e. let fall = known.never_rise i in let same = ap (λ n. length (row_in table.rows n)) e in omega arith in
      let shape : HasShape m (row_below at s k) (squares_below at s k) (at s k) = start_table_shape kernel_basis_unique m table.start s k at (at s k) (table_under table known s k (omega arith) lower) (table_content table known s k there) in
      let below : row_below at s k ≡ below_of part s k = table_below table.rows s k lower ∙ sym (below-part s k h l) in
      let before : squares_below at s k ≡ take k (row_of (plain_rows table.rows) s) = table_before table.rows s k (omega arith) in
      let whole = length-row_of table.rows s in
      let len : length (squares_below at s k) ≡ k = ap length before ∙ length-take-le k (row_of (plain_rows table.rows) s) (omega arith) in
      let width : (target_over m (row_below at s k)).width (m.bottom +ℤ pos (length (squares_below at s k))) ≡ (target_of m part s).width (m.bottom +ℤ pos k) =
      ap (λ (n : ℕ). (target_over m (row_below at s k)).width (m.bottom +ℤ pos n)) len ∙ (ap (λ (x : Option (List Content)). (target_over m x).width (m.bottom +ℤ pos k)) below ∙ (target_agrees m part s k).width) in
      let P : Content → Type 0 = λ c. HaveWidth ((target_of m part s).width (m.bottom +ℤ pos k)) c.images in
      subst P (sym (content-part s k h l)) (subst (λ n. HaveWidth n (at s k).images) width shape.image_widths)

  pub has_squares-part : IsTable table → IsThrough range table.rows → HasSquares m range.s range.t part
  has_squares-part known through = record {
    squares = λ s h.
        let whole = length-row_of table.rows s in
        let long = through s h in
        ap length (row_of-part s h) ∙ length-take-le (range.t + 1) (row_of (plain_rows table.rows) s) (omega arith);
    widths = λ s k h l. let long = through s h in widths-part known s k h l (omega arith);
  }
