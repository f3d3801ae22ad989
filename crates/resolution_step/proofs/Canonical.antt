-- A table through a range, over a canonical start, is the canonical table of the range.
use Rattle.std.proofs.Common.{◌≡◌, ℕ, ◌+◌, ◌≤◌, List, [], length, take, sym, ◌∙◌, ap, subst, arith}
use Rattle.std.proofs.lemmas.List.{get_or-map, get_or-take, length-map, length-take-le}
use Rattle.bidegree.specs.declared.range.Range.{Range}
use Rattle.f2_matrix.proofs.Unique.{kernel_basis_unique}
use Rattle.resolution_laws.specs.Resolution.{Module, Content, no_content, square_in, row_of, IsCanonicalTable}
use Rattle.resolution_laws.specs.Start.{Entry, IsOf, IsCanonicalStart}
use Rattle.resolution_laws.proofs.StartLaws.{canonical_content, canonical_from_contents}
use Rattle.square.specs.Squares.{Placed, over}
use Rattle.square.specs.Tables.{Staircase, contents, row_in, plain_rows, content_at, IsThrough, cut}
use Rattle.square.proofs.Places.{length-row_of, slice_get-there, content_at-is}
use Rattle.square.proofs.Found.{row_within}
use Rattle.square.specs.Growing.{HasGrown}
use Rattle.resolution_step.specs.Alone.{AreOfStart}

-- the rows of the range
module _ (range : Range) (rows : List (List Placed)) (through : IsThrough range rows) where
  length-cut : length (cut range (plain_rows rows)) ≡ range.s + 1
  length-cut =
      let there = row_within rows range.s range.t (through range.s (omega arith)) in
      let all = length-map rows contents in
      length-map (take (range.s + 1) (plain_rows rows)) (take (range.t + 1)) ∙ length-take-le (range.s + 1) (plain_rows rows) (omega arith)

  pub row_of-cut : (i : ℕ) → i ≤ range.s → row_of (cut range (plain_rows rows)) i ≡ take (range.t + 1) (row_of (plain_rows rows) i)
  row_of-cut i h =
      let there = row_within rows range.s range.t (through range.s (omega arith)) in
      let all = length-map rows contents in
      let len : length (take (range.s + 1) (plain_rows rows)) ≡ range.s + 1 = length-take-le (range.s + 1) (plain_rows rows) (omega arith) in
      get_or-map (take (range.t + 1)) (take (range.s + 1) (plain_rows rows)) i [] [] (omega arith)
      ∙ ap (take (range.t + 1)) (get_or-take (range.s + 1) (plain_rows rows) i [] (omega arith))

  length-row_of-cut : (i : ℕ) → i ≤ range.s → length (row_of (cut range (plain_rows rows)) i) ≡ range.t + 1
  length-row_of-cut i h =
      let l = through i h in
      let len = length-row_of rows i in
      ap length (row_of-cut i h) ∙ length-take-le (range.t + 1) (row_of (plain_rows rows) i) (omega arith)

  square_in-cut : (i k : ℕ) → i ≤ range.s → k ≤ range.t → square_in (row_of (cut range (plain_rows rows)) i) k ≡ content_at rows i k
  square_in-cut i k h l =
      ap (λ (x : List Content). square_in x k) (row_of-cut i h) ∙ get_or-take (range.t + 1) (row_of (plain_rows rows) i) k no_content (omega arith)

canonical_contents : (range : Range) (table : Staircase) → IsThrough range table.rows → AreOfStart table → IsCanonicalStart (over table.resolved) table.start → (i k : ℕ) → i ≤ range.s → k ≤ range.t → IsOf (over table.resolved) [] i k (square_in (row_of (cut range (plain_rows table.rows)) i) k)
canonical_contents range table through are reads i k h l =
    let m = over table.resolved in
    let last = through i h in
    let there = slice_get-there (row_in table.rows i) k (omega arith) in
    let same : there.0.content ≡ square_in (row_of (cut range (plain_rows table.rows)) i) k = sym (square_in-cut range table.rows through i k h l ∙ content_at-is table.rows i k there.0 there.1) in
    subst (IsOf m [] i k) same (canonical_content m table.start reads i k there.0.content (are i k there.0 there.1))

pub IsCanonicalTable-cut : (range : Range) (before after : Staircase) → HasGrown before after → IsThrough range after.rows → AreOfStart after → IsCanonicalStart (over before.resolved) before.start → IsCanonicalTable (over before.resolved) range.s range.t (cut range (plain_rows after.rows))
IsCanonicalTable-cut range before after grown through are reads =
    let same = ap (λ x. over x) grown.resolved in
    let R : Module → Type 0 = λ m. IsCanonicalStart m before.start in
    let S : List Entry → Type 0 = λ start. IsCanonicalStart (over after.resolved) start in
    let there = subst S (sym grown.start) (subst R (sym same) reads) in
    let table : IsCanonicalTable (over after.resolved) range.s range.t (cut range (plain_rows after.rows)) =
    canonical_from_contents kernel_basis_unique (over after.resolved) range.s range.t (cut range (plain_rows after.rows)) (length-cut range after.rows through) (length-row_of-cut range after.rows through) (canonical_contents range after through are there) in
    subst (λ m. IsCanonicalTable m range.s range.t (cut range (plain_rows after.rows))) same table
