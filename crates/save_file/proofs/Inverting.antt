-- The widths of columns, the kernel rows of a square of a table, and the reduction of its matrix as its quasi-inverse.
use Rattle.std.proofs.Common.{◌≡◌, ℕ, ◌<◌, ℤ, [], Bool, List, length, take, get_or, Some, sym, ◌∙◌, ap, subst, arith}
use Rattle.std.specs.Prelude.{slice_get}
use Rattle.std.proofs.lemmas.List.{length-map, get_or-map}
use Rattle.f2_vec.specs.Vectors.{bit}
use Rattle.f2_vec.specs.Spans.{HaveWidth}
use Rattle.f2_choice.specs.Inside.Columns.{column, columns_at}
use Rattle.f2_matrix.specs.Echelon.{IsReduced, HasNoZeroRow}
use Rattle.f2_matrix.specs.Reduction.{Rows, Reduction, IsReductionOf}
use Rattle.f2_matrix.proofs.Unique.{kernel_basis_unique}
use Rattle.resolution_laws.specs.Resolution.{Content, row_of, below_of}
use Rattle.resolution_laws.specs.Start.{squares_below}
use Rattle.resolution_laws.proofs.StartTables.{start_table_shape}
use Rattle.square.specs.Squares.{Placed, square_matrix, source_width, over}
use Rattle.square.specs.Tables.{Staircase, row_in, plain_rows, content_at, square_at, IsTable, IsMatrixAt, IsQuasiAt}
use Rattle.square.proofs.Places.{content_at-is, table_content, table_before, table_under}
use Rattle.square.proofs.ByDegree.{square_at-above}
use Rattle.save_file.proofs.Entries.{is_within, reached_there}

-- a column has a coordinate for each row
widths : (places : List ℕ) (rows : List (List Bool)) → HaveWidth (length rows) (columns_at places rows)
widths places rows i l =
    let m : i < length places = omega (arith, l, length-map places (λ p. column p rows)) in
    ap length (get_or-map (λ p. column p rows) places i 0 [] m) ∙ length-map rows (λ v. bit v (get_or places i 0))

pub columns_at-widths : (n : ℕ) (places : List ℕ) (rows made : List (List Bool)) → made ≡ columns_at places rows → length rows ≡ n → HaveWidth n made
columns_at-widths n places rows made e long = subst (λ m. HaveWidth m made) long (subst (HaveWidth (length rows)) (sym e) (widths places rows))

-- what is known of the kernel rows of the square whose matrix it is
pub record HasForm (matrix : Rows) (kernel : List (List Bool)) : Type 0 where
  pub widths : HaveWidth (length matrix.rows) kernel
  pub reduced : IsReduced kernel
  pub nonzero : HasNoZeroRow kernel

pub kernel_form : (table : Staircase) → IsTable table → (s : ℕ) (t : ℤ) (q : Placed) (matrix : Rows) → square_at table s t ≡ Some q → IsMatrixAt table s t matrix → HasForm matrix q.content.kernel
kernel_form table h s t q matrix found is =
    let m = over table.resolved in
    let k = is.above in
    let at = content_at table.rows in
    let there : slice_get (row_in table.rows s) k ≡ Some q = sym (square_at-above table s k t is.degree) ∙ found in
    let l = is_within (row_in table.rows s) k q there in
    let reached = reached_there table h s k l in
    let shape = start_table_shape kernel_basis_unique m table.start s k at (at s k) (table_under table h s k reached.before reached.below) (table_content table h s k l) in
    let width : source_width m (squares_below at s k) (at s k) ≡ length matrix.rows = ap (λ squares. source_width m squares (at s k)) (table_before table.rows s k reached.before) ∙ sym (length-map _ _) ∙ sym (ap length is.rows) in
    subst (λ (c : Content). HasForm matrix c.kernel) (content_at-is table.rows s k q there) (record { widths = subst (λ n. HaveWidth n (at s k).kernel) width shape.kernel_widths; reduced = shape.reduced; nonzero = shape.nonzero })

-- the reduction of the matrix that the table has there
pub is_quasi_at : (table : Staircase) (s : ℕ) (t : ℤ) (matrix : Rows) (r : Reduction) → IsMatrixAt table s t matrix → IsReductionOf matrix.cols matrix.rows r → IsQuasiAt table s t r
is_quasi_at table s t matrix r is reduction =
    let rows = plain_rows table.rows in
    let square = square_matrix (over table.resolved) (below_of rows s is.above) (take is.above (row_of rows s)) (content_at table.rows s is.above) in
    record {
      above = is.above;
      degree = is.degree;
      quasi = subst (λ n. IsReductionOf n square r) is.cols (subst (λ x. IsReductionOf matrix.cols x r) is.rows reduction);
    }
