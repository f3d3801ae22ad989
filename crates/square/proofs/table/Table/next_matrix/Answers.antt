use Rattle.std.proofs.Common.{◌≡◌, pos, ◌+ℤ◌, [], w32, arith}
use Rattle.std.proofs.lemmas.Int.{ints, to_z-of_z}
use Rattle.f2_matrix.specs.Reduction.{Rows}
use Rattle.square.specs.Squares.{target_width, square_matrix, over, bottom_of}
use Rattle.square.specs.Tables.{Footing, IsMatrixBehind}
use Rattle.square.proofs.Matrices.{if_both, matrix_behind}
use Rattle.square.proofs.table.Table.next_matrix.Goals as goal

pub returns : goal.returns
returns c =
    let now = c.args.self.now in
    let f : Footing = c.in_ok-inputs.field-0 in
    let same = to_z-of_z w32 c.args.t c.ranges.t in
    let at : c.args.t ≡ bottom_of now.resolved +ℤ pos f.above = omega (arith, ints, c.in_ok-inputs.ensures.t) in
    let P : Rows → Type 0 = λ m. m.cols ≡ target_width (over f.resolved) f.below f.squares in
    let Q : Rows → Type 0 = λ m. m.rows ≡ square_matrix (over f.resolved) f.below f.squares (record { images = c.args.images.now; kernel = [] }) in
    if_both c.matrix_with-2.result P Q (IsMatrixBehind now c.args.s c.args.t c.args.images.now) c.matrix_with-2.ensures.cols c.matrix_with-2.ensures.rows (λ m cols rows. matrix_behind now c.args.s c.args.t c.args.images.now f m at c.in_ok-inputs.ensures.resolved c.in_ok-inputs.ensures.squares c.in_ok-inputs.ensures.below cols rows)
