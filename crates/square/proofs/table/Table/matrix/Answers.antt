use Rattle.std.proofs.Common.{◌≡◌, pos, ◌+ℤ◌, take, w32, ap, sym, subst, ◌∙◌, arith}
use Rattle.std.proofs.lemmas.Int.{to_z-of_z}
use Rattle.std.proofs.lemmas.Option.{slice_get_within}
use Rattle.std.specs.Arc.{arc_value}
use Rattle.f2_matrix.specs.Reduction.{Rows}
use Rattle.resolution_laws.specs.Resolution.{row_of, below_of}
use Rattle.square.specs.Squares.{Placed, target_width, square_matrix, over, bottom_of}
use Rattle.square.specs.Tables.{row_in, plain_rows, content_at, IsMatrixAt}
use Rattle.square.proofs.Found.{IsFound, square_found, row_within}
use Rattle.square.proofs.Matrices.{if_both}
use Rattle.square.proofs.table.Table.matrix.Goals as goal

pub matrix_again-requires-clause-row : goal.matrix_again-requires-clause-row
matrix_again-requires-clause-row c =
    let now = c.args.self.now in
    let q = arc_value c.there.result.now in
    let found : IsFound now c.args.s c.args.t q = subst (λ x. IsFound now c.args.s x q) (to_z-of_z w32 c.args.t c.ranges.t) (square_found now c.args.s _ q c.there.ensures.square) in
    let low = row_within now.rows c.args.s found.above (slice_get_within (row_in now.rows c.args.s) found.above q found.there) in
    let all = c.there.ensures.is_table.rows in
    omega arith

pub matrix_again-requires-clause-there : goal.matrix_again-requires-clause-there
matrix_again-requires-clause-there c =
    let now = c.args.self.now in
    let q = arc_value c.there.result.now in
    let found : IsFound now c.args.s c.args.t q = subst (λ x. IsFound now c.args.s x q) (to_z-of_z w32 c.args.t c.ranges.t) (square_found now c.args.s _ q c.there.ensures.square) in
    let is = c.there.ensures.is_table.placed c.args.s found.above q found.there in
    let at : c.above-above.result ≡ found.above = c.above-above.ensures.above ∙ ap (λ (x : Placed). x.above) c.deref.ensures ∙ is.above_is in
    let within = slice_get_within (row_in now.rows c.args.s) found.above q found.there in
    omega arith

pub returns : goal.returns
returns c =
    let now = c.args.self.now in
    let q = arc_value c.there.result.now in
    let found : IsFound now c.args.s c.args.t q = subst (λ x. IsFound now c.args.s x q) (to_z-of_z w32 c.args.t c.ranges.t) (square_found now c.args.s _ q c.there.ensures.square) in
    let is = c.there.ensures.is_table.placed c.args.s found.above q found.there in
    let k = c.above-above.result in
    let at : k ≡ found.above = c.above-above.ensures.above ∙ ap (λ (x : Placed). x.above) c.deref.ensures ∙ is.above_is in
    let degree : c.args.t ≡ bottom_of now.resolved +ℤ pos k = found.degree ∙ ap (λ n. bottom_of now.resolved +ℤ pos n) (sym at) in
    let P : Rows → Type 0 = λ m. m.cols ≡ target_width (over now.resolved) (below_of (plain_rows now.rows) c.args.s k) (take k (row_of (plain_rows now.rows) c.args.s)) in
    let Q : Rows → Type 0 = λ m. m.rows ≡ square_matrix (over now.resolved) (below_of (plain_rows now.rows) c.args.s k) (take k (row_of (plain_rows now.rows) c.args.s)) (content_at now.rows c.args.s k) in
    if_both c.matrix_again.result P Q (IsMatrixAt now c.args.s c.args.t) c.matrix_again.ensures.cols c.matrix_again.ensures.rows (λ m cols rows. record { above = k; degree = degree; cols = cols; rows = rows })
