use Rattle.std.proofs.Common.{ℕ, List, Bool, take, subst}
use Rattle.std.proofs.lemmas.Result.{IfOk-weaker}
use Rattle.f2_matrix.specs.Reduction.{Reduction, IsReductionOf}
use Rattle.resolution_laws.specs.Resolution.{row_of, below_of}
use Rattle.square.specs.Squares.{IsQuasi, target_width, over}
use Rattle.square.specs.Tables.{plain_rows, content_at}
use Rattle.square.proofs.table.Table.quasi_again.Goals as goal

pub returns : goal.returns
returns c =
    let table = c.args.self.now in
    let m = over table.resolved in
    let below = below_of (plain_rows table.rows) c.args.s c.args.above in
    let squares = take c.args.above (row_of (plain_rows table.rows) c.args.s) in
    let matrix = c.in_ok-matrix.matrix in
    let Q : Reduction → Type 0 = λ r. IsQuasi m below squares (content_at table.rows c.args.s c.args.above) r in
    IfOk-weaker c.of.result (λ r. IsReductionOf matrix.cols matrix.rows r) Q (λ r is.
    subst (λ (rows : List (List Bool)). IsReductionOf (target_width m below squares) rows r) c.in_ok-matrix.ensures.rows (subst (λ (n : ℕ). IsReductionOf n matrix.rows r) c.in_ok-matrix.ensures.cols is)) c.of.ensures.parts
