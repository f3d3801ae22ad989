use Rattle.std.proofs.Common.{◌≡◌, ◌+◌, ◌-◌, ℕ, suc, take, ap, ◌∙◌, arith}
use Rattle.std.proofs.lemmas.Result.{IfOk-weaker}
use Rattle.resolution_laws.specs.Resolution.{below_of}
use Rattle.square.specs.Tables.{contents, plain_rows, row_in, under_row}
use Rattle.square.proofs.Places.{shared_below}
use Rattle.square.proofs.table.Table.share_below.Goals as goal

pub returns-clause-squares : goal.returns-clause-squares
returns-clause-squares c =
    let some = c.if-s-eq0.false in
    let rows = c.args.self.now.rows in
    IfOk-weaker c.share.result (λ row. row.squares ≡ take (c.from.result + 1) c.row.result.now.squares) (λ row. (j : ℕ) → suc j ≡ c.args.s → row.squares ≡ take (c.args.above + 1) (row_in rows j))
    (λ row e j above. let same : c.args.s - 1 ≡ j = omega arith in e ∙ ap (take (c.from.result + 1)) c.row.ensures.row ∙ ap (λ n. take (n + 1) (row_in rows (c.args.s - 1))) c.from.ensures ∙ ap (λ n. take (c.args.above + 1) (row_in rows n)) same)
    c.share.ensures

pub returns-clause-below : goal.returns-clause-below
returns-clause-below c =
    let some = c.if-s-eq0.false in
    let rows = c.args.self.now.rows in
    IfOk-weaker c.share.result (λ row. row.squares ≡ take (c.from.result + 1) c.row.result.now.squares) (λ row. under_row c.args.s (contents row.squares) ≡ below_of (plain_rows rows) c.args.s c.args.above)
    (λ row e. shared_below rows c.args.s (c.args.s - 1) c.args.above row.squares (omega arith) (e ∙ ap (take (c.from.result + 1)) c.row.ensures.row ∙ ap (λ n. take (n + 1) (row_in rows (c.args.s - 1))) c.from.ensures))
    c.share.ensures
