use Rattle.std.proofs.Common.{◌≡◌, pos, ◌+ℤ◌, take, w32, ap, sym, subst, ◌∙◌, arith}
use Rattle.std.proofs.lemmas.Int.{to_z-of_z}
use Rattle.std.proofs.lemmas.Option.{slice_get_within}
use Rattle.std.proofs.lemmas.Result.{IfOk-weaker}
use Rattle.std.specs.Arc.{arc_value}
use Rattle.f2_matrix.specs.Reduction.{Reduction}
use Rattle.resolution_laws.specs.Resolution.{row_of, below_of}
use Rattle.square.specs.Squares.{Placed, IsQuasi, IsSquare, over, bottom_of}
use Rattle.square.specs.Tables.{row_in, plain_rows, content_at, IsQuasiAt}
use Rattle.square.proofs.Found.{IsFound, square_found, row_within, kept_found}
use Rattle.square.proofs.table.Table.quasi.Goals as goal

pub quasi_again-requires-clause-row : goal.quasi_again-requires-clause-row
quasi_again-requires-clause-row c =
    let q = arc_value c.there-square.result.now in
    let found : IsFound c.args.self.now c.args.s c.args.t q = subst (λ x. IsFound c.args.self.now c.args.s x q) (to_z-of_z w32 c.args.t c.ranges.t) (square_found c.args.self.now c.args.s _ q c.there-square.ensures.square) in
    let low = row_within c.args.self.now.rows c.args.s found.above (slice_get_within (row_in c.args.self.now.rows c.args.s) found.above q found.there) in
    let all = c.there-square.ensures.is_table.rows in
    omega arith

pub quasi_again-requires-clause-there : goal.quasi_again-requires-clause-there
quasi_again-requires-clause-there c =
    let q = arc_value c.there-square.result.now in
    let found : IsFound c.args.self.now c.args.s c.args.t q = subst (λ x. IsFound c.args.self.now c.args.s x q) (to_z-of_z w32 c.args.t c.ranges.t) (square_found c.args.self.now c.args.s _ q c.there-square.ensures.square) in
    let is = c.there-square.ensures.is_table.placed c.args.s found.above q found.there in
    let at : c.above.result ≡ found.above = c.above.ensures.above ∙ ap (λ (x : Placed). x.above) c.deref-in-None.ensures ∙ is.above_is in
    let within = slice_get_within (row_in c.args.self.now.rows c.args.s) found.above q found.there in
    omega arith

pub returns-in-Some : goal.returns-in-Some
returns-in-Some c =
    let q = arc_value c.there-square.result.now in
    let found : IsFound c.args.self.now c.args.s c.args.t q = subst (λ x. IsFound c.args.self.now c.args.s x q) (to_z-of_z w32 c.args.t c.ranges.t) (square_found c.args.self.now c.args.s _ q c.there-square.ensures.square) in
    let square : IsSquare q = subst IsSquare c.deref.ensures c.kept_quasi.ensures.is_square in
    let kept = ap (λ (x : Placed). x.quasi) (sym c.deref.ensures) ∙ sym c.in-Some.ensures.kept in
    let quasi = kept_found c.args.self.now c.there-square.ensures.is_table c.args.s c.args.t q c.in-Some.kept.now found square kept in
    IfOk-weaker c.try_copy.result (λ (r : Reduction). r ≡ c.in-Some.kept.now) (IsQuasiAt c.args.self.now c.args.s c.args.t) (λ r e. subst (IsQuasiAt c.args.self.now c.args.s c.args.t) (sym e) quasi) c.try_copy.ensures

pub returns-in-None : goal.returns-in-None
returns-in-None c =
    let q = arc_value c.there-square.result.now in
    let found : IsFound c.args.self.now c.args.s c.args.t q = subst (λ x. IsFound c.args.self.now c.args.s x q) (to_z-of_z w32 c.args.t c.ranges.t) (square_found c.args.self.now c.args.s _ q c.there-square.ensures.square) in
    let is = c.there-square.ensures.is_table.placed c.args.s found.above q found.there in
    let at : c.above.result ≡ found.above = c.above.ensures.above ∙ ap (λ (x : Placed). x.above) c.deref-in-None.ensures ∙ is.above_is in
    let degree = found.degree ∙ ap (λ n. bottom_of c.args.self.now.resolved +ℤ pos n) (sym at) in
    let P : Reduction → Type 0 = λ r. IsQuasi (over c.args.self.now.resolved) (below_of (plain_rows c.args.self.now.rows) c.args.s c.above.result) (take c.above.result (row_of (plain_rows c.args.self.now.rows) c.args.s)) (content_at c.args.self.now.rows c.args.s c.above.result) r in
    IfOk-weaker c.quasi_again.result P (IsQuasiAt c.args.self.now c.args.s c.args.t) (λ r is. record { above = c.above.result; degree = degree; quasi = is }) c.quasi_again.ensures
