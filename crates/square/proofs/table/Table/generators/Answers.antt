use Rattle.std.proofs.Common.{◌≡◌, length, ap, subst, sym, ◌∙◌, arith}
use Rattle.std.proofs.lemmas.Int.{ints}
use Rattle.std.proofs.lemmas.List.{length-map}
use Rattle.std.proofs.lemmas.Result.{IfOk-weaker}
use Rattle.finite_module.specs.Checked.{Checked}
use Rattle.resolution_laws.specs.Resolution.{degrees_from}
use Rattle.square.specs.Tables.{Shelf, IsTable}
use Rattle.square.proofs.Matrices.{gens_read}
use Rattle.square.proofs.Targets.{row_short, no_row}
use Rattle.square.proofs.table.Table.generators.Goals as goal
use Rattle.square.specs.Squares.{bottom_of}

pub generators-requires-clause-within : goal.generators-requires-clause-within
generators-requires-clause-within c = let len = ap length c.row.ensures.row in omega (arith, c.requires)

pub generators-requires-clause-few : goal.generators-requires-clause-few
generators-requires-clause-few c = let short = row_short c.args.self.now c.row.ensures.is_table c.args.s in omega (arith, c.requires)

pub row-requires : goal.row-requires
row-requires c =
    let all = c.self.invariant.0.rows in
    let len = length-map c.self.inside.rows.items (λ (r : Shelf). r.squares) in
    omega arith

pub returns : goal.returns
returns c =
    let low : c.bottom.result ≡ bottom_of c.args.self.now.resolved = c.bottom.ensures.bottom ∙ ap (λ (m : Checked). bottom_of m) c.module.ensures in
    IfOk-weaker c.generators.result _ _ (λ gens e. gens_read c.args.self.now c.args.s c.args.n _ c.row.result.now.squares gens e (omega (arith, ints, c.bottom.ensures.lowest, c.bottom.ensures.highest)) c.row.ensures.row) c.generators.ensures

pub returns-then-from-len : goal.returns-then-from-len
returns-then-from-len c = c.new.ensures ∙ ap (degrees_from (bottom_of c.args.self.now.resolved)) (sym (no_row c.args.self.now (subst IsTable c.self.view_is c.self.invariant.0) c.args.s c.args.n (let all = c.self.invariant.0.rows in let len = length-map c.self.inside.rows.items (λ (r : Shelf). r.squares) in omega arith)))
