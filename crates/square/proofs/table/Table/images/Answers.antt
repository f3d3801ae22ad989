use Rattle.std.proofs.Common.{length, ap, subst, sym, refl, ◌∙◌, arith}
use Rattle.std.proofs.lemmas.List.{length-map}
use Rattle.std.proofs.lemmas.Result.{IfOk-weaker}
use Rattle.resolution_laws.specs.Resolution.{images_of}
use Rattle.square.specs.Tables.{Shelf, IsTable}
use Rattle.square.proofs.Matrices.{images_read}
use Rattle.square.proofs.Targets.{no_row}
use Rattle.square.proofs.table.Table.images.Goals as goal

pub images-requires : goal.images-requires
images-requires c = let len = ap length c.row.ensures.row in omega (arith, c.requires)

pub row-requires : goal.row-requires
row-requires c =
    let all = c.self.invariant.0.rows in
    let len = length-map c.self.inside.rows.items (λ (r : Shelf). r.squares) in
    omega arith

pub returns : goal.returns
returns c = IfOk-weaker c.images.result _ _ (λ images e. images_read c.args.self.now c.args.s c.args.n c.row.result.now.squares images.items images.items refl e c.row.ensures.row) c.images.ensures

pub returns-then-from-len : goal.returns-then-from-len
returns-then-from-len c = c.new.ensures.items ∙ ap images_of (sym (no_row c.args.self.now (subst IsTable c.self.view_is c.self.invariant.0) c.args.s c.args.n (let all = c.self.invariant.0.rows in let len = length-map c.self.inside.rows.items (λ (r : Shelf). r.squares) in omega arith)))
