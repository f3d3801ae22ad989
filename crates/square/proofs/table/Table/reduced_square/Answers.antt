use Rattle.std.proofs.Common.{◌≡◌, ℤ, Some, w32, ap, sym, subst, ◌∙◌}
use Rattle.std.proofs.lemmas.Int.{to_z-of_z}
use Rattle.std.specs.Arc.{arc_value}
use Rattle.square.specs.Squares.{Placed, IsKeptOf}
use Rattle.square.specs.Tables.{square_at}
use Rattle.square.proofs.Found.{square_found, lacking_kept}
use Rattle.square.proofs.table.Table.reduced_square.Goals as goal

pub with_quasi-requires-clause-resolved : goal.with_quasi-requires-clause-resolved
with_quasi-requires-clause-resolved c =
    let q = arc_value c.there.result.now in
    let found = square_found c.args.self.now c.args.s _ q c.there.ensures.square in
    let is = c.there.ensures.is_table.placed c.args.s found.above q found.there in
    c.module.ensures ∙ sym (ap (λ (x : Placed). x.resolved) c.deref.ensures ∙ is.resolved_is)

pub with_quasi-requires-clause-quasi : goal.with_quasi-requires-clause-quasi
with_quasi-requires-clause-quasi c =
    let now = c.args.self.now in
    let q = arc_value c.there.result.now in
    let there : square_at now c.args.s c.args.t ≡ Some q = subst (λ (x : ℤ). square_at now c.args.s x ≡ Some q) (to_z-of_z w32 c.args.t c.ranges.t) c.there.ensures.square in
    subst (λ (x : Placed). IsKeptOf x c.args.quasi) (sym c.deref.ensures) (lacking_kept now c.there.ensures.is_table c.args.s c.args.t q c.args.quasi there c.requires.lacks c.requires.quasi)
