use Rattle.std.proofs.Common.{◌≡◌, length, ap, sym, subst, ◌∙◌}
use Rattle.square.specs.Tables.{Staircase, row_in, IsTable}
use Rattle.chain_map.specs.Sources.{canonical_table, table_held, IsHeld}
use Rattle.chain_map.proofs.Canonical.{is_table, front_is}
use Rattle.chain_map.proofs.source.Source.front.Goals as goal

pub returns-in-Images-clause-front : goal.returns-in-Images-clause-front
returns-in-Images-clause-front c =
    let images = c.in-Images.images.now in
    let seen : canonical_table images.resolved images.range ≡ c.args.self.now = sym (ap table_held c.in-Images.is) ∙ c.self.view_is in
    let whole = subst IsHeld c.in-Images.is c.self.invariant in
    c.front-in-Images.ensures.front ∙ (front_is images whole c.args.s ∙ ap (λ (t : Staircase). length (row_in t.rows c.args.s)) seen)

pub returns-in-Images-clause-is_table : goal.returns-in-Images-clause-is_table
returns-in-Images-clause-is_table c =
    let images = c.in-Images.images.now in
    let seen : canonical_table images.resolved images.range ≡ c.args.self.now = sym (ap table_held c.in-Images.is) ∙ c.self.view_is in
    let whole = subst IsHeld c.in-Images.is c.self.invariant in
    subst IsTable seen (is_table images.resolved images.range whole.row whole.degree)
