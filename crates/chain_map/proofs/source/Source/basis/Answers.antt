use Rattle.std.proofs.Common.{◌≡◌, ◌<◌, length, ap, sym, subst, ◌∙◌, arith}
use Rattle.square.specs.Tables.{Staircase, row_in}
use Rattle.square.proofs.Targets.{row_short}
use Rattle.chain_map.specs.Sources.{canonical_table, table_held, IsHeld}
use Rattle.chain_map.proofs.Canonical.{front_is}
use Rattle.chain_map.proofs.source.Source.basis.Goals as goal

pub basis-requires : goal.basis-requires
basis-requires c =
    let table = c.in-Squares.table.now in
    let seen : table ≡ c.args.self.now = sym (ap table_held c.in-Squares.is) ∙ c.self.view_is in
    let there = subst (λ (t : Staircase). c.args.above < length (row_in t.rows c.requires.0)) (sym seen) c.requires.1 in
    omega (arith, there, row_short table c.front-front.ensures.is_table c.requires.0)

pub returns-in-Images : goal.returns-in-Images
returns-in-Images c =
    let images = c.in-Images.images.now in
    let seen : canonical_table images.resolved images.range ≡ c.args.self.now = sym (ap table_held c.in-Images.is) ∙ c.self.view_is in
    let whole = subst IsHeld c.in-Images.is c.self.invariant in
    let there = subst (λ (t : Staircase). c.args.above < length (row_in t.rows c.requires.0)) (sym seen) c.requires.1 in
    c.basis-in-Images.ensures c.requires.0 c.args.above (omega (arith, there, front_is images whole c.requires.0))
