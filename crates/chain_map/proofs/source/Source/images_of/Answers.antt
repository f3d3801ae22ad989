use Rattle.std.proofs.Common.{◌≡◌, ◌<◌, length, ap, sym, subst, ◌∙◌, arith}
use Rattle.square.specs.Tables.{Staircase, row_in, content_at, IsTable}
use Rattle.chain_map.specs.Sources.{canonical_table, table_held, IsHeld}
use Rattle.chain_map.proofs.Canonical.{is_table, front_is, images_are, no_images, place_small}
use Rattle.chain_map.proofs.source.Source.images_of.Goals as goal

pub returns-then-from-front-clause-images : goal.returns-then-from-front-clause-images
returns-then-from-front-clause-images c =
    let images = c.in-Images.images.now in
    let seen : canonical_table images.resolved images.range ≡ c.args.self.now = sym (ap table_held c.in-Images.is) ∙ c.self.view_is in
    let whole = subst IsHeld c.in-Images.is c.self.invariant in
    c.square.ensures.images
    ∙ (images_are images whole c.args.s c.args.above (omega (arith, c.if-from-front.true, c.from.ensures, c.front.ensures.front, front_is images whole c.args.s))
    ∙ ap (λ (t : Staircase). (content_at t.rows c.args.s c.args.above).images) seen)

pub returns-then-from-front-clause-is_table : goal.returns-then-from-front-clause-is_table
returns-then-from-front-clause-is_table c =
    let images = c.in-Images.images.now in
    let seen : canonical_table images.resolved images.range ≡ c.args.self.now = sym (ap table_held c.in-Images.is) ∙ c.self.view_is in
    let whole = subst IsHeld c.in-Images.is c.self.invariant in
    subst IsTable seen (is_table images.resolved images.range whole.row whole.degree)

pub returns-else-from-front-clause-images : goal.returns-else-from-front-clause-images
returns-else-from-front-clause-images c =
    let images = c.in-Images.images.now in
    let seen : canonical_table images.resolved images.range ≡ c.args.self.now = sym (ap table_held c.in-Images.is) ∙ c.self.view_is in
    let whole = subst IsHeld c.in-Images.is c.self.invariant in
    no_images images whole c.args.s c.args.above (omega (arith, c.if-from-front.false, c.from.ensures, c.front.ensures.front, front_is images whole c.args.s))
    ∙ ap (λ (t : Staircase). (content_at t.rows c.args.s c.args.above).images) seen

pub returns-else-from-front-clause-row : goal.returns-else-from-front-clause-row
returns-else-from-front-clause-row c = λ l.
    let images = c.in-Images.images.now in
    let seen : canonical_table images.resolved images.range ≡ c.args.self.now = sym (ap table_held c.in-Images.is) ∙ c.self.view_is in
    let whole = subst IsHeld c.in-Images.is c.self.invariant in
    (place_small images whole c.args.s c.args.above (subst (λ (t : Staircase). c.args.above < length (row_in t.rows c.args.s)) (sym seen) l)).0

pub returns-else-from-front-clause-degree : goal.returns-else-from-front-clause-degree
returns-else-from-front-clause-degree c = λ l.
    let images = c.in-Images.images.now in
    let seen : canonical_table images.resolved images.range ≡ c.args.self.now = sym (ap table_held c.in-Images.is) ∙ c.self.view_is in
    let whole = subst IsHeld c.in-Images.is c.self.invariant in
    (place_small images whole c.args.s c.args.above (subst (λ (t : Staircase). c.args.above < length (row_in t.rows c.args.s)) (sym seen) l)).1

pub returns-else-from-front-clause-is_table : goal.returns-else-from-front-clause-is_table
returns-else-from-front-clause-is_table c =
    let images = c.in-Images.images.now in
    let seen : canonical_table images.resolved images.range ≡ c.args.self.now = sym (ap table_held c.in-Images.is) ∙ c.self.view_is in
    let whole = subst IsHeld c.in-Images.is c.self.invariant in
    subst IsTable seen (is_table images.resolved images.range whole.row whole.degree)
