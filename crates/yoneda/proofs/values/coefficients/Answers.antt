use Rattle.std.proofs.Common.{◌≡◌, Bool, List, length, ap, subst}
use Rattle.std.specs.Prelude.{IfOk}
use Rattle.yoneda.proofs.Coordinates.{behind, coefficients_on}
use Rattle.yoneda.proofs.values.coefficients.Goals as goal

pub coordinates_back-requires-clause-within : goal.coordinates_back-requires-clause-within
coordinates_back-requires-clause-within c =
    behind c.args.table.now c.args.sphere.now c.args.a c.args.s c.args.above c.args.values.now c.requires.class c.requires.values c.in_ok-first.first (length c.images_of-count.result.now) (length c.images_of.result.now) c.in_ok-first.ensures (ap length c.images_of-count.ensures.images) (ap length c.images_of.ensures.images)

pub returns : goal.returns
returns c =
    let is = coefficients_on c.args.table.now c.args.sphere.now c.args.a c.args.s c.args.above c.args.values.now c.requires.class c.requires.values c.in_ok-first.first (length c.images_of-count.result.now) (length c.images_of.result.now) c.in_ok-first.ensures (ap length c.images_of-count.ensures.images) (ap length c.images_of.ensures.images) in
    subst (λ (w : List Bool). IfOk c.coordinates_back.result (λ v. v ≡ w)) is c.coordinates_back.ensures
