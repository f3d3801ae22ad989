use Rattle.std.proofs.Common.{◌≡◌, List, Bool, ap, subst}
use Rattle.std.specs.Prelude.{IfOk}
use Rattle.f2_vec.specs.Spans.{row}
use Rattle.lift_laws.specs.Products.{coefficient_of, on_square}
use Rattle.chain_map.specs.Lifting.{resolution_of}
use Rattle.yoneda.specs.Products.{class_above}
use Rattle.yoneda.proofs.values.product_by_lift.Goals as goal

pub returns : goal.returns
returns c =
    subst (λ (w : List Bool). IfOk c.coefficients.result (λ v. v ≡ w)) (ap (λ (z : List (List Bool)). on_square (resolution_of c.args.table.now) c.args.s c.args.above (λ g. coefficient_of (resolution_of c.args.sphere.now) (class_above c.args.a) (row z g))) c.vectors.ensures) c.coefficients.ensures
