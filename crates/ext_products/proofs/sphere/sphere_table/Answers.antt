use Rattle.std.proofs.Common.{◌≡◌, ap, ◌∙◌}
use Rattle.std.specs.Prelude.{IfOk}
use Rattle.std.proofs.lemmas.Result.{IfOk-weaker}
use Rattle.finite_module.specs.Checked.{Checked, sphere_file}
use Rattle.finite_module.specs.DerivedAction.{derived_module}
use Rattle.square.specs.Tables.{Staircase}
use Rattle.ext_products.proofs.SphereTables.{canonical-ok, sphere-ok}
use Rattle.ext_products.proofs.sphere.sphere_table.Goals as goal

module_is : (c : goal.After-resolved) → IfOk c.resolved.result (λ table. table.resolved.plain ≡ derived_module sphere_file)
module_is c = IfOk-weaker c.resolved.result _ _ (λ (table : Staircase) e. ap (λ (m : Checked). m.plain) e ∙ c.in_ok-sphere.ensures) c.resolved.ensures.module_is

pub returns-clause-module_is : goal.returns-clause-module_is
returns-clause-module_is c = module_is c

pub returns-clause-canonical : goal.returns-clause-canonical
returns-clause-canonical c = canonical-ok c.resolved.result _ c.args.range c.resolved.ensures.module_is c.resolved.ensures.canonical

pub returns-clause-sphere : goal.returns-clause-sphere
returns-clause-sphere c = sphere-ok c.resolved.result (module_is c)
