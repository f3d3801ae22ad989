-- A checked module can be resolved, and its canonical table is there.
use Rattle.std.proofs.Common.{◌+◌, List}
use Rattle.finite_module.specs.Checked.{Checked}
use Rattle.finite_module.specs.Graded.{ModulesAreSteenrodModules}
use Rattle.finite_module.specs.ModuleLaws.{module_KeepsWidths, width-below}
use Rattle.resolution_laws.specs.Resolution.{Content}
use Rattle.resolution_existence.specs.Existence.{CanonicalTableExists}
use Rattle.square.specs.Squares.{over}
use Rattle.resolution_images.specs.declared.resolve.Extent.{Extent}
use Rattle.resolution_images.specs.Made.{IsTableOf}
use Rattle.resolution_images.proofs.Standing.{IsResolvable}

pub resolvable : ModulesAreSteenrodModules → (m : Checked) → IsResolvable (over m)
resolvable laws m = record {
  steenrod = laws m.plain m.is_module;
  bounded = λ t l. width-below m.plain.generators m.by_degree t l;
}

pub a_table : CanonicalTableExists → (m : Checked) (e : Extent) → (table : List (List Content)) × IsTableOf (over m) e table
a_table exists m e = exists (over m) e.last (e.n + e.last) (module_KeepsWidths m.plain m.is_module)
