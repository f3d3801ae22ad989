-- The lines of the classes so far, which are all there.
use Rattle.std.proofs.Common.{◌≡◌, List, length, take, drop}
use Rattle.std.specs.Prelude.{Ok, nat_lt}
use Rattle.finite_module.specs.Checked.{sphere_file}
use Rattle.finite_module.specs.DerivedAction.{derived_module}
use Rattle.resolution_laws.specs.Resolution.{Content, IsCanonicalTable}
use Rattle.square.specs.Squares.{module_over}
use Rattle.ext_products.specs.Products.{resolution, first_missing, IsAnswerOfOne, IsAnswerOver}
use Rattle.ext_products.proofs.Several.{AreHeaded}
use Rattle.ext_products.proofs.products.products_text.Given as goal

abbrev pub invariant-loop-class : goal.invariant-loop-class
invariant-loop-class l = record {
  there : (sphere : List (List Content)) → IsCanonicalTable (module_over (derived_module sphere_file)) l.range.s l.range.t sphere →
      first_missing (resolution (derived_module sphere_file) sphere) l.by ≡ first_missing (resolution (derived_module sphere_file) sphere) (drop l.class-index l.by);
  texts : AreHeaded (λ by text. IsAnswerOver (IsAnswerOfOne l.shape l.range by) l.table l.range (Ok text)) (nat_lt 1 (length l.by)) (take l.class-index l.by) l.text.items;
}
