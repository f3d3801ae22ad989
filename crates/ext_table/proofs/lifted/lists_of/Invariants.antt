-- The products with the classes so far, which are all there.
use Rattle.std.proofs.Common.{◌≡◌, List, take, drop}
use Rattle.finite_module.specs.Checked.{sphere_file}
use Rattle.finite_module.specs.DerivedAction.{derived_module}
use Rattle.resolution_laws.specs.Resolution.{Content, IsCanonicalTable}
use Rattle.square.specs.Squares.{module_over}
use Rattle.ext_products.specs.Products.{OneEach, resolution, first_missing, IsAnswerOver}
use Rattle.ext_table.specs.Answers.{IsListing}
use Rattle.ext_table.proofs.lifted.lists_of.Given as goal

abbrev pub invariant-loop-class : goal.invariant-loop-class
invariant-loop-class l = record {
  there : (sphere : List (List Content)) → IsCanonicalTable (module_over (derived_module sphere_file)) l.range.s l.range.t sphere →
      first_missing (resolution (derived_module sphere_file) sphere) l.by ≡ first_missing (resolution (derived_module sphere_file) sphere) (drop l.class-index l.by);
  lists : OneEach (λ class listing. IsAnswerOver (IsListing l.shape l.range class) l.source l.range listing) (take l.class-index l.by) l.lists.items;
}
