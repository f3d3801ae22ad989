-- What is told, or refused, of all canonical resolutions.
use Rattle.std.proofs.Common.{ℕ, List, [], refl, arith}
use Rattle.std.specs.Prelude.{Result, Err}
use Rattle.bidegree.specs.declared.range.Range.{Range}
use Rattle.finite_module.specs.Module.{Module as SteenrodModule}
use Rattle.finite_module.specs.Checked.{Checked, sphere_file}
use Rattle.finite_module.specs.DerivedAction.{derived_module}
use Rattle.resolution_laws.specs.Resolution.{Content}
use Rattle.lift_laws.specs.Lifts.{Resolution, IsCanonical, IsSphere}
use Rattle.ext_products.specs.declared.refusal.Refusal.{Refusal}
use Rattle.ext_products.specs.Products.{resolution, Telling}
use Rattle.ext_products.proofs.SphereTables.{sphere-is}
use Rattle.ext_run.specs.Forms.{IsToldOfClasses, IsRefusedOver, told_of_classes}
use Rattle.ext_run.proofs.AnswerExists.{TableLaws, canonical_by, one_alone, table_exists}

-- what is told of all canonical resolutions of a module and of the sphere is told of the module
pub told_of_all : TableLaws → (Tells : Telling) (range : Range) (m : Checked) (told : Result (List ℕ) Refusal) →
    ((table : List (List Content)) (q : Resolution) → IsCanonical (resolution m.plain table) range.s range.t → IsCanonical q range.s range.t → IsSphere q → Tells (resolution m.plain table) q told) → IsToldOfClasses Tells range m.plain (told_of_classes told)
told_of_all laws Tells range m told answer =
    let sphere_module = derived_module sphere_file in
    let sphere_is = laws.accepted sphere_file one_alone refl in
    let table = table_exists laws range m.plain m.is_module m.by_degree.ordered in
    let sphere = table_exists laws range sphere_module sphere_is one_alone in
    let r = canonical_by laws range m.plain m.is_module m.by_degree.ordered table.0 table.1 in
    let q = canonical_by laws range sphere_module sphere_is one_alone sphere.0 sphere.1 in
    record {
      table = table.0;
      resolved = table.1;
      sphere = sphere.0;
      sphere_resolved = sphere.1;
      told = told;
      is_told = answer table.0 (resolution sphere_module sphere.0) r q (sphere-is sphere.0);
      is = refl;
    }

-- what is refused over all of them is refused
pub refused_of_all : TableLaws → (Tells : Telling) (range : Range) (m : SteenrodModule) (refusal : Refusal) →
    ((r q : Resolution) → IsCanonical q range.s range.t → IsSphere q → Tells r q (Err refusal)) → IsRefusedOver Tells range m refusal
refused_of_all laws Tells range m refusal answer =
    let sphere_module = derived_module sphere_file in
    let sphere_is = laws.accepted sphere_file one_alone refl in
    let sphere = table_exists laws range sphere_module sphere_is one_alone in
    let q = canonical_by laws range sphere_module sphere_is one_alone sphere.0 sphere.1 in
    record {
      table = [];
      within = record { rows = omega arith; squares = λ s. omega arith };
      sphere = sphere.0;
      sphere_resolved = sphere.1;
      is_told = answer (resolution m []) (resolution sphere_module sphere.0) q (sphere-is sphere.0);
    }
