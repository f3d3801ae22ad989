-- The module of one generator in degree 0 is what the sphere's resolution resolves.
use Rattle.std.proofs.Common.{◌≡◌, ℤ, pos, List, length, refl, ap, sym, subst, ◌∙◌, arith}
use Rattle.std.specs.Prelude.{Result, Ok, Err, IfOk}
use Rattle.bidegree.specs.declared.range.Range.{Range}
use Rattle.finite_module.specs.Module.{Module as SteenrodModule, width}
use Rattle.finite_module.specs.ModuleLaws.{numbers_from-none}
use Rattle.finite_module.specs.DerivedAction.{derived_module}
use Rattle.finite_module.specs.Checked.{Checked, sphere_file}
use Rattle.module_spec.specs.Spec.{degree_at}
use Rattle.resolution_laws.specs.Resolution.{Content, IsCanonicalTable}
use Rattle.square.specs.Squares.{over}
use Rattle.square.specs.Tables.{Staircase, plain_rows, cut}
use Rattle.lift_laws.specs.Lifts.{IsSphere}
use Rattle.chain_map.specs.Lifting.{resolution_of, IsCanonicalIn}
use Rattle.chain_map.proofs.Resolved.{canonical_in}
use Rattle.ext_products.specs.Products.{resolution}

no_other : (t : ℤ) → (t ≡ pos 0 → ⊥) → width sphere_file.generators t ≡ 0
no_other t other = ap length (numbers_from-none 0 sphere_file.generators t (λ k h e.
    let first : k ≡ 0 = omega arith in
    other (sym e ∙ ap (degree_at sphere_file.generators) first)))

pub sphere-is : (table : List (List Content)) → IsSphere (resolution (derived_module sphere_file) table)
sphere-is table = record { bottom = refl; one = refl; none = no_other }

pub table-is : (m : SteenrodModule) (table : List (List Content)) → m ≡ derived_module sphere_file → IsSphere (resolution m table)
table-is m table e = subst (λ (n : SteenrodModule). IsSphere (resolution n table)) (sym e) (sphere-is table)

-- its squares in the range are canonical
pub canonical-ok : {E : Type 0} (r : Result Staircase E) (m : Checked) (range : Range) → IfOk r (λ table. table.resolved ≡ m) → IfOk r (λ table. IsCanonicalTable (over m) range.s range.t (cut range (plain_rows table.rows))) → IfOk r (IsCanonicalIn range)
canonical-ok (Ok table) m range same canonical = canonical_in table range (subst (λ (n : Checked). IsCanonicalTable (over n) range.s range.t (cut range (plain_rows table.rows))) (sym same) canonical)
canonical-ok (Err e) m range same canonical = tt

-- a table of the sphere's module resolves the sphere
pub sphere-ok : {E : Type 0} (r : Result Staircase E) → IfOk r (λ table. table.resolved.plain ≡ derived_module sphere_file) → IfOk r (λ table. IsSphere (resolution_of table))
sphere-ok (Ok table) e = table-is table.resolved.plain (plain_rows table.rows) e
sphere-ok (Err e) h = tt
