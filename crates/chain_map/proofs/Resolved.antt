-- The part of a table through a range, whose squares are canonical.
use Rattle.std.proofs.Common.{◌≡◌, ℕ, ◌+◌, ◌<◌, ◌≤◌, List, [], length, take, ap, sym, subst, ◌∙◌, arith}
use Rattle.std.proofs.lemmas.List.{length-map, length-take-le}
use Rattle.bidegree.specs.declared.range.Range.{Range}
use Rattle.f2_matrix.proofs.Unique.{kernel_basis_unique}
use Rattle.finite_module.specs.Graded.{ModulesAreSteenrodModules}
use Rattle.finite_module.specs.ModuleLaws.{width-below}
use Rattle.resolution_laws.specs.Resolution.{Content, row_of, IsCanonicalTable}
use Rattle.resolution_laws.specs.Start.{IsOf}
use Rattle.resolution_laws.proofs.StartLaws.{canonical_from_contents}
use Rattle.resolution_laws.proofs.StartTables.{table_contents}
use Rattle.square.specs.Squares.{over}
use Rattle.square.specs.Tables.{Staircase, contents, row_in, plain_rows, IsTable, cut}
use Rattle.square.proofs.Places.{length-row_of}
use Rattle.square.proofs.Found.{row_within}
use Rattle.square.proofs.Pushing.{never_rises}
use Rattle.lift_laws.specs.Lifts.{IsCanonical}
use Rattle.chain_map.specs.Lifting.{IsCanonicalIn}
use Rattle.chain_map.specs.Classes.{through}
use Rattle.chain_map.proofs.Classes.{rows_through, square_inside}

-- the squares of a table whose part is canonical
pub canonical_in : (table : Staircase) (range : Range) → IsCanonicalTable (over table.resolved) range.s range.t (cut range (plain_rows table.rows)) → IsCanonicalIn range table
canonical_in table range canonical i k l b =
    subst (IsOf (over table.resolved) [] i k) (square_inside table range i k l (omega arith)) (table_contents (over table.resolved) range.s range.t (cut range (plain_rows table.rows)) canonical i l k (omega arith))

module _ (table : Staircase) (h : IsTable table) (range : Range) (long : range.t < length (row_in table.rows range.s)) where
  abbrev part : List (List Content)
  part = cut range (plain_rows table.rows)

  length-part : length part ≡ range.s + 1
  length-part =
      length-map (take (range.s + 1) (plain_rows table.rows)) (take (range.t + 1)) ∙ length-take-le (range.s + 1) (plain_rows table.rows) (omega (arith, length-map table.rows contents, row_within table.rows range.s range.t long))

  pub long-row : (i : ℕ) → i ≤ range.s → range.t < length (row_of (plain_rows table.rows) i)
  long-row i l =
      omega (arith, length-row_of table.rows i, never_rises table h i range.s l)

  pub canonical-part : IsCanonicalIn range table → IsCanonicalTable (over table.resolved) range.s range.t part
  canonical-part are =
      canonical_from_contents kernel_basis_unique (over table.resolved) range.s range.t part length-part
      (λ i l. let b = long-row i l in ap length (rows_through table range i l) ∙ length-take-le (range.t + 1) (row_of (plain_rows table.rows) i) (omega arith))
      (λ i k l b. subst (IsOf (over table.resolved) [] i k) (sym (square_inside table range i k l b)) (are i k l (omega arith)))

  pub is_canonical : ModulesAreSteenrodModules → IsCanonicalIn range table → IsCanonical (through range table) range.s range.t
  is_canonical modules are = record {
    steenrod = modules table.resolved.plain table.resolved.is_module;
    bounded = width-below table.resolved.plain.generators table.resolved.by_degree;
    canonical = canonical-part are;
  }
