use Rattle.std.proofs.Common.{sym, subst, arith}
use Rattle.finite_module.specs.ModuleLaws.{module_KeepsWidths}
use Rattle.f2_matrix.proofs.Eliminate.{has_kernel_basis}
use Rattle.square.specs.Squares.{over}
use Rattle.resolution_images.proofs.Resolved.{resolvable}
use Rattle.chart_rows.specs.Standing.{MayStand}
use Rattle.chart_rows.proofs.Canonical.{AreLaws, may_stand}
use Rattle.chart_rows.proofs.Stems.{IsKnown}
use Rattle.chart_rows.proofs.laws.resolution_may_stand.Goals as goal

pub returns : goal.returns
returns c = λ m rows s k q charted same is low next.
    let found = c.canonical_table_exists.ensures (over m) s k (module_KeepsWidths m.plain m.is_module) in
    let r = resolvable c.modules_are_graded_modules.ensures m in
    let known : IsKnown (over m) s k found.0 = record {
      free = c.linear_maps.ensures.free;
      commute = c.linear_maps.ensures.commute;
      not_met = c.new_generators_are_not_met.ensures;
      resolution = record { steenrod = r.steenrod; bounded = r.bounded; canonical = found.1 };
    } in
    let laws : AreLaws = record {
      minimal = c.canonical_table_is_minimal_resolution.ensures;
      whole = c.rows_in_stems_are_whole.ensures;
      those = c.squares_in_stems_are_those_of_table.ensures;
      fit = c.images_in_stems_fit.ensures;
      steps = c.squares_in_stems_are_steps.ensures;
      basis = has_kernel_basis;
    } in
    subst (MayStand (over m) rows s k) (sym (is s k found.0 found.1 (omega arith) (omega arith)))
    (may_stand laws (over m) s k found.0 known rows charted same low next)
