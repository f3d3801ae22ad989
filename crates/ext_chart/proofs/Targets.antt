-- What d_s goes to above row 0.
use Rattle.std.proofs.Common.{◌≡◌, ℕ, suc, List, length, refl, ap, sym, subst, ◌∙◌}
use Rattle.module_spec.specs.Spec.{Generator}
use Rattle.finite_module.specs.Module.{bottom}
use Rattle.free_module.specs.FreeModule.{free_width}
use Rattle.resolution_laws.specs.Resolution.{Content, row_of, degrees_from}
use Rattle.resolution_laws.proofs.Rows.{IsWithinReach-row}
use Rattle.ext_chart.specs.declared.place.Place.{Place}
use Rattle.ext_chart.specs.declared.row_gens.RowGens.{RowGens}
use Rattle.ext_chart.specs.declared.named_target.NamedTarget.TheVariants.{Row}
use Rattle.ext_chart.specs.Dump.{places_from, free_sum_text}
use Rattle.ext_chart.specs.Inside.Targets.{IsTargetOf}
use Rattle.ext_chart.proofs.RowSteps.{length-places_from}

pub row_target : (gs : List Generator) (rows : List (List Content)) (i s : ℕ) (row : RowGens) → suc i ≡ s → row.gens ≡ degrees_from (bottom gs) (row_of rows i) → row.places.items ≡ places_from i (bottom gs) (row_of rows i) → IsTargetOf gs rows s (Row row)
row_target gs rows i s row above gens places =
    let b = bottom gs in
    let squares = row_of rows i in
    subst (λ (n : ℕ). IsTargetOf gs rows n (Row row)) above (record {
      text = ap (λ (p : List Place). free_sum_text p row.gens) places ∙ ap (free_sum_text (places_from i b squares)) gens;
      width = ap free_width gens;
      named = λ max k h. (ap length places ∙ (length-places_from i b squares ∙ sym (ap length gens)), IsWithinReach-row b squares k max row.gens _ refl gens h);
    })
