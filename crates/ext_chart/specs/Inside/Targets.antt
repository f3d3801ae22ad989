-- The target of d_s, as its vectors are written.
use Rattle.std.specs.Prelude.{◌≡◌, ℕ, ◌≤◌, ℤ, pos, ◌+ℤ◌, Bool, List, length}
use Rattle.free_module.specs.FreeModule.{IsWithinReach, free_width}
use Rattle.module_spec.specs.Spec.{Generator}
use Rattle.finite_module.specs.Module.{bottom, width}
use Rattle.finite_module.specs.Text.{sum_text}
use Rattle.resolution_laws.specs.Resolution.{Content}
use Rattle.ext_chart.specs.declared.named_target.NamedTarget.{NamedTarget}
use Rattle.ext_chart.specs.declared.named_target.NamedTarget.TheVariants.{Module, Row}
use Rattle.ext_chart.specs.Dump.{free_sum_text, image_text, image_width}

-- a vector of degree t as a sum
abbrev pub text_over : NamedTarget → ℤ → List Bool → List ℕ
text_over (Module m) t v = sum_text m.now.plain.generators t v
text_over (Row row) t v = free_sum_text row.places.items row.gens t v

-- the dimension in degree t
abbrev pub width_over : NamedTarget → ℤ → ℕ
width_over (Module m) t = width m.now.plain.generators t
width_over (Row row) t = free_width row.gens t

-- each generator has a place, and the bases of the algebra through max reach the elements of degree t
abbrev pub IsNamed : NamedTarget → ℕ → ℤ → Type 0
IsNamed (Module m) max t = Unit {0}
IsNamed (Row row) max t = (length row.places.items ≡ length row.gens) × IsWithinReach max row.gens t

-- the target is that of d_s over the squares of these rows
pub record IsTargetOf (gs : List Generator) (rows : List (List Content)) (s : ℕ) (target : NamedTarget) : Type 0 where
  pub text : text_over target ≡ image_text gs rows s
  pub width : width_over target ≡ image_width gs rows s
  pub named : (max k : ℕ) → k ≤ max → IsNamed target max (bottom gs +ℤ pos k)
