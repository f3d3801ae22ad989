-- What has to be covered is of the dimension that the quasi-inverse takes.
use Rattle.std.proofs.Common.{◌≡◌, ℕ, suc, ◌-◌, ◌<◌, ◌≤◌, Bool, true, false, ℤ, pos, ◌+ℤ◌, ◌-ℤ◌, ◌<ℤ◌, ◌≤ℤ◌, List, length, take, Option, IfSome, ap, sym, subst, ◌∙◌, arith}
use Rattle.std.specs.Prelude.{IsSome}
use Rattle.std.proofs.lemmas.Int.{ints}
use Rattle.f2_vec.proofs.Sums.{length-zeros}
use Rattle.f2_vec.proofs.Split.{length-unit_vector}
use Rattle.f2_vec.proofs.Spans.{length-combination}
use Rattle.f2_matrix.specs.Reduction.{Reduction}
use Rattle.free_module.specs.FreeModule.{IsWithinReach, free_width}
use Rattle.free_module.specs.Graded.{free_graded}
use Rattle.free_module.specs.LinearMap.{AreImages, map_rows, mapped}
use Rattle.free_module.proofs.MapRows.{HaveWidth-map_rows}
use Rattle.milnor_laws.proofs.FreeModules.{free_modules_are_modules}
use Rattle.resolution_laws.specs.Resolution.{row_of}
use Rattle.square.specs.Squares.{over, bottom_of}
use Rattle.square.specs.Tables.{Staircase, plain_rows, square_at}
use Rattle.lift_laws.specs.Lifts.{gens, IsSphere}
use Rattle.chain_map.specs.Lifting.{IsInverseAt, lowered_row, resolution_of, target_of}
use Rattle.chain_map.specs.Inside.{Reaches, class_value}
use Rattle.chain_map.proofs.Generators.{within-reach}
use Rattle.square.proofs.ByDegree.{square_is_there}
use Rattle.chain_map.proofs.Widths.{HasPlace, width-take, first_goal_fits, next_goal_fits}

module _ (table sphere : Staircase) (s above k n far m : ℕ) (is_sphere : IsSphere (resolution_of sphere)) (reaches : Reaches table sphere s above k n far) (within : m < n) where
  -- the square of the sphere in that degree, if it is not below the bottom
  pub place_there : HasPlace sphere k (pos m -ℤ pos above)
  place_there j e =
      let at : j < far = omega (arith, ints) in
      omega arith

  pub sphere_square : (u : ℤ) → u ≡ pos m -ℤ pos above → bottom_of sphere.resolved ≤ℤ u → IsSome (square_at sphere k u)
  sphere_square u e low =
      let h : above ≤ m = omega (arith, ints) in
      let at : pos m -ℤ pos above ≡ bottom_of sphere.resolved +ℤ pos (m - above) = omega (arith, ints) in
      square_is_there sphere k (m - above) u (e ∙ at) (place_there (m - above) at)

  pub reach_low : (max : ℕ) (t : ℤ) → m ≤ max → t ≡ pos m -ℤ pos above → (i : ℕ) (gens : List ℤ) → gens ≡ lowered_row table i n above → IsWithinReach max gens t
  reach_low max t e at i gens same =
      let P : List ℤ → Type 0 = λ z. IsWithinReach max z t in
      subst P (sym same) (within-reach (pos 0 -ℤ pos above) (take n (row_of (plain_rows table.rows) i)) max t (omega (arith, ints)))

  pub reach_target : (max : ℕ) (t : ℤ) → m ≤ max → t ≡ pos m -ℤ pos above → (i : ℕ) (gens : List ℤ) → gens ≡ target_of sphere i far → IsWithinReach max gens t
  reach_target max t e at i gens same =
      let P : List ℤ → Type 0 = λ z. IsWithinReach max z t in
      subst P (sym same) (within-reach (bottom_of sphere.resolved) (take far (row_of (plain_rows sphere.rows) i)) max t (omega (arith, ints, is_sphere.bottom)))

length-class_value : (width : ℕ) (own : Bool) → length (class_value width own) ≡ width
length-class_value width true = length-unit_vector width 0
length-class_value width false = length-zeros width

pub class_goal_fits : (table sphere : Staircase) (s above n far m : ℕ) → IsSphere (resolution_of sphere) → Reaches table sphere s above 0 n far → m < n → (inverse : Option Reduction) (goal : List Bool) (width : ℕ) (own : Bool) → width ≡ (over sphere.resolved).graded.width (pos m -ℤ pos above) → goal ≡ class_value width own → IsInverseAt sphere 0 (pos m -ℤ pos above) inverse → IfSome inverse (λ r. length goal ≡ r.cols)
class_goal_fits table sphere s above n far m is_sphere reaches within inverse goal width own e same is =
    first_goal_fits sphere (pos m -ℤ pos above) inverse goal (place_there table sphere s above 0 n far m is_sphere reaches within) is (ap length same ∙ (length-class_value width own ∙ e))

-- a map to F_k, through its first generators, gives vectors of F_k
pub mapped_width : (sphere : Staircase) (k far : ℕ) (t u : ℤ) (source target : List ℤ) (images : List (List Bool)) (v : List Bool) → t ≡ u → u <ℤ (bottom_of sphere.resolved +ℤ pos far) → target ≡ target_of sphere k far → AreImages (free_graded target) source images → length (mapped (free_graded target) source images t v) ≡ free_width (gens (resolution_of sphere) k) u
mapped_width sphere k far t u source target images v at low target_is are =
    length-combination (free_width target t) v (map_rows (free_graded target) source images t) (HaveWidth-map_rows (free_graded target) source images t (free_modules_are_modules target).widths are)
    ∙ (ap (λ (z : List ℤ). free_width z t) target_is ∙ (ap (free_width (target_of sphere k far)) at ∙ width-take (bottom_of sphere.resolved) (row_of (plain_rows sphere.rows) k) far u low))

-- so a quasi-inverse takes them
pub image_goal_fits : (table sphere : Staircase) (s above k n far m : ℕ) → IsSphere (resolution_of sphere) → Reaches table sphere s above (suc k) n far → m < n → (inverse : Option Reduction) (source target : List ℤ) (images : List (List Bool)) (goal v : List Bool) (t : ℤ) → t ≡ pos m -ℤ pos above → target ≡ target_of sphere k far → AreImages (free_graded target) source images → goal ≡ mapped (free_graded target) source images t v → IsInverseAt sphere (suc k) (pos m -ℤ pos above) inverse → IfSome inverse (λ r. length goal ≡ r.cols)
image_goal_fits table sphere s above k n far m is_sphere reaches within inverse source target images goal v t at target_is are same is =
    next_goal_fits sphere k (pos m -ℤ pos above) inverse goal (place_there table sphere s above (suc k) n far m is_sphere reaches within) is (ap length same ∙ mapped_width sphere k far t (pos m -ℤ pos above) source target images v at (omega (arith, ints, reaches.enough, is_sphere.bottom)) target_is are)
