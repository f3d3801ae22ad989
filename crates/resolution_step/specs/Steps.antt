-- The step on what a square is made from.
use Rattle.std.specs.Prelude.{◌≡◌, ℤ, Bool, List, ◌++◌, length, replicate, MatchOption}
use Rattle.f2_matrix.specs.Reduction.{Reduction, IsReductionOf}
use Rattle.free_module.specs.Graded.{GradedModule}
use Rattle.free_module.specs.LinearMap.{map_rows}
use Rattle.resolution_laws.specs.Resolution.{Content, IsStep, IsStepOver}
use Rattle.square.specs.Squares.{Placed, IsQuasi, over}
use Rattle.square.specs.Tables.{Footing}

-- the step to a target, and the reduction of the matrix in degree t with the new generators
pub record IsReducedStep (target : GradedModule) (degrees : List ℤ) (images candidates : List (List Bool)) (t : ℤ)
    (content : Content) (reduction : Reduction) : Type 0 where
  pub step : IsStepOver target degrees images candidates t content
  pub quasi : IsReductionOf (target.width t)
      (map_rows target (degrees ++ replicate (length content.images) t) (images ++ content.images) t) reduction

-- the step over what a square is made from, and the reduction
pub record IsStepWith (f : Footing) (content : Content) (reduction : Reduction) : Type 0 where
  pub step : IsStep (over f.resolved) f.below f.squares content
  pub quasi : IsQuasi (over f.resolved) f.below f.squares content reduction

-- the square is the step on what it is made from, and has kept its reduction
pub record IsStepOf (f : Footing) (q : Placed) : Type 0 where
  pub resolved : q.resolved ≡ f.resolved
  pub start : q.start ≡ f.start
  pub s : q.s ≡ f.s
  pub above : q.above ≡ f.above
  pub step : MatchOption q.quasi ⊥ (IsStepWith f q.content)
