-- A source that no call was made on.
use Rattle.std.proofs.Common.{◌≡◌, ℕ, List, refl, arith}
use Rattle.std.specs.Prelude.{Option, Some, None}
use Rattle.edge.specs.Source.{without_first, HasGivenUpTo}

left-same : (left : Option (List ℕ)) → left ≡ without_first left 0
left-same None = refl
left-same (Some l) = refl

pub given-none : (most : ℕ) (left : Option (List ℕ)) → HasGivenUpTo most left left
given-none most left = record { given = 0; within = omega arith; rest = left-same left }
