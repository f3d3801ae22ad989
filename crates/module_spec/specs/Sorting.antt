-- Lists in the order of a degree.
use Rattle.std.specs.Prelude.{ℤ, int_le, if◌then◌else◌, List, [], ◌∷◌}

-- x before the first that is not of a lower degree
abbrev pub inserted : {X : Type 0} → (X → ℤ) → X → List X → List X
inserted degree x [] = x ∷ []
inserted degree x (y ∷ ys) = if int_le (degree x) (degree y) then x ∷ y ∷ ys else y ∷ inserted degree x ys

-- the list in the order of degree; those of one degree keep their order
abbrev pub sorted_by : {X : Type 0} → (X → ℤ) → List X → List X
sorted_by degree [] = []
sorted_by degree (x ∷ xs) = inserted degree x (sorted_by degree xs)
