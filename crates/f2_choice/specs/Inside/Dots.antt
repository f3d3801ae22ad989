-- The product of two vectors.
use Rattle.std.specs.Prelude.{Bool, false, ◌&&◌, List, [], ◌∷◌}
use Rattle.f2_vec.specs.Vectors.{plus}

-- the sum of the products place by place
abbrev pub dot : List Bool → List Bool → Bool
dot [] ys = false
dot (x ∷ xs) [] = false
dot (x ∷ xs) (y ∷ ys) = plus (x && y) (dot xs ys)
