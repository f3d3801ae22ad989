-- Maps of modules over the Steenrod algebra that lower degrees, from free modules by their values on the generators.
use Rattle.std.specs.Prelude.{◌≡◌, ℕ, ◌<◌, ℤ, pos, ◌+ℤ◌, ◌-ℤ◌, ◌≤ℤ◌, Bool, List, length, map}
use Rattle.f2_vec.specs.Spans.{HaveWidth, combination}
use Rattle.milnor_basis.specs.Exponents.{degree_of, IsTrimmed}
use Rattle.free_module.specs.FreeModule.{degree_at, free_basis}
use Rattle.free_module.specs.Graded.{GradedModule}

-- the module with each degree raised by x: a map to m that lowers degrees by x is one to this that keeps them
abbrev pub shifted : ℤ → GradedModule → GradedModule
shifted x m = record { width = λ t. m.width (t -ℤ x); action = λ r t v. m.action r (t -ℤ x) v }

-- the degrees, each lower by x
abbrev pub lowered_by : ℤ → List ℤ → List ℤ
lowered_by x degrees = map (λ d. d -ℤ x) degrees

-- in degrees through top, op is a linear map from m to n that commutes with each Sq(R); op t is its part of degree t
pub record IsMap (top : ℤ) (m n : GradedModule) (op : ℤ → List Bool → List Bool) : Type 0 where
  pub fits : (t : ℤ) (v : List Bool) → t ≤ℤ top → length v ≡ m.width t → length (op t v) ≡ n.width t
  pub linear : (t : ℤ) (c : List Bool) (rows : List (List Bool)) → t ≤ℤ top → HaveWidth (m.width t) rows →
      op t (combination (m.width t) c rows) ≡ combination (n.width t) c (map (op t) rows)
  pub commutes : (r : List ℕ) (t : ℤ) (v : List Bool) → IsTrimmed r → (t +ℤ pos (degree_of r)) ≤ℤ top →
      length v ≡ m.width t → op (t +ℤ pos (degree_of r)) (m.action r t v) ≡ n.action r t (op t v)

-- the map that takes generator g to f g: on a basis element, and on a vector of degree t
abbrev pub value_of : GradedModule → List ℤ → (ℕ → List Bool) → ℕ × List ℕ → List Bool
value_of target degrees f e = target.action e.1 (degree_at degrees e.0) (f e.0)

abbrev pub extended : GradedModule → List ℤ → (ℕ → List Bool) → ℤ → List Bool → List Bool
extended target degrees f t v = combination (target.width t) v (map (value_of target degrees f) (free_basis degrees t))

-- the value on each generator of degree at most top is a vector of the target in the generator's degree
abbrev pub FitThrough : GradedModule → List ℤ → ℤ → (ℕ → List Bool) → Type 0
FitThrough target degrees top f = (g : ℕ) → g < length degrees → degree_at degrees g ≤ℤ top →
    length (f g) ≡ target.width (degree_at degrees g)
