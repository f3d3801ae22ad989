-- The sphere through row 2 and degree 2: the lift of h0 and its product with h0.
use Rattle.std.proofs.Common.{◌≡◌, ℕ, zero, suc, ℤ, pos, negsuc, ◌-ℤ◌, Bool, true, false, List, [], ◌∷◌, refl}
use Rattle.resolution_laws.specs.Resolution.{Module, Content}
use Rattle.lift_laws.specs.Lifts.{Resolution, gens, degree, image, d, lowered, dual_of}
use Rattle.lift_laws.specs.Products.{Class, number_of, product_by}

abbrev f2_width : ℤ → ℕ
f2_width (pos zero) = 1
f2_width (pos (suc n)) = 0
f2_width (negsuc n) = 0

abbrev f2_action : List ℕ → ℤ → List Bool → List Bool
f2_action [] t v = v
f2_action (x ∷ r) t v = []

abbrev f2 : Module
f2 = record { bottom = pos 0; graded = record { width = f2_width; action = f2_action } }

abbrev none : Content
none = record { images = []; kernel = [] }

abbrev of : List (List Bool) → Content
of images = record { images = images; kernel = [] }

-- d(0,0,0) = x0; d(1,1,0) = Sq(1)*(0,0,0); d(1,2,0) = Sq(2)*(0,0,0); d(2,2,0) = Sq(1)*(1,1,0)
abbrev sphere : Resolution
sphere = record { base = f2; table = (of ((true ∷ []) ∷ []) ∷ none ∷ none ∷ []) ∷ (none ∷ of ((true ∷ []) ∷ []) ∷ of ((true ∷ []) ∷ []) ∷ []) ∷ (none ∷ none ∷ of ((true ∷ false ∷ []) ∷ []) ∷ []) ∷ [] }

abbrev h0 : Class
h0 = record { s = 1; above = 1; i = 0 }

abbrev h1 : Class
h1 = record { s = 1; above = 2; i = 0 }

-- phi 0 takes (1,1,0) to Sq() and (1,2,0) to 0; phi 1 takes (2,2,0) to (1,1,0)
abbrev phi : ℕ → ℕ → List Bool
phi zero zero = true ∷ []
phi zero (suc g) = false ∷ []
phi (suc k) g = true ∷ []

degrees : gens sphere 1 ≡ pos 1 ∷ pos 2 ∷ []
degrees = refl

starts : d sphere 0 (degree sphere 1 0 -ℤ pos 1) (phi 0 0) ≡ dual_of sphere sphere 1 (pos 1) (number_of sphere h0) 0
starts = refl

starts_other : d sphere 0 (degree sphere 1 1 -ℤ pos 1) (phi 0 1) ≡ dual_of sphere sphere 1 (pos 1) (number_of sphere h0) 1
starts_other = refl

commutes : d sphere 1 (degree sphere 2 0 -ℤ pos 1) (phi 1 0) ≡ lowered sphere 1 sphere 0 (pos 1) (phi 0) (degree sphere 2 0) (image sphere 2 0)
commutes = refl

number : number_of sphere h1 ≡ 1
number = refl

product : product_by sphere sphere h0 phi 2 2 ≡ true ∷ []
product = refl
