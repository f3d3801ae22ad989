-- The least ranges of some products and brackets.
use Rattle.std.proofs.Common.{◌≡◌, ℕ, ℤ, pos, refl}
use Rattle.std.specs.Prelude.{neg_ℤ}
use Rattle.bidegree.specs.declared.class.Class.{Class}
use Rattle.least_range.specs.Least.{product_range, bracket_range}

abbrev first_at : ℕ → ℤ → Class
first_at s t = record { s = s; t = t; i = 0 }

-- h0 h0 on the sphere
h0h0 : product_range (pos 0) (first_at 1 (pos 1)) (first_at 1 (pos 1)) ≡ record { s = 2; t = 2 }
h0h0 = refl

-- h1 on the bottom cell of a module that begins in degree -9
h1_below : product_range (neg_ℤ (pos 9)) (first_at 1 (pos 2)) (first_at 0 (neg_ℤ (pos 9))) ≡ record { s = 1; t = 2 }
h1_below = refl

-- h7 h7 lies in degree 256, past the last one
h7h7 : product_range (pos 0) (first_at 1 (pos 128)) (first_at 1 (pos 128)) ≡ record { s = 2; t = 255 }
h7h7 = refl

-- c0 = <h1, h0, h2 h2>
c0 : bracket_range (pos 0) (first_at 1 (pos 2)) (first_at 1 (pos 1)) (first_at 2 (pos 8)) ≡ record { s = 3; t = 11 }
c0 = refl

-- a bracket of units asks for row 0, where their product is
units : bracket_range (pos 0) (first_at 0 (pos 0)) (first_at 0 (pos 0)) (first_at 0 (pos 0)) ≡ record { s = 0; t = 0 }
units = refl
