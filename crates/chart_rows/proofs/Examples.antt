-- The sphere's columns through row 2 and degree 2, whose bytes stand in docs/FORMATS.md: the unit, h0, h1 and h0 h0.
use Rattle.std.proofs.Common.{◌≡◌, zero, suc, ℕ, ℤ, pos, negsuc, Bool, true, false, List, [], ◌∷◌, refl}
use Rattle.resolution_laws.specs.Resolution.{Module}
use Rattle.resolution_images.specs.BareRows.{BareRow, bare_row_in, squares_of}
use Rattle.chart_file.specs.Parts.{Bare, Part}
use Rattle.chart_rows.specs.Standing.{target_below, whole_images}
use Rattle.chart_rows.specs.Placing.{rows_of_parts}
use Rattle.chart_rows.specs.Within.{reach_in}

-- no operation is looked at here
abbrev at_identity : List ℕ → ℤ → List Bool → List Bool
at_identity r t v = v

abbrev one_cell : ℤ → ℕ
one_cell (pos zero) = 1
one_cell (pos (suc n)) = 0
one_cell (negsuc n) = 0

abbrev point : Module
point = record { bottom = pos 0; graded = record { width = one_cell; action = at_identity } }

abbrev nothing : Bare
nothing = record { width = 0; images = [] }

abbrev one_class : Bare
one_class = record { width = 1; images = (true ∷ []) ∷ [] }

abbrev column : ℕ → List Bare → Part
column k squares = record { above = k; first = 0; squares = squares }

abbrev rows : List BareRow
rows = rows_of_parts point
    (column 0 (one_class ∷ nothing ∷ nothing ∷ []) ∷ column 1 (nothing ∷ one_class ∷ nothing ∷ []) ∷ column 2 (nothing ∷ one_class ∷ one_class ∷ []) ∷ [])

unit_row : bare_row_in rows 0 ≡ record { degrees = pos 0 ∷ []; images = (true ∷ []) ∷ []; counts = 1 ∷ 0 ∷ 0 ∷ [] }
unit_row = refl

row_of_h : bare_row_in rows 1 ≡ record { degrees = pos 1 ∷ pos 2 ∷ []; images = (true ∷ []) ∷ (true ∷ []) ∷ []; counts = 0 ∷ 1 ∷ 1 ∷ [] }
row_of_h = refl

row_of_h0_squared : bare_row_in rows 2 ≡ record { degrees = pos 2 ∷ []; images = (true ∷ []) ∷ []; counts = 0 ∷ 0 ∷ 1 ∷ [] }
row_of_h0_squared = refl

-- h0 h0 goes to Sq1 h0, the only element on generators of row 1 below degree 2
width_of_h0_squared : (target_below point (squares_of rows) 2 2).width (pos 2) ≡ 1
width_of_h0_squared = refl

-- and has a zero at h1 where row 1 has all of its three squares
zero_at_h1 : whole_images (squares_of rows) 2 3 2 ≡ (true ∷ false ∷ []) ∷ []
zero_at_h1 = refl

-- in stem 0 row 1 has two squares, and row 2 has its third one without that zero
reach_of_rows : reach_in rows 0 2 1 ≡ 2
reach_of_rows = refl

reach_of_h0_squared : reach_in rows 0 2 2 ≡ 3
reach_of_h0_squared = refl
