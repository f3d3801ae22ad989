-- The differentials of a resolution as text: a line for each generator, row by row, in a row by degree, and in a degree by
-- number. `d(2,4,0) = Sq(3)*(1,1,0) + Sq(2)*(1,2,0)`
use Rattle.std.specs.Prelude.{ℕ, zero, suc, ◌+◌, ℤ, pos, ◌+ℤ◌, Bool, List, [], ◌∷◌, ◌++◌, length, map, codes, slice_index_or}
use Rattle.std.specs.List.{flat_map, range_with_len, items_where_true}
use Rattle.f2_vec.specs.Spans.{row}
use Rattle.milnor_basis.specs.Text.{sq_text}
use Rattle.free_module.specs.FreeModule.{free_basis, free_width}
use Rattle.module_spec.specs.Spec.{Generator}
use Rattle.finite_module.specs.Module.{bottom, width}
use Rattle.finite_module.specs.Text.{newline, joined_by_plus, sum_text}
use Rattle.resolution_laws.specs.Resolution.{Content, square_in, row_of, degrees_from}
use Rattle.ext_chart.specs.Classes.{class_text}
use Rattle.ext_chart.specs.declared.place.Place.{Place}

-- `(s,t,i)`: generator i, from 0, of row s in internal degree t
abbrev pub place_text : Place → List ℕ
place_text p = class_text (pos p.s) p.t p.i

abbrev pub no_place : Place
no_place = record { s = 0; t = pos 0; i = 0 }

-- the places of n generators of one square of row s
abbrev pub square_places : ℕ → ℤ → ℕ → List Place
square_places s t n = map (λ i. record { s = s; t = t; i = i }) (range_with_len 0 n)

-- the places of the generators of the squares of row s, the first of which is of degree t
abbrev pub places_from : ℕ → ℤ → List Content → List Place
places_from s t [] = []
places_from s t (c ∷ squares) = square_places s t (length c.images) ++ places_from s (t +ℤ pos 1) squares

-- Sq(R) on generator g, for the pair (g, R), where the generators have these places: `Sq(2)*(0,0,0)`
abbrev pub term_text : List Place → ℕ × List ℕ → List ℕ
term_text places e = sq_text e.1 ++ (codes "*" ++ place_text (slice_index_or places e.0 no_place))

-- a vector of degree t of the free module on generators of these places and degrees: its terms in the order of the basis
abbrev pub free_sum_text : List Place → List ℤ → ℤ → List Bool → List ℕ
free_sum_text places degrees t v = joined_by_plus (map (term_text places) (items_where_true v (free_basis degrees t)))

-- `d(1,2,0) = ` and the text of the image
abbrev pub generator_line : Place → List ℕ → List ℕ
generator_line p image = codes "d" ++ (place_text p ++ (codes " = " ++ (image ++ newline)))

-- the lines of the generators of a square of row s and of degree t, given how the text of an image is made
abbrev pub square_lines : (List Bool → List ℕ) → ℕ → ℤ → List (List Bool) → List ℕ
square_lines image_text s t images = flat_map
    (λ i. generator_line (record { s = s; t = t; i = i }) (image_text (row images i)))
    (range_with_len 0 (length images))

-- What d_s takes generators of degree t to: in row 0 vectors of the module, whose generators have names, and above vectors of
-- the free module on the generators of the row below.
abbrev pub image_text : List Generator → List (List Content) → ℕ → ℤ → List Bool → List ℕ
image_text gs table zero t v = sum_text gs t v
image_text gs table (suc s) t v =
    free_sum_text (places_from s (bottom gs) (row_of table s)) (degrees_from (bottom gs) (row_of table s)) t v

-- the dimension of what d_s goes to, in degree t
abbrev pub image_width : List Generator → List (List Content) → ℕ → ℤ → ℕ
image_width gs table zero t = width gs t
image_width gs table (suc s) t = free_width (degrees_from (bottom gs) (row_of table s)) t

-- the lines of square (s, k), and those of row s through degree bottom + t
abbrev pub square_text : List Generator → List (List Content) → ℕ → ℕ → List ℕ
square_text gs table s k = square_lines (image_text gs table s (bottom gs +ℤ pos k)) s (bottom gs +ℤ pos k)
    (square_in (row_of table s) k).images

abbrev pub row_text : List Generator → List (List Content) → ℕ → ℕ → List ℕ
row_text gs table t s = flat_map (square_text gs table s) (range_with_len 0 (t + 1))

-- the differentials of rows 0 to s, where last i is the last degree of row i above the bottom
abbrev pub dump_text : List Generator → ℕ → (ℕ → ℕ) → List (List Content) → List ℕ
dump_text gs s last table = flat_map (λ i. row_text gs table (last i) i) (range_with_len 0 (s + 1))
