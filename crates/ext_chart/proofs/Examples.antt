-- The texts of tables written by hand.
use Rattle.std.proofs.Common.{◌≡◌, pos, negsuc, Bool, true, false, List, [], ◌∷◌, codes, refl}
use Rattle.std.specs.Fmt.{digits}
use Rattle.bidegree.specs.declared.range.Range.{Range}
use Rattle.bidegree.specs.declared.shape.Shape.TheVariants.{Stems}
use Rattle.bidegree.specs.LastDegrees.{last_degree}
use Rattle.module_spec.specs.Spec.{Generator}
use Rattle.resolution_laws.specs.Resolution.{Content, generator_count}
use Rattle.chart_lines.specs.Chart.{chart_text}
use Rattle.ext_chart.specs.Dump.{dump_text}
use Rattle.ext_chart.specs.Summary.{summary_text}

abbrev with_images : List (List Bool) → Content
with_images images = record { images = images; kernel = [] }

abbrev none : Content
none = with_images []

-- a square of one generator
abbrev one : List Bool → Content
one image = with_images (image ∷ [])

-- the sphere through row 2 and degree 4: F_0 has one generator, F_1 those of Sq(1), Sq(2) and Sq(4), F_2 those of degrees 2 and 4
abbrev sphere : List Generator
sphere = record { name = codes "x0"; degree = pos 0 } ∷ []

abbrev sphere_rows : List (List Content)
sphere_rows =
    (one (true ∷ []) ∷ none ∷ none ∷ none ∷ none ∷ [])
    ∷ (none ∷ one (true ∷ []) ∷ one (true ∷ []) ∷ none ∷ one (true ∷ false ∷ []) ∷ [])
    ∷ (none ∷ none ∷ one (true ∷ []) ∷ none ∷ one (true ∷ false ∷ true ∷ false ∷ []) ∷ [])
    ∷ []

sphere_1_4 : dump_text sphere 1 (λ i. 4) sphere_rows ≡ codes "d(0,0,0) = x0\nd(1,1,0) = Sq(1)*(0,0,0)\nd(1,2,0) = Sq(2)*(0,0,0)\nd(1,4,0) = Sq(4)*(0,0,0)\n"
unfolding digits
sphere_1_4 = refl

sphere_2_4 : dump_text sphere 2 (λ i. 4) sphere_rows ≡ codes "d(0,0,0) = x0\nd(1,1,0) = Sq(1)*(0,0,0)\nd(1,2,0) = Sq(2)*(0,0,0)\nd(1,4,0) = Sq(4)*(0,0,0)\nd(2,2,0) = Sq(1)*(1,1,0)\nd(2,4,0) = Sq(3)*(1,1,0) + Sq(2)*(1,2,0)\n"
unfolding digits
sphere_2_4 = refl

-- its stems 0 to 2, in which the generator of row 1 and degree 4 is not
abbrev stems_2 : Range
stems_2 = record { s = 2; t = 4 }

chart_in_stems : chart_text (pos 0) 2 (last_degree Stems stems_2) (generator_count sphere_rows) ≡ codes " 2 |1.1\n 1 |11.\n 0 |1..\nstems 0..2\n"
unfolding digits
chart_in_stems = refl

dump_in_stems : dump_text sphere 2 (last_degree Stems stems_2) sphere_rows ≡ codes "d(0,0,0) = x0\nd(1,1,0) = Sq(1)*(0,0,0)\nd(1,2,0) = Sq(2)*(0,0,0)\nd(2,2,0) = Sq(1)*(1,1,0)\nd(2,4,0) = Sq(3)*(1,1,0) + Sq(2)*(1,2,0)\n"
unfolding digits
dump_in_stems = refl

summary_in_stems : summary_text 1 (pos 0) 2 (last_degree Stems stems_2) (generator_count sphere_rows) ≡ codes "module gens 1 bottom 0\nsquares 12\ngens 5\nrow 0: 1\nrow 1: 2\nrow 2: 2\n"
unfolding digits
summary_in_stems = refl

-- two generators of degree -1, on which no operation acts
abbrev two : List Generator
two = record { name = codes "a"; degree = negsuc 0 } ∷ record { name = codes "b"; degree = negsuc 0 } ∷ []

abbrev two_rows : List (List Content)
two_rows =
    (with_images ((true ∷ false ∷ []) ∷ (false ∷ true ∷ []) ∷ []) ∷ none ∷ [])
    ∷ (none ∷ with_images ((true ∷ false ∷ []) ∷ (false ∷ true ∷ []) ∷ []) ∷ [])
    ∷ []

two_1_1 : dump_text two 1 (λ i. 1) two_rows ≡ codes "d(0,-1,0) = a\nd(0,-1,1) = b\nd(1,0,0) = Sq(1)*(0,-1,0)\nd(1,0,1) = Sq(1)*(0,-1,1)\n"
unfolding digits
two_1_1 = refl

-- x0 and Sq1 x0 = x1: the kernel of d_0 begins with Sq(2), and in degree 3 with Sq(0,1)
abbrev c2 : List Generator
c2 = record { name = codes "x0"; degree = pos 0 } ∷ record { name = codes "x1"; degree = pos 1 } ∷ []

abbrev c2_rows : List (List Content)
c2_rows =
    (one (true ∷ []) ∷ none ∷ none ∷ none ∷ [])
    ∷ (none ∷ none ∷ one (true ∷ []) ∷ one (false ∷ true ∷ []) ∷ [])
    ∷ []

c2_1_3 : dump_text c2 1 (λ i. 3) c2_rows ≡ codes "d(0,0,0) = x0\nd(1,2,0) = Sq(2)*(0,0,0)\nd(1,3,0) = Sq(0,1)*(0,0,0)\n"
unfolding digits
c2_1_3 = refl

-- an image of no term
empty_image : dump_text sphere 0 (λ i. 0) ((one (false ∷ []) ∷ []) ∷ []) ≡ codes "d(0,0,0) = \n"
unfolding digits
empty_image = refl

-- no generator, no line
no_generator : dump_text sphere 1 (λ i. 1) ((one (true ∷ []) ∷ none ∷ []) ∷ (none ∷ none ∷ []) ∷ []) ≡ codes "d(0,0,0) = x0\n"
unfolding digits
no_generator = refl
