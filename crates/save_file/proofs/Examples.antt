-- The bodies of the sphere's first square and of its quasi-inverse, byte by byte: each is read as what it is, and not behind itself, nor
-- with a spare bit, nor with rows that are no parts.
use Rattle.std.proofs.Common.{◌≡◌, ℕ, true, List, [], ◌∷◌, ◌++◌, Some, None, refl}
use Rattle.finite_module.specs.Checked.{sphere_file}
use Rattle.finite_module.specs.DerivedAction.{derived_module}
use Rattle.f2_matrix.specs.Reduction.{Reduction}
use Rattle.resolution_laws.specs.Resolution.{Module}
use Rattle.resolution_laws.specs.Start.{Entry}
use Rattle.square.specs.Squares.{module_over}
use Rattle.f2_vec.specs.Bytes.{packed}
use Rattle.save_file.specs.Bodies.{Kept, Addition}
use Rattle.save_file.specs.Reading.{unpacked, square_in, addition_in}

abbrev sphere : Module
sphere = module_over (derived_module sphere_file)

-- one generator, which goes to the module's, and no kernel row
abbrev first : Entry
first = record { s = 0; above = 0; content = record { images = (true ∷ []) ∷ []; kernel = [] } }

-- the matrix has one row and one column, and is its own reduction
abbrev whole : Reduction
whole = record { cols = 1; height = 1; image = (true ∷ []) ∷ []; chosen = (true ∷ []) ∷ []; kernel = [] }

abbrev bare : Kept
bare = record { entry = first; quasi = None }

abbrev reduced : Kept
reduced = record { entry = first; quasi = Some whole }

-- kind, row and degree, one image in one dimension, and no kernel row in one dimension; the byte of the image is this
abbrev body : ℕ → ℕ → List ℕ
body kind image =
    kind ∷ 0 ∷ 0 ∷ 0 ∷ 0
    ∷ 0 ∷ 0 ∷ 0 ∷ 0 ∷ 0 ∷ 0 ∷ 0 ∷ 1 ∷ 0 ∷ 0 ∷ 0 ∷ 0 ∷ 0 ∷ 0 ∷ 0 ∷ 1 ∷ image
    ∷ 0 ∷ 0 ∷ 0 ∷ 0 ∷ 0 ∷ 0 ∷ 0 ∷ 0 ∷ 0 ∷ 0 ∷ 0 ∷ 0 ∷ 0 ∷ 0 ∷ 0 ∷ 1 ∷ []

-- one image row and its preimage, with these bytes
abbrev rows : ℕ → ℕ → List ℕ
rows image chosen = 0 ∷ 0 ∷ 0 ∷ 0 ∷ 0 ∷ 0 ∷ 0 ∷ 1 ∷ image ∷ chosen ∷ []

is_first : square_in sphere [] (body 1 1) ≡ Some bare
unfolding packed unpacked square_in
is_first = refl

is_reduced : square_in sphere [] (body 2 1 ++ rows 1 1) ≡ Some reduced
unfolding packed unpacked square_in
is_reduced = refl

spare_bit : square_in sphere [] (body 1 3) ≡ None
unfolding packed unpacked square_in
spare_bit = refl

no_preimage : square_in sphere [] (body 2 1 ++ rows 1 0) ≡ None
unfolding packed unpacked square_in
no_preimage = refl

there_already : square_in sphere (first ∷ []) (body 1 1) ≡ None
unfolding packed unpacked square_in
there_already = refl

-- kind, row and degree, one image row, and both dimensions
abbrev added : List ℕ
added =
    3 ∷ 0 ∷ 0 ∷ 0 ∷ 0
    ∷ 0 ∷ 0 ∷ 0 ∷ 0 ∷ 0 ∷ 0 ∷ 0 ∷ 1 ∷ 0 ∷ 0 ∷ 0 ∷ 0 ∷ 0 ∷ 0 ∷ 0 ∷ 1
    ∷ 0 ∷ 0 ∷ 0 ∷ 0 ∷ 0 ∷ 0 ∷ 0 ∷ 1 ∷ 1 ∷ 1 ∷ []

abbrev addition : Addition
addition = record { s = 0; above = 0; cols = 1; height = 1; preimages = record { image = (true ∷ []) ∷ []; chosen = (true ∷ []) ∷ [] } }

is_added : addition_in sphere (bare ∷ []) added ≡ Some addition
unfolding packed unpacked addition_in
is_added = refl

not_twice : addition_in sphere (reduced ∷ []) added ≡ None
unfolding packed unpacked addition_in
not_twice = refl
