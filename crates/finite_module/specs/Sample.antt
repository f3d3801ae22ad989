-- The module that a number draws: a sum of modules of one and of two cells.
use Rattle.std.specs.Prelude.{ℕ, zero, suc, ◌+◌, ◌*◌, ◌/◌, ◌%◌, pos, nat_lt, if◌then◌else◌, List, [], ◌∷◌, ◌++◌, codes, decimal, Option, Some, None, option_map, option_and_then, filter_map}
use Rattle.std.specs.List.{range_with_len}
use Rattle.module_spec.specs.Spec.{Generator, Entry, File, by_degree, number_of}
use Rattle.finite_module.specs.declared.sample.Piece.{Piece}
use Rattle.finite_module.specs.declared.sample.Cell.{Cell}
use Rattle.finite_module.specs.declared.sample.Cell.TheVariants.{Bottom, Top}

-- ---- what is drawn

-- a number below 2^31, and the next one: v to 1103515245 v + 12345 modulo 2^31
abbrev pub next : ℕ → ℕ
next v = (1103515245 * v + 12345) % 2147483648

-- the numbers that n draws, the first of which is n modulo 2^31
abbrev pub drawn : ℕ → ℕ → ℕ
drawn n zero = n % 2147483648
drawn n (suc k) = next (drawn n k)

-- how many pieces n draws: 1 to 12
abbrev pub piece_count : ℕ → ℕ
piece_count n = 1 + n % 12

-- the square of a kind of piece, none for that of one cell
abbrev pub square_of : ℕ → Option ℕ
square_of zero = None
square_of (suc zero) = Some 1
square_of (suc (suc zero)) = Some 2
square_of (suc (suc (suc zero))) = Some 4
square_of (suc (suc (suc (suc kind)))) = Some 8

-- The k-th piece, from 0 on: a cell in degree shift, or two cells, of which Sq^n takes the bottom one to the top one.
abbrev pub piece : ℕ → ℕ → Piece
piece n k = record { shift = drawn n (suc k) / 256 % 8; square = square_of (drawn n (suc k) / 65536 % 5) }

-- ---- the generators

-- the name of a cell of the k-th piece: x or y, and k
abbrev pub letter : Cell → List ℕ
letter Bottom = codes "x"
letter Top = codes "y"

abbrev pub cell_name : Cell → ℕ → List ℕ
cell_name cell k = letter cell ++ decimal k

-- the degree of a cell, where the piece has it
abbrev pub cell_degree : Piece → Cell → Option ℕ
cell_degree p Bottom = Some p.shift
cell_degree p Top = option_map (λ n. p.shift + n) p.square

-- that cell of the k-th piece, where n draws such
abbrev pub cell_of : ℕ → Cell → ℕ → Option Generator
cell_of n cell k =
    if nat_lt k (piece_count n)
    then option_map (λ degree. record { name = cell_name cell k; degree = pos degree }) (cell_degree (piece n k) cell)
    else None

-- the numbers 0 to 11 by the bytes of their decimal texts
abbrev pub by_text : List ℕ
by_text = 0 ∷ 1 ∷ 10 ∷ 11 ∷ 2 ∷ 3 ∷ 4 ∷ 5 ∷ 6 ∷ 7 ∷ 8 ∷ 9 ∷ []

-- the generators by the bytes of their names
unfoldable pub named : ℕ → List Generator
named n = filter_map (cell_of n Bottom) by_text ++ filter_map (cell_of n Top) by_text

-- the generators in basis order: by degree, and in one degree by name
unfoldable pub sample_generators : ℕ → List Generator
sample_generators n = by_degree (named n)

-- ---- the action

-- the square of the k-th piece, on its bottom cell
abbrev pub entry_of : ℕ → ℕ → Option Entry
entry_of n k =
    option_and_then (λ square.
    option_and_then (λ i.
    option_map (λ j. record { n = square; generator = i; sum = j ∷ [] })
    (number_of (sample_generators n) (cell_name Top k)))
    (number_of (sample_generators n) (cell_name Bottom k)))
    (piece n k).square

-- the squares, piece by piece
unfoldable pub sample_entries : ℕ → List Entry
sample_entries n = filter_map (entry_of n) (range_with_len 0 (piece_count n))

-- the module file of the sample
abbrev pub sample_file : ℕ → File
sample_file n = record { generators = sample_generators n; entries = sample_entries n }
