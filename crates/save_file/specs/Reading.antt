-- What bytes say as a body, and the squares of a list of bodies with their quasi-inverses.
use Rattle.std.specs.Prelude.{ℕ, zero, suc, ◌+◌, ◌*◌, ◌/◌, ◌%◌, ◌==◌, nat_eq, nat_le, Bool, true, false, ◌&&◌, if◌then◌else◌, List, [], ◌∷◌, ◌++◌, length, map, take, drop, slice_index_or, Option, Some, None, Result, Ok, Err, is_some, is_none}
use Rattle.std.specs.Int.{Width, w16, w64, byte_len, from_be_bytes, bit_at, div_ceil}
use Rattle.std.specs.List.{range_with_len}
use Rattle.std.specs.Str.{bytes_eq}
use Rattle.bidegree.specs.declared.range.TheConstants.{MAX_S, MAX_T}
use Rattle.f2_matrix.specs.Reduction.{Rows, Reduction}
use Rattle.f2_kernel.specs.Tests.{is_row_basis, are_parts}
use Rattle.resolution_laws.specs.Resolution.{Module}
use Rattle.resolution_laws.specs.Start.{Entry, entry_at}
use Rattle.save_file.specs.Bodies.{Preimages, Body, body_bytes, Addition, addition_bytes, Kept, entries, kept_in, kept_at, with_quasi_at, reduction_with, target_dim, source_dim, matrix_with}
use Rattle.save_file.specs.declared.outline.TheConstants.{REDUCED}

-- ---- what stands at the places of a body

-- the number in the bytes from a place on
abbrev pub number_at : Width → ℕ → List ℕ → ℕ
number_at w place bytes = from_be_bytes w (take (byte_len w) (drop place bytes))

-- the vector of the first n bits, eight to a byte, lowest first
unfoldable pub unpacked : ℕ → List ℕ → List Bool
unpacked n bytes = map (λ k. bit_at (slice_index_or bytes (k / 8) 0) (k % 8) == 1) (range_with_len 0 n)

-- how many bytes a vector of length n takes
abbrev pub packed_len : ℕ → ℕ
packed_len n = div_ceil n 8

-- so many rows of length n, packed one after the other from a place on
abbrev pub rows_at : ℕ → ℕ → ℕ → List ℕ → List (List Bool)
rows_at count n place bytes =
    map (λ i. unpacked n (drop (place + i * packed_len n) bytes)) (range_with_len 0 count)

-- the matrix from a place on, and how many bytes it takes
abbrev pub matrix_at : ℕ → List ℕ → Rows
matrix_at place bytes =
    let cols = number_at w64 (place + 8) bytes in
    record {
      cols = cols;
      rows = rows_at (number_at w64 place bytes) cols (place + 16) bytes;
    }

abbrev pub matrix_len : Rows → ℕ
matrix_len m = 16 + length m.rows * packed_len m.cols

-- q image rows of length w from a place on, and behind them as many chosen preimages of length v
abbrev pub preimages_at : ℕ → ℕ → ℕ → ℕ → List ℕ → Preimages
preimages_at q w v place bytes = record {
  image = rows_at q w place bytes;
  chosen = rows_at q v (place + q * packed_len w) bytes;
}

-- the numbers and matrices of a body of kind 1 or 2, whatever the bytes are
abbrev pub kernel_place : List ℕ → ℕ
kernel_place bytes = 5 + matrix_len (matrix_at 5 bytes)

abbrev pub quasi_place : List ℕ → ℕ
quasi_place bytes = kernel_place bytes + matrix_len (matrix_at (kernel_place bytes) bytes)

-- what stands behind the kernel rows, from this place on, where the dimensions are w and v
abbrev pub quasi_part : ℕ → ℕ → ℕ → List ℕ → Option Preimages
quasi_part w v place bytes = if nat_eq (slice_index_or bytes 0 0) REDUCED then
    Some (preimages_at (number_at w64 place bytes) w v (place + 8) bytes)
    else None

abbrev pub quasi_at : List ℕ → Option Preimages
quasi_at bytes = quasi_part (matrix_at 5 bytes).cols (matrix_at (kernel_place bytes) bytes).cols (quasi_place bytes) bytes

abbrev pub body_at : List ℕ → Body
body_at bytes = record {
  s = number_at w16 1 bytes;
  above = number_at w16 3 bytes;
  images = matrix_at 5 bytes;
  kernel = matrix_at (kernel_place bytes) bytes;
  quasi = quasi_at bytes;
}

-- those of a body of kind 3
abbrev pub addition_at : List ℕ → Addition
addition_at bytes = record {
  s = number_at w16 1 bytes;
  above = number_at w16 3 bytes;
  cols = number_at w64 13 bytes;
  height = number_at w64 21 bytes;
  preimages = preimages_at (number_at w64 5 bytes) (number_at w64 13 bytes) (number_at w64 21 bytes) 29 bytes;
}

-- ---- the rules, as tests

abbrev pub has_before : List Entry → ℕ → ℕ → Bool
has_before list s zero = true
has_before list s (suc j) = is_some (entry_at list s j)

abbrev pub has_below : List Entry → ℕ → ℕ → Bool
has_below list zero k = true
has_below list (suc i) k = is_some (entry_at list i k)

abbrev pub is_next_place : List Entry → ℕ → ℕ → Bool
is_next_place list s k = (is_none (entry_at list s k) && has_before list s k) && has_below list s k

abbrev pub has_dimensions : Module → List Entry → Body → Bool
has_dimensions m list b =
    (nat_eq b.images.cols (target_dim m list b.s b.above) && nat_le (length b.images.rows) b.images.cols)
    && (nat_eq b.kernel.cols (source_dim m list b.s b.above (length b.images.rows))
    && nat_le (length b.kernel.rows) b.kernel.cols)

abbrev pub has_parts : Module → List Entry → Body → Option Preimages → Bool
has_parts m list b None = true
has_parts m list b (Some p) = are_parts b.images.cols (matrix_with m list b.s b.above b.images.rows) p.image p.chosen
    b.kernel.rows

abbrev pub has_rules : Module → List Entry → Body → Bool
has_rules m list b = ((((nat_le b.s MAX_S && nat_le b.above MAX_T) && is_next_place list b.s b.above)
    && has_dimensions m list b)
    && is_row_basis b.kernel.rows)
    && has_parts m list b b.quasi

-- a quasi-inverse for this square of the list, if there is one
abbrev pub fits_square : Module → List Entry → Addition → Option Kept → Bool
fits_square m list a None = false
fits_square m list a (Some square) = (is_none square.quasi
    && (nat_eq a.cols (target_dim m list a.s a.above)
    && nat_eq a.height (source_dim m list a.s a.above (length square.entry.content.images))))
    && are_parts a.cols (matrix_with m list a.s a.above square.entry.content.images) a.preimages.image
    a.preimages.chosen square.entry.content.kernel

abbrev pub has_addition_rules : Module → List Kept → Addition → Bool
has_addition_rules m kept a = (nat_le a.s MAX_S && nat_le a.above MAX_T)
    && fits_square m (entries kept) a (kept_at kept a.s a.above)

-- ---- reading

-- The square that the bytes stand for behind those of the list, with its quasi-inverse if they have one: they are the body of what
-- stands at its places, and the rules hold.
unfoldable pub square_in : Module → List Entry → List ℕ → Option Kept
square_in m list bytes =
    let b = body_at bytes in if bytes_eq bytes (body_bytes b) && has_rules m list b then Some (kept_in b) else None

-- the quasi-inverse that they stand for, of a square of the list
unfoldable pub addition_in : Module → List Kept → List ℕ → Option Addition
addition_in m kept bytes =
    let a = addition_at bytes in
    if bytes_eq bytes (addition_bytes a) && has_addition_rules m kept a then Some a else None

-- the list with the square that was read behind it, or with the quasi-inverse
abbrev pub with_square_read : List Kept → Option Kept → Option (List Kept) → Option (List Kept)
with_square_read kept None other = other
with_square_read kept (Some k) other = Some (kept ++ k ∷ [])

abbrev pub reduction_of_square : Addition → Option Kept → Reduction
reduction_of_square a None = reduction_with a.cols a.height a.preimages []
reduction_of_square a (Some square) = reduction_with a.cols a.height a.preimages square.entry.content.kernel

abbrev pub with_addition_read : List Kept → Option Addition → Option (List Kept)
with_addition_read kept None = None
with_addition_read kept (Some a) =
    Some (with_quasi_at kept a.s a.above (reduction_of_square a (kept_at kept a.s a.above)))

-- what is kept once the bytes are read, none where they are no body that may stand behind the list
abbrev pub after_body : Module → List Kept → List ℕ → Option (List Kept)
after_body m kept bytes =
    with_square_read kept (square_in m (entries kept) bytes) (with_addition_read kept (addition_in m kept bytes))

-- the list after these bodies, or else the number of the first that is none
abbrev pub and_then_kept : Option (List Kept) → ℕ → (List Kept → Result (List Kept) ℕ) → Result (List Kept) ℕ
and_then_kept None number rest = Err number
and_then_kept (Some kept) number rest = rest kept

abbrev pub kept_from : Module → List Kept → ℕ → List (List ℕ) → Result (List Kept) ℕ
kept_from m kept number [] = Ok kept
kept_from m kept number (body ∷ bodies) =
    and_then_kept (after_body m kept body) number (λ more. kept_from m more (suc number) bodies)

-- What these bodies stand for, each read behind those before it: the squares in the order of their own records, each with its
-- quasi-inverse if there is one. Or else the number of the first body that is none.
abbrev pub kept_of_bodies : Module → List (List ℕ) → Result (List Kept) ℕ
kept_of_bodies m bodies = kept_from m [] 0 bodies

abbrev pub squares_alone : Result (List Kept) ℕ → Result (List Entry) ℕ
squares_alone (Ok kept) = Ok (entries kept)
squares_alone (Err number) = Err number

-- the squares alone
abbrev pub squares_of : Module → List (List ℕ) → Result (List Entry) ℕ
squares_of m bodies = squares_alone (kept_of_bodies m bodies)
