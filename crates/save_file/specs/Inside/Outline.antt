-- Where the numbers of a body say that its parts are.
use Rattle.std.specs.Prelude.{◌≡◌, ◌⊎◌, ℕ, ◌+◌, ◌*◌, ◌≤◌, ℤ, pos, ◌+ℤ◌, Bool, nat_eq, if◌then◌else◌, List, length, take, drop, slice_index, slice_index_or, slice_get, Option, Some, None}
use Rattle.std.specs.Option.{option_map}
use Rattle.std.specs.Int.{w16, w64}
use Rattle.std.specs.List.{flat_map}
use Rattle.bidegree.specs.declared.range.TheConstants.{MAX_S, MAX_T}
use Rattle.f2_vec.specs.Spans.{HaveWidth}
use Rattle.f2_matrix.specs.Parts.{AreReductionParts}
use Rattle.f2_matrix.specs.Reduction.{Rows}
use Rattle.square.specs.Squares.{Placed, bottom_of}
use Rattle.square.specs.Tables.{Staircase, row_in, IsNext, next_target_width, next_width}
use Rattle.f2_vec.specs.Bytes.{packed}
use Rattle.save_file.specs.Reading.{number_at, packed_len}
use Rattle.save_file.specs.declared.outline.PackedRows.{PackedRows}
use Rattle.save_file.specs.declared.outline.PackedPreimages.{PackedPreimages}
use Rattle.save_file.specs.declared.outline.Parts.{Parts}
use Rattle.save_file.specs.declared.outline.AdditionParts.{AdditionParts}
use Rattle.save_file.specs.declared.outline.TheConstants.{SQUARE, REDUCED, QUASI}

-- the rows of a matrix, still packed: their number, their length and their bytes
pub record Packed : Type 0 where
  pub height : ℕ
  pub cols : ℕ
  pub bytes : List ℕ

abbrev pub packed_of : PackedRows → Packed
packed_of p = record { height = p.height; cols = p.cols; bytes = p.bytes.now }

abbrev pub packed_at : ℕ → List ℕ → Packed
packed_at place bytes = record {
  height = number_at w64 place bytes;
  cols = number_at w64 (place + 8) bytes;
  bytes = take (number_at w64 place bytes * packed_len (number_at w64 (place + 8) bytes)) (drop (place + 16) bytes);
}

-- the place behind them
abbrev pub end_of : ℕ → List ℕ → ℕ
end_of place bytes = (place + 16) + number_at w64 place bytes * packed_len (number_at w64 (place + 8) bytes)

-- image rows and chosen preimages, still packed
pub record PackedPair : Type 0 where
  pub image : Packed
  pub chosen : Packed

abbrev pub pair_of : PackedPreimages → PackedPair
pair_of p = record { image = packed_of p.image; chosen = packed_of p.chosen }

-- q image rows of length w from a place on, and behind them as many preimages of length v; and the place behind these
abbrev pub pair_at : ℕ → ℕ → ℕ → ℕ → List ℕ → PackedPair
pair_at q w v place bytes = record {
  image = record { height = q; cols = w; bytes = take (q * packed_len w) (drop place bytes) };
  chosen = record { height = q; cols = v; bytes = take (q * packed_len v) (drop (place + q * packed_len w) bytes) };
}

abbrev pub pair_end : ℕ → ℕ → ℕ → ℕ → ℕ
pair_end q w v place = (place + q * packed_len w) + q * packed_len v

-- a body whose matrices are still packed
pub record Outline : Type 0 where
  pub s : ℕ
  pub above : ℕ
  pub images : Packed
  pub kernel : Packed
  pub quasi : Option PackedPair

abbrev pub outline_of : Parts → Outline
outline_of p = record {
  s = p.s;
  above = p.above;
  images = packed_of p.images;
  kernel = packed_of p.kernel;
  quasi = option_map pair_of p.quasi;
}

-- what stands behind the kernel rows, which end at this place, for dimensions w and v
abbrev pub quasi_part_at : List ℕ → ℕ → ℕ → ℕ → Option PackedPair
quasi_part_at bytes end w v = if nat_eq (slice_index_or bytes 0 0) REDUCED then
    Some (pair_at (number_at w64 end bytes) w v (end + 8) bytes)
    else None

abbrev pub outline_at : List ℕ → Outline
outline_at bytes = record {
  s = number_at w16 1 bytes;
  above = number_at w16 3 bytes;
  images = packed_at 5 bytes;
  kernel = packed_at (end_of 5 bytes) bytes;
  quasi = quasi_part_at bytes (end_of (end_of 5 bytes) bytes) (packed_at 5 bytes).cols
      (packed_at (end_of 5 bytes) bytes).cols;
}

-- The bytes are of a square and end as they should behind the kernel rows, which end at this place: at once in a body of the
-- first kind, and in one of the second behind the image rows and the preimages.
abbrev pub HasQuasiPart : List ℕ → ℕ → ℕ → ℕ → Type 0
HasQuasiPart bytes end w v = ((slice_index bytes 0 ≡ SQUARE) × (length bytes ≡ end))
    ⊎ ((slice_index bytes 0 ≡ REDUCED) × (end + 8 ≤ length bytes)
    × (length bytes ≡ pair_end (number_at w64 end bytes) w v (end + 8)))

-- the bytes are of a square, and as many as their numbers say
abbrev pub IsWhole : List ℕ → Type 0
IsWhole bytes = HasQuasiPart bytes (end_of (end_of 5 bytes) bytes) (packed_at 5 bytes).cols
    (packed_at (end_of 5 bytes) bytes).cols

-- a quasi-inverse alone, whose rows are still packed
pub record AdditionOutline : Type 0 where
  pub s : ℕ
  pub above : ℕ
  pub quasi : PackedPair

abbrev pub addition_outline_of : AdditionParts → AdditionOutline
addition_outline_of p = record { s = p.s; above = p.above; quasi = pair_of p.quasi }

abbrev pub addition_outline_at : List ℕ → AdditionOutline
addition_outline_at bytes = record {
  s = number_at w16 1 bytes;
  above = number_at w16 3 bytes;
  quasi = pair_at (number_at w64 5 bytes) (number_at w64 13 bytes) (number_at w64 21 bytes) 29 bytes;
}

-- the bytes are of a quasi-inverse, and as many as their numbers say
pub record IsWholeAddition (bytes : List ℕ) : Type 0 where
  pub kind : slice_index bytes 0 ≡ QUASI
  pub length_is : length bytes
      ≡ pair_end (number_at w64 5 bytes) (number_at w64 13 bytes) (number_at w64 21 bytes) 29

-- the rows are what was packed so
pub record AreUnpacked (p : Packed) (rows : List (List Bool)) : Type 0 where
  pub as_many : length rows ≡ p.height
  pub widths : HaveWidth p.cols rows
  pub bytes : flat_map packed rows ≡ p.bytes

-- in degree t is the place of the next square of row s, within the limits of a range
pub record IsPlaceFor (table : Staircase) (s above : ℕ) (t : ℤ) : Type 0 where
  pub degree : t ≡ bottom_of table.resolved +ℤ pos above
  pub row : s ≤ MAX_S
  pub within : above ≤ MAX_T
  pub next : IsNext table.rows s above

-- the matrices have as many columns as the modules there have dimensions, and no more rows
pub record HasDimensions (table : Staircase) (o : Outline) : Type 0 where
  pub target : o.images.cols ≡ next_target_width table o.s o.above
  pub images_few : o.images.height ≤ o.images.cols
  pub source : o.kernel.cols ≡ next_width table o.s o.above o.images.height
  pub kernel_few : o.kernel.height ≤ o.kernel.cols

-- the square of the table at this place has no reduction, and these rows have as many columns as the modules there have dimensions
pub record IsBareAt (table : Staircase) (o : AdditionOutline) (q : Placed) : Type 0 where
  pub there : slice_get (row_in table.rows o.s) o.above ≡ Some q
  pub bare : q.quasi ≡ None
  pub target : o.quasi.image.cols ≡ next_target_width table o.s o.above
  pub source : o.quasi.chosen.cols ≡ next_width table o.s o.above (length q.content.images)

-- these are the image rows and preimages that were packed, and with the kernel rows the parts of the matrix's reduction
pub record ArePackedParts (p : PackedPair) (matrix : Rows) (image chosen kernel : List (List Bool)) : Type 0 where
  pub image_rows : AreUnpacked p.image image
  pub chosen_rows : AreUnpacked p.chosen chosen
  pub parts : AreReductionParts matrix.cols matrix.rows image chosen kernel
