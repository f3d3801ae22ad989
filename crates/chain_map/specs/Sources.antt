-- What lifts start from: a table of squares, or images alone, which stand for the canonical table that has them.
use Rattle.std.specs.Prelude.{⊤, ℕ, ◌+◌, ◌≤◌, nat_lt, if◌then◌else◌, List, [], map, None}
use Rattle.std.specs.List.{range_with_len}
use Rattle.bidegree.specs.declared.range.Range.{Range}
use Rattle.bidegree.specs.declared.range.TheConstants.{MAX_S, MAX_T}
use Rattle.finite_module.specs.Checked.{Checked}
use Rattle.finite_module.specs.ModuleLaws.{module_KeepsWidths}
use Rattle.resolution_laws.specs.Resolution.{Module, Content}
use Rattle.resolution_laws.specs.Start.{IsOf}
use Rattle.resolution_existence.proofs.Tables.{has_content, none_read}
use Rattle.square.specs.Squares.{Placed, over}
use Rattle.square.specs.Tables.{Staircase}
use Rattle.resolution_images.specs.BareRows.{BareTable, AreOfCanonical}
use Rattle.chain_map.specs.declared.rows_held.Held.{Held}
use Rattle.chain_map.specs.declared.rows_held.Held.TheVariants.{Squares, Images}

-- the square (s, k) of the module's canonical resolution
abbrev pub canonical_square : (m : Checked) (s k : ℕ) → (content : Content) × IsOf (over m) [] s k content
canonical_square m s k = has_content (over m) [] s k (module_KeepsWidths m.plain m.is_module) (none_read (over m))

-- with its place
abbrev pub canonical_place : Checked → ℕ → ℕ → Placed
canonical_place m s k =
    record { resolved = m; start = []; s = s; above = k; content = (canonical_square m s k).0; quasi = None }

-- the rows of the canonical resolution through the range
abbrev pub length_through : Range → ℕ → ℕ
length_through range s = if nat_lt range.s s then 0 else range.t + 1

abbrev pub canonical_row : Checked → Range → ℕ → List Placed
canonical_row m range s = map (canonical_place m s) (range_with_len 0 (length_through range s))

unfoldable pub canonical_rows : Checked → Range → List (List Placed)
canonical_rows m range = map (canonical_row m range) (range_with_len 0 (MAX_S + 1))

-- the table of the canonical resolution through the range
abbrev pub canonical_table : Checked → Range → Staircase
canonical_table m range = record { resolved = m; start = []; rows = canonical_rows m range; spare = 0 }

-- the images are those of the canonical resolution through their range
pub record AreWhole (images : BareTable) : Type 0 where
  pub row : images.range.s ≤ MAX_S
  pub degree : images.range.t ≤ MAX_T
  pub are : AreOfCanonical (over images.resolved) images.range.s images.range.t images.rows

-- ---- what is held

abbrev pub table_held : Held → Staircase
table_held (Squares table) = table.now
table_held (Images images) = canonical_table images.now.resolved images.now.range

abbrev pub IsHeld : Held → Type 0
IsHeld (Squares table) = ⊤
IsHeld (Images images) = AreWhole images.now
