-- What a chart has of the rows of an extent.
use Rattle.std.specs.Prelude.{◌≡◌, ℕ, zero, suc, ◌+◌, ◌≤◌, List, length, nat_le, min, if◌then◌else◌}
use Rattle.resolution_images.specs.declared.resolve.Extent.{Extent}
use Rattle.resolution_images.specs.BareRows.{BareRow, bare_row_in}

-- How many squares of row i in stems 0 to n may be given their zeros: those of which the row below has the square of the same degree,
-- and the last of the row in these stems, which has none.
abbrev pub known_in : List BareRow → ℕ → ℕ → ℕ
known_in rows n zero = n + 1
known_in rows n (suc i) =
    (if nat_le (n + suc i) (length (bare_row_in rows i).counts) then n + suc i + 1 else length (bare_row_in rows i).counts)

-- how many of them there are through degree t
abbrev pub reach_in : List BareRow → ℕ → ℕ → ℕ → ℕ
reach_in rows n t i = min (min (length (bare_row_in rows i).counts) (t + 1)) (known_in rows n i)

-- each row of the extent has all of its squares in stems, or all through degree t
abbrev pub HaveStems : List BareRow → Extent → ℕ → Type 0
HaveStems rows e t = (i : ℕ) → i ≤ e.last → reach_in rows e.n t i ≡ e.n + i + 1

abbrev pub HaveDegrees : List BareRow → Extent → ℕ → Type 0
HaveDegrees rows e t = (i : ℕ) → i ≤ e.last → reach_in rows e.n t i ≡ t + 1
