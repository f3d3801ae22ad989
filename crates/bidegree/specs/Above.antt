-- How many degrees a degree is above a bottom degree.
use Rattle.std.specs.Prelude.{ℕ, ℤ, pos, negsuc, ◌-ℤ◌, Option, Some, None}

-- the number that an integer is, none where it is negative
abbrev pub natural : ℤ → Option ℕ
natural (pos n) = Some n
natural (negsuc n) = None

-- how many degrees t is above the bottom, none where it is below
abbrev pub above_of : ℤ → ℤ → Option ℕ
above_of bottom t = natural (t -ℤ bottom)
