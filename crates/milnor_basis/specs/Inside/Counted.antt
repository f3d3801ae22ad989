-- A table of how many exponent lists there are.
use Rattle.std.specs.Prelude.{◌≡◌, ℕ, ◌+◌, ◌*◌, ◌<◌, ◌≤◌, List, length, slice_index}
use Rattle.milnor_basis.specs.Basis.{lists_of}

-- as far as the table goes, it has at 9 n + k how many lists of k exponents, up to 8, have degree n
abbrev pub IsCounted : List ℕ → Type 0
IsCounted numbers = (n k : ℕ) → k ≤ 8 → 9 * n + k < length numbers →
    slice_index numbers (9 * n + k) ≡ length (lists_of k n)
