-- What holds of the bytes of parts.
use Rattle.std.specs.Prelude.{◌≡◌}
use Rattle.chart_file.specs.Parts.{Part, IsPart, part_bytes}

-- bytes are those of one part at most
abbrev pub PartIsUnique : Type 0
PartIsUnique = (p q : Part) → IsPart p → IsPart q → part_bytes p ≡ part_bytes q → p ≡ q
