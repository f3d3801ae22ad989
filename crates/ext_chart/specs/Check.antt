-- The line on a module file that is accepted.
use Rattle.std.specs.Prelude.{ℕ, ℤ, nat_eq, if◌then◌else◌, List, ◌++◌, codes, decimal}
use Rattle.std.specs.Fmt.{signed_decimal}
use Rattle.finite_module.specs.Text.{newline}

abbrev pub degrees_text : ℤ → ℤ → List ℕ
degrees_text least greatest = signed_decimal least ++ (codes ".." ++ signed_decimal greatest)

-- some generators, and the least and the greatest of their degrees
abbrev pub generators_line : ℕ → ℤ → ℤ → List ℕ
generators_line count least greatest =
    codes "accepted " ++ (decimal count ++ (codes " generators, degrees " ++ (degrees_text least greatest ++ newline)))

-- how many generators the module has, and their degrees
abbrev pub check_line : ℕ → ℤ → ℤ → List ℕ
check_line count least greatest =
    if nat_eq count 0 then codes "accepted 0 generators\n" else generators_line count least greatest
