-- The limits that a module which is made must keep: those of module files.
use Rattle.std.specs.Prelude.{ℕ, ℤ, nat_le, Bool, if◌then◌else◌, List, length, map, Option, Some, None}
use Rattle.std.specs.List.{list_all}
use Rattle.std.specs.Option.{option_or}
use Rattle.module_spec.specs.Spec.{Generator, within_limit, is_near}
use Rattle.module_spec.specs.declared.limits.TheConstants.{MAX_GENERATORS}
use Rattle.module_json.specs.declared.malformed.What.{What}
use Rattle.module_json.specs.declared.malformed.What.TheVariants.{Gens, Degree, Span}
use Rattle.module_build.specs.declared.fault.BuildFault.{BuildFault}
use Rattle.module_build.specs.declared.fault.BuildFault.TheVariants.{Limit}

-- no degree lies more than the greatest span above another
abbrev pub are_near : List ℤ → Bool
are_near ds = list_all (λ d. list_all (λ e. is_near d e) ds) ds

abbrev pub unless : Bool → What → Option BuildFault
unless b what = if b then None else Some (Limit what)

-- The first limit that generators of these degrees pass: how many there may be, or else where a degree may lie, or else how far
-- apart two may be.
abbrev pub limit_of : List ℤ → Option BuildFault
limit_of ds = option_or (unless (nat_le (length ds) MAX_GENERATORS) Gens)
    (option_or (unless (list_all within_limit ds) Degree) (unless (are_near ds) Span))

abbrev pub limit_passed : List Generator → Option BuildFault
limit_passed gs = limit_of (map (λ g. g.degree) gs)
