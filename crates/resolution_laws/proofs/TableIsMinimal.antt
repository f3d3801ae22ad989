-- A canonical table is a minimal resolution.
use Rattle.free_module.specs.Graded.{FreeModulesAreModules}
use Rattle.free_module.specs.LinearMap.{MapsCommute}
use Rattle.resolution_laws.specs.Exactness.{CanonicalTableIsMinimalResolution}
use Rattle.resolution_laws.proofs.Squares.{IsResolved, image_widths}
use Rattle.resolution_laws.proofs.Complex.{is_complex}
use Rattle.resolution_laws.proofs.Exact.{is_exact}
use Rattle.resolution_laws.proofs.Minimal.{are_needed, is_minimal}
use Rattle.resolution_laws.proofs.Late.{is_late}

pub table_is_minimal : FreeModulesAreModules → MapsCommute → CanonicalTableIsMinimalResolution
table_is_minimal free commute m s t table steenrod bounded canonical =
    let p : IsResolved m s t table = record { free = free; commute = commute; steenrod = steenrod; bounded = bounded; canonical = canonical } in
    record {
      is_table = record { squares = canonical.squares; widths = image_widths m s t table p };
      complex = is_complex m s t table p;
      exact = is_exact m s t table p;
      minimal = is_minimal m s t table p;
      needed = are_needed m s t table p;
      late = λ i k h l. is_late m s t table p i h k l;
    }
