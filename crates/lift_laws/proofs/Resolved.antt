-- A canonical table, with what is known of it.
use Rattle.std.proofs.Common.{ℕ}
use Rattle.free_module.specs.Graded.{IsSteenrodModule}
use Rattle.milnor_laws.proofs.FreeModules.{free_modules_are_modules}
use Rattle.milnor_laws.proofs.LinearMaps.{maps_commute}
use Rattle.resolution_laws.specs.Resolution.{IsCanonicalTable}
use Rattle.resolution_laws.specs.Exactness.{IsBoundedBelow, IsMinimalResolution, CanonicalTableIsMinimalResolution}
use Rattle.resolution_laws.proofs.Squares.{IsResolved as IsResolvedTable}
use Rattle.lift_laws.specs.Lifts.{Resolution, IsCanonical}

pub record IsResolved (r : Resolution) (s t : ℕ) : Type 0 where
  pub steenrod : IsSteenrodModule r.base.graded
  pub bounded : IsBoundedBelow r.base
  pub canonical : IsCanonicalTable r.base s t r.table
  pub minimal : IsMinimalResolution r.base s t r.table

pub is_resolved : CanonicalTableIsMinimalResolution → (r : Resolution) (s t : ℕ) → IsCanonical r s t → IsResolved r s t
is_resolved law r s t c = record { steenrod = c.steenrod; bounded = c.bounded; canonical = c.canonical; minimal = law r.base s t r.table c.steenrod c.bounded c.canonical }

-- the form in which the laws of resolutions are stated
pub table_of : (r : Resolution) (s t : ℕ) → IsResolved r s t → IsResolvedTable r.base s t r.table
table_of r s t p = record { free = free_modules_are_modules; commute = maps_commute; steenrod = p.steenrod; bounded = p.bounded; canonical = p.canonical }
