-- A minimal resolution has the same numbers of generators as any other.
use Rattle.std.specs.Prelude.{◌≡◌, ℕ, ◌≤◌, pos, ◌+ℤ◌, List}
use Rattle.free_module.specs.Graded.{IsSteenrodModule}
use Rattle.resolution_laws.specs.Resolution.{Module, Content, generator_count}
use Rattle.resolution_laws.specs.Exactness.{IsTable, IsExactAt, AreNeededAt, IsMinimalResolution}

-- What of a minimal resolution fixes these numbers: the table is exact, and each of its generators is needed.
pub record IsMinimalTable (m : Module) (s t : ℕ) (table : List (List Content)) : Type 0 where
  pub is_table : IsTable m s t table
  pub exact : (i k : ℕ) → i ≤ s → k ≤ t → IsExactAt m table i (m.bottom +ℤ pos k)
  pub needed : (i k : ℕ) → i ≤ s → k ≤ t → AreNeededAt m table i k

abbrev pub HaveSameCounts : ℕ → ℕ → List (List Content) → List (List Content) → Type 0
HaveSameCounts s t a b = (i k : ℕ) → i ≤ s → k ≤ t → generator_count a i k ≡ generator_count b i k

abbrev pub MinimalTablesHaveSameCounts : Type 0
MinimalTablesHaveSameCounts = (m : Module) (s t : ℕ) (a b : List (List Content)) → IsSteenrodModule m.graded →
    IsMinimalTable m s t a → IsMinimalTable m s t b → HaveSameCounts s t a b

abbrev pub MinimalResolutionsHaveSameCounts : Type 0
MinimalResolutionsHaveSameCounts = (m : Module) (s t : ℕ) (a b : List (List Content)) → IsSteenrodModule m.graded →
    IsMinimalResolution m s t a → IsMinimalResolution m s t b → HaveSameCounts s t a b
