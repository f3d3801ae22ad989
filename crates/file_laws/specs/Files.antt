-- The file of a module: its generators, and the squares Sq^n, n a power of two, that are not zero.
use Rattle.std.specs.Prelude.{◌≡◌, ℕ, ◌≤◌, pos, ◌+ℤ◌, if◌then◌else◌, List, [], ◌∷◌, length, map, None}
use Rattle.std.specs.List.{flat_map, range_with_len, items_where_true, list_any}
use Rattle.module_spec.specs.Spec.{Entry, File, degree_at, powers}
use Rattle.finite_module.specs.Module.{Module, generators_in}
use Rattle.finite_module.specs.DerivedAction.{span, derived_module}
use Rattle.module_check.specs.Acceptance.{refusal_of}
use Rattle.finite_module.specs.Axioms.{IsModule, value_of}
use Rattle.module_spec.specs.WellFormed.{NeverFall}
use Rattle.built_laws.specs.Constructed.{IsRenamed}

-- the entry of Sq^n on generator i, where it is not zero
abbrev pub entry_of : Module → ℕ × ℕ → List Entry
entry_of m k =
    let v = value_of m (k.1 ∷ []) k.0 in
    if list_any (λ b. b) v
    then record {
      n = k.1;
      generator = k.0;
      sum = items_where_true v (generators_in m.generators (degree_at m.generators k.0 +ℤ pos k.1));
    }
    ∷ []
    else []

abbrev pub squares_of : Module → List (ℕ × ℕ)
squares_of m = flat_map (λ i. map (λ n. (i, n)) powers) (range_with_len 0 (length m.generators))

abbrev pub file_of : Module → File
file_of m = record { generators = m.generators; entries = flat_map (entry_of m) (squares_of m) }

-- the file of a module is accepted, and gives the module back
abbrev pub FilesGiveBack : Type 0
FilesGiveBack = (m : Module) → NeverFall m.generators → span m.generators ≤ 64 → IsModule m →
    (refusal_of (file_of m) ≡ None) × IsRenamed (derived_module (file_of m)) m
