-- What holds of each module that a file describes.
use Rattle.std.specs.Prelude.{◌≡◌, ◌≢◌, ◌<◌, ◌≤◌, pos, ◌+ℤ◌, neg_ℤ, ◌≤ℤ◌, List, length, IsTrue, AllPairs, All}
use Rattle.std.specs.List.Sorted.{IsStrictlyIncreasing}
use Rattle.module_spec.specs.declared.limits.TheConstants.{MAX_GENERATORS, MAX_ACTIONS, MAX_DEGREE, MAX_SPAN}
use Rattle.module_spec.specs.Names.{is_name}
use Rattle.module_spec.specs.Spec.{Generator, Entry, File, degree_at}

-- the degrees of generators do not fall
abbrev pub NeverFall : List Generator → Type 0
NeverFall gs = AllPairs (λ g h. g.degree ≤ℤ h.degree) gs

-- The limits of generators: how many they are, where their degrees lie, and how far apart. They stand by degree.
pub record AreByDegree (gs : List Generator) : Type 0 where
  pub few : length gs ≤ MAX_GENERATORS
  pub lowest : All (λ g. neg_ℤ MAX_DEGREE ≤ℤ g.degree) gs
  pub highest : All (λ g. g.degree ≤ℤ MAX_DEGREE) gs
  pub ordered : NeverFall gs
  pub span : AllPairs (λ g h. h.degree ≤ℤ (g.degree +ℤ pos MAX_SPAN)) gs

-- The action of a square on a generator: its sum is of generators n degrees above, in basis order and each once.
pub record IsEntryOf (gs : List Generator) (e : Entry) : Type 0 where
  pub square : 1 ≤ e.n
  pub digits : e.n ≤ 999
  pub generator : e.generator < length gs
  pub rising : IsStrictlyIncreasing e.sum
  pub within : All (λ j. j < length gs) e.sum
  pub degrees : All (λ j. degree_at gs j ≡ (degree_at gs e.generator +ℤ pos e.n)) e.sum

-- two entries of one square on one generator have one sum
pub record Agree (e f : Entry) : Type 0 where
  pub sums : e.n ≡ f.n → e.generator ≡ f.generator → e.sum ≡ f.sum

pub record IsWellFormed (file : File) : Type 0 where
  pub by_degree : AreByDegree file.generators
  pub names : All (λ g. IsTrue (is_name g.name)) file.generators
  pub distinct : AllPairs (λ g h. g.name ≢ h.name) file.generators
  pub few_entries : length file.entries ≤ MAX_ACTIONS
  pub actions : All (IsEntryOf file.generators) file.entries
  pub agree : AllPairs Agree file.entries
