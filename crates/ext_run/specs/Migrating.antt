-- What a run does with a save file that it brings up to date: each square of the file gets its quasi-inverse.
use Rattle.std.specs.Prelude.{◌≡◌, ℕ, ◌≤◌, ◌<◌, ◌⊎◌, List, [], ◌∷◌, ◌++◌, length, Some, IsSome, Ok}
use Rattle.std.specs.List.{All, AllPairs}
use Rattle.f2_matrix.specs.Reduction.{Reduction}
use Rattle.finite_module.specs.Module.{Module as SteenrodModule}
use Rattle.resolution_laws.specs.Start.{Entry}
use Rattle.save_journal.specs.Journals.{HasRecordsOf, ComeFromEarlier}
use Rattle.save_file.specs.Bodies.{Kept, entries, with_quasi_at}
use Rattle.save_file.specs.Files.{digest_of, standing_of}
use Rattle.run_file.specs.RunFile.{KeepsQuasis}
use Rattle.ext_run.specs.Devices.{Store}
use Rattle.ext_run.specs.Saving.{AreCanonical, kept_of, IsOurs, IsUnwritten, StaysIfWhole}

-- ---- the file

-- a quasi-inverse that is put behind the squares of a file: the place of its square, and the reduction
pub record Added : Type 0 where
  pub s : ℕ
  pub above : ℕ
  pub reduction : Reduction

-- p is for a square in a lower row than q, or for one before it in the same row
abbrev pub IsAddedBefore : Added → Added → Type 0
IsAddedBefore p q = (p.s < q.s) ⊎ ((p.s ≡ q.s) × (p.above < q.above))

-- the squares with these quasi-inverses, put behind them one after the other
abbrev pub with_added : List Kept → List Added → List Kept
with_added kept [] = kept
with_added kept (q ∷ more) = with_added (with_quasi_at kept q.s q.above q.reduction) more

-- the file stands for these squares, and has for each of them this quasi-inverse or none
pub record Keeps (m : SteenrodModule) (kept : List Kept) (file : List ℕ) : Type 0 where
  pub stands : standing_of m file ≡ Ok (entries kept)
  pub quasis : kept_of m file ≡ kept

-- so it does, where some of them have got a first part of the given quasi-inverses, and at most one more
pub record KeepsAmid (m : SteenrodModule) (kept : List Kept) (given : List Added) (file : List ℕ) : Type 0 where
  pub first : List Added
  pub rest : List Added
  pub parts : given ≡ first ++ rest
  pub more : List Added
  pub at_most_one : length more ≤ 1
  pub keeps : Keeps m (with_added kept (first ++ more)) file

-- so it does, where some of them have got a first part of the given ones, and no more
pub record KeepsAtPart (m : SteenrodModule) (kept : List Kept) (given : List Added) (file : List ℕ) : Type 0 where
  pub first : List Added
  pub rest : List Added
  pub parts : given ≡ first ++ rest
  pub keeps : Keeps m (with_added kept first) file

-- the second file stands for what the first stands for, and has each quasi-inverse that the first has
pub record KeepsOn (m : SteenrodModule) (d c : List ℕ) : Type 0 where
  pub stands : standing_of m c ≡ standing_of m d
  pub quasis : KeepsQuasis (kept_of m d) (kept_of m c)

-- ---- a run

-- From old to new the disk of a run, which was ours for the list, got quasi-inverses: the run took up what the file kept, which is
-- the list, or it and one square more, each with its quasi-inverse or none, and put the given ones behind that, row by row and in a
-- row by degree. It gave no square. At every moment since it began an image has the records of one from before the run, or is what was
-- taken up with a first part of what was given and at most one quasi-inverse more. In the end the disk is ours for the squares that
-- were taken up.
--
-- Unless the disk failed, there is none more, and in the end each image is just what was taken up with all that was given, or nothing
-- was written. Where nothing was given, a file that opening it leaves as it is was not written. If there was an answer, what was taken up
-- is what the file kept, and each square has its quasi-inverse in the end.
--
-- No square and no quasi-inverse is away again, not even for a moment: an image at a moment comes from one at each earlier moment, and
-- keeps what that has.
pub record HasMigrated {D : Type 0} (disk : Store D) (m : SteenrodModule) (list : List Entry)
    (had_answer unfailed : Type 0) (old new : D) : Type 0 where
  pub kept : List Kept
  pub more : List Entry
  pub given : List Added
  pub from_file : had_answer → (file : List ℕ) → disk.now old ≡ Some file → kept_of m file ≡ kept
  pub squares : entries kept ≡ list ++ more
  pub at_most_one : length more ≤ 1
  pub canonical : AreCanonical m (list ++ more)
  pub ordered : AllPairs IsAddedBefore given
  pub moments : (c : List ℕ) → disk.since new (disk.moment old) c →
      HasRecordsOf (digest_of m) (disk.images old) c ⊎ KeepsAmid m kept given c
  pub ours : IsOurs m (list ++ more) (disk.images new)
  pub keeps : unfailed → (c : List ℕ) → disk.since new (disk.moment old) c →
      HasRecordsOf (digest_of m) (disk.images old) c ⊎ KeepsAtPart m kept given c
  pub settled : unfailed →
      ((more ≡ []) × (given ≡ []) × IsUnwritten disk old new)
      ⊎ ((c : List ℕ) → disk.images new c → Keeps m (with_added kept given) c)
  pub idle : unfailed → given ≡ [] → StaysIfWhole disk m old new
  pub exact : had_answer → (c : List ℕ) → disk.images new c → Keeps m (with_added kept given) c
  pub whole : had_answer → All (λ k. IsSome k.quasi) (with_added kept given)
  pub retained : ComeFromEarlier disk.moment disk.images_at old new (KeepsOn m)
