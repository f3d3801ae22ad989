-- The keeper of a save file.
use Rattle.std.specs.Prelude.{◌≡◌, ◌⊎◌, ℕ, ◌≤◌, ℤ, pos, ◌+ℤ◌, List, ◌++◌, length, Option, Some, None, Ok, IsSome, IfSome}
use Rattle.std.specs.Option.{option_map}
use Rattle.std.specs.List.{All}
use Rattle.finite_module.specs.Checked.{Checked}
use Rattle.resolution_laws.specs.Start.{Entry, AreOf}
use Rattle.square.specs.Squares.{over, bottom_of}
use Rattle.square.specs.Keeping.{Keeper}
use Rattle.save_journal.specs.Records.{records_of}
use Rattle.save_journal.specs.Journals.{JournalState, IsLive}
use Rattle.f2_matrix.specs.Reduction.{Reduction}
use Rattle.square.specs.Tables.{Staircase, IsQuasiAt}
use Rattle.save_file.specs.Bodies.{Kept, entries, kept_at, with_quasi_at}
use Rattle.save_file.specs.Reading.{kept_of_bodies, squares_of}
use Rattle.save_file.specs.Files.{digest_of, squares_in, first_squares, first_kept}

-- What contracts see of a save file: its journal, how many records were read or appended, and the module and the start that it
-- was taken up with.
pub record SaveState (D : Type 0) : Type 0 where
  pub journal : JournalState D
  pub count : ℕ
  pub resolved : Checked
  pub start : List Entry

-- The file has so many records, and they are read as squares of the start's table: those of the start, which were read when the
-- file was taken up, and behind them those that were made since, each with its quasi-inverse.
pub record HasSquares (m : Checked) (start : List Entry) (count : ℕ) (file : List ℕ) : Type 0 where
  pub bodies : List (List ℕ)
  pub list : List Entry
  pub records : records_of (digest_of m.plain) file ≡ Ok bodies
  pub counted : length bodies ≡ count
  pub squares : squares_of (over m) bodies ≡ Ok list
  pub kept : List Kept
  pub kept_are : kept_of_bodies (over m) bodies ≡ Ok kept
  pub are_of : AreOf (over m) start list
  pub read : List Kept
  pub made : List Kept
  pub parts : kept ≡ read ++ made
  pub read_are : entries read ≡ start
  pub whole : All (λ k. IsSome k.quasi) made

-- The save file takes squares: its journal takes records, which belong to its module, and where the disk tells, all records are
-- counted and are squares. No more are counted than there are bytes.
pub record TakesSquares {D : Type 0} (now : D → Option (List ℕ)) (images : D → List ℕ → Type 0) (k : SaveState D)
    : Type 0 where
  pub live : IsLive now images k.journal
  pub digest : k.journal.digest ≡ digest_of k.resolved.plain
  pub few : k.count ≤ k.journal.end
  pub has : IfSome (now k.journal.disk) (HasSquares k.resolved k.start k.count)

-- the squares that it has kept, each with the quasi-inverse that the file keeps for it, if there is one
abbrev pub quasis_in : {D : Type 0} → (D → Option (List ℕ)) → SaveState D → Option (List Kept)
quasis_in now k = option_map (first_kept k.resolved k.count) (now k.journal.disk)

-- the square (s, k) is kept, without a quasi-inverse
pub record IsKeptBare (kept : List Kept) (s k : ℕ) : Type 0 where
  pub square : Kept
  pub there : kept_at kept s k ≡ Some square
  pub bare : square.quasi ≡ None

-- what is kept now is what was kept, or that with the quasi-inverse of the table's square in row s and of degree t
abbrev pub HasQuasiOrNot : Staircase → ℕ → ℤ → List Kept → List Kept → Type 0
HasQuasiOrNot table s t before now = (now ≡ before)
    ⊎ ((k : ℕ) × (r : Reduction) × (t ≡ bottom_of table.resolved +ℤ pos k) × IsQuasiAt table s t r
    × (now ≡ with_quasi_at before s k r))

-- the squares of the records that are counted, told where the disk tells
abbrev pub kept_in : {D : Type 0} → (D → Option (List ℕ)) → SaveState D → Option (List Entry)
kept_in now k = option_map (first_squares k.resolved k.count) (now k.journal.disk)

-- the image is what a file stands for that a crash at that moment may have left
abbrev pub WasLeftAt : {D : Type 0} → (D → ℕ → List ℕ → Type 0) → SaveState D → ℕ → Option (List Entry) → Type 0
WasLeftAt images_at k t image = (c : List ℕ) × images_at k.journal.disk t c × (image ≡ squares_in k.resolved c)

-- the image is what a file stands for that a crash may have left since then
abbrev pub WasLeft : {D : Type 0} → (D → ℕ → List ℕ → Type 0) → SaveState D → ℕ → Option (List Entry) → Type 0
WasLeft since k t image = (c : List ℕ) × since k.journal.disk t c × (image ≡ squares_in k.resolved c)

-- What contracts see of it as a keeper. Its faults and moments are its disk's.
abbrev pub telling_of : {D : Type 0} → (D → Option (List ℕ)) → (D → ℕ) → (D → List ℕ → Type 0) →
    (D → ℕ → List ℕ → Type 0) → (D → ℕ → List ℕ → Type 0) → (D → ℕ) → SaveState D → Keeper
telling_of now moment images images_at since faults k = record {
  live = TakesSquares now images k;
  faults = faults k.journal.disk;
  kept = kept_in now k;
  resolved = Some k.resolved;
  start = Some k.start;
  moment = moment k.journal.disk;
  images_at = WasLeftAt images_at k;
  since = WasLeft since k;
}
