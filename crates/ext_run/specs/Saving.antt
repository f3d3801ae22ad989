-- What a run that keeps squares does with its save file.
use Rattle.std.specs.Prelude.{◌≡◌, ℕ, ◌≤◌, ◌⊎◌, List, [], ◌++◌, length, Option, Some, IsSome, IfSome, Ok}
use Rattle.std.specs.List.{All}
use Rattle.std.specs.Result.{result_ok}
use Rattle.bidegree.specs.declared.range.Range.{Range}
use Rattle.finite_module.specs.Module.{Module as SteenrodModule}
use Rattle.resolution_step.specs.Alone.{IsInRange}
use Rattle.resolution_laws.specs.Start.{Entry, entry_at, AreOf}
use Rattle.square.specs.Keeping.{HasFirst}
use Rattle.square.specs.Squares.{module_over}
use Rattle.save_journal.specs.Records.{records_of, opened}
use Rattle.save_file.specs.Bodies.{Kept, entries}
use Rattle.save_file.specs.Files.{digest_of, standing_of, kept_by}
use Rattle.run_file.specs.RunFile.{KeepsQuasis}
use Rattle.ext_run.specs.Devices.{Store}

-- ---- the file

-- the squares are those of the canonical resolution
abbrev pub AreCanonical : SteenrodModule → List Entry → Type 0
AreCanonical m list = AreOf (module_over m) [] list

-- the file stands for the list, or it and one square more, all of them canonical
pub record StandsWith (m : SteenrodModule) (list : List Entry) (file : List ℕ) : Type 0 where
  pub more : List Entry
  pub at_most_one : length more ≤ 1
  pub canonical : AreCanonical m (list ++ more)
  pub stands : standing_of m file ≡ Ok (list ++ more)

-- the file stands so for the list with a first part of the given squares behind it
pub record StandsAmid (m : SteenrodModule) (list given : List Entry) (file : List ℕ) : Type 0 where
  pub first : List Entry
  pub rest : List Entry
  pub parts : given ≡ first ++ rest
  pub with_more : StandsWith m (list ++ first) file

-- the file stands for just the list and a first part of the given squares, with no square more
pub record StandsAtPart (m : SteenrodModule) (list given : List Entry) (file : List ℕ) : Type 0 where
  pub first : List Entry
  pub rest : List Entry
  pub parts : given ≡ first ++ rest
  pub stands : standing_of m file ≡ Ok (list ++ first)

-- the file stands for what one of these images stands for
abbrev pub StandsAsOneOf : SteenrodModule → (List ℕ → Type 0) → List ℕ → Type 0
StandsAsOneOf m images file = (d : List ℕ) × images d × (standing_of m file ≡ standing_of m d)

-- the squares that the file stands for, none where it is refused
abbrev pub squares_of : SteenrodModule → List ℕ → Option (List Entry)
squares_of m file = result_ok (standing_of m file)

-- what the file keeps: its squares, each with its quasi-inverse or none, and nothing where it is refused
abbrev pub kept_of : SteenrodModule → List ℕ → List Kept
kept_of m file = kept_by (module_over m) (records_of (digest_of m) file)

-- the given squares stand at the end of what the file keeps, each with its quasi-inverse
pub record KeepsWhole (m : SteenrodModule) (given : List Entry) (file : List ℕ) : Type 0 where
  pub first : List Kept
  pub rest : List Kept
  pub parts : kept_of m file ≡ first ++ rest
  pub squares : entries rest ≡ given
  pub whole : All (λ k. IsSome k.quasi) rest

-- The disk is ours for the list: whatever a crash now leaves of it stands for the list, or it and one square more.
abbrev pub IsOurs : SteenrodModule → List Entry → (List ℕ → Type 0) → Type 0
IsOurs m list images = (c : List ℕ) → images c → StandsWith m list c

-- ---- a run

-- Of the disk of a run, old and in the end new, a crash may have left these bytes at some moment of the run, or may leave them now.
abbrev pub MayBeLeft : {D : Type 0} → Store D → D → D → List ℕ → Type 0
MayBeLeft disk old new c = disk.since new (disk.moment old) c ⊎ disk.images new c

-- Nothing was written: the disk holds what it held, and where it tells, a crash leaves at each moment what it might have left before.
abbrev pub IsUnwritten : {D : Type 0} → Store D → D → D → Type 0
IsUnwritten disk old new =
    (disk.now new ≡ disk.now old)
    × IfSome (disk.now old) (λ _. (c : List ℕ) → MayBeLeft disk old new c → disk.images old c)

-- The disk was not written if it held a file that opening it leaves as it is, which is one that is not short of a header and a gate.
abbrev pub StaysIfWhole : {D : Type 0} → Store D → SteenrodModule → D → D → Type 0
StaysIfWhole disk m old new = (file : List ℕ) → disk.now old ≡ Some file → opened (digest_of m) file ≡ file →
    IsUnwritten disk old new

-- the list has each square of the range
abbrev pub HasRange : Range → List Entry → Type 0
HasRange range list = (s k : ℕ) → s ≤ range.s → k ≤ range.t → IsSome (entry_at list s k)

-- From old to new the file of a run was taken up, and from then on no square is away again, not even for a moment: if each
-- image at a moment has these squares, so has each image at every later moment. Until then a crash would have left what stands
-- for what one before the run stands for.
pub record HasRetained {D : Type 0} (disk : Store D) (m : SteenrodModule) (old new : D) : Type 0 where
  pub taken_up : ℕ
  pub until : (t : ℕ) → disk.moment old ≤ t → t ≤ taken_up → (c : List ℕ) → disk.images_at new t c →
      StandsAsOneOf m (disk.images old) c
  pub from : (first : List Entry) (t u : ℕ) → taken_up ≤ t → t ≤ u → u ≤ disk.moment new →
      ((c : List ℕ) → disk.images_at new t c → HasFirst first (squares_of m c)) →
      (c : List ℕ) → disk.images_at new u c → HasFirst first (squares_of m c)

-- From old to new the disk of a run, which was ours for the list, kept its squares: the run took up the list, or it and one square
-- more, and put the given ones behind them. At every moment since it began a crash would have left the list and at most one square
-- more, or what was taken up, a first part of what was given, and at most one square more, and none is away again. In the end it is
-- ours for all of them.
--
-- Unless the disk failed, there is no square more: at every moment an image stands for what one from before the run stood for, or for
-- just what was taken up and a first part of what was given; and in the end each image has just all of them, or nothing was written,
-- and keeps the given ones with their quasi-inverses, and each quasi-inverse that the file kept before the run. Where nothing was
-- given, a file that opening it leaves as it is was not written. If there was an answer, each image has just all of them, each square
-- of the range is among them, and the run took up what the file stood for.
pub record HasLasted {D : Type 0} (disk : Store D) (m : SteenrodModule) (range : Range) (list : List Entry)
    (had_answer unfailed : Type 0) (old new : D) : Type 0 where
  pub more : List Entry
  pub given : List Entry
  pub from_file : had_answer → (file : List ℕ) → disk.now old ≡ Some file → standing_of m file ≡ Ok (list ++ more)
  pub places : All (λ e. IsInRange range e.s e.above) given
  pub at_most_one : length more ≤ 1
  pub canonical : AreCanonical m ((list ++ more) ++ given)
  pub moments : (c : List ℕ) → disk.since new (disk.moment old) c →
      StandsWith m list c ⊎ StandsAmid m (list ++ more) given c
  pub retained : HasRetained disk m old new
  pub ours : IsOurs m ((list ++ more) ++ given) (disk.images new)
  pub keeps : unfailed → (c : List ℕ) → disk.since new (disk.moment old) c →
      StandsAsOneOf m (disk.images old) c ⊎ StandsAtPart m (list ++ more) given c
  pub settled : unfailed →
      ((more ≡ []) × (given ≡ []) × IsUnwritten disk old new)
      ⊎ ((c : List ℕ) → disk.images new c → standing_of m c ≡ Ok ((list ++ more) ++ given))
  pub made : unfailed → (c : List ℕ) → disk.images new c → KeepsWhole m given c
  pub stay : unfailed → IsUnwritten disk old new
      ⊎ ((file : List ℕ) → disk.now old ≡ Some file → (c : List ℕ) → disk.images new c →
      KeepsQuasis (kept_of m file) (kept_of m c))
  pub idle : unfailed → given ≡ [] → StaysIfWhole disk m old new
  pub exact : had_answer → (c : List ℕ) → disk.images new c → standing_of m c ≡ Ok ((list ++ more) ++ given)
  pub whole : had_answer → HasRange range ((list ++ more) ++ given)
