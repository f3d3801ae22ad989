-- How the quasi-inverses that a save file lacks are put behind its squares.
use Rattle.std.specs.Prelude.{◌≡◌, ◌≢◌, ◌⊎◌, ℕ, ◌≤◌, ◌<◌, ℤ, List, [], length, IsSome, IfSome, Result, Err, OnOk}
use Rattle.std.specs.Option.{option_map}
use Rattle.std.specs.List.{All, AllPairs}
use Rattle.edge.specs.Disk.{LeavesOnly, HavePast}
use Rattle.edge.specs.Faults.{HasRisen}
use Rattle.f2_matrix.specs.Reduction.{Reduction}
use Rattle.resolution_laws.specs.Start.{IsCanonicalStart}
use Rattle.square.specs.declared.keep.KeepFault.{KeepFault}
use Rattle.square.specs.declared.keep.KeepFault.TheVariants.{Failed, Memory}
use Rattle.square.specs.Squares.{Placed, over}
use Rattle.square.specs.Tables.{Staircase, row_in, plain_rows, AllRead, IsTable, IsQuasiAt}
use Rattle.square.specs.Keeping.{IsKeeperOf}
use Rattle.save_journal.specs.Journals.{ComeFromEarlier}
use Rattle.save_file.specs.Bodies.{Kept}
use Rattle.save_file.specs.Exactness.{IsInexactAt}
use Rattle.save_file.specs.Saved.{kept_of_table, quasi_kept}
use Rattle.save_file.specs.Saving.{SaveState, TakesSquares, kept_in, quasis_in, telling_of}
use Rattle.ext_run.specs.Devices.{Store}
use Rattle.ext_run.specs.Migrating.{Added, IsAddedBefore, with_added, KeepsAmid, KeepsAtPart, KeepsOn}

-- The save file takes records, and has the squares of the table, all of which were read, each with the quasi-inverse that it
-- has in the table.
pub record IsFileOf {D : Type 0} (disk : Store D) (table : Staircase) (k : SaveState D) : Type 0 where
  pub live : TakesSquares disk.now disk.images k
  pub of_table : IsKeeperOf (telling_of disk.now disk.moment disk.images disk.images_at disk.since disk.faults k) table
  pub quasis : IfSome (quasis_in disk.now k) (λ kept. kept ≡ kept_of_table table)
  pub is_table : IsTable table
  pub all_read : AllRead table.rows

-- The square is left out: it has its quasi-inverse, or its kernel rows are not those of the quasi-inverse, or d_s is not exact there,
-- by the kernel rows of the table.
abbrev pub IsLeftOut : Staircase → ℕ → ℤ → Placed → Type 0
IsLeftOut table s t q = IsSome q.quasi ⊎ ((r : Reduction) × IsQuasiAt table s t r × (r.kernel ≢ q.content.kernel))
    ⊎ IsInexactAt table s t

-- where the disk tells, each image since old has P of what was kept then
abbrev pub LeavesOf : {D : Type 0} → Store D → SaveState D → SaveState D → (List Kept → List ℕ → Type 0) → Type 0
LeavesOf disk old new P = IfSome (quasis_in disk.now old)
    (λ kept. LeavesOnly disk.moment disk.since old.journal.disk new.journal.disk (P kept))

-- From old to new the save file got quasi-inverses at such places, in order, and nothing else. Where it still takes records, no
-- image has one more than some first of them.
pub record HasAdded {D : Type 0} (disk : Store D) (at : ℕ → ℕ → Type 0) (old new : SaveState D) : Type 0 where
  pub given : List Added
  pub places : All (λ q. at q.s q.above) given
  pub ordered : AllPairs IsAddedBefore given
  pub same_module : new.resolved ≡ old.resolved
  pub same_start : new.start ≡ old.start
  pub squares : kept_in disk.now new ≡ kept_in disk.now old
  pub quasis : quasis_in disk.now new ≡ option_map (λ kept. with_added kept given) (quasis_in disk.now old)
  pub never_falls : disk.faults old.journal.disk ≤ disk.faults new.journal.disk
  pub later : disk.moment old.journal.disk ≤ disk.moment new.journal.disk
  pub moments : LeavesOf disk old new (λ kept. KeepsAmid old.resolved.plain kept given)
  pub exact : TakesSquares disk.now disk.images new →
      LeavesOf disk old new (λ kept. KeepsAtPart old.resolved.plain kept given)
  pub past : HavePast disk.moment disk.images_at old.journal.disk new.journal.disk
  pub retained : IfSome (disk.now old.journal.disk) (λ _. ComeFromEarlier disk.moment disk.images_at old.journal.disk
      new.journal.disk (KeepsOn old.resolved.plain))

-- So did the table, if none of it failed: it has the same squares. If they are canonical, each at such a place has its
-- quasi-inverse then. Where none was given, and the disk did not fail, the file is as it was.
pub record HasFilled {D T : Type 0} (disk : Store D) (at : ℕ → ℕ → Type 0) (result : Result T KeepFault)
    (before after : Staircase) (old new : SaveState D) : Type 0 where
  pub added : HasAdded disk at old new
  pub resolved : after.resolved ≡ before.resolved
  pub start : after.start ≡ before.start
  pub contents : plain_rows after.rows ≡ plain_rows before.rows
  pub stays : (s k : ℕ) → IsSome (quasi_kept before.rows s k) → IsSome (quasi_kept after.rows s k)
  pub is_file : OnOk result (IsFileOf disk after new)
  pub no_fault : OnOk result (disk.faults new.journal.disk ≡ disk.faults old.journal.disk)
  pub whole : OnOk result (IsCanonicalStart (over before.resolved) before.start → (s k : ℕ) → at s k →
      k < length (row_in after.rows s) → IsSome (quasi_kept after.rows s k))
  pub idle : result ≢ Err Failed → added.given ≡ [] → new ≡ old
  pub failed : result ≡ Err Failed → HasRisen (disk.faults old.journal.disk) (disk.faults new.journal.disk)
  pub memory : result ≡ Err Memory →
      TakesSquares disk.now disk.images new × (disk.faults new.journal.disk ≡ disk.faults old.journal.disk)
