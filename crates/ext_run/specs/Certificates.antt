-- Save files as certificates, and what becomes of one that is verified.
use Rattle.std.specs.Prelude.{◌≡◌, ℕ, List, Ok}
use Rattle.bidegree.specs.declared.range.Range.{Range}
use Rattle.finite_module.specs.Module.{Module as SteenrodModule}
use Rattle.square.specs.Tables.{Staircase, AllRead, IsTable}
use Rattle.cert_check.specs.Certified.{Certifies, IsFirstFault}
use Rattle.cert_check.specs.declared.fault.CertFault.{CertFault}
use Rattle.save_journal.specs.Journals.{HasRecordsOf}
use Rattle.save_file.specs.Files.{digest_of, standing_of}
use Rattle.save_file.specs.Saved.{kept_of_table}
use Rattle.ext_run.specs.Devices.{Store}
use Rattle.ext_run.specs.Saving.{kept_of, MayBeLeft, StaysIfWhole}

-- ---- the file

-- The file is taken up as this table of the module: its squares, all of them read, each with its quasi-inverse if the file
-- keeps that.
pub record IsTakenUpAs (m : SteenrodModule) (file : List ℕ) (table : Staircase) : Type 0 where
  pub of_module : table.resolved.plain ≡ m
  pub is_table : IsTable table
  pub all_read : AllRead table.rows
  pub stands : standing_of m file ≡ Ok table.start
  pub keeps : kept_of m file ≡ kept_of_table table

-- The file certifies the range: the table that it is taken up as does.
abbrev pub IsCertificate : Range → SteenrodModule → List ℕ → Type 0
IsCertificate range m file = (table : Staircase) × IsTakenUpAs m file table × Certifies table range

-- It is one of the module and does not certify the range, by this fault of the first square that is not certified.
abbrev pub IsNoCertificate : Range → SteenrodModule → List ℕ → CertFault → Type 0
IsNoCertificate range m file fault = (table : Staircase) × IsTakenUpAs m file table × IsFirstFault table range fault

-- ---- what a file decides

-- no file is both, and it has one fault at most
pub record CertificateIsDecided : Type 0 where
  pub apart : (range : Range) (m : SteenrodModule) (file : List ℕ) (fault : CertFault) →
      IsCertificate range m file → IsNoCertificate range m file fault → ⊥
  pub one_fault : (range : Range) (m : SteenrodModule) (file : List ℕ) (e f : CertFault) →
      IsNoCertificate range m file e → IsNoCertificate range m file f → e ≡ f

-- ---- a run

-- What becomes of a save file that is verified and of its disk, from old to new, whoever left it there. The file is a
-- certificate if there was an answer; where it is none, that is told, unless it was not looked at. Nothing is put behind its
-- records: each image since the run began, and each now, has the records of one from before. Unless the disk failed, a file
-- that opening it leaves as it is was not written.
pub record HasVerified {D : Type 0} (disk : Store D) (range : Range) (m : SteenrodModule) (file : List ℕ)
    (had_answer unfailed : Type 0) (IsTold : CertFault → Type 0) (old new : D) : Type 0 where
  pub certified : had_answer → IsCertificate range m file
  pub told : (fault : CertFault) → IsNoCertificate range m file fault → IsTold fault
  pub moments : (c : List ℕ) → MayBeLeft disk old new c → HasRecordsOf (digest_of m) (disk.images old) c
  pub left_alone : unfailed → StaysIfWhole disk m old new
