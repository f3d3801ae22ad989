-- What is told behind the line of a failure.
use Rattle.std.specs.Prelude.{◌≡◌, ◌⊎◌, ℕ, ◌≤◌, List, ◌++◌, Option, None, codes, if◌then◌else◌, ◌==◌, IfSome}
use Rattle.std.specs.IoError.{error_kind}
use Rattle.std.specs.declared.io.ErrorKind.{ErrorKind}
use Rattle.std.specs.declared.io.ErrorKind.TheVariants.{NotFound, PermissionDenied, ReadOnlyFilesystem, StorageFull, QuotaExceeded, FileTooLarge, NotSeekable, FilesystemLoop, UnexpectedEof, StaleNetworkFileHandle, Unsupported, Uncategorized}
use Rattle.edge.specs.Disk.{IsTold}
use Rattle.edge.specs.Faults.{HasRisen}
use Rattle.edge.specs.Sink.{with_more, HasPrefixMore}
use Rattle.ext_report.specs.declared.status.TheConstants.{NO_CLASS, OUTSIDE_GRAMMAR, SAVING}
use Rattle.ext_words.specs.Remark.{remark_of, remark_on_classes}
use Rattle.path_file.specs.declared.fault.Call.{Call}
use Rattle.path_file.specs.declared.fault.Call.TheVariants.{Open, Lock, Measure, Read, Write, Sync}
use Rattle.path_file.specs.declared.fault.Fault.{Fault}
use Rattle.path_file.specs.Faults.{is_held}

abbrev pub call_text : Call → List ℕ
call_text Open = codes "ext: ext.save: cannot open: "
call_text Lock = codes "ext: ext.save: cannot lock: "
call_text Measure = codes "ext: ext.save: cannot tell its length: "
call_text Read = codes "ext: ext.save: cannot read: "
call_text Write = codes "ext: ext.save: cannot write: "
call_text Sync = codes "ext: ext.save: cannot sync: "

abbrev pub reason_text : ErrorKind → List ℕ
reason_text NotFound = codes "no such file\n"
reason_text PermissionDenied = codes "permission denied\n"
reason_text ReadOnlyFilesystem = codes "read-only file system\n"
reason_text StorageFull = codes "no space left on device\n"
reason_text QuotaExceeded = codes "disk quota exceeded\n"
reason_text FileTooLarge = codes "file too large\n"
reason_text NotSeekable = codes "not a regular file\n"
reason_text FilesystemLoop = codes "too many links\n"
reason_text UnexpectedEof = codes "it ends too early\n"
reason_text StaleNetworkFileHandle = codes "stale file handle\n"
reason_text Unsupported = codes "not supported\n"
reason_text Uncategorized = codes "input/output error\n"
reason_text _ = codes "another error\n"

-- the line on a call on the save file that failed
abbrev pub fault_line : Fault → List ℕ
fault_line fault =
    if is_held fault then codes "ext: another run holds ext.save\n" else call_text fault.call ++ reason_text (error_kind fault.error)

-- Standard error, by its trait's written and faults, got that line, or a first part of it where a write to it failed.
pub record HasToldLine {E : Type 0} (written : E → Option (List ℕ)) (faults : E → ℕ) (line : List ℕ) (old new : E) : Type 0 where
  pub begun : HasPrefixMore line (written old) (written new)
  pub whole : (HasRisen (faults old) (faults new) → ⊥) → written new ≡ with_more (written old) line
  pub never_falls : faults old ≤ faults new

-- A run that ended with this status told the fault of the save file, if the status is that of one and it is known; else no call was made.
pub record HasToldFault {E : Type 0} (written : E → Option (List ℕ)) (faults : E → ℕ) (status : ℕ) (fault : Option Fault)
    (old new : E) : Type 0 where
  pub told : status ≡ SAVING → IfSome fault (λ f. HasToldLine written faults (fault_line f) old new)
  pub silent : (status ≡ SAVING → fault ≡ None) → new ≡ old

-- what there is to tell of these words behind the line of a failure with this status
abbrev pub remark_for : ℕ → List (List ℕ) → Option (List ℕ)
remark_for status words =
    if status == OUTSIDE_GRAMMAR then remark_of words else if status == NO_CLASS then remark_on_classes words else None

-- A run of these words that ended with this status told more of them, or made no call.
abbrev pub HasRemarked : {E : Type 0} → (E → Option (List ℕ)) → (E → ℕ) → ℕ → List (List ℕ) → E → E → Type 0
HasRemarked written faults status words old new =
    (new ≡ old) ⊎ IsTold (remark_for status words) (λ line. HasToldLine written faults line old new)
