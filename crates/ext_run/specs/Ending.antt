-- How a run ends: by a text or by a failure.
use Rattle.std.specs.Prelude.{◌≡◌, ℕ, ◌≤◌, List, Option}
use Rattle.edge.specs.Faults.{HasRisen}
use Rattle.edge.specs.Sink.{with_more, HasPrefixMore}
use Rattle.ext_report.specs.Failure.{status_of}
use Rattle.ext_report.specs.declared.failure.Failure.{Failure}
use Rattle.ext_report.specs.Lines.{line_of}

-- Standard error, by its trait's written and faults, got the line of the failure, or a first part of it where a write to it
-- failed; the status is the failure's.
pub record HasTold {E : Type 0} (written : E → Option (List ℕ)) (faults : E → ℕ) (failure : Failure) (status : ℕ)
    (old new : E) : Type 0 where
  pub status_is : status ≡ status_of failure
  pub line : HasPrefixMore (line_of failure) (written old) (written new)
  pub whole_line : (HasRisen (faults old) (faults new) → ⊥) → written new ≡ with_more (written old) (line_of failure)
  pub never_falls : faults old ≤ faults new

-- The sink of the answer, by its trait's written and faults, got the text whole.
pub record HasGotWhole {O : Type 0} (written : O → Option (List ℕ)) (faults : O → ℕ) (text : List ℕ) (old new : O)
    : Type 0 where
  pub whole : written new ≡ with_more (written old) text
  pub no_fault : faults new ≡ faults old

-- It got a first part of the text, and a write failed.
pub record HasGotPart {O : Type 0} (written : O → Option (List ℕ)) (faults : O → ℕ) (text : List ℕ) (old new : O)
    : Type 0 where
  pub prefix : HasPrefixMore text (written old) (written new)
  pub risen : HasRisen (faults old) (faults new)
  pub never_falls : faults old ≤ faults new
