-- What becomes of standard error where it is reported how far a range is resolved.
use Rattle.std.specs.Prelude.{◌≡◌, ℕ, ◌≤◌, List, [], ◌++◌, Option, Some, None, Result, Ok, Err}
use Rattle.bidegree.specs.declared.range.Range.{Range}
use Rattle.edge.specs.Faults.{HasRisen}
use Rattle.edge.specs.Sink.{with_more, HasPrefixMore}
use Rattle.live_worker.specs.Reports.{squares_of, live_lines, RiseTo, HasReported}
use Rattle.ext_report.specs.Lines.{line_of}
use Rattle.ext_run.specs.declared.task.Task.{Task}
use Rattle.ext_run.specs.declared.task.Task.TheVariants.{Resolution}
use Rattle.ext_run.specs.Devices.{Device}
use Rattle.ext_run.specs.Plan.{live_where}
use Rattle.ext_run.specs.Disks.{Outcome}

-- the range of which a task reports how far it is; none where it does not
abbrev pub live_in : Task → Option Range
live_in (Resolution r) = live_where r.common.live r.common.range
live_in task = None

-- What became of standard error while something was made, and whether it failed: it got the reports of a range, and no call where
-- there is none.
abbrev pub HasHeard : {T C E F : Type 0} → Device E → Option Range → Result T C → Result (Unit {0}) F → E → E → Type 0
HasHeard err None made heard old new = (heard ≡ Ok tt) × (new ≡ old)
HasHeard err (Some range) made heard old new = HasReported (squares_of range) made heard (err.shows old) (err.shows new)
    (err.faults old) (err.faults new)

-- the line behind the reports: that of the failure, and none for a text
abbrev pub last_line : Outcome → List ℕ
last_line (Ok text) = []
last_line (Err failure) = line_of failure

-- Standard error got a line for each of some rising numbers of all squares, and behind them the line of the failure if there was one;
-- or, where a write to it failed, some first bytes of all this. If none failed, the last line before a text has the number of
-- all squares.
pub record HasToldLive {E : Type 0} (err : Device E) (all : ℕ) (outcome : Outcome) (old new : E) : Type 0 where
  pub numbers : List ℕ
  pub most : ℕ
  pub rise : RiseTo 0 numbers most
  pub within : most ≤ all
  pub first_bytes : HasPrefixMore (live_lines all numbers ++ last_line outcome) (err.shows old) (err.shows new)
  pub whole : (HasRisen (err.faults old) (err.faults new) → ⊥) →
      err.shows new ≡ with_more (err.shows old) (live_lines all numbers ++ last_line outcome)
  pub finished : (HasRisen (err.faults old) (err.faults new) → ⊥) → (text : List ℕ) → outcome ≡ Ok text → most ≡ all
  pub never_falls : err.faults old ≤ err.faults new
