-- What becomes of a task, by its kind.
use Rattle.std.proofs.Common.{◌≡◌, ℕ, List, [], true, false, sym, subst, refl, inl, inr}
use Rattle.std.specs.declared.alloc.Global.{Global}
use Rattle.std.specs.Prelude.{Vec, Ok, Err}
use Rattle.bidegree.specs.declared.range.Range.{Range}
use Rattle.edge.specs.Faults.{HasRisen}
use Rattle.finite_module.specs.Checked.{Checked}
use Rattle.resolution_laws.specs.Start.{IsCanonicalStart}
use Rattle.square.specs.Squares.{Placed, over}
use Rattle.square.specs.Tables.{Staircase}
use Rattle.square.specs.Keeping.{Keeper}
use Rattle.ext_run.specs.declared.plan.Form.{Form}
use Rattle.ext_run.specs.declared.task.Task.{Task}
use Rattle.ext_run.specs.declared.task.Task.TheVariants.{Text, Resolution, Migration, Verification}
use Rattle.ext_run.specs.declared.task.Resolution.{Resolution as ToResolve}
use Rattle.ext_run.specs.Devices.{Store}
use Rattle.ext_run.specs.Plan.{keeping, migrating, verifying}
use Rattle.ext_run.specs.Forms.{IsInForm}
use Rattle.ext_run.specs.Work.{Told, HasAnswer, answer_of, HasContinued, HasUsed, HasWorked}
use Rattle.ext_run.proofs.Continuing.{WhyUntold}

-- ---- without a save file

none_read : (m : Checked) → IsCanonicalStart (over m) []
none_read m s k content there = absurd (cc)

-- the table began without squares, so that all of it is canonical
pub told_unsaved : (range : Range) (form : Form) (m : Checked) (rows : List (List Placed)) (spare : ℕ) (table : Staircase) (text : Told) (old new : Keeper) → table ≡ record { resolved = m; start = []; rows = rows; spare = spare } → HasContinued range form table text old new → HasAnswer text → IsInForm form range m.plain (answer_of text)
told_unsaved range form m rows spare table text old new is h has =
    let P : Staircase → Type 0 = λ before. IsCanonicalStart (over before.resolved) before.start → IsInForm form range before.resolved.plain (answer_of text) in
    subst P is (h.told has) (none_read m)

-- what keeps nothing does not fail
pub why_unsaved : (range : Range) (form : Form) (m : Checked) (rows : List (List Placed)) (spare : ℕ) (table : Staircase) (text : Told) (old new : Keeper) → table ≡ record { resolved = m; start = []; rows = rows; spare = spare } → (HasRisen old.faults new.faults → ⊥) → HasContinued range form table text old new → WhyUntold range form m text
why_unsaved range form m rows spare table (Ok t) old new is never h = tt
why_unsaved range form m rows spare table (Err e) old new is never h = elim h.why [
  | inl failed ↦ absurd (never (h.failed (cc)))
  | inr others ↦ subst (λ (before : Staircase). WhyUntold range form before.resolved (Err e)) is others
]

-- ---- the kinds of tasks

module _ {D : Type 0} (disk : Store D) (task : Task) where
  pub worked_text : (made : Vec ℕ Global) (d : D) → task ≡ Text made → HasWorked disk task (Ok made) d d
  worked_text made d is = subst (λ (t : Task). HasWorked disk t (Ok made) d d) (sym is) (record { told = λ has. refl; why = tt; same = refl })

  pub worked_saved : (r : ToResolve) (text : Told) (d g : D) → task ≡ Resolution r → r.common.save ≡ true → HasUsed disk (keeping r.common.range) r.resolved.plain (Resolution r) text d g → HasWorked disk task text d g
  worked_saved r text d g is saves on = subst (λ (t : Task). HasWorked disk t text d g) (sym is) (λ h. absurd (cc), λ h. on)

  pub worked_unsaved : (r : ToResolve) (text : Told) (d : D) → task ≡ Resolution r → r.common.save ≡ false → (HasAnswer text → IsInForm r.form r.common.range r.resolved.plain (answer_of text)) → WhyUntold r.common.range r.form r.resolved text → HasWorked disk task text d d
  worked_unsaved r text d is saves told why = subst (λ (t : Task). HasWorked disk t text d d) (sym is) (λ h. record { told = told; why = why; same = refl }, λ h. absurd (cc))

  pub worked_migration : (m : Checked) (text : Told) (d g : D) → task ≡ Migration m → HasUsed disk migrating m.plain (Migration m) text d g → HasWorked disk task text d g
  worked_migration m text d g is on = subst (λ (t : Task). HasWorked disk t text d g) (sym is) on

  pub worked_verification : (m : Checked) (range : Range) (text : Told) (d g : D) → task ≡ Verification m range → HasUsed disk (verifying range) m.plain (Verification m range) text d g → HasWorked disk task text d g
  worked_verification m range text d g is on = subst (λ (t : Task). HasWorked disk t text d g) (sym is) on
