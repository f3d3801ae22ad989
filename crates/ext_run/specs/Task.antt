-- What is still to be done for a plan once its module is there: a text that is made, a resolution whose text is to be told
-- of in one of the forms, or a save file that is to be brought up to date or verified.
use Rattle.std.specs.Prelude.{◌≡◌, ℕ, List, Option, Some, None, MatchOption, Result, Ok, ⊤}
use Rattle.finite_module.specs.Module.{Module as SteenrodModule}
use Rattle.ext_words.specs.Words.{IsRangeWithin, IsWithin}
use Rattle.ext_report.specs.declared.failure.Failure.{Failure}
use Rattle.ext_build.specs.Building.{IsBuildAnswer}
use Rattle.ext_run.specs.declared.plan.Plan.{Plan}
use Rattle.ext_run.specs.declared.plan.Form.TheVariants.{Sought as ToTell}
use Rattle.ext_run.specs.declared.plan.Plan.TheVariants.{Resolve, Seek, Check, Build, Multiply, Migrate, Verify}
use Rattle.ext_run.specs.declared.task.Task.{Task}
use Rattle.ext_run.specs.declared.task.Task.TheVariants.{Text, Resolution, Migration, Verification}
use Rattle.ext_run.specs.Plan.{common_for, IsModuleIn, IsModuleAt, Use, migrating, verifying, use_where}
use Rattle.ext_run.specs.Forms.{IsVerifiedChart, IsText, IsInForm}
use Rattle.ext_run.specs.Answer.{IsLineOn, IsMigrated, IsProduct}

-- the task is done by this answer
abbrev pub IsDoneBy : Task → Result (List ℕ) Failure → Type 0
IsDoneBy (Text made) answer = answer ≡ Ok made.items
IsDoneBy (Resolution r) answer = IsInForm r.form r.common.range r.resolved.plain answer
IsDoneBy (Migration m) answer = IsText IsMigrated m.plain answer
IsDoneBy (Verification m range) answer = IsText (IsVerifiedChart range) m.plain answer

-- there is an answer that does it
abbrev pub HasItsAnswer : Task → Type 0
HasItsAnswer task = (answer : Result (List ℕ) Failure) × IsDoneBy task answer

-- what is to be resolved or verified is within the limits of the grammar
abbrev pub IsTaskWithin : Task → Type 0
IsTaskWithin (Text made) = ⊤
IsTaskWithin (Resolution r) = IsWithin r.common
IsTaskWithin (Migration m) = ⊤
IsTaskWithin (Verification m range) = IsRangeWithin range

-- what the disk is used for, none where it gets no call
abbrev pub use_in : Task → Option Use
use_in (Text made) = None
use_in (Resolution r) = use_where r.common.save r.common.range
use_in (Migration m) = Some migrating
use_in (Verification m range) = Some (verifying range)

-- the task is that of the plan, where the input is these bytes
abbrev pub IsTaskOf : Plan → List ℕ → Task → Type 0
IsTaskOf (Resolve origin form common) bytes (Resolution r) =
    (r.form ≡ form) × (r.common ≡ common) × IsModuleAt origin bytes r.resolved.plain
IsTaskOf (Seek sought workers) bytes (Resolution r) =
    (r.form ≡ ToTell sought) × (r.common ≡ common_for sought workers r.resolved.plain) × IsModuleIn bytes r.resolved.plain
IsTaskOf Check bytes (Text made) = (m : SteenrodModule) × IsModuleIn bytes m × IsLineOn m made.items
IsTaskOf (Build made) bytes (Text text) = IsBuildAnswer made bytes (Ok text.items)
IsTaskOf (Multiply numbers) bytes (Text text) = IsProduct numbers text.items
IsTaskOf Migrate bytes (Migration m) = IsModuleIn bytes m.plain
IsTaskOf (Verify range) bytes (Verification m r) = (r ≡ range) × IsModuleIn bytes m.plain
IsTaskOf plan bytes task = ⊥

-- and of what is asked
abbrev pub IsTaskFor : Option Plan → List ℕ → Task → Type 0
IsTaskFor asked bytes task = MatchOption asked ⊥ (λ plan. IsTaskOf plan bytes task)
