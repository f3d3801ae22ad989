-- What the answers to what is asked are, and what they exclude.
use Rattle.serde_json.specs.Data.{Data, array}
use Rattle.std.proofs.Common.{◌≡◌, ℕ, true, ◌^◌, ◌≤◌, List, [], length, drop, Option, Some, None, IfSome, refl, sym, subst, ◌∙◌, arith}
use Rattle.std.specs.Prelude.{MatchOption, Result, Ok, Err}
use Rattle.std.proofs.lemmas.List.{drop_all}
use Rattle.bidegree.specs.declared.range.Range.{Range}
use Rattle.edge.specs.Source.{without_first}
use Rattle.module_spec.specs.Spec.{File}
use Rattle.module_json.specs.ModuleFile.{IsFileOf, no_value, described}
use Rattle.module_json.specs.declared.malformed.Malformed.{Malformed}
use Rattle.module_json.specs.Checks.{is_space}
use Rattle.module_json.specs.Parts.{modules_of, described as described_parts}
use Rattle.module_json.proofs.Reading.{file_unique, parts_unique}
use Rattle.module_json.proofs.Sizes.{value_fits}
use Rattle.finite_module.specs.Module.{Module as SteenrodModule}
use Rattle.finite_module.specs.DerivedAction.{derived_module}
use Rattle.finite_module.specs.Checked.{sphere_file}
use Rattle.finite_module.specs.Sample.{sample_file}
use Rattle.module_check.specs.Acceptance.{refusal_of}
use Rattle.module_check.specs.declared.fault.CheckFault.{CheckFault}
use Rattle.space_laws.specs.Spaces.{IsSpaceFile}
use Rattle.space_laws.proofs.Files.{files_are_accepted}
use Rattle.ext_products.specs.declared.refusal.Refusal.{Refusal}
use Rattle.ext_table.specs.Layouts.{told_in}
use Rattle.lift_laws.specs.Lifts.{Resolution as Resolved}
use Rattle.ext_words.specs.declared.command.Build.{Build as Made}
use Rattle.ext_report.specs.declared.failure.Failure.{Failure}
use Rattle.ext_report.specs.declared.failure.Failure.TheVariants.{NotModule, Malformed as NoModuleFile}
use Rattle.ext_report.specs.Failure.{IsTold}
use Rattle.read_module.specs.Input.{most_read}
use Rattle.ext_build.specs.Building.{wanted, IsBuildAnswer, no_files, of_files}
use Rattle.read_module.proofs.Reading.{most_read-is}
use Rattle.ext_build.proofs.BuildAnswers.{build_fits}
use Rattle.ext_run.specs.declared.plan.Origin.{Origin}
use Rattle.ext_run.specs.declared.plan.Origin.TheVariants.{Sphere, Sample, File as OfFile}
use Rattle.ext_run.specs.declared.plan.Sought.{Sought}
use Rattle.ext_run.specs.declared.plan.Form.{Form}
use Rattle.ext_run.specs.declared.plan.Form.TheVariants.{Squares, Products, Sought as ToTell}
use Rattle.ext_run.specs.declared.plan.Plan.{Plan}
use Rattle.ext_run.specs.declared.plan.Plan.TheVariants.{Resolve, Seek, Check, Build, Multiply, Migrate, Verify}
use Rattle.ext_run.specs.declared.task.Task.{Task}
use Rattle.ext_run.specs.declared.task.Task.TheVariants.{Text, Resolution, Migration, Verification}
use Rattle.ext_run.specs.Plan.{range_for, IsModuleIn, IsModuleAt, IsModuleOf, IsModuleFor, PlanReads, Reads}
use Rattle.ext_run.specs.Forms.{IsReadOff, IsVerifiedChart, sheet_of, IsText, IsToldOfClasses, told_of_classes, IsSoughtAnswer, IsInForm}
use Rattle.ext_run.specs.Answer.{IsLineOn, IsMigrated, IsFound, ModuleAnswers, IsAnswerOfFile, IsModuleAnswer, IsAnswerAt, IsAnswerTo, IsAskedAnswer}
use Rattle.ext_run.specs.Task.{IsDoneBy}

-- ---- an answer of what is resolved is a text, or a failure of classes

abbrev OnlyTold : ModuleAnswers → Type 0
OnlyTold P = (m : SteenrodModule) (answer : Result (List ℕ) Failure) → P m answer → IsTold answer

text_told : (IsTextOf : SteenrodModule → List ℕ → Type 0) → OnlyTold (IsText IsTextOf)
text_told IsTextOf m (Ok text) p = tt
text_told IsTextOf m (Err e) p = absurd p

one_told : (told : Result (List ℕ) Refusal) → IsTold (told_of_classes told)
one_told (Ok text) = tt
one_told (Err refusal) = tt

classes_told : (range : Range) (IsToldOf : Resolved → Resolved → Result (List ℕ) Refusal → Type 0) → OnlyTold (IsToldOfClasses IsToldOf range)
classes_told range IsToldOf m answer p = subst IsTold (sym p.is) (one_told p.told)

form_told : (form : Form) (range : Range) → OnlyTold (IsInForm form range)
form_told (Squares sheet shape) range = text_told (IsReadOff (sheet_of sheet shape range) range)
form_told (Products layout by shape) range = classes_told range (told_in layout shape range by)
form_told (ToTell sought) range = classes_told range (IsSoughtAnswer sought range)

found_told : (sought : Sought) → OnlyTold (IsFound sought)
found_told sought m answer p = form_told (ToTell sought) (range_for sought m) m answer p

pub task_told : (task : Task) (answer : Result (List ℕ) Failure) → IsDoneBy task answer → IsTold answer
task_told (Text made) answer is = subst IsTold (sym is) tt
task_told (Resolution r) answer is = form_told r.form r.common.range r.resolved.plain answer is
task_told (Migration m) answer is = text_told IsMigrated m.plain answer is
task_told (Verification m range) answer is = text_told (IsVerifiedChart range) m.plain answer is

-- ---- where there is a module, nothing else is answered

module _ (P : ModuleAnswers) (only : OnlyTold P) where
  accepted : (f : File) (a : Result (List ℕ) Failure) → refusal_of f ≡ None → IsAnswerOfFile P (Ok f) a → IsTold a
  accepted f a none p =
      let right : P (derived_module f) a = subst (λ (o : Option CheckFault). MatchOption o (P (derived_module f) a) (λ e. a ≡ Err (NotModule f e))) none p in
      only (derived_module f) a right

  module_told : (bytes : List ℕ) (m : SteenrodModule) (a : Result (List ℕ) Failure) → IsModuleIn bytes m → IsModuleAnswer P bytes a → IsTold a
  module_told bytes m a q p =
      let same : p.file ≡ Ok q.file = file_unique bytes p.file (Ok q.file) p.is_file q.is_file in
      accepted q.file a q.no_refusal (subst (λ (file : Result File Malformed). IsAnswerOfFile P file a) same p.is_answer)

  at_told : (origin : Origin) (bytes : List ℕ) (m : SteenrodModule) (a : Result (List ℕ) Failure) → IsModuleAt origin bytes m → IsAnswerAt origin P bytes a → IsTold a
  at_told Sphere bytes m a q p = only (derived_module sphere_file) a p
  at_told (Sample n) bytes m a q p = only (derived_module (sample_file n)) a p
  at_told OfFile bytes m a q p = module_told bytes m a q p

  -- the file of a real projective space is a module
  space_told : (bytes : List ℕ) (file : Result File Malformed) (f : File) (e : CheckFault) (a : Result (List ℕ) Failure) → IsSpaceFile bytes → IsFileOf bytes file → IsAnswerOfFile P file a → a ≡ Err (NotModule f e) → ⊥
  space_told bytes (Ok g) f e a space is p h = subst IsTold h (accepted g a (files_are_accepted bytes g space is) p)
  space_told bytes (Err d) f e a space is p h = let same : Err (NoModuleFile d) ≡ Err (NotModule f e) = sym p ∙ h in cc

plan_told : (plan : Plan) (bytes : List ℕ) (m : SteenrodModule) (a : Result (List ℕ) Failure) → IsModuleOf plan bytes m → IsAnswerTo plan bytes a → IsTold a
plan_told (Resolve origin form common) bytes m a q p = at_told (IsInForm form common.range) (form_told form common.range) origin bytes m a q p
plan_told (Seek sought workers) bytes m a q p = module_told (IsFound sought) (found_told sought) bytes m a q p
plan_told Check bytes m a q p = module_told (IsText IsLineOn) (text_told IsLineOn) bytes m a q p
plan_told Migrate bytes m a q p = module_told (IsText IsMigrated) (text_told IsMigrated) bytes m a q p
plan_told (Verify range) bytes m a q p = module_told (IsText (IsVerifiedChart range)) (text_told (IsVerifiedChart range)) bytes m a q p
plan_told plan bytes m a q p = absurd q

pub asked_told : (asked : Option Plan) (bytes : List ℕ) (m : SteenrodModule) (a : Result (List ℕ) Failure) → IsModuleFor asked bytes m → IsAskedAnswer asked bytes a → IsTold a
asked_told None bytes m a q p = absurd q
asked_told (Some plan) bytes m a q p = plan_told plan bytes m a q p

-- ---- the file of a real projective space, which is no array of modules

space_no_parts : (want : ℕ) (d : Data) (files : List File) → is_space d ≡ true → modules_of want d ≡ Ok files → ⊥
space_no_parts want (array ds) files s h = cc
space_no_parts want d files s h = cc

space_not_built : (made : Made) (bytes : List ℕ) (f : File) (e : CheckFault) (a : Result (List ℕ) Failure) → IsSpaceFile bytes → IsBuildAnswer made bytes a → a ≡ Err (NotModule f e) → ⊥
space_not_built made bytes f e a space (no_files d p) h = cc
space_not_built made bytes f e a space (of_files files x p answer) h =
    space_no_parts (wanted made) space.json files space.is_of_type
    (parts_unique (wanted made) bytes (modules_of (wanted made) space.json) (Ok files) (described_parts space.json space.is_value) p)

space_at : (form : Form) (range : Range) (origin : Origin) (bytes : List ℕ) (f : File) (e : CheckFault) (a : Result (List ℕ) Failure) → IsSpaceFile bytes → IsAnswerAt origin (IsInForm form range) bytes a → a ≡ Err (NotModule f e) → ⊥
space_at form range Sphere bytes f e a space p h = subst IsTold h (form_told form range (derived_module sphere_file) a p)
space_at form range (Sample n) bytes f e a space p h = subst IsTold h (form_told form range (derived_module (sample_file n)) a p)
space_at form range OfFile bytes f e a space p h = space_told (IsInForm form range) (form_told form range) bytes p.file f e a space p.is_file p.is_answer h

space_plan : (plan : Plan) (bytes : List ℕ) (f : File) (e : CheckFault) (a : Result (List ℕ) Failure) → IsSpaceFile bytes → IsAnswerTo plan bytes a → a ≡ Err (NotModule f e) → ⊥
space_plan (Resolve origin form common) bytes f e a space p h = space_at form common.range origin bytes f e a space p h
space_plan (Seek sought workers) bytes f e a space p h = space_told (IsFound sought) (found_told sought) bytes p.file f e a space p.is_file p.is_answer h
space_plan Check bytes f e a space p h = space_told (IsText IsLineOn) (text_told IsLineOn) bytes p.file f e a space p.is_file p.is_answer h
space_plan (Build made) bytes f e a space p h = space_not_built made bytes f e a space p h
space_plan (Multiply numbers) bytes f e a space p h = subst (IsAnswerTo (Multiply numbers) bytes) h p
space_plan Migrate bytes f e a space p h = space_told (IsText IsMigrated) (text_told IsMigrated) bytes p.file f e a space p.is_file p.is_answer h
space_plan (Verify range) bytes f e a space p h = space_told (IsText (IsVerifiedChart range)) (text_told (IsVerifiedChart range)) bytes p.file f e a space p.is_file p.is_answer h

pub space_asked : (asked : Option Plan) (bytes : List ℕ) (f : File) (e : CheckFault) → IsSpaceFile bytes → IsAskedAnswer asked bytes (Err (NotModule f e)) → ⊥
space_asked None bytes f e space p = cc
space_asked (Some plan) bytes f e space p = space_plan plan bytes f e (Err (NotModule f e)) space p refl

-- ---- the size of a file

file_fits : (bytes : List ℕ) (f : File) (r : Result File Malformed) → IsFileOf bytes r → r ≡ Ok f → length bytes ≤ 2 ^ 20
file_fits bytes f r (no_value e p) same = absurd cc
file_fits bytes f r (described d p) same = value_fits bytes (Ok d) d p refl

module_fits : (P : ModuleAnswers) (bytes : List ℕ) (file : Result File Malformed) (a : Result (List ℕ) Failure) → IsTold a → IsFileOf bytes file → IsAnswerOfFile P file a → length bytes ≤ 2 ^ 20
module_fits P bytes (Ok f) a told is p = file_fits bytes f (Ok f) is refl
module_fits P bytes (Err e) a told is p = absurd (subst IsTold p told)

plan_fits : (plan : Plan) (bytes : List ℕ) (a : Result (List ℕ) Failure) → IsTold a → PlanReads plan → IsAnswerTo plan bytes a → length bytes ≤ 2 ^ 20
plan_fits (Resolve OfFile form common) bytes a told reads p = module_fits (IsInForm form common.range) bytes p.file a told p.is_file p.is_answer
plan_fits (Seek sought workers) bytes a told reads p = module_fits (IsFound sought) bytes p.file a told p.is_file p.is_answer
plan_fits Check bytes a told reads p = module_fits (IsText IsLineOn) bytes p.file a told p.is_file p.is_answer
plan_fits (Build made) bytes a told reads p = build_fits made bytes a told p
plan_fits Migrate bytes a told reads p = module_fits (IsText IsMigrated) bytes p.file a told p.is_file p.is_answer
plan_fits (Verify range) bytes a told reads p = module_fits (IsText (IsVerifiedChart range)) bytes p.file a told p.is_file p.is_answer
plan_fits plan bytes a told reads p = absurd reads

asked_fits : (asked : Option Plan) (bytes : List ℕ) (a : Result (List ℕ) Failure) → IsTold a → Reads asked → IsAskedAnswer asked bytes a → length bytes ≤ 2 ^ 20
asked_fits None bytes a told reads p = absurd reads
asked_fits (Some plan) bytes a told reads p = plan_fits plan bytes a told reads p

-- drop at a variable: numerals stay folded
all_dropped : (n m : ℕ) (l : List ℕ) → length l ≤ n → n ≤ m → drop m l ≡ []
all_dropped n m l h k = drop_all m l (omega arith)

pub read_whole : (asked : Option Plan) (input : List ℕ) (old new : Option (List ℕ)) (a : Result (List ℕ) Failure) → IsTold a → Reads asked → IsAskedAnswer asked input a → IfSome old (λ l. input ≡ l) → new ≡ without_first old most_read → IfSome new (λ l. l ≡ [])
read_whole asked input None new a told reads p all e = subst (λ (o : Option (List ℕ)). IfSome o (λ l. l ≡ [])) (sym e) tt
read_whole asked input (Some l) new a told reads p all e =
    let fits : length l ≤ 2 ^ 20 = subst (λ (bytes : List ℕ). length bytes ≤ 2 ^ 20) all (asked_fits asked input a told reads p) in
    subst (λ (o : Option (List ℕ)). IfSome o (λ m. m ≡ [])) (sym e) (all_dropped (2 ^ 20) most_read l fits (omega (arith, most_read-is)))
