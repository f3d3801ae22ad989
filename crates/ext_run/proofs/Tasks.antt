-- The task of a plan: its answers are the plan's, and it uses the disk as the plan does.
use Rattle.std.proofs.Common.{◌≡◌, ◌∙◌, ℕ, inl, inr, List, [], Option, Some, None, IfSome, refl, sym, subst, ap}
use Rattle.std.specs.declared.alloc.Global.{Global}
use Rattle.std.specs.Prelude.{MatchOption, option_map, Vec, Result, Ok, Err, IsOkAnd}
use Rattle.bidegree.specs.declared.range.Range.{Range}
use Rattle.module_json.proofs.Reading.{file_unique}
use Rattle.finite_module.specs.Module.{Module as SteenrodModule}
use Rattle.finite_module.specs.Checked.{Checked, sphere_file}
use Rattle.finite_module.specs.Sample.{sample_file}
use Rattle.finite_module.specs.DerivedAction.{derived_module}
use Rattle.module_check.specs.declared.fault.CheckFault.{CheckFault}
use Rattle.ext_words.specs.declared.command.Common.{Common}
use Rattle.ext_words.specs.declared.command.Command.{Command}
use Rattle.ext_words.specs.declared.command.Command.TheVariants.{Products, Massey, Product, Bracket, Build, Sq, Migrate, Table}
use Rattle.ext_words.specs.declared.command.Build.{Build as Made}
use Rattle.ext_words.specs.declared.command.WordsFault.{WordsFault}
use Rattle.ext_words.specs.declared.command.WordsFault.TheVariants.{Words as Outside, Memory as NoSpace}
use Rattle.ext_words.specs.Words.{command_of, IsWithinLimits}
use Rattle.ext_report.specs.declared.failure.Failure.{Failure}
use Rattle.ext_report.specs.declared.failure.Failure.TheVariants.{Words, Malformed as NoModuleFile, NotModule, PastLimit, Reading, Memory}
use Rattle.ext_report.specs.Failure.{words_failure}
use Rattle.ext_build.proofs.BuildAnswers.{build_not_words}
use Rattle.read_module.specs.Input.{IsOfInput, IsFileCauseFrom, IsModuleFrom}
use Rattle.ext_build.specs.Building.{IsBuildAnswer, IsBuildAnswerFrom, IsBuildCauseFrom}
use Rattle.ext_run.specs.declared.plan.Origin.{Origin}
use Rattle.ext_run.specs.declared.plan.Origin.TheVariants.{Sphere as OfSphere, Sample as OfSample, File as OfFile}
use Rattle.ext_run.specs.declared.plan.Sought.{Sought}
use Rattle.ext_run.specs.declared.plan.Form.{Form}
use Rattle.ext_run.specs.declared.plan.Form.TheVariants.{Sought as ToTell}
use Rattle.ext_run.specs.declared.plan.Plan.{Plan}
use Rattle.ext_run.specs.declared.plan.Plan.TheVariants.{Resolve as ToResolve, Seek, Check as ToCheck, Build as ToBuild, Multiply, Migrate as ToMigrate, Verify as ToVerify}
use Rattle.ext_run.specs.declared.task.Task.{Task}
use Rattle.ext_run.specs.declared.task.Task.TheVariants.{Text, Resolution, Migration, Verification}
use Rattle.ext_run.specs.declared.task.Resolution.{Resolution as Resolved}
use Rattle.ext_run.specs.Plan.{plan_of, range_for, common_for, asked_by, IsPlanWithin, IsModuleIn, IsModuleAt, IsModuleFor, PlanReads, verifying, use_where, use_for}
use Rattle.ext_run.specs.Forms.{IsVerifiedChart, IsText, IsInForm, IsRefusedIn}
use Rattle.ext_run.specs.Answer.{IsLineOn, IsMigrated, IsProduct, IsFound, ModuleAnswers, IsAnswerOfFile, IsModuleAnswer, IsAnswerAt, IsAnswerTo, IsAskedAnswer, IsAskedRefusal, IsTaskCause, IsTaskCauseFrom, IsOriginCauseFrom}
use Rattle.ext_run.specs.Task.{IsDoneBy, use_in, IsTaskOf, IsTaskFor}

-- ---- the limits

pub plan_within : (command : Command) → IsWithinLimits command → IsPlanWithin (plan_of command)
plan_within (Products common by) h = h.0
plan_within (Table common by) h = h.0
plan_within (Massey common a b c) h = h.0
plan_within (Product workers a x) h = h.0
plan_within (Bracket workers a b c) h = h.0
plan_within (Build made) h = tt
plan_within (Sq numbers) h = h.2
plan_within Migrate h = tt
plan_within command h = h

-- ---- one module

at_same : (origin : Origin) (bytes : List ℕ) (m n : SteenrodModule) → IsModuleAt origin bytes m → IsModuleAt origin bytes n → m ≡ n
at_same OfSphere bytes m n p q = p ∙ sym q
at_same (OfSample k) bytes m n p q = p ∙ sym q
at_same OfFile bytes m n p q =
    let files = file_unique bytes (Ok p.file) (Ok q.file) p.is_file q.is_file in
    let file : p.file ≡ q.file = cc in
    p.is_derived ∙ (ap derived_module file ∙ sym q.is_derived)

pub module_same : (asked : Option Plan) (bytes : List ℕ) (m n : SteenrodModule) → IsModuleFor asked bytes m → IsModuleFor asked bytes n → m ≡ n
module_same (Some (ToResolve origin form common)) bytes m n p q = at_same origin bytes m n p q
module_same (Some (Seek sought workers)) bytes m n p q = at_same OfFile bytes m n p q
module_same (Some ToCheck) bytes m n p q = at_same OfFile bytes m n p q
module_same (Some ToMigrate) bytes m n p q = at_same OfFile bytes m n p q
module_same (Some (ToVerify range)) bytes m n p q = at_same OfFile bytes m n p q
module_same asked bytes m n p q = absurd p

-- ---- the answers

-- what is right for the module of an origin
module_answer : (P : ModuleAnswers) (bytes : List ℕ) (m : SteenrodModule) (answer : Result (List ℕ) Failure) → IsModuleIn bytes m → P m answer → IsModuleAnswer P bytes answer
module_answer P bytes m answer is p = record {
  file = Ok is.file;
  is_file = is.is_file;
  is_answer = subst (λ (o : Option CheckFault). MatchOption o (P (derived_module is.file) answer) (λ e. answer ≡ Err (NotModule is.file e))) (sym is.no_refusal) (subst (λ (n : SteenrodModule). P n answer) is.is_derived p);
}

at_answer : (P : ModuleAnswers) (origin : Origin) (bytes : List ℕ) (m : SteenrodModule) (answer : Result (List ℕ) Failure) → IsModuleAt origin bytes m → P m answer → IsAnswerAt origin P bytes answer
at_answer P OfSphere bytes m answer is p = subst (λ (n : SteenrodModule). P n answer) is p
at_answer P (OfSample k) bytes m answer is p = subst (λ (n : SteenrodModule). P n answer) is p
at_answer P OfFile bytes m answer is p = module_answer P bytes m answer is p

-- for the form, the range and the module of a resolution
resolution_answer : (P : Form → Range → ModuleAnswers) (origin : Origin) (form : Form) (common : Common) (bytes : List ℕ) (r : Resolved) (answer : Result (List ℕ) Failure) → IsTaskOf (ToResolve origin form common) bytes (Resolution r) → P r.form r.common.range r.resolved.plain answer → IsAnswerAt origin (P form common.range) bytes answer
resolution_answer P origin form common bytes r answer h is =
    let in_form : P form r.common.range r.resolved.plain answer = subst (λ (f : Form). P f r.common.range r.resolved.plain answer) h.0 is in
    let here : P form common.range r.resolved.plain answer = subst (λ (c : Common). P form c.range r.resolved.plain answer) h.1 in_form in
    at_answer (P form common.range) origin bytes r.resolved.plain answer h.2 here

-- for what is sought, and the module of a resolution
sought_answer : (P : Form → Range → ModuleAnswers) (sought : Sought) (workers : ℕ) (bytes : List ℕ) (r : Resolved) (answer : Result (List ℕ) Failure) → IsTaskOf (Seek sought workers) bytes (Resolution r) → P r.form r.common.range r.resolved.plain answer → IsModuleAnswer (λ m a. P (ToTell sought) (range_for sought m) m a) bytes answer
sought_answer P sought workers bytes r answer h is =
    let m = r.resolved.plain in
    let in_form : P (ToTell sought) r.common.range m answer = subst (λ (f : Form). P f r.common.range m answer) h.0 is in
    let here : P (ToTell sought) (range_for sought m) m answer = subst (λ (c : Common). P (ToTell sought) c.range m answer) h.1 in_form in
    module_answer (λ m a. P (ToTell sought) (range_for sought m) m a) bytes m answer h.2 here

pub task_answers : (asked : Option Plan) (bytes : List ℕ) (task : Task) (answer : Result (List ℕ) Failure) → IsTaskFor asked bytes task → IsDoneBy task answer → IsAskedAnswer asked bytes answer
task_answers (Some (ToResolve origin form common)) bytes (Resolution r) answer h is = resolution_answer IsInForm origin form common bytes r answer h is
task_answers (Some (ToResolve origin form common)) bytes (Text made) answer h is = absurd h
task_answers (Some (ToResolve origin form common)) bytes (Migration m) answer h is = absurd h
task_answers (Some (ToResolve origin form common)) bytes (Verification m r) answer h is = absurd h
task_answers (Some (Seek sought workers)) bytes (Resolution r) answer h is = sought_answer IsInForm sought workers bytes r answer h is
task_answers (Some ToCheck) bytes (Text made) answer h is =
    let text : IsText IsLineOn h.0 (Ok made.items) = h.2 in
    module_answer (IsText IsLineOn) bytes h.0 answer h.1 (subst (IsText IsLineOn h.0) (sym is) text)
task_answers (Some (ToBuild made)) bytes (Text text) answer h is = subst (IsBuildAnswer made bytes) (sym is) h
task_answers (Some (Multiply numbers)) bytes (Text text) answer h is =
    let made : Result (List ℕ) Failure = Ok text.items in
    let there : IsOkAnd made (IsProduct numbers) = h in
    subst (λ (a : Result (List ℕ) Failure). IsOkAnd a (IsProduct numbers)) (sym is) there
task_answers (Some ToMigrate) bytes (Migration m) answer h is = module_answer (IsText IsMigrated) bytes m.plain answer h is
task_answers (Some (ToVerify range)) bytes (Verification m r) answer h is =
    module_answer (IsText (IsVerifiedChart range)) bytes m.plain answer h.1 (subst (λ (x : Range). IsText (IsVerifiedChart x) m.plain answer) h.0 is)
task_answers asked bytes task answer h is = absurd h

-- ---- the disk

-- the task uses it as the plan does
pub task_use : (asked : Option Plan) (bytes : List ℕ) (task : Task) → IsTaskFor asked bytes task → use_for asked ≡ use_in task
task_use (Some (ToResolve origin form common)) bytes (Resolution r) h = ap (λ (c : Common). use_where c.save c.range) (sym h.1)
task_use (Some (Seek sought workers)) bytes (Resolution r) h = ap (λ (c : Common). use_where c.save c.range) (sym h.1)
task_use (Some ToCheck) bytes (Text made) h = refl
task_use (Some (ToBuild what)) bytes (Text made) h = refl
task_use (Some (Multiply numbers)) bytes (Text made) h = refl
task_use (Some ToMigrate) bytes (Migration m) h = refl
task_use (Some (ToVerify range)) bytes (Verification m r) h = ap (λ (x : Range). Some (verifying x)) (sym h.0)
task_use asked bytes task h = absurd h

-- and its module is the plan's
pub resolution_module : (asked : Option Plan) (bytes : List ℕ) (r : Resolved) → IsTaskFor asked bytes (Resolution r) → IsModuleFor asked bytes r.resolved.plain
resolution_module (Some (ToResolve origin form common)) bytes r h = h.2
resolution_module (Some (Seek sought workers)) bytes r h = h.2
resolution_module asked bytes r h = absurd h

pub migration_module : (asked : Option Plan) (bytes : List ℕ) (m : Checked) → IsTaskFor asked bytes (Migration m) → IsModuleFor asked bytes m.plain
migration_module (Some ToMigrate) bytes m h = h
migration_module asked bytes m h = absurd h

pub verification_module : (asked : Option Plan) (bytes : List ℕ) (m : Checked) (r : Range) → IsTaskFor asked bytes (Verification m r) → IsModuleFor asked bytes m.plain
verification_module (Some (ToVerify range)) bytes m r h = h.1
verification_module asked bytes m r h = absurd h

-- what is refused of its classes is refused of the plan's
pub resolution_refused : (asked : Option Plan) (bytes : List ℕ) (r : Resolved) (answer : Result (List ℕ) Failure) → IsTaskFor asked bytes (Resolution r) → IsRefusedIn r.form r.common.range r.resolved.plain answer → IsAskedRefusal asked bytes answer
resolution_refused (Some (ToResolve origin form common)) bytes r answer h is = resolution_answer IsRefusedIn origin form common bytes r answer h is
resolution_refused (Some (Seek sought workers)) bytes r answer h is = sought_answer IsRefusedIn sought workers bytes r answer h is
resolution_refused asked bytes r answer h is = absurd h

-- ---- the input

-- some bytes, and all that is left where that is told
bytes_of : Option (List ℕ) → List ℕ
bytes_of None = []
bytes_of (Some l) = l

all_of : (left : Option (List ℕ)) → IfSome left (λ l. bytes_of left ≡ l)
unfolding bytes_of
all_of None = tt
all_of (Some l) = refl

some_input : (left : Option (List ℕ)) (P : List ℕ → Type 0) → ((bytes : List ℕ) → P bytes) → IsOfInput P left
some_input left P p = record { bytes = bytes_of left; all = all_of left; holds = p (bytes_of left) }

-- the failure is caused by one input
pub input_of : (asked : Option Plan) (left : Option (List ℕ)) (failure : Failure) → IsTaskCauseFrom asked left failure → IsOfInput (λ bytes. IsTaskCause asked (λ f. IsAskedAnswer asked bytes (Err f)) failure) left
input_of asked left Words p = some_input left _ (λ bytes. p)
input_of asked left (NoModuleFile e) p = p
input_of asked left (NotModule f e) p = p
input_of asked left (PastLimit what) p = p
input_of asked left Reading p = some_input left _ (λ bytes. p)
input_of asked left Memory p = some_input left _ (λ bytes. tt)
input_of asked left failure p = absurd p

-- there is no answer where there is no module
module _ (plan : Plan) (P : ModuleAnswers) (reads : PlanReads plan) (answers : (bytes : List ℕ) (a : Result (List ℕ) Failure) → IsModuleAnswer P bytes a → IsAnswerTo plan bytes a) (left : Option (List ℕ)) where
  pub file_cause : (failure : Failure) → IsFileCauseFrom left failure → IsTaskCauseFrom (Some plan) left failure
  file_cause (NoModuleFile e) p = record { bytes = p.bytes; all = p.all; holds = answers p.bytes (Err (NoModuleFile e)) (record { file = Err e; is_file = p.holds; is_answer = refl }) }
  file_cause (NotModule f e) p =
      let none : Result (List ℕ) Failure = Err (NotModule f e) in
      let refused : IsAnswerOfFile P (Ok f) none = subst (λ (o : Option CheckFault). MatchOption o (P (derived_module f) none) (λ d. none ≡ Err (NotModule f d))) (sym p.1) refl in
      record { bytes = p.0.bytes; all = p.0.all; holds = answers p.0.bytes none (record { file = Ok f; is_file = p.0.holds; is_answer = refused }) }
  file_cause Reading p = reads
  file_cause Memory p = tt
  file_cause failure p = absurd p

pub resolve_cause : (origin : Origin) (form : Form) (common : Common) (left : Option (List ℕ)) (failure : Failure) → IsOriginCauseFrom origin left failure → IsTaskCauseFrom (Some (ToResolve origin form common)) left failure
resolve_cause origin form common left failure (inl memory) = subst (IsTaskCauseFrom (Some (ToResolve origin form common)) left) (sym memory) tt
resolve_cause OfSphere form common left failure (inr p) = absurd p.0
resolve_cause (OfSample n) form common left failure (inr p) = absurd p.0
resolve_cause OfFile form common left failure (inr p) = file_cause (ToResolve OfFile form common) (IsInForm form common.range) tt (λ bytes a q. q) left failure p.1

pub seek_cause : (sought : Sought) (workers : ℕ) (left : Option (List ℕ)) (failure : Failure) → IsFileCauseFrom left failure → IsTaskCauseFrom (Some (Seek sought workers)) left failure
seek_cause sought workers = file_cause (Seek sought workers) (IsFound sought) tt (λ bytes a q. q)

pub check_cause : (left : Option (List ℕ)) (failure : Failure) → IsFileCauseFrom left failure → IsTaskCauseFrom (Some ToCheck) left failure
check_cause = file_cause ToCheck (IsText IsLineOn) tt (λ bytes a q. q)

pub migrate_cause : (left : Option (List ℕ)) (failure : Failure) → IsFileCauseFrom left failure → IsTaskCauseFrom (Some ToMigrate) left failure
migrate_cause = file_cause ToMigrate (IsText IsMigrated) tt (λ bytes a q. q)

pub verify_cause : (range : Range) (left : Option (List ℕ)) (failure : Failure) → IsFileCauseFrom left failure → IsTaskCauseFrom (Some (ToVerify range)) left failure
verify_cause range = file_cause (ToVerify range) (IsText (IsVerifiedChart range)) tt (λ bytes a q. q)

pub build_cause : (made : Made) (left : Option (List ℕ)) (failure : Failure) → IsBuildCauseFrom made left failure → IsTaskCauseFrom (Some (ToBuild made)) left failure
build_cause made left Words p = absurd (build_not_words made p.bytes (Err Words) p.holds refl)
build_cause made left (NoModuleFile e) p = p
build_cause made left (NotModule f e) p = p
build_cause made left (PastLimit what) p = p
build_cause made left Reading p = tt
build_cause made left Memory p = tt
build_cause made left failure p = absurd p

-- ---- the words

-- a fault of the words is their refusal, or want of memory
pub words_cause : (words : List (List ℕ)) (left : Option (List ℕ)) (fault : WordsFault) → (fault ≡ Outside → command_of words ≡ None) → IsTaskCauseFrom (asked_by words) left (words_failure fault)
words_cause words left Outside e = ap (option_map plan_of) (e refl)
words_cause words left NoSpace e = tt

-- the words ask for the plan of their command
pub asked_is : (words : List (List ℕ)) (command : Command) (plan : Plan) → command_of words ≡ Some command → plan ≡ plan_of command → asked_by words ≡ Some plan
asked_is words command plan is made = ap (option_map plan_of) is ∙ ap (λ (p : Plan). Some p) (sym made)

-- ---- the task of a plan

-- what is read, as an origin
module_in : (left : Option (List ℕ)) (m : SteenrodModule) → IsModuleFrom left m → IsOfInput (λ bytes. IsModuleIn bytes m) left
module_in left m from = record { bytes = from.is_file.bytes; all = from.is_file.all; holds = record { file = from.file; is_file = from.is_file.holds; no_refusal = from.no_refusal; is_derived = from.is_derived } }

module _ (origin : Origin) (left : Option (List ℕ)) (m : SteenrodModule) where
  abbrev IsFrom : Origin → Type 0
  IsFrom place = IsOfInput (λ bytes. IsModuleAt place bytes m) left

  pub sphere_origin : origin ≡ OfSphere → m ≡ derived_module sphere_file → IsFrom origin
  sphere_origin is sphere = subst IsFrom (sym is) (some_input left (λ bytes. IsModuleAt OfSphere bytes m) (λ bytes. sphere))

  pub sample_origin : (n : ℕ) → origin ≡ OfSample n → m ≡ derived_module (sample_file n) → IsFrom origin
  sample_origin n is sample = subst IsFrom (sym is) (some_input left (λ bytes. IsModuleAt (OfSample n) bytes m) (λ bytes. sample))

  pub file_origin : origin ≡ OfFile → IsModuleFrom left m → IsFrom origin
  file_origin is from = subst IsFrom (sym is) (module_in left m from)

abbrev IsTaskFrom : Plan → Option (List ℕ) → Task → Type 0
IsTaskFrom plan left task = IsOfInput (λ bytes. IsTaskOf plan bytes task) left

module _ (plan : Plan) where
  pub resolve_task : (origin : Origin) (form : Form) (common : Common) (left : Option (List ℕ)) (m : Checked) (task : Task) → plan ≡ ToResolve origin form common → IsOfInput (λ bytes. IsModuleAt origin bytes m.plain) left → task ≡ Resolution (record { resolved = m; common = common; form = form }) → IsTaskFrom plan left task
  resolve_task origin form common left m task is from made =
      let here : IsTaskFrom (ToResolve origin form common) left (Resolution (record { resolved = m; common = common; form = form })) = record { bytes = from.bytes; all = from.all; holds = (refl, refl, from.holds) } in
      subst (λ (p : Plan). IsTaskFrom p left task) (sym is) (subst (IsTaskFrom (ToResolve origin form common) left) (sym made) here)

  pub seek_task : (sought : Sought) (workers : ℕ) (left : Option (List ℕ)) (m : Checked) (task : Task) → plan ≡ Seek sought workers → IsModuleFrom left m.plain → task ≡ Resolution (record { resolved = m; common = common_for sought workers m.plain; form = ToTell sought }) → IsTaskFrom plan left task
  seek_task sought workers left m task is from made =
      let there = module_in left m.plain from in
      let here : IsTaskFrom (Seek sought workers) left (Resolution (record { resolved = m; common = common_for sought workers m.plain; form = ToTell sought })) = record { bytes = there.bytes; all = there.all; holds = (refl, refl, there.holds) } in
      subst (λ (p : Plan). IsTaskFrom p left task) (sym is) (subst (IsTaskFrom (Seek sought workers) left) (sym made) here)

  pub check_task : (left : Option (List ℕ)) (m : SteenrodModule) (made : Vec ℕ Global) → plan ≡ ToCheck → IsModuleFrom left m → IsLineOn m made.items → IsTaskFrom plan left (Text made)
  check_task left m made is from line =
      let there = module_in left m from in
      let here : IsTaskFrom ToCheck left (Text made) = record { bytes = there.bytes; all = there.all; holds = (m, there.holds, line) } in
      subst (λ (p : Plan). IsTaskFrom p left (Text made)) (sym is) here

  pub build_task : (what : Made) (left : Option (List ℕ)) (made : Vec ℕ Global) → plan ≡ ToBuild what → IsBuildAnswerFrom what left (Ok made.items) → IsTaskFrom plan left (Text made)
  build_task what left made is answer =
      let here : IsTaskFrom (ToBuild what) left (Text made) = answer in
      subst (λ (p : Plan). IsTaskFrom p left (Text made)) (sym is) here

  pub multiply_task : (numbers : List ℕ) (left : Option (List ℕ)) (made : Vec ℕ Global) → plan ≡ Multiply numbers → IsProduct numbers made.items → IsTaskFrom plan left (Text made)
  multiply_task numbers left made is product =
      let here : IsTaskFrom (Multiply numbers) left (Text made) = some_input left _ (λ bytes. product) in
      subst (λ (p : Plan). IsTaskFrom p left (Text made)) (sym is) here

  pub migrate_task : (left : Option (List ℕ)) (m : Checked) → plan ≡ ToMigrate → IsModuleFrom left m.plain → IsTaskFrom plan left (Migration m)
  migrate_task left m is from =
      let there = module_in left m.plain from in
      let here : IsTaskFrom ToMigrate left (Migration m) = record { bytes = there.bytes; all = there.all; holds = there.holds } in
      subst (λ (p : Plan). IsTaskFrom p left (Migration m)) (sym is) here

  pub verify_task : (range : Range) (left : Option (List ℕ)) (m : Checked) → plan ≡ ToVerify range → IsModuleFrom left m.plain → IsTaskFrom plan left (Verification m range)
  verify_task range left m is from =
      let there = module_in left m.plain from in
      let here : IsTaskFrom (ToVerify range) left (Verification m range) = record { bytes = there.bytes; all = there.all; holds = (refl, there.holds) } in
      subst (λ (p : Plan). IsTaskFrom p left (Verification m range)) (sym is) here
