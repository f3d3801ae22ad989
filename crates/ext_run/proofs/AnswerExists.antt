-- The answer: for a module that a file describes there is a canonical table through each range, and the texts are made of it.
use Rattle.std.proofs.Common.{◌≡◌, ℕ, ℤ, pos, ◌<ℤ◌, List, [], ◌∷◌, length, Option, Some, None, refl, sym, ◌∙◌, ap, arith, inl, inr}
use Rattle.std.specs.Prelude.{Result, Ok, Err, IfOk, MatchOption}
use Rattle.std.specs.List.{sum}
use Rattle.std.proofs.lemmas.Bool.{cases_eq}
use Rattle.std.proofs.lemmas.Int.{ints}
use Rattle.bidegree.specs.declared.range.Range.{Range}
use Rattle.bidegree.specs.declared.class.Class.{Class}
use Rattle.adem_laws.specs.Admissible.{value as value_of, AdmissibleFormIsUnique}
use Rattle.adem_laws.proofs.Values.{length-value}
use Rattle.serde_json.specs.Data.{Data}
use Rattle.module_json.specs.Checks.{IsValueOf}
use Rattle.module_spec.specs.Spec.{Generator, File, degree_at}
use Rattle.module_json.specs.ModuleFile.{IsFileOf, file_of}
use Rattle.module_json.specs.ModuleFile.IsFileOf.{no_value, described}
use Rattle.module_spec.specs.WellFormed.{NeverFall}
use Rattle.module_json.specs.declared.malformed.Malformed.{Malformed}
use Rattle.module_json.proofs.Basis.{file_in_order}
use Rattle.finite_module.specs.Module.{Module as SteenrodModule, bottom, width}
use Rattle.finite_module.specs.DerivedAction.{derived_module, top}
use Rattle.finite_module.specs.Axioms.{IsModule}
use Rattle.module_check.specs.Acceptance.{AcceptedIsModule, refusal_of}
use Rattle.finite_module.specs.Graded.{ModulesAreSteenrodModules}
use Rattle.finite_module.specs.Checked.{sphere_file}
use Rattle.finite_module.specs.Sample.{sample_generators, sample_file}
use Rattle.finite_module.proofs.SampleFile.{sample_is_module, sample_by_degree}
use Rattle.finite_module.specs.ModuleLaws.{numbers_from-none}
use Rattle.module_check.specs.declared.fault.CheckFault.{CheckFault}
use Rattle.resolution_laws.specs.Resolution.{Content}
use Rattle.resolution_laws.specs.Exactness.{IsBoundedBelow, CanonicalTableIsMinimalResolution}
use Rattle.resolution_existence.specs.Existence.{CanonicalTableExists}
use Rattle.square.specs.Squares.{module_over}
use Rattle.ext_chart.specs.Check.{check_line}
use Rattle.ext_chart.specs.Files.{migrated_line}
use Rattle.ext_chart.specs.Product.{product_text}
use Rattle.lift_laws.specs.Lifts.{IsCanonical}
use Rattle.ext_products.specs.Products.{resolution, Telling, HasAnswer, IsOneProductAnswer}
use Rattle.ext_table.specs.Layouts.{told_in, EachLayoutHasAnswer}
use Rattle.ext_brackets.specs.Brackets.{IsBracketAnswer}
use Rattle.ext_products.proofs.SphereTables.{sphere-is}
use Rattle.ext_report.specs.declared.failure.Failure.{Failure}
use Rattle.ext_report.specs.declared.failure.Failure.TheVariants.{Words, Malformed as NoModuleFile, NotModule}
use Rattle.read_module.specs.Input.{HasValue}
use Rattle.ext_build.proofs.BuildAnswers.{build_answer_exists}
use Rattle.ext_run.specs.declared.plan.Origin.{Origin}
use Rattle.ext_run.specs.declared.plan.Origin.TheVariants.{Sphere, Sample, File as OfFile}
use Rattle.ext_run.specs.declared.plan.Sought.{Sought}
use Rattle.ext_run.specs.declared.plan.Sought.TheVariants.{Product, Bracket}
use Rattle.ext_run.specs.declared.plan.Form.{Form}
use Rattle.ext_run.specs.declared.plan.Form.TheVariants.{Squares, Products as ProductsOf, Sought as ToTell}
use Rattle.ext_run.specs.declared.plan.Plan.{Plan}
use Rattle.ext_run.specs.declared.plan.Plan.TheVariants.{Resolve, Seek, Check, Build, Multiply, Migrate, Verify}
use Rattle.ext_run.specs.declared.task.Task.{Task}
use Rattle.ext_run.specs.declared.task.Task.TheVariants.{Text, Resolution, Migration, Verification}
use Rattle.ext_run.specs.Plan.{range_for, asked_by, IsRead, PlanReads, Reads}
use Rattle.ext_run.specs.Forms.{IsResolved, IsReadOff, IsVerifiedChart, sheet_of, verified_of, IsText, IsToldOfClasses, told_of_classes, IsSoughtAnswer, IsInForm}
use Rattle.ext_run.specs.Answer.{IsLineOn, IsMigrated, IsProduct, IsFound, ModuleAnswers, IsModuleAnswer, IsAnswerAt, IsAnswerTo, IsAskedAnswer}
use Rattle.ext_run.specs.Task.{HasItsAnswer}
use Rattle.ext_run.specs.Existence.{AnswerExists}

-- the laws that it stands on
pub record TableLaws : Type 0 where
  pub exists : CanonicalTableExists
  pub minimal : CanonicalTableIsMinimalResolution
  pub modules : ModulesAreSteenrodModules
  pub accepted : AcceptedIsModule

pub record Laws : Type 0 where
  pub tables : TableLaws
  pub products : EachLayoutHasAnswer
  pub one_product : (range : Range) (a x : Class) → HasAnswer (IsOneProductAnswer range a x) range
  pub brackets : (range : Range) (a b c : Class) → HasAnswer (IsBracketAnswer range a b c) range

-- ---- the table

pub below_all : (gs : List Generator) → NeverFall gs → (t : ℤ) → t <ℤ bottom gs → width gs t ≡ 0
below_all [] b t l = refl
below_all (g ∷ gs) b t l =
    ap length (numbers_from-none 0 (g ∷ gs) t (λ k h e. elim (cases_eq k 0) [
      | inl z ↦ let w : g.degree ≡ t = sym (ap (degree_at (g ∷ gs)) z) ∙ e in omega (arith, ints)
      | inr z ↦ let w = b 0 k (record { name = []; degree = pos 0 }) (omega arith) h in omega (arith, ints)
    ]))

pub table_exists : TableLaws → (range : Range) (m : SteenrodModule) → IsModule m → NeverFall m.generators → (table : List (List Content)) × IsResolved range m table
table_exists laws range m is order =
    let steenrod = laws.modules m is in
    let bounded : IsBoundedBelow (module_over m) = below_all m.generators order in
    let table = laws.exists (module_over m) range.s range.t steenrod.widths in
    (table.0, record { canonical = table.1; minimal = laws.minimal (module_over m) range.s range.t table.0 steenrod bounded table.1 })

-- there is an answer that is right for each module
abbrev Makes : ModuleAnswers → Type 0
Makes P = (m : SteenrodModule) → IsModule m → NeverFall m.generators → (answer : Result (List ℕ) Failure) × P m answer

read_off_exists : TableLaws → (text_of : SteenrodModule → List (List Content) → List ℕ) (range : Range) → Makes (IsText (IsReadOff text_of range))
read_off_exists laws text_of range m is order =
    let table = table_exists laws range m is order in
    (Ok (text_of m table.0), record { table = table.0; resolved = table.1; is = refl })

line_exists : Makes (IsText IsLineOn)
line_exists m is order = (Ok (check_line (length m.generators) (bottom m.generators) (top m.generators)), refl)

migrated_exists : Makes (IsText IsMigrated)
migrated_exists m is order = (Ok migrated_line, refl)

product_exists : AdmissibleFormIsUnique → (numbers : List ℕ) → (text : List ℕ) × IsProduct numbers text
product_exists forms numbers =
    let form = forms (sum numbers) (value_of numbers) (length-value numbers) in
    (product_text (sum numbers) (value_of numbers) form.0, record { monomials = form.0; admissible = form.1; product = refl })

-- ---- the answer

pub one_alone : NeverFall sphere_file.generators
one_alone i j d l k = absurd (omega arith)

pub canonical_by : TableLaws → (range : Range) (m : SteenrodModule) → IsModule m → NeverFall m.generators → (table : List (List Content)) → IsResolved range m table → IsCanonical (resolution m table) range.s range.t
canonical_by laws range m is order table resolved = record { steenrod = laws.modules m is; bounded = below_all m.generators order; canonical = resolved.canonical }

classes_exist : TableLaws → (IsToldOf : Telling) (range : Range) → HasAnswer IsToldOf range → Makes (IsToldOfClasses IsToldOf range)
classes_exist laws IsToldOf range tells m is order =
    let sphere_module = derived_module sphere_file in
    let sphere_is = laws.accepted sphere_file one_alone refl in
    let table = table_exists laws range m is order in
    let sphere = table_exists laws range sphere_module sphere_is one_alone in
    let r = canonical_by laws range m is order table.0 table.1 in
    let q = canonical_by laws range sphere_module sphere_is one_alone sphere.0 sphere.1 in
    let told = tells (resolution m table.0) (resolution sphere_module sphere.0) r q (sphere-is sphere.0) in
    (told_of_classes told.0, record { table = table.0; resolved = table.1; sphere = sphere.0; sphere_resolved = sphere.1; told = told.0; is_told = told.1; is = refl })

sought_exists : Laws → (sought : Sought) (range : Range) → HasAnswer (IsSoughtAnswer sought range) range
sought_exists laws (Product a x) range = laws.one_product range a x
sought_exists laws (Bracket a b c) range = laws.brackets range a b c

form_exists : Laws → (form : Form) (range : Range) → Makes (IsInForm form range)
form_exists laws (Squares sheet shape) range = read_off_exists laws.tables (sheet_of sheet shape range) range
form_exists laws (ProductsOf layout by shape) range = classes_exist laws.tables (told_in layout shape range by) range (laws.products layout shape range by)
form_exists laws (ToTell sought) range = classes_exist laws.tables (IsSoughtAnswer sought range) range (sought_exists laws sought range)

found_exists : Laws → (sought : Sought) → Makes (IsFound sought)
found_exists laws sought m is order = form_exists laws (ToTell sought) (range_for sought m) m is order

-- the file of bytes that have a value
file_of_value : (bytes : List ℕ) → HasValue bytes → (file : Result File Malformed) × IsFileOf bytes file
file_of_value bytes has = of_value has.value has.is_value
  where
    of_value : (value : Result Data Malformed) → IsValueOf bytes value → (file : Result File Malformed) × IsFileOf bytes file
    of_value (Ok d) is = (file_of d, described d is)
    of_value (Err e) is = (Err e, no_value e is)

module _ (accepted : AcceptedIsModule) (P : ModuleAnswers) (made : Makes P) where
  of_found : (f : File) → NeverFall f.generators → (found : Option CheckFault) → refusal_of f ≡ found → (answer : Result (List ℕ) Failure) × MatchOption found (P (derived_module f) answer) (λ e. answer ≡ Err (NotModule f e))
  of_found f order (Some e) h = (Err (NotModule f e), refl)
  of_found f order None h = made (derived_module f) (accepted f order h) order

  of_file : (bytes : List ℕ) (file : Result File Malformed) → IsFileOf bytes file → (answer : Result (List ℕ) Failure) × IsModuleAnswer P bytes answer
  of_file bytes (Ok f) is =
      let found = of_found f (file_in_order bytes (Ok f) is f refl) (refusal_of f) refl in
      (found.0, record { file = Ok f; is_file = is; is_answer = found.1 })
  of_file bytes (Err e) is = (Err (NoModuleFile e), record { file = Err e; is_file = is; is_answer = refl })

  of_bytes : (bytes : List ℕ) → HasValue bytes → (answer : Result (List ℕ) Failure) × IsModuleAnswer P bytes answer
  of_bytes bytes has = let file = file_of_value bytes has in of_file bytes file.0 file.1

  at_origin : (origin : Origin) (bytes : List ℕ) → (IsRead origin → HasValue bytes) → (answer : Result (List ℕ) Failure) × IsAnswerAt origin P bytes answer
  at_origin Sphere bytes has = made (derived_module sphere_file) (accepted sphere_file one_alone refl) one_alone
  at_origin (Sample n) bytes has =
      let order : NeverFall (sample_generators n) = (sample_by_degree n).ordered in
      made (derived_module (sample_file n)) (sample_is_module n) order
  at_origin OfFile bytes has = of_bytes bytes (has tt)

to_plan : Laws → AdmissibleFormIsUnique → (plan : Plan) (bytes : List ℕ) → (PlanReads plan → HasValue bytes) → (answer : Result (List ℕ) Failure) × IsAnswerTo plan bytes answer
to_plan laws forms (Resolve origin form common) bytes has = at_origin laws.tables.accepted (IsInForm form common.range) (form_exists laws form common.range) origin bytes has
to_plan laws forms (Seek sought workers) bytes has = of_bytes laws.tables.accepted (IsFound sought) (found_exists laws sought) bytes (has tt)
to_plan laws forms Check bytes has = of_bytes laws.tables.accepted (IsText IsLineOn) line_exists bytes (has tt)
to_plan laws forms (Build made) bytes has = build_answer_exists made bytes (has tt)
to_plan laws forms (Multiply numbers) bytes has = let x = product_exists forms numbers in (Ok x.0, x.1)
to_plan laws forms Migrate bytes has = of_bytes laws.tables.accepted (IsText IsMigrated) migrated_exists bytes (has tt)
to_plan laws forms (Verify range) bytes has = of_bytes laws.tables.accepted (IsText (IsVerifiedChart range)) (read_off_exists laws.tables (verified_of range) range) bytes (has tt)

to_asked : Laws → AdmissibleFormIsUnique → (asked : Option Plan) (bytes : List ℕ) → (Reads asked → HasValue bytes) → (answer : Result (List ℕ) Failure) × IsAskedAnswer asked bytes answer
to_asked laws forms None bytes has = (Err Words, refl)
to_asked laws forms (Some plan) bytes has = to_plan laws forms plan bytes has

pub answer_is_there : Laws → AdmissibleFormIsUnique → AnswerExists
answer_is_there laws forms words bytes has = to_asked laws forms (asked_by words) bytes has

-- ---- the answer of a task

pub task_is_done : Laws → (task : Task) → HasItsAnswer task
task_is_done laws (Text made) = (Ok made.items, refl)
task_is_done laws (Resolution r) = form_exists laws r.form r.common.range r.resolved.plain r.resolved.is_module r.resolved.by_degree.ordered
task_is_done laws (Migration m) = migrated_exists m.plain m.is_module m.by_degree.ordered
task_is_done laws (Verification m range) = read_off_exists laws.tables (verified_of range) range m.plain m.is_module m.by_degree.ordered

pub all_ok : {X E : Type 0} (r : Result X E) (P : X → Type 0) → ((x : X) → P x) → IfOk r P
all_ok (Ok x) P p = p x
all_ok (Err e) P p = tt
