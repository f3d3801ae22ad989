-- What is asked has one answer for the same input: bytes describe one thing, and a range has one canonical resolution.
use Rattle.std.proofs.Common.{◌≡◌, ℕ, List, ap, sym, subst, ◌∙◌}
use Rattle.std.specs.Prelude.{Option, Some, None, MatchOption, Result, Ok, Err}
use Rattle.std.specs.List.{sum}
use Rattle.bidegree.specs.declared.range.Range.{Range}
use Rattle.adem_laws.specs.Admissible.{value}
use Rattle.adem_laws.proofs.Forms.{admissible_form_is_unique}
use Rattle.adem_laws.proofs.Values.{length-value}
use Rattle.f2_matrix.proofs.Unique.{kernel_basis_unique, row_basis_unique}
use Rattle.module_spec.specs.Spec.{File}
use Rattle.module_json.specs.declared.malformed.Malformed.{Malformed}
use Rattle.module_json.proofs.Reading.{file_unique}
use Rattle.finite_module.specs.Module.{Module as SteenrodModule}
use Rattle.finite_module.specs.DerivedAction.{derived_module}
use Rattle.finite_module.specs.Checked.{sphere_file}
use Rattle.finite_module.specs.Sample.{sample_file}
use Rattle.module_check.specs.Acceptance.{refusal_of}
use Rattle.module_check.specs.declared.fault.CheckFault.{CheckFault}
use Rattle.resolution_laws.specs.Resolution.{Content}
use Rattle.resolution_laws.proofs.TableIsUnique.{table_is_unique}
use Rattle.square.specs.Squares.{module_over}
use Rattle.ext_chart.specs.Product.{product_text}
use Rattle.ext_products.specs.Products.{resolution, Telling, HasOneAnswer}
use Rattle.ext_products.proofs.OneProduct.{one_answers-unique}
use Rattle.ext_table.specs.Layouts.{told_in}
use Rattle.ext_table.proofs.Layouts.{layout-unique}
use Rattle.ext_brackets.proofs.Unique.{answers-unique as bracket-answers-unique}
use Rattle.ext_report.specs.declared.failure.Failure.{Failure}
use Rattle.ext_report.specs.declared.failure.Failure.TheVariants.{NotModule}
use Rattle.ext_build.proofs.BuildAnswers.{build_answer_unique}
use Rattle.ext_run.specs.declared.plan.Origin.{Origin}
use Rattle.ext_run.specs.declared.plan.Origin.TheVariants.{Sphere, Sample, File as OfFile}
use Rattle.ext_run.specs.declared.plan.Sought.{Sought}
use Rattle.ext_run.specs.declared.plan.Sought.TheVariants.{Product, Bracket}
use Rattle.ext_run.specs.declared.plan.Form.{Form}
use Rattle.ext_run.specs.declared.plan.Form.TheVariants.{Squares, Products, Sought as ToTell}
use Rattle.ext_run.specs.declared.plan.Plan.{Plan}
use Rattle.ext_run.specs.declared.plan.Plan.TheVariants.{Resolve, Seek, Check, Build, Multiply, Migrate, Verify}
use Rattle.ext_run.specs.Forms.{IsReadOff, IsVerifiedChart, sheet_of, verified_of, IsText, IsToldOfClasses, told_of_classes, IsSoughtAnswer, IsInForm}
use Rattle.ext_run.specs.Plan.{range_for, asked_by}
use Rattle.ext_run.specs.Answer.{IsLineOn, IsMigrated, IsProduct, IsFound, ModuleAnswers, IsAnswerOfFile, IsModuleAnswer, IsAnswerAt, IsAnswerTo, IsAskedAnswer, AnswerIsUnique}

-- two texts that are made of tables of one module and range
read_off_unique : (text_of : SteenrodModule → List (List Content) → List ℕ) (range : Range) (m : SteenrodModule) (x y : List ℕ) → IsReadOff text_of range m x → IsReadOff text_of range m y → x ≡ y
read_off_unique text_of range m x y a b =
    a.is ∙ (ap (text_of m) (table_is_unique kernel_basis_unique (module_over m) range.s range.t a.table b.table a.resolved.canonical b.resolved.canonical) ∙ sym b.is)

product-unique : (numbers x y : List ℕ) → IsProduct numbers x → IsProduct numbers y → x ≡ y
product-unique numbers x y a b =
    let form = admissible_form_is_unique (sum numbers) (value numbers) (length-value numbers) in
    let same : a.monomials ≡ b.monomials = form.2 a.monomials a.admissible ∙ sym (form.2 b.monomials b.admissible) in
    a.product ∙ (ap (product_text (sum numbers) (value numbers)) same ∙ sym b.product)

-- what is right for a module is one answer
abbrev IsOne : ModuleAnswers → Type 0
IsOne P = (m : SteenrodModule) (x y : Result (List ℕ) Failure) → P m x → P m y → x ≡ y

classes-unique : (range : Range) (IsToldOf : Telling) → HasOneAnswer IsToldOf → IsOne (IsToldOfClasses IsToldOf range)
classes-unique range IsToldOf one m x y a b =
    let unique = table_is_unique kernel_basis_unique in
    let sphere_module = derived_module sphere_file in
    let table : a.table ≡ b.table = unique (module_over m) range.s range.t a.table b.table a.resolved.canonical b.resolved.canonical in
    let sphere : a.sphere ≡ b.sphere = unique (module_over sphere_module) range.s range.t a.sphere b.sphere a.sphere_resolved.canonical b.sphere_resolved.canonical in
    let over_table = subst (λ (t : List (List Content)). IsToldOf (resolution m t) (resolution sphere_module a.sphere) a.told) table a.is_told in
    let over_both = subst (λ (t : List (List Content)). IsToldOf (resolution m b.table) (resolution sphere_module t) a.told) sphere over_table in
    let told = one (resolution m b.table) (resolution sphere_module b.sphere) a.told b.told over_both b.is_told in
    a.is ∙ (ap told_of_classes told ∙ sym b.is)

one-text : (IsTextOf : SteenrodModule → List ℕ → Type 0) → ((m : SteenrodModule) (x y : List ℕ) → IsTextOf m x → IsTextOf m y → x ≡ y) → IsOne (IsText IsTextOf)
one-text IsTextOf texts m (Ok x) (Ok y) p q = ap (λ (t : List ℕ). Ok t) (texts m x y p q)
one-text IsTextOf texts m (Ok x) (Err e) p q = absurd q
one-text IsTextOf texts m (Err e) b p q = absurd p

sought_unique : (sought : Sought) (range : Range) → HasOneAnswer (IsSoughtAnswer sought range)
sought_unique (Product a x) range = one_answers-unique range a x
sought_unique (Bracket a b c) range = bracket-answers-unique row_basis_unique range a b c

form_unique : (form : Form) (range : Range) → IsOne (IsInForm form range)
form_unique (Squares sheet shape) range = one-text (IsReadOff (sheet_of sheet shape range) range) (read_off_unique (sheet_of sheet shape range) range)
form_unique (Products layout by shape) range = classes-unique range (told_in layout shape range by) (layout-unique layout shape range by)
form_unique (ToTell sought) range = classes-unique range (IsSoughtAnswer sought range) (sought_unique sought range)

found_unique : (sought : Sought) → IsOne (IsFound sought)
found_unique sought m x y p q = form_unique (ToTell sought) (range_for sought m) m x y p q

module _ (P : ModuleAnswers) (one : IsOne P) where
  of_refusal : (f : File) (found : Option CheckFault) (a b : Result (List ℕ) Failure) → MatchOption found (P (derived_module f) a) (λ e. a ≡ Err (NotModule f e)) → MatchOption found (P (derived_module f) b) (λ e. b ≡ Err (NotModule f e)) → a ≡ b
  of_refusal f None a b p q = one (derived_module f) a b p q
  of_refusal f (Some e) a b p q = p ∙ sym q

  of_file : (file : Result File Malformed) (a b : Result (List ℕ) Failure) → IsAnswerOfFile P file a → IsAnswerOfFile P file b → a ≡ b
  of_file (Ok f) a b p q = of_refusal f (refusal_of f) a b p q
  of_file (Err e) a b p q = p ∙ sym q

  module_answer_unique : (bytes : List ℕ) (a b : Result (List ℕ) Failure) → IsModuleAnswer P bytes a → IsModuleAnswer P bytes b → a ≡ b
  module_answer_unique bytes a b p q =
      let same : p.file ≡ q.file = file_unique bytes p.file q.file p.is_file q.is_file in
      of_file q.file a b (subst (λ (file : Result File Malformed). IsAnswerOfFile P file a) same p.is_answer) q.is_answer

  at_unique : (origin : Origin) (bytes : List ℕ) (a b : Result (List ℕ) Failure) → IsAnswerAt origin P bytes a → IsAnswerAt origin P bytes b → a ≡ b
  at_unique Sphere bytes a b p q = one (derived_module sphere_file) a b p q
  at_unique (Sample n) bytes a b p q = one (derived_module (sample_file n)) a b p q
  at_unique OfFile bytes a b p q = module_answer_unique bytes a b p q

plan_unique : (plan : Plan) (bytes : List ℕ) (a b : Result (List ℕ) Failure) → IsAnswerTo plan bytes a → IsAnswerTo plan bytes b → a ≡ b
plan_unique (Resolve origin form common) bytes a b p q = at_unique (IsInForm form common.range) (form_unique form common.range) origin bytes a b p q
plan_unique (Seek sought workers) bytes a b p q = module_answer_unique (IsFound sought) (found_unique sought) bytes a b p q
plan_unique Check bytes a b p q = module_answer_unique (IsText IsLineOn) (one-text IsLineOn (λ m x y s t. s ∙ sym t)) bytes a b p q
plan_unique (Build made) bytes a b p q = build_answer_unique made bytes a b p q
plan_unique (Multiply numbers) bytes a b p q = one-text (λ m. IsProduct numbers) (λ m. product-unique numbers) (derived_module sphere_file) a b p q
plan_unique Migrate bytes a b p q = module_answer_unique (IsText IsMigrated) (one-text IsMigrated (λ m x y s t. s ∙ sym t)) bytes a b p q
plan_unique (Verify range) bytes a b p q = module_answer_unique (IsText (IsVerifiedChart range)) (one-text (IsVerifiedChart range) (read_off_unique (verified_of range) range)) bytes a b p q

pub asked_unique : (asked : Option Plan) (bytes : List ℕ) (a b : Result (List ℕ) Failure) → IsAskedAnswer asked bytes a → IsAskedAnswer asked bytes b → a ≡ b
asked_unique None bytes a b p q = p ∙ sym q
asked_unique (Some plan) bytes a b p q = plan_unique plan bytes a b p q

pub answer-unique : AnswerIsUnique
answer-unique words bytes a b p q = asked_unique (asked_by words) bytes a b p q
