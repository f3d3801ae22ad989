-- What is told of a module's canonical resolution, in each form.
use Rattle.std.specs.Prelude.{◌≡◌, ℕ, ◌+◌, ◌≤◌, List, length, IsOkAnd, Result, Ok, Err}
use Rattle.bidegree.specs.declared.range.Range.{Range}
use Rattle.bidegree.specs.declared.shape.Shape.{Shape}
use Rattle.bidegree.specs.declared.shape.Shape.TheVariants.{Rectangle}
use Rattle.bidegree.specs.LastDegrees.{last_degree}
use Rattle.finite_module.specs.Module.{Module as SteenrodModule, bottom}
use Rattle.finite_module.specs.DerivedAction.{derived_module}
use Rattle.finite_module.specs.Checked.{sphere_file}
use Rattle.ext_report.specs.declared.failure.Failure.{Failure}
use Rattle.ext_report.specs.declared.failure.Failure.TheVariants.{Classes}
use Rattle.resolution_laws.specs.Resolution.{Content, row_of, IsCanonicalTable, generator_count}
use Rattle.resolution_laws.specs.Exactness.{IsMinimalResolution}
use Rattle.square.specs.Squares.{module_over}
use Rattle.chart_lines.specs.Chart.{chart_text}
use Rattle.ext_chart.specs.Files.{verified_text}
use Rattle.ext_chart.specs.Dump.{dump_text}
use Rattle.ext_chart.specs.Summary.{summary_text}
use Rattle.ext_products.specs.declared.refusal.Refusal.{Refusal}
use Rattle.ext_products.specs.Products.{resolution, Telling, IsOneProductAnswer}
use Rattle.ext_table.specs.Layouts.{told_in}
use Rattle.ext_brackets.specs.Brackets.{IsBracketAnswer, IsOfPlaces}
use Rattle.ext_run.specs.declared.plan.Sheet.{Sheet}
use Rattle.ext_run.specs.declared.plan.Sheet.TheVariants.{Chart, Differentials, Summary}
use Rattle.ext_run.specs.declared.plan.Sought.{Sought}
use Rattle.ext_run.specs.declared.plan.Sought.TheVariants.{Product, Bracket}
use Rattle.ext_run.specs.declared.plan.Form.{Form}
use Rattle.ext_run.specs.declared.plan.Form.TheVariants.{Squares, Products, Sought as ToTell}

-- table is that of the module's canonical resolution through the range, which is exact and minimal
pub record IsResolved (range : Range) (m : SteenrodModule) (table : List (List Content)) : Type 0 where
  pub canonical : IsCanonicalTable (module_over m) range.s range.t table
  pub minimal : IsMinimalResolution (module_over m) range.s range.t table

-- ---- a text

-- text is made of that table, as text_of says
pub record IsReadOff (text_of : SteenrodModule → List (List Content) → List ℕ) (range : Range) (m : SteenrodModule)
    (text : List ℕ) : Type 0 where
  pub table : List (List Content)
  pub resolved : IsResolved range m table
  pub is : text ≡ text_of m table

-- the chart, the differentials or the summary of the squares of a table that are of a shape
abbrev pub sheet_of : Sheet → Shape → Range → SteenrodModule → List (List Content) → List ℕ
sheet_of Chart shape range m table =
    chart_text (bottom m.generators) range.s (last_degree shape range) (generator_count table)
sheet_of Differentials shape range m table = dump_text m.generators range.s (last_degree shape range) table
sheet_of Summary shape range m table =
    summary_text (length m.generators) (bottom m.generators) range.s (last_degree shape range) (generator_count table)

-- its chart, and behind that the number of squares that were verified
abbrev pub verified_of : Range → SteenrodModule → List (List Content) → List ℕ
verified_of range m table =
    verified_text (bottom m.generators) range.s (last_degree Rectangle range) (generator_count table)

-- text is the chart of a verified save file
abbrev pub IsVerifiedChart : Range → SteenrodModule → List ℕ → Type 0
IsVerifiedChart range = IsReadOff (verified_of range) range

-- the answer is a text that is right for the module
abbrev pub IsText : (SteenrodModule → List ℕ → Type 0) → SteenrodModule → Result (List ℕ) Failure → Type 0
IsText IsTextOf m answer = IsOkAnd answer (IsTextOf m)

-- ---- what is told of classes

-- what is told of classes, as an answer
abbrev pub told_of_classes : Result (List ℕ) Refusal → Result (List ℕ) Failure
told_of_classes (Ok text) = Ok text
told_of_classes (Err refusal) = Err (Classes refusal)

-- The answer is what is told, as IsToldOf says, of that table's classes and of those of the sphere's canonical resolution
-- through the range.
pub record IsToldOfClasses (IsToldOf : Telling) (range : Range) (m : SteenrodModule)
    (answer : Result (List ℕ) Failure) : Type 0 where
  pub table : List (List Content)
  pub resolved : IsResolved range m table
  pub sphere : List (List Content)
  pub sphere_resolved : IsResolved range (derived_module sphere_file) sphere
  pub told : Result (List ℕ) Refusal
  pub is_told : IsToldOf (resolution m table) (resolution (derived_module sphere_file) sphere) told
  pub is : answer ≡ told_of_classes told

-- no square of the table is past the range
pub record LiesIn (range : Range) (table : List (List Content)) : Type 0 where
  pub rows : length table ≤ range.s + 1
  pub squares : (s : ℕ) → length (row_of table s) ≤ range.t + 1

-- The refusal is what is told, as IsToldOf says, of some squares in the range, of the module, whatever they hold, and of the classes of
-- the sphere's canonical resolution through the range.
pub record IsRefusedOver (IsToldOf : Telling) (range : Range) (m : SteenrodModule) (refusal : Refusal) : Type 0 where
  pub table : List (List Content)
  pub within : LiesIn range table
  pub sphere : List (List Content)
  pub sphere_resolved : IsResolved range (derived_module sphere_file) sphere
  pub is_told : IsToldOf (resolution m table) (resolution (derived_module sphere_file) sphere) (Err refusal)

-- the answer is a refusal of classes, and this holds of it
abbrev pub IsRefusalWith : (Refusal → Type 0) → Result (List ℕ) Failure → Type 0
IsRefusalWith Holds (Err (Classes refusal)) = Holds refusal
IsRefusalWith Holds answer = ⊥

-- what is told where it is sought of classes
abbrev pub IsSoughtAnswer : Sought → Range → Telling
IsSoughtAnswer (Product a x) range = IsOneProductAnswer range a x
IsSoughtAnswer (Bracket a b c) range = IsBracketAnswer range a b c

-- ---- the forms

-- the answer is that of the module's canonical resolution through the range, in this form
abbrev pub IsInForm : Form → Range → SteenrodModule → Result (List ℕ) Failure → Type 0
IsInForm (Squares sheet shape) range = IsText (IsReadOff (sheet_of sheet shape range) range)
IsInForm (Products layout by shape) range = IsToldOfClasses (told_in layout shape range by) range
IsInForm (ToTell sought) range = IsToldOfClasses (IsSoughtAnswer sought range) range

-- The answer is a refusal of classes, in a form that tells of them. A refusal of a place is right over some squares of the module.
abbrev pub IsRefusedIn : Form → Range → SteenrodModule → Result (List ℕ) Failure → Type 0
IsRefusedIn (Products layout by shape) range m answer =
    IsRefusalWith (IsRefusedOver (told_in layout shape range by) range m) answer
IsRefusedIn (ToTell sought) range m answer =
    IsRefusalWith (λ refusal. IsOfPlaces refusal → IsRefusedOver (IsSoughtAnswer sought range) range m refusal) answer
IsRefusedIn form range m answer = ⊥
