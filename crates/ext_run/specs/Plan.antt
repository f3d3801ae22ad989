-- What a command asks for: where its module comes from, how its answer is made, and what is used of the disk.
-- Outside of this file, all goes by plans.
use Rattle.std.specs.Prelude.{◌≡◌, ◌≤◌, ℕ, ℤ, List, Bool, true, false, Option, Some, None, option_map, MatchOption, Ok, ⊤}
use Rattle.std.specs.List.{sum}
use Rattle.bidegree.specs.declared.range.Range.{Range}
use Rattle.bidegree.specs.declared.shape.Shape.TheVariants.{Rectangle}
use Rattle.least_range.specs.Least.{product_range, bracket_range}
use Rattle.module_spec.specs.Spec.{File}
use Rattle.module_json.specs.ModuleFile.{IsFileOf}
use Rattle.finite_module.specs.Module.{Module as SteenrodModule, bottom}
use Rattle.finite_module.specs.DerivedAction.{derived_module}
use Rattle.finite_module.specs.Checked.{sphere_file}
use Rattle.finite_module.specs.Sample.{sample_file}
use Rattle.module_check.specs.Acceptance.{refusal_of}
use Rattle.ext_words.specs.declared.command.TheConstants.{MAX_SQUARES_DEGREE}
use Rattle.ext_words.specs.declared.command.Common.{Common}
use Rattle.ext_words.specs.declared.command.Command.{Command}
use Rattle.ext_words.specs.declared.command.Command.TheVariants.{Sphere, Resolve, Dump, Products, Massey, Product, Bracket, Check, Build, Sample, Sq, Migrate, Verify, Table}
use Rattle.ext_words.specs.Words.{command_of, AreWorkers, IsRangeWithin, IsWithin}
use Rattle.ext_table.specs.declared.layout.Layout.TheVariants.{Lists, Table as InSquares}
use Rattle.ext_run.specs.declared.plan.Origin.{Origin}
use Rattle.ext_run.specs.declared.plan.Origin.TheVariants.{Sphere as OfSphere, Sample as OfSample, File as OfFile}
use Rattle.ext_run.specs.declared.plan.Sheet.TheVariants.{Chart, Differentials, Summary}
use Rattle.ext_run.specs.declared.plan.Sought.{Sought}
use Rattle.ext_run.specs.declared.plan.Sought.TheVariants.{Product as OneProduct, Bracket as OneBracket}
use Rattle.ext_run.specs.declared.plan.Form.TheVariants.{Squares, Products as ProductsOf, Sought as ToTell}
use Rattle.ext_run.specs.declared.plan.Plan.{Plan}
use Rattle.ext_run.specs.declared.plan.Plan.TheVariants.{Resolve as ToResolve, Seek, Check as ToCheck, Build as ToBuild, Multiply, Migrate as ToMigrate, Verify as ToVerify}

abbrev pub plan_of : Command → Plan
plan_of (Sphere common) = ToResolve OfSphere (Squares Chart common.shape) common
plan_of (Resolve common) = ToResolve OfFile (Squares Chart common.shape) common
plan_of (Dump common) = ToResolve OfFile (Squares Differentials common.shape) common
plan_of (Products common by) = ToResolve OfFile (ProductsOf Lists by common.shape) common
plan_of (Massey common a b c) = ToResolve OfFile (ToTell (OneBracket a b c)) common
plan_of (Product workers a x) = Seek (OneProduct a x) workers
plan_of (Bracket workers a b c) = Seek (OneBracket a b c) workers
plan_of Check = ToCheck
plan_of (Build made) = ToBuild made
plan_of (Sample n common) = ToResolve (OfSample n) (Squares Summary common.shape) common
plan_of (Sq numbers) = Multiply numbers
plan_of Migrate = ToMigrate
plan_of (Verify range) = ToVerify range
plan_of (Table common by) = ToResolve OfFile (ProductsOf InSquares by common.shape) common

-- what the words ask for, none where they are outside the grammar
abbrev pub asked_by : List (List ℕ) → Option Plan
asked_by words = option_map plan_of (command_of words)

-- within the limits of the grammar
abbrev pub IsPlanWithin : Plan → Type 0
IsPlanWithin (ToResolve origin form common) = IsWithin common
IsPlanWithin (Seek sought workers) = AreWorkers workers
IsPlanWithin (Multiply numbers) = sum numbers ≤ MAX_SQUARES_DEGREE
IsPlanWithin (ToVerify range) = IsRangeWithin range
IsPlanWithin plan = ⊤

-- ---- how far a module is resolved for what is sought

-- the least range that has it, over a module with this bottom, as far as ranges go
abbrev pub least_range : Sought → ℤ → Range
least_range (OneProduct a x) bottom = product_range bottom a x
least_range (OneBracket a b c) bottom = bracket_range bottom a b c

abbrev pub range_for : Sought → SteenrodModule → Range
range_for sought m = least_range sought (bottom m.generators)

-- by so many workers; nothing is kept, and nothing reported
abbrev pub common_for : Sought → ℕ → SteenrodModule → Common
common_for sought workers m =
    record { range = range_for sought m; shape = Rectangle; workers = workers; save = false; live = false }

-- ---- the module

-- the bytes are a file that describes the module
pub record IsModuleIn (bytes : List ℕ) (m : SteenrodModule) : Type 0 where
  pub file : File
  pub is_file : IsFileOf bytes (Ok file)
  pub no_refusal : refusal_of file ≡ None
  pub is_derived : m ≡ derived_module file

-- the module of this origin, where the input is these bytes
abbrev pub IsModuleAt : Origin → List ℕ → SteenrodModule → Type 0
IsModuleAt OfSphere bytes m = m ≡ derived_module sphere_file
IsModuleAt (OfSample n) bytes m = m ≡ derived_module (sample_file n)
IsModuleAt OfFile bytes m = IsModuleIn bytes m

-- the module that is resolved or told of, or whose save file is used; none where none is
abbrev pub IsModuleOf : Plan → List ℕ → SteenrodModule → Type 0
IsModuleOf (ToResolve origin form common) bytes m = IsModuleAt origin bytes m
IsModuleOf (Seek sought workers) bytes m = IsModuleIn bytes m
IsModuleOf ToCheck bytes m = IsModuleIn bytes m
IsModuleOf ToMigrate bytes m = IsModuleIn bytes m
IsModuleOf (ToVerify range) bytes m = IsModuleIn bytes m
IsModuleOf plan bytes m = ⊥

abbrev pub IsModuleFor : Option Plan → List ℕ → SteenrodModule → Type 0
IsModuleFor asked bytes m = MatchOption asked ⊥ (λ plan. IsModuleOf plan bytes m)

-- ---- the input

abbrev pub IsRead : Origin → Type 0
IsRead OfSphere = ⊥
IsRead (OfSample n) = ⊥
IsRead OfFile = ⊤

abbrev pub PlanReads : Plan → Type 0
PlanReads (ToResolve origin form common) = IsRead origin
PlanReads (Seek sought workers) = ⊤
PlanReads ToCheck = ⊤
PlanReads (ToBuild made) = ⊤
PlanReads (Multiply numbers) = ⊥
PlanReads ToMigrate = ⊤
PlanReads (ToVerify range) = ⊤

-- the words ask for something that is read
abbrev pub Reads : Option Plan → Type 0
Reads asked = MatchOption asked ⊥ PlanReads

-- ---- reports

-- the range of which it is reported how far it is resolved; none where nothing is reported
abbrev pub live_where : Bool → Range → Option Range
live_where true range = Some range
live_where false range = None

abbrev pub live_of : Plan → Option Range
live_of (ToResolve origin form common) = live_where common.live common.range
live_of plan = None

abbrev pub live_for : Option Plan → Option Range
live_for None = None
live_for (Some plan) = live_of plan

-- ---- the disk

-- What its save file, of which the squares are taken up, is used for.
pub data Use : Type 0 where
  -- it keeps the squares of a range
  keeping : Range → Use
  -- it gets the quasi-inverses that it lacks
  migrating : Use
  -- it has to be a certificate of a range, and gets nothing
  verifying : Range → Use

abbrev pub use_where : Bool → Range → Option Use
use_where true range = Some (keeping range)
use_where false range = None

-- none where the disk gets no call
abbrev pub use_of : Plan → Option Use
use_of (ToResolve origin form common) = use_where common.save common.range
use_of ToMigrate = Some migrating
use_of (ToVerify range) = Some (verifying range)
use_of plan = None

abbrev pub use_for : Option Plan → Option Use
use_for None = None
use_for (Some plan) = use_of plan
