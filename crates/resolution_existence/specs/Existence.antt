-- What exists: the choice among candidates, the step, canonical tables, and the tables of starts. With the laws on uniqueness
-- there is exactly one of each. (Echelon forms and reduced bases are in f2_matrix.)
use Rattle.std.specs.Prelude.{◌≡◌, ℕ, pos, ◌+ℤ◌, Bool, List, length, Option, Some}
use Rattle.f2_vec.specs.Spans.{HaveWidth}
use Rattle.free_module.specs.Graded.{KeepsWidths}
use Rattle.free_module.specs.LinearMap.{AreImages}
use Rattle.resolution_laws.specs.Resolution.{Module, Content, degrees_from, images_of, target_over, candidates_over, IsChosen, IsStep, IsCanonicalTable}
use Rattle.resolution_laws.specs.Start.{Entry, entry_at, IsOf}

-- ---- the step

abbrev pub ChoiceExists : Type 0
ChoiceExists = (n : ℕ) (old candidates : List (List Bool)) → HaveWidth n old → HaveWidth n candidates →
    (chosen : List (List Bool)) × IsChosen n old candidates chosen

-- What the step asks of the row below and of the squares of the row so far: operations of the module keep widths, and images
-- and candidates are vectors of the target of d_s. That the module is zero below its bottom is not needed.
pub record IsSteppable (m : Module) (below : Option (List Content)) (squares : List Content) : Type 0 where
  pub keeps : KeepsWidths m.graded
  pub images : AreImages (target_over m below) (degrees_from m.bottom squares) (images_of squares)
  pub candidates : HaveWidth ((target_over m below).width (m.bottom +ℤ pos (length squares)))
      (candidates_over m below (length squares))

abbrev pub StepExists : Type 0
StepExists = (m : Module) (below : Option (List Content)) (squares : List Content) → IsSteppable m below squares →
    (content : Content) × IsStep m below squares content

-- ---- tables

-- there is a canonical resolution through each row and degree
abbrev pub CanonicalTableExists : Type 0
CanonicalTableExists = (m : Module) (s t : ℕ) → KeepsWidths m.graded →
    (table : List (List Content)) × IsCanonicalTable m s t table

-- each square of the start is that of the start's own table: so it has its shape, over squares that are there
abbrev pub IsOwnStart : Module → List Entry → Type 0
IsOwnStart m start = (s k : ℕ) (read : Content) → entry_at start s k ≡ Some read → IsOf m start s k read

-- and then the table has a square at each place
abbrev pub TableOfStartExists : Type 0
TableOfStartExists = (m : Module) (start : List Entry) (s k : ℕ) → KeepsWidths m.graded → IsOwnStart m start →
    (content : Content) × IsOf m start s k content
