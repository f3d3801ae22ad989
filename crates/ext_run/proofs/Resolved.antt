-- The table that is resolved, cut to its range, is the module's canonical resolution, and the texts are of that.
use Rattle.std.proofs.Common.{◌≡◌, ℕ, zero, suc, ◌+◌, ◌≤◌, ◌⊎◌, inl, inr, List, [], ◌∷◌, length, map, take, refl, sym, subst, ◌∙◌, ap, arith}
use Rattle.std.proofs.lemmas.List.{take-take, length-take, length-map}
use Rattle.resolution_laws.specs.Resolution.{Content, IsCanonicalTable, row_of}
use Rattle.lift_laws.specs.Lifts.{Resolution}
use Rattle.square.specs.Squares.{module_over}
use Rattle.square.specs.Tables.{Staircase, plain_rows, IsThrough, cut}
use Rattle.resolution_step.proofs.Canonical.{row_of-cut}
use Rattle.ext_chart.specs.Alike.{AreToldAlike}
use Rattle.ext_chart.proofs.Agreement.{AgreeThrough, agreeing_alike, chart_text-alike, dump_text-alike, summary_text-alike}
use Rattle.ext_chart.proofs.Seen.{last_within}
use Rattle.std.specs.Prelude.{◌≢◌, Result, Err}
use Rattle.bidegree.specs.declared.range.Range.{Range}
use Rattle.bidegree.specs.declared.shape.Shape.{Shape}
use Rattle.bidegree.specs.LastDegrees.{last_degree}
use Rattle.finite_module.specs.Module.{Module, bottom}
use Rattle.finite_module.specs.Checked.{sphere_file}
use Rattle.finite_module.specs.DerivedAction.{derived_module}
use Rattle.ext_products.specs.declared.refusal.Refusal.{Refusal}
use Rattle.ext_products.specs.Products.{resolution, Telling, IsAnswerIn}
use Rattle.chain_map.specs.Classes.{through}
use Rattle.ext_run.specs.declared.plan.Sheet.{Sheet}
use Rattle.ext_run.specs.declared.plan.Sheet.TheVariants.{Chart, Differentials, Summary}
use Rattle.ext_run.specs.Forms.{IsResolved, IsReadOff, sheet_of, IsToldOfClasses, told_of_classes, LiesIn, IsRefusedOver, IsRefusalWith}
use Rattle.ext_products.specs.declared.refusal.ClassesFault.{ClassesFault}
use Rattle.ext_products.specs.declared.refusal.ClassesFault.TheVariants.{Refused, Memory as NoSpace}
use Rattle.ext_report.specs.declared.failure.Failure.TheVariants.{Memory}
use Rattle.ext_report.specs.Failure.{classes_failure}
use Rattle.ext_run.specs.Work.{Told, HasAnswer, answer_of}
use Rattle.ext_run.proofs.AnswerExists.{TableLaws, table_exists, one_alone}

-- a table has the same squares through a range as what is cut of it
pub cut-agrees : (range : Range) (table : Staircase) → IsThrough range table.rows → AgreeThrough range.s range.t (plain_rows table.rows) (cut range (plain_rows table.rows))
cut-agrees range table holds i h =
    let rows = plain_rows table.rows in
    sym (take-take (range.t + 1) (range.t + 1) (row_of rows i) (omega arith)) ∙ ap (take (range.t + 1)) (sym (row_of-cut range table.rows holds i h))

-- the sheets of squares that are told alike are the same
pub sheet_alike : (sheet : Sheet) (shape : Shape) (range : Range) (m : Module) (a b : List (List Content)) → AreToldAlike m.generators range.s (last_degree shape range) a b → sheet_of sheet shape range m a ≡ sheet_of sheet shape range m b
sheet_alike Chart shape range m a b h = chart_text-alike m.generators range.s (last_degree shape range) a b h (bottom m.generators)
sheet_alike Differentials shape range m a b h = dump_text-alike m.generators range.s (last_degree shape range) a b h
sheet_alike Summary shape range m a b h = summary_text-alike m.generators range.s (last_degree shape range) a b h (length m.generators) (bottom m.generators)

pub cut_alike : (shape : Shape) (range : Range) (table : Staircase) → IsThrough range table.rows → AreToldAlike table.resolved.plain.generators range.s (last_degree shape range) (plain_rows table.rows) (cut range (plain_rows table.rows))
cut_alike shape range table through =
    agreeing_alike range.s range.t (plain_rows table.rows) (cut range (plain_rows table.rows)) (cut-agrees range table through) table.resolved.plain.generators (last_degree shape range) (last_within range shape)

pub is_sheet : (sheet : Sheet) (shape : Shape) (range : Range) (table : Staircase) (text : List ℕ) → IsResolved range table.resolved.plain (cut range (plain_rows table.rows)) → IsThrough range table.rows → text ≡ sheet_of sheet shape range table.resolved.plain (plain_rows table.rows) → IsReadOff (sheet_of sheet shape range) range table.resolved.plain text
is_sheet sheet shape range table text resolved through is = record {
  table = cut range (plain_rows table.rows);
  resolved = resolved;
  is = is ∙ sheet_alike sheet shape range table.resolved.plain (plain_rows table.rows) (cut range (plain_rows table.rows)) (cut_alike shape range table through);
}

-- what is told of a table's classes is told of the canonical resolutions
pub is_told_of_classes : TableLaws → (IsToldOf : Resolution → Resolution → Result (List ℕ) Refusal → Type 0) (range : Range) (table : Staircase) (told : Result (List ℕ) Refusal) → IsResolved range table.resolved.plain (cut range (plain_rows table.rows))
    → ((sphere : List (List Content)) → IsCanonicalTable (module_over (derived_module sphere_file)) range.s range.t sphere → IsToldOf (through range table) (resolution (derived_module sphere_file) sphere) told) → IsToldOfClasses IsToldOf range table.resolved.plain (told_of_classes told)
is_told_of_classes laws IsToldOf range table told resolved over =
    let sphere = table_exists laws range (derived_module sphere_file) (laws.accepted sphere_file one_alone refl) one_alone in
    record { table = cut range (plain_rows table.rows); resolved = resolved; sphere = sphere.0; sphere_resolved = sphere.1; told = told; is_told = over sphere.0 sphere.1.canonical; is = refl }

-- what a call says that tells nothing of classes
pub classes_failed : (P : Result (List ℕ) Refusal → Type 0) (fault : ClassesFault) (text : Told) → text ≡ Err (classes_failure fault) → (fault ≢ NoSpace → (refusal : Refusal) × (fault ≡ Refused refusal) × P (Err refusal)) → HasAnswer text → (told : Result (List ℕ) Refusal) × (answer_of text ≡ told_of_classes told) × P told
classes_failed P (Refused refusal) text is why has =
    let known = why (λ h. cc) in
    (Err known.0, ap answer_of is ∙ ap (λ (fault : ClassesFault). Err (classes_failure fault)) known.1, known.2)
classes_failed P NoSpace text is why has = absurd (subst HasAnswer is has)

-- what is cut to a range has no square past it
row_fits : (n : ℕ) (rows : List (List Content)) (s : ℕ) → length (row_of (map (take n) rows) s) ≤ n
row_fits n [] s = omega arith
row_fits n (r ∷ rows) zero = let len = length-take n r in omega arith
row_fits n (r ∷ rows) (suc s) = row_fits n rows s

cut_lies : (range : Range) (rows : List (List Content)) → LiesIn range (cut range rows)
cut_lies range rows = record {
  rows = let len = length-take (range.s + 1) rows in let same = length-map (take (range.s + 1) rows) (take (range.t + 1)) in omega arith;
  squares = row_fits (range.t + 1) (take (range.s + 1) rows);
}

-- what is refused over the table's squares is so over some squares of its module
pub refused_over : TableLaws → (IsToldOf : Telling) (range : Range) (table : Staircase) (refusal : Refusal) → IsAnswerIn IsToldOf table range (Err refusal) → IsRefusedOver IsToldOf range table.resolved.plain refusal
refused_over laws IsToldOf range table refusal over =
    let sphere = table_exists laws range (derived_module sphere_file) (laws.accepted sphere_file one_alone refl) one_alone in
    record { table = cut range (plain_rows table.rows); within = cut_lies range (plain_rows table.rows); sphere = sphere.0; sphere_resolved = sphere.1; is_told = over sphere.0 sphere.1.canonical }

-- a call that tells nothing of classes ends for want of memory, or with a refusal of which this holds
pub classes_refused : (Holds : Refusal → Type 0) (fault : ClassesFault) → (fault ≢ NoSpace → (refusal : Refusal) × (fault ≡ Refused refusal) × Holds refusal) → (classes_failure fault ≡ Memory) ⊎ IsRefusalWith Holds (Err (classes_failure fault))
classes_refused Holds (Refused refusal) why =
    let known = why (λ h. cc) in
    inr (subst (λ (fault : ClassesFault). IsRefusalWith Holds (Err (classes_failure fault))) (sym known.1) known.2)
classes_refused Holds NoSpace why = inl refl
