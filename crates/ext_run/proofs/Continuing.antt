-- A table that was continued through a range, and what is told of it.
use Rattle.std.proofs.Common.{◌≡◌, ℕ, ◌<◌, ◌⊎◌, inl, inr, List, length, Option, Some, None, sym, subst, refl, arith}
use Rattle.std.proofs.lemmas.Option.{slice_get_cases}
use Rattle.std.specs.Prelude.{Result, Ok, Err, IfErr, IfSome, IsSome, slice_get}
use Rattle.std.specs.Option.{option_map}
use Rattle.bidegree.specs.declared.range.Range.{Range}
use Rattle.finite_module.specs.Module.{Module as SteenrodModule}
use Rattle.finite_module.specs.Checked.{Checked}
use Rattle.finite_module.specs.Graded.{ModulesAreSteenrodModules}
use Rattle.finite_module.specs.ModuleLaws.{width-below}
use Rattle.resolution_laws.specs.Resolution.{Content, IsCanonicalTable}
use Rattle.resolution_laws.specs.Exactness.{CanonicalTableIsMinimalResolution}
use Rattle.resolution_laws.specs.Start.{Entry, entry_at, IsCanonicalStart}
use Rattle.square.specs.Squares.{Placed, over}
use Rattle.square.specs.Tables.{Staircase, row_in, plain_rows, IsThrough, cut}
use Rattle.square.specs.Growing.{HasGrown}
use Rattle.square.specs.Keeping.{Keeper, HoldsTable}
use Rattle.resolution_step.specs.Alone.{HasResolved}
use Rattle.ext_products.specs.declared.refusal.Refusal.{Refusal}
use Rattle.ext_table.specs.Layouts.{told_in}
use Rattle.ext_brackets.specs.Brackets.{IsOfPlaces}
use Rattle.ext_report.specs.declared.failure.Failure.{Failure}
use Rattle.ext_report.specs.declared.failure.Failure.TheVariants.{Saving, Classes, Memory}
use Rattle.ext_run.specs.declared.plan.Form.{Form}
use Rattle.ext_run.specs.declared.plan.Form.TheVariants.{Products, Sought as ToTell}
use Rattle.ext_run.specs.Forms.{IsResolved, IsSoughtAnswer, IsInForm, IsRefusedOver, IsRefusalWith, IsRefusedIn}
use Rattle.ext_run.specs.Saving.{HasRange}
use Rattle.ext_run.specs.Work.{Told, HasAnswer, answer_of, HasContinued}
use Rattle.ext_report.specs.Failure.{IsOfClasses}

-- a table with each square of the range, in a list
some_content : (o : Option Placed) → ((q : Placed) × (o ≡ Some q)) → IsSome (option_map (λ q. q.content) o)
some_content None h = let bad = h.1 in absurd (cc)
some_content (Some q) h = refl

held_at : (list : List Entry) (rows : List (List Placed)) (s k : ℕ) → HoldsTable list rows → k < length (row_in rows s) → IsSome (entry_at list s k)
held_at list rows s k holds within =
    let there : (q : Placed) × (slice_get (row_in rows s) k ≡ Some q) = elim (slice_get_cases (row_in rows s) k).1 [
      | inl found ↦ (found.0, found.2)
      | inr past ↦ absurd (omega (arith, past.0, within))
    ] in
    subst IsSome (sym (holds s k)) (some_content (slice_get (row_in rows s) k) there)

range_held : (range : Range) (rows : List (List Placed)) (list : List Entry) → IsThrough range rows → HoldsTable list rows → HasRange range list
range_held range rows list through holds s k low near = let wide = through s low in held_at list rows s k holds (omega arith)

range_kept : (range : Range) (rows : List (List Placed)) (kept : Option (List Entry)) → IsThrough range rows → IfSome kept (λ list. HoldsTable list rows) → IfSome kept (HasRange range)
range_kept range rows None through holds = tt
range_kept range rows (Some list) through holds = range_held range rows list through holds

-- the canonical table is exact and minimal
pub resolved_by : CanonicalTableIsMinimalResolution → ModulesAreSteenrodModules → (range : Range) (m : Checked) (table : List (List Content)) → IsCanonicalTable (over m) range.s range.t table → IsResolved range m.plain table
resolved_by minimal modules range m table canonical = record {
  canonical = canonical;
  minimal = minimal (over m) range.s range.t table (modules m.plain m.is_module) (width-below m.plain.generators m.by_degree) canonical;
}

-- what is told of the continued table
abbrev pub IsToldOf : Range → Form → Staircase → Told → Type 0
IsToldOf range form more text = HasAnswer text → IsResolved range more.resolved.plain (cut range (plain_rows more.rows)) → IsInForm form range more.resolved.plain (answer_of text)

told_with : (minimal : CanonicalTableIsMinimalResolution) (modules : ModulesAreSteenrodModules) (range : Range) (form : Form) (table more : Staircase) (text : Told) → HasGrown table more → (IsCanonicalStart (over table.resolved) table.start → IsCanonicalTable (over table.resolved) range.s range.t (cut range (plain_rows more.rows))) → IsToldOf range form more text →
    HasAnswer text → IsCanonicalStart (over table.resolved) table.start → IsInForm form range table.resolved.plain (answer_of text)
told_with minimal modules range form table more text grown canonical told has start =
    let rows = cut range (plain_rows more.rows) in
    let here : IsResolved range table.resolved.plain rows = resolved_by minimal modules range table.resolved rows (canonical start) in
    let P : Checked → Type 0 = λ m. IsResolved range m.plain rows → IsInForm form range m.plain (answer_of text) in
    subst P grown.resolved (λ resolved. told has resolved) here

-- ---- refusals

refusal_classes : (Holds : Refusal → Type 0) (e : Failure) → IsRefusalWith Holds (Err e) → IsOfClasses e
refusal_classes Holds (Classes refusal) h = tt
refusal_classes Holds e h = absurd h

pub refused_classes : (form : Form) (range : Range) (m : SteenrodModule) (e : Failure) → IsRefusedIn form range m (Err e) → IsOfClasses e
refused_classes (Products layout by shape) range m e h = refusal_classes (IsRefusedOver (told_in layout shape range by) range m) e h
refused_classes (ToTell sought) range m e h = refusal_classes (λ refusal. IsOfPlaces refusal → IsRefusedOver (IsSoughtAnswer sought range) range m refusal) e h
refused_classes form range m e h = absurd h

-- why a table that was continued is not told of
abbrev pub WhyUntold : Range → Form → Checked → Told → Type 0
WhyUntold range form m text = IfErr text (λ e. (e ≡ Memory) ⊎ IsRefusedIn form range m.plain (Err e))

or_saving : (range : Range) (form : Form) (m : Checked) (text : Told) → WhyUntold range form m text → IfErr text (λ e. (e ≡ Saving) ⊎ (e ≡ Memory) ⊎ IsRefusedIn form range m.plain (Err e))
or_saving range form m (Ok t) h = tt
or_saving range form m (Err e) h = inr h

not_failed : (range : Range) (form : Form) (m : Checked) (text : Told) (X : Type 0) → WhyUntold range form m text → text ≡ Err Saving → X
not_failed range form m (Ok t) X h is = absurd (cc)
not_failed range form m (Err e) X (inl h) is = absurd (cc)
not_failed range form m (Err e) X (inr h) is = absurd (let same : e ≡ Saving = cc in subst IsOfClasses same (refused_classes form range m.plain e h))

pub continued : {E : Type 0} (failing wanting : E) (order : Entry → Entry → Type 0) (range : Range) (form : Form) (table : Staircase) (resolved : Result Staircase E) (old new : Keeper) → HasResolved failing wanting order range table resolved old new → CanonicalTableIsMinimalResolution → ModulesAreSteenrodModules → (more : Staircase) (text : Told) → resolved ≡ Ok more → IsToldOf range form more text → WhyUntold range form more.resolved text → HasContinued range form table text old new
continued {E = E} failing wanting order range form table resolved old new made minimal modules more text is told untold =
    let done = subst (λ (r : Result Staircase E). HasResolved failing wanting order range table r old new) is made in
    let why : WhyUntold range form table.resolved text = subst (λ (m : Checked). WhyUntold range form m text) done.grown.resolved untold in
    record {
      told = told_with minimal modules range form table more text done.grown done.canonical told;
      why = or_saving range form table.resolved text why;
      failed = not_failed range form table.resolved text _ why;
      no_fault = λ has. done.keeper.no_fault;
      live = λ unfailed. done.keeper.live;
      whole = λ has. range_kept range more.rows new.kept done.through done.keeper.of_table.holds;
      given = done.given.given;
      places = done.given.places;
      kept = done.given.kept;
    }

-- a table that was not continued, since its keeper failed
pub cut_off : {E : Type 0} (failing wanting : E) (order : Entry → Entry → Type 0) (range : Range) (form : Form) (table : Staircase) (resolved : Result Staircase E) (old new : Keeper) → HasResolved failing wanting order range table resolved old new → resolved ≡ Err failing → HasContinued range form table (Err Saving) old new
cut_off failing wanting order range form table resolved old new made is = record {
  told = λ has. absurd has;
  why = inl refl;
  failed = λ e. made.keeper.failed is;
  no_fault = λ other. absurd (other refl);
  live = λ other. absurd (other refl);
  whole = λ has. absurd has;
  given = made.given.given;
  places = made.given.places;
  kept = made.given.kept;
}
