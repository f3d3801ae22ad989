-- The course of a board at which workers made the squares of a run.
use Rattle.std.proofs.Common.{◌≡◌, ◌≢◌, ℕ, ◌+◌, ◌<◌, ◌≤◌, inl, inr, Bool, true, false, List, [], ◌++◌, length, replicate, Option, Some, None, Result, Ok, Err, refl, ap, sym, subst, ◌∙◌, arith}
use Rattle.std.specs.Prelude.{IfSome, IfOk, OnOk, OnErr, nat_lt, is_some, slice_get, ⊤}
use Rattle.std.specs.Option.{option_map}
use Rattle.std.proofs.lemmas.Bool.{lt-ltb}
use Rattle.std.proofs.lemmas.Bool.Decides.{nat_tests}
use Rattle.std.proofs.lemmas.Option.{same_Some, slice_get_cases}
use Rattle.std.proofs.lemmas.List.Elements.{All-nil}
use Rattle.bidegree.specs.declared.range.Range.{Range}
use Rattle.bidegree.specs.declared.shape.Shape.{Shape}
use Rattle.bidegree.specs.declared.shape.Shape.TheVariants.{Rectangle, Stems}
use Rattle.bidegree.specs.LastDegrees.{last_degree}
use Rattle.board_core.specs.declared.event.Cause.{Cause}
use Rattle.board_core.specs.declared.event.Entry.{Entry as Event}
use Rattle.board_core.specs.Entries.{who_of}
use Rattle.board_core.specs.Machine.{is_meant_in}
use Rattle.board_core.specs.Machine.IsHistory.{nothing}
use Rattle.board_core.proofs.Pairs.{pairs_none}
use Rattle.board_laws.specs.Filled.{places}
use Rattle.finite_module.specs.Module.{Module as SteenrodModule, bottom}
use Rattle.finite_module.specs.Checked.{Checked}
use Rattle.resolution_laws.specs.Start.{Entry, entry_at}
use Rattle.square.specs.Squares.{Placed, bottom_of}
use Rattle.square.specs.Tables.{Staircase, row_in}
use Rattle.square.specs.Keeping.{Keeper, HoldsTable, IsKeeperOf, with_squares}
use Rattle.square.proofs.Places.{row_in-none}
use Rattle.square_board.specs.Courses.{Course}
use Rattle.square_board.specs.Openings.{shape_of as shape_in, course_of}
use Rattle.square_board.specs.Stocks.{StockWords}
use Rattle.square_board.specs.Workers.{HasMadeBy}
use Rattle.square_worker.specs.Kept.{KeptTable, kept_words}
use Rattle.square_worker.specs.Worked.{HasResolvedBy}
use Rattle.image_worker.specs.declared.inputs.ImageSubject.{ImageSubject}
use Rattle.image_worker.specs.Words.{image_words}
use Rattle.image_worker.specs.Worked.{AreImagesBy}
use Rattle.resolution_images.specs.BareRows.{BareRow}
use Rattle.save_file.specs.Files.{standing_of, squares_in}
use Rattle.save_file.specs.Saving.{SaveState, WasLeft, kept_in, telling_of}
use Rattle.save_file.specs.Inside.SavingLaws.{left_is_kept}
use Rattle.save_file.specs.Saved.{kept_of_table}
use Rattle.run_file.specs.RunFile.{RunState, TakesMore}
use Rattle.ext_report.specs.declared.failure.Failure.{Failure}
use Rattle.ext_report.specs.declared.failure.Failure.TheVariants.{Words, Malformed as NoModuleFile, NotModule, PastLimit, Reading, Saving, Memory}
use Rattle.ext_words.specs.declared.command.Common.{Common}
use Rattle.ext_run.specs.declared.plan.Form.{Form}
use Rattle.ext_run.specs.declared.plan.Plan.{Plan}
use Rattle.ext_run.specs.declared.plan.Plan.TheVariants.{Resolve}
use Rattle.ext_run.specs.declared.task.Task.{Task}
use Rattle.ext_run.specs.declared.task.Task.TheVariants.{Text, Resolution, Migration, Verification}
use Rattle.ext_run.specs.declared.task.Resolution.{Resolution as ToResolve}
use Rattle.ext_run.specs.Devices.{Store}
use Rattle.ext_run.specs.Answer.{IsAskedAnswer, IsTaskCause}
use Rattle.ext_run.specs.Disks.{Outcome}
use Rattle.ext_run.specs.Task.{IsTaskFor}
use Rattle.ext_run.specs.Work.{Told}
use Rattle.ext_run.specs.Courses.{HasText, HasMadeText, by_workers, shape_of, IsCourse, BeginsWith, HasCourse, HasKeptCourse, HasCourseOn, HasTaskCourse, HasAskedCourse}
use Rattle.ext_run.proofs.Lasting.{at_some, standing_ok, running, AreDisks}
use Rattle.ext_run.proofs.Saved.{IsAfter}
use Rattle.ext_run.proofs.Tasks.{module_same}

-- ---- places

is_meant : (shape : Shape) (range : Range) (s k : ℕ) → k ≤ last_degree shape range s → is_meant_in shape range.s range.t s k ≡ true
is_meant Rectangle range s k h = refl
is_meant Stems range s k h = lt-ltb k (last_degree Stems (record { s = range.s; t = range.t }) s + 2) (omega (arith, h))

in_range : (shape : Shape) (range : Range) (s k : ℕ) → k ≤ last_degree shape range s → k ≤ range.t
in_range Rectangle range s k h = h
in_range Stems range s k h = omega (arith, h)

none_below : (k n : ℕ) → n ≡ 0 → nat_lt k n ≡ false
none_below k n is = grind (arith, nat_tests)

some_below : {X : Type 0} (l : List X) (k : ℕ) → nat_lt k (length l) ≡ is_some (slice_get l k)
some_below l k = elim (slice_get_cases l k).1 [
  | inl found ↦ lt-ltb k (length l) found.1 ∙ sym (ap is_some found.2)
  | inr past ↦ let long = past.0 in let none : nat_lt k (length l) ≡ false = grind (arith, nat_tests) in none ∙ sym (ap is_some past.1)
]

some_placed : (o : Option Placed) → is_some (option_map (λ q. q.content) o) ≡ is_some o
some_placed None = refl
some_placed (Some q) = refl

-- ---- courses

if_done : {T E : Type 0} (r : Result T E) (P : Type 0) → OnOk r P → OnErr r ⊥ → P
if_done (Ok x) P p done = p
if_done (Err e) P p done = absurd done

module _ {T O I M : Type 0} (w : StockWords T O I M) (workers : ℕ) (first : T) (range : Range) (result : Result (Unit {0}) Cause) (last : T) (worked : HasMadeBy w workers first range result last) where
  abbrev course_made : Course
  course_made = course_of w worked.made.opening worked.made.history

  made_course : (shape : Shape) (m : SteenrodModule) (had_text : Type 0) → w.shape (w.subject first) ≡ shape → w.bottom (w.subject first) ≡ bottom m.generators → (had_text → OnErr result ⊥) → IsCourse workers range shape m had_text course_made
  made_course shape m had_text is low answered =
      let made = worked.made in
      let opened = made.opened in
      let shaped : shape_in w made.opening ≡ shape = ap (λ (x : T). w.shape (w.subject x)) opened.first_is ∙ is in
      record {
        rows = ap (λ (r : Range). r.s) opened.range_is;
        degrees = ap (λ (r : Range). r.t) opened.range_is;
        bottom_is = ap (λ (x : T). w.bottom (w.subject x)) opened.first_is ∙ low;
        legal = made.desk.legal;
        by = worked.by;
        whole = λ has s k row degree.
            let meant : is_meant_in (shape_in w made.opening) range.s range.t s k ≡ true = subst (λ (x : Shape). is_meant_in x range.s range.t s k ≡ true) (sym shaped) (is_meant shape range s k degree) in
            made.desk.done s k ∙ lt-ltb k (w.fronts last s) (if_done result _ made.all (answered has) s k row (in_range shape range s k degree) meant);
      }

  made_begins : (list : List Entry) → ((s k : ℕ) → nat_lt k (w.fronts first s) ≡ is_some (entry_at list s k)) → BeginsWith list course_made
  made_begins list same s k = worked.made.opened.lists.squares s k ∙ same s k

-- on narrower conditions
narrowed : {A B : Type 0} (workers : ℕ) (range : Range) (shape : Shape) (m : SteenrodModule) (course : Course) → (B → A) → IsCourse workers range shape m A course → IsCourse workers range shape m B course
narrowed workers range shape m course f is = record { rows = is.rows; degrees = is.degrees; bottom_is = is.bottom_is; legal = is.legal; by = is.by; whole = λ b. is.whole (f b) }

-- where all squares of a range are done, those of a shape are
of_shape : {A : Type 0} (workers : ℕ) (range : Range) (shape : Shape) (m : SteenrodModule) (course : Course) → IsCourse workers range Rectangle m A course → IsCourse workers range shape m A course
of_shape workers range shape m course is = record { rows = is.rows; degrees = is.degrees; bottom_is = is.bottom_is; legal = is.legal; by = is.by; whole = λ a s k row degree. is.whole a s k row (in_range shape range s k degree) }

pub course_narrowed : {A B : Type 0} (workers : ℕ) (range : Range) (shape : Shape) (m : SteenrodModule) → (B → A) → HasCourse workers range shape m A → HasCourse workers range shape m B
course_narrowed workers range shape m f h = (h.0, narrowed workers range shape m h.0 f h.1, h.2)

pub course_of_shape : {A : Type 0} (workers : ℕ) (range : Range) (shape : Shape) (m : SteenrodModule) → HasCourse workers range Rectangle m A → HasCourse workers range shape m A
course_of_shape workers range shape m h = (h.0, of_shape workers range shape m h.0 h.1, h.2)

-- ---- no event

abbrev empty : Range → SteenrodModule → Course
empty range m = record { shape = Rectangle; rows = range.s; degrees = range.t; bottom = bottom m.generators; start = []; history = [] }

empty_is : {A : Type 0} (workers : ℕ) (range : Range) (shape : Shape) (m : SteenrodModule) → (A → ⊥) → IsCourse workers range shape m A (empty range m)
empty_is workers range shape m never = record {
  rows = refl;
  degrees = refl;
  bottom_is = refl;
  legal = record { listed = λ n q is. absurd (cc); history = nothing _ };
  by = record { only = All-nil (λ (e : Event). who_of e < workers); pairs = λ i less. pairs_none };
  whole = λ a. absurd (never a);
}

-- where there is no answer
pub no_course : {A : Type 0} (workers : ℕ) (range : Range) (shape : Shape) (m : SteenrodModule) → (A → ⊥) → HasCourse workers range shape m A
no_course workers range shape m never = (empty range m, empty_is workers range shape m never, λ s k. refl)

pub no_kept_course : {A U D : Type 0} (disk : Store D) (workers : ℕ) (range : Range) (shape : Shape) (m : SteenrodModule) (old new : D) → (A → ⊥) → HasKeptCourse disk workers range shape m A U old new
no_kept_course disk workers range shape m old new never = record {
  course = empty range m;
  is = empty_is workers range shape m never;
  given = [];
  gives = refl;
  goes_on = λ some. elim some [
    | inl a ↦ absurd (never a)
    | inr more ↦ absurd (more refl)
  ];
}

-- ---- of images, and of a table

-- where there is what it is of, there is one
pub course_on : {X E : Type 0} (r : Result X E) (P : X → Type 0) (Q : Type 0) → ((x : X) → P x → Q) → IfOk r P → OnOk r Q
course_on (Ok x) P Q f p = f x p
course_on (Err e) P Q f p = tt

pub course_kept : {X E : Type 0} (r : Result X E) (Q : Type 0) → Q → OnOk r Q
course_kept (Ok x) Q q = q
course_kept (Err e) Q q = tt

pub course_of_images : (workers : ℕ) (m : Checked) (range : Range) (shape : Shape) (rows : List BareRow) → AreImagesBy workers m range shape rows → HasCourse workers range shape m.plain ⊤
course_of_images workers m range shape rows images =
    let first = images.first in (
      course_made image_words workers first range (Ok tt) images.last images.worked,
      made_course image_words workers first range (Ok tt) images.last images.worked shape m.plain ⊤ (ap (λ (o : ImageSubject). o.shape) images.subject) (ap (λ (o : ImageSubject). bottom_of o.resolved) images.subject) (λ has. tt),
      made_begins image_words workers first range (Ok tt) images.last images.worked [] (λ s k. none_below k _ (images.none s)),
    )

module _ {K : Type 0} (telling : K → Keeper) (workers : ℕ) (range : Range) (table : Staircase) (had_text : Type 0) (old new : K) (h : HasResolvedBy telling workers range table had_text old new) where
  abbrev began : KeptTable K
  began = record { table = table; keeper = old }

  abbrev table_course : Course
  table_course = course_made (kept_words telling) workers began range h.result h.last h.worked

  table_is : IsCourse workers range Rectangle table.resolved.plain had_text table_course
  table_is = made_course (kept_words telling) workers began range h.result h.last h.worked Rectangle table.resolved.plain had_text refl refl h.answered

  table_begins : (list : List Entry) → ((s k : ℕ) → nat_lt k (length (row_in table.rows s)) ≡ is_some (entry_at list s k)) → BeginsWith list table_course
  table_begins = made_begins (kept_words telling) workers began range h.result h.last h.worked

  table_gives : places table_course.bottom h.given ≡ places (bottom_of table.resolved) h.given
  table_gives = ap (λ (x : KeptTable K). places (bottom_of x.table.resolved) h.given) h.worked.made.opened.first_is

-- on narrower conditions
pub resolved_narrowed : {K A B : Type 0} (telling : K → Keeper) (workers : ℕ) (range : Range) (table : Staircase) (old new : K) → (B → A) → HasResolvedBy telling workers range table A old new → HasResolvedBy telling workers range table B old new
resolved_narrowed telling workers range table old new f h = record { result = h.result; answered = λ b. h.answered (f b); last = h.last; keeper_is = h.keeper_is; worked = h.worked; given = h.given; places_are = h.places_are; kept = h.kept }

-- of a table that began without squares
pub course_of_new : {K : Type 0} (telling : K → Keeper) (workers : ℕ) (range : Range) (shape : Shape) (m : Checked) (n spare : ℕ) (table : Staircase) (had_text : Type 0) (old new : K) → table ≡ record { resolved = m; start = []; rows = replicate n []; spare = spare } → HasResolvedBy telling workers range table had_text old new → HasCourse workers range shape m.plain had_text
course_of_new telling workers range shape m n spare table had_text old new is h =
    let none : (s : ℕ) → length (row_in table.rows s) ≡ 0 = λ s. ap (λ (t : Staircase). length (row_in t.rows s)) is ∙ ap length (row_in-none n s) in
    let here = table_course telling workers range table had_text old new h in (
      here,
      subst (λ (q : Checked). IsCourse workers range shape q.plain had_text here) (ap (λ (t : Staircase). t.resolved) is) (of_shape workers range shape table.resolved.plain here (table_is telling workers range table had_text old new h)),
      table_begins telling workers range table had_text old new h [] (λ s k. none_below k _ (none s)),
    )

-- ---- of a table that is kept

module _ {D : Type 0} (store : Store D) (laws : AreDisks store) (workers : ℕ) (range : Range) (shape : Shape) (m : Checked) (had_text unfailed : Type 0) (disk : D) (table : Staircase) (file : SaveState D) (k after : RunState D) (made : k ≡ record { file = file; had = kept_of_table table }) where
  module _ (squares : IfSome (store.now disk) (λ bytes. standing_of m.plain bytes ≡ Ok table.start)) (resolved : table.resolved ≡ m) (keeper : IsKeeperOf (telling_of store.now store.moment store.images store.images_at store.since store.faults file) table)
      (kept : kept_in store.now file ≡ option_map (λ _. table.start) (store.now disk)) (live : unfailed → TakesMore store.now store.images after) (h : HasResolvedBy (running store) workers range table had_text k after) where
    abbrev here : Course
    here = table_course (running store) workers range table had_text k after h

    after_resolved : after.file.resolved ≡ m
    after_resolved =
        let same : Some after.file.resolved ≡ Some k.file.resolved = h.kept.same_module in
        same_Some after.file.resolved k.file.resolved same ∙ (ap (λ (x : RunState D). x.file.resolved) made ∙ (sym keeper.resolved ∙ resolved))

    module _ (bytes : List ℕ) (is : store.now disk ≡ Some bytes) where
      had_kept : kept_in store.now file ≡ Some table.start
      had_kept = kept ∙ ap (option_map (λ _. table.start)) is

      there : (s j : ℕ) → nat_lt j (length (row_in table.rows s)) ≡ is_some (entry_at table.start s j)
      there s j =
          let holds : HoldsTable table.start table.rows = at_some (kept_in store.now file) (λ list. HoldsTable list table.rows) table.start had_kept keeper.holds in
          some_below (row_in table.rows s) j ∙ sym (ap is_some (holds s j) ∙ some_placed (slice_get (row_in table.rows s) j))

      stands : unfailed → (c : List ℕ) → store.images after.file.journal.disk c → standing_of m.plain c ≡ Ok (table.start ++ h.given)
      stands worked c image =
          let k_kept : kept_in store.now k.file ≡ Some table.start = ap (λ (x : RunState D). kept_in store.now x.file) made ∙ had_kept in
          let after_kept : kept_in store.now after.file ≡ Some (table.start ++ h.given) = h.kept.kept ∙ ap (λ (o : Option (List Entry)). with_squares o h.given) k_kept in
          let is_kept = left_is_kept store.now store.moment store.images store.since laws.only_now after.file (live worked).takes in
          let exact = at_some (kept_in store.now after.file) (λ (l : List Entry). (i : Option (List Entry)) → WasLeft store.since after.file (store.moment after.file.journal.disk) i → i ≡ Some l) (table.start ++ h.given) after_kept is_kept in
          let read : squares_in m c ≡ squares_in after.file.resolved c = ap (λ (q : Checked). squares_in q c) (sym after_resolved) in
          standing_ok (standing_of m.plain c) (table.start ++ h.given) (read ∙ exact (squares_in after.file.resolved c) (c, laws.counts_now after.file.journal.disk c image, refl))

    pub kept_course : HasKeptCourse store workers range shape m.plain had_text unfailed disk after.file.journal.disk
    kept_course = record {
      course = here;
      is = subst (λ (q : Checked). IsCourse workers range shape q.plain had_text here) resolved (of_shape workers range shape table.resolved.plain here (table_is (running store) workers range table had_text k after h));
      given = h.given;
      gives = table_gives (running store) workers range table had_text k after h ∙ h.places_are;
      goes_on = λ some bytes is. record {
        first = table.start;
        stood = at_some (store.now disk) (λ f. standing_of m.plain f ≡ Ok table.start) bytes is squares;
        begins = table_begins (running store) workers range table had_text k after h table.start (there bytes is);
        stands = stands bytes is;
      };
    }

-- ---- a run

module _ {D : Type 0} (disk : Store D) where
  none_on : {A : Type 0} (U : Type 0) (save : Bool) (workers : ℕ) (range : Range) (shape : Shape) (m : SteenrodModule) (old new : D) → (A → ⊥) → HasCourseOn disk save workers range shape m A U old new
  none_on U true workers range shape m old new never = no_kept_course disk workers range shape m old new never
  none_on U false workers range shape m old new never = no_course workers range shape m never

  narrowed_on : {A B U V : Type 0} (save : Bool) (workers : ℕ) (range : Range) (shape : Shape) (m : SteenrodModule) (old new : D) → (B → A) → (V → U) → HasCourseOn disk save workers range shape m A U old new → HasCourseOn disk save workers range shape m B V old new
  narrowed_on true workers range shape m old new f u h = record {
    course = h.course;
    is = narrowed workers range shape m h.course f h.is;
    given = h.given;
    gives = h.gives;
    goes_on = λ some file is.
        let on = h.goes_on (elim some [ inl b ↦ inl (f b) | inr more ↦ inr more ]) file is in
        record { first = on.first; stood = on.stood; begins = on.begins; stands = λ v. on.stands (u v) };
  }
  narrowed_on false workers range shape m old new f u h = course_narrowed workers range shape m f h

  course_none : (asked : Option Plan) (input : List ℕ) (outcome : Outcome) (old new : D) → (HasMadeText outcome → ⊥) → HasAskedCourse disk asked input outcome old new
  course_none (Some (Resolve origin form common)) input outcome old new never = λ m at by. none_on (outcome ≢ Err Saving) common.save common.workers common.range (shape_of form) m old new never
  course_none asked input outcome old new never = tt

  no_text : (asked : Option Plan) (IsTheAnswer : Failure → Type 0) (failure : Failure) → IsTaskCause asked IsTheAnswer failure → HasMadeText (Err failure) → ⊥
  no_text asked P Words p h = h
  no_text asked P (NoModuleFile e) p h = h
  no_text asked P (NotModule f e) p h = h
  no_text asked P (PastLimit what) p h = h
  no_text asked P Reading p h = h
  no_text asked P Memory p h = h
  no_text asked P failure p h = absurd p

  -- before anything is resolved
  pub early_course : (asked : Option Plan) (input : List ℕ) (failure : Failure) (d : D) → IsTaskCause asked (λ f. IsAskedAnswer asked input (Err f)) failure → HasAskedCourse disk asked input (Err failure) d d
  early_course asked input failure d cause = course_none asked input (Err failure) d d (no_text asked (λ f. IsAskedAnswer asked input (Err f)) failure cause)

  -- by the task
  pub task_course : (asked : Option Plan) (input : List ℕ) (task : Task) (text : Told) (outcome : Outcome) (d g : D) → IsAfter text outcome → IsTaskFor asked input task → HasTaskCourse disk task text d g → HasAskedCourse disk asked input outcome d g
  task_course (Some (Resolve origin form common)) input (Resolution r) text outcome d g after is course = λ m at by.
      let same : r.resolved.plain ≡ m = module_same (Some (Resolve origin form common)) input r.resolved.plain m is.2 at in
      let here = course (subst (λ (c : Common). by_workers c ≡ true) (sym is.1) by) in
      let A : Type 0 = HasMadeText outcome in
      let U : Type 0 = outcome ≢ Err Saving in
      let on = narrowed_on r.common.save r.common.workers r.common.range (shape_of r.form) r.resolved.plain d g after.made (λ unfailed failed. unfailed (after.told failed)) here in
      subst (λ (n : SteenrodModule). HasCourseOn disk common.save common.workers common.range (shape_of form) n A U d g) same
      (subst (λ (f : Form). HasCourseOn disk common.save common.workers common.range (shape_of f) r.resolved.plain A U d g) is.0
      (subst (λ (c : Common). HasCourseOn disk c.save c.workers c.range (shape_of r.form) r.resolved.plain A U d g) is.1 on))
  task_course (Some (Resolve origin form common)) input task text outcome d g after is course = absurd is
  task_course asked input task text outcome d g after is course = tt

-- ---- by the kind of a task

module _ {D : Type 0} (disk : Store D) (task : Task) where
  pub course_saved : (r : ToResolve) (text : Told) (d g : D) → task ≡ Resolution r → r.common.save ≡ true → HasKeptCourse disk r.common.workers r.common.range (shape_of r.form) r.resolved.plain (HasText text) (text ≢ Err Saving) d g → HasTaskCourse disk task text d g
  course_saved r text d g is saves kept = subst (λ (t : Task). HasTaskCourse disk t text d g) (sym is) (λ by. subst (λ (b : Bool). HasCourseOn disk b r.common.workers r.common.range (shape_of r.form) r.resolved.plain (HasText text) (text ≢ Err Saving) d g) (sym saves) kept)

  pub course_unsaved : (r : ToResolve) (text : Told) (d g : D) → task ≡ Resolution r → r.common.save ≡ false → HasCourse r.common.workers r.common.range (shape_of r.form) r.resolved.plain (HasText text) → HasTaskCourse disk task text d g
  course_unsaved r text d g is saves made = subst (λ (t : Task). HasTaskCourse disk t text d g) (sym is) (λ by. subst (λ (b : Bool). HasCourseOn disk b r.common.workers r.common.range (shape_of r.form) r.resolved.plain (HasText text) (text ≢ Err Saving) d g) (sym saves) made)

-- the caller alone makes the squares
pub course_alone : {D : Type 0} (disk : Store D) (task : Task) (text : Told) (d g : D) → ((r : ToResolve) → task ≡ Resolution r → by_workers r.common ≡ false) → HasTaskCourse disk task text d g
course_alone disk (Resolution r) text d g alone = λ by. absurd (let none = alone r refl in cc)
course_alone disk (Text made) text d g alone = tt
course_alone disk (Migration m) text d g alone = tt
course_alone disk (Verification m range) text d g alone = tt
