-- A save file that is brought up to date: what is told, and what becomes of it.
use Rattle.std.proofs.Common.{◌≡◌, ◌≢◌, ◌↔◌, ℕ, ◌<◌, ◌≤◌, ◌⊎◌, inl, inr, List, [], ◌∷◌, ◌++◌, length, map, Option, Some, None, Result, ap, sym, subst, ◌∙◌, refl, arith, append-nil}
use Rattle.std.specs.Prelude.{Ok, Err, IfOk, IfErr, OnOk, IsOk, IfSome, IsSome}
use Rattle.std.specs.Option.{option_map}
use Rattle.std.specs.List.{All}
use Rattle.std.proofs.lemmas.List.Elements.{All-nil, All-cons, All-head, All-tail, All-weaker}
use Rattle.bidegree.specs.declared.range.TheConstants.{MAX_S}
use Rattle.edge.specs.Disk.{LeavesOnly}
use Rattle.finite_module.specs.Checked.{Checked}
use Rattle.resolution_laws.specs.Start.{Entry, entry_at, IsCanonicalStart}
use Rattle.square.specs.declared.keep.KeepFault.{KeepFault}
use Rattle.square.specs.declared.keep.KeepFault.TheVariants.{Failed, Memory as NoSpace}
use Rattle.square.specs.Squares.{over}
use Rattle.square.specs.Tables.{Staircase, row_in, IsTable}
use Rattle.square.proofs.Found.{row_within}
use Rattle.save_journal.specs.Records.{opened}
use Rattle.save_journal.specs.Journals.{HasRecordsOf, HaveSameRecords, ComeFromEarlier}
use Rattle.save_file.specs.Bodies.{Kept, entries}
use Rattle.save_file.specs.Files.{digest_of, standing_of}
use Rattle.save_file.specs.Saved.{quasi_kept, kept_of_table}
use Rattle.save_file.specs.Saving.{SaveState, TakesSquares, quasis_in}
use Rattle.save_file.proofs.Entries.{some_is, entries_of_table}
use Rattle.save_file.proofs.Pushing.{first_listed, some_more}
use Rattle.ext_chart.specs.Files.{migrated_line}
use Rattle.ext_report.specs.declared.failure.Failure.{Failure}
use Rattle.ext_report.specs.declared.failure.Failure.TheVariants.{Saving, Memory}
use Rattle.ext_report.specs.Failure.{IsOfClasses}
use Rattle.ext_run.specs.declared.task.Task.TheVariants.{Migration}
use Rattle.ext_run.specs.Devices.{Store}
use Rattle.ext_run.specs.Plan.{migrating}
use Rattle.ext_run.specs.Saving.{AreCanonical, StandsWith, IsOurs, StaysIfWhole}
use Rattle.ext_run.specs.Migrating.{Added, with_added, Keeps, KeepsAmid, KeepsAtPart, KeepsOn, HasMigrated}
use Rattle.ext_run.specs.Inside.Adding.{LeavesOf, HasFilled}
use Rattle.ext_run.specs.Task.{IsDoneBy}
use Rattle.ext_run.specs.Work.{Told, HasAnswer, answer_of, HasUsed}
use Rattle.ext_run.proofs.Added.{same_entries}
use Rattle.ext_run.proofs.Lasting.{at_some, canonical_start, AreDisks}
use Rattle.ext_run.proofs.KeptOn.{WhyTaken, here, begun, records_keep, used_on}
use Rattle.ext_run.proofs.TakenUp.{keeps_table, stays_if_whole}
use Rattle.ext_run.proofs.Filling.{come_then, settled_keeps}

-- each entry of a list is at its place
all_found : (list : List Entry) → All (λ e. IsSome (entry_at list e.s e.above)) list
all_found [] = All-nil (λ e. IsSome (entry_at [] e.s e.above))
all_found (e ∷ list) =
    let P : Entry → Type 0 = λ x. IsSome (entry_at (e ∷ list) x.s x.above) in
    All-cons P e list (first_listed e list) (All-weaker (λ x. IsSome (entry_at list x.s x.above)) P (λ x h. some_more e list x.s x.above h) list (all_found list))

all_mapped : {X Y : Type 0} (f : X → Y) (P : Y → Type 0) (list : List X) → All (λ x. P (f x)) list → All P (map f list)
all_mapped f P [] h = All-nil P
all_mapped {X} f P (x ∷ list) h = All-cons P (f x) (map f list) (All-head (λ x. P (f x)) x list h) (all_mapped f P list (All-tail (λ x. P (f x)) x list h))

-- the squares of a table that all have their quasi-inverses
all_reduced : (table : Staircase) → IsTable table → ((s k : ℕ) → s ≤ MAX_S → k < length (row_in table.rows s) → IsSome (quasi_kept table.rows s k)) → All (λ k. IsSome k.quasi) (kept_of_table table)
all_reduced table is all =
    let kept_as : Entry → Kept = λ e. record { entry = e; quasi = quasi_kept table.rows e.s e.above } in
    all_mapped kept_as (λ k. IsSome k.quasi) table.start (All-weaker (λ e. IsSome (entry_at table.start e.s e.above)) (λ e. IsSome (quasi_kept table.rows e.s e.above)) (λ e h.
    let found = some_is (entry_at table.start e.s e.above) h in
    let there = is.started e.s e.above found.0 found.1 in
    let row = row_within table.rows e.s e.above there in
    let rows = is.rows in
    all e.s e.above (omega (arith, row, rows)) there) table.start (all_found table.start))

module _ {D : Type 0} (store : Store D) (laws : AreDisks store) (m : Checked) (disk : D) (text : Told) (table after : Staircase) (k new : SaveState D) (result : Result (Unit {0}) KeepFault) (squares : IfSome (store.now disk) (λ file. standing_of m.plain file ≡ Ok table.start)) (resolved : table.resolved ≡ m) (k_resolved : k.resolved ≡ m)
    (quasis : quasis_in store.now k ≡ option_map (λ _. kept_of_table table) (store.now disk)) (no_fault : store.faults k.journal.disk ≡ store.faults disk) (opening : IfSome (store.now disk) (λ _. LeavesOnly store.moment store.since disk k.journal.disk (HasRecordsOf (digest_of m.plain) (store.images disk))))
    (come : IfSome (store.now disk) (λ _. ComeFromEarlier store.moment store.images_at disk k.journal.disk (HaveSameRecords (digest_of m.plain)))) (live : TakesSquares store.now store.images k) (file_is : store.now k.journal.disk ≡ option_map (opened (digest_of m.plain)) (store.now disk)) (alone : IfSome (store.now disk) (λ file. opened (digest_of m.plain) file ≡ file → LeavesOnly store.moment store.since disk k.journal.disk (store.images disk))) (filled : HasFilled store (λ i j. i ≤ MAX_S) result table after k new)
    (line : IfOk text (λ t. t.items ≡ migrated_line)) (done : OnOk text (IsOk result)) (failed : (text ≡ Err Saving) ↔ (result ≡ Err Failed)) (why : IfErr text (λ e. (e ≡ Saving) ⊎ (e ≡ Memory))) where
  why_taken : (t : Told) → IfErr t (λ e. (e ≡ Saving) ⊎ (e ≡ Memory)) → WhyTaken migrating m.plain (store.now disk) (Migration m) t
  why_taken (Ok x) h = tt
  why_taken (Err e) (inl h) = inl h
  why_taken (Err e) (inr h) = inr (inl h)

  no_classes : (e : Failure) → (e ≡ Saving) ⊎ (e ≡ Memory) → IsOfClasses e → ⊥
  no_classes e (inl h) of = subst IsOfClasses h of
  no_classes e (inr h) of = subst IsOfClasses h of

  done_by : (t : Told) → IfOk t (λ x. x.items ≡ migrated_line) → IfErr t (λ e. (e ≡ Saving) ⊎ (e ≡ Memory)) → HasAnswer t → IsDoneBy (Migration m) (answer_of t)
  done_by (Ok x) is h has = is
  done_by (Err e) is h has = absurd (no_classes e h has)

  -- the text is there once all is done
  done_answered : (t : Told) → OnOk t (IsOk result) → IfErr t (λ e. (e ≡ Saving) ⊎ (e ≡ Memory)) → HasAnswer t → IsOk result
  done_answered (Ok x) is h has = is
  done_answered (Err e) is h has = absurd (no_classes e h has)

  -- unless the disk failed, the file takes records, and the count of faults stands
  fared : (r : Result (Unit {0}) KeepFault) → HasFilled store (λ i j. i ≤ MAX_S) r table after k new → (r ≡ Err Failed → ⊥) → TakesSquares store.now store.images new × (store.faults new.journal.disk ≡ store.faults k.journal.disk)
  fared (Ok u) h worked = (h.is_file.live, h.no_fault)
  fared (Err Failed) h worked = absurd (worked refl)
  fared (Err NoSpace) h worked = h.memory refl

  unfailed : text ≢ Err Saving → TakesSquares store.now store.images new × (store.faults new.journal.disk ≡ store.faults k.journal.disk)
  unfailed worked = fared result filled (λ h. worked (failed.1 h))

  new_resolved : new.resolved ≡ m
  new_resolved = filled.added.same_module ∙ k_resolved

  module _ (list : List Entry) (some : IsSome (store.now disk)) (ours : IsOurs m.plain list (store.images disk)) where
    kept : List Kept
    kept = kept_of_table table

    given : List Added
    given = filled.added.given

    at_start : (file : List ℕ) × (store.now disk ≡ Some file) × StandsWith m.plain list file
    at_start = here store laws m.plain disk list some ours

    starts : table.start ≡ list ++ at_start.2.more
    starts = begun store laws m.plain disk table k squares no_fault list at_start.2.more at_start.0 at_start.1 at_start.2.stands

    told_kept : quasis_in store.now k ≡ Some (kept_of_table table)
    told_kept = quasis ∙ ap (option_map (λ (f : List ℕ). kept_of_table table)) at_start.1

    told_new : quasis_in store.now new ≡ Some (with_added (kept_of_table table) filled.added.given)
    told_new = filled.added.quasis ∙ ap (option_map (λ (x : List Kept). with_added x filled.added.given)) told_kept

    leaves_opened : LeavesOnly store.moment store.since disk k.journal.disk (HasRecordsOf (digest_of m.plain) (store.images disk))
    leaves_opened = at_some (store.now disk) (λ _. LeavesOnly store.moment store.since disk k.journal.disk (HasRecordsOf (digest_of m.plain) (store.images disk))) at_start.0 at_start.1 opening

    leaves_of : (P : Checked → List Kept → List ℕ → Type 0) → LeavesOf store k new (P k.resolved) → LeavesOnly store.moment store.since k.journal.disk new.journal.disk (P m (kept_of_table table))
    leaves_of P h =
        let there = subst (λ (o : Option (List Kept)). IfSome o (λ x. LeavesOnly store.moment store.since k.journal.disk new.journal.disk (P k.resolved x))) told_kept h in
        subst (λ (c : Checked). LeavesOnly store.moment store.since k.journal.disk new.journal.disk (P c (kept_of_table table))) k_resolved there

    amid : LeavesOnly store.moment store.since k.journal.disk new.journal.disk (KeepsAmid m.plain (kept_of_table table) filled.added.given)
    amid = leaves_of (λ c x. KeepsAmid c.plain x filled.added.given) filled.added.moments

    part : TakesSquares store.now store.images new → LeavesOnly store.moment store.since k.journal.disk new.journal.disk (KeepsAtPart m.plain (kept_of_table table) filled.added.given)
    part live = leaves_of (λ c x. KeepsAtPart c.plain x filled.added.given) (filled.added.exact live)

    -- what was left before the file was taken up, and what behind it
    left_by : (P : List ℕ → Type 0) → LeavesOnly store.moment store.since k.journal.disk new.journal.disk P → (c : List ℕ) → store.since new.journal.disk (store.moment disk) c → HasRecordsOf (digest_of m.plain) (store.images disk) c ⊎ P c
    left_by P leaves c left = elim (leaves.earlier (store.moment disk) c leaves_opened.later left) [
      | inl was ↦ inl (leaves_opened.each c was)
      | inr behind ↦ inr (leaves.each c behind)
    ]

    entries_are : (more : List Added) → entries (with_added (kept_of_table table) more) ≡ list ++ at_start.2.more
    entries_are more = same_entries (kept_of_table table) more ∙ (entries_of_table table ∙ starts)

    ours_new : IsOurs m.plain (list ++ at_start.2.more) (store.images new.journal.disk)
    ours_new c image =
        let l = amid.later in
        let h = amid.each c (laws.since_earlier new.journal.disk (store.moment k.journal.disk) (store.moment new.journal.disk) c l (laws.counts_now new.journal.disk c image)) in
        let same : (list ++ at_start.2.more) ++ [] ≡ list ++ at_start.2.more = append-nil (list ++ at_start.2.more) in
        record {
          more = [];
          at_most_one = omega arith;
          canonical = subst (AreCanonical m.plain) (sym same) at_start.2.canonical;
          stands = h.keeps.stands ∙ ap (λ (x : List Entry). Ok x) (entries_are (h.first ++ h.more) ∙ sym same);
        }

    only : TakesSquares store.now store.images new → (c : List ℕ) → store.images new.journal.disk c → Keeps m.plain (with_added (kept_of_table table) filled.added.given) c
    only live c image =
        let all = settled_keeps store laws new live (store.now new.journal.disk) refl in
        let there : (c : List ℕ) → store.images new.journal.disk c → Keeps new.resolved.plain (with_added (kept_of_table table) filled.added.given) c = subst (λ (o : Option (List Kept)). IfSome o (λ x. (c : List ℕ) → store.images new.journal.disk c → Keeps new.resolved.plain x c)) told_new all in
        subst (λ (q : Checked). Keeps q.plain (with_added (kept_of_table table) filled.added.given) c) new_resolved (there c image)

    canonical_here : IsCanonicalStart (over table.resolved) table.start
    canonical_here = subst (λ (q : Checked). IsCanonicalStart (over q) table.start) (sym resolved) (subst (IsCanonicalStart (over m)) (sym starts) (canonical_start (over m) (list ++ at_start.2.more) at_start.2.canonical))

    whole : (r : Result (Unit {0}) KeepFault) → IsOk r → HasFilled store (λ i j. i ≤ MAX_S) r table after k new → All (λ x. IsSome x.quasi) (with_added (kept_of_table table) filled.added.given)
    whole (Err e) is h = absurd (cc)
    whole (Ok u) is h =
        let reduced = all_reduced after h.is_file.is_table (λ i j row l. h.whole canonical_here i j row l) in
        let same : with_added (kept_of_table table) filled.added.given ≡ kept_of_table after = subst (λ (o : Option (List Kept)). IfSome o (λ x. x ≡ kept_of_table after)) told_new h.is_file.quasis in
        subst (All (λ x. IsSome x.quasi)) (sym same) reduced

    opened_there : (o p : Option (List ℕ)) → p ≡ option_map (opened (digest_of m.plain)) o → IsSome o → (f : List ℕ) × (p ≡ Some f)
    opened_there None p is h = absurd (cc)
    opened_there (Some f) p is h = (opened (digest_of m.plain) f, is)

    kept_on : ComeFromEarlier store.moment store.images_at disk new.journal.disk (KeepsOn m.plain)
    kept_on =
        let first = records_keep store laws m.plain disk k.journal.disk (at_some (store.now disk) (λ _. ComeFromEarlier store.moment store.images_at disk k.journal.disk (HaveSameRecords (digest_of m.plain))) at_start.0 at_start.1 come) in
        let there = opened_there (store.now disk) (store.now k.journal.disk) file_is some in
        let second = at_some (store.now k.journal.disk) (λ _. ComeFromEarlier store.moment store.images_at k.journal.disk new.journal.disk (KeepsOn k.resolved.plain)) there.0 there.1 filled.added.retained in
        come_then store laws m.plain disk k.journal.disk new.journal.disk filled.added.past first (subst (λ (q : Checked). ComeFromEarlier store.moment store.images_at k.journal.disk new.journal.disk (KeepsOn q.plain)) k_resolved second)

    migrated_file : HasMigrated store m.plain list (HasAnswer text) (text ≢ Err Saving) disk new.journal.disk
    migrated_file = record {
      kept = kept_of_table table;
      more = at_start.2.more;
      given = filled.added.given;
      from_file = λ has file is. keeps_table store m disk table k resolved k_resolved live file_is quasis file is;
      squares = entries_of_table table ∙ starts;
      at_most_one = at_start.2.at_most_one;
      canonical = at_start.2.canonical;
      ordered = filled.added.ordered;
      moments = left_by (KeepsAmid m.plain (kept_of_table table) filled.added.given) amid;
      ours = ours_new;
      keeps = λ worked. let u = unfailed worked in left_by (KeepsAtPart m.plain (kept_of_table table) filled.added.given) (part u.0);
      settled = λ worked. let u = unfailed worked in inr (only u.0);
      idle = λ worked none. subst (λ (s : SaveState D). StaysIfWhole store m.plain disk s.journal.disk) (sym (filled.idle (λ h. worked (failed.1 h)) none)) (stays_if_whole store laws m.plain disk k.journal.disk file_is alone);
      exact = λ has. let is = done_answered text done why has in only (whole_live result is filled);
      whole = λ has. whole result (done_answered text done why has) filled;
      retained = kept_on;
    }
      where
        whole_live : (r : Result (Unit {0}) KeepFault) → IsOk r → HasFilled store (λ i j. i ≤ MAX_S) r table after k new → TakesSquares store.now store.images new
        whole_live (Ok u) is h = h.is_file.live
        whole_live (Err e) is h = absurd (cc)

  pub migrated_on : HasUsed store migrating m.plain (Migration m) text disk new.journal.disk
  migrated_on =
      used_on store laws m.plain disk table k squares no_fault migrating (Migration m) text new.journal.disk (λ has some fit. done_by text line why has) (why_taken text why) (λ is. filled.failed (failed.0 is)) (λ worked. let u = unfailed worked in u.1)
      filled.added.never_falls (λ list some ours. migrated_file list some ours)
