-- A task over a save file: what its parts promise, put together.
use Rattle.std.proofs.Common.{◌≡◌, ◌≢◌, ℕ, ◌<◌, ◌≤◌, ◌⊎◌, inl, inr, List, [], ◌∷◌, ◌++◌, map, Option, Some, None, ap, sym, subst, ◌∙◌, refl, arith, append-nil}
use Rattle.std.specs.Prelude.{Ok, Err, IfErr, IfSome, IsSome}
use Rattle.std.specs.Option.{option_map}
use Rattle.bidegree.specs.declared.range.Range.{Range}
use Rattle.edge.specs.Faults.{HasRisen}
use Rattle.edge.specs.Disk.{LeavesOnly}
use Rattle.finite_module.specs.Checked.{Checked}
use Rattle.finite_module.specs.Module.{Module as SteenrodModule}
use Rattle.resolution_laws.specs.Start.{Entry, IsOf, IsCanonicalStart}
use Rattle.square.specs.Squares.{over, module_over}
use Rattle.square.specs.Tables.{Staircase}
use Rattle.square.specs.Keeping.{IsKeeperOf, HasKept}
use Rattle.resolution_step.specs.Alone.{IsUntouched}
use Rattle.cert_check.specs.declared.fault.CertFault.{CertFault}
use Rattle.save_journal.specs.Records.{Records}
use Rattle.save_journal.specs.Journals.{HasRecordsOf, HaveSameRecords, ComeFromEarlier}
use Rattle.save_journal.specs.declared.fault.OpenFault.TheVariants.{Failed as DiskFailed, NotSave, Other, Damaged, Short, Memory as OpenMemory}
use Rattle.save_file.specs.Bodies.{Kept, entries, kept_at}
use Rattle.save_file.specs.Files.{digest_of, standing_of, of_records, kept_by}
use Rattle.save_file.specs.Saved.{kept_of_table}
use Rattle.save_file.specs.Saving.{SaveState, kept_in, telling_of}
use Rattle.save_file.specs.declared.fault.ResumeFault.{ResumeFault}
use Rattle.save_file.specs.declared.fault.ResumeFault.TheVariants.{Open, Strange, Memory as OutOfMemory}
use Rattle.ext_report.specs.declared.failure.Failure.{Failure}
use Rattle.ext_report.specs.declared.failure.Failure.TheVariants.{Saving, SaveFile, Certificate, Memory}
use Rattle.ext_run.specs.declared.task.Task.{Task}
use Rattle.ext_run.specs.declared.task.Task.TheVariants.{Text, Resolution, Migration, Verification}
use Rattle.ext_run.specs.declared.task.Resolution.{Resolution as ToResolve}
use Rattle.ext_report.specs.Failure.{resume_failure, IsOfClasses}
use Rattle.ext_run.specs.Forms.{IsInForm, IsRefusedIn}
use Rattle.run_file.specs.RunFile.{RunState}
use Rattle.ext_run.specs.Devices.{Store}
use Rattle.ext_run.specs.Plan.{Use, keeping, migrating, verifying}
use Rattle.ext_run.specs.Saving.{kept_of, AreCanonical, StandsWith, StandsAsOneOf, IsOurs, MayBeLeft, IsUnwritten, StaysIfWhole, HasLasted}
use Rattle.ext_run.specs.Migrating.{KeepsOn, HasMigrated}
use Rattle.ext_run.specs.Certificates.{IsNoCertificate}
use Rattle.ext_run.specs.Disks.{IsFitFor, HasServed}
use Rattle.ext_run.specs.Task.{IsDoneBy}
use Rattle.ext_run.specs.Work.{Told, HasAnswer, answer_of, IsTaskRefusal, IsFileRefusal, IsCertificateRefusal, HasContinued, HasUsed}
use Rattle.save_file.proofs.Entries.{some_is}
use Rattle.ext_run.proofs.Continuing.{refused_classes}
use Rattle.ext_run.proofs.Lasting.{at_some, all_first, canonical_start, as_one, AreDisks, unwritten_since, none_put, running, lasting}

-- ---- failures

-- what is told of a file that is no certificate
abbrev pub IsToldBy : Told → CertFault → Type 0
IsToldBy text fault = (text ≡ Err (Certificate fault)) ⊎ (text ≡ Err Saving) ⊎ (text ≡ Err Memory)

-- a refusal of the save file is not one of the task, nor of a certificate
task_not_file : (task : Task) (fault : ResumeFault) → IsTaskRefusal task (SaveFile fault) → ⊥
task_not_file (Text made) fault h = h
task_not_file (Resolution r) fault h = refused_classes r.form r.common.range r.resolved.plain (SaveFile fault) h
task_not_file (Migration m) fault h = h
task_not_file (Verification m range) fault h = h

certificate_not_file : (usage : Use) (m : SteenrodModule) (now : Option (List ℕ)) (fault : ResumeFault) → IsCertificateRefusal usage m now (SaveFile fault) → ⊥
certificate_not_file (keeping range) m now fault h = h
certificate_not_file migrating m now fault h = h
certificate_not_file (verifying range) m now fault h = h

-- an answer comes only if the save file did not fail
pub answer_unfailed : (text : Told) → HasAnswer text → text ≢ Err Saving
answer_unfailed (Ok t) has is = cc
answer_unfailed (Err e) has is = let same : e ≡ Saving = cc in subst IsOfClasses same has

module _ (usage : Use) (m : SteenrodModule) (now : Option (List ℕ)) (task : Task) where
  -- why a task over a file that was taken up has no answer
  abbrev pub WhyTaken : Told → Type 0
  WhyTaken text = IfErr text (λ e. (e ≡ Saving) ⊎ (e ≡ Memory) ⊎ IsTaskRefusal task e ⊎ IsCertificateRefusal usage m now e)

  no_refusal : (text : Told) (fault : ResumeFault) → WhyTaken text → text ≡ Err (SaveFile fault) → ⊥
  no_refusal (Ok t) fault why is = cc
  no_refusal (Err e) fault (inl h) is = cc
  no_refusal (Err e) fault (inr (inl h)) is = cc
  no_refusal (Err e) fault (inr (inr (inl h))) is = let same : e ≡ SaveFile fault = cc in task_not_file task fault (subst (IsTaskRefusal task) same h)
  no_refusal (Err e) fault (inr (inr (inr h))) is = let same : e ≡ SaveFile fault = cc in certificate_not_file usage m now fault (subst (IsCertificateRefusal usage m now) same h)

  wider : (text : Told) → WhyTaken text → IfErr text (λ e. (e ≡ Saving) ⊎ (e ≡ Memory) ⊎ IsTaskRefusal task e ⊎ IsFileRefusal m now e ⊎ IsCertificateRefusal usage m now e)
  wider (Ok t) why = tt
  wider (Err e) (inl h) = inl h
  wider (Err e) (inr (inl h)) = inr (inl h)
  wider (Err e) (inr (inr (inl h))) = inr (inr (inl h))
  wider (Err e) (inr (inr (inr h))) = inr (inr (inr (inr h)))

-- what continues a table is no certificate
why_continued : (r : ToResolve) (now : Option (List ℕ)) (text : Told) → IfErr text (λ e. (e ≡ Saving) ⊎ (e ≡ Memory) ⊎ IsRefusedIn r.form r.common.range r.resolved.plain (Err e)) → WhyTaken (keeping r.common.range) r.resolved.plain now (Resolution r) text
why_continued r now (Ok t) why = tt
why_continued r now (Err e) (inl h) = inl h
why_continued r now (Err e) (inr (inl h)) = inr (inl h)
why_continued r now (Err e) (inr (inr h)) = inr (inr (inl h))

-- the squares without quasi-inverses
abbrev bare : List Entry → List Kept
bare list = map (λ (e : Entry). record { entry = e; quasi = None }) list

entries_bare : (list : List Entry) → entries (bare list) ≡ list
entries_bare [] = refl
entries_bare (e ∷ list) = ap (λ (l : List Entry). e ∷ l) (entries_bare list)

-- ---- a save file

module _ {D : Type 0} (store : Store D) (laws : AreDisks store) (m : SteenrodModule) (disk : D) where
  -- the file that was there stands for the list, or it and one square more
  pub here : (list : List Entry) → IsSome (store.now disk) → IsOurs m list (store.images disk) → (file : List ℕ) × (store.now disk ≡ Some file) × StandsWith m list file
  here list told ours =
      let found = some_is (store.now disk) told in
      let image : store.images disk found.0 = at_some (store.now disk) (λ f. store.images disk f) found.0 found.1 (laws.now_is_image disk) in
      (found.0, found.1, ours found.0 image)

  -- what was left since the beginning, and what is left now, has the records of a file from before
  pub records_left : (d : D) → LeavesOnly store.moment store.since disk d (HasRecordsOf (digest_of m) (store.images disk)) → (c : List ℕ) → MayBeLeft store disk d c → HasRecordsOf (digest_of m) (store.images disk) c
  records_left d leaves c (inl was) = leaves.each c was
  records_left d leaves c (inr image) = leaves.each c (laws.since_earlier d (store.moment disk) (store.moment d) c leaves.later (laws.counts_now d c image))

  -- a file with such records stands for what that file stands for
  pub stood_of : (c : List ℕ) → HasRecordsOf (digest_of m) (store.images disk) c → StandsAsOneOf m (store.images disk) c
  stood_of c of_image = (of_image.0, of_image.1, ap (λ (of_file : Records). of_records (module_over m) of_file) of_image.2)

  -- a file with the records of another keeps on what that has
  pub same_keeps : (d c : List ℕ) → HaveSameRecords (digest_of m) d c → KeepsOn m d c
  same_keeps d c same = record {
    stands = ap (λ (r : Records). of_records (module_over m) r) same;
    quasis = λ s k r has. record { square = has.square; there = ap (λ (x : Records). kept_at (kept_by (module_over m) x) s k) same ∙ has.there; is = has.is };
  }

  pub records_keep : (d : D) → ComeFromEarlier store.moment store.images_at disk d (HaveSameRecords (digest_of m)) → ComeFromEarlier store.moment store.images_at disk d (KeepsOn m)
  records_keep d come u v from le within c image = let b = come u v from le within c image in (b.0, b.1, same_keeps b.0 c b.2)

  -- ---- it was taken up

  module _ (table : Staircase) (k : SaveState D) (squares : IfSome (store.now disk) (λ file. standing_of m file ≡ Ok table.start)) (no_fault : store.faults k.journal.disk ≡ store.faults disk) where
    pub start_is : (file : List ℕ) → store.now disk ≡ Some file → standing_of m file ≡ Ok table.start
    start_is file is = at_some (store.now disk) (λ f. standing_of m f ≡ Ok table.start) file is squares

    -- the table began with the list, or it and one square more
    pub begun : (list more : List Entry) (file : List ℕ) → store.now disk ≡ Some file → standing_of m file ≡ Ok (list ++ more) → table.start ≡ list ++ more
    begun list more file is stands = let both : Ok table.start ≡ Ok (list ++ more) = sym (start_is file is) ∙ stands in cc

    not_refused : (file : List ℕ) (fault : ResumeFault) → store.now disk ≡ Some file → standing_of m file ≡ Err fault → ⊥
    not_refused file fault is refusal = let both : Ok table.start ≡ Err fault = sym (start_is file is) ∙ refusal in cc

    pub used_on : (usage : Use) (task : Task) (text : Told) (g : D) → (HasAnswer text → IsSome (store.now disk) → IsFitFor usage m (store.images disk) → IsDoneBy task (answer_of text)) → WhyTaken usage m (store.now disk) task text
        → (text ≡ Err Saving → HasRisen (store.faults k.journal.disk) (store.faults g)) → (text ≢ Err Saving → store.faults g ≡ store.faults k.journal.disk) → store.faults k.journal.disk ≤ store.faults g
        → HasServed store usage m (HasAnswer text) (text ≢ Err Saving) (IsToldBy text) disk g → HasUsed store usage m task text disk g
    used_on usage task text g told why failed quiet never_fall served = record {
      told = told;
      why = wider usage m (store.now disk) task text why;
      failed = λ is. subst (λ (n : ℕ). HasRisen n (store.faults g)) no_fault (failed is);
      no_fault = λ has. quiet has ∙ no_fault;
      never_falls = omega (arith, no_fault, never_fall);
      accepted = λ has file is. (table.start, start_is file is);
      unwritten = λ fault is. absurd (no_refusal usage m (store.now disk) task text fault why is);
      spared = λ file fault is refusal worked. absurd (not_refused file fault is refusal);
      stands = λ file fault is refusal. absurd (not_refused file fault is refusal);
      served = served;
    }

  -- ---- it was not taken up

  module _ (d : D) (had_answer unfailed : Type 0) (never : had_answer → ⊥) (unwritten : unfailed → IsUnwritten store disk d) (opening : IfSome (store.now disk) (λ _. LeavesOnly store.moment store.since disk d (HasRecordsOf (digest_of m) (store.images disk))))
      (come : IfSome (store.now disk) (λ _. ComeFromEarlier store.moment store.images_at disk d (HaveSameRecords (digest_of m)))) where
    opened : (file : List ℕ) → store.now disk ≡ Some file → LeavesOnly store.moment store.since disk d (HasRecordsOf (digest_of m) (store.images disk))
    opened file is = at_some (store.now disk) (λ _. LeavesOnly store.moment store.since disk d (HasRecordsOf (digest_of m) (store.images disk))) file is opening

    module _ (list : List Entry) (told : IsSome (store.now disk)) (ours : IsOurs m list (store.images disk)) where
      leaves : LeavesOnly store.moment store.since disk d (HasRecordsOf (digest_of m) (store.images disk))
      leaves = let found = some_is (store.now disk) told in opened found.0 found.1

      stands : (c : List ℕ) → MayBeLeft store disk d c → StandsWith m list c
      stands c may = let one = stood_of c (records_left d leaves c may) in as_one m list c one.0 one.2 (ours one.0 one.1)

      canonical : AreCanonical m list
      canonical = let found = here list told ours in all_first (λ e. IsOf (module_over m) [] e.s e.above e.content) list found.2.more found.2.canonical

      -- it has no squares of the run's own
      no_squares : (range : Range) → HasLasted store m range list had_answer unfailed disk d
      no_squares range = none_put store laws m range list had_answer unfailed disk d never unwritten told ours leaves.later (λ c was. stood_of c (leaves.each c was))

      -- nor quasi-inverses
      no_quasis : HasMigrated store m list had_answer unfailed disk d
      no_quasis =
          let same : list ++ [] ≡ list = append-nil list in
          record {
            kept = bare list;
            more = [];
            given = [];
            from_file = λ h. absurd (never h);
            squares = entries_bare list ∙ sym same;
            at_most_one = omega arith;
            canonical = subst (AreCanonical m) (sym same) canonical;
            ordered = λ i j d less within. absurd (let none : j < 0 = within in omega (arith, none));
            moments = λ c was. inl (leaves.each c was);
            ours = subst (λ (l : List Entry). IsOurs m l (store.images d)) (sym same) (λ c image. stands c (inr image));
            keeps = λ worked c was. inl (leaves.each c was);
            settled = λ worked. inl (refl, refl, unwritten worked);
            idle = λ worked none file is whole. unwritten worked;
            exact = λ h. absurd (never h);
            whole = λ h. absurd (never h);
            retained = let found = some_is (store.now disk) told in records_keep d (at_some (store.now disk) (λ _. ComeFromEarlier store.moment store.images_at disk d (HaveSameRecords (digest_of m))) found.0 found.1 come);
          }

    pub served_nothing : (usage : Use) (IsTold : CertFault → Type 0) → ((file : List ℕ) → store.now disk ≡ Some file → (range : Range) (f : CertFault) → IsNoCertificate range m file f → IsTold f) → HasServed store usage m had_answer unfailed IsTold disk d
    served_nothing (keeping range) IsTold told_not = λ list told ours. no_squares list told ours range
    served_nothing migrating IsTold told_not = no_quasis
    served_nothing (verifying range) IsTold told_not = λ file is. record {
      certified = λ has. absurd (never has);
      told = λ f none. told_not file is range f none;
      moments = records_left d (opened file is);
      left_alone = λ worked file is whole. unwritten worked;
    }

  -- what stands for a refusal of the file
  data Kind (fault : ResumeFault) : Type 0 where
    disk_failed : fault ≡ Open DiskFailed → resume_failure fault ≡ Saving → Kind fault
    no_memory : resume_failure fault ≡ Memory → Kind fault
    refusal : resume_failure fault ≡ SaveFile fault → fault ≢ Open DiskFailed → fault ≢ OutOfMemory → Kind fault

  kind_of : (fault : ResumeFault) → Kind fault
  kind_of (Open DiskFailed) = disk_failed refl refl
  kind_of (Open OpenMemory) = no_memory refl
  kind_of OutOfMemory = no_memory refl
  kind_of (Open NotSave) = refusal refl (λ h. cc) (λ h. cc)
  kind_of (Open (Other a b)) = refusal refl (λ h. cc) (λ h. cc)
  kind_of (Open (Damaged n p a b)) = refusal refl (λ h. cc) (λ h. cc)
  kind_of (Open (Short n p)) = refusal refl (λ h. cc) (λ h. cc)
  kind_of (Strange n p) = refusal refl (λ h. cc) (λ h. cc)

  module _ (fault : ResumeFault) (d : D) (refused : (fault ≡ Open DiskFailed) ⊎ (fault ≡ OutOfMemory) ⊎ IfSome (store.now disk) (λ file. standing_of m file ≡ Err fault)) (same : fault ≢ Open DiskFailed → store.now d ≡ store.now disk)
      (unwritten : fault ≢ Open DiskFailed → IfSome (store.now disk) (λ _. LeavesOnly store.moment store.since disk d (store.images disk))) (opening : IfSome (store.now disk) (λ _. LeavesOnly store.moment store.since disk d (HasRecordsOf (digest_of m) (store.images disk)))) (never_fall : store.faults disk ≤ store.faults d)
      (come : IfSome (store.now disk) (λ _. ComeFromEarlier store.moment store.images_at disk d (HaveSameRecords (digest_of m)))) (cause : fault ≡ Open DiskFailed → HasRisen (store.faults disk) (store.faults d)) (quiet : fault ≢ Open DiskFailed → store.faults d ≡ store.faults disk) where
    why_not : (usage : Use) (task : Task) → Kind fault → (resume_failure fault ≡ Saving) ⊎ (resume_failure fault ≡ Memory) ⊎ IsTaskRefusal task (resume_failure fault) ⊎ IsFileRefusal m (store.now disk) (resume_failure fault) ⊎ IsCertificateRefusal usage m (store.now disk) (resume_failure fault)
    why_not usage task (disk_failed is e) = inl e
    why_not usage task (no_memory e) = inr (inl e)
    why_not usage task (refusal e no_disk no_room) = inr (inr (inr (inl (subst (IsFileRefusal m (store.now disk)) (sym e) (elim refused [
      | inl h ↦ absurd (no_disk h)
      | inr more ↦ elim more [
        | inl h ↦ absurd (no_room h)
        | inr h ↦ h
      ]
    ])))))

    no_answer : Kind fault → IsOfClasses (resume_failure fault) → ⊥
    no_answer (disk_failed is e) h = subst IsOfClasses e h
    no_answer (no_memory e) h = subst IsOfClasses e h
    no_answer (refusal e no_disk no_room) h = subst IsOfClasses e h

    risen : Kind fault → resume_failure fault ≡ Saving → HasRisen (store.faults disk) (store.faults d)
    risen (disk_failed is e) h = cause is
    risen (no_memory e) h = absurd (let bad : Memory ≡ Saving = sym e ∙ h in cc)
    risen (refusal e no_disk no_room) h = absurd (let bad : SaveFile fault ≡ Saving = sym e ∙ h in cc)

    not_disk : Kind fault → (f : ResumeFault) → resume_failure fault ≡ SaveFile f → fault ≢ Open DiskFailed
    not_disk (disk_failed is e) f h = absurd (let bad : Saving ≡ SaveFile f = sym e ∙ h in cc)
    not_disk (no_memory e) f h = absurd (let bad : Memory ≡ SaveFile f = sym e ∙ h in cc)
    not_disk (refusal e no_disk no_room) f h = no_disk

    not_written : fault ≢ Open DiskFailed → IsUnwritten store disk d
    not_written other = unwritten_since store laws disk d (same other) (unwritten other)

    abbrev untold : Told
    untold = Err (resume_failure fault)

    no_failure : untold ≢ Err Saving → fault ≢ Open DiskFailed
    no_failure other is = other (ap (λ (f : ResumeFault). Err (resume_failure f)) is)

    -- what is told of a file that is no certificate, which is not refused
    told_not : (file : List ℕ) → store.now disk ≡ Some file → (range : Range) (f : CertFault) → IsNoCertificate range m file f → Kind fault → IsToldBy untold f
    told_not file is range f none (disk_failed at e) = inr (inl (ap (λ (x : Failure). Err x) e))
    told_not file is range f none (no_memory e) = inr (inr (ap (λ (x : Failure). Err x) e))
    told_not file is range f none (refusal e no_disk no_room) =
        let err : standing_of m file ≡ Err fault = elim refused [
          | inl h ↦ absurd (no_disk h)
          | inr more ↦ elim more [
            | inl h ↦ absurd (no_room h)
            | inr h ↦ at_some (store.now disk) (λ f. standing_of m f ≡ Err fault) file is h
          ]
        ] in
        let both : Ok none.0.start ≡ Err fault = sym none.1.stands ∙ err in
        absurd (cc)

    pub not_used : (usage : Use) (task : Task) → HasUsed store usage m task untold disk d
    not_used usage task = record {
      told = λ has. absurd (no_answer (kind_of fault) has);
      why = why_not usage task (kind_of fault);
      failed = λ is. risen (kind_of fault) (cc);
      no_fault = λ other. quiet (no_failure other);
      never_falls = never_fall;
      accepted = λ has. absurd (no_answer (kind_of fault) has);
      unwritten = λ f is. not_written (not_disk (kind_of fault) f (cc));
      spared = λ file f is refusal worked. not_written (no_failure worked);
      stands = λ file f is refusal c was. stood_of c ((at_some (store.now disk) (λ _. LeavesOnly store.moment store.since disk d (HasRecordsOf (digest_of m) (store.images disk))) file is opening).each c was);
      served = served_nothing d _ _ (no_answer (kind_of fault)) (λ worked. not_written (no_failure worked)) opening come usage (IsToldBy untold) (λ file is range f none. told_not file is range f none (kind_of fault));
    }

-- ---- a resolution

module _ {D : Type 0} (store : Store D) (laws : AreDisks store) (r : ToResolve) (disk : D) where
  module _ (text : Told) (table : Staircase) (file : SaveState D) (k after : RunState D) (made : k ≡ record { file = file; had = kept_of_table table }) (squares : IfSome (store.now disk) (λ file. standing_of r.resolved.plain file ≡ Ok table.start)) (resolved : table.resolved ≡ r.resolved) (keeper : IsKeeperOf (telling_of store.now store.moment store.images store.images_at store.since store.faults file) table)
      (kept : kept_in store.now file ≡ option_map (λ _. table.start) (store.now disk)) (opening : IfSome (store.now disk) (λ _. LeavesOnly store.moment store.since disk file.journal.disk (HasRecordsOf (digest_of r.resolved.plain) (store.images disk)))) (no_fault : store.faults file.journal.disk ≡ store.faults disk)
      (continued : HasContinued r.common.range r.form table text (running store k) (running store after)) (untouched : IsUntouched (running store) k after) (stays : StaysIfWhole store r.resolved.plain disk file.journal.disk)
      (had_is : (bytes : List ℕ) → store.now disk ≡ Some bytes → kept_of r.resolved.plain bytes ≡ kept_of_table table) where
    abbrev begun_as : RunState D
    begun_as = record { file = file; had = kept_of_table table }

    answer_told : HasAnswer text → IsSome (store.now disk) → (list : List Entry) → IsOurs r.resolved.plain list (store.images disk) → IsInForm r.form r.common.range r.resolved.plain (answer_of text)
    answer_told has told list ours =
        let found = here store laws r.resolved.plain disk list told ours in
        let is = begun store laws r.resolved.plain disk table file squares no_fault list found.2.more found.0 found.1 found.2.stands in
        let start : IsCanonicalStart (over r.resolved) table.start = subst (IsCanonicalStart (over r.resolved)) (sym is) (canonical_start (over r.resolved) (list ++ found.2.more) found.2.canonical) in
        let P : Checked → Type 0 = λ m. IsCanonicalStart (over m) table.start → IsInForm r.form r.common.range m.plain (answer_of text) in
        subst P resolved (continued.told has) start

    lasted : (list : List Entry) → IsSome (store.now disk) → IsOurs r.resolved.plain list (store.images disk) → HasLasted store r.resolved.plain r.common.range list (HasAnswer text) (text ≢ Err Saving) disk after.file.journal.disk
    lasted list told ours =
        let found = here store laws r.resolved.plain disk list told ours in
        let with = found.2 in
        let is = begun store laws r.resolved.plain disk table file squares no_fault list with.more found.0 found.1 with.stands in
        let k_resolved : file.resolved ≡ r.resolved = sym keeper.resolved ∙ resolved in
        let kept_is : kept_in store.now file ≡ Some (list ++ with.more) = kept ∙ ap (option_map (λ _. table.start)) found.1 ∙ ap (λ (l : List Entry). Some l) is in
        let opened = at_some (store.now disk) (λ _. LeavesOnly store.moment store.since disk file.journal.disk (HasRecordsOf (digest_of r.resolved.plain) (store.images disk))) found.0 found.1 opening in
        let given_here = subst (λ (x : RunState D). HasKept (over table.resolved) table.start (running store x) (running store after) continued.given) made continued.kept in
        let given = subst (λ (m : Checked). HasKept (over m) table.start (running store begun_as) (running store after) continued.given) resolved given_here in
        let still = subst (λ (x : RunState D). IsUntouched (running store) x after) made untouched in
        let given_behind = subst (λ (l : List Entry). HasKept (over r.resolved) l (running store begun_as) (running store after) continued.given) is given in
        lasting store laws r.resolved r.common.range list with.more continued.given (HasAnswer text) (text ≢ Err Saving) disk begun_as after (λ bytes there. start_is store laws r.resolved.plain disk table file squares no_fault bytes there ∙ ap (λ (l : List Entry). Ok l) is) with.at_most_one with.canonical ours k_resolved (sym keeper.start ∙ is) kept_is had_is opened given_behind continued.places
        (answer_unfailed text) continued.live still stays continued.whole

    faults_same : store.faults k.file.journal.disk ≡ store.faults file.journal.disk
    faults_same = ap (λ (x : RunState D). store.faults x.file.journal.disk) made

    pub kept_on : HasUsed store (keeping r.common.range) r.resolved.plain (Resolution r) text disk after.file.journal.disk
    kept_on =
        let never_fall = continued.kept.never_fall in
        used_on store laws r.resolved.plain disk table file squares no_fault (keeping r.common.range) (Resolution r) text after.file.journal.disk (λ has told fit. answer_told has told fit.0 fit.1) (why_continued r (store.now disk) text (subst (λ (m : Checked). IfErr text (λ e. (e ≡ Saving) ⊎ (e ≡ Memory) ⊎ IsRefusedIn r.form r.common.range m.plain (Err e))) resolved continued.why))
        (λ is. subst (λ (n : ℕ). HasRisen n (store.faults after.file.journal.disk)) faults_same (continued.failed is)) (λ has. continued.no_fault has ∙ faults_same)
        (omega (arith, faults_same, never_fall)) lasted
