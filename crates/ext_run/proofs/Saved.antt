-- What becomes of the disk of a run, by how the run ends.
use Rattle.std.proofs.Common.{◌≡◌, ◌≢◌, ◌∙◌, ℕ, ◌⊎◌, inl, inr, List, ◌++◌, Bool, true, false, Option, Some, None, refl, sym, subst, ap, arith}
use Rattle.std.specs.declared.alloc.Global.{Global}
use Rattle.std.specs.Prelude.{Vec, Ok, Err, IfErr, IfSome, IsSome}
use Rattle.bidegree.specs.declared.range.Range.{Range}
use Rattle.edge.specs.Disk.{LeavesOnly}
use Rattle.finite_module.specs.Module.{Module as SteenrodModule}
use Rattle.resolution_laws.specs.Start.{Entry}
use Rattle.cert_check.specs.declared.fault.CertFault.{CertFault}
use Rattle.save_journal.specs.Journals.{HasRecordsOf, HaveSameRecords, ComeFromEarlier}
use Rattle.save_file.specs.Files.{digest_of, standing_of}
use Rattle.save_file.specs.declared.fault.ResumeFault.{ResumeFault}
use Rattle.save_file.proofs.Entries.{some_is}
use Rattle.ext_products.specs.declared.refusal.Refusal.{Refusal}
use Rattle.ext_report.specs.declared.failure.Failure.{Failure}
use Rattle.ext_report.specs.declared.failure.Failure.TheVariants.{Words, Malformed as NoModuleFile, NotModule, PastLimit, Reading, Writing, Saving, SaveFile, Certificate, Classes, Memory}
use Rattle.ext_report.specs.Failure.{IsOfClasses}
use Rattle.ext_run.specs.declared.plan.Plan.{Plan}
use Rattle.ext_run.specs.declared.task.Task.{Task}
use Rattle.ext_run.specs.declared.task.Task.TheVariants.{Text, Resolution, Migration, Verification}
use Rattle.ext_run.specs.declared.task.Resolution.{Resolution as ToResolve}
use Rattle.ext_run.specs.Devices.{Store}
use Rattle.ext_run.specs.Plan.{IsModuleFor, Use, keeping, migrating, verifying, use_where, use_for}
use Rattle.ext_run.specs.Answer.{IsAskedAnswer, IsAskedRefusal, IsTaskCause}
use Rattle.ext_run.specs.Saving.{StandsAsOneOf, HasLasted}
use Rattle.ext_run.specs.Migrating.{HasMigrated}
use Rattle.ext_run.specs.Certificates.{IsCertificate, IsNoCertificate}
use Rattle.ext_run.specs.Disks.{Outcome, IsOnDisk, IsRefused, IsUncertified, IsFitFor, IsUsable, IsCertified, IsEarly, IsAnswered, IsCutOff, HasServed, HasSaved}
use Rattle.ext_run.specs.Task.{IsDoneBy, IsTaskFor}
use Rattle.ext_run.specs.Work.{Told, HasAnswer, answer_of, IsTaskRefusal, IsFileRefusal, IsCertificateRefusal, IsUnsaved, HasUsed, HasWorked}
use Rattle.ext_run.specs.Courses.{HasText, HasMadeText}
use Rattle.ext_run.specs.Run.{IsCause}
use Rattle.ext_run.proofs.Asked.{asked_told}
use Rattle.ext_run.proofs.Certificates.{certificate_decided}
use Rattle.ext_run.proofs.Tasks.{module_same, task_use, resolution_module, migration_module, verification_module, resolution_refused}
use Rattle.ext_run.proofs.Continuing.{refused_classes}
use Rattle.ext_run.proofs.Lasting.{at_some, if_some, unwritten_same, AreDisks}
use Rattle.ext_run.proofs.KeptOn.{IsToldBy, answer_unfailed, served_nothing}

-- ---- failures of a task

-- they come behind the disk's turn, or at it
pub data IsLate : Failure → Type 0 where
  saving : IsLate Saving
  save_file : (e : ResumeFault) → IsLate (SaveFile e)
  certificate : (e : CertFault) → IsLate (Certificate e)
  classes : (e : Refusal) → IsLate (Classes e)
  memory : IsLate Memory

pub of_classes : (failure : Failure) → IsOfClasses failure → (e : Refusal) × (failure ≡ Classes e)
of_classes (Classes e) h = (e, refl)
of_classes failure h = absurd h

late_failure : (failure : Failure) → IsLate failure → IsEarly (Err failure) → ⊥
late_failure failure saving h = h
late_failure failure (save_file e) h = h
late_failure failure (certificate e) h = h
late_failure failure (classes e) h = h
late_failure failure memory h = h

late_answer : (failure : Failure) → IsLate failure → IsAnswered (Err failure) → IsOfClasses failure
late_answer failure saving h = h
late_answer failure (save_file e) h = h
late_answer failure (certificate e) h = h
late_answer failure (classes e) h = h
late_answer failure memory h = h

late_text : (failure : Failure) → IsLate failure → HasMadeText (Err failure) → ⊥
late_text failure saving h = h
late_text failure (save_file e) h = h
late_text failure (certificate e) h = h
late_text failure (classes e) h = h
late_text failure memory h = h

-- the outcome is that of the text, and does not come before it
pub record IsAfter (text : Told) (outcome : Outcome) : Type 0 where
  pub late : IsEarly outcome → ⊥
  pub answered : IsAnswered outcome → HasAnswer text
  pub made : HasMadeText outcome → HasText text
  pub saving : outcome ≡ Err Saving → text ≡ Err Saving
  pub told : text ≡ Err Saving → outcome ≡ Err Saving
  pub refusal : (e : ResumeFault) → outcome ≡ Err (SaveFile e) → text ≡ Err (SaveFile e)
  pub told_by : (e : CertFault) → IsToldBy text e → (outcome ≡ Err (Certificate e)) ⊎ IsCutOff outcome

no_text_told : (x : Vec ℕ Global) (e : CertFault) → IsToldBy (Ok x) e → ⊥
no_text_told x e (inl h) = cc
no_text_told x e (inr (inl h)) = cc
no_text_told x e (inr (inr h)) = cc

pub after_text : (x : Vec ℕ Global) → IsAfter (Ok x) (Ok x.items)
after_text x = record { late = λ h. h; answered = λ h. tt; made = λ h. tt; saving = λ h. absurd cc; told = λ h. absurd cc; refusal = λ e h. absurd cc; told_by = λ e h. absurd (no_text_told x e h) }

-- the text cannot be written
pub after_cut : (x : Vec ℕ Global) → IsAfter (Ok x) (Err Writing)
after_cut x = record { late = λ h. h; answered = λ h. tt; made = λ h. tt; saving = λ h. absurd cc; told = λ h. absurd cc; refusal = λ e h. absurd cc; told_by = λ e h. absurd (no_text_told x e h) }

module _ (failure : Failure) (late : IsLate failure) where
  same_failure : (other : Failure) → ◌≡◌ {A = Outcome} (Err failure) (Err other) → ◌≡◌ {A = Told} (Err failure) (Err other)
  same_failure other h = let same : failure ≡ other = cc in ap (λ (e : Failure). Err e) same

  failure_told : (e : CertFault) → IsToldBy (Err failure) e → (◌≡◌ {A = Outcome} (Err failure) (Err (Certificate e))) ⊎ IsCutOff (Err failure)
  failure_told e (inl h) = let same : failure ≡ Certificate e = cc in inl (ap (λ (x : Failure). Err x) same)
  failure_told e (inr (inl h)) = let same : failure ≡ Saving = cc in inr (subst (λ (x : Failure). IsCutOff (Err x)) (sym same) tt)
  failure_told e (inr (inr h)) = let same : failure ≡ Memory = cc in inr (subst (λ (x : Failure). IsCutOff (Err x)) (sym same) tt)

  pub after_failure : IsAfter (Err failure) (Err failure)
  after_failure = record {
    late = late_failure failure late;
    answered = late_answer failure late;
    made = late_text failure late;
    saving = same_failure Saving;
    told = λ h. let same : failure ≡ Saving = cc in ap (λ (e : Failure). Err e) same;
    refusal = λ e. same_failure (SaveFile e);
    told_by = failure_told;
  }

-- what becomes of a save file on these conditions becomes of it on narrower ones
module _ {D : Type 0} (disk : Store D) (m : SteenrodModule) (A B U V : Type 0) (T S : CertFault → Type 0) (old new : D) (f : B → A) (u : V → U) (t : (e : CertFault) → T e → S e) where
  lasted_by : (range : Range) (list : List Entry) → HasLasted disk m range list A U old new → HasLasted disk m range list B V old new
  lasted_by range list h = record {
    more = h.more;
    given = h.given;
    from_file = λ b. h.from_file (f b);
    places = h.places;
    at_most_one = h.at_most_one;
    canonical = h.canonical;
    moments = h.moments;
    retained = h.retained;
    ours = h.ours;
    keeps = λ v. h.keeps (u v);
    settled = λ v. h.settled (u v);
    made = λ v. h.made (u v);
    stay = λ v. h.stay (u v);
    idle = λ v. h.idle (u v);
    exact = λ b. h.exact (f b);
    whole = λ b. h.whole (f b);
  }

  migrated_by : (list : List Entry) → HasMigrated disk m list A U old new → HasMigrated disk m list B V old new
  migrated_by list h = record {
    kept = h.kept;
    more = h.more;
    given = h.given;
    from_file = λ b. h.from_file (f b);
    squares = h.squares;
    at_most_one = h.at_most_one;
    canonical = h.canonical;
    ordered = h.ordered;
    moments = h.moments;
    ours = h.ours;
    keeps = λ v. h.keeps (u v);
    settled = λ v. h.settled (u v);
    idle = λ v. h.idle (u v);
    exact = λ b. h.exact (f b);
    whole = λ b. h.whole (f b);
    retained = h.retained;
  }

  served_by : (usage : Use) → HasServed disk usage m A U T old new → HasServed disk usage m B V S old new
  served_by (keeping range) h = λ list told ours. lasted_by range list (h list told ours)
  served_by migrating h = λ list told ours. migrated_by list (h list told ours)
  served_by (verifying range) h = λ file is.
      let verified = h file is in
      record {
        certified = λ b. verified.certified (f b);
        told = λ e none. t e (verified.told e none);
        moments = verified.moments;
        left_alone = λ v. verified.left_alone (u v);
      }

module _ {D : Type 0} (disk : Store D) (laws : AreDisks disk) (asked : Option Plan) (input : List ℕ) where
  -- the file of a disk is one of its images
  file_of : (d : D) (file : List ℕ) → disk.now d ≡ Some file → disk.images d file
  file_of d file is = at_some (disk.now d) (λ f. disk.images d f) file is (laws.now_is_image d)

  used_for : (usage : Use) (m : SteenrodModule) → use_for asked ≡ Some usage → IsModuleFor asked input m → IsOnDisk asked input m
  used_for usage m is here = (subst (λ (o : Option Use). IsSome o) (sym is) refl, here)

  unused_on : (m : SteenrodModule) → use_for asked ≡ None → IsOnDisk asked input m → ⊥
  unused_on m none on = let used = subst (λ (o : Option Use). IsSome o) none on.0 in cc

  -- ---- a disk that got no call

  -- what it was is what it is
  same_leaves : (m : SteenrodModule) (d : D) → LeavesOnly disk.moment disk.since d d (HasRecordsOf (digest_of m) (disk.images d))
  same_leaves m d = record { later = omega arith; each = λ c was. (c, laws.only_now d c was, refl); earlier = λ t c le was. inl was; keeps = λ t c le was. was }

  same_come : (m : SteenrodModule) (d : D) → ComeFromEarlier disk.moment disk.images_at d d (HaveSameRecords (digest_of m))
  same_come m d u v from le within c image = let same : v ≡ u = omega (arith, from, le, within) in (c, subst (λ (t : ℕ). disk.images_at d t c) same image, refl)

  -- a run that did not come to the disk, or does not use it
  pub kept_untouched : (outcome : Outcome) (d : D) → outcome ≢ Err Saving → ((e : ResumeFault) → outcome ≢ Err (SaveFile e)) → ((m : SteenrodModule) → IsOnDisk asked input m → IsCutOff outcome × (IsAnswered outcome → ⊥)) → HasSaved disk asked input outcome d d
  kept_untouched outcome d working taken cut = record {
    unused = λ h. refl;
    early = λ h. refl;
    failed = λ h. absurd (working h);
    no_fault = λ h. refl;
    never_falls = omega arith;
    unwritten = λ e h. absurd (taken e h);
    spared = λ m file e on is refusal. record {
      comes = let c = cut m on in inr c.0;
      unwritten = λ h. unwritten_same disk laws d;
      stands = λ c was. (c, laws.only_now d c was, refl);
    };
    used = λ usage m is here.
        let c = cut m (used_for usage m is here) in
        let leaves : IfSome (disk.now d) (λ _. LeavesOnly disk.moment disk.since d d (HasRecordsOf (digest_of m) (disk.images d))) = if_some (disk.now d) _ (same_leaves m d) in
        served_nothing disk laws m d d (IsAnswered outcome) (outcome ≢ Err Saving) c.1 (λ h. unwritten_same disk laws d) leaves (if_some (disk.now d) _ (same_come m d)) usage (λ fault. (outcome ≡ Err (Certificate fault)) ⊎ IsCutOff outcome) (λ file found range f none. inr c.0);
  }

  pub kept_unused : (outcome : Outcome) (d : D) → use_for asked ≡ None → outcome ≢ Err Saving → ((e : ResumeFault) → outcome ≢ Err (SaveFile e)) → HasSaved disk asked input outcome d d
  kept_unused outcome d none working taken = kept_untouched outcome d working taken (λ m on. absurd (unused_on m none on))

  -- ---- a disk with the save file

  module _ (usage : Use) (m : SteenrodModule) (task : Task) (used : use_for asked ≡ Some usage) (here : IsModuleFor asked input m) (d g : D) (text : Told) (on : HasUsed disk usage m task text d g) where
    on_disk : IsOnDisk asked input m
    on_disk = used_for usage m used here

    same_use : (other : Use) → use_for asked ≡ Some other → usage ≡ other
    same_use other is = let both : Some usage ≡ Some other = sym used ∙ is in cc

    same_standing : (n : SteenrodModule) (file : List ℕ) (e : ResumeFault) → IsModuleFor asked input n → standing_of n file ≡ Err e → standing_of m file ≡ Err e
    same_standing n file e there h = ap (λ (x : SteenrodModule). standing_of x file) (module_same asked input m n here there) ∙ h

    kept_after : (outcome : Outcome) → IsAfter text outcome → ((file : List ℕ) (e : ResumeFault) → disk.now d ≡ Some file → standing_of m file ≡ Err e → (outcome ≡ Err (SaveFile e)) ⊎ IsCutOff outcome) → HasSaved disk asked input outcome d g
    kept_after outcome after comes = record {
      unused = λ h. absurd (unused_on m h on_disk);
      early = λ h. absurd (after.late h);
      failed = λ h. on.failed (after.saving h);
      no_fault = λ h. on.no_fault (λ other. h (after.told other));
      never_falls = on.never_falls;
      unwritten = λ e h. on.unwritten e (after.refusal e h);
      spared = λ n file e there is refusal.
          let standing = same_standing n file e there.1 refusal in
          record {
            comes = comes file e is standing;
            unwritten = λ h. on.spared file e is standing (λ other. h (after.told other));
            stands = λ c was. subst (λ (x : SteenrodModule). StandsAsOneOf x (disk.images d) c) (module_same asked input m n here there.1) (on.stands file e is standing c was);
          };
      used = λ other n is there.
          let IsTold : CertFault → Type 0 = λ fault. (outcome ≡ Err (Certificate fault)) ⊎ IsCutOff outcome in
          let served = served_by disk m (HasAnswer text) (IsAnswered outcome) (text ≢ Err Saving) (outcome ≢ Err Saving) (IsToldBy text) IsTold d g after.answered (λ h failed. h (after.told failed)) after.told_by usage on.served in
          subst (λ (x : Use). HasServed disk x n (IsAnswered outcome) (outcome ≢ Err Saving) IsTold d g) (same_use other is)
          (subst (λ (x : SteenrodModule). HasServed disk usage x (IsAnswered outcome) (outcome ≢ Err Saving) IsTold d g) (module_same asked input m n here there) served);
    }

    -- an answer comes of no file that is refused
    accepted : HasAnswer text → (file : List ℕ) (e : ResumeFault) → disk.now d ≡ Some file → standing_of m file ≡ Err e → ⊥
    accepted has file e is refusal = let list = on.accepted has file is in let both : Ok list.0 ≡ Err e = sym list.1 ∙ refusal in cc

    pub kept_answered : (outcome : Outcome) → IsAfter text outcome → HasAnswer text → HasSaved disk asked input outcome d g
    kept_answered outcome after has = kept_after outcome after (λ file e is refusal. absurd (accepted has file e is refusal))

    -- a file that is fit for its use is not refused, if it is a certificate where it is verified
    stands_of_use : (u : Use) (file : List ℕ) → disk.now d ≡ Some file → IsFitFor u m (disk.images d) → ((range : Range) → u ≡ verifying range → IfSome (disk.now d) (IsCertificate range m)) → (list : List Entry) × (standing_of m file ≡ Ok list)
    stands_of_use (keeping range) file is fit certified = let stands = fit.1 file (file_of d file is) in (fit.0 ++ stands.more, stands.stands)
    stands_of_use migrating file is fit certified = let stands = fit.1 file (file_of d file is) in (fit.0 ++ stands.more, stands.stands)
    stands_of_use (verifying range) file is fit certified = let c = at_some (disk.now d) (IsCertificate range m) file is (certified range refl) in (c.0.start, c.1.stands)

    certified_here : IsCertified asked input (disk.now d) → (range : Range) → usage ≡ verifying range → IfSome (disk.now d) (IsCertificate range m)
    certified_here certified range is = certified range m (used ∙ ap (λ (u : Use). Some u) is) here

    pub usable_file : (fault : ResumeFault) → IsUsable disk asked input d → IsCertified asked input (disk.now d) → IsFileRefusal m (disk.now d) (SaveFile fault) → ⊥
    usable_file fault usable certified refusal =
        let fit = usable usage m used here in
        let found = some_is (disk.now d) fit.0 in
        let stands = stands_of_use usage found.0 found.1 fit.1 (certified_here certified) in
        let err = at_some (disk.now d) (λ file. standing_of m file ≡ Err fault) found.0 found.1 refusal in
        let both : Ok stands.0 ≡ Err fault = sym stands.1 ∙ err in
        cc

    refused_for : (o : Option (List ℕ)) (fault : ResumeFault) → IsFileRefusal m o (SaveFile fault) → IfSome o (λ file. IsRefused asked input file fault)
    refused_for None fault h = tt
    refused_for (Some file) fault h = (m, on_disk, h)

  -- what is verified and no certificate is not certified
  uncertified_not : (range : Range) (m : SteenrodModule) (d : D) → use_for asked ≡ Some (verifying range) → IsModuleFor asked input m → (fault : CertFault) → IsUsable disk asked input d → IsCertified asked input (disk.now d) → IfSome (disk.now d) (λ file. IsNoCertificate range m file fault) → ⊥
  uncertified_not range m d used here fault usable certified none =
      let fit = usable (verifying range) m used here in
      let found = some_is (disk.now d) fit.0 in
      certificate_decided.apart range m found.0 fault (at_some (disk.now d) (IsCertificate range m) found.0 found.1 (certified range m used here)) (at_some (disk.now d) (λ file. IsNoCertificate range m file fault) found.0 found.1 none)

  uncertified_for : (range : Range) (m : SteenrodModule) → use_for asked ≡ Some (verifying range) → IsModuleFor asked input m → (o : Option (List ℕ)) (fault : CertFault) → IfSome o (λ file. IsNoCertificate range m file fault) → IfSome o (λ file. IsUncertified asked input file fault)
  uncertified_for range m used here None fault h = tt
  uncertified_for range m used here (Some file) fault h = record { range = range; m = m; is_verified = used; of_module = here; is_none = h }

  -- ---- what a run is told of a failure that came in place of its text

  pub record IsEndedBy (failure : Failure) (d g : D) : Type 0 where
    pub late : IsLate failure
    pub cause : (IsOfClasses failure → IsUsable disk asked input d → IsAskedAnswer asked input (Err failure)) → IsCause asked input (disk.now d) (IsUsable disk asked input d) (Err failure)
    pub saved : HasSaved disk asked input (Err failure) d g
    pub accepted : IsUsable disk asked input d → IsCertified asked input (disk.now d) → (fault : ResumeFault) → failure ≡ SaveFile fault → ⊥
    pub certified : IsUsable disk asked input d → IsCertified asked input (disk.now d) → (fault : CertFault) → failure ≡ Certificate fault → ⊥

  ended_unused : (failure : Failure) (d : D) → use_for asked ≡ None → (failure ≡ Memory) ⊎ (IsOfClasses failure × IsAskedRefusal asked input (Err failure)) → IsEndedBy failure d d
  ended_unused failure d none (inl is) = subst (λ (e : Failure). IsEndedBy e d d) (sym is) (record {
    late = memory;
    cause = λ answers. tt;
    saved = kept_unused (Err Memory) d none (λ h. cc) (λ e h. cc);
    accepted = λ usable certified fault h. cc;
    certified = λ usable certified fault h. cc;
  })
  ended_unused failure d none (inr h) = let only = of_classes failure h.0 in subst (λ (e : Failure). IsEndedBy e d d) (sym only.1) (record {
    late = classes only.0;
    cause = λ answers. (subst (λ (e : Failure). IsAskedRefusal asked input (Err e)) only.1 h.1, answers tt);
    saved = kept_unused (Err (Classes only.0)) d none (λ h. cc) (λ e h. cc);
    accepted = λ usable certified fault h. cc;
    certified = λ usable certified fault h. cc;
  })

  module _ (usage : Use) (m : SteenrodModule) (task : Task) (used : use_for asked ≡ Some usage) (here : IsModuleFor asked input m) (tells : (failure : Failure) → IsTaskRefusal task failure → IsOfClasses failure × IsAskedRefusal asked input (Err failure)) (d g : D) where
    abbrev Used : Failure → Type 0
    Used failure = HasUsed disk usage m task (Err failure) d g

    abbrev Ended : Failure → Type 0
    Ended failure = Used failure → IsEndedBy failure d g

    ended_saving : Ended Saving
    ended_saving on = record {
      late = saving;
      cause = λ answers. (on_disk usage m task used here d g (Err Saving) on).0;
      saved = kept_after usage m task used here d g (Err Saving) on (Err Saving) (after_failure Saving saving) (λ file e is refusal. inr tt);
      accepted = λ usable certified fault h. cc;
      certified = λ usable certified fault h. cc;
    }

    ended_memory : Ended Memory
    ended_memory on = record {
      late = memory;
      cause = λ answers. tt;
      saved = kept_after usage m task used here d g (Err Memory) on (Err Memory) (after_failure Memory memory) (λ file e is refusal. inr tt);
      accepted = λ usable certified fault h. cc;
      certified = λ usable certified fault h. cc;
    }

    ended_classes : (refusal : Refusal) → IsAskedRefusal asked input (Err (Classes refusal)) → Ended (Classes refusal)
    ended_classes refusal refused on = record {
      late = classes refusal;
      cause = λ answers. (refused, answers tt);
      saved = kept_answered usage m task used here d g (Err (Classes refusal)) on (Err (Classes refusal)) (after_failure (Classes refusal) (classes refusal)) tt;
      accepted = λ usable certified fault h. cc;
      certified = λ usable certified fault h. cc;
    }

    ended_refused : (fault : ResumeFault) → IsFileRefusal m (disk.now d) (SaveFile fault) → Ended (SaveFile fault)
    ended_refused fault refused on = record {
      late = save_file fault;
      cause = λ answers. ((on_disk usage m task used here d g (Err (SaveFile fault)) on).0, refused_for usage m task used here d g (Err (SaveFile fault)) on (disk.now d) fault refused);
      saved = kept_after usage m task used here d g (Err (SaveFile fault)) on (Err (SaveFile fault)) (after_failure (SaveFile fault) (save_file fault)) (λ file e is refusal.
          let here_refused = at_some (disk.now d) (λ f. standing_of m f ≡ Err fault) file is refused in
          let both : Err fault ≡ Err e = sym here_refused ∙ refusal in
          let same : fault ≡ e = cc in
          inl (ap (λ (x : ResumeFault). Err (SaveFile x)) same));
      accepted = λ usable certified other h. usable_file usage m task used here d g (Err (SaveFile fault)) on fault usable certified refused;
      certified = λ usable certified other h. cc;
    }

    -- a file that is refused is no file that was taken up
    none_refused : (range : Range) (fault : CertFault) (file : List ℕ) (e : ResumeFault) → disk.now d ≡ Some file → standing_of m file ≡ Err e → IfSome (disk.now d) (λ f. IsNoCertificate range m f fault) → ⊥
    none_refused range fault file e is refusal h =
        let none = at_some (disk.now d) (λ f. IsNoCertificate range m f fault) file is h in
        let both : Ok none.0.start ≡ Err e = sym none.1.stands ∙ refusal in
        cc

    certificate_failed : (u : Use) (failure : Failure) → use_for asked ≡ Some u → IsCertificateRefusal u m (disk.now d) failure → Ended failure
    certificate_failed (verifying range) (Certificate fault) is none on = record {
      late = certificate fault;
      cause = λ answers. ((range, is), uncertified_for range m is here (disk.now d) fault none);
      saved = kept_after usage m task used here d g (Err (Certificate fault)) on (Err (Certificate fault)) (after_failure (Certificate fault) (certificate fault)) (λ file e found refusal. absurd (none_refused range fault file e found refusal none));
      accepted = λ usable certified other h. cc;
      certified = λ usable certified other h. uncertified_not range m d is here fault usable certified none;
    }
    certificate_failed usage failure is none on = absurd none

    file_failed : (failure : Failure) → IsFileRefusal m (disk.now d) failure → Ended failure
    file_failed (SaveFile e) h = ended_refused e h
    file_failed failure h = absurd h

    ended_used : (failure : Failure) → (failure ≡ Saving) ⊎ (failure ≡ Memory) ⊎ IsTaskRefusal task failure ⊎ IsFileRefusal m (disk.now d) failure ⊎ IsCertificateRefusal usage m (disk.now d) failure → Ended failure
    ended_used failure (inl is) = subst Ended (sym is) ended_saving
    ended_used failure (inr (inl is)) = subst Ended (sym is) ended_memory
    ended_used failure (inr (inr (inl h))) =
        let told = tells failure h in
        let only = of_classes failure told.0 in
        subst Ended (sym only.1) (ended_classes only.0 (subst (λ (e : Failure). IsAskedRefusal asked input (Err e)) only.1 told.1))
    ended_used failure (inr (inr (inr (inl h)))) = file_failed failure h
    ended_used failure (inr (inr (inr (inr h)))) = certificate_failed usage failure used h

  -- ---- a task

  -- what a run is told of its text and its disk
  pub record IsWorked (text : Told) (task : Task) (d g : D) : Type 0 where
    pub made : HasAnswer text → IsUsable disk asked input d → IsDoneBy task (answer_of text)
    pub kept : (outcome : Outcome) → IsAfter text outcome → HasAnswer text → HasSaved disk asked input outcome d g
    pub failed : IfErr text (λ failure. IsEndedBy failure d g)

  -- a refusal of the task is of classes, and one of what is asked
  told_for : (task : Task) → IsTaskFor asked input task → (failure : Failure) → IsTaskRefusal task failure → IsOfClasses failure × IsAskedRefusal asked input (Err failure)
  told_for (Text made) is failure h = absurd h
  told_for (Resolution r) is failure h = (refused_classes r.form r.common.range r.resolved.plain failure h, resolution_refused asked input r (Err failure) is h)
  told_for (Migration m) is failure h = absurd h
  told_for (Verification m range) is failure h = absurd h

  task_refusal : (task : Task) → IsTaskFor asked input task → (failure : Failure) → (failure ≡ Memory) ⊎ IsTaskRefusal task failure → (failure ≡ Memory) ⊎ (IsOfClasses failure × IsAskedRefusal asked input (Err failure))
  task_refusal task is failure (inl h) = inl h
  task_refusal task is failure (inr h) = inr (told_for task is failure h)

  worked_unused : (task : Task) (text : Told) (d g : D) → IsTaskFor asked input task → use_for asked ≡ None → IsUnsaved task text d g → IsWorked text task d g
  worked_unused task (Ok x) d g is none u = record {
    made = λ has usable. u.told tt;
    kept = λ outcome after has. subst (λ (e : D). HasSaved disk asked input outcome d e) (sym u.same) (kept_unused outcome d none (λ h. let bad = after.saving h in cc) (λ e h. let bad = after.refusal e h in cc));
    failed = tt;
  }
  worked_unused task (Err failure) d g is none u = record {
    made = λ has usable. u.told has;
    kept = λ outcome after has. subst (λ (e : D). HasSaved disk asked input outcome d e) (sym u.same)
        (kept_unused outcome d none (λ h. answer_unfailed (Err failure) has (after.saving h)) (λ e h. let bad : failure ≡ SaveFile e = (let both = after.refusal e h in cc) in subst IsOfClasses bad has));
    failed = subst (λ (e : D). IsEndedBy failure d e) (sym u.same) (ended_unused failure d none (task_refusal task is failure u.why));
  }

  module _ (usage : Use) (m : SteenrodModule) (task : Task) (used : use_for asked ≡ Some usage) (here : IsModuleFor asked input m) (is : IsTaskFor asked input task) (d g : D) where
    made_used : (text : Told) → HasUsed disk usage m task text d g → HasAnswer text → IsUsable disk asked input d → IsDoneBy task (answer_of text)
    made_used text on has usable = let fit = usable usage m used here in on.told has fit.0 fit.1

    worked_used : (text : Told) → HasUsed disk usage m task text d g → IsWorked text task d g
    worked_used (Ok x) on = record { made = made_used (Ok x) on; kept = kept_answered usage m task used here d g (Ok x) on; failed = tt }
    worked_used (Err failure) on = record { made = made_used (Err failure) on; kept = kept_answered usage m task used here d g (Err failure) on; failed = ended_used usage m task used here (told_for task is) d g failure on.why on }

  by_option : (r : ToResolve) (text : Told) (d g : D) (saves : Bool) → r.common.save ≡ saves → use_for asked ≡ use_where saves r.common.range → IsTaskFor asked input (Resolution r) → HasWorked disk (Resolution r) text d g → IsWorked text (Resolution r) d g
  by_option r text d g true is usage task did = worked_used (keeping r.common.range) r.resolved.plain (Resolution r) usage (resolution_module asked input r task) task d g text (did.1 is)
  by_option r text d g false is usage task did = worked_unused (Resolution r) text d g task usage (did.0 is)

  pub worked : (task : Task) (text : Told) (d g : D) → IsTaskFor asked input task → HasWorked disk task text d g → IsWorked text task d g
  worked (Text made) text d g h did = worked_unused (Text made) text d g h (task_use asked input (Text made) h) did
  worked (Resolution r) text d g h did = by_option r text d g r.common.save refl (task_use asked input (Resolution r) h) h did
  worked (Migration m) text d g h did = worked_used migrating m.plain (Migration m) (task_use asked input (Migration m) h) (migration_module asked input m h) h d g text did
  worked (Verification m range) text d g h did = worked_used (verifying range) m.plain (Verification m range) (task_use asked input (Verification m range) h) (verification_module asked input m range h) h d g text did

  -- ---- a failure before there is a task

  -- it is told of its own words and input alone
  no_other : (failure : Failure) → IsAskedAnswer asked input (Err failure) → (IsOfClasses failure → ⊥) → (m : SteenrodModule) → IsOnDisk asked input m → ⊥
  no_other failure is other m on = other (asked_told asked input m (Err failure) on.1 is)

  pub kept_early : (failure : Failure) (d : D) → IsTaskCause asked (λ f. IsAskedAnswer asked input (Err f)) failure → HasSaved disk asked input (Err failure) d d
  kept_early Words d p = kept_unused (Err Words) d (ap use_for p) (λ h. cc) (λ e h. cc)
  kept_early (NoModuleFile e) d p = kept_untouched (Err (NoModuleFile e)) d (λ h. cc) (λ f h. cc) (λ m on. absurd (no_other (NoModuleFile e) p (λ h. h) m on))
  kept_early (NotModule f e) d p = kept_untouched (Err (NotModule f e)) d (λ h. cc) (λ k h. cc) (λ m on. absurd (no_other (NotModule f e) p (λ h. h) m on))
  kept_early (PastLimit what) d p = kept_untouched (Err (PastLimit what)) d (λ h. cc) (λ e h. cc) (λ m on. absurd (no_other (PastLimit what) p (λ h. h) m on))
  kept_early Reading d p = kept_untouched (Err Reading) d (λ h. cc) (λ e h. cc) (λ m on. (tt, λ h. h))
  kept_early Memory d p = kept_untouched (Err Memory) d (λ h. cc) (λ e h. cc) (λ m on. (tt, λ h. h))
  kept_early failure d p = absurd p
