-- What a run left stands for squares of the module, and what is asked names one module of an input.
use Rattle.std.proofs.Common.{◌≡◌, ◌⊎◌, ℕ, inl, inr, List, [], ◌++◌, ap, sym, subst, refl, ◌∙◌, arith, append-nil}
use Rattle.std.specs.Prelude.{Option, Some, IsSome, Ok, Err}
use Rattle.std.proofs.lemmas.List.Elements.{All-nil}
use Rattle.finite_module.specs.Module.{Module as SteenrodModule}
use Rattle.resolution_laws.specs.Start.{Entry, IsOf}
use Rattle.square.specs.Squares.{module_over}
use Rattle.bidegree.specs.declared.range.Range.{Range}
use Rattle.edge.specs.Faults.{HasRisen}
use Rattle.module_json.specs.declared.malformed.Malformed.{Malformed}
use Rattle.module_json.specs.declared.malformed.Malformed.TheVariants.{Memory as NoRoom}
use Rattle.module_check.specs.declared.fault.CheckFault.{CheckFault}
use Rattle.module_check.specs.declared.fault.CheckFault.TheVariants.{Memory as NoMemory}
use Rattle.ext_products.specs.declared.refusal.Refusal.{Refusal}
use Rattle.ext_products.specs.declared.refusal.Refusal.TheVariants.{NoClass, OutOfRange, Nonzero}
use Rattle.ext_report.specs.declared.status.TheConstants.{WRITTEN}
use Rattle.ext_report.specs.declared.failure.Failure.{Failure}
use Rattle.ext_report.specs.declared.failure.Failure.TheVariants.{Malformed as NoModuleFile, NotModule, Reading, Writing, Saving, Classes, Memory}
use Rattle.ext_report.specs.Failure.{malformed_status, fault_status, class_status, status_of}
use Rattle.save_journal.specs.Records.{Records}
use Rattle.save_journal.specs.Journals.{HasRecordsOf}
use Rattle.save_file.specs.Files.{digest_of, of_records}
use Rattle.save_file.proofs.Entries.{some_is}
use Rattle.ext_run.specs.declared.plan.Plan.{Plan}
use Rattle.ext_run.specs.Devices.{Device, Store}
use Rattle.ext_run.specs.Plan.{Use, keeping, migrating, verifying, IsModuleFor, use_for}
use Rattle.ext_run.specs.Saving.{AreCanonical, StandsWith, IsOurs, MayBeLeft, HasLasted}
use Rattle.ext_run.specs.Migrating.{HasMigrated}
use Rattle.ext_run.specs.Disks.{Outcome, IsFitFor, IsUsable, IsCertified, HasSaved}
use Rattle.ext_run.specs.Answer.{IsAskedAnswer}
use Rattle.ext_run.specs.Run.{status_after, IsCause, IsPrevented, HasPrinted}
use Rattle.ext_run.specs.NextRun.{IsFoundWith, NextRunMayUse, RunFor, IsUnfailed, IsEndOf, HasEndedWith, NextRunPrintsTheSame, ShortDiskIsOurs}
use Rattle.ext_run.proofs.Added.{same_entries}
use Rattle.ext_run.proofs.Lasting.{at_some}
use Rattle.ext_run.proofs.Tasks.{module_same}
use Rattle.save_journal.proofs.Walk.{records_few}

-- ---- what is left

abbrev Stands : SteenrodModule → List ℕ → Type 0
Stands m c = (squares : List Entry) × StandsWith m squares c

-- a file with the records of an image from before
as_before : (m : SteenrodModule) (list : List Entry) (images : List ℕ → Type 0) (c : List ℕ) → IsOurs m list images → HasRecordsOf (digest_of m) images c → Stands m c
as_before m list images c ours h =
    let with = ours h.0 h.1 in (
      list,
      record {
        more = with.more;
        at_most_one = with.at_most_one;
        canonical = with.canonical;
        stands = ap (λ (r : Records). of_records (module_over m) r) h.2 ∙ with.stands;
      },
    )

stands : {D : Type 0} (disk : Store D) (m : SteenrodModule) (range : Range) (list : List Entry) (had_answer unfailed : Type 0) (old new : D) (c : List ℕ) → HasLasted disk m range list had_answer unfailed old new → MayBeLeft disk old new c → Stands m c
stands disk m range list had_answer unfailed old new c lasted (inr image) = (_, lasted.ours c image)
stands disk m range list had_answer unfailed old new c lasted (inl was) = elim (lasted.moments c was) [
  | inl before ↦ (list, before)
  | inr amid ↦ ((list ++ lasted.more) ++ amid.first, amid.with_more)
]

migrated_stands : {D : Type 0} (disk : Store D) (m : SteenrodModule) (list : List Entry) (had_answer unfailed : Type 0) (old new : D) (c : List ℕ) → IsOurs m list (disk.images old) → HasMigrated disk m list had_answer unfailed old new → MayBeLeft disk old new c → Stands m c
migrated_stands disk m list had_answer unfailed old new c ours migrated (inr image) = (_, migrated.ours c image)
migrated_stands disk m list had_answer unfailed old new c ours migrated (inl was) = elim (migrated.moments c was) [
  | inl before ↦ as_before m list (disk.images old) c ours before
  | inr amid ↦ (
    list ++ migrated.more,
    record {
      more = [];
      at_most_one = omega arith;
      canonical = subst (AreCanonical m) (sym (append-nil (list ++ migrated.more))) migrated.canonical;
      stands = amid.keeps.stands ∙ ap (λ (l : List Entry). Ok l) (same_entries migrated.kept (amid.first ++ amid.more) ∙ migrated.squares ∙ sym (append-nil (list ++ migrated.more)));
    },
  )
]

module _ {D : Type 0} (disk : Store D) (m : SteenrodModule) (asked : Option Plan) (input : List ℕ) (list : List Entry) (outcome : Outcome) (old new : D) (here : IsModuleFor asked input m) (told : IsSome (disk.now old)) (ours : IsOurs m list (disk.images old)) (saved : HasSaved disk asked input outcome old new) (c : List ℕ) (may : MayBeLeft disk old new c) where
  left_by : (usage : Use) → use_for asked ≡ Some usage → Stands m c
  left_by (keeping range) is = stands disk m range list _ _ old new c (saved.used (keeping range) m is here list told ours) may
  left_by migrating is = migrated_stands disk m list _ _ old new c ours (saved.used migrating m is here list told ours) may
  left_by (verifying range) is =
      let file = some_is (disk.now old) told in
      let verified = saved.used (verifying range) m is here file.0 file.1 in
      as_before m list (disk.images old) c ours (verified.moments c may)

found_fits : {D : Type 0} (disk : Store D) (m : SteenrodModule) (squares : List Entry) (c : List ℕ) (next : D) → StandsWith m squares c → IsFoundWith disk c next → (usage : Use) → IsFitFor usage m (disk.images next)
found_fits disk m squares c next with found (keeping range) = (squares, λ d image. subst (λ (x : List ℕ). StandsWith m squares x) (sym (found.only d image)) with)
found_fits disk m squares c next with found migrating = (squares, λ d image. subst (λ (x : List ℕ). StandsWith m squares x) (sym (found.only d image)) with)
found_fits disk m squares c next with found (verifying range) = tt

pub next_run : {D : Type 0} (disk : Store D) → NextRunMayUse disk
next_run disk m asked input on list outcome old new told ours saved c may next_asked next_input there next found =
    let used = some_is (use_for asked) on.0 in
    let standing = left_by disk m asked input list outcome old new on.1 told ours saved c may used.0 used.1 in
    λ usage n is other.
    let same = module_same next_asked next_input m n there other in
    (subst (λ (o : Option (List ℕ)). IsSome o) (sym found.now_is) refl, subst (λ (x : SteenrodModule). IsFitFor usage x (disk.images next)) same (found_fits disk m standing.0 c next standing.1 found usage))

-- ---- what the next run prints

not_malformed : (e : Malformed) → malformed_status e ≡ WRITTEN → ⊥
not_malformed NoRoom is = cc
not_malformed e is = cc

not_refused : (e : CheckFault) → fault_status e ≡ WRITTEN → ⊥
not_refused NoMemory is = cc
not_refused e is = cc

not_named : (e : Refusal) → class_status e ≡ WRITTEN → ⊥
not_named (NoClass named class count) is = cc
not_named (OutOfRange target s t) is = cc
not_named (Nonzero pair s t product) is = cc

-- no failure has the status of a text
not_written : (failure : Failure) → status_of failure ≡ WRITTEN → ⊥
not_written (NoModuleFile e) is = not_malformed e is
not_written (NotModule file e) is = not_refused e is
not_written (Classes e) is = not_named e is
not_written failure is = cc

-- a run that no failed write ended
ends : {O : Type 0} (out : Device O) (IsTheText : List ℕ → Type 0) (outcome : Outcome) (status : ℕ) (o p : O) → status ≡ status_after outcome → HasPrinted out IsTheText outcome o p → (HasRisen (out.faults o) (out.faults p) → ⊥) → IsEndOf out outcome status o p
ends out IsTheText (Ok text) status o p is printed unfailed = (is, printed)
ends out IsTheText (Err Writing) status o p is printed unfailed = absurd (unfailed printed.2.risen)
ends out IsTheText (Err failure) status o p is printed unfailed = (is, printed)

module _ {S O E D : Type 0} (source : Device S) (out : Device O) (err : Device E) (disk : Store D) (asked : Option Plan) where
  -- it ended with its outcome
  pub ended : (run : RunFor source out err disk asked) (outcome : Outcome) → run.is_run.outcome ≡ outcome → (HasRisen (out.faults run.out_old) (out.faults run.out_new) → ⊥) → HasEndedWith outcome run
  ended run outcome is unfailed =
      let r = run.is_run in
      let IsTheText : List ℕ → Type 0 = λ text. IsUsable disk asked r.input run.disk_old → IsAskedAnswer asked r.input (Ok text) in
      ends out IsTheText outcome run.status run.out_old run.out_new (r.status_is ∙ ap status_after is) (subst (λ (u : Outcome). HasPrinted out IsTheText u run.out_old run.out_new) is r.printed) unfailed

  -- no write of it failed
  pub not_cut : (run : RunFor source out err disk asked) → run.is_run.outcome ≡ Err Writing → IsUnfailed run → ⊥
  not_cut run is unfailed =
      let r = run.is_run in
      let IsTheText : List ℕ → Type 0 = λ text. IsUsable disk asked r.input run.disk_old → IsAskedAnswer asked r.input (Ok text) in
      let printed : HasPrinted out IsTheText (Err Writing) run.out_old run.out_new = subst (λ (u : Outcome). HasPrinted out IsTheText u run.out_old run.out_new) is r.printed in
      unfailed.written printed.2.risen

  -- and so with the answer, if nothing prevented that
  pub by_answer : (run : RunFor source out err disk asked) (answer outcome : Outcome) → run.is_run.outcome ≡ outcome → IsUnfailed run → (outcome ≡ answer) ⊎ IsPrevented answer outcome → HasEndedWith (Err Memory) run ⊎ HasEndedWith answer run
  by_answer run answer outcome is unfailed (inl same) = inr (ended run answer (is ∙ same) unfailed.written)
  by_answer run answer (Err Memory) is unfailed (inr prevented) = inl (ended run (Err Memory) is unfailed.written)
  by_answer run answer (Err Reading) is unfailed (inr prevented) = absurd (unfailed.read (run.is_run.read.failed is))
  by_answer run answer (Err Saving) is unfailed (inr prevented) = absurd (unfailed.kept (run.is_run.saved.failed is))
  by_answer run answer (Err Writing) is unfailed (inr prevented) = absurd (not_cut run is unfailed)
  by_answer run answer outcome is unfailed (inr prevented) = absurd prevented

  -- the input of a run is what its source has
  pub input_is : (run : RunFor source out err disk asked) (input : List ℕ) → source.shows run.source_old ≡ Some input → run.is_run.input ≡ input
  input_is run input has = at_some (source.shows run.source_old) (λ l. run.is_run.input ≡ l) input has run.is_run.told

  module _ (input : List ℕ) (first next : RunFor source out err disk asked) (c : List ℕ) (has : source.shows first.source_old ≡ Some input) (usable : IsUsable disk asked input first.disk_old) (left : MayBeLeft disk first.disk_old first.disk_new c) (has_again : source.shows next.source_old ≡ Some input) (found : IsFoundWith disk c next.disk_old) (certified : IsCertified asked input (Some c)) (unfailed : IsUnfailed next) where
    found_usable : IsUsable disk asked input next.disk_old
    found_usable usage m is of = by_use usage is
      where
        saved : HasSaved disk asked input first.is_run.outcome first.disk_old first.disk_new
        saved = subst (λ (bytes : List ℕ). HasSaved disk asked bytes first.is_run.outcome first.disk_old first.disk_new) (input_is first input has) first.is_run.saved

        used : (usage : Use) → use_for asked ≡ Some usage → IsSome (use_for asked)
        used usage is = subst (λ (o : Option Use). IsSome o) (sym is) refl

        by_list : (usage : Use) → use_for asked ≡ Some usage → ((list : List Entry) × IsOurs m list (disk.images first.disk_old)) → IsSome (disk.now next.disk_old) × IsFitFor usage m (disk.images next.disk_old)
        by_list usage is fit =
            next_run disk m asked input (used usage is, of) fit.0 first.is_run.outcome first.disk_old first.disk_new (usable usage m is of).0 fit.1 saved c left asked input of next.disk_old found usage m is of

        by_use : (usage : Use) → use_for asked ≡ Some usage → IsSome (disk.now next.disk_old) × IsFitFor usage m (disk.images next.disk_old)
        by_use (keeping range) is = by_list (keeping range) is (usable (keeping range) m is of).1
        by_use migrating is = by_list migrating is (usable migrating m is of).1
        by_use (verifying range) is = (subst (λ (o : Option (List ℕ)). IsSome o) (sym found.now_is) refl, tt)

    answered : (answer : Outcome) → IsAskedAnswer asked input answer → HasEndedWith (Err Memory) next ⊎ HasEndedWith answer next
    answered answer right =
        let r = next.is_run in
        let same : input ≡ r.input = sym (input_is next input has_again) in
        let right_there = subst (λ (bytes : List ℕ). IsAskedAnswer asked bytes answer) same right in
        let usable_there = subst (λ (bytes : List ℕ). IsUsable disk asked bytes next.disk_old) same found_usable in
        let certified_there = subst (λ (bytes : List ℕ). IsCertified asked bytes (disk.now next.disk_old)) same (subst (IsCertified asked input) (sym found.now_is) certified) in
        by_answer next answer r.outcome refl unfailed (r.comes answer right_there (λ told. (usable_there, certified_there)))

    -- the text of the first run is an answer
    same_text : (outcome : Outcome) → first.is_run.outcome ≡ outcome → first.status ≡ WRITTEN → (text : List ℕ) × HasEndedWith (Ok text) first × (HasEndedWith (Err Memory) next ⊎ HasEndedWith (Ok text) next)
    same_text (Ok text) is written =
        let r = first.is_run in
        let same = input_is first input has in
        let usable_there = subst (λ (bytes : List ℕ). IsUsable disk asked bytes first.disk_old) (sym same) usable in
        let cause : IsCause asked r.input (disk.now first.disk_old) (IsUsable disk asked r.input first.disk_old) (Ok text) = subst (IsCause asked r.input (disk.now first.disk_old) (IsUsable disk asked r.input first.disk_old)) is r.cause in
        let IsTheText : List ℕ → Type 0 = λ x. IsUsable disk asked r.input first.disk_old → IsAskedAnswer asked r.input (Ok x) in
        let printed : HasPrinted out IsTheText (Ok text) first.out_old first.out_new = subst (λ (u : Outcome). HasPrinted out IsTheText u first.out_old first.out_new) is r.printed in
        (text, (written, printed), answered (Ok text) (subst (λ (bytes : List ℕ). IsAskedAnswer asked bytes (Ok text)) same (cause usable_there)))
    same_text (Err failure) is written = absurd (not_written failure (sym (first.is_run.status_is ∙ ap status_after is) ∙ written))

pub next_same : {S O E D : Type 0} (source : Device S) (out : Device O) (err : Device E) (disk : Store D) → NextRunPrintsTheSame source out err disk
next_same source out err disk asked input first next c has usable left has_again found certified unfailed = record {
  answered = answered source out err disk asked input first next c has usable left has_again found certified unfailed;
  same = same_text source out err disk asked input first next c has usable left has_again found certified unfailed first.is_run.outcome refl;
}

-- ---- a disk without records

pub short_disk : {D : Type 0} (images : D → List ℕ → Type 0) → ShortDiskIsOurs images
short_disk images m d few c image = record {
  more = [];
  at_most_one = omega arith;
  canonical = All-nil (λ e. IsOf (module_over m) [] e.s e.above e.content);
  stands = ap (λ (r : Records). of_records (module_over m) r) (records_few (digest_of m) c (few c image));
}
