-- What a run makes on a disk without records certifies its range.
use Rattle.std.proofs.Common.{◌≡◌, ◌≢◌, ℕ, ◌≤◌, ◌⊎◌, inl, inr, List, [], ◌∷◌, ◌++◌, length, Bool, true, false, refl, ap, sym, subst, ◌∙◌, arith}
use Rattle.std.proofs.lemmas.Bool.{false≢true}
use Rattle.std.proofs.lemmas.List.{append_cancel_right, map-append}
use Rattle.std.proofs.lemmas.List.Elements.{All-head, All-tail}
use Rattle.std.proofs.lemmas.Option.{same_Some}
use Rattle.std.specs.Prelude.{if◌then◌else◌, Option, Some, None, IsSome, MatchOption, Result, Ok, Err}
use Rattle.std.specs.List.{All}
use Rattle.bidegree.specs.declared.range.Range.{Range}
use Rattle.f2_matrix.specs.Reduction.{Reduction}
use Rattle.module_spec.specs.Spec.{File}
use Rattle.module_json.specs.declared.malformed.Malformed.{Malformed}
use Rattle.module_json.proofs.Reading.{file_unique}
use Rattle.module_check.specs.Acceptance.{refusal_of}
use Rattle.module_check.specs.declared.fault.CheckFault.{CheckFault}
use Rattle.finite_module.specs.Module.{Module as SteenrodModule}
use Rattle.finite_module.specs.DerivedAction.{derived_module}
use Rattle.resolution_laws.specs.Resolution.{IsCanonicalTable}
use Rattle.resolution_laws.specs.Start.{Entry, entry_at}
use Rattle.square.specs.Squares.{over, module_over}
use Rattle.square.specs.Tables.{Staircase, IsThrough}
use Rattle.square.proofs.Growing.{HasGrown-same}
use Rattle.resolution_step.proofs.Canonical.{IsCanonicalTable-cut}
use Rattle.cert_check.specs.declared.fault.CertFault.{CertFault}
use Rattle.cert_check.specs.declared.fault.CertFault.TheVariants.{NoQuasi}
use Rattle.cert_check.specs.Certified.{part_of, HasNoQuasiAt, IsFaultAt, IsFirstFault, CanonicalTableLacksQuasisAlone}
use Rattle.save_journal.specs.Records.{Records, records_of}
use Rattle.save_journal.proofs.Walk.{records_few}
use Rattle.save_file.specs.Bodies.{Kept, entries, is_at, kept_at}
use Rattle.save_file.specs.Reading.{kept_of_bodies, squares_alone}
use Rattle.save_file.specs.Saved.{kept_of_table}
use Rattle.save_file.specs.Files.{digest_of, of_squares, of_records, standing_of, kept_list, kept_by}
use Rattle.save_file.specs.declared.fault.ResumeFault.{ResumeFault}
use Rattle.save_file.proofs.Entries.{some_is, kept_there}
use Rattle.ext_report.specs.declared.failure.Failure.{Failure}
use Rattle.ext_report.specs.declared.failure.Failure.TheVariants.{Words, Malformed as NoModuleFile, NotModule, PastLimit, Reading, Writing, Saving, SaveFile, Certificate, Classes, Memory}
use Rattle.ext_run.specs.declared.plan.Plan.{Plan}
use Rattle.ext_run.specs.declared.plan.Plan.TheVariants.{Verify}
use Rattle.ext_run.specs.Devices.{Device, Store}
use Rattle.ext_run.specs.Plan.{IsModuleIn, IsModuleFor, Use, keeping, verifying, use_for}
use Rattle.ext_run.specs.Forms.{IsVerifiedChart, IsText}
use Rattle.ext_run.specs.Answer.{IsAnswerOfFile, IsModuleAnswer, IsAskedAnswer}
use Rattle.ext_run.specs.Saving.{AreCanonical, kept_of, KeepsWhole, IsOurs, HasLasted, HasRange}
use Rattle.ext_run.specs.Certificates.{IsTakenUpAs, IsNoCertificate}
use Rattle.ext_run.specs.Disks.{Outcome, IsRefused, IsUncertified, IsFitFor, IsUsable, IsAnswered, HasSaved}
use Rattle.ext_run.specs.Run.{IsCause}
use Rattle.ext_run.specs.NextRun.{IsFoundWith, RunFor, IsUnfailed, HasEndedWith, VerifyAcceptsWhatIsMade}
use Rattle.ext_run.proofs.Lasting.{canonical_start}
use Rattle.ext_run.proofs.Tasks.{module_same}
use Rattle.ext_run.proofs.NextRun.{short_disk, ended, not_cut, input_is}

abbrev IsWhole : Kept → Type 0
IsWhole k = IsSome k.quasi

-- ---- what a file keeps

-- the squares of what a file keeps are those that it stands for
kept_squares : (bodies : List (List ℕ)) (r : Result (List Kept) ℕ) (list : List Entry) → of_squares bodies (squares_alone r) ≡ Ok list → entries (kept_list r) ≡ list
kept_squares bodies (Ok kept) list is = cc
kept_squares bodies (Err number) list is = absurd (cc)

kept_stands : (m : SteenrodModule) (records : Records) (list : List Entry) → of_records (module_over m) records ≡ Ok list → entries (kept_by (module_over m) records) ≡ list
kept_stands m (Ok bodies) list is = kept_squares bodies (kept_of_bodies (module_over m) bodies) list is
kept_stands m (Err fault) list is = absurd (cc)

none_first : (first : List Kept) → entries first ≡ [] → first ≡ []
none_first [] is = refl
none_first (k ∷ first) is = absurd (cc)

-- a file that stands for the given squares alone keeps each with its quasi-inverse
all_whole : (m : SteenrodModule) (given : List Entry) (file : List ℕ) → standing_of m file ≡ Ok given → KeepsWhole m given file → All IsWhole (kept_of m file)
all_whole m given file stands keeps =
    let squares : entries (kept_of m file) ≡ given = kept_stands m (records_of (digest_of m) file) given stands in
    let both : entries keeps.first ++ entries keeps.rest ≡ [] ++ entries keeps.rest = sym (ap entries keeps.parts ∙ map-append (λ (k : Kept). k.entry) keeps.first keeps.rest) ∙ squares ∙ sym keeps.squares in
    let none = none_first keeps.first (append_cancel_right (entries keeps.first) [] (entries keeps.rest) both) in
    subst (All IsWhole) (sym (keeps.parts ∙ ap (λ (l : List Kept). l ++ keeps.rest) none)) keeps.whole

-- so it is at each place
whole_at : (kept : List Kept) (s k : ℕ) (x : Kept) → All IsWhole kept → kept_at kept s k ≡ Some x → IsWhole x
whole_at [] s k x all is = absurd (cc)
whole_at (y ∷ ys) s k x all is = by_test (is_at y.entry s k) (whole_at ys s k x (All-tail IsWhole y ys all)) is
  where
    by_test : (b : Bool) → (kept_at ys s k ≡ Some x → IsWhole x) → (if b then Some y else kept_at ys s k) ≡ Some x → IsWhole x
    by_test true rest e = subst IsWhole (same_Some y x e) (All-head IsWhole y ys all)
    by_test false rest e = rest e

-- ---- a table of canonical squares

module _ (law : CanonicalTableLacksQuasisAlone) (m : SteenrodModule) (range part : Range) (rows : part.s ≤ range.s) (degrees : part.t ≤ range.t) (given : List Entry) (file : List ℕ) (canonical : AreCanonical m given) (has : HasRange range given) (all : All IsWhole (kept_of m file)) (table : Staircase) (taken : IsTakenUpAs m file table) (stands : standing_of m file ≡ Ok given) where
  same_start : table.start ≡ given
  same_start = let both : Ok table.start ≡ Ok given = sym taken.stands ∙ stands in cc

  through : IsThrough part table.rows
  through s h =
      let there = some_is (entry_at given s part.t) (has s part.t (omega arith) (omega arith)) in
      taken.is_table.started s part.t there.0 (ap (λ (l : List Entry). entry_at l s part.t) same_start ∙ there.1)

  is_canonical : IsCanonicalTable (over table.resolved) part.s part.t (part_of table part)
  is_canonical =
      let here : AreCanonical table.resolved.plain table.start = subst (λ (l : List Entry). AreCanonical table.resolved.plain l) (sym same_start) (subst (λ (n : SteenrodModule). AreCanonical n given) (sym taken.of_module) canonical) in
      IsCanonicalTable-cut part table table (HasGrown-same table table refl refl refl) through (λ s k q there. (taken.is_table.placed s k q there).is_of) (canonical_start (over table.resolved) table.start here)

  has_quasi : (s k : ℕ) → HasNoQuasiAt table s k → ⊥
  has_quasi s k none =
      let q = none.square in
      let kept : All IsWhole (kept_of_table table) = subst (All IsWhole) taken.keeps all in
      let whole : IsSome q.quasi = whole_at (kept_of_table table) s k _ kept (kept_there table taken.is_table taken.all_read s k q none.there) in
      false≢true (subst (λ (o : Option Reduction). IsSome o) none.none whole)

  no_fault : (fault : CertFault) → IsFirstFault table part fault → ⊥
  no_fault fault first =
      let lacks = law table part fault is_canonical first in
      let here : IsFaultAt table part first.above (NoQuasi lacks.0 lacks.1) = subst (IsFaultAt table part first.above) lacks.2 first.is_fault in
      has_quasi lacks.0 first.above here

-- ---- the module file

-- what describes the module has no error in place of a text
not_told : (IsTextOf : SteenrodModule → List ℕ → Type 0) (f : File) (failure : Failure) (found : Option CheckFault) → found ≡ None → MatchOption found (IsText IsTextOf (derived_module f) (Err failure)) (λ e. ◌≡◌ {A = Outcome} (Err failure) (Err (NotModule f e))) → ⊥
not_told IsTextOf f failure None none told = told
not_told IsTextOf f failure (Some e) none told = cc

no_error : (IsTextOf : SteenrodModule → List ℕ → Type 0) (bytes : List ℕ) (m : SteenrodModule) (failure : Failure) → IsModuleIn bytes m → IsModuleAnswer (IsText IsTextOf) bytes (Err failure) → ⊥
no_error IsTextOf bytes m failure is answer =
    let same : answer.file ≡ Ok is.file = file_unique bytes answer.file (Ok is.file) answer.is_file is.is_file in
    not_told IsTextOf is.file failure (refusal_of is.file) is.no_refusal (subst (λ (file : Result File Malformed). IsAnswerOfFile (IsText IsTextOf) file (Err failure)) same answer.is_answer)

-- ---- two runs

module _ (law : CanonicalTableLacksQuasisAlone) {S O E D : Type 0} (source : Device S) (out : Device O) (err : Device E) (disk : Store D) (asked : Option Plan) (range part : Range) (m : SteenrodModule) (input next_input empty c : List ℕ) (first : RunFor source out err disk asked) (next : RunFor source out err disk (Some (Verify part)))
    (used : use_for asked ≡ Some (keeping range)) (rows : part.s ≤ range.s) (degrees : part.t ≤ range.t) (has : source.shows first.source_old ≡ Some input) (of_module : IsModuleFor asked input m) (found : IsFoundWith disk empty first.disk_old) (few : length empty ≤ 41) (had : IsAnswered first.is_run.outcome) (image : disk.images first.disk_new c)
    (has_next : source.shows next.source_old ≡ Some next_input) (in_next : IsModuleIn next_input m) (found_next : IsFoundWith disk c next.disk_old) (unfailed : IsUnfailed next) where
  ours : IsOurs m [] (disk.images first.disk_old)
  ours = short_disk disk.images m first.disk_old (λ d there. subst (λ (x : List ℕ). length x ≤ 41) (sym (found.only d there)) few)

  lasted : HasLasted disk m range [] (IsAnswered first.is_run.outcome) (first.is_run.outcome ≢ Err Saving) first.disk_old first.disk_new
  lasted =
      let saved = subst (λ (bytes : List ℕ). HasSaved disk asked bytes first.is_run.outcome first.disk_old first.disk_new) (input_is source out err disk asked first input has) first.is_run.saved in
      saved.used (keeping range) m used of_module [] (subst (λ (o : Option (List ℕ)). IsSome o) (sym found.now_is) refl) ours

  worked : first.is_run.outcome ≢ Err Saving
  worked is = subst IsAnswered is had

  -- it took up no square
  none_more : [] ++ lasted.more ≡ []
  none_more =
      let was : standing_of m empty ≡ Ok [] = ap (λ (r : Records). of_records (module_over m) r) (records_few (digest_of m) empty few) in
      let both : Ok ([] ++ lasted.more) ≡ Ok [] = sym (lasted.from_file had empty found.now_is) ∙ was in
      cc

  all_given : ([] ++ lasted.more) ++ lasted.given ≡ lasted.given
  all_given = ap (λ (l : List Entry). l ++ lasted.given) none_more

  stands : standing_of m c ≡ Ok lasted.given
  stands = lasted.exact had c image ∙ ap (λ (l : List Entry). Ok l) all_given

  no_certificate : (fault : CertFault) → IsNoCertificate part m c fault → ⊥
  no_certificate fault none =
      no_fault law m range part rows degrees lasted.given c (subst (AreCanonical m) all_given lasted.canonical) (subst (HasRange range) all_given (lasted.whole had)) (all_whole m lasted.given c stands (lasted.made worked c image)) none.0 none.1 stands fault none.2

  abbrev Verifies : Option Plan
  Verifies = Some (Verify part)

  -- the next run's module is this one
  same_module : (n : SteenrodModule) → IsModuleFor Verifies next.is_run.input n → n ≡ m
  same_module n of =
      let here : IsModuleFor Verifies next_input n = subst (λ (bytes : List ℕ). IsModuleFor Verifies bytes n) (input_is source out err disk Verifies next next_input has_next) of in
      module_same Verifies next_input n m here in_next

  same_range : (other : Range) → use_for Verifies ≡ Some (verifying other) → other ≡ part
  same_range other is = let same : verifying part ≡ verifying other = same_Some (verifying part) (verifying other) is in cc

  abbrev Ends : Type 0
  Ends = HasEndedWith (Err Memory) next ⊎ ((text : List ℕ) × IsAskedAnswer Verifies next_input (Ok text) × HasEndedWith (Ok text) next)

  abbrev Usable : Type 0
  Usable = IsUsable disk Verifies next.is_run.input next.disk_old

  usable : Usable
  usable usage n is of =
      (subst (λ (o : Option (List ℕ)). IsSome o) (sym found_next.now_is) refl, subst (λ (u : Use). IsFitFor u n (disk.images next.disk_old)) (same_Some (verifying part) usage is) tt)

  cause : (outcome : Outcome) → next.is_run.outcome ≡ outcome → IsCause Verifies next.is_run.input (Some c) Usable outcome
  cause outcome is = subst (IsCause Verifies next.is_run.input (Some c) Usable) is (subst (λ (now : Option (List ℕ)). IsCause Verifies next.is_run.input now Usable next.is_run.outcome) found_next.now_is next.is_run.cause)

  right : (answer : Outcome) → IsAskedAnswer Verifies next.is_run.input answer → IsAskedAnswer Verifies next_input answer
  right answer is = subst (λ (bytes : List ℕ). IsAskedAnswer Verifies bytes answer) (input_is source out err disk Verifies next next_input has_next) is

  not_refused : (e : ResumeFault) → IsRefused Verifies next.is_run.input c e → ⊥
  not_refused e refused =
      let same = same_module refused.0 refused.1.1 in
      let both : Ok lasted.given ≡ Err e = sym stands ∙ ap (λ (n : SteenrodModule). standing_of n c) (sym same) ∙ refused.2 in
      cc

  not_uncertified : (fault : CertFault) → IsUncertified Verifies next.is_run.input c fault → ⊥
  not_uncertified fault none =
      let same = same_module none.m none.of_module in
      let there : IsNoCertificate part none.m c fault = subst (λ (r : Range). IsNoCertificate r none.m c fault) (same_range none.range none.is_verified) none.is_none in
      no_certificate fault (subst (λ (n : SteenrodModule). IsNoCertificate part n c fault) same there)

  no_answer : (failure : Failure) → IsAskedAnswer Verifies next.is_run.input (Err failure) → ⊥
  no_answer failure is = no_error (IsVerifiedChart part) next_input m failure in_next (right (Err failure) is)

  by_outcome : (outcome : Outcome) → next.is_run.outcome ≡ outcome → Ends
  by_outcome (Ok text) is = inr (text, right (Ok text) (cause (Ok text) is usable), ended source out err disk Verifies next (Ok text) is unfailed.written)
  by_outcome (Err Memory) is = inl (ended source out err disk Verifies next (Err Memory) is unfailed.written)
  by_outcome (Err Reading) is = absurd (unfailed.read (next.is_run.read.failed is))
  by_outcome (Err Saving) is = absurd (unfailed.kept (next.is_run.saved.failed is))
  by_outcome (Err Writing) is = absurd (not_cut source out err disk Verifies next is unfailed)
  by_outcome (Err (SaveFile e)) is = absurd (not_refused e (cause (Err (SaveFile e)) is).1)
  by_outcome (Err (Certificate fault)) is = absurd (not_uncertified fault (cause (Err (Certificate fault)) is).1)
  by_outcome (Err (Classes refusal)) is = absurd (cause (Err (Classes refusal)) is).0
  by_outcome (Err Words) is = absurd (let none : Verifies ≡ None = cause (Err Words) is in cc)
  by_outcome (Err (NoModuleFile e)) is = absurd (no_answer (NoModuleFile e) (cause (Err (NoModuleFile e)) is))
  by_outcome (Err (NotModule file e)) is = absurd (no_answer (NotModule file e) (cause (Err (NotModule file e)) is))
  by_outcome (Err (PastLimit what)) is = absurd (no_answer (PastLimit what) (cause (Err (PastLimit what)) is))

pub accepts_what_is_made : CanonicalTableLacksQuasisAlone → {S O E D : Type 0} (source : Device S) (out : Device O) (err : Device E) (disk : Store D) → VerifyAcceptsWhatIsMade source out err disk
accepts_what_is_made law source out err disk asked range part m input next_input empty c first next used rows degrees has of_module found few had image has_next in_next found_next unfailed =
    by_outcome law source out err disk asked range part m input next_input empty c first next used rows degrees has of_module found few had image has_next in_next found_next unfailed next.is_run.outcome refl
