-- A save file that is verified, whoever left it.
use Rattle.std.proofs.Common.{◌≡◌, ◌≢◌, ℕ, ◌⊎◌, inl, inr, List, ◌++◌, Option, Some, None, ap, sym, subst, ◌∙◌, refl, arith}
use Rattle.std.specs.Prelude.{Ok, Err, IfOk, IfErr, OnOk, IfSome}
use Rattle.std.specs.Option.{option_map}
use Rattle.std.proofs.lemmas.Option.{slice_get_within}
use Rattle.bidegree.specs.declared.range.Range.{Range}
use Rattle.bidegree.specs.declared.shape.Shape.TheVariants.{Rectangle}
use Rattle.bidegree.specs.LastDegrees.{last_degree}
use Rattle.edge.specs.Disk.{LeavesOnly}
use Rattle.finite_module.specs.Checked.{Checked}
use Rattle.finite_module.specs.Graded.{ModulesAreSteenrodModules}
use Rattle.resolution_laws.specs.Resolution.{generator_count}
use Rattle.resolution_laws.specs.Exactness.{CanonicalTableIsMinimalResolution}
use Rattle.square.specs.Squares.{bottom_of}
use Rattle.square.specs.Tables.{Staircase, row_in, plain_rows, IsThrough, AllRead, IsTable}
use Rattle.cert_check.specs.Certified.{part_of, Certifies, HasCanonicalCounts, IsFirstFault}
use Rattle.cert_check.specs.declared.fault.CertFault.{CertFault}
use Rattle.save_journal.specs.Records.{opened}
use Rattle.save_journal.specs.Journals.{HasRecordsOf}
use Rattle.save_file.specs.Files.{digest_of, standing_of}
use Rattle.save_file.specs.Saved.{kept_of_table}
use Rattle.save_file.specs.Saving.{SaveState, TakesSquares, quasis_in}
use Rattle.ext_chart.specs.Files.{verified_line}
use Rattle.ext_chart.proofs.Agreement.{chart_text-alike, chart_text-counts}
use Rattle.ext_report.specs.declared.failure.Failure.{Failure}
use Rattle.ext_report.specs.declared.failure.Failure.TheVariants.{Saving, Certificate, Memory}
use Rattle.ext_report.specs.Failure.{IsOfClasses}
use Rattle.ext_run.specs.declared.task.Task.TheVariants.{Verification}
use Rattle.ext_run.specs.Devices.{Store}
use Rattle.ext_run.specs.Plan.{verifying}
use Rattle.ext_run.specs.Forms.{IsVerifiedChart, verified_of}
use Rattle.ext_run.specs.Certificates.{IsTakenUpAs, IsNoCertificate, HasVerified}
use Rattle.ext_run.specs.Task.{IsDoneBy}
use Rattle.ext_run.specs.Work.{Told, HasAnswer, answer_of, IsCertificateRefusal, HasUsed}
use Rattle.ext_run.proofs.Certificates.{certificate_decided}
use Rattle.ext_run.proofs.Lasting.{at_some, AreDisks}
use Rattle.ext_run.proofs.Continuing.{resolved_by}
use Rattle.ext_run.proofs.Resolved.{cut_alike}
use Rattle.ext_run.proofs.KeptOn.{IsToldBy, WhyTaken, records_left, start_is, used_on}
use Rattle.ext_run.proofs.TakenUp.{taken_up_as, stays_if_whole}

-- what holds of what is told
where_is : {X : Type 0} (o : Option X) (P : X → Type 0) → ((x : X) → o ≡ Some x → P x) → IfSome o P
where_is None P f = tt
where_is (Some x) P f = f x refl

-- ---- the chart of a table that certifies a range

pub through_certified : (range : Range) (table : Staircase) → Certifies table range → IsThrough range table.rows
through_certified range table certified s l =
    let c = certified s range.t l (omega arith) in
    slice_get_within (row_in table.rows s) range.t c.quasi.square c.quasi.there

-- it has as many generators as the canonical one
pub is_verified : CanonicalTableIsMinimalResolution → ModulesAreSteenrodModules → (range : Range) (table : Staircase) (text : List ℕ) → IsThrough range table.rows → HasCanonicalCounts table range → text ≡ verified_of range table.resolved.plain (plain_rows table.rows) → IsVerifiedChart range table.resolved.plain text
is_verified minimal modules range table text through counts is = record {
  table = counts.canonical;
  resolved = resolved_by minimal modules range table.resolved counts.canonical counts.is_canonical;
  is = is
      ∙ ap (λ (z : List ℕ). z ++ verified_line range.s (last_degree Rectangle range))
      (chart_text-alike table.resolved.plain.generators range.s (last_degree Rectangle range) _ _ (cut_alike Rectangle range table through) (bottom_of table.resolved)
      ∙ chart_text-counts range.s (last_degree Rectangle range) (generator_count (part_of table range)) (generator_count counts.canonical) counts.counts (bottom_of table.resolved));
}

-- ---- the answer

module _ {D : Type 0} (store : Store D) (laws : AreDisks store) (m : Checked) (range : Range) (disk : D) (text : Told) (table : Staircase) (k : SaveState D) (squares : IfSome (store.now disk) (λ file. standing_of m.plain file ≡ Ok table.start)) (resolved : table.resolved ≡ m) (all_read : AllRead table.rows)
    (k_resolved : k.resolved ≡ m) (live : TakesSquares store.now store.images k) (file_is : store.now k.journal.disk ≡ option_map (opened (digest_of m.plain)) (store.now disk)) (quasis : quasis_in store.now k ≡ option_map (λ _. kept_of_table table) (store.now disk)) (no_fault : store.faults k.journal.disk ≡ store.faults disk)
    (opening : IfSome (store.now disk) (λ _. LeavesOnly store.moment store.since disk k.journal.disk (HasRecordsOf (digest_of m.plain) (store.images disk)))) (alone : IfSome (store.now disk) (λ file. opened (digest_of m.plain) file ≡ file → LeavesOnly store.moment store.since disk k.journal.disk (store.images disk)))
    (told : IfOk text (λ t. IsVerifiedChart range table.resolved.plain t.items)) (certified : OnOk text (Certifies table range)) (why : IfErr text (λ e. (e ≡ Memory) ⊎ ((fault : CertFault) × (e ≡ Certificate fault) × IsFirstFault table range fault))) (is_table : IsTable table) where
  taken : (file : List ℕ) → store.now disk ≡ Some file → IsTakenUpAs m.plain file table
  taken file is = taken_up_as store m disk table k resolved k_resolved live file_is quasis file is is_table all_read (start_is store laws m.plain disk table k squares no_fault file is)

  -- by what was told
  abbrev Why : Told → Type 0
  Why t = IfErr t (λ e. (e ≡ Memory) ⊎ ((fault : CertFault) × (e ≡ Certificate fault) × IsFirstFault table range fault))

  why_taken : (t : Told) → Why t → WhyTaken (verifying range) m.plain (store.now disk) (Verification m range) t
  why_taken (Ok x) h = tt
  why_taken (Err e) (inl h) = inr (inl h)
  why_taken (Err e) (inr h) =
      let none : IsCertificateRefusal (verifying range) m.plain (store.now disk) (Certificate h.0) = where_is (store.now disk) (λ file. IsNoCertificate range m.plain file h.0) (λ file is. (table, taken file is, h.2)) in
      inr (inr (inr (subst (IsCertificateRefusal (verifying range) m.plain (store.now disk)) (sym h.1) none)))

  not_saving : (t : Told) → Why t → t ≢ Err Saving
  not_saving (Ok x) h is = cc
  not_saving (Err e) (inl h) is = cc
  not_saving (Err e) (inr h) is = let bad = h.1 in cc

  no_classes : (e : Failure) → Why (Err e) → IsOfClasses e → ⊥
  no_classes e (inl h) of = subst IsOfClasses h of
  no_classes e (inr h) of = subst IsOfClasses h.1 of

  done_by : (t : Told) → IfOk t (λ x. IsVerifiedChart range table.resolved.plain x.items) → Why t → HasAnswer t → IsDoneBy (Verification m range) (answer_of t)
  done_by (Ok x) chart h answered = subst (λ (c : Checked). IsVerifiedChart range c.plain x.items) resolved chart
  done_by (Err e) chart h answered = absurd (no_classes e h answered)

  certifies : (t : Told) → OnOk t (Certifies table range) → Why t → HasAnswer t → Certifies table range
  certifies (Ok x) certified_by h answered = certified_by
  certifies (Err e) certified_by h answered = absurd (no_classes e h answered)

  none_told : (file : List ℕ) → store.now disk ≡ Some file → (fault : CertFault) → IsNoCertificate range m.plain file fault → (t : Told) → OnOk t (Certifies table range) → Why t → IsToldBy t fault
  none_told file is fault none (Ok x) certified_by h = absurd (certificate_decided.apart range m.plain file fault (table, taken file is, certified_by) none)
  none_told file is fault none (Err e) certified_by (inl h) = inr (inr (ap (λ (x : Failure). Err x) h))
  none_told file is fault none (Err e) certified_by (inr h) =
      let same = certificate_decided.one_fault range m.plain file h.0 fault (table, taken file is, h.2) none in
      inl (ap (λ (x : Failure). Err x) (h.1 ∙ ap (λ (f : CertFault). Certificate f) same))

  verified_file : (file : List ℕ) → store.now disk ≡ Some file → HasVerified store range m.plain file (HasAnswer text) (text ≢ Err Saving) (IsToldBy text) disk k.journal.disk
  verified_file file is = record {
    certified = λ has. (table, taken file is, certifies text certified why has);
    told = λ fault none. none_told file is fault none text certified why;
    moments = records_left store laws m.plain disk k.journal.disk (at_some (store.now disk) (λ _. LeavesOnly store.moment store.since disk k.journal.disk (HasRecordsOf (digest_of m.plain) (store.images disk))) file is opening);
    left_alone = λ worked. stays_if_whole store laws m.plain disk k.journal.disk file_is alone;
  }

  pub verified_on : HasUsed store (verifying range) m.plain (Verification m range) text disk k.journal.disk
  verified_on =
      used_on store laws m.plain disk table k squares no_fault (verifying range) (Verification m range) text k.journal.disk (λ has some fit. done_by text told why has) (why_taken text why) (λ h. absurd (not_saving text why h)) (λ h. refl) (omega arith) verified_file
