-- A save file that was taken up as a table.
use Rattle.std.proofs.Common.{◌≡◌, ℕ, List, take, Some, ap, sym, subst, ◌∙◌, refl, arith}
use Rattle.std.specs.Prelude.{Ok, IfSome}
use Rattle.std.specs.Option.{option_map}
use Rattle.std.proofs.lemmas.List.{take_all}
use Rattle.std.proofs.lemmas.Option.{same_Some}
use Rattle.sha2.proofs.Facts256.{length-sha256}
use Rattle.edge.specs.Disk.{LeavesOnly}
use Rattle.finite_module.specs.Checked.{Checked}
use Rattle.finite_module.specs.Module.{Module as SteenrodModule}
use Rattle.finite_module.specs.Text.{canonical_text}
use Rattle.square.specs.Squares.{over}
use Rattle.square.specs.Tables.{Staircase, AllRead, IsTable}
use Rattle.save_journal.specs.Records.{Records, records_of, opened}
use Rattle.save_journal.proofs.Opened.{records_before}
use Rattle.save_file.specs.Files.{digest_of, standing_of, first_records, kept_by, first_kept}
use Rattle.save_file.specs.Saved.{kept_of_table}
use Rattle.save_file.specs.Saving.{SaveState, HasSquares, TakesSquares, quasis_in}
use Rattle.ext_run.specs.Devices.{Store}
use Rattle.ext_run.specs.Saving.{kept_of, StaysIfWhole}
use Rattle.ext_run.specs.Certificates.{IsTakenUpAs}
use Rattle.ext_run.proofs.Lasting.{at_some, if_some, AreDisks, unwritten_since}

-- ---- what it keeps

module _ {D : Type 0} (store : Store D) (m : Checked) (disk : D) (table : Staircase) (k : SaveState D) (resolved : table.resolved ≡ m) (k_resolved : k.resolved ≡ m) (live : TakesSquares store.now store.images k) (file_is : store.now k.journal.disk ≡ option_map (opened (digest_of m.plain)) (store.now disk))
    (quasis : quasis_in store.now k ≡ option_map (λ _. kept_of_table table) (store.now disk)) (file : List ℕ) (is : store.now disk ≡ Some file) where
  now_opened : store.now k.journal.disk ≡ Some (opened (digest_of m.plain) file)
  now_opened = file_is ∙ ap (option_map (opened (digest_of m.plain))) is

  has : HasSquares m k.start k.count (opened (digest_of m.plain) file)
  has = subst (λ (c : Checked). HasSquares c k.start k.count (opened (digest_of m.plain) file)) k_resolved (at_some (store.now k.journal.disk) (HasSquares k.resolved k.start k.count) (opened (digest_of m.plain) file) now_opened live.has)

  records : records_of (digest_of m.plain) file ≡ Ok has.bodies
  records = records_before (digest_of m.plain) has.bodies (length-sha256 (canonical_text m.plain)) (Some file) (Some (opened (digest_of m.plain) file)) refl has.records

  counted_is : first_kept m k.count (opened (digest_of m.plain) file) ≡ kept_of_table table
  counted_is =
      let both : Some (first_kept k.resolved k.count (opened (digest_of m.plain) file)) ≡ Some (kept_of_table table) =
      sym (ap (option_map (first_kept k.resolved k.count)) now_opened) ∙ quasis ∙ ap (option_map (λ (f : List ℕ). kept_of_table table)) is in
      ap (λ (c : Checked). first_kept c k.count (opened (digest_of m.plain) file)) (sym k_resolved) ∙ same_Some _ _ both

  -- it has counted all of its records
  pub keeps_table : kept_of m.plain file ≡ kept_of_table table
  keeps_table =
      let all : take k.count has.bodies ≡ has.bodies = take_all k.count has.bodies (let n = has.counted in omega (arith, n)) in
      ap (kept_by (over m)) records
      ∙ ap (λ (r : Records). kept_by (over m) r) (sym (ap (first_records k.count) has.records ∙ ap (λ (l : List (List ℕ)). Ok l) all))
      ∙ counted_is

  pub taken_up_as : IsTable table → AllRead table.rows → standing_of m.plain file ≡ Ok table.start → IsTakenUpAs m.plain file table
  taken_up_as is_table all_read stands = record { of_module = ap (λ (c : Checked). c.plain) resolved; is_table = is_table; all_read = all_read; stands = stands; keeps = keeps_table }

-- ---- it was not written if opening it leaves it as it is

module _ {D : Type 0} (store : Store D) (laws : AreDisks store) (m : SteenrodModule) (disk opening : D) (file_is : store.now opening ≡ option_map (opened (digest_of m)) (store.now disk))
    (alone : IfSome (store.now disk) (λ file. opened (digest_of m) file ≡ file → LeavesOnly store.moment store.since disk opening (store.images disk))) where
  pub stays_if_whole : StaysIfWhole store m disk opening
  stays_if_whole file is same =
      let leaves = at_some (store.now disk) (λ f. opened (digest_of m) f ≡ f → LeavesOnly store.moment store.since disk opening (store.images disk)) file is alone same in
      unwritten_since store laws disk opening (file_is ∙ ap (option_map (opened (digest_of m))) is ∙ ap (λ (f : List ℕ). Some f) same ∙ sym is) (if_some (store.now disk) (LeavesOnly store.moment store.since disk opening (store.images disk)) leaves)
