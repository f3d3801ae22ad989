-- A save file that was taken up, or refused.
use Rattle.std.proofs.Common.{◌≡◌, ◌≢◌, ◌⊎◌, inl, inr, ℕ, ◌≤◌, List, [], length, map, Option, None, Some, refl, sym, ◌∙◌, ap, subst, arith, append-nil}
use Rattle.std.specs.Prelude.{IsSome, IfSome, Result, Ok, Err}
use Rattle.std.specs.Option.{option_map}
use Rattle.std.proofs.lemmas.List.{take_all}
use Rattle.std.proofs.lemmas.List.Elements.{All-nil}
use Rattle.std.proofs.lemmas.Option.{IfSome_then}
use Rattle.finite_module.specs.Checked.{Checked}
use Rattle.resolution_laws.specs.Start.{Entry}
use Rattle.square.specs.Squares.{over}
use Rattle.square.specs.Tables.{Staircase, AllRead, IsTable}
use Rattle.square.specs.Keeping.{HoldsTable, IsKeeperOf}
use Rattle.edge.specs.Disk.{LeavesOnly, HavePast}
use Rattle.edge.proofs.Moments.{Lawful, where_told, at_told, where_some, started}
use Rattle.save_journal.specs.Records.{Records, records_of, opened}
use Rattle.save_journal.specs.Journals.{JournalState, IsLive, HasRecordsOf, HaveSameRecords, ComeFromEarlier}
use Rattle.save_journal.proofs.Retaining.{come_started}
use Rattle.save_journal.specs.declared.fault.OpenFault.{OpenFault}
use Rattle.save_journal.specs.declared.fault.OpenFault.TheVariants.{Failed as DiskFailed, Memory as OpenMemory}
use Rattle.save_journal.proofs.Opened.{HasBodies, records_before, kept_file, file_kept}
use Rattle.save_file.specs.Bodies.{Kept}
use Rattle.save_file.specs.Reading.{kept_from, kept_of_bodies, squares_alone, squares_of}
use Rattle.save_file.specs.Saved.{quasi_kept, kept_of_table}
use Rattle.save_file.specs.Files.{opening_refusal, of_squares, of_records, digest_of, standing_of, list_in, first_records, first_squares, kept_list, kept_by, first_kept}
use Rattle.save_file.specs.Inside.Taking.{IsStrange}
use Rattle.save_file.specs.Saving.{SaveState, HasSquares, TakesSquares, kept_in, quasis_in, telling_of}
use Rattle.save_file.specs.declared.fault.ResumeFault.{ResumeFault}
use Rattle.save_file.specs.declared.fault.ResumeFault.TheVariants.{Open, Memory as OutOfMemory}
use Rattle.resolution_laws.specs.Resolution.{Module}
use Rattle.save_file.proofs.Rules.{ok}
use Rattle.save_file.proofs.Entries.{entries_of_table}
use Rattle.save_file.proofs.TakingUp.{ArePlain, holds_start, start_are_of, squares_plain}

-- ---- a file that was opened

-- The disk was opened as the save file of the module: the journal takes records, the file is what an opening leaves of it, and
-- these bodies are those of its records, now as before.
pub record IsOpened {D : Type 0} (now : D → Option (List ℕ)) (images : D → List ℕ → Type 0) (m : Checked) (old : D) (journal : JournalState D) (bodies : List (List ℕ)) : Type 0 where
  pub live : IsLive now images journal
  pub digest : journal.digest ≡ digest_of m.plain
  pub few : length bodies ≤ journal.end
  pub file : now journal.disk ≡ option_map (opened (digest_of m.plain)) (now old)
  pub is : HasBodies (digest_of m.plain) bodies (now journal.disk)
  pub was : HasBodies (digest_of m.plain) bodies (now old)

pub is_opened : {D : Type 0} (now : D → Option (List ℕ)) (images : D → List ℕ → Type 0) (m : Checked) (old : D) (journal : JournalState D) (digest : List ℕ) (bodies : List (List ℕ)) → digest ≡ digest_of m.plain → length digest ≡ 32
    → IsLive now images journal → journal.digest ≡ digest → length bodies ≤ journal.end → now journal.disk ≡ option_map (opened digest) (now old) → HasBodies digest bodies (now journal.disk) → IsOpened now images m old journal bodies
is_opened now images m old journal digest bodies named width live same few file is = record {
  live = live;
  digest = same ∙ named;
  few = few;
  file = subst (λ d. now journal.disk ≡ option_map (opened d) (now old)) named file;
  is = subst (λ d. HasBodies d bodies (now journal.disk)) named is;
  was = subst (λ d. HasBodies d bodies (now old)) named (records_before digest bodies width (now old) (now journal.disk) file is);
}

-- ---- what it stands for

-- the squares of what was read
squares_read : (m : Module) (bodies : List (List ℕ)) (table : Staircase) → kept_of_bodies m bodies ≡ Ok (kept_of_table table) → squares_of m bodies ≡ Ok table.start
squares_read m bodies table e = ap squares_alone e ∙ ap (λ (l : List Entry). ok l) (entries_of_table table)

has_squares : (m : Checked) (table : Staircase) (bodies : List (List ℕ)) → table.resolved ≡ m → kept_of_bodies (over m) bodies ≡ Ok (kept_of_table table) → IsTable table → AllRead table.rows → (file : List ℕ) → records_of (digest_of m.plain) file ≡ Ok bodies → HasSquares table.resolved table.start (length bodies) file
has_squares m table bodies same e h read file is =
    let here : kept_of_bodies (over table.resolved) bodies ≡ Ok (kept_of_table table) = ap (λ (x : Checked). kept_of_bodies (over x) bodies) same ∙ e in
    let plain = subst ArePlain (entries_of_table table) (squares_plain (over table.resolved) bodies (kept_of_table table) here) in
    record {
      bodies = bodies;
      list = table.start;
      records = ap (λ (x : Checked). records_of (digest_of x.plain) file) same ∙ is;
      counted = refl;
      squares = squares_read (over table.resolved) bodies table here;
      kept = kept_of_table table;
      kept_are = here;
      are_of = start_are_of table h read plain;
      read = kept_of_table table;
      made = [];
      parts = sym (append-nil (kept_of_table table));
      read_are = entries_of_table table;
      whole = All-nil (λ (k : Kept). IsSome k.quasi);
    }

-- the first so many records are all of them
first_of_all : (m : Checked) (bodies : List (List ℕ)) (file : List ℕ) → records_of (digest_of m.plain) file ≡ Ok bodies → first_records (length bodies) (records_of (digest_of m.plain) file) ≡ Ok bodies
first_of_all m bodies file is = ap (first_records (length bodies)) is ∙ ap (λ (l : List (List ℕ)). Ok l) (take_all (length bodies) bodies (omega arith))

-- what is told of a disk that was opened
told_of : {A : Type 0} (f : List ℕ → A) (x : A) (digest : List ℕ) (bodies : List (List ℕ)) → ((file : List ℕ) → records_of digest file ≡ Ok bodies → f file ≡ x) → (o p : Option (List ℕ)) → p ≡ option_map (opened digest) o → HasBodies digest bodies p → option_map f p ≡ option_map (λ _. x) o
told_of f x digest bodies is None p same has = ap (option_map f) same
told_of f x digest bodies is (Some file) p same has =
    let here : HasBodies digest bodies (Some (opened digest file)) = subst (HasBodies digest bodies) same has in
    ap (option_map f) same ∙ ap (λ y. Some y) (is (opened digest file) here)

kept_told : (m : Checked) (start : List Entry) (bodies : List (List ℕ)) → squares_of (over m) bodies ≡ Ok start → (o p : Option (List ℕ)) → p ≡ option_map (opened (digest_of m.plain)) o → HasBodies (digest_of m.plain) bodies p → option_map (first_squares m (length bodies)) p ≡ option_map (λ _. start) o
kept_told m start bodies e = told_of (first_squares m (length bodies)) start (digest_of m.plain) bodies (λ file is.
    ap (λ (r : Records). list_in (of_records (over m) r)) (first_of_all m bodies file is) ∙ ap (λ s. list_in (of_squares bodies s)) e)

quasis_told : (m : Checked) (kept : List Kept) (bodies : List (List ℕ)) → kept_of_bodies (over m) bodies ≡ Ok kept → (o p : Option (List ℕ)) → p ≡ option_map (opened (digest_of m.plain)) o → HasBodies (digest_of m.plain) bodies p → option_map (first_kept m (length bodies)) p ≡ option_map (λ _. kept) o
quasis_told m kept bodies e = told_of (first_kept m (length bodies)) kept (digest_of m.plain) bodies (λ file is. ap (kept_by (over m)) (first_of_all m bodies file is) ∙ ap kept_list e)

where_mapped : {A B : Type 0} (o : Option A) (x : B) (Q : B → Type 0) → Q x → IfSome (option_map (λ _. x) o) Q
where_mapped None x Q q = tt
where_mapped (Some y) x Q q = q

-- the keeper of a table, with so many records
abbrev pub Taken : {D : Type 0} → JournalState D → Staircase → ℕ → SaveState D
Taken journal table n = record { journal = journal; count = n; resolved = table.resolved; start = table.start }

module _ {D : Type 0} (now : D → Option (List ℕ)) (images : D → List ℕ → Type 0) (m : Checked) (old : D) (journal : JournalState D) (bodies : List (List ℕ)) (h : IsOpened now images m old journal bodies) where
  pub stands : (r : Result (List Kept) ℕ) → kept_of_bodies (over m) bodies ≡ r → IfSome (now old) (λ file. standing_of m.plain file ≡ of_squares bodies (squares_alone r))
  stands r e = IfSome_then (now old) h.was (λ file is. ap (of_records (over m)) is ∙ ap (λ x. of_squares bodies (squares_alone x)) e)

  pub stands_for : (table : Staircase) → kept_of_bodies (over m) bodies ≡ Ok (kept_of_table table) → IfSome (now old) (λ file. standing_of m.plain file ≡ Ok table.start)
  stands_for table e = IfSome_then (now old) h.was (λ file is. ap (of_records (over m)) is ∙ ap (of_squares bodies) (squares_read (over m) bodies table e))

  -- where there is a record
  pub as_was : (bodies ≡ [] → ⊥) → now journal.disk ≡ now old
  as_was some = h.file ∙ file_kept (digest_of m.plain) bodies some (now old) h.was

  -- and nothing was written, if that is so of a file that an opening leaves as it is
  pub not_written : (bodies ≡ [] → ⊥) → (X : Type 0) → IfSome (now old) (λ file. opened (digest_of m.plain) file ≡ file → X) → IfSome (now old) (λ _. X)
  not_written some X alone =
      where_told (now old) (λ file. opened (digest_of m.plain) file ≡ file → X) (λ _. X) alone
      (λ file here so. so (kept_file (digest_of m.plain) file bodies (at_told (now old) (λ f. records_of (digest_of m.plain) f ≡ Ok bodies) file here h.was) some))

  -- ---- the keeper of a table whose squares the bodies are

  module _ (table x : Staircase) (n : ℕ) (taken : x ≡ table) (counted : n ≡ length bodies) (same : table.resolved ≡ m) (read_as : kept_of_bodies (over m) bodies ≡ Ok (kept_of_table table)) (is_table : IsTable table) (read : AllRead table.rows) where
    pub takes : TakesSquares now images (Taken journal x n)
    takes = subst (λ t. TakesSquares now images (Taken journal t n)) (sym taken) (subst (λ k. TakesSquares now images (Taken journal table k)) (sym counted) (record {
      live = h.live;
      digest = h.digest ∙ ap (λ (x : Checked). digest_of x.plain) (sym same);
      few = h.few;
      has = IfSome_then (now journal.disk) h.is (has_squares m table bodies same read_as is_table read);
    }))

    pub kept : kept_in now (Taken journal x n) ≡ option_map (λ _. table.start) (now old)
    kept = subst (λ t. kept_in now (Taken journal t n) ≡ option_map (λ _. table.start) (now old)) (sym taken) (subst (λ k. kept_in now (Taken journal table k) ≡ option_map (λ _. table.start) (now old)) (sym counted)
        (ap (λ (y : Checked). option_map (first_squares y (length bodies)) (now journal.disk)) same ∙ kept_told m table.start bodies (squares_read (over m) bodies table read_as) (now old) (now journal.disk) h.file h.is))

    pub quasis : quasis_in now (Taken journal x n) ≡ option_map (λ _. kept_of_table table) (now old)
    quasis = subst (λ t. quasis_in now (Taken journal t n) ≡ option_map (λ _. kept_of_table table) (now old)) (sym taken) (subst (λ k. quasis_in now (Taken journal table k) ≡ option_map (λ _. kept_of_table table) (now old)) (sym counted)
        (ap (λ (y : Checked). option_map (first_kept y (length bodies)) (now journal.disk)) same ∙ quasis_told m (kept_of_table table) bodies read_as (now old) (now journal.disk) h.file h.is))

    pub keeper : (moment : D → ℕ) (images_at since : D → ℕ → List ℕ → Type 0) (faults : D → ℕ) → IsKeeperOf (telling_of now moment images images_at since faults (Taken journal x n)) table
    keeper moment images_at since faults = record {
      holds = subst (λ (o : Option (List Entry)). IfSome o (λ list. HoldsTable list table.rows)) (sym kept) (where_mapped (now old) table.start (λ list. HoldsTable list table.rows) (holds_start table is_table read));
      resolved = ap (λ (t : Staircase). t.resolved) (sym taken);
      start = ap (λ (t : Staircase). t.start) (sym taken);
    }

-- what is read behind no square
pub from_none : (m : Checked) (bodies : List (List ℕ)) (r : Result (List Kept) ℕ) (table : Staircase) → table.resolved ≡ m → table.start ≡ [] → kept_from (over table.resolved) (kept_of_table table) 0 bodies ≡ r → kept_of_bodies (over m) bodies ≡ r
from_none m bodies r table same none e =
    ap (λ (y : Checked). kept_from (over y) [] 0 bodies) (sym same) ∙ ap (λ (l : List Entry). kept_from (over table.resolved) (map (λ (x : Entry). let k : Kept = record { entry = x; quasi = quasi_kept table.rows x.s x.above } in k) l) 0 bodies) (sym none) ∙ e

-- ---- refusals

refused_as : (m : Checked) (digest : List ℕ) (fault : OpenFault) (o : Option (List ℕ)) → digest ≡ digest_of m.plain → ((fault ≡ DiskFailed) ⊎ (fault ≡ OpenMemory) ⊎ IfSome o (λ file. records_of digest file ≡ Err fault))
    → (opening_refusal fault ≡ Open DiskFailed) ⊎ (opening_refusal fault ≡ OutOfMemory) ⊎ IfSome o (λ file. standing_of m.plain file ≡ Err (opening_refusal fault))
refused_as m digest OpenMemory o named r = inr (inl refl)
refused_as m digest fault o named r = elim r [
  | inl failed ↦ inl (ap opening_refusal failed)
  | inr other ↦ elim other [
    | inl memory ↦ inr (inl (ap opening_refusal memory))
    | inr told ↦ inr (inr (IfSome_then o told (λ file is. ap (of_records (over m)) (subst (λ d. records_of d file ≡ Err fault) named is))))
  ]
]

pub refused : (m : Checked) (digest : List ℕ) (fault : OpenFault) (e : ResumeFault) (o : Option (List ℕ)) → e ≡ opening_refusal fault → digest ≡ digest_of m.plain → ((fault ≡ DiskFailed) ⊎ (fault ≡ OpenMemory) ⊎ IfSome o (λ file. records_of digest file ≡ Err fault))
    → (e ≡ Open DiskFailed) ⊎ (e ≡ OutOfMemory) ⊎ IfSome o (λ file. standing_of m.plain file ≡ Err e)
refused m digest fault e o is named r = subst (λ e. (e ≡ Open DiskFailed) ⊎ (e ≡ OutOfMemory) ⊎ IfSome o (λ file. standing_of m.plain file ≡ Err e)) (sym is) (refused_as m digest fault o named r)

-- a failure of the disk, and nothing else, is told as one
pub failed : (fault : OpenFault) → opening_refusal fault ≡ Open DiskFailed → fault ≡ DiskFailed
failed OpenMemory e = absurd (cc)
failed fault e = cc

-- want of memory is never told as a refusal of the file
pub not_open : (fault : OpenFault) → opening_refusal fault ≢ Open OpenMemory
not_open OpenMemory e = absurd (cc)
not_open fault e = absurd (cc)

-- a body that was not read
pub strange : (m : Checked) (e : ResumeFault) (o : Option (List ℕ)) (bodies : List (List ℕ)) (read : Module) (kept : List Kept) → (e ≡ OutOfMemory) ⊎ IsStrange read kept bodies e
    → ((n : ℕ) → kept_from read kept 0 bodies ≡ Err n → IfSome o (λ file. standing_of m.plain file ≡ of_squares bodies (squares_alone (Err n)))) → (e ≡ Open DiskFailed) ⊎ (e ≡ OutOfMemory) ⊎ IfSome o (λ file. standing_of m.plain file ≡ Err e)
strange m e o bodies read kept (inl memory) stands = inr (inl memory)
strange m e o bodies read kept (inr (n, is, wrong)) stands = inr (inr (subst (λ f. IfSome o (λ file. standing_of m.plain file ≡ Err f)) (sym is) (stands n wrong)))

-- which is none of opening the file
pub strange_not_open : (e : ResumeFault) (bodies : List (List ℕ)) (read : Module) (kept : List Kept) (fault : OpenFault) → (e ≡ OutOfMemory) ⊎ IsStrange read kept bodies e → e ≢ Open fault
strange_not_open e bodies read kept fault (inl memory) is = absurd (cc)
strange_not_open e bodies read kept fault (inr (n, is_strange, wrong)) is = absurd (cc)

-- ---- moments

-- where the disk gets no call
pub not_called : {D : Type 0} (now : D → Option (List ℕ)) (moment : D → ℕ) (images : D → List ℕ → Type 0) (since : D → ℕ → List ℕ → Type 0) → Lawful now moment images since → (digest : List ℕ) (d : D) → IfSome (now d) (λ _. LeavesOnly moment since d d (HasRecordsOf digest (images d)))
not_called now moment images since laws digest d = where_some (now d) (λ _. LeavesOnly moment since d d (HasRecordsOf digest (images d))) (λ _ _. started now moment images since laws d (HasRecordsOf digest (images d)) (λ c image. (c, image, refl)))

pub untouched : {D : Type 0} (now : D → Option (List ℕ)) (moment : D → ℕ) (images : D → List ℕ → Type 0) (since : D → ℕ → List ℕ → Type 0) → Lawful now moment images since → (d : D) → IfSome (now d) (λ _. LeavesOnly moment since d d (images d))
untouched now moment images since laws d = where_some (now d) (λ _. LeavesOnly moment since d d (images d)) (λ _ _. started now moment images since laws d (images d) (λ c image. image))

pub not_moved : {D : Type 0} (moment : D → ℕ) (at : D → ℕ → List ℕ → Type 0) (d : D) → HavePast moment at d d
not_moved moment at d t c le = (λ x. x, λ x. x)

pub nothing_lost : {D : Type 0} (now : D → Option (List ℕ)) (moment : D → ℕ) (at : D → ℕ → List ℕ → Type 0) (digest : List ℕ) (d : D) → IfSome (now d) (λ _. ComeFromEarlier moment at d d (HaveSameRecords digest))
nothing_lost now moment at digest d = where_some (now d) (λ _. ComeFromEarlier moment at d d (HaveSameRecords digest)) (λ _ _. come_started moment at d (HaveSameRecords digest) (λ c. refl))
