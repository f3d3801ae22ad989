-- The keeper of a save file, one record after the other.
use Rattle.std.proofs.Common.{◌≡◌, ◌↔◌, ◌⊎◌, inl, inr, ⊎_elim, ℕ, ◌+◌, ◌<◌, ◌≤◌, ℤ, pos, ◌+ℤ◌, Bool, List, [], ◌∷◌, ◌++◌, length, take, Option, None, Some, refl, sym, ◌∙◌, ap, subst, arith}
use Rattle.std.specs.Prelude.{IfSome}
use Rattle.std.specs.Option.{option_map}
use Rattle.std.proofs.lemmas.Int.{ints}
use Rattle.std.proofs.lemmas.List.{append-nil}
use Rattle.std.proofs.lemmas.List.Elements.{All-nil}
use Rattle.std.proofs.lemmas.Option.{IfSome_then}
use Rattle.finite_module.specs.Checked.{Checked}
use Rattle.resolution_laws.specs.Resolution.{Module, row_of, below_of}
use Rattle.resolution_laws.specs.Start.{Entry, IsOf}
use Rattle.f2_matrix.specs.Reduction.{Reduction, IsReductionOf, augmented, image_part, chosen_part, kernel_part}
use Rattle.f2_matrix.proofs.Unique.{echelon_form_unique}
use Rattle.square.specs.Squares.{Placed, IsQuasi, IsSquare, KeptWhereMade, entry_of, target_width, square_matrix, bottom_of, over}
use Rattle.square.specs.Tables.{Staircase, plain_rows, content_at, IsQuasiAt}
use Rattle.square.specs.Keeping.{Keeper, IsNextIn, HoldsTable, with_squares, HasFirst, Retains, IsImageWith, HasKept}
use Rattle.square.proofs.Kept.{HasKept-none}
use Rattle.edge.specs.Disk.{LeavesOnly, HavePast, WasImageSince, IsTold, AreTold}
use Rattle.save_journal.specs.Records.{records_of, and_last}
use Rattle.save_journal.specs.Journals.{JournalState, IsSettled, IsLive, IsBeforeOrAfter, ComeFromEarlier}
use Rattle.save_journal.proofs.Retaining.{come_started, come_also}
use Rattle.save_file.specs.Bodies.{Kept, with_quasi_at}
use Rattle.save_file.specs.Files.{kept_in_file, first_squares, first_kept}
use Rattle.save_file.specs.Saved.{IsReadAs, IsReadAsQuasi}
use Rattle.save_file.specs.Saving.{SaveState, HasSquares, TakesSquares, kept_in, quasis_in, IsKeptBare, HasQuasiOrNot, WasLeftAt, WasLeft, telling_of}
use Rattle.save_file.specs.Inside.SavingLaws.{left_earlier, left_is_kept}
use Rattle.save_file.proofs.Adding.{Adds, and_square}
use Rattle.save_file.proofs.Adding as adding

-- with another journal, and so many records
abbrev pub with_journal : {D : Type 0} → SaveState D → JournalState D → ℕ → SaveState D
with_journal old journal n = record { journal = journal; count = n; resolved = old.resolved; start = old.start }

-- what the file is after an append that was done, or cut short
abbrev pub Ends : {D : Type 0} → SaveState D → List ℕ → List ℕ → List ℕ → Type 0
Ends old body file c = IsBeforeOrAfter old.journal.digest (records_of old.journal.digest file) body c

-- and after one that was done
abbrev pub HasLast : {D : Type 0} → SaveState D → List ℕ → List ℕ → List ℕ → Type 0
HasLast old body file c = records_of old.journal.digest c ≡ and_last (records_of old.journal.digest file) body

-- what is kept is what was, or that and what the record adds
abbrev pub KeepsNext : Checked → (List Kept → List Kept) → List ℕ → List ℕ → Type 0
KeepsNext m next d c = (kept_in_file m c ≡ kept_in_file m d) ⊎ (kept_in_file m c ≡ next (kept_in_file m d))

-- where it tells, no square is away again from k to new, not even for a moment
abbrev pub RetainsHere : {D : Type 0} → (D → Option (List ℕ)) → (D → ℕ) → (D → ℕ → List ℕ → Type 0) → SaveState D → SaveState D → Type 0
RetainsHere now moment at k new = IfSome (kept_in now k) (λ _. (first : List Entry) (u v : ℕ) → moment k.journal.disk ≤ u → u ≤ v → v ≤ moment new.journal.disk → ((image : Option (List Entry)) → WasLeftAt at new u image → HasFirst first image) → (image : Option (List Entry)) → WasLeftAt at new v image → HasFirst first image)

-- ---- what a body is to a save file

-- The save file takes records, and where its disk tells, the body may stand behind those that it has: it adds these squares, one or
-- none, and `next` says what is kept then.
pub record Fits {D : Type 0} (now : D → Option (List ℕ)) (images : D → List ℕ → Type 0) (k : SaveState D) (body : List ℕ) (more : List Entry) (next : List Kept → List Kept) (Ready : List ℕ → Type 0) : Type 0 where
  pub takes : TakesSquares now images k
  pub ready : IfSome (now k.journal.disk) Ready
  pub added : (file : List ℕ) → HasSquares k.resolved k.start k.count file → Ready file → Adds k.resolved k.start k.count file body more next

of_mapped : {A B : Type 0} (o : Option A) (f : A → B) (P : B → Type 0) → IfSome (option_map f o) P → IfSome o (λ x. P (f x))
of_mapped None f P p = tt
of_mapped (Some x) f P p = p

both_of : {A : Type 0} (o : Option A) (P Q : A → Type 0) → IfSome o P → IfSome o Q → IfSome o (λ x. P x × Q x)
both_of None P Q p q = tt
both_of (Some x) P Q p q = (p, q)

-- a square that is the next
abbrev pub IsNextThere : {D : Type 0} → SaveState D → Placed → List ℕ → Type 0
IsNextThere k q file = IsNextIn (first_squares k.resolved k.count file) q

pub fits_square : {D : Type 0} (now : D → Option (List ℕ)) (images : D → List ℕ → Type 0) (k : SaveState D) (q : Placed) (body : List ℕ) → TakesSquares now images k → IfSome (kept_in now k) (λ list. IsNextIn list q) → q.resolved ≡ k.resolved → q.start ≡ k.start → IsReadAs q body → IsSquare q → KeptWhereMade q → Fits now images k body (entry_of q ∷ []) (and_square q) (IsNextThere k q)
fits_square now images k q body takes next resolved start reads square where_made = record {
  takes = takes;
  ready = of_mapped (now k.journal.disk) (first_squares k.resolved k.count) (λ list. IsNextIn list q) next;
  added = λ file h ready. adding.adds q k.resolved k.start k.count file body h reads square where_made resolved start ready;
}

-- a quasi-inverse of a square of the table, which is kept without one
abbrev pub IsBareThere : {D : Type 0} → SaveState D → Staircase → ℕ → ℕ → List ℕ → Type 0
IsBareThere k table s above file = HoldsTable (first_squares k.resolved k.count file) table.rows × IsKeptBare (first_kept k.resolved k.count file) s above

abbrev pub and_quasi : (table : Staircase) (s : ℕ) (t : ℤ) (body : List ℕ) → IsReadAsQuasi table s t body → List Kept → List Kept
and_quasi table s t body r kept = with_quasi_at kept s r.above r.quasi

pub fits_quasi : {D : Type 0} (now : D → Option (List ℕ)) (images : D → List ℕ → Type 0) (k : SaveState D) (table : Staircase) (s : ℕ) (t : ℤ) (body : List ℕ) → TakesSquares now images k → IfSome (kept_in now k) (λ list. HoldsTable list table.rows) → table.resolved ≡ k.resolved
    → IfSome (quasis_in now k) (λ kept. (j : ℕ) → t ≡ bottom_of table.resolved +ℤ pos j → IsKeptBare kept s j) → (r : IsReadAsQuasi table s t body) → Fits now images k body [] (and_quasi table s t body r) (IsBareThere k table s r.above)
fits_quasi now images k table s t body takes holds resolved bare r =
    let there = of_mapped (now k.journal.disk) (first_squares k.resolved k.count) (λ list. HoldsTable list table.rows) holds in
    let lacks = of_mapped (now k.journal.disk) (first_kept k.resolved k.count) (λ kept. (j : ℕ) → t ≡ bottom_of table.resolved +ℤ pos j → IsKeptBare kept s j) bare in
    record {
      takes = takes;
      ready = both_of (now k.journal.disk) (λ file. HoldsTable (first_squares k.resolved k.count file) table.rows) (λ file. IsKeptBare (first_kept k.resolved k.count file) s r.above) there (IfSome_then (now k.journal.disk) lacks (λ file b. b r.above r.degree));
      added = λ file h ready. adding.adds_quasi table s t k.resolved k.start k.count file body h r resolved ready.0 ready.1;
    }

module _ {D : Type 0} (now : D → Option (List ℕ)) (moment : D → ℕ) (images : D → List ℕ → Type 0) (since : D → ℕ → List ℕ → Type 0) (body : List ℕ) (more : List Entry) (next : List Kept → List Kept) (Ready : List ℕ → Type 0) (old : SaveState D) (f : Fits now images old body more next Ready) (journal : JournalState D) where
  put_here : AreTold (Ends old body) (now old.journal.disk) (now journal.disk) → IfSome (now old.journal.disk) (λ file. IsTold (now journal.disk) (HasLast old body file)) → kept_in now (with_journal old journal (old.count + 1)) ≡ with_squares (kept_in now old) more
  put_here told last = adding.put old.resolved old.start old.count old.journal.digest body f.takes.digest more next Ready f.added (now old.journal.disk) (now journal.disk) f.takes.has f.ready told last

  put_kept_here : AreTold (Ends old body) (now old.journal.disk) (now journal.disk) → IfSome (now old.journal.disk) (λ file. IsTold (now journal.disk) (HasLast old body file)) → quasis_in now (with_journal old journal (old.count + 1)) ≡ option_map next (quasis_in now old)
  put_kept_here told last = adding.put_kept old.resolved old.start old.count old.journal.digest body f.takes.digest more next Ready f.added (now old.journal.disk) (now journal.disk) f.takes.has f.ready told last

  unput_here : AreTold (Ends old body) (now old.journal.disk) (now journal.disk) → kept_in now (with_journal old journal old.count) ≡ kept_in now old
  unput_here told = adding.unput old.resolved old.start old.count old.journal.digest body f.takes.digest more next Ready f.added (now old.journal.disk) (now journal.disk) f.takes.has f.ready told

  unput_kept_here : AreTold (Ends old body) (now old.journal.disk) (now journal.disk) → quasis_in now (with_journal old journal old.count) ≡ quasis_in now old
  unput_kept_here told = adding.unput_kept old.resolved old.start old.count old.journal.digest body f.takes.digest more next Ready f.added (now old.journal.disk) (now journal.disk) f.takes.has f.ready told

  takes_more : IsLive now images journal → journal.digest ≡ old.journal.digest → old.journal.end < journal.end → AreTold (Ends old body) (now old.journal.disk) (now journal.disk) → IfSome (now old.journal.disk) (λ file. IsTold (now journal.disk) (HasLast old body file)) → TakesSquares now images (with_journal old journal (old.count + 1))
  takes_more live same grown told last = record {
    live = live;
    digest = same ∙ f.takes.digest;
    few = let few = f.takes.few in omega arith;
    has = adding.counted old.resolved old.start old.count old.journal.digest body f.takes.digest more next Ready f.added (now old.journal.disk) (now journal.disk) f.takes.has f.ready told last;
  }

  between_here : (n : ℕ) → IfSome (now old.journal.disk) (λ file. LeavesOnly moment since old.journal.disk journal.disk (Ends old body file)) → IfSome (kept_in now old) (λ list. (image : Option (List Entry)) → WasLeft since (with_journal old journal n) (moment old.journal.disk) image → (image ≡ Some list) ⊎ (image ≡ Some (list ++ more)))
  between_here n leaves = adding.between old.resolved old.start old.count old.journal.digest body f.takes.digest more next Ready f.added moment since old.journal.disk journal.disk (now old.journal.disk) f.takes.has f.ready leaves

  between_kept_here : IfSome (now old.journal.disk) (λ file. LeavesOnly moment since old.journal.disk journal.disk (Ends old body file)) → IfSome (quasis_in now old) (λ kept. (c : List ℕ) → since journal.disk (moment old.journal.disk) c → (kept_in_file old.resolved c ≡ kept) ⊎ (kept_in_file old.resolved c ≡ next kept))
  between_kept_here leaves = adding.between_kept old.resolved old.start old.count old.journal.digest body f.takes.digest more next Ready f.added moment since old.journal.disk journal.disk (now old.journal.disk) f.takes.has f.ready leaves

  come_kept_here : (at : D → ℕ → List ℕ → Type 0) → ((t : ℕ) (c : List ℕ) → WasImageSince (moment journal.disk) (at journal.disk) t c → since journal.disk t c) → IfSome (now old.journal.disk) (λ file. LeavesOnly moment since old.journal.disk journal.disk (Ends old body file)) → IfSome (now old.journal.disk) (λ _. ComeFromEarlier moment at old.journal.disk journal.disk (Ends old body))
      → IfSome (quasis_in now old) (λ _. ComeFromEarlier moment at old.journal.disk journal.disk (KeepsNext old.resolved next))
  come_kept_here at law leaves come = adding.come_kept old.resolved old.start old.count old.journal.digest body f.takes.digest more next Ready f.added moment at since old.journal.disk journal.disk (now old.journal.disk) law f.takes.has f.ready leaves come

-- no square is away again where one is appended, or none
abbrev pub TellsMoments : {D : Type 0} → (D → Option (List ℕ)) → (D → ℕ) → (D → ℕ → List ℕ → Type 0) → (D → ℕ → List ℕ → Type 0) → D → Type 0
TellsMoments now moment at since d = ((t : ℕ) (c : List ℕ) → WasImageSince (moment d) (at d) t c → since d t c) × IfSome (now d) (λ _. (t : ℕ) → t ≤ moment d → (c : List ℕ) × at d t c)

retained_here : {D : Type 0} (now : D → Option (List ℕ)) (moment : D → ℕ) (images : D → List ℕ → Type 0) (at since : D → ℕ → List ℕ → Type 0) (body : List ℕ) (e : Entry) (next : List Kept → List Kept) (Ready : List ℕ → Type 0) (old : SaveState D) (f : Fits now images old body (e ∷ []) next Ready) (journal : JournalState D) (n : ℕ) → TellsMoments now moment at since journal.disk → AreTold (Ends old body) (now old.journal.disk) (now journal.disk)
    → IfSome (now old.journal.disk) (λ file. LeavesOnly moment since old.journal.disk journal.disk (Ends old body file)) → IfSome (now old.journal.disk) (λ _. ComeFromEarlier moment at old.journal.disk journal.disk (Ends old body)) → RetainsHere now moment at old (with_journal old journal n)
retained_here now moment images at since body e next Ready old f journal n tells told leaves records = adding.retained old.resolved old.start old.count old.journal.digest body f.takes.digest e next Ready f.added moment at since old.journal.disk journal.disk (now old.journal.disk) (now journal.disk) tells.0 tells.1 f.takes.has f.ready told leaves records

alone_here : {D : Type 0} (now : D → Option (List ℕ)) (moment : D → ℕ) (images : D → List ℕ → Type 0) (at since : D → ℕ → List ℕ → Type 0) (body : List ℕ) (next : List Kept → List Kept) (Ready : List ℕ → Type 0) (old : SaveState D) (f : Fits now images old body [] next Ready) (journal : JournalState D) (n : ℕ) → TellsMoments now moment at since journal.disk → AreTold (Ends old body) (now old.journal.disk) (now journal.disk)
    → IfSome (now old.journal.disk) (λ file. LeavesOnly moment since old.journal.disk journal.disk (Ends old body file)) → RetainsHere now moment at old (with_journal old journal n)
alone_here now moment images at since body next Ready old f journal n tells told leaves = adding.retained_alone old.resolved old.start old.count old.journal.digest body f.takes.digest next Ready f.added moment at since old.journal.disk journal.disk (now old.journal.disk) (now journal.disk) tells.0 tells.1 f.takes.has f.ready told leaves

-- ---- the same of the value that contracts see

module _ {D : Type 0} (now : D → Option (List ℕ)) (moment : D → ℕ) (images : D → List ℕ → Type 0) (since : D → ℕ → List ℕ → Type 0) (body : List ℕ) (more : List Entry) (next : List Kept → List Kept) (Ready : List ℕ → Type 0) (old k : SaveState D) (same : old ≡ k) (f : Fits now images k body more next Ready) (journal : JournalState D) where
  here : Fits now images old body more next Ready
  here = subst (λ (x : SaveState D). Fits now images x body more next Ready) (sym same) f

  pub put : (n : ℕ) → n ≡ old.count + 1 → AreTold (Ends old body) (now old.journal.disk) (now journal.disk) → IfSome (now old.journal.disk) (λ file. IsTold (now journal.disk) (HasLast old body file)) → kept_in now (with_journal old journal n) ≡ with_squares (kept_in now k) more
  put n counted told last =
      subst (λ j. kept_in now (with_journal old journal j) ≡ with_squares (kept_in now k) more) (sym counted)
      (subst (λ (x : SaveState D). kept_in now (with_journal old journal (old.count + 1)) ≡ with_squares (kept_in now x) more) same (put_here now moment images since body more next Ready old here journal told last))

  pub put_kept : (n : ℕ) → n ≡ old.count + 1 → AreTold (Ends old body) (now old.journal.disk) (now journal.disk) → IfSome (now old.journal.disk) (λ file. IsTold (now journal.disk) (HasLast old body file)) → quasis_in now (with_journal old journal n) ≡ option_map next (quasis_in now k)
  put_kept n counted told last =
      subst (λ j. quasis_in now (with_journal old journal j) ≡ option_map next (quasis_in now k)) (sym counted)
      (subst (λ (x : SaveState D). quasis_in now (with_journal old journal (old.count + 1)) ≡ option_map next (quasis_in now x)) same (put_kept_here now moment images since body more next Ready old here journal told last))

  pub unput : AreTold (Ends old body) (now old.journal.disk) (now journal.disk) → kept_in now (with_journal old journal old.count) ≡ kept_in now k
  unput told = subst (λ (x : SaveState D). kept_in now (with_journal old journal old.count) ≡ kept_in now x) same (unput_here now moment images since body more next Ready old here journal told)

  pub unput_kept : AreTold (Ends old body) (now old.journal.disk) (now journal.disk) → quasis_in now (with_journal old journal old.count) ≡ quasis_in now k
  unput_kept told = subst (λ (x : SaveState D). quasis_in now (with_journal old journal old.count) ≡ quasis_in now x) same (unput_kept_here now moment images since body more next Ready old here journal told)

  pub takes : (n : ℕ) → n ≡ old.count + 1 → IsLive now images journal → journal.digest ≡ old.journal.digest → old.journal.end < journal.end → AreTold (Ends old body) (now old.journal.disk) (now journal.disk) → IfSome (now old.journal.disk) (λ file. IsTold (now journal.disk) (HasLast old body file)) → TakesSquares now images (with_journal old journal n)
  takes n counted live digest grown told last = subst (λ j. TakesSquares now images (with_journal old journal j)) (sym counted) (takes_more now moment images since body more next Ready old here journal live digest grown told last)

  pub between : (n : ℕ) → IfSome (now old.journal.disk) (λ file. LeavesOnly moment since old.journal.disk journal.disk (Ends old body file)) → IfSome (kept_in now k) (λ list. (image : Option (List Entry)) → WasLeft since (with_journal old journal n) (moment k.journal.disk) image → (image ≡ Some list) ⊎ (image ≡ Some (list ++ more)))
  between n leaves = subst (λ (x : SaveState D). IfSome (kept_in now x) (λ list. (image : Option (List Entry)) → WasLeft since (with_journal old journal n) (moment x.journal.disk) image → (image ≡ Some list) ⊎ (image ≡ Some (list ++ more)))) same (between_here now moment images since body more next Ready old here journal n leaves)

  pub between_kept : IfSome (now old.journal.disk) (λ file. LeavesOnly moment since old.journal.disk journal.disk (Ends old body file)) → IfSome (quasis_in now k) (λ kept. (c : List ℕ) → since journal.disk (moment k.journal.disk) c → (kept_in_file k.resolved c ≡ kept) ⊎ (kept_in_file k.resolved c ≡ next kept))
  between_kept leaves = subst (λ (x : SaveState D). IfSome (quasis_in now x) (λ kept. (c : List ℕ) → since journal.disk (moment x.journal.disk) c → (kept_in_file x.resolved c ≡ kept) ⊎ (kept_in_file x.resolved c ≡ next kept))) same (between_kept_here now moment images since body more next Ready old here journal leaves)

  pub come_kept : (at : D → ℕ → List ℕ → Type 0) → ((t : ℕ) (c : List ℕ) → WasImageSince (moment journal.disk) (at journal.disk) t c → since journal.disk t c) → IfSome (now old.journal.disk) (λ file. LeavesOnly moment since old.journal.disk journal.disk (Ends old body file)) → IfSome (now old.journal.disk) (λ _. ComeFromEarlier moment at old.journal.disk journal.disk (Ends old body))
      → IfSome (quasis_in now k) (λ _. ComeFromEarlier moment at k.journal.disk journal.disk (KeepsNext k.resolved next))
  come_kept at law leaves come = subst (λ (x : SaveState D). IfSome (quasis_in now x) (λ _. ComeFromEarlier moment at x.journal.disk journal.disk (KeepsNext x.resolved next))) same (come_kept_here now moment images since body more next Ready old here journal at law leaves come)

module _ {D : Type 0} (now : D → Option (List ℕ)) (moment : D → ℕ) (images : D → List ℕ → Type 0) (at since : D → ℕ → List ℕ → Type 0) (body : List ℕ) (next : List Kept → List Kept) (Ready : List ℕ → Type 0) (old k : SaveState D) (same : old ≡ k) (journal : JournalState D) (n : ℕ) (tells : TellsMoments now moment at since journal.disk) (told : AreTold (Ends old body) (now old.journal.disk) (now journal.disk)) (leaves : IfSome (now old.journal.disk) (λ file. LeavesOnly moment since old.journal.disk journal.disk (Ends old body file))) where
  pub retained : (e : Entry) → Fits now images k body (e ∷ []) next Ready → IfSome (now old.journal.disk) (λ _. ComeFromEarlier moment at old.journal.disk journal.disk (Ends old body)) → RetainsHere now moment at k (with_journal old journal n)
  retained e f records = subst (λ (x : SaveState D). RetainsHere now moment at x (with_journal old journal n)) same (retained_here now moment images at since body e next Ready old (subst (λ (x : SaveState D). Fits now images x body (e ∷ []) next Ready) (sym same) f) journal n tells told leaves records)

  pub retained_alone : Fits now images k body [] next Ready → RetainsHere now moment at k (with_journal old journal n)
  retained_alone f = subst (λ (x : SaveState D). RetainsHere now moment at x (with_journal old journal n)) same (alone_here now moment images at since body next Ready old (subst (λ (x : SaveState D). Fits now images x body [] next Ready) (sym same) f) journal n tells told leaves)

-- ---- moments

-- the images at earlier moments are those that they were
abbrev pub HavePastHere : {D : Type 0} → (D → ℕ) → (D → ℕ → List ℕ → Type 0) → SaveState D → SaveState D → Type 0
HavePastHere moment at k new = (t : ℕ) (image : Option (List Entry)) → t ≤ moment k.journal.disk → WasLeftAt at new t image ↔ WasLeftAt at k t image

pub past : {D : Type 0} (moment : D → ℕ) (at : D → ℕ → List ℕ → Type 0) (old k : SaveState D) (same : old ≡ k) (journal : JournalState D) (n : ℕ) → HavePast moment at old.journal.disk journal.disk → HavePastHere moment at k (with_journal old journal n)
past {D} moment at old k same journal n was = subst (λ (x : SaveState D). HavePastHere moment at x (with_journal old journal n)) same (adding.past_images moment at old.journal.disk journal.disk old.resolved was)

-- where a disk gets no call
no_call : {D : Type 0} (moment : D → ℕ) (since : D → ℕ → List ℕ → Type 0) (d : D) → LeavesOnly moment since d d (λ _. Unit {0})
no_call moment since d = record { later = omega arith; each = λ c left. tt; earlier = λ t c le left. inl left; keeps = λ t c le left. left }

abbrev pub HasEarlier : {D : Type 0} → (D → Option (List ℕ)) → (D → ℕ) → (D → ℕ → List ℕ → Type 0) → SaveState D → SaveState D → Type 0
HasEarlier now moment since k new = IfSome (kept_in now k) (λ _. (t : ℕ) (image : Option (List Entry)) → t ≤ moment k.journal.disk → WasLeft since new t image ↔ (WasLeft since k t image ⊎ WasLeft since new (moment k.journal.disk) image))

pub earlier : {D : Type 0} (now : D → Option (List ℕ)) (moment : D → ℕ) (since : D → ℕ → List ℕ → Type 0) (old k : SaveState D) (same : old ≡ k) (journal : JournalState D) (n : ℕ) → ((t u : ℕ) (c : List ℕ) → t ≤ u → since journal.disk u c → since journal.disk t c) → LeavesOnly moment since old.journal.disk journal.disk (λ _. Unit {0}) → HasEarlier now moment since k (with_journal old journal n)
earlier {D} now moment since old k same journal n law time =
    subst (λ (x : SaveState D). HasEarlier now moment since x (with_journal old journal n)) same (adding.earlier moment since old.journal.disk journal.disk old.resolved (kept_in now old) law time)

pub unchanged : {D : Type 0} (now : D → Option (List ℕ)) (moment : D → ℕ) (since : D → ℕ → List ℕ → Type 0) (k : SaveState D) → ((t u : ℕ) (c : List ℕ) → t ≤ u → since k.journal.disk u c → since k.journal.disk t c) → HasEarlier now moment since k k
unchanged now moment since k law = adding.earlier moment since k.journal.disk k.journal.disk k.resolved (kept_in now k) law (no_call moment since k.journal.disk)

pub past_unchanged : {D : Type 0} (moment : D → ℕ) (at : D → ℕ → List ℕ → Type 0) (k : SaveState D) → HavePastHere moment at k k
past_unchanged moment at k = λ t image le. (λ left. left, λ left. left)

pub retained_unchanged : {D : Type 0} (now : D → Option (List ℕ)) (moment : D → ℕ) (at : D → ℕ → List ℕ → Type 0) (k : SaveState D) → RetainsHere now moment at k k
retained_unchanged now moment at k = adding.anyway (kept_in now k) _ (λ first u v from le within all image left.
    let one : v ≡ u = omega arith in
    all image (subst (λ t. WasLeftAt at k t image) one left))

-- ---- a keeper to which no square was given, though its disk got calls

with_none : (kept : Option (List Entry)) → kept ≡ with_squares kept []
with_none None = refl
with_none (Some list) = ap (λ (l : List Entry). Some l) (sym (append-nil list))

-- what is known after the call
pub record StaysBut (old new : Keeper) : Type 0 where
  pub kept : (new.kept ≡ old.kept) ⊎ (new.kept ≡ with_squares old.kept [])
  pub same_module : new.resolved ≡ old.resolved
  pub same_start : new.start ≡ old.start
  pub never_fall : old.faults ≤ new.faults
  pub later : old.moment ≤ new.moment
  pub was_live : new.live → old.live
  pub between : IfSome old.kept (λ list. (image : Option (List Entry)) → new.since old.moment image → (image ≡ Some list) ⊎ (image ≡ Some (list ++ [])))
  pub antitone : (m n : ℕ) (image : Option (List Entry)) → m ≤ n → new.since n image → new.since m image
  pub earlier : IfSome old.kept (λ list. (m : ℕ) (image : Option (List Entry)) → m ≤ old.moment → new.since m image ↔ (old.since m image ⊎ new.since old.moment image))
  pub past : (t : ℕ) (image : Option (List Entry)) → t ≤ old.moment → new.images_at t image ↔ old.images_at t image
  pub retained : IfSome old.kept (λ _. Retains old new)

pub kept_none : (m : Module) (start : List Entry) (old new : Keeper) → StaysBut old new → HasKept m start old new []
kept_none m start old new h =
    let images : IfSome old.kept (λ list. (image : Option (List Entry)) → new.since old.moment image → image ≡ Some list) = IfSome_then old.kept h.between (λ list b image s. ⊎_elim (λ e. e) (λ e. e ∙ ap (λ (l : List Entry). Some l) (append-nil list)) (b image s)) in
    let are = All-nil (λ (e : Entry). IsOf m start e.s e.above e.content) in
    let with_list : (list : List Entry) (image : Option (List Entry)) → image ≡ Some list → IsImageWith m start (list ++ []) image = λ list image e. record { more = []; at_most_one = omega arith; are_of = are; is = e ∙ ap (λ (l : List Entry). Some l) (sym (append-nil list) ∙ sym (append-nil (list ++ []))) } in
    record {
      are_of = are;
      kept = ⊎_elim (λ e. e ∙ with_none old.kept) (λ e. e) h.kept;
      same_module = h.same_module;
      same_start = h.same_start;
      never_fall = h.never_fall;
      later = h.later;
      was_live = h.was_live;
      since = IfSome_then old.kept images (λ list b image s. record { first = []; rest = []; parts = refl; with_more = with_list list image (b image s) });
      now = IfSome_then old.kept images (λ list b image s. with_list list image (b image (h.antitone old.moment new.moment image h.later s)));
      exact = λ _. IfSome_then old.kept images (λ list b image s. record { first = []; rest = []; parts = refl; is = b image s ∙ ap (λ (l : List Entry). Some l) (sym (append-nil list)) });
      earlier = h.earlier;
      past = h.past;
      retained = h.retained;
    }

-- after an append that adds no square, done or cut short
pub kept_after : {D : Type 0} (now : D → Option (List ℕ)) (moment : D → ℕ) (images : D → List ℕ → Type 0) (at since : D → ℕ → List ℕ → Type 0) (faults : D → ℕ) (old k : SaveState D) → old ≡ k → (journal : JournalState D) (n : ℕ) → TakesSquares now images k → ((t u : ℕ) (c : List ℕ) → t ≤ u → since journal.disk u c → since journal.disk t c)
    → (kept_in now (with_journal old journal n) ≡ kept_in now k) ⊎ (kept_in now (with_journal old journal n) ≡ with_squares (kept_in now k) []) → faults old.journal.disk ≤ faults journal.disk → LeavesOnly moment since old.journal.disk journal.disk (λ _. Unit {0}) → HavePast moment at old.journal.disk journal.disk
    → IfSome (kept_in now k) (λ list. (image : Option (List Entry)) → WasLeft since (with_journal old journal n) (moment k.journal.disk) image → (image ≡ Some list) ⊎ (image ≡ Some (list ++ []))) → RetainsHere now moment at k (with_journal old journal n) → (m : Module) (start : List Entry) → HasKept m start (telling_of now moment images at since faults k) (telling_of now moment images at since faults (with_journal old journal n)) []
kept_after {D} now moment images at since faults old k same journal n takes law kept fall time was between retained m start =
    let new = with_journal old journal n in
    kept_none m start (telling_of now moment images at since faults k) (telling_of now moment images at since faults new) (record {
      kept = kept;
      same_module = ap (λ (x : SaveState D). Some x.resolved) same;
      same_start = ap (λ (x : SaveState D). Some x.start) same;
      never_fall = subst (λ (x : SaveState D). faults x.journal.disk ≤ faults journal.disk) same fall;
      later = subst (λ (x : SaveState D). moment x.journal.disk ≤ moment journal.disk) same time.later;
      was_live = λ _. takes;
      between = between;
      antitone = λ i j image le left. (left.0, law i j left.0 le left.1, left.2);
      earlier = earlier now moment since old k same journal n law time;
      past = past moment at old k same journal n was;
      retained = retained;
    })

-- and where none was made
pub kept_as_before : {D : Type 0} (now : D → Option (List ℕ)) (moment : D → ℕ) (images : D → List ℕ → Type 0) (at since : D → ℕ → List ℕ → Type 0) (faults : D → ℕ) → ((d : D) (c : List ℕ) → since d (moment d) c → images d c) → ((d : D) (t u : ℕ) (c : List ℕ) → t ≤ u → since d u c → since d t c) → (k : SaveState D) → TakesSquares now images k → (m : Module) (start : List Entry)
    → HasKept m start (telling_of now moment images at since faults k) (telling_of now moment images at since faults k) []
kept_as_before now moment images at since faults only_now law k takes m start =
    HasKept-none m start (telling_of now moment images at since faults k) (record {
      images = left_is_kept now moment images since only_now k takes;
      earlier = λ i j image le left. left_earlier since law k i j image le left;
    })

-- ---- what each image keeps

durable_here : (o : Option (List ℕ)) (m : Checked) (start : List Entry) (n : ℕ) (digest : List ℕ) (end : ℕ) (images : List ℕ → Type 0) → IfSome o (λ file. IsSettled digest end file images) → IfSome o (HasSquares m start n) → IfSome (option_map (first_kept m n) o) (λ kept. (c : List ℕ) → images c → kept_in_file m c ≡ kept)
durable_here None m start n digest end images settled has = tt
durable_here (Some file) m start n digest end images settled has = λ c image. ap (kept_in_file m) (settled.only c image) ∙ adding.all_kept m start n file has

pub durable : {D : Type 0} (now : D → Option (List ℕ)) (images : D → List ℕ → Type 0) (old k : SaveState D) → old ≡ k → (journal : JournalState D) (n : ℕ) → TakesSquares now images (with_journal old journal n) → IfSome (quasis_in now (with_journal old journal n)) (λ kept. (c : List ℕ) → images journal.disk c → kept_in_file k.resolved c ≡ kept)
durable {D} now images old k same journal n takes =
    subst (λ (x : SaveState D). IfSome (quasis_in now (with_journal old journal n)) (λ kept. (c : List ℕ) → images journal.disk c → kept_in_file x.resolved c ≡ kept)) same
    (durable_here (now journal.disk) old.resolved old.start n journal.digest journal.end (images journal.disk) takes.live.settled takes.has)

-- ---- quasi-inverses of the table's squares

-- what may be kept since the call began
pub quasi_or_not : {D : Type 0} (since : D → ℕ → List ℕ → Type 0) (kept : Option (List Kept)) (d : D) (u : ℕ) (table : Staircase) (s : ℕ) (t : ℤ) (body : List ℕ) (r : IsReadAsQuasi table s t body) (value : List ℕ → List Kept) → IfSome kept (λ list. (c : List ℕ) → since d u c → (value c ≡ list) ⊎ (value c ≡ and_quasi table s t body r list)) → IfSome kept (λ list. (c : List ℕ) → since d u c → HasQuasiOrNot table s t list (value c))
quasi_or_not since kept d u table s t body r value between = IfSome_then kept between (λ list b c left. ⊎_elim (λ e. inl e) (λ e. inr (r.above, r.quasi, r.degree, r.is_quasi, e)) (b c left))

pub come_quasi : {D : Type 0} (moment : D → ℕ) (at : D → ℕ → List ℕ → Type 0) (kept : Option (List Kept)) (old new : D) (m : Checked) (table : Staircase) (s : ℕ) (t : ℤ) (body : List ℕ) (r : IsReadAsQuasi table s t body) → IfSome kept (λ _. ComeFromEarlier moment at old new (KeepsNext m (and_quasi table s t body r))) → IfSome kept (λ _. ComeFromEarlier moment at old new (λ d c. HasQuasiOrNot table s t (kept_in_file m d) (kept_in_file m c)))
come_quasi moment at kept old new m table s t body r come = IfSome_then kept come (λ _ h. come_also moment at old new (KeepsNext m (and_quasi table s t body r)) _ (λ d c. ⊎_elim (λ e. inl e) (λ e. inr (r.above, r.quasi, r.degree, r.is_quasi, e))) h)

-- where the disk gets no call
pub quasi_stays : {D : Type 0} (moment : D → ℕ) (at : D → ℕ → List ℕ → Type 0) (kept : Option (List Kept)) (d : D) (m : Checked) (table : Staircase) (s : ℕ) (t : ℤ) → IfSome kept (λ _. ComeFromEarlier moment at d d (λ b c. HasQuasiOrNot table s t (kept_in_file m b) (kept_in_file m c)))
quasi_stays moment at kept d m table s t = adding.anyway kept _ (come_started moment at d (λ b c. HasQuasiOrNot table s t (kept_in_file m b) (kept_in_file m c)) (λ c. inl refl))

-- a matrix has one reduction
reduction_once : (n : ℕ) (rows : List (List Bool)) (r r' : Reduction) → IsReductionOf n rows r → IsReductionOf n rows r' → r ≡ r'
reduction_once n rows r r' is is' =
    let form : is.form ≡ is'.form = echelon_form_unique (n + length rows) (augmented rows) is.form is'.form is.is_form is'.is_form in
    let made = λ (w v : ℕ) (i c k : List (List Bool)). let x : Reduction = record { cols = w; height = v; image = i; chosen = c; kernel = k } in x in
    ap (λ w. made w r.height r.image r.chosen r.kernel) (is.cols ∙ sym is'.cols)
    ∙ ap (λ v. made r'.cols v r.image r.chosen r.kernel) (is.height ∙ sym is'.height)
    ∙ ap (λ i. made r'.cols r'.height i r.chosen r.kernel) (is.image ∙ ap (image_part n) form ∙ sym is'.image)
    ∙ ap (λ c. made r'.cols r'.height r'.image c r.kernel) (is.chosen ∙ ap (chosen_part n) form ∙ sym is'.chosen)
    ∙ ap (made r'.cols r'.height r'.image r'.chosen) (is.kernel ∙ ap (kernel_part n) form ∙ sym is'.kernel)

pub quasi_once : (table : Staircase) (s : ℕ) (t : ℤ) (r r' : Reduction) → IsQuasiAt table s t r → IsQuasiAt table s t r' → r ≡ r'
quasi_once table s t r r' is is' =
    let m = over table.resolved in
    let d = is.degree in
    let d' = is'.degree in
    let k = is'.above in
    let at : is.above ≡ k = omega (arith, ints) in
    let P : ℕ → Type 0 = λ n. IsQuasi m (below_of (plain_rows table.rows) s n) (take n (row_of (plain_rows table.rows) s)) (content_at table.rows s n) r in
    reduction_once (target_width m (below_of (plain_rows table.rows) s k) (take k (row_of (plain_rows table.rows) s))) (square_matrix m (below_of (plain_rows table.rows) s k) (take k (row_of (plain_rows table.rows) s)) (content_at table.rows s k)) r r' (subst P at is.quasi) is'.quasi

-- so it does not matter which is named
pub quasi_named : (table : Staircase) (s : ℕ) (t : ℤ) (body : List ℕ) (r : IsReadAsQuasi table s t body) (kept new : Option (List Kept)) → new ≡ option_map (and_quasi table s t body r) kept → (k : ℕ) (quasi : Reduction) → t ≡ bottom_of table.resolved +ℤ pos k → IsQuasiAt table s t quasi → new ≡ option_map (λ l. with_quasi_at l s k quasi) kept
quasi_named table s t body r kept new put k quasi degree is =
    let d = r.degree in
    let at : r.above ≡ k = omega (arith, ints) in
    let made = λ (n : ℕ) (x : Reduction). option_map (λ l. with_quasi_at l s n x) kept in
    put ∙ ap (λ n. made n r.quasi) at ∙ ap (made k) (quasi_once table s t r.quasi quasi r.is_quasi is)
