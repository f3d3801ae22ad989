-- How a save file and its table fare when they get quasi-inverses.
use Rattle.std.proofs.Common.{◌≡◌, ◌≢◌, ℕ, zero, suc, ◌<◌, ◌≤◌, ◌⊎◌, inl, inr, ℤ, pos, ◌+ℤ◌, List, [], ◌∷◌, length, take, Option, Some, None, Result, ap, sym, subst, ◌∙◌, refl, arith, append-nil}
use Rattle.std.specs.Prelude.{Ok, Err, OnOk, IfSome, IsSome, slice_get}
use Rattle.std.specs.Option.{option_map, option_and_then}
use Rattle.std.proofs.lemmas.Bool.Decides.{eqb_tells}
use Rattle.std.proofs.lemmas.Int.{ints}
use Rattle.std.proofs.lemmas.Option.{same_Some}
use Rattle.std.proofs.lemmas.List.Elements.{All-nil, All-cons}
use Rattle.std.proofs.lemmas.List.Kept.{AllPairs-cons}
use Rattle.edge.specs.Disk.{HavePast}
use Rattle.edge.specs.Faults.{HasRisen}
use Rattle.f2_matrix.specs.Reduction.{Reduction}
use Rattle.finite_module.specs.Checked.{Checked}
use Rattle.finite_module.specs.Graded.{ModulesAreSteenrodModules}
use Rattle.resolution_laws.specs.Resolution.{Content, square_in, row_of, below_of}
use Rattle.resolution_laws.specs.Exactness.{CanonicalTableIsMinimalResolution}
use Rattle.resolution_laws.specs.Start.{Entry, IsCanonicalStart}
use Rattle.resolution_step.proofs.Orders.{AllPairs-nil}
use Rattle.square.specs.declared.keep.KeepFault.{KeepFault}
use Rattle.square.specs.declared.keep.KeepFault.TheVariants.{Failed, Memory}
use Rattle.square.specs.Squares.{Placed, IsQuasi, over, bottom_of}
use Rattle.square.specs.Tables.{Staircase, contents, row_in, plain_rows, content_at, square_at, with_quasi, AllRead, IsTable, IsQuasiAt, LacksQuasi}
use Rattle.square.specs.Keeping.{Keeper, HoldsTable, IsKeeperOf, HasKept, with_squares}
use Rattle.square.proofs.ByDegree.{square_at-above, square_is_there}
use Rattle.square.proofs.Places.{row_of-plain, length-row_of, slice_get-there, content_at-is}
use Rattle.square.proofs.Reducing.{IsTable-quasi, length-in_rows}
use Rattle.save_journal.specs.Journals.{ComeFromEarlier}
use Rattle.save_file.specs.Bodies.{Kept, with_quasi_at}
use Rattle.save_file.specs.Files.{first_kept}
use Rattle.save_file.specs.Saved.{kept_of_table, quasi_kept}
use Rattle.save_file.specs.Saving.{SaveState, TakesSquares, kept_in, quasis_in, IsKeptBare, HasQuasiOrNot, telling_of}
use Rattle.save_file.proofs.Entries.{kept_there}
use Rattle.save_file.proofs.Keeping.{quasi_once}
use Rattle.save_file.proofs.Pushing.{quasi_given, quasi_stays, kept_given, AllRead-given}
use Rattle.ext_run.specs.Devices.{Store}
use Rattle.ext_run.specs.Saving.{kept_of}
use Rattle.ext_run.specs.Migrating.{Added, IsAddedBefore, KeepsOn}
use Rattle.ext_run.specs.Inside.Adding.{IsFileOf, IsLeftOut, HasAdded, HasFilled}
use Rattle.ext_run.proofs.ExactAt.{exact_at}
use Rattle.ext_run.proofs.Lasting.{at_some, AreDisks}
use Rattle.ext_run.proofs.Filling.{neither_given, kernel_at, none_added, weaker_added, weaker_given, then_added, then_given}
use Rattle.ext_run.proofs.Giving.{amid_one, part_one, amid_none, come_here}

abbrev Done : Result (Unit {0}) KeepFault
Done = Ok tt

-- the squares of tables with the same contents are as many
rows_as_many : (p q : List (List Placed)) (s : ℕ) → plain_rows p ≡ plain_rows q → length (row_in p s) ≡ length (row_in q s)
rows_as_many p q s same = sym (length-row_of p s) ∙ ap (λ (rows : List (List Content)). length (row_of rows s)) same ∙ length-row_of q s

content_of_row : (row : List Placed) (j : ℕ) → slice_get (contents row) j ≡ option_map (λ (q : Placed). q.content) (slice_get row j)
content_of_row [] j = refl
content_of_row (q ∷ row) zero = refl
content_of_row (q ∷ row) (suc j) = content_of_row row j

content_slice : (rows : List (List Placed)) (i j : ℕ) → slice_get (row_of (plain_rows rows) i) j ≡ option_map (λ (q : Placed). q.content) (slice_get (row_in rows i) j)
content_slice rows i j = ap (λ (x : List Content). slice_get x j) (row_of-plain rows i) ∙ content_of_row (row_in rows i) j

with_nothing : (o : Option (List Entry)) → with_squares o [] ≡ o
with_nothing None = refl
with_nothing (Some x) = ap (λ (y : List Entry). Some y) (append-nil x)

same_map : (o : Option (List Kept)) → o ≡ option_map (λ (x : List Kept). x) o
same_map None = refl
same_map (Some x) = refl

module _ {D : Type 0} (store : Store D) (laws : AreDisks store) where
  -- ---- nothing was given

  module _ (at : ℕ → ℕ → Type 0) (table : Staircase) (k : SaveState D) (file : IsFileOf store table k) where
    pub filled_same : (IsCanonicalStart (over table.resolved) table.start → (i j : ℕ) → at i j → j < length (row_in table.rows i) → IsSome (quasi_kept table.rows i j)) → HasFilled store at Done table table k k
    filled_same whole = record {
      added = none_added store laws at k file.live;
      resolved = refl;
      start = refl;
      contents = refl;
      stays = λ i j h. h;
      is_file = file;
      no_fault = refl;
      whole = whole;
      idle = λ worked none. refl;
      failed = λ h. absurd (cc);
      memory = λ h. absurd (cc);
    }

    -- for want of memory
    pub filled_not : HasFilled {T = Unit {0}} store at (Err Memory) table table k k
    filled_not = record {
      added = none_added store laws at k file.live;
      resolved = refl;
      start = refl;
      contents = refl;
      stays = λ i j h. h;
      is_file = tt;
      no_fault = tt;
      whole = tt;
      idle = λ worked none. refl;
      failed = λ h. absurd (cc);
      memory = λ h. (file.live, refl);
    }

  -- ---- squares that are left out

  -- a square of the canonical resolution has its quasi-inverse, or lacks one with its kernel rows
  reduced_already : CanonicalTableIsMinimalResolution → ModulesAreSteenrodModules → (table : Staircase) → IsTable table → (s k : ℕ) (t : ℤ) → t ≡ bottom_of table.resolved +ℤ pos k → IfSome (square_at table s t) (IsLeftOut table s t) → IsCanonicalStart (over table.resolved) table.start → k < length (row_in table.rows s) → IsSome (quasi_kept table.rows s k)
  reduced_already minimal modules table is_table s k t degree left reads l =
      let there = slice_get-there (row_in table.rows s) k l in
      let q = there.0 in
      let at : square_at table s t ≡ Some q = square_at-above table s k t degree ∙ there.1 in
      let here : quasi_kept table.rows s k ≡ q.quasi = ap (option_and_then (λ (x : Placed). x.quasi)) there.1 in
      elim (at_some (square_at table s t) (IsLeftOut table s t) q at left) [
        | inl some ↦ subst (λ (x : Option Reduction). IsSome x) (sym here) some
        | inr (inr inexact) ↦ absurd (exact_at minimal modules table is_table reads s k l t degree inexact)
        | inr (inl other) ↦
            let is = other.1 in
            let d = is.degree in
            let place : is.above ≡ k = omega (arith, ints, d, degree) in
            let quasi = subst (λ (n : ℕ). IsQuasi (over table.resolved) (below_of (plain_rows table.rows) s n) (take n (row_of (plain_rows table.rows) s)) (content_at table.rows s n) other.0) place is.quasi in
            absurd (other.2 (kernel_at table is_table reads s k l other.0 quasi ∙ ap (λ (c : Content). c.kernel) (content_at-is table.rows s k q there.1)))
      ]

  -- so that it may be left as it is
  pub filled_left : CanonicalTableIsMinimalResolution → ModulesAreSteenrodModules → (table : Staircase) (k' : SaveState D) → IsFileOf store table k' → (s k : ℕ) (t : ℤ) → t ≡ bottom_of table.resolved +ℤ pos k → IfSome (square_at table s t) (IsLeftOut table s t) → HasFilled store (λ i j. (i ≡ s) × (j ≡ k)) Done table table k' k'
  filled_left minimal modules table k' file s k t degree left = filled_same (λ i j. (i ≡ s) × (j ≡ k)) table k' file (λ reads i j at l.
      let row : j < length (row_in table.rows s) = subst (λ (n : ℕ). j < length (row_in table.rows n)) at.0 l in
      let here = reduced_already minimal modules table file.is_table s k t degree left reads (subst (λ (n : ℕ). n < length (row_in table.rows s)) at.1 row) in
      subst (λ (n : ℕ). IsSome (quasi_kept table.rows n j)) (sym at.0) (subst (λ (n : ℕ). IsSome (quasi_kept table.rows s n)) (sym at.1) here))

  -- ---- one after the other

  module _ (at then both : ℕ → ℕ → Type 0) (first : (i j : ℕ) → at i j → both i j) (second : (i j : ℕ) → then i j → both i j) (apart : (i j k l : ℕ) → at i j → then k l → (i < k) ⊎ ((i ≡ k) × (j < l))) (x y z : Staircase) (a b c : SaveState D) where
    pub filled_then : (result : Result (Unit {0}) KeepFault) → (result ≡ Done → (i j : ℕ) → both i j → j < length (row_in z.rows i) → at i j ⊎ then i j) → HasFilled store at Done x y a b → HasFilled store then result y z b c → HasFilled store both result x z a c
    filled_then result split p q = record {
      added = then_added store laws at then both first second apart a b c p.is_file.live p.added q.added;
      resolved = q.resolved ∙ p.resolved;
      start = q.start ∙ p.start;
      contents = q.contents ∙ p.contents;
      stays = λ i j h. q.stays i j (p.stays i j h);
      is_file = q.is_file;
      no_fault = fault_both result q.no_fault;
      whole = whole_both result refl q.whole;
      idle = λ worked none. let parts = neither_given p.added.given q.added.given (sym (then_given store laws at then both first second apart a b c p.is_file.live p.added q.added) ∙ none) in q.idle worked parts.1 ∙ p.idle (λ h. cc) parts.0;
      failed = λ h. let risen = q.failed h in subst (λ (n : ℕ). HasRisen n (store.faults c.journal.disk)) p.no_fault risen;
      memory = λ h. let m = q.memory h in (m.0, m.1 ∙ p.no_fault);
    }
      where
        fault_both : (r : Result (Unit {0}) KeepFault) → OnOk r (store.faults c.journal.disk ≡ store.faults b.journal.disk) → OnOk r (store.faults c.journal.disk ≡ store.faults a.journal.disk)
        fault_both (Ok u) same = same ∙ p.no_fault
        fault_both (Err e) same = tt

        whole_both : (r : Result (Unit {0}) KeepFault) → result ≡ r → OnOk r (IsCanonicalStart (over y.resolved) y.start → (i j : ℕ) → then i j → j < length (row_in z.rows i) → IsSome (quasi_kept z.rows i j)) → OnOk r (IsCanonicalStart (over x.resolved) x.start → (i j : ℕ) → both i j → j < length (row_in z.rows i) → IsSome (quasi_kept z.rows i j))
        whole_both (Err e) is all = tt
        whole_both (Ok u) is all = λ reads i j here l. elim (split is i j here l) [
          | inl before ↦ q.stays i j (p.whole reads i j before (subst (λ (n : ℕ). j < n) (rows_as_many z.rows y.rows i q.contents) l))
          | inr behind ↦ all (subst (λ (m : Checked). IsCanonicalStart (over m) y.start) (sym p.resolved) (subst (IsCanonicalStart (over x.resolved)) (sym p.start) reads)) i j behind l
        ]

  -- it went well, and that is all that is answered
  pub filled_ok : (at : ℕ → ℕ → Type 0) (x y : Staircase) (a b : SaveState D) (result : Result (Unit {0}) KeepFault) (done : Unit {0}) → result ≡ Ok done → HasFilled store at result x y a b → HasFilled store at Done x y a b
  filled_ok at x y a b result done is h = subst (λ (r : Result (Unit {0}) KeepFault). HasFilled store at r x y a b) is h

  pub filled_wider : (at more : ℕ → ℕ → Type 0) → ((i j : ℕ) → at i j → more i j) → (x y : Staircase) (a b : SaveState D) → ((i j : ℕ) → more i j → j < length (row_in y.rows i) → at i j) → HasFilled store at Done x y a b → HasFilled store more Done x y a b
  filled_wider at more wide x y a b narrow h = record {
    added = weaker_added store laws at more wide a b h.added;
    resolved = h.resolved;
    start = h.start;
    contents = h.contents;
    stays = h.stays;
    is_file = h.is_file;
    no_fault = h.no_fault;
    whole = λ reads i j here l. h.whole reads i j (narrow i j here l) l;
    idle = λ worked none. h.idle worked (sym (weaker_given store laws at more wide a b h.added) ∙ none);
    failed = λ f. absurd (cc);
    memory = λ f. absurd (cc);
  }

  -- ---- one square

  module _ (table after : Staircase) (s k : ℕ) (t : ℤ) (r : Reduction) (degree : t ≡ bottom_of table.resolved +ℤ pos k) (is_quasi : IsQuasiAt table s t r) (l : k < length (row_in table.rows s)) (rows : after.rows ≡ with_quasi table.rows s k r) (contents : plain_rows after.rows ≡ plain_rows table.rows) (same : after ≡ record table { rows = after.rows }) where
    stays_one : (i j : ℕ) → IsSome (quasi_kept table.rows i j) → IsSome (quasi_kept after.rows i j)
    stays_one i j h = elim (eqb_tells i s) [
      | inl row ↦ elim (eqb_tells j k) [
        | inl place ↦ subst (λ (x : Option Reduction). IsSome x) (sym (here row.1 place.1)) refl
        | inr other ↦ subst (λ (x : Option Reduction). IsSome x) (sym (there (λ e f. other.1 f))) h
      ]
      | inr other ↦ subst (λ (x : Option Reduction). IsSome x) (sym (there (λ e f. other.1 e))) h
    ]
      where
        here : i ≡ s → j ≡ k → quasi_kept after.rows i j ≡ Some r
        here e f = ap (λ (x : List (List Placed)). quasi_kept x i j) rows ∙ (ap (λ (n : ℕ). quasi_kept (with_quasi table.rows s k r) n j) e ∙ (ap (quasi_kept (with_quasi table.rows s k r) s) f ∙ quasi_given table.rows s k r l))

        there : (i ≡ s → j ≡ k → ⊥) → quasi_kept after.rows i j ≡ quasi_kept table.rows i j
        there off = ap (λ (x : List (List Placed)). quasi_kept x i j) rows ∙ quasi_stays table.rows s k i j r off

    given_at : quasi_kept after.rows s k ≡ Some r
    given_at = ap (λ (x : List (List Placed)). quasi_kept x s k) rows ∙ quasi_given table.rows s k r l

    resolved_same : after.resolved ≡ table.resolved
    resolved_same = ap (λ (x : Staircase). x.resolved) same

    start_same : after.start ≡ table.start
    start_same = ap (λ (x : Staircase). x.start) same

    table_after : IsTable table → IsTable after
    table_after is = subst IsTable (sym same) (IsTable-quasi table.resolved table.start table.rows after.rows s k table.spare table.spare r rows is)

    -- the file has the same squares as the table after it
    pub keeper_after : (k' : SaveState D) → IsKeeperOf (telling_of store.now store.moment store.images store.images_at store.since store.faults k') table → IsKeeperOf (telling_of store.now store.moment store.images store.images_at store.since store.faults k') after
    keeper_after k' h = record {
      holds = holds_after (kept_in store.now k') h.holds;
      resolved = resolved_same ∙ h.resolved;
      start = start_same ∙ h.start;
    }
      where
        content_same : (i j : ℕ) → option_map (λ (q : Placed). q.content) (slice_get (row_in table.rows i) j) ≡ option_map (λ (q : Placed). q.content) (slice_get (row_in after.rows i) j)
        content_same i j = sym (content_slice table.rows i j) ∙ ap (λ (x : List (List Content)). slice_get (row_of x i) j) (sym contents) ∙ content_slice after.rows i j

        holds_after : (o : Option (List Entry)) → IfSome o (λ list. HoldsTable list table.rows) → IfSome o (λ list. HoldsTable list after.rows)
        holds_after None h = tt
        holds_after (Some list) h = λ i j. h i j ∙ content_same i j

    -- ---- what the call asks for

    degree_after : t ≡ bottom_of after.resolved +ℤ pos k
    degree_after = degree ∙ ap (λ (m : Checked). bottom_of m +ℤ pos k) (sym resolved_same)

    pub there_after : IsSome (square_at after s t)
    there_after =
        let len = length-in_rows table.rows s k s r in
        let as_many : length (row_in after.rows s) ≡ length (row_in (with_quasi table.rows s k r) s) = ap (λ (x : List (List Placed)). length (row_in x s)) rows in
        square_is_there after s k t degree_after (omega (arith, l, len, as_many))

    -- the matrix is that of the squares' contents, which are what they were
    quasi_before : (x : Reduction) → IsQuasiAt after s t x → IsQuasiAt table s t x
    quasi_before x h =
        let P : List (List Content) → Type 0 = λ plain. IsQuasi (over after.resolved) (below_of plain s h.above) (take h.above (row_of plain s)) (square_in (row_of plain s) h.above) x in
        let Q : Checked → Type 0 = λ m. IsQuasi (over m) (below_of (plain_rows table.rows) s h.above) (take h.above (row_of (plain_rows table.rows) s)) (content_at table.rows s h.above) x in
        record { above = h.above; degree = h.degree ∙ ap (λ (m : Checked). bottom_of m +ℤ pos h.above) resolved_same; quasi = subst Q resolved_same (subst P contents h.quasi) }

    -- it is the square's in the table after it too
    quasi_after : IsQuasiAt after s t r
    quasi_after =
        let h = is_quasi in
        let P : List (List Content) → Type 0 = λ plain. IsQuasi (over table.resolved) (below_of plain s h.above) (take h.above (row_of plain s)) (square_in (row_of plain s) h.above) r in
        let Q : Checked → Type 0 = λ m. IsQuasi (over m) (below_of (plain_rows after.rows) s h.above) (take h.above (row_of (plain_rows after.rows) s)) (content_at after.rows s h.above) r in
        record { above = h.above; degree = h.degree ∙ ap (λ (m : Checked). bottom_of m +ℤ pos h.above) (sym resolved_same); quasi = subst Q (sym resolved_same) (subst P (sym contents) h.quasi) }

    pub kernel_after : LacksQuasi table s t r → (x : Reduction) → IsQuasiAt after s t x → IfSome (square_at after s t) (λ q. x.kernel ≡ q.content.kernel)
    kernel_after lacks x h =
        let one : x ≡ r = quasi_once table s t x r (quasi_before x h) is_quasi in
        let before : slice_get (row_in table.rows s) k ≡ Some lacks.square = sym (square_at-above table s k t degree) ∙ lacks.there in
        let now : option_map (λ (q : Placed). q.content) (square_at after s t) ≡ Some lacks.square.content =
        ap (option_map (λ (q : Placed). q.content)) (square_at-above after s k t degree_after) ∙ (sym (content_slice after.rows s k) ∙ (ap (λ (z : List (List Content)). slice_get (row_of z s) k) contents ∙ (content_slice table.rows s k ∙ ap (option_map (λ (q : Placed). q.content)) before))) in
        by_square (square_at after s t) now (ap (λ (y : Reduction). y.kernel) one ∙ lacks.kernel)
      where
        by_square : (o : Option Placed) → option_map (λ (q : Placed). q.content) o ≡ Some lacks.square.content → x.kernel ≡ lacks.square.content.kernel → IfSome o (λ q. x.kernel ≡ q.content.kernel)
        by_square None is same = absurd (cc)
        by_square (Some q) is same = same ∙ ap (λ (c : Content). c.kernel) (sym (same_Some q.content lacks.square.content is))

    -- the file has the square without a quasi-inverse
    pub bare_before : IsTable table → AllRead table.rows → LacksQuasi table s t r → (kept : Option (List Kept)) → IfSome kept (λ x. x ≡ kept_of_table table) → IfSome kept (λ x. IsKeptBare x s k)
    bare_before is read lacks None h = tt
    bare_before is read lacks (Some x) h =
        let before : slice_get (row_in table.rows s) k ≡ Some lacks.square = sym (square_at-above table s k t degree) ∙ lacks.there in
        let here : IsKeptBare (kept_of_table table) s k = record { square = record { entry = record { s = s; above = k; content = lacks.square.content }; quasi = lacks.square.quasi }; there = kept_there table is read s k lacks.square before; bare = lacks.bare } in
        subst (λ (y : List Kept). IsKeptBare y s k) (sym h) here

    -- at whatever place its degree says
    pub bare_there : (kept : Option (List Kept)) → IfSome kept (λ x. IsKeptBare x s k) → IfSome kept (λ x. (j : ℕ) → t ≡ bottom_of after.resolved +ℤ pos j → IsKeptBare x s j)
    bare_there None h = tt
    bare_there (Some x) h = λ j at. let d = degree_after in let place : k ≡ j = omega (arith, ints, at, d) in subst (IsKeptBare x s) place h

    -- what keep_quasi says, put together
    module _ (old new : SaveState D) (file : IsFileOf store table old) (result : Result (Unit {0}) KeepFault) where
      abbrev Tell : SaveState D → Keeper
      Tell k' = telling_of store.now store.moment store.images store.images_at store.since store.faults k'

      abbrev At : ℕ → ℕ → Type 0
      At i j = (i ≡ s) × (j ≡ k)

      module _ (kept : HasKept (over old.resolved) old.start (Tell old) (Tell new) []) (bare : IfSome (quasis_in store.now old) (λ x. IsKeptBare x s k)) (between : IfSome (quasis_in store.now old) (λ x. (c : List ℕ) → store.since new.journal.disk (store.moment old.journal.disk) c → HasQuasiOrNot after s t x (kept_of old.resolved.plain c)))
          (past : HavePast store.moment store.images_at old.journal.disk new.journal.disk) (come : IfSome (quasis_in store.now old) (λ _. ComeFromEarlier store.moment store.images_at old.journal.disk new.journal.disk (λ d c. HasQuasiOrNot after s t (kept_of old.resolved.plain d) (kept_of old.resolved.plain c))))
          (never_fall : store.faults old.journal.disk ≤ store.faults new.journal.disk) where
        -- where both are told
        of_kept : (o : Option (List Kept)) (P : List Kept → Type 0) → ((x : List Kept) → IsKeptBare x s k → ((c : List ℕ) → store.since new.journal.disk (store.moment old.journal.disk) c → HasQuasiOrNot after s t x (kept_of old.resolved.plain c)) → P x) → IfSome o (λ x. IsKeptBare x s k)
            → IfSome o (λ x. (c : List ℕ) → store.since new.journal.disk (store.moment old.journal.disk) c → HasQuasiOrNot after s t x (kept_of old.resolved.plain c)) → IfSome o P
        of_kept None P f b h = tt
        of_kept (Some x) P f b h = f x b h

        come_told : (o : Option (List ℕ)) → IfSome (option_map (first_kept old.resolved old.count) o) (λ x. IsKeptBare x s k) → IfSome (option_map (first_kept old.resolved old.count) o) (λ x. (c : List ℕ) → store.since new.journal.disk (store.moment old.journal.disk) c → HasQuasiOrNot after s t x (kept_of old.resolved.plain c))
            → IfSome (option_map (first_kept old.resolved old.count) o) (λ _. ComeFromEarlier store.moment store.images_at old.journal.disk new.journal.disk (λ d c. HasQuasiOrNot after s t (kept_of old.resolved.plain d) (kept_of old.resolved.plain c))) → IfSome o (λ _. ComeFromEarlier store.moment store.images_at old.journal.disk new.journal.disk (KeepsOn old.resolved.plain))
        come_told None b h c = tt
        come_told (Some f) b h c = come_here store laws after s k t r degree_after quasi_after old new past kept.later (first_kept old.resolved old.count f) b h c

        abbrev one : Added
        one = record { s = s; above = k; reduction = r }

        same_kept : kept_in store.now new ≡ kept_in store.now old
        same_kept = kept.kept ∙ with_nothing (kept_in store.now old)

        same_module : new.resolved ≡ old.resolved
        same_module = let both : Some new.resolved ≡ Some old.resolved = kept.same_module in cc

        same_start : new.start ≡ old.start
        same_start = let both : Some new.start ≡ Some old.start = kept.same_start in cc

        -- the file has the squares of the table still
        keeper_new : IsKeeperOf (Tell new) table
        keeper_new = record {
          holds = subst (λ (o : Option (List Entry)). IfSome o (λ list. HoldsTable list table.rows)) (sym same_kept) file.of_table.holds;
          resolved = file.of_table.resolved ∙ sym same_module;
          start = file.of_table.start ∙ sym same_start;
        }

        -- it was given
        added_one : quasis_in store.now new ≡ option_map (λ x. with_quasi_at x s k r) (quasis_in store.now old) → HasAdded store At old new
        added_one put = record {
          given = one ∷ [];
          places = All-cons (λ q. At q.s q.above) one [] (refl, refl) (All-nil (λ q. At q.s q.above));
          ordered = AllPairs-cons IsAddedBefore one [] (All-nil (IsAddedBefore one)) (AllPairs-nil IsAddedBefore);
          same_module = same_module;
          same_start = same_start;
          squares = same_kept;
          quasis = put;
          never_falls = never_fall;
          later = kept.later;
          moments = of_kept (quasis_in store.now old) _ (λ x b h. amid_one store laws after s k t r degree_after quasi_after old new past kept.later x b h) bare between;
          exact = λ live. of_kept (quasis_in store.now old) _ (λ x b h. part_one store laws after s k t r degree_after quasi_after old new past kept.later x b h) bare between;
          past = past;
          retained = come_told (store.now old.journal.disk) bare between come;
        }

        given_added : (put : quasis_in store.now new ≡ option_map (λ x. with_quasi_at x s k r) (quasis_in store.now old)) → (added_one put).given ≡ one ∷ []
        unfolding added_one
        given_added put = refl

        -- it was not, and the file takes no more
        added_none : quasis_in store.now new ≡ quasis_in store.now old → (TakesSquares store.now store.images new → ⊥) → HasAdded store At old new
        added_none unput dead = record {
          given = [];
          places = All-nil (λ q. At q.s q.above);
          ordered = AllPairs-nil IsAddedBefore;
          same_module = same_module;
          same_start = same_start;
          squares = same_kept;
          quasis = unput ∙ same_map (quasis_in store.now old);
          never_falls = never_fall;
          later = kept.later;
          moments = of_kept (quasis_in store.now old) _ (λ x b h. amid_none store laws after s k t r degree_after quasi_after old new past kept.later x b h) bare between;
          exact = λ live. absurd (dead live);
          past = past;
          retained = come_told (store.now old.journal.disk) bare between come;
        }

        pub filled_given : OnOk result (TakesSquares store.now store.images new) → OnOk result (store.faults new.journal.disk ≡ store.faults old.journal.disk)
            → OnOk result ((j : ℕ) (x : Reduction) → t ≡ bottom_of after.resolved +ℤ pos j → IsQuasiAt after s t x → quasis_in store.now new ≡ option_map (λ l. with_quasi_at l s j x) (quasis_in store.now old))
            → (result ≡ Err Failed → HasRisen (store.faults old.journal.disk) (store.faults new.journal.disk)) → (result ≡ Err Failed → TakesSquares store.now store.images new → ⊥) → (result ≡ Err Failed → quasis_in store.now new ≡ quasis_in store.now old) → (result ≡ Err Memory → new ≡ old)
            → HasFilled store At result table after old new
        filled_given live no_fault put failed dead unput memory = by_result result refl live no_fault put
          where
            added_by : (e : KeepFault) → result ≡ Err e → HasAdded store At old new
            added_by Failed is = added_none (unput is) (dead is)
            added_by Memory is = subst (HasAdded store At old) (sym (memory is)) (none_added store laws At old file.live)

            idle_by : (e : KeepFault) → result ≡ Err e → ◌≢◌ {A = Result (Unit {0}) KeepFault} (Err e) (Err Failed) → new ≡ old
            idle_by Failed is worked = absurd (worked refl)
            idle_by Memory is worked = memory is

            quasis_after : IfSome (quasis_in store.now old) (λ x. x ≡ kept_of_table table) → quasis_in store.now new ≡ option_map (λ x. with_quasi_at x s k r) (quasis_in store.now old) → IfSome (quasis_in store.now new) (λ x. x ≡ kept_of_table after)
            quasis_after = by_kept (quasis_in store.now old) (quasis_in store.now new)
              where
                by_kept : (o o' : Option (List Kept)) → IfSome o (λ x. x ≡ kept_of_table table) → o' ≡ option_map (λ x. with_quasi_at x s k r) o → IfSome o' (λ x. x ≡ kept_of_table after)
                by_kept None o' h is = subst (λ (y : Option (List Kept)). IfSome y (λ x. x ≡ kept_of_table after)) (sym is) tt
                by_kept (Some x) o' h is = subst (λ (y : Option (List Kept)). IfSome y (λ x. x ≡ kept_of_table after)) (sym is) (ap (λ (y : List Kept). with_quasi_at y s k r) h ∙ sym (kept_given table after s k r l rows start_same))

            by_result : (u : Result (Unit {0}) KeepFault) → result ≡ u → OnOk u (TakesSquares store.now store.images new) → OnOk u (store.faults new.journal.disk ≡ store.faults old.journal.disk) → OnOk u ((j : ℕ) (x : Reduction) → t ≡ bottom_of after.resolved +ℤ pos j → IsQuasiAt after s t x → quasis_in store.now new ≡ option_map (λ l. with_quasi_at l s j x) (quasis_in store.now old)) → HasFilled store At u table after old new
            by_result (Ok u) is live no_fault put =
                let quasis = put k r degree_after quasi_after in
                record {
                  added = added_one quasis;
                  resolved = resolved_same;
                  start = start_same;
                  contents = contents;
                  stays = stays_one;
                  is_file = record { live = live; of_table = keeper_after new keeper_new; quasis = quasis_after file.quasis quasis; is_table = table_after file.is_table; all_read = AllRead-given table.rows after.rows s k r rows file.all_read };
                  no_fault = no_fault;
                  whole = λ reads i j here within. subst (λ (n : ℕ). IsSome (quasi_kept after.rows n j)) (sym here.0) (subst (λ (n : ℕ). IsSome (quasi_kept after.rows s n)) (sym here.1) (subst (λ (x : Option Reduction). IsSome x) (sym given_at) refl));
                  idle = λ worked none. let some : one ∷ [] ≡ [] = sym (given_added quasis) ∙ none in absurd (cc);
                  failed = λ h. absurd (cc);
                  memory = λ h. absurd (cc);
                }
            by_result (Err e) is live no_fault put = record {
              added = added_by e is;
              resolved = resolved_same;
              start = start_same;
              contents = contents;
              stays = stays_one;
              is_file = tt;
              no_fault = tt;
              whole = tt;
              idle = λ worked none. idle_by e is worked;
              failed = λ h. failed (is ∙ h);
              memory = λ h. let same = memory (is ∙ h) in (subst (TakesSquares store.now store.images) (sym same) file.live, ap (λ (x : SaveState D). store.faults x.journal.disk) same);
            }
