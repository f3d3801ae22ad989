-- The keeper of a run, and the save file under it.
use Rattle.std.proofs.Common.{◌≡◌, ℕ, zero, suc, ◌≤◌, ◌⊎◌, inl, inr, List, [], ◌∷◌, ◌++◌, Bool, true, false, Option, Some, None, ap, sym, subst, refl, arith}
use Rattle.std.proofs.lemmas.Option.{none-some}
use Rattle.std.specs.Prelude.{Result, Ok, Err, OnOk, IfSome, ◌↔◌, if◌then◌else◌}
use Rattle.std.specs.Option.{option_map}
use Rattle.f2_matrix.specs.Reduction.{Reduction}
use Rattle.resolution_laws.specs.Resolution.{Module}
use Rattle.resolution_laws.specs.Start.{Entry}
use Rattle.square.specs.Squares.{Placed}
use Rattle.square.specs.Tables.{Staircase}
use Rattle.square.specs.Keeping.{Keeper, IsImageBetween, Retains, IsKeeperOf, HasKept}
use Rattle.save_file.specs.Bodies.{Kept, is_at, kept_at}
use Rattle.save_file.specs.Saved.{kept_of_table}
use Rattle.save_file.specs.Saving.{SaveState, TakesSquares, kept_in, quasis_in, WasLeftAt, WasLeft, telling_of}
use Rattle.run_file.specs.RunFile.{HasQuasi, KeepsQuasis, RunState, TakesMore, told_quasi, TellsQuasi, TellsAt, TellsSince, telling_run}

-- ---- quasi-inverses

-- what stands behind a list takes none away
found_before : (kept more : List Kept) (s k : ℕ) (square : Kept) → kept_at kept s k ≡ Some square → kept_at (kept ++ more) s k ≡ Some square
found_before [] more s k square is = absurd (none-some square is)
found_before (x ∷ kept) more s k square is = by_test (found_before kept more s k square) (is_at x.entry s k) is
  where
    by_test : (kept_at kept s k ≡ Some square → kept_at (kept ++ more) s k ≡ Some square) → (b : Bool) → (if b then Some x else kept_at kept s k) ≡ Some square → (if b then Some x else kept_at (kept ++ more) s k) ≡ Some square
    by_test behind true here = here
    by_test behind false there = behind there

still_has : (kept more : List Kept) (s k : ℕ) (r : Reduction) → HasQuasi kept s k r → HasQuasi (kept ++ more) s k r
still_has kept more s k r has = record { square = has.square; there = found_before kept more s k has.square has.there; is = has.is }

-- the places and the reduction that are told
abbrev row_told : Option (List Entry) → ℕ
row_told (Some (a ∷ rest)) = a.s
row_told image = 0

abbrev above_told : Option (List Entry) → ℕ
above_told (Some (a ∷ rest)) = a.above
above_told image = 0

abbrev reduction_told : Option (List Entry) → Reduction
reduction_told (Some (a ∷ b ∷ rest)) = record { cols = b.s; height = b.above; image = a.content.images; chosen = a.content.kernel; kernel = b.content.kernel }
reduction_told image = record { cols = 0; height = 0; image = []; chosen = []; kernel = [] }

of_told : (had : List Kept) (s k : ℕ) (r : Reduction) → TellsQuasi had (Some (told_quasi s k r)) → HasQuasi had s k r
of_told had s k r told =
    let row : s ≡ told.s = ap row_told told.is in
    let above : k ≡ told.k = ap above_told told.is in
    let reduction : r ≡ told.reduction = ap reduction_told told.is in
    subst (λ (n : ℕ). HasQuasi had n k r) (sym row) (subst (λ (n : ℕ). HasQuasi had told.s n r) (sym above) (subst (λ (q : Reduction). HasQuasi had told.s told.k q) (sym reduction) told.has))

if_both : {X : Type 0} (o : Option X) (P Q : X → Type 0) → ((x : X) → P x → Q x) → IfSome o P → IfSome o Q
if_both None P Q f p = tt
if_both (Some x) P Q f p = f x p

-- a square more leaves them there
stay_behind : (o n : Option (List Kept)) (had more : List Kept) → n ≡ option_map (λ kept. kept ++ more) o → IfSome o (KeepsQuasis had) → IfSome n (KeepsQuasis had)
stay_behind None n had more is stay = subst (λ (x : Option (List Kept)). IfSome x (KeepsQuasis had)) (sym is) tt
stay_behind (Some kept) n had more is stay = subst (λ (x : Option (List Kept)). IfSome x (KeepsQuasis had)) (sym is) (λ s k r has. still_has kept more s k r (stay s k r has))

-- at first they are just those that the file had
stay_at_first : {X : Type 0} (o : Option X) (n : Option (List Kept)) (had : List Kept) → n ≡ option_map (λ _. had) o → IfSome n (KeepsQuasis had)
stay_at_first None n had is = subst (λ (x : Option (List Kept)). IfSome x (KeepsQuasis had)) (sym is) tt
stay_at_first (Some x) n had is = subst (λ (x : Option (List Kept)). IfSome x (KeepsQuasis had)) (sym is) (λ s k r has. has)

-- ---- the keeper

module _ {D : Type 0} (now : D → Option (List ℕ)) (moment : D → ℕ) (images : D → List ℕ → Type 0) (images_at since : D → ℕ → List ℕ → Type 0) (faults : D → ℕ) where
  abbrev running : RunState D → Keeper
  running k = telling_run now moment images images_at since faults k

  -- it as the keeper of its file, with the file's own moments
  abbrev pub telling_file : RunState D → Keeper
  telling_file k = record {
    live = TakesMore now images k;
    faults = faults k.file.journal.disk;
    kept = kept_in now k.file;
    resolved = Some k.file.resolved;
    start = Some k.file.start;
    moment = moment k.file.journal.disk;
    images_at = WasLeftAt images_at k.file;
    since = WasLeft since k.file;
  }

  module _ (m : Module) (start given : List Entry) (old new : RunState D) (kept : HasKept m start (running old) (running new) given) where
    pub of_file : HasKept m start (telling_file old) (telling_file new) given
    of_file = record {
      are_of = kept.are_of;
      kept = kept.kept;
      same_module = kept.same_module;
      same_start = kept.same_start;
      never_fall = kept.never_fall;
      later = let later = kept.later in omega (arith, later);
      was_live = kept.was_live;
      since = kept.since;
      now = kept.now;
      exact = kept.exact;
      earlier = if_both (kept_in now old.file) _ _ (λ list earlier t image le. earlier (suc t) image (omega (arith, le))) kept.earlier;
      past = λ t image le. kept.past (suc t) image (omega (arith, le));
      retained = if_both (kept_in now old.file) _ _ (λ list retained first u v from le within all. retained first (suc u) (suc v) (omega (arith, from)) (omega (arith, le)) (omega (arith, within)) all) kept.retained;
    }

    -- the quasi-inverses that the file had stay what they are
    pub had_stays : KeepsQuasis old.had new.had
    had_stays s k r has = of_told new.had s k r ((kept.past 0 (Some (told_quasi s k r)) (omega arith)).1 (record { s = s; k = k; reduction = r; has = has; is = refl }))

-- ---- a file that was taken up

module _ {D : Type 0} (now : D → Option (List ℕ)) (moment : D → ℕ) (images : D → List ℕ → Type 0) (images_at since : D → ℕ → List ℕ → Type 0) (faults : D → ℕ) (k : RunState D) (file : SaveState D) (table : Staircase) (made : k ≡ record { file = file; had = kept_of_table table }) where
  pub takes_at_first : (disk : D) → TakesSquares now images file → quasis_in now file ≡ option_map (λ _. kept_of_table table) (now disk) → TakesMore now images k
  takes_at_first disk takes is =
      subst (TakesMore now images) (sym made) (record { takes = takes; stay = stay_at_first (now disk) (quasis_in now file) (kept_of_table table) is })

  pub keeper_at_first : IsKeeperOf (telling_of now moment images images_at since faults file) table → IsKeeperOf (telling_run now moment images images_at since faults k) table
  keeper_at_first keeper =
      subst (λ (x : RunState D). IsKeeperOf (telling_run now moment images images_at since faults x) table) (sym made) (record { holds = keeper.holds; resolved = keeper.resolved; start = keeper.start })

-- ---- a square that is kept

on_both : {A E : Type 0} (r : Result A E) (P Q R : Type 0) → (P → Q → R) → OnOk r P → OnOk r Q → OnOk r R
on_both (Ok a) P Q R f p q = f p q
on_both (Err e) P Q R f p q = tt

-- old, which is k, got a square, and its file is this one then
module _ {D : Type 0} (now : D → Option (List ℕ)) (moment : D → ℕ) (images : D → List ℕ → Type 0) (images_at since : D → ℕ → List ℕ → Type 0) (faults : D → ℕ) (old k : RunState D) (same : old ≡ k) (file : SaveState D) where
  abbrev new : RunState D
  new = record { file = file; had = old.had }

  pub lives : {A E : Type 0} (r : Result A E) (q : Kept) → TakesMore now images k → OnOk r (TakesSquares now images file) → OnOk r (quasis_in now file ≡ option_map (λ kept. kept ++ q ∷ []) (quasis_in now old.file)) → OnOk r (TakesMore now images new)
  lives r q live takes quasis =
      let stay : IfSome (quasis_in now old.file) (KeepsQuasis old.had) = subst (λ (x : RunState D). IfSome (quasis_in now x.file) (KeepsQuasis x.had)) (sym same) live.stay in
      on_both r _ _ _ (λ here is. record { takes = here; stay = stay_behind (quasis_in now old.file) (quasis_in now file) old.had (q ∷ []) is stay }) takes quasis

  -- what is said of the file, of it as it was
  pub between_told : (q : Placed) → IfSome (kept_in now old.file) (λ list. (image : Option (List Entry)) → WasLeft since file (moment old.file.journal.disk) image → IsImageBetween list q image) →
      IfSome (kept_in now k.file) (λ list. (image : Option (List Entry)) → WasLeft since file (moment k.file.journal.disk) image → IsImageBetween list q image)
  between_told q between = subst (λ (x : RunState D). IfSome (kept_in now x.file) (λ list. (image : Option (List Entry)) → WasLeft since file (moment x.file.journal.disk) image → IsImageBetween list q image)) same between

  -- images at earlier moments
  told_past : ((t : ℕ) (image : Option (List Entry)) → t ≤ moment old.file.journal.disk → WasLeftAt images_at file t image ↔ WasLeftAt images_at old.file t image) →
      (t : ℕ) (image : Option (List Entry)) → t ≤ suc (moment old.file.journal.disk) → TellsAt images_at new t image ↔ TellsAt images_at old t image
  told_past past zero image le = (λ tells. tells, λ tells. tells)
  told_past past (suc t) image le = past t image (omega (arith, le))

  pub past_told : ((t : ℕ) (image : Option (List Entry)) → t ≤ moment old.file.journal.disk → WasLeftAt images_at file t image ↔ WasLeftAt images_at old.file t image) →
      (t : ℕ) (image : Option (List Entry)) → t ≤ suc (moment k.file.journal.disk) → TellsAt images_at new t image ↔ TellsAt images_at k t image
  past_told past = subst (λ (x : RunState D). (t : ℕ) (image : Option (List Entry)) → t ≤ suc (moment x.file.journal.disk) → TellsAt images_at new t image ↔ TellsAt images_at x t image) same (told_past past)

  -- images since earlier moments
  told_earlier : ((t : ℕ) (image : Option (List Entry)) → t ≤ moment old.file.journal.disk → WasLeft since file t image ↔ (WasLeft since old.file t image ⊎ WasLeft since file (moment old.file.journal.disk) image)) →
      (t : ℕ) (image : Option (List Entry)) → t ≤ suc (moment old.file.journal.disk) → TellsSince since new t image ↔ (TellsSince since old t image ⊎ TellsSince since new (suc (moment old.file.journal.disk)) image)
  told_earlier earlier zero image le = (
    λ tells. elim tells [
      | inl had ↦ inl (inl had)
      | inr left ↦ elim ((earlier 0 image (omega arith)).0 left) [
        | inl before ↦ inl (inr before)
        | inr behind ↦ inr behind
      ]
    ],
    λ either. elim either [
      | inl tells ↦ elim tells [
        | inl had ↦ inl had
        | inr before ↦ inr ((earlier 0 image (omega arith)).1 (inl before))
      ]
      | inr behind ↦ inr ((earlier 0 image (omega arith)).1 (inr behind))
    ],
  )
  told_earlier earlier (suc t) image le = earlier t image (omega (arith, le))

  pub earlier_told : IfSome (kept_in now old.file) (λ list. (t : ℕ) (image : Option (List Entry)) → t ≤ moment old.file.journal.disk → WasLeft since file t image ↔ (WasLeft since old.file t image ⊎ WasLeft since file (moment old.file.journal.disk) image)) →
      IfSome (kept_in now k.file) (λ list. (t : ℕ) (image : Option (List Entry)) → t ≤ suc (moment k.file.journal.disk) → TellsSince since new t image ↔ (TellsSince since k t image ⊎ WasLeft since file (moment k.file.journal.disk) image))
  earlier_told earlier =
      subst (λ (x : RunState D). IfSome (kept_in now x.file) (λ list. (t : ℕ) (image : Option (List Entry)) → t ≤ suc (moment x.file.journal.disk) → TellsSince since new t image ↔ (TellsSince since x t image ⊎ WasLeft since file (moment x.file.journal.disk) image))) same
      (if_both (kept_in now old.file) (λ list. (t : ℕ) (image : Option (List Entry)) → t ≤ moment old.file.journal.disk → WasLeft since file t image ↔ (WasLeft since old.file t image ⊎ WasLeft since file (moment old.file.journal.disk) image))
      (λ list. (t : ℕ) (image : Option (List Entry)) → t ≤ suc (moment old.file.journal.disk) → TellsSince since new t image ↔ (TellsSince since old t image ⊎ WasLeft since file (moment old.file.journal.disk) image)) (λ list e. told_earlier e) earlier)

  -- what images have
  told_retained : Retains (telling_of now moment images images_at since faults old.file) (telling_of now moment images images_at since faults file) → Retains (telling_run now moment images images_at since faults old) (telling_run now moment images images_at since faults new)
  told_retained retained first zero v from le within all = absurd (omega (arith, from))
  told_retained retained first (suc u) zero from le within all = absurd (omega (arith, le))
  told_retained retained first (suc u) (suc v) from le within all = retained first u v (omega (arith, from)) (omega (arith, le)) (omega (arith, within)) all

  pub retained_told : IfSome (kept_in now old.file) (λ _. Retains (telling_of now moment images images_at since faults old.file) (telling_of now moment images images_at since faults file)) →
      IfSome (kept_in now k.file) (λ _. Retains (telling_run now moment images images_at since faults k) (telling_run now moment images images_at since faults new))
  retained_told retained =
      subst (λ (x : RunState D). IfSome (kept_in now x.file) (λ _. Retains (telling_run now moment images images_at since faults x) (telling_run now moment images images_at since faults new))) same
      (if_both (kept_in now old.file) (λ _. Retains (telling_of now moment images images_at since faults old.file) (telling_of now moment images images_at since faults file)) (λ _. Retains (telling_run now moment images images_at since faults old) (telling_run now moment images images_at since faults new)) (λ list r. told_retained r) retained)
