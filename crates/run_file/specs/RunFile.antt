-- The keeper of a run over its save file.
use Rattle.std.proofs.Common.{◌≡◌, ℕ, zero, suc, ◌≤◌, ◌⊎◌, inl, inr, List, [], ◌∷◌, Option, Some, arith}
use Rattle.std.specs.Prelude.{IfSome, ◌↔◌}
use Rattle.f2_matrix.specs.Reduction.{Reduction}
use Rattle.resolution_laws.specs.Start.{Entry}
use Rattle.square.specs.Keeping.{Keeper, WasImageSince}
use Rattle.edge.specs.Disk.{WasImageSince as WasFileSince}
use Rattle.save_file.specs.Bodies.{Kept, kept_at}
use Rattle.save_file.specs.Saving.{SaveState, TakesSquares, kept_in, quasis_in, WasLeftAt, WasLeft, telling_of}
use Rattle.save_file.specs.Inside.SavingLaws.{left_since, left_earlier, left_is_kept}

-- ---- what is kept

-- this quasi-inverse is kept for the square (s, k)
pub record HasQuasi (kept : List Kept) (s k : ℕ) (reduction : Reduction) : Type 0 where
  pub square : Kept
  pub there : kept_at kept s k ≡ Some square
  pub is : square.quasi ≡ Some reduction

-- each quasi-inverse that was kept before is kept now
abbrev pub KeepsQuasis : List Kept → List Kept → Type 0
KeepsQuasis before now = (s k : ℕ) (r : Reduction) → HasQuasi before s k r → HasQuasi now s k r

-- ---- the keeper

-- the save file, and what that kept as it was taken up: its squares, each with its quasi-inverse or none
pub record RunState (D : Type 0) : Type 0 where
  pub file : SaveState D
  pub had : List Kept

-- it takes squares, and each quasi-inverse that the file had is still kept
pub record TakesMore {D : Type 0} (now : D → Option (List ℕ)) (images : D → List ℕ → Type 0) (k : RunState D)
    : Type 0 where
  pub takes : TakesSquares now images k.file
  pub stay : IfSome (quasis_in now k.file) (KeepsQuasis k.had)

-- the quasi-inverse of the square (s, k), as a list of entries that is that of no other one
abbrev pub told_quasi : ℕ → ℕ → Reduction → List Entry
told_quasi s k r = record { s = s; above = k; content = record { images = r.image; kernel = r.chosen } }
    ∷ record { s = r.cols; above = r.height; content = record { images = []; kernel = r.kernel } } ∷ []

-- the image tells a quasi-inverse that the file had
pub record TellsQuasi (had : List Kept) (image : Option (List Entry)) : Type 0 where
  pub s : ℕ
  pub k : ℕ
  pub reduction : Reduction
  pub has : HasQuasi had s k reduction
  pub is : image ≡ Some (told_quasi s k reduction)

-- Its first moment is that at which the file was taken up: an image then is one of the quasi-inverses that the file had. So
-- whatever is done with the keeper, these stay what they are. The moments behind it are those of the file.
abbrev pub TellsAt : {D : Type 0} → (D → ℕ → List ℕ → Type 0) → RunState D → ℕ → Option (List Entry) → Type 0
TellsAt images_at k zero image = TellsQuasi k.had image
TellsAt images_at k (suc t) image = WasLeftAt images_at k.file t image

abbrev pub TellsSince : {D : Type 0} → (D → ℕ → List ℕ → Type 0) → RunState D → ℕ → Option (List Entry) → Type 0
TellsSince since k zero image = TellsQuasi k.had image ⊎ WasLeft since k.file 0 image
TellsSince since k (suc t) image = WasLeft since k.file t image

-- what contracts see of it as a keeper
abbrev pub telling_run : {D : Type 0} → (D → Option (List ℕ)) → (D → ℕ) → (D → List ℕ → Type 0) →
    (D → ℕ → List ℕ → Type 0) → (D → ℕ → List ℕ → Type 0) → (D → ℕ) → RunState D → Keeper
telling_run now moment images images_at since faults k = record {
  live = TakesMore now images k;
  faults = faults k.file.journal.disk;
  kept = kept_in now k.file;
  resolved = Some k.file.resolved;
  start = Some k.file.start;
  moment = suc (moment k.file.journal.disk);
  images_at = TellsAt images_at k;
  since = TellsSince since k;
}

-- ---- the laws of a keeper

pub tells_earlier : {D : Type 0} (since : D → ℕ → List ℕ → Type 0)
    (law : (d : D) (t u : ℕ) (c : List ℕ) → t ≤ u → since d u c → since d t c) (k : RunState D) (m n : ℕ)
    (image : Option (List Entry)) →
    m ≤ n → TellsSince since k n image → TellsSince since k m image
tells_earlier since law k zero zero image le tells = tells
tells_earlier since law k zero (suc n) image le tells = inr (left_earlier since law k.file 0 n image (omega arith) tells)
tells_earlier since law k (suc m) zero image le tells = absurd (omega (arith, le))
tells_earlier since law k (suc m) (suc n) image le tells = left_earlier since law k.file m n image (omega (arith, le)) tells

module _ {D : Type 0} (now : D → Option (List ℕ)) (moment : D → ℕ) (images : D → List ℕ → Type 0)
    (images_at since : D → ℕ → List ℕ → Type 0) (faults : D → ℕ) where
  module _ (law : (d : D) (t : ℕ) (c : List ℕ) → since d t c ↔ WasFileSince (moment d) (images_at d) t c) (k : RunState D) where
    -- an image of the file, a moment later
    later : (t : ℕ) (image : Option (List Entry)) → WasImageSince (telling_of now moment images images_at since faults k.file) t image →
        WasImageSince (telling_run now moment images images_at since faults k) (suc t) image
    later t image was = record { moment = suc was.moment; from = let from = was.from in omega (arith, from); within = let within = was.within in omega (arith, within); there = was.there }

    of_moment : (t n : ℕ) (image : Option (List Entry)) → suc t ≤ n → n ≤ suc (moment k.file.journal.disk) → TellsAt images_at k n image →
        WasLeft since k.file t image
    of_moment t zero image from within there = absurd (omega (arith, from))
    of_moment t (suc n) image from within there =
        (left_since now moment images images_at since faults law k.file t image).1
        (record { moment = n; from = omega (arith, from); within = omega (arith, within); there = there })

    of_first : (n : ℕ) (image : Option (List Entry)) → n ≤ suc (moment k.file.journal.disk) → TellsAt images_at k n image →
        TellsQuasi k.had image ⊎ WasLeft since k.file 0 image
    of_first zero image within there = inl there
    of_first (suc n) image within there =
        inr ((left_since now moment images images_at since faults law k.file 0 image).1
        (record { moment = n; from = omega arith; within = omega (arith, within); there = there }))

    weaker : (image : Option (List Entry)) → WasImageSince (telling_run now moment images images_at since faults k) 1 image →
        WasImageSince (telling_run now moment images images_at since faults k) 0 image
    weaker image was = record { moment = was.moment; from = omega arith; within = was.within; there = was.there }

    pub tells_since : (t : ℕ) (image : Option (List Entry)) → TellsSince since k t image
        ↔ WasImageSince (telling_run now moment images images_at since faults k) t image
    tells_since zero image = (
      λ tells. elim tells [
        | inl had ↦ record { moment = 0; from = omega arith; within = omega arith; there = had }
        | inr left ↦ weaker image (later 0 image ((left_since now moment images images_at since faults law k.file 0 image).0 left))
      ],
      λ was. of_first was.moment image was.within was.there,
    )
    tells_since (suc t) image = (
      λ left. later t image ((left_since now moment images images_at since faults law k.file t image).0 left),
      λ was. of_moment t was.moment image was.from was.within was.there,
    )

  pub tells_kept : (only_now : (d : D) (c : List ℕ) → since d (moment d) c → images d c) (k : RunState D) → TakesMore now images k →
      IfSome (kept_in now k.file) (λ list. (image : Option (List Entry)) →
      TellsSince since k (suc (moment k.file.journal.disk)) image → image ≡ Some list)
  tells_kept only_now k live = left_is_kept now moment images since only_now k.file live.takes
