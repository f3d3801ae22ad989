-- What a disk does to its bytes, and what a crash may leave of them.
use Rattle.std.specs.Prelude.{◌≡◌, ◌⊎◌, ◌↔◌, ℕ, ◌+◌, ◌<◌, ◌≤◌, max, List, ◌++◌, length, take, drop, Option, None, Some}

-- the file with these bytes from this place on, over what stood there and past its end
abbrev pub written : ℕ → List ℕ → List ℕ → List ℕ
written at bytes file = take at file ++ bytes ++ drop (at + length bytes) file

-- After a write of n bytes that was cut short, or done: any bytes in its range and past the old end, the same elsewhere, and
-- some length between the old one and that of the whole write.
pub record Torn (at n : ℕ) (old new : List ℕ) : Type 0 where
  pub before : take at new ≡ take at old
  pub after : drop (at + n) new ≡ drop (at + n) old
  pub no_shorter : length old ≤ length new
  pub no_longer : length new ≤ max (length old) (at + n)

-- each new image is an old one after a step
abbrev pub Follows : (List ℕ → List ℕ → Type 0) → (List ℕ → Type 0) → (List ℕ → Type 0) → Type 0
Follows step old new = (c : List ℕ) → new c → (d : List ℕ) × old d × step d c

-- a crash leaves this and nothing else
abbrev pub Only : List ℕ → (List ℕ → Type 0) → Type 0
Only file images = (c : List ℕ) → images c → c ≡ file

-- something is told, and it has P
abbrev pub IsTold : Option (List ℕ) → (List ℕ → Type 0) → Type 0
IsTold None P = ⊥
IsTold (Some file) P = P file

-- both are told and are related so, or neither is told
abbrev pub AreTold : (List ℕ → List ℕ → Type 0) → Option (List ℕ) → Option (List ℕ) → Type 0
AreTold R None None = Unit {0}
AreTold R None (Some y) = ⊥
AreTold R (Some x) None = ⊥
AreTold R (Some x) (Some y) = R x y

-- Time goes on: an image since a moment is one that it was before, or one that a crash may leave now.
pub record Elapses (before now : ℕ) (past since : ℕ → List ℕ → Type 0) (images : List ℕ → Type 0) : Type 0 where
  pub later : before ≤ now
  pub nothing_else : (t : ℕ) (c : List ℕ) → t ≤ before → since t c → past t c ⊎ images c
  pub keeps : (t : ℕ) (c : List ℕ) → t ≤ before → past t c → since t c

-- The images at each moment stay what they were: up to the moment before they are those that were told, and behind it, through the
-- moment now, those that a crash may leave now.
pub record Passes (before now : ℕ) (was is : ℕ → List ℕ → Type 0) (images : List ℕ → Type 0) : Type 0 where
  pub past : (t : ℕ) (c : List ℕ) → t ≤ before → is t c ↔ was t c
  pub present : (t : ℕ) (c : List ℕ) → before < t → t ≤ now → is t c ↔ images c

-- an image at that moment or at a later one, up to the moment now
pub record WasImageSince (now : ℕ) (at : ℕ → List ℕ → Type 0) (t : ℕ) (c : List ℕ) : Type 0 where
  pub moment : ℕ
  pub from : t ≤ moment
  pub within : moment ≤ now
  pub image : at moment c

-- Over a run of calls: each image since old has P, and those since a moment before old are those that they were, and those
-- since old.
pub record LeavesOnly {D : Type 0} (moment : D → ℕ) (since : D → ℕ → List ℕ → Type 0) (old new : D)
    (P : List ℕ → Type 0) : Type 0 where
  pub later : moment old ≤ moment new
  pub each : (c : List ℕ) → since new (moment old) c → P c
  pub earlier : (t : ℕ) (c : List ℕ) → t ≤ moment old → since new t c → since old t c ⊎ since new (moment old) c
  pub keeps : (t : ℕ) (c : List ℕ) → t ≤ moment old → since old t c → since new t c

-- the images at the moments up to old are those that were told then
abbrev pub HavePast : {D : Type 0} (moment : D → ℕ) (at : D → ℕ → List ℕ → Type 0) (old new : D) → Type 0
HavePast moment at old new = (t : ℕ) (c : List ℕ) → t ≤ moment old → at new t c ↔ at old t c

-- From old to new nothing with P is lost, not even for a moment: if each image at a moment has P, so has each image at every
-- later moment.
abbrev pub Retains : {D : Type 0} (moment : D → ℕ) (at : D → ℕ → List ℕ → Type 0) (old new : D) (P : List ℕ → Type 0) →
    Type 0
Retains moment at old new P = (u v : ℕ) → moment old ≤ u → u ≤ v → v ≤ moment new →
    ((c : List ℕ) → at new u c → P c) → (c : List ℕ) → at new v c → P c
