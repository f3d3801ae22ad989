-- Keepers of squares: what is kept, and what may be left of it where a run is cut off.
use Rattle.std.specs.Prelude.{◌≡◌, ℕ, suc, ◌≤◌, ◌⊎◌, ◌↔◌, List, [], ◌∷◌, ◌++◌, length, slice_get, Option, Some, None, IsSome, IfSome, Result, Err, IfOk, OnOk}
use Rattle.std.specs.Option.{option_map}
use Rattle.edge.specs.Faults.{HasRisen}
use Rattle.finite_module.specs.Checked.{Checked}
use Rattle.resolution_laws.specs.Resolution.{Module}
use Rattle.resolution_laws.specs.Start.{Entry, entry_at, AreOf}
use Rattle.square.specs.Squares.{Placed, entry_of}
use Rattle.square.specs.Tables.{Staircase, row_in, with_square}

-- ---- a keeper

-- What a contract sees of a keeper: whether it takes squares, how often it has failed, and, each none where it does not tell,
-- the squares that it has kept, in order, the module whose squares they are and the start that it was opened with. The moment
-- does not fall; images_at gives the images at a moment, and since those since a moment: each the squares that it stands for,
-- none where it stands for none.
pub record Keeper : Type 1 where
  pub live : Type 0
  pub faults : ℕ
  pub kept : Option (List Entry)
  pub resolved : Option Checked
  pub start : Option (List Entry)
  pub moment : ℕ
  pub images_at : ℕ → Option (List Entry) → Type 0
  pub since : ℕ → Option (List Entry) → Type 0

-- an image at that moment or at a later one, through the moment now
pub record WasImageSince (keeper : Keeper) (t : ℕ) (image : Option (List Entry)) : Type 0 where
  pub moment : ℕ
  pub from : t ≤ moment
  pub within : moment ≤ keeper.moment
  pub there : keeper.images_at moment image

-- what a keeper has kept, where it tells, with more squares at the end
abbrev pub with_squares : Option (List Entry) → List Entry → Option (List Entry)
with_squares kept given = option_map (λ list. list ++ given) kept

-- the list has no square at the place of q, and has those that it stands on
pub record IsNextIn (list : List Entry) (q : Placed) : Type 0 where
  pub absent : entry_at list q.s q.above ≡ None
  pub before : (j : ℕ) → suc j ≡ q.above → IsSome (entry_at list q.s j)
  pub below : (i : ℕ) → suc i ≡ q.s → IsSome (entry_at list i q.above)

-- an image that may be left of a list at the end of which q is put: the list, with q or without it
abbrev pub IsImageBetween : List Entry → Placed → Option (List Entry) → Type 0
IsImageBetween list q image = (image ≡ Some list) ⊎ (image ≡ Some (list ++ entry_of q ∷ []))

-- ---- what an image has

-- the image has these squares, and maybe more behind them
pub record HasFirst (first : List Entry) (image : Option (List Entry)) : Type 0 where
  pub more : List Entry
  pub is : image ≡ Some (first ++ more)

-- No square is away again, not even for a moment: if from old on each image at a moment has these squares, so has each image at
-- every later moment, through the moment now.
abbrev pub Retains : Keeper → Keeper → Type 0
Retains old new = (first : List Entry) (u v : ℕ) → old.moment ≤ u → u ≤ v → v ≤ new.moment →
    ((image : Option (List Entry)) → new.images_at u image → HasFirst first image) →
    (image : Option (List Entry)) → new.images_at v image → HasFirst first image

-- ---- a keeper and a table

-- the list has just the squares of these rows
abbrev pub HoldsTable : List Entry → List (List Placed) → Type 0
HoldsTable list rows = (s k : ℕ) → entry_at list s k ≡ option_map (λ q. q.content) (slice_get (row_in rows s) k)

-- What the keeper tells agrees with the table, where it tells anything: its list is of the same squares, and its module and
-- the start that it read are those of the table.
pub record IsKeeperOf (keeper : Keeper) (table : Staircase) : Type 0 where
  pub holds : IfSome keeper.kept (λ list. HoldsTable list table.rows)
  pub resolved : IfSome keeper.resolved (λ m. table.resolved ≡ m)
  pub start : IfSome keeper.start (λ start. table.start ≡ start)

-- ---- a keeper from one moment to a later one

-- the image is the list, and at most one square of the start's table more
pub record IsImageWith (m : Module) (start list : List Entry) (image : Option (List Entry)) : Type 0 where
  pub more : List Entry
  pub at_most_one : length more ≤ 1
  pub are_of : AreOf m start more
  pub is : image ≡ Some (list ++ more)

-- the image is the list, a first part of given, and at most one square more
pub record IsImageAmid (m : Module) (start list given : List Entry) (image : Option (List Entry)) : Type 0 where
  pub first : List Entry
  pub rest : List Entry
  pub parts : given ≡ first ++ rest
  pub with_more : IsImageWith m start (list ++ first) image

-- the image is the list and a first part of given, and no square more
pub record IsImagePart (list given : List Entry) (image : Option (List Entry)) : Type 0 where
  pub first : List Entry
  pub rest : List Entry
  pub parts : given ≡ first ++ rest
  pub is : image ≡ Some (list ++ first)

-- From old to new the keeper was given these squares of the start's table, and they stand at the end of what it has kept. Each
-- image since then is what was kept before them, a first part of them, and at most one square more; each image now has all of
-- them. Where the keeper is still live, it was so all along, nothing is torn, and no image has a square more. Images since an
-- earlier moment are those had before, and those since then. Images at an earlier moment are those that they were, and what
-- each image has at a moment each image has from then on.
pub record HasKept (m : Module) (start : List Entry) (old new : Keeper) (given : List Entry) : Type 0 where
  pub are_of : AreOf m start given
  pub kept : new.kept ≡ with_squares old.kept given
  pub same_module : new.resolved ≡ old.resolved
  pub same_start : new.start ≡ old.start
  pub never_fall : old.faults ≤ new.faults
  pub later : old.moment ≤ new.moment
  pub was_live : new.live → old.live
  pub since : IfSome old.kept (λ list. (image : Option (List Entry)) → new.since old.moment image →
      IsImageAmid m start list given image)
  pub now : IfSome old.kept (λ list. (image : Option (List Entry)) → new.since new.moment image →
      IsImageWith m start (list ++ given) image)
  pub exact : new.live →
      IfSome old.kept (λ list. (image : Option (List Entry)) → new.since old.moment image →
      IsImagePart list given image)
  pub earlier : IfSome old.kept (λ list. (m : ℕ) (image : Option (List Entry)) → m ≤ old.moment →
      new.since m image ↔ (old.since m image ⊎ new.since old.moment image))
  pub past : (t : ℕ) (image : Option (List Entry)) → t ≤ old.moment → new.images_at t image ↔ old.images_at t image
  pub retained : IfSome old.kept (λ _. Retains old new)

-- ---- a call that gives squares to a keeper

-- How the keeper fared in a call whose result holds such a table: it failed exactly if the call says so, and is live no more
-- then. Else its count of faults stands, and the call's table is its own.
pub record HasFared {T E : Type 0} (failing wanting : E) (table_of : T → Staircase) (result : Result T E)
    (old new : Keeper) : Type 0 where
  pub live : OnOk result new.live
  pub no_fault : OnOk result (new.faults ≡ old.faults)
  pub of_table : IfOk result (λ x. IsKeeperOf new (table_of x))
  pub failed : result ≡ Err failing → HasRisen old.faults new.faults
  pub dead : result ≡ Err failing → new.live → ⊥
  pub memory : result ≡ Err wanting → new.faults ≡ old.faults
  pub lives : result ≡ Err wanting → new.live

-- ---- a square that is put into a table and kept

-- the tables have the same squares, whatever their room
pub record HaveSameSquares (before after : Staircase) : Type 0 where
  pub resolved : after.resolved ≡ before.resolved
  pub start : after.start ≡ before.start
  pub rows : after.rows ≡ before.rows

-- the square was kept, and is in the table
pub record HasPut (m : Module) (start : List Entry) (old new : Keeper) (before after : Staircase) (q : Placed)
    : Type 0 where
  pub resolved : after.resolved ≡ before.resolved
  pub start_is : after.start ≡ before.start
  pub rows : after.rows ≡ with_square before.rows q.s q
  pub live : new.live
  pub no_fault : new.faults ≡ old.faults
  pub of_table : IsKeeperOf new after
  pub kept : HasKept m start old new (entry_of q ∷ [])

-- it was neither kept nor put there
pub record HasNotPut (m : Module) (start : List Entry) (old new : Keeper) (before after : Staircase) : Type 0 where
  pub same : HaveSameSquares before after
  pub of_table : IsKeeperOf new after
  pub kept : HasKept m start old new []
