-- A table with the keeper of its squares, as a stock of squares.
use Rattle.std.specs.Prelude.{◌≡◌, ℕ, ◌<◌, ◌≤◌, ℤ, pos, ◌+ℤ◌, List, [], length}
use Rattle.bidegree.specs.declared.shape.Shape.TheVariants.{Rectangle}
use Rattle.bidegree.specs.declared.range.TheConstants.{MAX_S, MAX_T}
use Rattle.edge.specs.Faults.{HasRisen}
use Rattle.resolution_laws.specs.Resolution.{Module, Content, IsStep}
use Rattle.resolution_laws.specs.Start.{Entry, IsOf}
use Rattle.square.specs.Squares.{Placed, over, bottom_of}
use Rattle.square.specs.Tables.{Staircase, Footing, IsNext, row_in}
use Rattle.square.specs.Keeping.{Keeper, HaveSameSquares, HasPut, HasNotPut}
use Rattle.square_board.specs.Stocks.{StockWords}

-- a table, and the keeper that its new squares are given to
pub record KeptTable (K : Type 0) : Type 0 where
  pub table : Staircase
  pub keeper : K

-- a table of the same module and start, without a square
abbrev pub without_squares : Staircase → Staircase
without_squares table = record table { rows = []; spare = 0 }

-- it is made from the squares that the place stands on, over this table's module and start
pub record IsForPlace (table : Staircase) (s k : ℕ) (f : Footing) : Type 0 where
  pub resolved : f.resolved ≡ table.resolved
  pub start : f.start ≡ table.start
  pub s_is : f.s ≡ s
  pub above_is : f.above ≡ k

-- the square is the step on these inputs
pub record IsMadeFrom (f : Footing) (q : Placed) : Type 0 where
  pub resolved : q.resolved ≡ f.resolved
  pub start : q.start ≡ f.start
  pub s : q.s ≡ f.s
  pub above : q.above ≡ f.above
  pub step : IsStep (over f.resolved) f.below f.squares q.content

-- the square (s, k) has n generators, in the table of this start
pub record IsCount (m : Module) (start : List Entry) (s k n : ℕ) : Type 0 where
  pub content : Content
  pub is_of : IsOf m start s k content
  pub count : n ≡ length content.images

module _ {K : Type 0} (telling : K → Keeper) where
  -- the square in row s and of degree t was kept and put into the table
  pub record HasGiven (old new : KeptTable K) (s : ℕ) (t : ℤ) : Type 0 where
    pub square : Placed
    pub row : square.s ≡ s
    pub degree : t ≡ bottom_of old.table.resolved +ℤ pos square.above
    pub there : square.s < length old.table.rows
    pub next : IsNext old.table.rows square.s square.above
    pub put : HasPut (over old.table.resolved) old.table.start (telling old.keeper) (telling new.keeper) old.table
        new.table square

  -- the table has the same squares, whatever its room, and the keeper is the same
  pub record IsAsBefore (old new : KeptTable K) : Type 0 where
    pub same : HaveSameSquares old.table new.table
    pub keeper : new.keeper ≡ old.keeper

  -- the keeper failed at a square, which is neither kept nor in the table
  pub record HasFailed (old new : KeptTable K) : Type 0 where
    pub not_put : HasNotPut (over old.table.resolved) old.table.start (telling old.keeper) (telling new.keeper) old.table
        new.table
    pub risen : HasRisen (telling old.keeper).faults (telling new.keeper).faults
    pub dead : (telling new.keeper).live → ⊥

  -- such tables as stocks of squares: in rectangles, and they take more as long as the keeper is live
  abbrev pub kept_words : StockWords (KeptTable K) Staircase Footing Placed
  kept_words = record {
    subject = λ x. without_squares x.table;
    bottom = λ of. bottom_of of.resolved;
    shape = λ _. Rectangle;
    reaches = λ _ range. (range.s ≤ MAX_S) × (range.t ≤ MAX_T);
    fronts = λ x s. length (row_in x.table.rows s);
    takes = λ x. (telling x.keeper).live;
    is_for = IsForPlace;
    is_made = IsMadeFrom;
    is_count = λ of s k n. IsCount (over of.resolved) of.start s k n;
    gives = λ old s t new. HasGiven old new s t;
    lacks = λ old _ _ new. IsAsBefore old new;
    fails = λ old _ _ new. HasFailed old new;
  }
