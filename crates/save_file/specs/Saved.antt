-- What is known of the bytes of a square that stands in a table, and of its quasi-inverse.
use Rattle.std.specs.Prelude.{◌≡◌, ℕ, suc, ℤ, pos, ◌+ℤ◌, List, ◌∷◌, [], ◌++◌, map, slice_get, Option, Some, None, option_and_then, IsSome}
use Rattle.f2_matrix.specs.Reduction.{Reduction}
use Rattle.resolution_laws.specs.Start.{Entry, entry_at, AreOf}
use Rattle.square.specs.Squares.{Placed, AreWidths, entry_of, over, bottom_of}
use Rattle.square.specs.Tables.{Staircase, row_in, IsNext, IsQuasiAt, LacksQuasi}
use Rattle.square.specs.Keeping.{IsNextIn, HoldsTable}
use Rattle.save_file.specs.Bodies.{body_bytes, body_of, Kept, kept_of, kept_at, entries, Addition, addition_bytes, preimages_of}
use Rattle.save_file.specs.Reading.{square_in, addition_in, reduction_of_square}
use Rattle.save_file.specs.declared.body.Body.{Body}
use Rattle.save_file.specs.declared.body.Body.TheVariants.{Square, Quasi}

-- ---- squares

-- the bytes are the body of the square, with its dimensions, and with its quasi-inverse if it has kept that
pub record IsBodyOf (q : Placed) (bytes : List ℕ) : Type 0 where
  pub w : ℕ
  pub v : ℕ
  pub widths : AreWidths q w v
  pub is : bytes ≡ body_bytes (body_of w v (kept_of q))

-- with each square the list has those that it stands on
pub record IsClosed (list : List Entry) : Type 0 where
  pub before : (s k : ℕ) → IsSome (entry_at list s (suc k)) → IsSome (entry_at list s k)
  pub below : (s k : ℕ) → IsSome (entry_at list (suc s) k) → IsSome (entry_at list s k)

-- Behind squares of the same start's table, those that the square stands on among them, the bytes are read as the square, with
-- its quasi-inverse if it has kept that.
abbrev pub IsReadAs : Placed → List ℕ → Type 0
IsReadAs q bytes = (list : List Entry) → AreOf (over q.resolved) q.start list → IsClosed list → IsNextIn list q →
    square_in (over q.resolved) list bytes ≡ Some (kept_of q)

-- ---- quasi-inverses

-- the bytes are the body of a quasi-inverse of the square in row s and of degree t
pub record IsQuasiBodyOf (table : Staircase) (s : ℕ) (t : ℤ) (bytes : List ℕ) : Type 0 where
  pub above : ℕ
  pub degree : t ≡ bottom_of table.resolved +ℤ pos above
  pub quasi : Reduction
  pub is_quasi : IsQuasiAt table s t quasi
  pub is : bytes ≡ addition_bytes (record {
    s = s;
    above = above;
    cols = quasi.cols;
    height = quasi.height;
    preimages = preimages_of quasi;
  })

-- Behind the squares of the table, of which that one is kept without a quasi-inverse, the bytes are read as this one.
pub record IsReadAsQuasi (table : Staircase) (s : ℕ) (t : ℤ) (bytes : List ℕ) : Type 0 where
  pub above : ℕ
  pub degree : t ≡ bottom_of table.resolved +ℤ pos above
  pub quasi : Reduction
  pub is_quasi : IsQuasiAt table s t quasi
  pub addition : Addition
  pub place : (addition.s ≡ s) × (addition.above ≡ above)
  pub read : (kept : List Kept) (square : Kept) → HoldsTable (entries kept) table.rows →
      kept_at kept s above ≡ Some square → square.quasi ≡ None →
      (addition_in (over table.resolved) kept bytes ≡ Some addition)
      × (reduction_of_square addition (Some square) ≡ quasi)

-- ---- what is read behind the squares of a table

-- the reduction that the square (s, k) of a table has kept
abbrev pub quasi_kept : List (List Placed) → ℕ → ℕ → Option Reduction
quasi_kept rows s k = option_and_then (λ q. q.quasi) (slice_get (row_in rows s) k)

-- the squares that were read, in order, each with the reduction that it has in the table
abbrev pub kept_of_table : Staircase → List Kept
kept_of_table table = map (λ e. record { entry = e; quasi = quasi_kept table.rows e.s e.above }) table.start

-- the square was read from these bytes behind those of the table, whose squares were all read, and is the next of its row
pub record IsDecodedSquare (table : Staircase) (bytes : List ℕ) (q : Placed) : Type 0 where
  pub square : square_in (over table.resolved) table.start bytes ≡ Some (kept_of q)
  pub resolved : q.resolved ≡ table.resolved
  pub start : q.start ≡ table.start ++ entry_of q ∷ []
  pub next : IsNext table.rows q.s q.above

-- the quasi-inverse was read from them, of the square of the table at that place, which has none
pub record IsDecodedQuasi (table : Staircase) (bytes : List ℕ) (s : ℕ) (t : ℤ) (quasi : Reduction) : Type 0 where
  pub addition : Addition
  pub read : addition_in (over table.resolved) (kept_of_table table) bytes ≡ Some addition
  pub row : addition.s ≡ s
  pub degree : t ≡ bottom_of table.resolved +ℤ pos addition.above
  pub reduction : quasi
      ≡ reduction_of_square addition (kept_at (kept_of_table table) addition.s addition.above)
  pub is_quasi : IsQuasiAt table s t quasi
  pub lacks : LacksQuasi table s t quasi

abbrev pub IsDecoded : Staircase → List ℕ → Body → Type 0
IsDecoded table bytes (Square q) = IsDecodedSquare table bytes q
IsDecoded table bytes (Quasi s t quasi) = IsDecodedQuasi table bytes s t quasi
