-- Stocks of squares, as contracts see them: what lies on a desk of the squares that are done.
use Rattle.std.specs.Prelude.{◌≡◌, ℕ, suc, ◌<◌, ◌≤◌, ◌⊎◌, ℤ, pos, ◌+ℤ◌, true, List, [], ◌∷◌}
use Rattle.bidegree.specs.declared.range.Range.{Range}
use Rattle.bidegree.specs.declared.shape.Shape.{Shape}
use Rattle.board_core.specs.declared.event.Entry.{Entry as Event}
use Rattle.board_core.specs.declared.event.Entry.TheVariants.{Take, Give, Back, Fail}
use Rattle.board_core.specs.Machine.{stands_in, is_meant_in}

-- What contracts see of stocks of a kind. A place (s, k) is in row s, and k degrees above the bottom. The subject is what stays
-- the same of a stock: what its squares are squares of. It has a bottom degree and a shape, and tells which ranges such a
-- stock can hold.
-- A stock has so many squares done of each row, from the bottom degree on, and tells whether it takes more.
-- Of a subject it is told which inputs are those of a place, at whatever moment they were taken, and which numbers may be that
-- of the generators there; of inputs, what may be made of them.
-- What a square in row s and of degree t does to a stock is said by three relations of the stock before and behind: the square
-- was put; it was not, for lack of memory; and it could not be kept.
pub record StockWords (T O I M : Type 0) : Type 1 where
  pub subject : T → O
  pub bottom : O → ℤ
  pub shape : O → Shape
  pub reaches : O → Range → Type 0
  pub fronts : T → ℕ → ℕ
  pub takes : T → Type 0
  pub is_for : O → ℕ → ℕ → I → Type 0
  pub is_made : I → M → Type 0
  pub is_count : O → ℕ → ℕ → ℕ → Type 0
  pub gives : T → ℕ → ℤ → T → Type 0
  pub lacks : T → ℕ → ℤ → T → Type 0
  pub fails : T → ℕ → ℤ → T → Type 0

-- ---- places

-- The place is one of the range and the next of its row, and what it stands on in the row below is done.
pub record IsNextPlace (shape : Shape) (range : Range) (fronts : ℕ → ℕ) (s k : ℕ) : Type 0 where
  pub row : s ≤ range.s
  pub degree : k ≤ range.t
  pub meant : is_meant_in shape range.s range.t s k ≡ true
  pub next : fronts s ≡ k
  pub below : (i : ℕ) → suc i ≡ s → stands_in shape range.s range.t s k ≡ true → k < fronts i

-- row s has one square more, and the others have as many as before
pub record HasOneMore (s : ℕ) (old new : ℕ → ℕ) : Type 0 where
  pub here : new s ≡ suc (old s)
  pub others : (i : ℕ) → (i ≡ s → ⊥) → new i ≡ old i

module _ {T O I M : Type 0} (w : StockWords T O I M) where
  -- it is so of the stock, in a range that this can hold
  pub record IsNextOf (stock : T) (s k : ℕ) : Type 0 where
    pub range : Range
    pub reached : w.reaches (w.subject stock) range
    pub place : IsNextPlace (w.shape (w.subject stock)) range (w.fronts stock) s k

  -- the degree of the squares that are k degrees above the bottom
  abbrev pub degree_of : O → ℕ → ℤ
  degree_of subject k = w.bottom subject +ℤ pos k

  -- ---- what events do to a stock

  -- What an event does. A take does nothing. Nor does a back, unless the square was to be put and there was no memory.
  abbrev pub Goes : T → Event → T → Type 0
  Goes old (Take who s t snapshot) new = new ≡ old
  Goes old (Give who s t) new = w.gives old s t new
  Goes old (Back who s t) new = (new ≡ old) ⊎ w.lacks old s t new
  Goes old (Fail who s t) new = w.fails old s t new

  -- the events, one after another, lead from the first stock to the last
  abbrev pub IsGone : T → List Event → T → Type 0
  IsGone first [] last = last ≡ first
  IsGone first (event ∷ events) last = (next : T) × (Goes first event next × IsGone next events last)
