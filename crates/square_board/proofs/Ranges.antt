-- What a desk knows of its machine's state: the range, and what of the stock is done.
use Rattle.std.proofs.Common.{◌≡◌, ℕ, zero, suc, ◌+◌, ◌-◌, ◌<◌, ◌≤◌, ℤ, true, nat_lt, List, [], ◌∷◌, refl, sym, ◌∙◌, ap, subst, arith}
use Rattle.std.proofs.lemmas.Bool.Decides.{nat_tests}
use Rattle.bidegree.specs.declared.shape.Shape.{Shape}
use Rattle.bidegree.specs.declared.shape.Shape.TheVariants.{Rectangle, Stems}
use Rattle.board_core.specs.declared.event.Entry.{Entry as Event}
use Rattle.board_core.specs.declared.event.Entry.TheVariants.{Take, Give, Back, Fail}
use Rattle.board_core.specs.Board.{IsTaken}
use Rattle.board_core.specs.Laws.{HasUnfinished}
use Rattle.board_core.specs.Entries.{after_entry as after}
use Rattle.board_core.specs.Machine.{State, Squares, IsStaircase, IsInRange, IsRowNumber, IsRowNumberBelow, stands_in, is_meant_in, stands, is_meant, opening}
use Rattle.board_core.proofs.BelowFronts.{front_number, stands_first}
use Rattle.board_core.proofs.Histories.{reached_is_sound}
use Rattle.square_board.specs.declared.opening.Opening.{Opening}
use Rattle.square_board.specs.Stocks.{StockWords, IsNextPlace}
use Rattle.square_board.specs.Courses.{Course, after_all, state_of}
use Rattle.square_board.specs.Openings.{bottom_of, shape_of, stands_of}
use Rattle.square_board.specs.Desks.{IsDesk}

-- the range of a state, which no event changes
pub record HasRange (state : State) (shape : Shape) (rows degrees : ℕ) (low : ℤ) : Type 0 where
  pub shape_is : state.shape ≡ shape
  pub rows_are : state.rows ≡ rows
  pub degrees_are : state.degrees ≡ degrees
  pub low_is : state.bottom ≡ low

range_then : (state : State) (event : Event) → HasRange (after state event) state.shape state.rows state.degrees state.bottom
range_then state (Take who s t snapshot) = record { shape_is = refl; rows_are = refl; degrees_are = refl; low_is = refl }
range_then state (Give who s t) = record { shape_is = refl; rows_are = refl; degrees_are = refl; low_is = refl }
range_then state (Back who s t) = record { shape_is = refl; rows_are = refl; degrees_are = refl; low_is = refl }
range_then state (Fail who s t) = record { shape_is = refl; rows_are = refl; degrees_are = refl; low_is = refl }

range_all : (state : State) (events : List Event) → HasRange (after_all state events) state.shape state.rows state.degrees state.bottom
range_all state [] = record { shape_is = refl; rows_are = refl; degrees_are = refl; low_is = refl }
range_all state (event ∷ events) =
    let one = range_then state event in
    let rest = range_all (after state event) events in
    record { shape_is = rest.shape_is ∙ one.shape_is; rows_are = rest.rows_are ∙ one.rows_are; degrees_are = rest.degrees_are ∙ one.degrees_are; low_is = rest.low_is ∙ one.low_is }

pub range_of : (course : Course) → HasRange (state_of course) course.shape course.rows course.degrees course.bottom
range_of course = range_all (opening course.bottom course.shape course.rows course.degrees course.start) course.history

module _ (state : State) (shape : Shape) (rows degrees : ℕ) (low : ℤ) (range : HasRange state shape rows degrees low) where
  pub meant_same : is_meant state ≡ is_meant_in shape rows degrees
  meant_same =
      ap (λ (x : Shape). is_meant_in x state.rows state.degrees) range.shape_is
      ∙ (ap (λ (n : ℕ). is_meant_in shape n state.degrees) range.rows_are ∙ ap (λ (n : ℕ). is_meant_in shape rows n) range.degrees_are)

  pub stands_same : stands state ≡ stands_in shape rows degrees
  stands_same =
      ap (λ (x : Shape). stands_in x state.rows state.degrees) range.shape_is
      ∙ (ap (λ (n : ℕ). stands_in shape n state.degrees) range.rows_are ∙ ap (λ (n : ℕ). stands_in shape rows n) range.degrees_are)

-- Where the last row is done, so are all: each square that is meant in a row below has one above it that is meant and stands on it.
below_last : (shape : Shape) (rows degrees : ℕ) (done : Squares) → (shape ≡ Stems → rows ≤ degrees) → IsStaircase (stands_in shape rows degrees) done → ((k : ℕ) → k ≤ degrees → done rows k ≡ true) → (d s k : ℕ) → s + d ≡ rows → k ≤ degrees → is_meant_in shape rows degrees s k ≡ true → done s k ≡ true
below_last shape rows degrees done corner stairs last zero s k at short meant = subst (λ (i : ℕ). done i k ≡ true) (omega arith) (last k short)
below_last Rectangle rows degrees done corner stairs last (suc d) s k at short meant = (stairs (suc s) k (below_last Rectangle rows degrees done corner stairs last d (suc s) k (omega arith) short refl)).below s refl refl
below_last Stems rows degrees done corner stairs last (suc d) s k at short meant =
    let most = corner refl in
    let here : nat_lt k (degrees - (rows - s) + 2) ≡ true = meant in
    let within : k < degrees - (rows - s) + 2 = grind (arith, nat_tests) in
    let same : rows - s ≡ suc (rows - suc s) = omega arith in
    let less : k < degrees - (rows - suc s) + 1 = omega arith in
    let on : nat_lt k (degrees - (rows - suc s) + 1) ≡ true = grind (arith, nat_tests) in
    let above : nat_lt k (degrees - (rows - suc s) + 2) ≡ true = grind (arith, nat_tests) in
    (stairs (suc s) k (below_last Stems rows degrees done corner stairs last d (suc s) k (omega arith) short above)).below s refl on

-- the last square of the last row is meant
corner_is_meant : (shape : Shape) (rows degrees : ℕ) → is_meant_in shape rows degrees rows degrees ≡ true
corner_is_meant Rectangle rows degrees = refl
corner_is_meant Stems rows degrees = let within : degrees < degrees - (rows - rows) + 2 = omega arith in let is : nat_lt degrees (degrees - (rows - rows) + 2) ≡ true = grind (arith, nat_tests) in is

module _ {T O I M : Type 0} (w : StockWords T O I M) (opening : Opening T) (course : Course) (stock : T) (desk : IsDesk w opening course stock) where
  -- the range of the desk's state
  pub desk_range : HasRange (state_of course) (shape_of w opening) opening.range.s opening.range.t (bottom_of w opening)
  desk_range =
      let range = range_of course in
      record {
        shape_is = range.shape_is ∙ ap (λ (c : Course). c.shape) desk.course_is;
        rows_are = range.rows_are ∙ ap (λ (c : Course). c.rows) desk.course_is;
        degrees_are = range.degrees_are ∙ ap (λ (c : Course). c.degrees) desk.course_is;
        low_is = range.low_is ∙ ap (λ (c : Course). c.bottom) desk.course_is;
      }

  desk_meant : is_meant (state_of course) ≡ is_meant_in (shape_of w opening) opening.range.s opening.range.t
  desk_meant = meant_same (state_of course) (shape_of w opening) opening.range.s opening.range.t (bottom_of w opening) desk_range

  desk_stands : stands (state_of course) ≡ stands_of w opening
  desk_stands = stands_same (state_of course) (shape_of w opening) opening.range.s opening.range.t (bottom_of w opening) desk_range

  -- the squares that are done have those that they stand on
  pub desk_stairs : IsStaircase (stands_of w opening) (state_of course).done
  desk_stairs = subst (λ (on : Squares). IsStaircase on (state_of course).done) desk_stands (reached_is_sound course.bottom course.shape course.rows course.degrees course.start course.history (state_of course) desk.legal).staircase

  -- a square in the range whose parents are done, and which is not, is the next of its row
  pub next_of : (s k : ℕ) → IsTaken (state_of course) s k → IsNextPlace (shape_of w opening) opening.range (w.fronts stock) s k
  next_of s k taken =
      let range = desk_range in
      let row = taken.in_range.row in
      let degree = taken.in_range.degree in
      let rows = range.rows_are in
      let degrees = range.degrees_are in
      record {
        row = omega arith;
        degree = omega arith;
        meant = ap (λ (f : Squares). f s k) (sym desk_meant) ∙ taken.in_range.meant;
        next = sym (stands_first {stands = stands (state_of course)} (state_of course).done s k (w.fronts stock s) (desk.done s) taken.parents taken.not_done);
        below = λ i e on.
            let there = taken.parents.below i e (ap (λ (f : Squares). f s k) desk_stands ∙ on) in
            let here = desk.done i k in
            grind (arith, nat_tests);
      }

  -- the numbers of done squares are the fronts
  pub row_number : (s n : ℕ) → n ≡ w.fronts stock s → IsRowNumber (state_of course).done s n
  row_number s n is = subst (λ (m : ℕ). IsRowNumber (state_of course).done s m) (sym is) (front_number ((state_of course).done s) (w.fronts stock s) (desk.done s))

  pub row_number_below : (s n : ℕ) → (s ≡ 0 → n ≡ 0) → ((i : ℕ) → suc i ≡ s → n ≡ w.fronts stock i) → IsRowNumberBelow (state_of course).done s n
  row_number_below zero n none some = none refl
  row_number_below (suc s) n none some = row_number s n (some s refl)

  -- where the last row is done, all of the range is
  pub all_done : opening.range.t < w.fronts stock opening.range.s → (s k : ℕ) → s ≤ opening.range.s → k ≤ opening.range.t → is_meant_in (shape_of w opening) opening.range.s opening.range.t s k ≡ true → (state_of course).done s k ≡ true
  all_done through s k row degree meant =
      below_last (shape_of w opening) opening.range.s opening.range.t (state_of course).done desk.corner desk_stairs
      (λ j short. let here = desk.done opening.range.s j in grind (arith, nat_tests))
      (opening.range.s - s) s k (omega arith) degree meant

  pub all_in_range : opening.range.t < w.fronts stock opening.range.s → (s k : ℕ) → IsInRange (state_of course) s k → (state_of course).done s k ≡ true
  all_in_range through s k within =
      let range = desk_range in
      let row = within.row in
      let degree = within.degree in
      let rows = range.rows_are in
      let degrees = range.degrees_are in
      all_done through s k (omega arith) (omega arith) (ap (λ (f : Squares). f s k) (sym desk_meant) ∙ within.meant)

  -- and else its last square is unfinished
  pub last_unfinished : w.fronts stock opening.range.s ≤ opening.range.t → HasUnfinished (state_of course)
  last_unfinished short =
      let range = desk_range in
      let rows = range.rows_are in
      let degrees = range.degrees_are in
      let here = desk.done opening.range.s opening.range.t in
      record {
        s = opening.range.s;
        above = opening.range.t;
        in_range = record {
          row = omega arith;
          degree = omega arith;
          meant = ap (λ (f : Squares). f opening.range.s opening.range.t) desk_meant ∙ corner_is_meant (shape_of w opening) opening.range.s opening.range.t;
        };
        not_done = grind (arith, nat_tests);
      }
