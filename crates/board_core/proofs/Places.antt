-- Where the squares stand that a history gives: each in the range, and no two at one place.
use Rattle.std.proofs.Common.{◌≡◌, ◌≢◌, ℕ, ◌+◌, ◌<◌, ◌≤◌, ℤ, true, ◌&&◌, nat_eq, List, [], ◌∷◌, ◌++◌, length, take, get_or, Option, Some, sym, ◌∙◌, ap, subst, arith, length-append}
use Rattle.std.specs.List.{All, AllPairs}
use Rattle.std.proofs.lemmas.Bool.Decides.{nat_tests}
use Rattle.std.proofs.lemmas.List.{get_or-take, get_or-append-add, length-take-le}
use Rattle.std.proofs.lemmas.List.Elements.{All-nil, All-cons}
use Rattle.std.proofs.lemmas.List.Folds.{list_any-from_Any}
use Rattle.std.proofs.lemmas.Option.{slice_get-get_or, get_or_from_slice_get}
use Rattle.bidegree.specs.Above.{above_of}
use Rattle.bidegree.proofs.Degrees.{above_of-is}
use Rattle.bidegree.specs.declared.shape.Shape.{Shape}
use Rattle.board_core.specs.declared.event.Entry.{Entry}
use Rattle.board_core.specs.declared.event.Entry.TheVariants.{Take, Give, Back, Fail}
use Rattle.board_core.specs.Board.{IsSound}
use Rattle.board_core.specs.Laws.{IsReachedByEntries, given}
use Rattle.board_core.specs.Entries.{IsEntryHistory, after_entry}
use Rattle.board_core.specs.Machine.{Squares, State, stands, IsStart, IsAbove, is_number, height, opening}
use Rattle.board_core.specs.Machine.IsHistory.{nothing, then}
use Rattle.board_core.proofs.Given.{given_once}
use Rattle.board_core.proofs.Histories.{height_is, held_at_height, opening_is_sound, stays_sound}
use Rattle.board_core.proofs.Starts.{next_square}

-- ---- in the range

-- the square q is in rows through s and in degrees through t above the bottom
pub record IsWithin (bottom : ℤ) (s t : ℕ) (q : ℕ × ℤ) : Type 0 where
  pub above : ℕ
  pub degree : IsAbove bottom q.1 above
  pub row : q.0 ≤ s
  pub column : above ≤ t

within_along : (first : State) (events : List Entry) (last : State) → IsEntryHistory first events last → IsSound first → All (IsWithin first.bottom first.rows first.degrees) (given events)
within_along first [] last (nothing state) sound = All-nil (IsWithin first.bottom first.rows first.degrees)
within_along first (Take who s t snapshot ∷ events) last (then state e es l legal rest) sound = within_along (after_entry first (Take who s t snapshot)) events last rest (stays_sound first (Take who s t snapshot) sound legal)
within_along first (Give who s t ∷ events) last (then state e es l legal rest) sound =
    let taken = sound.taken s (height first t) (held_at_height first who s t legal.held) in
    let at : height first t ≡ legal.held.above = height_is first t legal.held.above legal.held.degree in
    All-cons (IsWithin first.bottom first.rows first.degrees) (s, t) (given events)
    (record { above = height first t; degree = subst (λ (k : ℕ). IsAbove first.bottom t k) (sym at) legal.held.degree; row = taken.in_range.row; column = taken.in_range.degree })
    (within_along (after_entry first (Give who s t)) events last rest (stays_sound first (Give who s t) sound legal))
within_along first (Back who s t ∷ events) last (then state e es l legal rest) sound = within_along (after_entry first (Back who s t)) events last rest (stays_sound first (Back who s t) sound legal)
within_along first (Fail who s t ∷ events) last (then state e es l legal rest) sound = within_along (after_entry first (Fail who s t)) events last rest (stays_sound first (Fail who s t) sound legal)

pub given_within : (bottom : ℤ) (shape : Shape) (s t : ℕ) (start : List (ℕ × ℤ)) (events : List Entry) (state : State) → IsReachedByEntries bottom shape s t start events state → All (IsWithin bottom s t) (given events)
given_within bottom shape s t start events state reached = within_along (opening bottom shape s t start) events state reached.history (opening_is_sound bottom shape s t start reached.listed)

-- ---- each once

-- a list of squares that has each after its parents, has each once
start_apart : (places : Squares) (b : ℤ) (list : List (ℕ × ℤ)) → IsStart places b list → AllPairs (λ q r. q ≢ r) list
start_apart places b list start i j d before within same =
    let next = next_square places b list j d start within in
    let q : ℕ × ℤ = get_or list j d in
    let test = λ (r : ℕ × ℤ). nat_eq q.0 r.0 && is_number (above_of b r.1) next.above in
    let i_there : i < length (take j list) = omega (arith, length-take-le j list (omega arith)) in
    let first : get_or (take j list) i d ≡ q = get_or-take j list i d before ∙ same in
    let there : get_or (take j list) i q ≡ q = get_or_from_slice_get (take j list) i q q (slice_get-get_or (take j list) i d i_there ∙ ap (λ (r : ℕ × ℤ). Some r) first) in
    let column : is_number (above_of b q.1) next.above ≡ true = ap (λ (o : Option ℕ). is_number o next.above) (above_of-is b q.1 next.above next.degree) ∙ grind (arith, nat_tests) in
    let passes : test q ≡ true = grind (arith, nat_tests) in
    let any = list_any-from_Any test (take j list) (i, q, i_there, there, passes) in
    absurd (let absent = next.absent in cc)

pub given_apart : (bottom : ℤ) (shape : Shape) (s t : ℕ) (start : List (ℕ × ℤ)) (events : List Entry) (state : State) → IsReachedByEntries bottom shape s t start events state → AllPairs (λ q r. q ≢ r) (given events)
given_apart bottom shape s t start events state reached i j d before within same =
    let done = given_once bottom shape s t start events state reached in
    let all = start_apart (stands state) bottom (start ++ given events) (subst (IsStart (stands state) bottom) done.file done.once) in
    let l = length-append start (given events) in
    all (length start + i) (length start + j) d (omega arith) (omega arith) (get_or-append-add start (given events) i d ∙ (same ∙ sym (get_or-append-add start (given events) j d)))
