-- While squares of the range are unfinished, and none is out, some square is ready.
use Rattle.std.proofs.Common.{◌≡◌, ℕ, zero, suc, ◌+◌, ◌≤◌, ◌⊎◌, ℤ, pos, ◌+ℤ◌, true, false, Bool, nat_lt, List, [], None, refl, sym, ap, subst, arith, inl, inr}
use Rattle.std.proofs.lemmas.Bool.{cases_Bool}
use Rattle.std.proofs.lemmas.Bool.Decides.{nat_tests, eqb_tells}
use Rattle.bidegree.specs.declared.shape.Shape.{Shape}
use Rattle.bidegree.specs.declared.shape.Shape.TheVariants.{Rectangle, Stems}
use Rattle.board_core.specs.declared.event.Out.{Out}
use Rattle.board_core.specs.declared.event.Event.{Event}
use Rattle.board_core.specs.Laws.{IsReached, HasReady, HasUnfinished}
use Rattle.board_core.specs.Machine.{Squares, HasParents, State, stands_in, stands, is_meant_in, IsRowNumberBelow, is_out, insert_square}
use Rattle.board_core.proofs.BelowFronts.{stands_first, front_number}
use Rattle.board_core.proofs.Starts.{over_start}
use Rattle.board_core.proofs.Filed.{reached_is_whole}

-- ---- the number of squares of a row

-- the squares of a row are those below a front
record HasFront (done : Squares) (s : ℕ) : Type 0 where
  front : ℕ
  below : (k : ℕ) → done s k ≡ nat_lt k front

abbrev HaveFronts : Squares → Type 0
HaveFronts done = (s : ℕ) → HasFront done s

fronts_more : {places : Squares} (done : Squares) (s k : ℕ) → HasParents places done s k → done s k ≡ false → HaveFronts done → HaveFronts (insert_square done s k)
fronts_more {places} done s k parents absent fronts i = elim (eqb_tells i s) [
  | inl p ↦
      let at = fronts i in
      let row : i ≡ s = p.1 in
      let first : k ≡ at.front = stands_first done i k at.front at.below (subst (λ (n : ℕ). HasParents places done n k) (sym row) parents) (subst (λ (n : ℕ). done n k ≡ false) (sym row) absent) in
      record { front = suc k; below = λ j. let here = at.below j in grind (arith, nat_tests) }
  | inr p ↦
      let at = fronts i in
      record { front = at.front; below = λ j. let here = at.below j in grind (arith, nat_tests) }
]

record HasNumberBelow (done : Squares) (s : ℕ) : Type 0 where
  number : ℕ
  counts : IsRowNumberBelow done s number

number_below : (done : Squares) (s : ℕ) → HaveFronts done → HasNumberBelow done s
number_below done zero fronts = record { number = 0; counts = refl }
number_below done (suc s) fronts = record { number = (fronts s).front; counts = front_number (done s) (fronts s).front (fronts s).below }

-- ---- the first square that is not done

-- the square below one that stands on it is meant too
below_is_meant : (shape : Shape) (s t i k : ℕ) → stands_in shape s t (suc i) k ≡ true → is_meant_in shape s t i k ≡ true
below_is_meant Rectangle s t i k on = refl
below_is_meant Stems s t i k on = grind (arith, nat_tests)

-- and so is the one before a square that is meant
before_is_meant : (shape : Shape) (s t i k : ℕ) → is_meant_in shape s t i (suc k) ≡ true → is_meant_in shape s t i k ≡ true
before_is_meant Rectangle s t i k meant = refl
before_is_meant Stems s t i k meant = grind (arith, nat_tests)

module _ (shape : Shape) (rows degrees : ℕ) (done : Squares) where
  abbrev on : Squares
  on = stands_in shape rows degrees

  abbrev meant_at : Squares
  meant_at = is_meant_in shape rows degrees

  -- a square that is meant, is not done and has its parents done, in no greater row and of no greater degree
  record HasFirst (s k : ℕ) : Type 0 where
    row : ℕ
    degree : ℕ
    row_within : row ≤ s
    degree_within : degree ≤ k
    meant : meant_at row degree ≡ true
    not_done : done row degree ≡ false
    parents : HasParents on done row degree

  -- one step down is a step down
  from_lower : (s k i j : ℕ) → i ≤ s → j ≤ k → HasFirst i j → HasFirst s k
  from_lower s k i j row column f =
      let r = f.row_within in
      let d = f.degree_within in
      record { row = f.row; degree = f.degree; row_within = omega arith; degree_within = omega arith; meant = f.meant; not_done = f.not_done; parents = f.parents }

  -- the square before one that is not done, or that below it, is not done; or it has its parents done
  record IsLower (n s k : ℕ) : Type 0 where
    row : ℕ
    degree : ℕ
    row_within : row ≤ s
    degree_within : degree ≤ k
    nearer : row + degree ≤ n
    meant : meant_at row degree ≡ true
    not_done : done row degree ≡ false

  lower_or_first : (n s k : ℕ) → s + k ≤ suc n → meant_at s k ≡ true → IsLower n s k ⊎ HasParents on done s k
  lower_or_first n s k within meant = elim (before k meant within) [ inl lower ↦ inl lower | inr left ↦ elim (below s within) [ inl lower ↦ inl lower | inr under ↦ inr (record { before = left; below = under }) ] ]
    where
      before : (k : ℕ) → meant_at s k ≡ true → s + k ≤ suc n → IsLower n s k ⊎ ((j : ℕ) → suc j ≡ k → done s j ≡ true)
      before zero meant within = inr (λ j e. absurd (omega arith))
      before (suc k) meant within = elim (cases_Bool (done s k)) [
        | inl passes ↦ inr (λ j e. let same : j ≡ k = omega arith in subst (λ (i : ℕ). done s i ≡ true) (sym same) passes)
        | inr fails ↦ inl (record { row = s; degree = k; row_within = omega arith; degree_within = omega arith; nearer = omega arith; meant = before_is_meant shape rows degrees s k meant; not_done = fails })
      ]

      below : (s : ℕ) → s + k ≤ suc n → IsLower n s k ⊎ ((i : ℕ) → suc i ≡ s → on s k ≡ true → done i k ≡ true)
      below zero within = inr (λ i e. absurd (omega arith))
      below (suc s) within = elim (cases_Bool (done s k)) [
        | inl passes ↦ inr (λ i e h. let same : i ≡ s = omega arith in subst (λ (j : ℕ). done j k ≡ true) (sym same) passes)
        | inr fails ↦ elim (cases_Bool (on (suc s) k)) [
          | inl stands ↦ inl (record { row = s; degree = k; row_within = omega arith; degree_within = omega arith; nearer = omega arith; meant = below_is_meant shape rows degrees s k stands; not_done = fails })
          | inr free ↦ inr (λ i e h. absurd (cc))
        ]
      ]

  -- within so many steps down
  first_missing : (n s k : ℕ) → s + k ≤ n → meant_at s k ≡ true → done s k ≡ false → HasFirst s k
  first_missing zero s k within meant absent = record { row = s; degree = k; row_within = omega arith; degree_within = omega arith; meant = meant; not_done = absent; parents = record { before = λ j e. absurd (omega arith); below = λ i e h. absurd (omega arith) } }
  first_missing (suc n) s k within meant absent = elim (lower_or_first n s k within meant) [
    | inl lower ↦ from_lower s k lower.row lower.degree lower.row_within lower.degree_within (first_missing n lower.row lower.degree lower.nearer lower.meant lower.not_done)
    | inr parents ↦ record { row = s; degree = k; row_within = omega arith; degree_within = omega arith; meant = meant; not_done = absent; parents = parents }
  ]

-- ---- the law

pub some_ready : (bottom : ℤ) (shape : Shape) (s t : ℕ) (start : List (ℕ × ℤ)) (events : List Event) (state : State) → IsReached bottom shape s t start events state → state.running ≡ true → state.cause ≡ None → state.out ≡ [] → HasUnfinished state → HasReady state
some_ready bottom shape s t start events state reached running no_cause none_out missing =
    let no_fronts : HaveFronts (λ i j. false) = λ i. record { front = 0; below = λ k. grind (arith, nat_tests) } in
    let filed = (reached_is_whole bottom shape s t start events state reached).filed in
    let fronts : HaveFronts state.done = subst HaveFronts (sym (filed.done running)) (over_start (stands state) HaveFronts no_fronts fronts_more state.bottom state.file filed.listed) in
    let first = first_missing state.shape state.rows state.degrees state.done (missing.s + missing.above) missing.s missing.above (omega arith) missing.in_range.meant missing.not_done in
    let number = fronts first.row in
    let below = number_below state.done first.row fronts in
    let r = first.row_within in
    let d = first.degree_within in
    let row = missing.in_range.row in
    let degree = missing.in_range.degree in
    let free : is_out state.out first.row first.degree ≡ false = ap (λ (l : List Out). is_out l first.row first.degree) none_out in
    record {
      s = first.row;
      t = state.bottom +ℤ pos first.degree;
      snapshot = (number.front, below.number);
      legal = λ who. record {
        above = first.degree;
        degree = refl;
        ready = record { running = running; no_cause = no_cause; in_range = record { row = omega arith; degree = omega arith; meant = first.meant }; parents = first.parents; not_done = first.not_done; not_out = free };
        row = front_number (state.done first.row) number.front number.below;
        row_below = below.counts;
      };
    }
