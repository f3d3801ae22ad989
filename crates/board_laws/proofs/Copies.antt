-- A copy of rows that is made when a square is taken has all that the square is made from.
use Rattle.std.proofs.Common.{◌≡◌, ℕ, zero, suc, ◌+◌, ◌<◌, ◌≤◌, true, List, ◌∷◌, map, Option, Some, None, is_some, unwrap_or, MatchOption, refl, sym, ◌∙◌, ap, subst, arith, inl, inr}
use Rattle.std.specs.List.{filter_map, range_with_len, cons_option}
use Rattle.std.proofs.lemmas.Bool.Decides.{eqb_tells}
use Rattle.board_core.specs.Machine.{Squares, all_squares, HasParents, IsStaircase}
use Rattle.resolution_laws.specs.Resolution.{Module, Content, no_content, IsStep}
use Rattle.resolution_laws.specs.Start.{Entry, entry_at, HasShape, squares_below, row_below, IsOf}
use Rattle.resolution_laws.specs.Start.IsOf.{is_of}
use Rattle.resolution_existence.proofs.Steps.{step_over}
use Rattle.free_module.specs.Graded.{KeepsWidths}
use Rattle.board_laws.specs.Filled.{Contents, row_copy, copy_below}
use Rattle.board_laws.proofs.Agreement.{held_squares}

-- ---- a staircase has all squares of a row before one that it has

row_before : (done : Squares) → IsStaircase all_squares done → (s k : ℕ) → done s k ≡ true → (j : ℕ) → j ≤ k → done s j ≡ true
row_before done stairs s zero here j l =
    let same : zero ≡ j = omega arith in
    subst (λ (n : ℕ). done s n ≡ true) same here
row_before done stairs s (suc k) here j l = elim (eqb_tells (suc k) j) [
  | inl p ↦ subst (λ (n : ℕ). done s n ≡ true) p.1 here
  | inr p ↦
      let other = p.1 in
      row_before done stairs s k ((stairs s (suc k) here).before k refl) j (omega arith)
]

own_row : (done : Squares) → IsStaircase all_squares done → (s k : ℕ) → HasParents all_squares done s k → (j : ℕ) → j < k → done s j ≡ true
own_row done stairs s zero parents j l = absurd (omega arith)
own_row done stairs s (suc k) parents j l = row_before done stairs s k (parents.before k refl) j (omega arith)

-- ---- a copy of done squares

-- what the board holds at a place that is done
abbrev content_in : Contents → ℕ → ℕ → Content
content_in done s k = unwrap_or (done s k) no_content

held : (o : Option Content) → is_some o ≡ true → o ≡ Some (unwrap_or o no_content)
held None e = cc
held (Some content) e = refl

copied : (row : ℕ → Option Content) (at : ℕ → Content) (a n : ℕ) → ((j : ℕ) → j < a + n → row j ≡ Some (at j)) → filter_map row (range_with_len a n) ≡ map at (range_with_len a n)
copied row at a zero h = refl
copied row at a (suc n) h =
    ap (λ o. cons_option o (filter_map row (range_with_len (a + 1) n))) (h a (omega arith))
    ∙ ap (λ l. at a ∷ l) (copied row at (a + 1) n (λ j l. h j (omega arith)))

row_copied : (done : Contents) (s k : ℕ) → ((j : ℕ) → j < k → is_some (done s j) ≡ true) → row_copy (done s) k ≡ squares_below (content_in done) s k
row_copied done s k h = copied (done s) (content_in done s) 0 k (λ j l. held (done s j) (h j (omega arith)))

below_copied : (done : Contents) (s k : ℕ) → ((i j : ℕ) → suc i ≡ s → j ≤ k → is_some (done i j) ≡ true) → copy_below done s k ≡ row_below (content_in done) s k
below_copied done zero k h = refl
below_copied done (suc s) k h = ap (λ (l : List Content). Some l) (row_copied done s (suc k) (λ j l. h s j refl (omega arith)))

-- the step over the copy is the square of the table, where each done square is, and no entry has its place
pub copy_gives : (m : Module) (first : List Entry) (done : Contents) (s k : ℕ) (content : Content) → ((i j : ℕ) (c : Content) → done i j ≡ Some c → IsOf m first i j c) → IsStaircase all_squares (held_squares done) → HasParents all_squares (held_squares done) s k → entry_at first s k ≡ None
    → IsStep m (copy_below done s k) (row_copy (done s) k) content → IsOf m first s k content
copy_gives m first done s k content stands stairs parents absent step =
    let at = content_in done in
    let squares = squares_below at s k in
    let below = row_below at s k in
    let before : (j : ℕ) → j < k → is_some (done s j) ≡ true = own_row (held_squares done) stairs s k parents in
    let under : (i j : ℕ) → suc i ≡ s → j ≤ k → is_some (done i j) ≡ true = λ i j e l. row_before (held_squares done) stairs i k (parents.below i e refl) j l in
    let own : IsStep m (copy_below done s k) squares content = subst (λ (l : List Content). IsStep m (copy_below done s k) l content) (row_copied done s k before) step in
    let whole : IsStep m below squares content = subst (λ (o : Option (List Content)). IsStep m o squares content) (below_copied done s k under) own in
    let P : Option Content → Type 0 = λ found. MatchOption found (IsStep m below squares content) (λ read. (content ≡ read) × HasShape m below squares content) in
    is_of s k at content
    (λ j l. stands s j (at s j) (held (done s j) (before j l)))
    (λ i j e l. stands i j (at i j) (held (done i j) (under i j e l)))
    (subst P (sym absent) whole)

-- and there is a step over the copy
pub copy_steps : (m : Module) (first : List Entry) (done : Contents) (s k : ℕ) → KeepsWidths m.graded → ((i j : ℕ) (c : Content) → done i j ≡ Some c → IsOf m first i j c) → IsStaircase all_squares (held_squares done) → HasParents all_squares (held_squares done) s k → (content : Content) × IsStep m (copy_below done s k) (row_copy (done s) k) content
copy_steps m first done s k keeps stands stairs parents =
    let at = content_in done in
    let before : (j : ℕ) → j < k → is_some (done s j) ≡ true = own_row (held_squares done) stairs s k parents in
    let under : (i j : ℕ) → suc i ≡ s → j ≤ k → is_some (done i j) ≡ true = λ i j e l. row_before (held_squares done) stairs i k (parents.below i e refl) j l in
    let step = step_over m first s k at keeps (record {
      before = λ j l. stands s j (at s j) (held (done s j) (before j l));
      below = λ i j e l. stands i j (at i j) (held (done i j) (under i j e l));
    }) in
    let own : IsStep m (row_below at s k) (row_copy (done s) k) step.0 = subst (λ (l : List Content). IsStep m (row_below at s k) l step.0) (sym (row_copied done s k before)) step.1 in
    (step.0, subst (λ (o : Option (List Content)). IsStep m o (row_copy (done s) k) step.0) (sym (below_copied done s k under)) own)
