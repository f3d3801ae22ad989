-- Lifts grow by a row.
use Rattle.std.proofs.Common.{◌≡◌, inl, inr, ℕ, zero, suc, ◌+◌, ◌<◌, ◌≤◌, Bool, ℤ, pos, ◌+ℤ◌, List, [], ◌∷◌, ◌++◌, refl, ap, sym, subst, ◌∙◌, arith}
use Rattle.std.proofs.lemmas.Bool.{cases_lt}
use Rattle.std.proofs.lemmas.List.{get_or_append_left, get_or_push, length_push}
use Rattle.square.specs.Squares.{bottom_of}
use Rattle.square.specs.Tables.{Staircase}
use Rattle.chain_map.specs.Lifting.{chosen_preimage, LiftValues, row_values, joined, next_goal}
use Rattle.chain_map.specs.Inside.{AreMade, goal_of, IsMade, Reaches}
use Rattle.square.proofs.Pushing.{never_rises}

-- the same values for what is the same to be covered
AreMade-same : (table sphere : Staircase) (i k : ℕ) (x : ℤ) (goal other : ℕ → List Bool) (n : ℕ) (v : List (List (List Bool))) → ((g : ℕ) → goal g ≡ other g) → AreMade table sphere i k x goal n v → AreMade table sphere i k x other n v
AreMade-same table sphere i k x goal other n v same p = record {
  one_each = p.one_each;
  chosen = record {
    one_each = p.chosen.one_each;
    each = λ g l. let c = p.chosen.each g l in record { inverse = c.inverse; is = c.is; value = c.value ∙ ap (λ (w : List Bool). chosen_preimage c.inverse w) (same g); fits = c.fits };
  };
}

-- the rows below are enough to say what a row has to cover
goal_same : (table sphere : Staircase) (s above n far c : ℕ) (old new : LiftValues) (k : ℕ) → ((j : ℕ) → suc j ≡ k → row_values old j ≡ row_values new j) → (g : ℕ) → goal_of table sphere s above n far c old k g ≡ goal_of table sphere s above n far c new k g
goal_same table sphere s above n far c old new zero same g = refl
goal_same table sphere s above n far c old new (suc k) same g = ap (λ (v : List (List (List Bool))). next_goal table sphere (s + k) k above n far (joined v) g) (same k refl)

pub made_row : (table sphere : Staircase) (s above n far c k : ℕ) (old new : LiftValues) (row : List (List (List Bool))) → new ≡ record { bottom = old.bottom; rows = old.rows ++ row ∷ [] } → IsMade table sphere s above n far c k old → AreMade table sphere (s + k) k (bottom_of table.resolved +ℤ pos above) (goal_of table sphere s above n far c old k) n row → IsMade table sphere s above n far c (k + 1) new
made_row table sphere s above n far c k old new row e made added =
    let more : LiftValues = record { bottom = old.bottom; rows = old.rows ++ row ∷ [] } in
    let x = bottom_of table.resolved +ℤ pos above in
    let count = made.rows in
    let earlier : (j : ℕ) → j < k → row_values old j ≡ row_values more j = λ j l. sym (get_or_append_left old.rows (row ∷ []) [] j (omega arith)) in
    let last : row ≡ row_values more k = sym (get_or_push old.rows row [] k count) in
    let grown : IsMade table sphere s above n far c (k + 1) more = record {
      bottom = made.bottom;
      rows = length_push old.rows row ∙ ap (λ (z : ℕ). z + 1) count;
      values = λ j l. elim (cases_lt j k) [
        | inl b ↦
            AreMade-same table sphere (s + j) j x (goal_of table sphere s above n far c old j) (goal_of table sphere s above n far c more j) n (row_values more j) (goal_same table sphere s above n far c old more j (λ i d. earlier i (omega arith)))
            (subst (AreMade table sphere (s + j) j x (goal_of table sphere s above n far c old j) n) (earlier j b) (made.values j b))
        | inr b ↦
            let at : k ≡ j = omega arith in
            let P : ℕ → Type 0 = λ j. AreMade table sphere (s + j) j x (goal_of table sphere s above n far c more j) n (row_values more j) in
            subst P at (AreMade-same table sphere (s + k) k x (goal_of table sphere s above n far c old k) (goal_of table sphere s above n far c more k) n (row_values more k) (goal_same table sphere s above n far c old more k (λ i d. earlier i (omega arith)))
            (subst (AreMade table sphere (s + k) k x (goal_of table sphere s above n far c old k) n) last added))
      ];
    } in
    subst (IsMade table sphere s above n far c (k + 1)) (sym e) grown

-- the tables have the rows below
pub reaches_below : (table sphere : Staircase) (s above k upto n far : ℕ) → k ≤ upto → Reaches table sphere s above upto n far → Reaches table sphere s above k n far
reaches_below table sphere s above k upto n far l p =
    let more = never_rises table p.is_table (s + k) (s + upto) (omega arith) in
    let more_q = never_rises sphere p.is_sphere_table k upto l in
    record { is_table = p.is_table; is_sphere_table = p.is_sphere_table; row = omega arith; some = p.some; here = omega arith; there = omega arith; enough = p.enough; class_there = p.class_there }
