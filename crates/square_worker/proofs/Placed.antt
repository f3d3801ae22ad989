-- A square that is put at its place.
use Rattle.std.proofs.Common.{◌≡◌, ℕ, ◌+◌, ◌<◌, ◌≤◌, ℤ, pos, ◌+ℤ◌, List, ◌∷◌, [], ◌++◌, length, refl, sym, ◌∙◌, ap, subst, arith}
use Rattle.std.proofs.lemmas.List.{length_push}
use Rattle.square.specs.Squares.{Placed, over, bottom_of}
use Rattle.square.specs.Tables.{Footing, IsTable, IsNext, row_in, with_square}
use Rattle.square.specs.Keeping.{Keeper, HasPut}
use Rattle.square.proofs.Pushing.{row_in-same, row_in-other}
use Rattle.square_board.specs.Stocks.{IsNextOf, HasOneMore, degree_of}
use Rattle.square_worker.specs.Kept.{KeptTable, IsForPlace, IsMadeFrom, HasGiven, without_squares, kept_words}

module _ {K : Type 0} (telling : K → Keeper) (old new : KeptTable K) (f : Footing) (q : Placed) (s k : ℕ) (is : IsTable old.table) (next : IsNextOf (kept_words telling) old s k) (place : IsForPlace (without_squares old.table) s k f) (made : IsMadeFrom f q) where
  row : q.s ≡ s
  row = made.s ∙ place.s_is

  pub there : q.s < length old.table.rows
  there = let r = row in let most = next.place.row in let all = next.reached.0 in let rows = is.rows in omega arith

  is_next : IsNext old.table.rows s k
  is_next =
      let here = next.place.next in
      record {
        absent = omega arith;
        before = λ j e. omega arith;
        below = λ i e. next.place.below i e refl;
      }

  pub given : HasPut (over old.table.resolved) old.table.start (telling old.keeper) (telling new.keeper) old.table new.table q → HasGiven telling old new s (degree_of (kept_words telling) (without_squares old.table) k)
  given put =
      let above : q.above ≡ k = made.above ∙ place.above_is in
      record {
        square = q;
        row = row;
        degree = ap (λ (n : ℕ). bottom_of old.table.resolved +ℤ pos n) (sym above);
        there = there;
        next = subst (λ (n : ℕ). IsNext old.table.rows q.s n) (sym above) (subst (λ (n : ℕ). IsNext old.table.rows n k) (sym row) is_next);
        put = put;
      }

  pub one_more : new.table.rows ≡ with_square old.table.rows q.s q → HasOneMore s ((kept_words telling).fronts old) ((kept_words telling).fronts new)
  one_more rows =
      let same : new.table.rows ≡ with_square old.table.rows s q = rows ∙ ap (λ (n : ℕ). with_square old.table.rows n q) row in
      let here : s < length old.table.rows = subst (λ (n : ℕ). n < length old.table.rows) row there in
      record {
        here = let push = length_push (row_in old.table.rows s) q in ap (λ (r : List (List Placed)). length (row_in r s)) same ∙ (ap length (row_in-same old.table.rows s q here) ∙ omega arith);
        others = λ i off. ap (λ (r : List (List Placed)). length (row_in r i)) same ∙ ap length (row_in-other old.table.rows s i q off);
      }
