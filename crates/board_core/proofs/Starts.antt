-- The squares of a start.
use Rattle.std.proofs.Common.{◌≡◌, ℕ, zero, suc, ◌+◌, ◌<◌, ◌≤◌, ℤ, pos, false, ◌&&◌, ◌||◌, nat_eq, List, length, take, get_or, Option, Some, sym, ◌∙◌, ap, subst, arith}
use Rattle.std.proofs.Math.Path.{fun_ext}
use Rattle.std.proofs.lemmas.List.{take_all}
use Rattle.std.proofs.lemmas.List.Folds.{list_any_more}
use Rattle.std.proofs.lemmas.Option.{slice_get-get_or}
use Rattle.bidegree.specs.Above.{above_of}
use Rattle.bidegree.proofs.Degrees.{above_of-is}
use Rattle.board_core.specs.Machine.{Squares, HasParents, IsStaircase, insert_square, IsAbove, is_number, squares_of, IsNextSquare, IsStart}
use Rattle.board_core.proofs.Sound.{staircase_more}

pub next_square : (places : Squares) (b : ℤ) (list : List (ℕ × ℤ)) (i : ℕ) (d : ℕ × ℤ) → IsStart places b list → i < length list → IsNextSquare places b (take i list) (get_or list i d)
next_square places b list i d start within = start i (get_or list i d) (slice_get-get_or list i d within)

pub same_above : (b t : ℤ) (j k : ℕ) → above_of b t ≡ Some j → IsAbove b t k → k ≡ j
same_above b t j k e h = let f = above_of-is b t k h in cc

-- one square more of the list
pub one_more : (b : ℤ) (list : List (ℕ × ℤ)) (i : ℕ) (d : ℕ × ℤ) (k : ℕ) → i < length list → above_of b (get_or list i d).1 ≡ Some k → squares_of b (take (i + 1) list) ≡ insert_square (squares_of b (take i list)) (get_or list i d).0 k
one_more b list i d k within e = fun_ext (λ s. fun_ext (λ j.
    list_any_more (λ (q : ℕ × ℤ). nat_eq s q.0 && is_number (above_of b q.1) j) list i d within
    ∙ ap (λ (o : Option ℕ). squares_of b (take i list) s j || (nat_eq s (get_or list i d).0 && is_number o j)) e))

-- what is so of no squares, and stays so with one square more that is not there and has its parents, is so of a start's
pub over_start : (places : Squares) (P : Squares → Type 0) → P (λ s k. false) → ((done : Squares) (s k : ℕ) → HasParents places done s k → done s k ≡ false → P done → P (insert_square done s k)) → (b : ℤ) (list : List (ℕ × ℤ)) → IsStart places b list → P (squares_of b list)
over_start places P none more b list start = subst (λ (l : List (ℕ × ℤ)). P (squares_of b l)) (take_all (length list) list (omega arith)) (parts (length list) (omega arith))
  where
    parts : (i : ℕ) → i ≤ length list → P (squares_of b (take i list))
    parts zero within = none
    parts (suc i) within =
        let next = next_square places b list i (0, pos 0) start (omega arith) in
        let one = one_more b list i (0, pos 0) next.above (omega arith) (above_of-is b (get_or list i (0, pos 0)).1 next.above next.degree) in
        let after : P (squares_of b (take (i + 1) list)) = subst P (sym one) (more (squares_of b (take i list)) (get_or list i (0, pos 0)).0 next.above next.parents next.absent (parts i (omega arith))) in
        let e : i + 1 ≡ suc i = omega arith in
        subst (λ (n : ℕ). P (squares_of b (take n list))) e after

pub start_is_staircase : (places : Squares) (b : ℤ) (list : List (ℕ × ℤ)) → IsStart places b list → IsStaircase places (squares_of b list)
start_is_staircase places = over_start places (IsStaircase places) (λ s k e. cc) (λ done s k parents absent stairs. staircase_more done s k stairs parents)
