-- The squares of a stock, listed row by row.
use Rattle.std.proofs.Common.{◌≡◌, ℕ, zero, suc, ◌+◌, ◌<◌, ◌≤◌, ℤ, pos, ◌+ℤ◌, Bool, true, false, ◌&&◌, ◌||◌, nat_lt, nat_eq, List, [], ◌∷◌, ◌++◌, refl, sym, ◌∙◌, ap, subst, arith, inl, inr}
use Rattle.std.proofs.lemmas.Bool.Decides.{nat_tests, eqb_tells}
use Rattle.board_core.specs.Machine.{Squares, HasParents, IsAbove, IsStaircase, squares_of}
use Rattle.board_core.proofs.Filed.{squares_with, start_with}
use Rattle.square_board.specs.Openings.{ListsSquares, below_fronts}
use Rattle.square_board.specs.Inside.Starts.{ListsPart}

module _ (stands : Squares) (low : ℤ) (fronts : ℕ → ℕ) where
  -- one square more of row s
  pub part_more : (start next : List (ℕ × ℤ)) (s n : ℕ) (t : ℤ) → IsStaircase stands (below_fronts fronts) → ListsPart stands low start fronts s n → n < fronts s → IsAbove low t n → next ≡ start ++ (s, t) ∷ [] → ListsPart stands low next fronts s (n + 1)
  part_more start next s n t stairs part within at same =
      let absent : squares_of low start s n ≡ false = let here = part.squares s n in grind (arith, nat_tests) in
      let is : below_fronts fronts s n ≡ true = grind (arith, nat_tests) in
      let parents : HasParents stands (squares_of low start) s n = record {
        before = λ j e. let there = part.squares s j in grind (arith, nat_tests);
        below = λ i e on.
            let done : below_fronts fronts i n ≡ true = (stairs s n is).below i e on in
            let there = part.squares i n in
            grind (arith, nat_tests);
      } in
      let all : ListsPart stands low (start ++ (s, t) ∷ []) fronts s (n + 1) = record {
        once = start_with stands low start (s, t) part.once (record { above = n; degree = at; absent = absent; parents = parents });
        squares = λ i k.
            let with : squares_of low (start ++ (s, t) ∷ []) i k ≡ (squares_of low start i k || (nat_eq i s && nat_eq k n)) = ap (λ (f : Squares). f i k) (squares_with low start s n t at) in
            let there = part.squares i k in
            square_more (fronts i) i k s n _ _ with there (λ e. subst (λ (r : ℕ). n < fronts r) (sym e) within);
      } in
      subst (λ (l : List (ℕ × ℤ)). ListsPart stands low l fronts s (n + 1)) (sym same) all
    where
      square_more : (long i k s n : ℕ) (more old : Bool) → more ≡ (old || (nat_eq i s && nat_eq k n)) → old ≡ (nat_lt k long && (nat_lt i s || (nat_eq i s && nat_lt k n))) → (i ≡ s → n < long) → more ≡ (nat_lt k long && (nat_lt i s || (nat_eq i s && nat_lt k (n + 1))))
      square_more long i k s n more old e f within = elim (eqb_tells i s) [
        | inl p ↦
            let there = within p.1 in
            let same = p.1 in
            grind (arith, nat_tests)
        | inr p ↦
            let other = p.0 in
            grind (arith, nat_tests)
      ]

  pub part_none : ListsPart stands low [] fronts 0 0
  part_none = record {
    once = λ n q e. cc;
    squares = λ i k. grind (arith, nat_tests);
  }

  -- the row is through
  pub part_row : (start : List (ℕ × ℤ)) (s n : ℕ) → fronts s ≤ n → ListsPart stands low start fronts s n → ListsPart stands low start fronts (s + 1) 0
  part_row start s n most part = record {
    once = part.once;
    squares = λ i k. part.squares i k ∙ row_over (fronts i) i k s n (λ e. subst (λ (r : ℕ). fronts r ≤ n) (sym e) most);
  }
    where
      row_over : (long i k s n : ℕ) → (i ≡ s → long ≤ n) → (nat_lt k long && (nat_lt i s || (nat_eq i s && nat_lt k n))) ≡ (nat_lt k long && (nat_lt i (s + 1) || (nat_eq i (s + 1) && nat_lt k 0)))
      row_over long i k s n most = elim (eqb_tells i s) [
        | inl p ↦
            let short = most p.1 in
            let same = p.1 in
            grind (arith, nat_tests)
        | inr p ↦
            let other = p.0 in
            grind (arith, nat_tests)
      ]

  -- all rows are through
  pub part_all : (start : List (ℕ × ℤ)) (s : ℕ) → ((i : ℕ) → s ≤ i → fronts i ≡ 0) → ListsPart stands low start fronts s 0 → ListsSquares stands low start fronts
  part_all start s none part = record {
    once = part.once;
    squares = λ i k. part.squares i k ∙ no_more (fronts i) i k s (none i);
  }
    where
      no_more : (long i k s : ℕ) → (s ≤ i → long ≡ 0) → (nat_lt k long && (nat_lt i s || (nat_eq i s && nat_lt k 0))) ≡ nat_lt k long
      no_more long i k s past = grind (arith, nat_tests)

  -- ---- a list of the squares

  list_row : (s n : ℕ) → IsStaircase stands (below_fronts fronts) → n ≤ fronts s → (start : List (ℕ × ℤ)) → ListsPart stands low start fronts s 0 → (l : List (ℕ × ℤ)) × ListsPart stands low l fronts s n
  list_row s zero stairs short start part = (start, part)
  list_row s (suc n) stairs short start part =
      let before = list_row s n stairs (omega arith) start part in
      let next = before.0 ++ (s, low +ℤ pos n) ∷ [] in
      let all : ListsPart stands low next fronts s (n + 1) = part_more before.0 next s n (low +ℤ pos n) stairs before.1 (omega arith) refl refl in
      (next, subst (λ (m : ℕ). ListsPart stands low next fronts s m) (omega arith) all)

  list_rows : (s : ℕ) → IsStaircase stands (below_fronts fronts) → (l : List (ℕ × ℤ)) × ListsPart stands low l fronts s 0
  list_rows zero stairs = ([], part_none)
  list_rows (suc s) stairs =
      let before = list_rows s stairs in
      let row = list_row s (fronts s) stairs (omega arith) before.0 before.1 in
      let all : ListsPart stands low row.0 fronts (s + 1) 0 = part_row row.0 s (fronts s) (omega arith) row.1 in
      (row.0, subst (λ (m : ℕ). ListsPart stands low row.0 fronts m 0) (omega arith) all)

  -- there is one
  pub listing : (s : ℕ) → ((i : ℕ) → s ≤ i → fronts i ≡ 0) → IsStaircase stands (below_fronts fronts) → (l : List (ℕ × ℤ)) × ListsSquares stands low l fronts
  listing s none stairs =
      let all = list_rows s stairs in
      (all.0, part_all all.0 s none all.1)
