-- A view has at most all squares of its range.
use Rattle.std.proofs.Common.{◌≡◌, ℕ, zero, suc, ◌+◌, ◌*◌, ◌≤◌, List, length, map, sym, ap, subst, ◌∙◌, arith}
use Rattle.std.specs.Prelude.{min}
use Rattle.std.specs.List.{sum, range_with_len}
use Rattle.std.proofs.Math.Nat.{suc-mul}
use Rattle.std.proofs.lemmas.List.FromFn.{sum_by-map-range_with_len_more}
use Rattle.bidegree.specs.declared.range.Range.{Range}
use Rattle.live_view.specs.Views.{row_of}
use Rattle.live_view.specs.Chart.{squares_within}
use Rattle.live_worker.specs.Reports.{squares_of}

-- rows of at most so many squares each
rows_most : (f : ℕ → ℕ) (w n : ℕ) → ((s : ℕ) → f s ≤ w) → sum (map f (range_with_len 0 n)) ≤ n * w
rows_most f w zero most = omega arith
rows_most f w (suc n) most =
    let before = sum (map f (range_with_len 0 n)) in
    let next : n + 1 ≡ suc n = omega arith in
    let one : before + f n ≡ sum (map f (range_with_len 0 (suc n))) = sym (sum_by-map-range_with_len_more (λ x. x) f 0 n n (omega arith)) ∙ ap (λ (k : ℕ). sum (map f (range_with_len 0 k))) next in
    let low : before ≤ n * w = rows_most f w n most in
    let here : f n ≤ w = most n in
    let times : suc n * w ≡ n * w + w = suc-mul n w in
    subst (λ (k : ℕ). k ≤ suc n * w) one (subst (λ (k : ℕ). before + f n ≤ k) (sym times) (omega arith))

squares_most : (range : Range) (view : List (List ℕ)) → squares_within range view ≤ squares_of range
squares_most range view = rows_most (λ s. min (length (row_of view s)) (range.t + 1)) (range.t + 1) (range.s + 1) (λ s. omega arith)

pub squares_fit : (range of : Range) (view : List (List ℕ)) (n all : ℕ) → n ≡ squares_within range view → range ≡ of → all ≡ squares_of of → n ≤ all
squares_fit range of view n all is at whole =
    let most : n ≤ squares_of range = subst (λ (k : ℕ). k ≤ squares_of range) (sym is) (squares_most range view) in
    subst (λ (k : ℕ). n ≤ k) (sym whole) (subst (λ (r : Range). n ≤ squares_of r) at most)
