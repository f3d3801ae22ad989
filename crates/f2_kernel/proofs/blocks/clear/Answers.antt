use Rattle.std.proofs.Common.{◌≡◌, ℕ, ◌<◌, Bool, List, [], map, length, sym, subst, ap, ◌∙◌}
use Rattle.std.specs.List.{All}
use Rattle.std.proofs.lemmas.Bool.{both_ways}
use Rattle.std.proofs.lemmas.List.{length-map}
use Rattle.std.proofs.lemmas.List.Elements.{All-map, All-same, All-from_get_or}
use Rattle.f2_vec.specs.Vectors.{sum_of, bit}
use Rattle.f2_vec.specs.Spans.{HaveWidth, combination}
use Rattle.f2_vec.proofs.Combinations.{map-map}
use Rattle.f2_matrix.specs.Echelon.{HasNoZeroRow}
use Rattle.f2_matrix.specs.Preimages.{pivot_of, rest_of}
use Rattle.f2_matrix.proofs.Pivots.{pivot_within}
use Rattle.f2_sums.specs.Sums.{cleared_at}
use Rattle.f2_kernel.proofs.AtMarks.{rest_none, none_at_pivots}
use Rattle.f2_kernel.proofs.blocks.clear.Goals as goal

-- a vector that is cleared at the pivots
at_the_pivots : (n : ℕ) (rows : List (List Bool)) (v : List Bool) → cleared_at n (map pivot_of rows) rows v ≡ rest_of n rows v
at_the_pivots n rows v = ap (λ c. sum_of v (combination n c rows)) (map-map (bit v) pivot_of rows)

pivots_below : (n : ℕ) (rows : List (List Bool)) → HaveWidth n rows → HasNoZeroRow rows → All (λ p. p < n) (map pivot_of rows)
pivots_below n rows w nonzero = All-map (λ p. p < n) pivot_of rows (All-from_get_or (λ r. pivot_of r < n) rows [] (λ i l. pivot_within n rows i w nonzero l))

pub clear-requires-clause-vector : goal.clear-requires-clause-vector
clear-requires-clause-vector c = c.requires.vector ∙ sym c.requires.width

pub clear-requires-clause-places : goal.clear-requires-clause-places
clear-requires-clause-places c =
    let n = c.args.n in
    let ps = c.args.pivots.now in
    let rows = c.args.tables.now.rows in
    subst (λ k. All (λ p. p < k) ps) (sym c.requires.width) (All-same (λ p. p < n) ps (map pivot_of rows) c.requires.pivots (pivots_below n rows c.requires.widths c.requires.nonzero))

pub clear-requires-clause-one_each : goal.clear-requires-clause-one_each
clear-requires-clause-one_each c = ap length c.requires.pivots ∙ length-map c.args.tables.now.rows pivot_of

pub returns-then-has_mark : goal.returns-then-has_mark
returns-then-has_mark c =
    let rows = c.args.tables.now.rows in
    c.clear.ensures
    ∙ ap (λ k. cleared_at k c.args.pivots.now rows c.args.vector.now) c.requires.width
    ∙ ap (λ ps. cleared_at c.args.n ps rows c.args.vector.now) c.requires.pivots
    ∙ at_the_pivots c.args.n rows c.args.vector.now

pub returns-else-has_mark : goal.returns-else-has_mark
returns-else-has_mark c =
    let rows = c.args.tables.now.rows in
    sym (rest_none c.args.n rows c.args.vector.now c.requires.vector
    (none_at_pivots rows c.args.marks.now.vector c.args.vector.now c.args.marks.now.words.items c.requires.marks (λ m p l e one mark. both_ways c.has_mark.result c.if-has_mark.false (c.has_mark.ensures.1 (m, p, l, e, one, mark)))))
