use Rattle.std.proofs.Common.{◌≡◌, ◌+◌, ◌<◌, ℕ, List, Bool, [], ◌++◌, length, drop, map, get_or, ap, sym, ◌∙◌, arith}
use Rattle.std.proofs.lemmas.List.{get_or_default, get_or-set_same}
use Rattle.f2_vec.specs.Spans.{row, HaveWidth}
use Rattle.f2_matrix.specs.Inside.RowOperations.{cleared}
use Rattle.f2_sums.specs.Sums.{cleared_at}
use Rattle.f2_matrix.proofs.BlockSteps.{length-cleared_at}
use Rattle.f2_matrix.proofs.BlockParts.{taken_from_parts, first_and_rest, set_first, swapped_widths}
use Rattle.f2_matrix.proofs.blocks.take_pivot.Goals as goal

-- what the call of `clear_at` gives is as wide as the rows, and is what is read of it
pivot_width : (n : ℕ) (ps : List ℕ) (block back : List (List Bool)) (q d f : List Bool) → HaveWidth n block → HaveWidth n back → 0 < length back → q ≡ cleared_at n ps block (get_or back 0 d) → length q ≡ n
pivot_width n ps block back q d f wb wk h e = ap length e ∙ length-cleared_at n ps block (get_or back 0 d) wb (ap length (get_or_default back 0 d [] h) ∙ wk 0 h)

pub clear_by-requires-clause-widths : goal.clear_by-requires-clause-widths
clear_by-requires-clause-widths c = λ i l.
    let n = c.args.cols in
    let block = c.split_at_mut-block.result.1.now in
    let back = c.split_at_mut-above.result.1.now in
    let w = swapped_widths n (c.args.settled + length c.args.places.now) c.args.found c.args.rows.now c.swap.new.self c.split_at_mut-block.result.0.now block back c.split_at_mut-above.result.0.now c.requires.rows c.requires.behind c.requires.within c.swap.ensures.after c.split_at_mut-above.ensures.value c.split_at_mut-block.ensures.value in
    let h : 0 < length back = omega (arith, c.split_at_mut-above.ensures.back_len, c.swap.ensures.len, c.requires.behind, c.requires.within) in
    w.0 i l ∙ sym (ap length (get_or-set_same back 0 c.clear_at.new.row c.index-rest-0-2.result h) ∙ pivot_width n c.args.places.now block back c.clear_at.new.row c.index-rest-0.result [] w.0 w.1 h c.clear_at.ensures)

pub clear_by-requires-clause-col : goal.clear_by-requires-clause-col
clear_by-requires-clause-col c =
    let n = c.args.cols in
    let block = c.split_at_mut-block.result.1.now in
    let back = c.split_at_mut-above.result.1.now in
    let w = swapped_widths n (c.args.settled + length c.args.places.now) c.args.found c.args.rows.now c.swap.new.self c.split_at_mut-block.result.0.now block back c.split_at_mut-above.result.0.now c.requires.rows c.requires.behind c.requires.within c.swap.ensures.after c.split_at_mut-above.ensures.value c.split_at_mut-block.ensures.value in
    let h : 0 < length back = omega (arith, c.split_at_mut-above.ensures.back_len, c.swap.ensures.len, c.requires.behind, c.requires.within) in
    let e = ap length (get_or-set_same back 0 c.clear_at.new.row c.index-rest-0-2.result h) ∙ pivot_width n c.args.places.now block back c.clear_at.new.row c.index-rest-0.result [] w.0 w.1 h c.clear_at.ensures in
    omega (arith, e, c.requires.col)

pub returns : goal.returns
returns c =
    let n = c.args.cols in
    let r = c.args.settled in
    let ps = c.args.places.now in
    let above = c.split_at_mut-block.result.0.now in
    let block = c.split_at_mut-block.result.1.now in
    let back = c.split_at_mut-above.result.1.now in
    let q = c.clear_at.new.row in
    let h : 0 < length back = omega (arith, c.split_at_mut-above.ensures.back_len, c.swap.ensures.len, c.requires.behind, c.requires.within) in
    let whole = c.split_at_mut-above.ensures.value ∙ ap (λ x. x ++ back) c.split_at_mut-block.ensures.value ∙ ap (λ x. (above ++ block) ++ x) (first_and_rest back h) in
    let made = c.clear_by.ensures ∙ ap (λ p. map (cleared p c.args.col) block) (get_or-set_same back 0 q c.index-rest-0-2.result h) in
    rw (set_first back q h)
    (taken_from_parts n r c.args.col c.args.found ps c.args.rows.now c.swap.new.self above block c.clear_by.new.rows (drop 1 back) (row back 0) q c.requires.behind c.requires.within c.swap.ensures.after whole
    (omega (arith, c.split_at_mut-block.ensures.front_len, c.split_at_mut-above.ensures.front_len, c.swap.ensures.len, c.requires.behind, c.requires.within))
    (omega (arith, c.split_at_mut-block.ensures.back_len, c.split_at_mut-above.ensures.front_len, c.swap.ensures.len, c.requires.behind, c.requires.within))
    (c.clear_at.ensures ∙ ap (cleared_at n ps block) (get_or_default back 0 c.index-rest-0.result [] h))
    made)
