use Rattle.std.proofs.Common.{◌<◌, [], length, map, ap, sym, ◌∙◌, arith}
use Rattle.std.proofs.lemmas.List.{get_or_default, get_or-set_same}
use Rattle.f2_matrix.specs.Inside.RowOperations.{cleared}
use Rattle.f2_sums.specs.Sums.{cleared_at}
use Rattle.f2_matrix.proofs.NextParts.{parts_of_splits, behind_front, width_block, pivot_width, taken_from_same}
use Rattle.f2_matrix.proofs.rowwise.take_next.Goals as goal

pub clear_by-requires-clause-widths : goal.clear_by-requires-clause-widths
clear_by-requires-clause-widths c = λ i l.
    let n = c.args.cols in
    let r = c.args.settled in
    let ps = c.args.places.now in
    let xs = c.args.rows.now in
    let top = c.split_at_mut-above.result.0.now in
    let back = c.split_at_mut-above.result.1.now in
    let above = c.split_at_mut-block.result.0.now in
    let block = c.split_at_mut-block.result.1.now in
    let q = c.clear_at.new.row in
    let parts = parts_of_splits n r ps xs top above block back c.requires.rows c.split_at_mut-above.ensures.value c.split_at_mut-block.ensures.value (omega (arith, c.split_at_mut-above.ensures.front_len)) (omega (arith, c.split_at_mut-block.ensures.front_len)) in
    let h : 0 < length back = omega (arith, behind_front n r ps xs above block back parts, c.requires.within) in
    let made = c.clear_at.ensures ∙ ap (cleared_at n ps block) (get_or_default back 0 c.index-rest-0.result [] h) in
    width_block n r ps xs above block back parts i l ∙ sym (ap length (get_or-set_same back 0 q c.index-rest-0-3.result h) ∙ pivot_width n r ps xs above block back q parts h made)

pub returns-clause-pivot : goal.returns-clause-pivot
returns-clause-pivot c =
    let n = c.args.cols in
    let r = c.args.settled in
    let ps = c.args.places.now in
    let xs = c.args.rows.now in
    let top = c.split_at_mut-above.result.0.now in
    let back = c.split_at_mut-above.result.1.now in
    let above = c.split_at_mut-block.result.0.now in
    let block = c.split_at_mut-block.result.1.now in
    let q = c.clear_at.new.row in
    let parts = parts_of_splits n r ps xs top above block back c.requires.rows c.split_at_mut-above.ensures.value c.split_at_mut-block.ensures.value (omega (arith, c.split_at_mut-above.ensures.front_len)) (omega (arith, c.split_at_mut-block.ensures.front_len)) in
    let h : 0 < length back = omega (arith, behind_front n r ps xs above block back parts, c.requires.within) in
    let made = c.clear_at.ensures ∙ ap (cleared_at n ps block) (get_or_default back 0 c.index-rest-0.result [] h) in
    taken_from_same n r c.in-Some.pivot ps xs above block c.clear_by.new.rows back q parts h made
    (c.clear_by.ensures ∙ ap (λ p. map (cleared p c.in-Some.pivot) block) (get_or-set_same back 0 q c.index-rest-0-3.result h))

pub returns-clause-within : goal.returns-clause-within
returns-clause-within c =
    let n = c.args.cols in
    let r = c.args.settled in
    let ps = c.args.places.now in
    let xs = c.args.rows.now in
    let top = c.split_at_mut-above.result.0.now in
    let back = c.split_at_mut-above.result.1.now in
    let above = c.split_at_mut-block.result.0.now in
    let block = c.split_at_mut-block.result.1.now in
    let q = c.clear_at.new.row in
    let parts = parts_of_splits n r ps xs top above block back c.requires.rows c.split_at_mut-above.ensures.value c.split_at_mut-block.ensures.value (omega (arith, c.split_at_mut-above.ensures.front_len)) (omega (arith, c.split_at_mut-block.ensures.front_len)) in
    let h : 0 < length back = omega (arith, behind_front n r ps xs above block back parts, c.requires.within) in
    let made = c.clear_at.ensures ∙ ap (cleared_at n ps block) (get_or_default back 0 c.index-rest-0.result [] h) in
    let l = ap length (get_or-set_same back 0 q c.index-rest-0-2.result h) ∙ pivot_width n r ps xs above block back q parts h made in
    omega (arith, l, c.in-Some.ensures.within)
