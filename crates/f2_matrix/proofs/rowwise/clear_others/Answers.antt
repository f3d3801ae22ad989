use Rattle.std.specs.List.{All}
use Rattle.std.proofs.Common.{◌≡◌, ◌<◌, ℕ, Bool, List, length, map, refl, subst, ap, sym, ◌∙◌, arith}
use Rattle.f2_vec.specs.Spans.{HaveWidth}
use Rattle.f2_vec.proofs.Spans.{HaveWidth-front}
use Rattle.f2_sums.specs.Sums.{Block, cleared_at}
use Rattle.f2_matrix.proofs.NextParts.{parts_of_halves, width_block, width_back, cleared_from_parts}
use Rattle.f2_matrix.proofs.rowwise.clear_others.Goals as goal

-- what the tables clear is cleared by the block
by_block : (n : ℕ) (ps : List ℕ) (block old new : List (List Bool)) (t : Block) → t.cols ≡ n → t.rows ≡ block → new ≡ map (cleared_at t.cols ps t.rows) old → new ≡ map (cleared_at n ps block) old
by_block n ps block old new t a b e = e ∙ ap (λ k. map (cleared_at k ps t.rows) old) a ∙ ap (λ z. map (cleared_at n ps z) old) b

pub fill-requires-clause-widths : goal.fill-requires-clause-widths
fill-requires-clause-widths c =
    let n = c.args.cols in
    let ps = c.args.places.now in
    let xs = c.args.rows.now in
    let above = c.split_at_mut-above.result.0.now in
    let rest = c.split_at_mut-above.result.1.now in
    let block = c.split_at_mut-block.result.0.now in
    let below = c.split_at_mut-block.result.1.now in
    let size : length block ≡ length ps = omega (arith, c.split_at_mut-block.ensures.front_len) in
    let parts = parts_of_halves n c.args.settled ps xs above rest block below c.requires.rows c.split_at_mut-above.ensures.value c.split_at_mut-block.ensures.value (omega (arith, c.split_at_mut-above.ensures.front_len)) size in
    subst (λ k. HaveWidth k block) (sym c.requires.width) (width_block n c.args.settled ps xs above block below parts)

pub clear_all-requires-clause-vectors : goal.clear_all-requires-clause-vectors
clear_all-requires-clause-vectors c =
    subst (λ k. HaveWidth k c.split_at_mut-above.result.0.now) (sym (c.fill.ensures.cols ∙ c.requires.width))
    (HaveWidth-front c.args.cols c.split_at_mut-above.result.0.now c.split_at_mut-above.result.1.now (subst (HaveWidth c.args.cols) c.split_at_mut-above.ensures.value c.requires.rows))

pub clear_all-requires-clause-places : goal.clear_all-requires-clause-places
clear_all-requires-clause-places c = subst (λ k. All (λ p. p < k) c.args.places.now) (sym (c.fill.ensures.cols ∙ c.requires.width)) c.requires.places

pub clear_all-requires-clause-one_each : goal.clear_all-requires-clause-one_each
clear_all-requires-clause-one_each c = omega (arith, c.split_at_mut-block.ensures.front_len, ap length c.fill.ensures.rows)

pub clear_all-requires-2-clause-vectors : goal.clear_all-requires-2-clause-vectors
clear_all-requires-2-clause-vectors c =
    let n = c.args.cols in
    let ps = c.args.places.now in
    let xs = c.args.rows.now in
    let above = c.split_at_mut-above.result.0.now in
    let rest = c.split_at_mut-above.result.1.now in
    let block = c.split_at_mut-block.result.0.now in
    let below = c.split_at_mut-block.result.1.now in
    let size : length block ≡ length ps = omega (arith, c.split_at_mut-block.ensures.front_len) in
    let parts = parts_of_halves n c.args.settled ps xs above rest block below c.requires.rows c.split_at_mut-above.ensures.value c.split_at_mut-block.ensures.value (omega (arith, c.split_at_mut-above.ensures.front_len)) size in
    subst (λ k. HaveWidth k below) (sym (c.fill.ensures.cols ∙ c.requires.width)) (width_back n c.args.settled ps xs above block below parts)

pub returns-clause-rows : goal.returns-clause-rows
returns-clause-rows c =
    let n = c.args.cols in
    let r = c.args.settled in
    let ps = c.args.places.now in
    let xs = c.args.rows.now in
    let above = c.split_at_mut-above.result.0.now in
    let rest = c.split_at_mut-above.result.1.now in
    let block = c.split_at_mut-block.result.0.now in
    let below = c.split_at_mut-block.result.1.now in
    let size : length block ≡ length ps = omega (arith, c.split_at_mut-block.ensures.front_len) in
    let parts = parts_of_halves n r ps xs above rest block below c.requires.rows c.split_at_mut-above.ensures.value c.split_at_mut-block.ensures.value (omega (arith, c.split_at_mut-above.ensures.front_len)) size in
    let by = by_block n ps block in
    let t = c.fill.new.self in
    let cols = c.fill.ensures.cols ∙ c.requires.width in
    cleared_from_parts n r ps (cleared_at n ps block) xs above block below c.clear_all.new.vectors c.clear_all-2.new.vectors parts
    (by above c.clear_all.new.vectors t cols c.fill.ensures.rows c.clear_all.ensures) (by below c.clear_all-2.new.vectors t cols c.fill.ensures.rows c.clear_all-2.ensures) (λ v. refl)
