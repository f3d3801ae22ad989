use Rattle.std.proofs.Common.{◌≡◌, ◌-ℤ◌, ◌<◌, ◌≤◌, [], pos, length, slice_index_or, to_z, of_z, w32, subst, ap, sym, ◌∙◌, arith, rules}
use Rattle.std.proofs.lemmas.Int.{ints}
use Rattle.std.proofs.lemmas.List.{get_or_default}
use Rattle.f2_vec.specs.Spans.{row, HaveWidth}
use Rattle.milnor_product.specs.Times.{basis_at}
use Rattle.free_module.specs.FreeModule.{degree_at}
use Rattle.free_module.specs.LinearMap.{map_rows}
use Rattle.free_module.proofs.BlockSteps.{difference}
use Rattle.free_module.proofs.MapRows.{same_block, map_rows-more, map_rows-done, HaveWidth-map_rows}
use Rattle.free_hom.proofs.hom.Hom.matrix.Goals as goal
use mir.Val.{SFits}

pub with_block-requires-clause-width : goal.with_block-requires-clause-width
with_block-requires-clause-width g c =
    let k = c.loop-g.g in
    let ds = c.degrees-degree-items.result.now in
    let d = slice_index_or ds k (pos 0) in
    let fd : SFits w32 d = search rules in
    let h : k < length c.args.self.now.source.now = rw c.degrees-degree-items.ensures at c.loop-g-test.true in
    let dd : d ≡ degree_at c.args.self.now.source.now k = ap (λ xs. slice_index_or xs k (pos 0)) c.degrees-degree-items.ensures in
    let q : degree_at c.args.self.now.source.now k ≡ to_z w32 (of_z w32 d) = omega (arith, ints) in
    let images = c.args.self.now.are_images in
    let l : k < length c.args.self.now.images.now = omega (arith, images.one_each) in
    ap length (get_or_default c.args.self.now.images.now k c.index-self-g.result [] l) ∙ images.widths k h ∙ ap (g.T.Target.graded c.args.self.now.target.now).width q

pub with_block-requires-clause-within : goal.with_block-requires-clause-within
with_block-requires-clause-within g c =
    let k = c.loop-g.g in
    let source = c.args.self.now.source.now in
    let ds = c.degrees-degree-items.result.now in
    let d = slice_index_or ds k (pos 0) in
    let ft : SFits w32 c.args.t = search rules in
    let fd : SFits w32 d = search rules in
    let z = difference c.from.result c.from-in-loop-g.result c.args.t d ft fd c.from.ensures c.from-in-loop-g.ensures in
    let dd : d ≡ degree_at source k = ap (λ xs. slice_index_or xs k (pos 0)) c.degrees-degree-items.ensures in
    let h : k < length source = rw c.degrees-degree-items.ensures at c.loop-g-test.true in
    let reach = c.requires.source k h in
    omega (arith, ints)

pub with_block-requires-clause-reach : goal.with_block-requires-clause-reach
with_block-requires-clause-reach g c =
    let k = c.loop-g.g in
    let ds = c.degrees-degree-items.result.now in
    let d = slice_index_or ds k (pos 0) in
    let ft : SFits w32 c.args.t = search rules in
    let fd : SFits w32 d = search rules in
    let z = difference c.from.result c.from-in-loop-g.result c.args.t d ft fd c.from.ensures c.from-in-loop-g.ensures in
    subst (g.T.Target.reaches c.args.self.now.target.now c.args.self.now.basis.now) (omega (arith, ints)) c.requires.target

pub loop-g-preserved : goal.loop-g-preserved
loop-g-preserved g c =
    let k = c.loop-g.g in
    let ds = c.degrees-degree-items.result.now in
    let source = c.args.self.now.source.now in
    let images = c.args.self.now.images.now in
    let target = g.T.Target.graded c.args.self.now.target.now in
    let d = slice_index_or ds k (pos 0) in
    let ft : SFits w32 c.args.t = search rules in
    let fd : SFits w32 d = search rules in
    let z = difference c.from.result c.from-in-loop-g.result c.args.t d ft fd c.from.ensures c.from-in-loop-g.ensures in
    let dd : d ≡ degree_at source k = ap (λ xs. slice_index_or xs k (pos 0)) c.degrees-degree-items.ensures in
    let b = ap basis_at z ∙ ap (λ x. basis_at (c.args.t -ℤ x)) dd in
    let q : to_z w32 (of_z w32 d) ≡ degree_at source k = omega (arith, ints) in
    let h : k < length source = rw c.degrees-degree-items.ensures at c.loop-g-test.true in
    let l : k < length images = omega (arith, c.args.self.now.are_images.one_each) in
    let im = get_or_default images k c.index-self-g.result [] l in
    let block = same_block target.action (to_z w32 (of_z w32 d)) (degree_at source k) (slice_index_or images k c.index-self-g.result) (row images k) _ (basis_at (c.args.t -ℤ degree_at source k)) q im b in
    let tt : to_z w32 (of_z w32 c.args.t) ≡ c.args.t = omega (arith, ints) in
    let inv = simp tt at c.loop-g.invariant in
    let more = map_rows-more target source images c.args.t k c.loop-g.rows.items h in
    simp tt (cc (c.in_ok-rows.ensures))

pub from_rows-requires : goal.from_rows-requires
from_rows-requires g c =
    let source = c.args.self.now.source.now in
    let images = c.args.self.now.images.now in
    let target = g.T.Target.graded c.args.self.now.target.now in
    let tt : to_z w32 (of_z w32 c.args.t) ≡ c.args.t = omega (arith, ints) in
    let h : length source ≤ c.loop-g.g = rw c.degrees-degree-items.ensures at c.loop-g-test.false in
    let inv = simp tt at c.loop-g.invariant in
    let done : c.loop-g.rows.items ≡ map_rows target source images c.args.t = sym (map_rows-done target source images c.args.t c.loop-g.g c.loop-g.rows.items h) ∙ inv in
    let w = HaveWidth-map_rows target source images c.args.t (g.met.T.Target.keeps_widths c.args.self.now.target.now) c.args.self.now.are_images in
    let cols : target.width c.args.t ≡ c.in-Ok.cols = grind (arith, ints, c.dim.ensures, c.in-Ok.ensures) in
    subst (λ n. HaveWidth n c.loop-g.rows.items) cols (subst (HaveWidth (target.width c.args.t)) (sym done) w)
