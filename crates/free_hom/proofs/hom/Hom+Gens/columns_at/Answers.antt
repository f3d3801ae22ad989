use Rattle.std.proofs.Common.{◌≡◌, ◌+◌, ◌-◌, ◌-ℤ◌, ◌<◌, ◌≤◌, ℕ, List, Bool, [], ◌++◌, pos, length, map, reverse, take, drop, slice_index_or, to_z, of_z, w32, subst, ap, sym, ◌∙◌, arith, rules}
use Rattle.std.proofs.lemmas.Bool.Decides.{nat_tests}
use Rattle.std.proofs.lemmas.Int.{ints}
use Rattle.std.proofs.lemmas.List.{get_or_default, nil_from_length, take_at, get_or-replicate, length-replicate}
use Rattle.f2_vec.specs.Vectors.{bit, zeros}
use Rattle.f2_vec.specs.Spans.{row}
use Rattle.f2_vec.proofs.Sums.{length-zeros}
use Rattle.milnor_product.specs.Times.{basis_at}
use Rattle.free_module.specs.FreeModule.{IsWithinReach, degree_at, free_width}
use Rattle.free_module.specs.Graded.{free_graded}
use Rattle.free_module.specs.LinearMap.{map_rows}
use Rattle.free_module.specs.Columns.{IsTableOfColumns, AreAdded}
use Rattle.free_module.proofs.BlockSteps.{difference}
use Rattle.free_module.proofs.MapRows.{same_block}
use Rattle.free_hom.proofs.Columns.{table_of_columns, HaveBlocks, no_block, block_of, block_fits, one_block, all_blocks}
use Rattle.free_hom.proofs.hom.Hom+Gens.columns_at.Goals as goal
use mir.Val.{SFits}

pub returns-then-is_empty : goal.returns-then-is_empty
returns-then-is_empty c =
    let hom = c.args.self.now in
    let places = c.args.places.now in
    let f : ℕ → List Bool = λ p. map (λ v. bit v p) (reverse (map_rows (free_graded hom.target.now) hom.source.now hom.images.now c.args.t)) in
    let size : 0 ≡ length places = grind (arith, nat_tests, c.is_empty.ensures, c.if-is_empty.true) in
    c.new.ensures.items ∙ ap (map f) (sym (nil_from_length places (sym size)))

pub loop-g-init : goal.loop-g-init
loop-g-init c =
    let hom = c.args.self.now in
    let tt : to_z w32 (of_z w32 c.args.t) ≡ c.args.t = omega (arith, ints) in
    simp tt (no_block (free_graded hom.target.now) hom.source.now hom.images.now c.args.t c.in_ok-table.table.items c.in_ok-height.height c.in_ok-columns.columns.items)

pub add_block-requires-clause-width : goal.add_block-requires-clause-width
add_block-requires-clause-width c =
    let k = c.loop-g.g in
    let ds = c.degrees-degree-items.result.now in
    let d = slice_index_or ds k (pos 0) in
    let fd : SFits w32 d = search rules in
    let h : k < length c.args.self.now.source.now = rw c.degrees-degree-items.ensures at c.loop-g-test.true in
    let dd : d ≡ degree_at c.args.self.now.source.now k = ap (λ xs. slice_index_or xs k (pos 0)) c.degrees-degree-items.ensures in
    let q : degree_at c.args.self.now.source.now k ≡ to_z w32 (of_z w32 d) = omega (arith, ints) in
    let images = c.args.self.now.are_images in
    let l : k < length c.args.self.now.images.now = omega (arith, images.one_each) in
    ap length (get_or_default c.args.self.now.images.now k c.index-self-g.result [] l) ∙ images.widths k h ∙ ap (free_width c.args.self.now.target.now) q

pub add_block-requires-clause-within : goal.add_block-requires-clause-within
add_block-requires-clause-within c =
    let k = c.loop-g.g in
    let source = c.args.self.now.source.now in
    let ds = c.degrees-degree-items.result.now in
    let d = slice_index_or ds k (pos 0) in
    let ft : SFits w32 c.args.t = search rules in
    let fd : SFits w32 d = search rules in
    let z = difference c.from.result c.from-in-loop-g.result c.args.t d ft fd c.from.ensures c.from-in-loop-g.ensures in
    let dd : d ≡ degree_at source k = ap (λ xs. slice_index_or xs k (pos 0)) c.degrees-degree-items.ensures in
    let h : k < length source = rw c.degrees-degree-items.ensures at c.loop-g-test.true in
    let reach = c.requires.source k h in
    omega (arith, ints)

pub add_block-requires-clause-reach : goal.add_block-requires-clause-reach
add_block-requires-clause-reach c =
    let k = c.loop-g.g in
    let ds = c.degrees-degree-items.result.now in
    let d = slice_index_or ds k (pos 0) in
    let ft : SFits w32 c.args.t = search rules in
    let fd : SFits w32 d = search rules in
    let z = difference c.from.result c.from-in-loop-g.result c.args.t d ft fd c.from.ensures c.from-in-loop-g.ensures in
    subst (IsWithinReach c.args.self.now.basis.now c.args.self.now.target.now) (omega (arith, ints)) c.requires.target

pub add_block-requires-clause-places : goal.add_block-requires-clause-places
add_block-requires-clause-places c =
    let k = c.loop-g.g in
    let ds = c.degrees-degree-items.result.now in
    let d = slice_index_or ds k (pos 0) in
    let ft : SFits w32 c.args.t = search rules in
    let fd : SFits w32 d = search rules in
    let z = difference c.from.result c.from-in-loop-g.result c.args.t d ft fd c.from.ensures c.from-in-loop-g.ensures in
    ap length c.as_slice.ensures.value ∙ c.in_ok-table.ensures.size ∙ c.in_ok-width.ensures ∙ ap (free_width c.args.self.now.target.now) (omega (arith, ints))

pub add_block-requires-clause-table : goal.add_block-requires-clause-table
add_block-requires-clause-table c =
    let places = c.args.places.now in
    let t = table_of_columns c.in_ok-width.width places c.in_ok-table.table.items c.in_ok-table.ensures in
    let many : length c.as_mut_slice.result.now ≡ length places = ap length c.as_mut_slice.ensures.value ∙ c.loop-g.invariant.added.as_many ∙ ap length c.in_ok-columns.ensures ∙ length-replicate (length places) (zeros c.in_ok-height.height) in
    subst (λ n. IsTableOfColumns n c.as_slice.result.now) (sym many) (subst (IsTableOfColumns (length places)) (sym c.as_slice.ensures.value) t)

pub add_block-requires-clause-lengths : goal.add_block-requires-clause-lengths
add_block-requires-clause-lengths c = λ j l.
    let places = c.args.places.now in
    let height = c.in_ok-height.height in
    let h = c.loop-g.invariant in
    let many : length c.as_mut_slice.result.now ≡ length places = ap length c.as_mut_slice.ensures.value ∙ h.added.as_many ∙ ap length c.in_ok-columns.ensures ∙ length-replicate (length places) (zeros height) in
    let long : length (row c.as_mut_slice.result.now j) ≡ height =
    ap (λ (z : List (List Bool)). length (row z j)) c.as_mut_slice.ensures.value ∙ h.added.lengths j ∙ ap (λ (z : List (List Bool)). length (row z j)) c.in_ok-columns.ensures ∙ ap length (get_or-replicate (length places) j (zeros height) [] (omega (arith, l, many))) ∙ length-zeros height in
    omega (arith, long, h.left)

pub add_block-requires-clause-few : goal.add_block-requires-clause-few
add_block-requires-clause-few c =
    let k = c.loop-g.g in
    let hom = c.args.self.now in
    let source = hom.source.now in
    let ds = c.degrees-degree-items.result.now in
    let d = slice_index_or ds k (pos 0) in
    let ft : SFits w32 c.args.t = search rules in
    let fd : SFits w32 d = search rules in
    let z = difference c.from.result c.from-in-loop-g.result c.args.t d ft fd c.from.ensures c.from-in-loop-g.ensures in
    let dd : d ≡ degree_at source k = ap (λ xs. slice_index_or xs k (pos 0)) c.degrees-degree-items.ensures in
    let b = ap basis_at z ∙ ap (λ x. basis_at (c.args.t -ℤ x)) dd in
    let h : k < length source = rw c.degrees-degree-items.ensures at c.loop-g-test.true in
    let tt : to_z w32 (of_z w32 c.args.t) ≡ c.args.t = omega (arith, ints) in
    let inv : HaveBlocks (free_graded hom.target.now) source hom.images.now c.args.t c.in_ok-table.table.items c.in_ok-height.height k c.loop-g.end c.in_ok-columns.columns.items c.loop-g.columns.items = simp tt at c.loop-g.invariant in
    let fits = block_fits (free_graded hom.target.now) source hom.images.now c.args.t c.in_ok-table.table.items c.in_ok-height.height k c.loop-g.end c.in_ok-columns.columns.items c.loop-g.columns.items (c.in_ok-height.ensures ∙ ap (free_width source) tt) h inv in
    omega (arith, fits, ap length b)

pub loop-g-preserved : goal.loop-g-preserved
loop-g-preserved c =
    let k = c.loop-g.g in
    let hom = c.args.self.now in
    let source = hom.source.now in
    let images = hom.images.now in
    let target = free_graded hom.target.now in
    let table = c.in_ok-table.table.items in
    let height = c.in_ok-height.height in
    let cols : List (List Bool) = c.loop-g.columns.items in
    let new : List (List Bool) = c.add_block.new.columns in
    let ds = c.degrees-degree-items.result.now in
    let d = slice_index_or ds k (pos 0) in
    let ft : SFits w32 c.args.t = search rules in
    let fd : SFits w32 d = search rules in
    let z = difference c.from.result c.from-in-loop-g.result c.args.t d ft fd c.from.ensures c.from-in-loop-g.ensures in
    let dd : d ≡ degree_at source k = ap (λ xs. slice_index_or xs k (pos 0)) c.degrees-degree-items.ensures in
    let b = ap basis_at z ∙ ap (λ x. basis_at (c.args.t -ℤ x)) dd in
    let q : to_z w32 (of_z w32 d) ≡ degree_at source k = omega (arith, ints) in
    let h : k < length source = rw c.degrees-degree-items.ensures at c.loop-g-test.true in
    let l : k < length images = omega (arith, hom.are_images.one_each) in
    let im = get_or_default images k c.index-self-g.result [] l in
    let block = same_block target.action (to_z w32 (of_z w32 d)) (degree_at source k) (slice_index_or images k c.index-self-g.result) (row images k) _ (basis_at (c.args.t -ℤ degree_at source k)) q im b in
    let tt : to_z w32 (of_z w32 c.args.t) ≡ c.args.t = omega (arith, ints) in
    let inv : HaveBlocks target source images c.args.t table height k c.loop-g.end c.in_ok-columns.columns.items cols = simp tt at c.loop-g.invariant in
    let value : c.as_mut_slice.result.now ≡ cols = c.as_mut_slice.ensures.value in
    let added : AreAdded table c.loop-g.end (block_of target source images c.args.t k) cols new =
    subst (λ (x : List (List Bool)). AreAdded table c.loop-g.end x cols new) block
    (rw value at (rw c.as_slice.ensures.value at c.in_ok-end.ensures.added)) in
    let same : length new ≡ length cols = added.as_many in
    let whole : take c.loop-g.columns.len (new ++ drop (length new) cols) ≡ new = take_at new _ c.loop-g.columns.len (omega (arith, same)) in
    simp tt
    (subst (λ (x : List (List Bool)). HaveBlocks target source images c.args.t table height (k + 1) c.in_ok-end.end c.in_ok-columns.columns.items x) (sym whole)
    (one_block target source images c.args.t table height k c.loop-g.end c.in_ok-columns.columns.items cols (c.in_ok-height.ensures ∙ ap (free_width source) tt) h inv c.in_ok-end.end new (c.in_ok-end.ensures.left ∙ ap (λ x. c.loop-g.end - length x) b) added))

pub returns : goal.returns
returns c =
    let hom = c.args.self.now in
    let source = hom.source.now in
    let places = c.args.places.now in
    let target = free_graded hom.target.now in
    let tt : to_z w32 (of_z w32 c.args.t) ≡ c.args.t = omega (arith, ints) in
    let past : length source ≤ c.loop-g.g = rw c.degrees-degree-items.ensures at c.loop-g-test.false in
    let inv : HaveBlocks target source hom.images.now c.args.t c.in_ok-table.table.items c.in_ok-height.height c.loop-g.g c.loop-g.end c.in_ok-columns.columns.items c.loop-g.columns.items = simp tt at c.loop-g.invariant in
    let from_zeros = rw c.in_ok-columns.ensures at inv in
    all_blocks target source hom.images.now c.args.t c.in_ok-width.width c.in_ok-height.height c.loop-g.g c.loop-g.end places c.in_ok-table.table.items c.loop-g.columns.items (c.in_ok-height.ensures ∙ ap (free_width source) tt) past c.in_ok-table.ensures from_zeros
