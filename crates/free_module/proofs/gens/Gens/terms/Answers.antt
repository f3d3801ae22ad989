use Rattle.std.proofs.Common.{◌≡◌, ◌+ℤ◌, ◌-ℤ◌, ◌<◌, ◌≤◌, pos, length, take, slice_index_or, to_z, of_z, w32, w64, refl, subst, ap, sym, ◌∙◌, arith, rules}
use Rattle.std.proofs.lemmas.Int.{ints}
use Rattle.milnor_product.specs.Times.{basis_at}
use Rattle.free_module.specs.FreeModule.{degree_at, free_width}
use Rattle.free_module.specs.Inside.Terms.{AreTerms}
use Rattle.free_module.proofs.BlockSteps.{difference}
use Rattle.free_module.proofs.FreeBasis.{start_within, start_more}
use Rattle.free_module.proofs.TermSums.{terms_none, terms_step, terms_done}
use Rattle.free_module.proofs.gens.Gens.terms.Goals as goal
use mir.Val.{SFits}

pub loop-degree-init : goal.loop-degree-init
loop-degree-init c =
    record {
      start = refl;
      offset = refl;
      terms = subst (AreTerms c.args.basis.now c.args.self.now c.args.above (to_z w32 (of_z w32 c.args.t)) c.args.v.now 0) (sym c.new-terms.ensures.items) (terms_none c.args.basis.now c.args.self.now c.args.above (to_z w32 (of_z w32 c.args.t)) c.args.v.now);
    }

pub elements_at-elements-requires : goal.elements_at-elements-requires
elements_at-elements-requires c =
    let k = c.loop-degree.degree-index in
    let ds = c.args.self.now in
    let items = c.degrees-degree-items.result.now in
    let d = slice_index_or items k (pos 0) in
    let ft : SFits w32 c.args.t = search rules in
    let fd : SFits w32 d = search rules in
    let z = difference c.from.result c.from-in-loop-degree.result c.args.t d ft fd c.from.ensures c.from-in-loop-degree.ensures in
    let dd : d ≡ degree_at ds k = ap (λ xs. slice_index_or xs k (pos 0)) c.degrees-degree-items.ensures in
    let h : k < length ds = rw c.degrees-degree-items.ensures at c.loop-degree-test.true in
    let reach = c.requires.reach k h in
    omega (arith, ints)

pub with_block-requires : goal.with_block-requires
with_block-requires c =
    let k = c.loop-degree.degree-index in
    let ds = c.args.self.now in
    let items = c.degrees-degree-items.result.now in
    let d = slice_index_or items k (pos 0) in
    let ft : SFits w32 c.args.t = search rules in
    let fd : SFits w32 d = search rules in
    let z = difference c.from.result c.from-in-loop-degree.result c.args.t d ft fd c.from.ensures c.from-in-loop-degree.ensures in
    let dd : d ≡ degree_at ds k = ap (λ xs. slice_index_or xs k (pos 0)) c.degrees-degree-items.ensures in
    let h : k < length ds = rw c.degrees-degree-items.ensures at c.loop-degree-test.true in
    let reach = c.requires.reach k h in
    let tt : to_z w32 (of_z w32 c.args.t) ≡ c.args.t = omega (arith, ints) in
    let b : c.elements_at-elements.result.now ≡ basis_at (c.args.t -ℤ degree_at ds k) = c.elements_at-elements.ensures ∙ ap basis_at z ∙ ap (λ x. basis_at (c.args.t -ℤ x)) dd in
    let start : c.loop-degree.start ≡ free_width (take k ds) c.args.t = simp tt at c.loop-degree.invariant.start in
    let inside = start_within ds c.args.t k h in
    omega (arith, ap length b, c.requires.width)

pub overflow_add-start : goal.overflow_add-start
overflow_add-start c =
    let k = c.loop-degree.degree-index in
    let ds = c.args.self.now in
    let items = c.degrees-degree-items.result.now in
    let d = slice_index_or items k (pos 0) in
    let ft : SFits w32 c.args.t = search rules in
    let fd : SFits w32 d = search rules in
    let z = difference c.from.result c.from-in-loop-degree.result c.args.t d ft fd c.from.ensures c.from-in-loop-degree.ensures in
    let dd : d ≡ degree_at ds k = ap (λ xs. slice_index_or xs k (pos 0)) c.degrees-degree-items.ensures in
    let h : k < length ds = rw c.degrees-degree-items.ensures at c.loop-degree-test.true in
    let reach = c.requires.reach k h in
    let tt : to_z w32 (of_z w32 c.args.t) ≡ c.args.t = omega (arith, ints) in
    let b : c.elements_at-elements.result.now ≡ basis_at (c.args.t -ℤ degree_at ds k) = c.elements_at-elements.ensures ∙ ap basis_at z ∙ ap (λ x. basis_at (c.args.t -ℤ x)) dd in
    let start : c.loop-degree.start ≡ free_width (take k ds) c.args.t = simp tt at c.loop-degree.invariant.start in
    let inside = start_within ds c.args.t k h in
    omega (arith, ap length b, c.requires.width, c.len-len.ensures)

pub elements_at-requires : goal.elements_at-requires
elements_at-requires c =
    let k = c.loop-degree.degree-index in
    let ds = c.args.self.now in
    let items = c.degrees-degree-items.result.now in
    let d = slice_index_or items k (pos 0) in
    let ft : SFits w32 c.args.t = search rules in
    let fd : SFits w32 d = search rules in
    let z = difference c.from.result c.from-in-loop-degree.result c.args.t d ft fd c.from.ensures c.from-in-loop-degree.ensures in
    let dd : d ≡ degree_at ds k = ap (λ xs. slice_index_or xs k (pos 0)) c.degrees-degree-items.ensures in
    let h : k < length ds = rw c.degrees-degree-items.ensures at c.loop-degree-test.true in
    let reach = c.requires.reach k h in
    let zz : to_z w64 (of_z w64 (to_z w64 (of_z w64 (to_z w64 (of_z w64 c.from.result) -ℤ to_z w64 (of_z w64 c.from-in-loop-degree.result))) +ℤ to_z w64 (of_z w64 c.from-in-loop-degree-2.result))) ≡ (c.args.t +ℤ pos c.args.above) -ℤ degree_at ds k = omega (arith, ints) in
    omega (arith, ints)

pub overflow_add-offset : goal.overflow_add-offset
overflow_add-offset c =
    let k = c.loop-degree.degree-index in
    let ds = c.args.self.now in
    let items = c.degrees-degree-items.result.now in
    let d = slice_index_or items k (pos 0) in
    let ft : SFits w32 c.args.t = search rules in
    let fd : SFits w32 d = search rules in
    let z = difference c.from.result c.from-in-loop-degree.result c.args.t d ft fd c.from.ensures c.from-in-loop-degree.ensures in
    let dd : d ≡ degree_at ds k = ap (λ xs. slice_index_or xs k (pos 0)) c.degrees-degree-items.ensures in
    let h : k < length ds = rw c.degrees-degree-items.ensures at c.loop-degree-test.true in
    let reach = c.requires.reach k h in
    let tt : to_z w32 (of_z w32 c.args.t) ≡ c.args.t = omega (arith, ints) in
    let above = c.args.t +ℤ pos c.args.above in
    let zz : to_z w64 (of_z w64 (to_z w64 (of_z w64 (to_z w64 (of_z w64 c.from.result) -ℤ to_z w64 (of_z w64 c.from-in-loop-degree.result))) +ℤ to_z w64 (of_z w64 c.from-in-loop-degree-2.result))) ≡ above -ℤ degree_at ds k = omega (arith, ints) in
    let bb : c.elements_at.result.now ≡ basis_at (above -ℤ degree_at ds k) = c.elements_at.ensures ∙ ap basis_at zz in
    let offset : c.loop-degree.offset ≡ free_width (take k ds) above = simp tt at c.loop-degree.invariant.offset in
    let beyond = start_within ds above k h in
    omega (arith, ap length bb, c.requires.fits)

pub loop-degree-preserved : goal.loop-degree-preserved
loop-degree-preserved c =
    let k = c.loop-degree.degree-index in
    let ds = c.args.self.now in
    let items = c.degrees-degree-items.result.now in
    let d = slice_index_or items k (pos 0) in
    let ft : SFits w32 c.args.t = search rules in
    let fd : SFits w32 d = search rules in
    let z = difference c.from.result c.from-in-loop-degree.result c.args.t d ft fd c.from.ensures c.from-in-loop-degree.ensures in
    let dd : d ≡ degree_at ds k = ap (λ xs. slice_index_or xs k (pos 0)) c.degrees-degree-items.ensures in
    let h : k < length ds = rw c.degrees-degree-items.ensures at c.loop-degree-test.true in
    let reach = c.requires.reach k h in
    let tt : to_z w32 (of_z w32 c.args.t) ≡ c.args.t = omega (arith, ints) in
    let b : c.elements_at-elements.result.now ≡ basis_at (c.args.t -ℤ degree_at ds k) = c.elements_at-elements.ensures ∙ ap basis_at z ∙ ap (λ x. basis_at (c.args.t -ℤ x)) dd in
    let start : c.loop-degree.start ≡ free_width (take k ds) c.args.t = simp tt at c.loop-degree.invariant.start in
    let inside = start_within ds c.args.t k h in
    let above = c.args.t +ℤ pos c.args.above in
    let zz : to_z w64 (of_z w64 (to_z w64 (of_z w64 (to_z w64 (of_z w64 c.from.result) -ℤ to_z w64 (of_z w64 c.from-in-loop-degree.result))) +ℤ to_z w64 (of_z w64 c.from-in-loop-degree-2.result))) ≡ above -ℤ degree_at ds k = omega (arith, ints) in
    let bb : c.elements_at.result.now ≡ basis_at (above -ℤ degree_at ds k) = c.elements_at.ensures ∙ ap basis_at zz in
    let offset : c.loop-degree.offset ≡ free_width (take k ds) above = simp tt at c.loop-degree.invariant.offset in
    let beyond = start_within ds above k h in
    let more = start_more ds c.args.t k h in
    let more_above = start_more ds above k h in
    record {
      start = simp tt (omega (arith, ap length b));
      offset = simp tt (omega (arith, ap length bb));
      terms = simp tt (terms_step c.args.basis.now ds c.args.above c.args.t c.args.v.now k c.loop-degree.start c.loop-degree.offset c.elements_at-elements.result.now c.loop-degree.terms.items c.in_ok-terms.terms.items h c.requires.width c.requires.reach start offset b c.in_ok-terms.ensures (simp tt at c.loop-degree.invariant.terms));
    }

pub returns : goal.returns
returns c =
    let ds = c.args.self.now in
    let v = c.args.v.now in
    let tt : to_z w32 (of_z w32 c.args.t) ≡ c.args.t = omega (arith, ints) in
    let past : length ds ≤ c.loop-degree.degree-index = rw c.degrees-degree-items.ensures at c.loop-degree-test.false in
    let start : c.loop-degree.start ≡ free_width (take c.loop-degree.degree-index ds) c.args.t = simp tt at c.loop-degree.invariant.start in
    let all : c.loop-degree.start ≡ length v = terms_done ds c.args.t v c.loop-degree.degree-index c.loop-degree.start past c.requires.width start in
    subst (λ n. AreTerms c.args.basis.now ds c.args.above c.args.t v n c.loop-degree.terms.items) all (simp tt at c.loop-degree.invariant.terms)
