use Rattle.std.proofs.Common.{◌≡◌, ◌+ℤ◌, ◌+◌, ℕ, List, Bool, pos, length, drop, to_z, of_z, w32, ap, sym, ◌∙◌, arith}
use Rattle.std.proofs.lemmas.Int.{ints}
use Rattle.std.proofs.lemmas.List.{drop_all}
use Rattle.f2_vec.specs.Vectors.{zeros, sum_of, placed}
use Rattle.milnor_basis.specs.Product.{product_bits}
use Rattle.free_module.specs.FreeModule.{free_width}
use Rattle.free_module.specs.Inside.Terms.{AreTerms, added_to}
use Rattle.free_module.proofs.TermSums.{room_of, length-product, length-with, added_to-more, acted_through-all}
use Rattle.free_module.proofs.gens.GensTarget.act.Goals as goal

pub product-requires : goal.product-requires
product-requires c =
    let max = c.args.basis.now in
    let width = free_width c.args.self.now (c.args.t +ℤ pos c.degree-2.result) in
    let i = c.loop-term.term-index in
    let x = c.term-item.result in
    let items = c.deref-term-items.result.now in
    let tt : to_z w32 (of_z w32 c.args.t) ≡ c.args.t = omega (arith, ints) in
    let are : AreTerms max c.args.self.now c.degree-2.result c.args.t c.args.v.now (length c.args.v.now) c.in_ok-terms.field-0.items = simp tt at c.in_ok-terms.ensures in
    let room = room_of max width c.degree-2.result items c.in_ok-terms.field-0.items i x c.deref-term-items.ensures.value are.room c.loop-term-test.true c.term-item.is in
    let reach = room.reach in
    omega (arith, c.degree-2.ensures.degree)

pub xor_at-requires : goal.xor_at-requires
xor_at-requires c =
    let max = c.args.basis.now in
    let width = free_width c.args.self.now (c.args.t +ℤ pos c.degree-2.result) in
    let i = c.loop-term.term-index in
    let x = c.term-item.result in
    let items = c.deref-term-items.result.now in
    let tt : to_z w32 (of_z w32 c.args.t) ≡ c.args.t = omega (arith, ints) in
    let are : AreTerms max c.args.self.now c.degree-2.result c.args.t c.args.v.now (length c.args.v.now) c.in_ok-terms.field-0.items = simp tt at c.in_ok-terms.ensures in
    let room = room_of max width c.degree-2.result items c.in_ok-terms.field-0.items i x c.deref-term-items.ensures.value are.room c.loop-term-test.true c.term-item.is in
    let within = room.within in
    let r : List ℕ = c.args.r.now in
    let wide : c.in_ok-width.width ≡ free_width c.args.self.now (c.args.t +ℤ pos c.degree-2.result) = simp tt at c.in_ok-width.ensures ∙ ap (λ n. free_width c.args.self.now (c.args.t +ℤ pos n)) (c.degree.ensures.degree ∙ sym c.degree-2.ensures.degree) in
    let size = length-product r x.right c.degree-2.result (sym c.degree-2.ensures.degree) in
    omega (arith, c.loop-term.invariant.length, ap length c.in_ok-product.ensures)

pub loop-term-preserved : goal.loop-term-preserved
loop-term-preserved c =
    let max = c.args.basis.now in
    let width = free_width c.args.self.now (c.args.t +ℤ pos c.degree-2.result) in
    let i = c.loop-term.term-index in
    let x = c.term-item.result in
    let items = c.deref-term-items.result.now in
    let tt : to_z w32 (of_z w32 c.args.t) ≡ c.args.t = omega (arith, ints) in
    let are : AreTerms max c.args.self.now c.degree-2.result c.args.t c.args.v.now (length c.args.v.now) c.in_ok-terms.field-0.items = simp tt at c.in_ok-terms.ensures in
    let room = room_of max width c.degree-2.result items c.in_ok-terms.field-0.items i x c.deref-term-items.ensures.value are.room c.loop-term-test.true c.term-item.is in
    let within = room.within in
    let r : List ℕ = c.args.r.now in
    let image : List Bool = c.loop-term.image in
    let wide : c.in_ok-width.width ≡ free_width c.args.self.now (c.args.t +ℤ pos c.degree-2.result) = simp tt at c.in_ok-width.ensures ∙ ap (λ n. free_width c.args.self.now (c.args.t +ℤ pos n)) (c.degree.ensures.degree ∙ sym c.degree-2.ensures.degree) in
    let size = length-product r x.right c.degree-2.result (sym c.degree-2.ensures.degree) in
    let added : c.xor_at.new.self ≡ sum_of image (placed (length image) x.offset (product_bits r x.right)) = c.xor_at.ensures ∙ ap (λ bits. sum_of image (placed (length image) x.offset bits)) c.in_ok-product.ensures in
    record {
      length = ap length added ∙ length-with image (product_bits r x.right) x.offset (omega (arith, c.loop-term.invariant.length)) ∙ c.loop-term.invariant.length;
      rest = ap (λ (w : List Bool). added_to w r (drop (i + 1) items)) added ∙ sym (added_to-more image r items i x c.loop-term-test.true c.term-item.is) ∙ c.loop-term.invariant.rest;
    }

pub returns : goal.returns
returns c =
    let ds = c.args.self.now in
    let r : List ℕ = c.args.r.now in
    let v = c.args.v.now in
    let items = c.deref-term-items.result.now in
    let tt : to_z w32 (of_z w32 c.args.t) ≡ c.args.t = omega (arith, ints) in
    let are : AreTerms c.args.basis.now ds c.degree-2.result c.args.t v (length v) c.in_ok-terms.field-0.items = simp tt at c.in_ok-terms.ensures in
    let wide : c.in_ok-width.width ≡ free_width ds (c.args.t +ℤ pos c.degree-2.result) = simp tt at c.in_ok-width.ensures ∙ ap (λ n. free_width ds (c.args.t +ℤ pos n)) (c.degree.ensures.degree ∙ sym c.degree-2.ensures.degree) in
    ap (added_to c.loop-term.image r) (sym (drop_all c.loop-term.term-index items c.loop-term-test.false)) ∙ c.loop-term.invariant.rest
    ∙ ap (λ n. added_to (zeros n) r items) wide ∙ ap (added_to (zeros (free_width ds (c.args.t +ℤ pos c.degree-2.result))) r) c.deref-term-items.ensures.value
    ∙ are.sum r (sym c.degree-2.ensures.degree) ∙ acted_through-all ds r c.args.t v c.requires.width
