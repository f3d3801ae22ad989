use Rattle.std.proofs.Common.{◌≡◌, ◌≤◌, map, refl, ◌+ℤ◌, ◌+◌, ◌<◌, ℕ, List, Bool, [], pos, length, take, drop, get_or, ◌++◌, to_z, of_z, w32, subst, ap, sym, ◌∙◌, arith}
use Rattle.std.proofs.lemmas.Int.{ints}
use Rattle.std.proofs.lemmas.List.{take_at}
use Rattle.f2_vec.specs.Vectors.{zeros, sum_of, placed}
use Rattle.f2_vec.specs.Spans.{row}
use Rattle.milnor_basis.specs.Exponents.{degree_of}
use Rattle.milnor_basis.specs.Basis.{basis_of}
use Rattle.milnor_basis.specs.Product.{product_bits, Factors}
use Rattle.free_module.specs.FreeModule.{free_width, free_action}
use Rattle.free_module.specs.Inside.Terms.{AreTerms, added_to, factors_at}
use Rattle.free_module.proofs.TermSums.{RowsAre, rows_start, rows_more, rows_end, found_at, room_of, acted_through-all}
use Rattle.free_module.proofs.gens.GensTarget.act_all.Goals as goal

pub loop-i-init : goal.loop-i-init
loop-i-init c =
    rows_start c.args.degree c.in_ok-width.width (length c.of_degree.result.now) c.in_ok-terms.terms.items c.in_ok-rows.rows.items (ap length c.of_degree.ensures) c.in_ok-rows.ensures

pub add_products-requires : goal.add_products-requires
add_products-requires c =
    let max = c.args.basis.now in
    let width = free_width c.args.self.now (c.args.t +ℤ pos c.from-2.result) in
    let i = c.loop-i.i in
    let x = c.index.result.now in
    let items = c.in_ok-terms.terms.items in
    let l : i < length items = omega (arith, c.loop-i-test.true, c.len-i-end.ensures) in
    let tt : to_z w32 (of_z w32 c.args.t) ≡ c.args.t = omega (arith, ints) in
    let are : AreTerms max c.args.self.now c.from-2.result c.args.t c.args.v.now (length c.args.v.now) items = simp tt at c.in_ok-terms.ensures in
    let room = room_of max width c.from-2.result items items i x refl are.room l c.index.ensures in
    let wide : c.in_ok-width.width ≡ free_width c.args.self.now (c.args.t +ℤ pos c.from-2.result) = simp tt at c.in_ok-width.ensures ∙ ap (λ n. free_width c.args.self.now (c.args.t +ℤ pos n)) (c.from.ensures ∙ sym c.from-2.ensures) in
    let within = room.within in
    let m : Factors = c.index-in-loop-i.result.now.now in
    let e : m ≡ factors_at c.args.degree x = found_at c.args.degree c.in_ok-found.found.items items i c.index-in-loop-i.result.now x (c.in_ok-found.ensures ∙ ap (map (factors_at c.args.degree)) c.as_slice.ensures.value) l c.index-in-loop-i.ensures c.index.ensures in
    let rows : List (List Bool) = c.loop-i.rows.items in
    let value : c.as_mut_slice.result.now ≡ rows = c.as_mut_slice.ensures.value in
    let size : length (basis_of (m.degree + degree_of m.right)) ≡ length (basis_of (c.from-2.result + degree_of x.right)) =
    ap (λ (f : Factors). length (basis_of (f.degree + degree_of f.right))) e ∙ ap (λ n. length (basis_of (n + degree_of x.right))) (sym c.from-2.ensures)
    in
    record {
      count = ap length value ∙ c.loop-i.invariant.count ∙ ap (λ (f : Factors). length (basis_of f.degree)) (sym e);
      room = λ k l.
          let inside : k < length rows = omega (arith, l, ap length value) in
          let same = ap (λ (xs : List (List Bool)). length (row xs k)) value in
          omega (arith, c.loop-i.invariant.widths k inside);
    }

pub loop-i-preserved : goal.loop-i-preserved
loop-i-preserved c =
    let max = c.args.basis.now in
    let width = free_width c.args.self.now (c.args.t +ℤ pos c.from-2.result) in
    let i = c.loop-i.i in
    let x = c.index.result.now in
    let items = c.in_ok-terms.terms.items in
    let l : i < length items = omega (arith, c.loop-i-test.true, c.len-i-end.ensures) in
    let tt : to_z w32 (of_z w32 c.args.t) ≡ c.args.t = omega (arith, ints) in
    let are : AreTerms max c.args.self.now c.from-2.result c.args.t c.args.v.now (length c.args.v.now) items = simp tt at c.in_ok-terms.ensures in
    let room = room_of max width c.from-2.result items items i x refl are.room l c.index.ensures in
    let wide : c.in_ok-width.width ≡ free_width c.args.self.now (c.args.t +ℤ pos c.from-2.result) = simp tt at c.in_ok-width.ensures ∙ ap (λ n. free_width c.args.self.now (c.args.t +ℤ pos n)) (c.from.ensures ∙ sym c.from-2.ensures) in
    let within = room.within in
    let m : Factors = c.index-in-loop-i.result.now.now in
    let e : m ≡ factors_at c.args.degree x = found_at c.args.degree c.in_ok-found.found.items items i c.index-in-loop-i.result.now x (c.in_ok-found.ensures ∙ ap (map (factors_at c.args.degree)) c.as_slice.ensures.value) l c.index-in-loop-i.ensures c.index.ensures in
    let rows : List (List Bool) = c.loop-i.rows.items in
    let new : List (List Bool) = c.add_products.new.rows in
    let value : c.as_mut_slice.result.now ≡ rows = c.as_mut_slice.ensures.value in
    let same : length new ≡ length rows = omega (arith, ap length value) in
    let whole : take c.loop-i.rows.len (new ++ drop (length new) rows) ≡ new = take_at new _ c.loop-i.rows.len (omega arith) in
    let size : length (basis_of (c.from-2.result + degree_of x.right)) ≡ length (basis_of (c.args.degree + degree_of x.right)) = ap (λ n. length (basis_of (n + degree_of x.right))) c.from-2.ensures in
    let added : (k : ℕ) → k < length rows → row new k ≡ sum_of (row rows k) (placed (length (row rows k)) x.offset (product_bits (get_or (basis_of c.args.degree) k []) x.right)) =
    subst (λ (f : Factors). (k : ℕ) → k < length rows → row new k ≡ sum_of (row rows k) (placed (length (row rows k)) x.offset (product_bits (get_or (basis_of f.degree) k []) f.right))) e
    (subst (λ (xs : List (List Bool)). (k : ℕ) → k < length xs → row new k ≡ sum_of (row xs k) (placed (length (row xs k)) x.offset (product_bits (get_or (basis_of m.degree) k []) m.right))) value c.add_products.ensures)
    in
    subst (RowsAre c.args.degree c.in_ok-width.width items (i + 1)) (sym whole)
    (rows_more c.args.degree c.in_ok-width.width items i x rows new l c.index.ensures same (omega arith) added c.loop-i.invariant)

pub returns : goal.returns
returns c =
    let ds = c.args.self.now in
    let v = c.args.v.now in
    let items = c.in_ok-terms.terms.items in
    let past : length items ≤ c.loop-i.i = omega (arith, c.loop-i-test.false, c.len-i-end.ensures) in
    let tt : to_z w32 (of_z w32 c.args.t) ≡ c.args.t = omega (arith, ints) in
    let are : AreTerms c.args.basis.now ds c.from-2.result c.args.t v (length v) items = simp tt at c.in_ok-terms.ensures in
    let wide : c.in_ok-width.width ≡ free_width c.args.self.now (c.args.t +ℤ pos c.from-2.result) = simp tt at c.in_ok-width.ensures ∙ ap (λ n. free_width c.args.self.now (c.args.t +ℤ pos n)) (c.from.ensures ∙ sym c.from-2.ensures) in
    rows_end c.args.degree c.in_ok-width.width items c.loop-i.i c.loop-i.rows.items (λ r. free_action ds r c.args.t v) past
    (λ r e. ap (λ n. added_to (zeros n) r items) wide
    ∙ are.sum r (e ∙ sym c.from-2.ensures) ∙ acted_through-all ds r c.args.t v c.requires.width)
    c.loop-i.invariant
