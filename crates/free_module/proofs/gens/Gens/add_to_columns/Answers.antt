use Rattle.std.proofs.Common.{◌≡◌, ◌+ℤ◌, ◌+◌, ◌<◌, ◌≤◌, pos, length, map, to_z, of_z, w32, refl, subst, ap, sym, ◌∙◌, arith}
use Rattle.std.proofs.lemmas.Int.{ints}
use Rattle.f2_vec.specs.Vectors.{zeros}
use Rattle.milnor_basis.specs.Exponents.{degree_of}
use Rattle.milnor_basis.specs.Basis.{basis_of}
use Rattle.milnor_basis.specs.Product.{Factors}
use Rattle.free_module.specs.FreeModule.{free_width, free_action}
use Rattle.free_module.specs.Columns.{IsTableOfColumns, AreAdded}
use Rattle.free_module.specs.Inside.Terms.{AreTerms, added_to, factors_at, products_at}
use Rattle.free_module.proofs.TermSums.{found_at, room_of, acted_through-all}
use Rattle.free_module.proofs.Columns.{no_terms, one_term, all_terms}
use Rattle.free_module.proofs.gens.Gens.add_to_columns.Goals as goal

pub terms-requires-clause-fits : goal.terms-requires-clause-fits
terms-requires-clause-fits c =
    let tt : to_z w32 (of_z w32 c.args.t) ≡ c.args.t = omega (arith, ints) in
    let wide : length c.args.table.now ≡ free_width c.args.self.now (c.args.t +ℤ pos c.from.result) = c.requires.places ∙ ap (λ n. free_width c.args.self.now (c.args.t +ℤ pos n)) (sym c.from.ensures) in
    simp tt (omega (arith, c.if-prove.false, wide))

pub loop-i-init : goal.loop-i-init
loop-i-init c = no_terms c.args.table.now c.args.end c.args.degree (length c.args.table.now) c.in_ok-terms.terms.items c.args.columns.now

pub add_to_columns-requires-clause-table : goal.add_to_columns-requires-clause-table
add_to_columns-requires-clause-table c = subst (λ n. IsTableOfColumns n c.args.table.now) (sym c.loop-i.invariant.added.as_many) c.requires.table

pub add_to_columns-requires-clause-lengths : goal.add_to_columns-requires-clause-lengths
add_to_columns-requires-clause-lengths c = λ j l.
    let h = c.loop-i.invariant.added in
    omega (arith, c.requires.lengths j (omega (arith, l, h.as_many)), h.lengths j)

pub add_to_columns-requires-clause-few : goal.add_to_columns-requires-clause-few
add_to_columns-requires-clause-few c =
    let items = c.in_ok-terms.terms.items in
    let x = c.index.result.now in
    let m = c.index-in-loop-i.result.now in
    let i = c.loop-i.i in
    let l : i < length items = omega (arith, c.loop-i-test.true, c.len-i-end.ensures) in
    let e : m.now ≡ factors_at c.args.degree x = found_at c.args.degree c.in_ok-found.found.items items i m x (c.in_ok-found.ensures ∙ ap (map (factors_at c.args.degree)) c.as_slice.ensures.value) l c.index-in-loop-i.ensures c.index.ensures in
    omega (arith, c.requires.few, ap (λ (f : Factors). length (basis_of f.degree)) e)

pub add_to_columns-requires-clause-room : goal.add_to_columns-requires-clause-room
add_to_columns-requires-clause-room c =
    let max = c.args.basis.now in
    let width = free_width c.args.self.now (c.args.t +ℤ pos c.from.result) in
    let i = c.loop-i.i in
    let x = c.index.result.now in
    let items = c.in_ok-terms.terms.items in
    let l : i < length items = omega (arith, c.loop-i-test.true, c.len-i-end.ensures) in
    let tt : to_z w32 (of_z w32 c.args.t) ≡ c.args.t = omega (arith, ints) in
    let are : AreTerms max c.args.self.now c.from.result c.args.t c.args.v.now (length c.args.v.now) items = simp tt at c.in_ok-terms.ensures in
    let room = room_of max width c.from.result items items i x refl are.room l c.index.ensures in
    let within = room.within in
    let wide : length c.args.table.now ≡ width = c.requires.places ∙ ap (λ n. free_width c.args.self.now (c.args.t +ℤ pos n)) (sym c.from.ensures) in
    let m = c.index-in-loop-i.result.now in
    let e : m.now ≡ factors_at c.args.degree x = found_at c.args.degree c.in_ok-found.found.items items i m x (c.in_ok-found.ensures ∙ ap (map (factors_at c.args.degree)) c.as_slice.ensures.value) l c.index-in-loop-i.ensures c.index.ensures in
    let size : length (basis_of (m.now.degree + degree_of m.now.right)) ≡ length (basis_of (c.from.result + degree_of x.right)) =
    ap (λ (f : Factors). length (basis_of (f.degree + degree_of f.right))) e ∙ ap (λ n. length (basis_of (n + degree_of x.right))) (sym c.from.ensures)
    in
    omega (arith, within, wide, size)

pub loop-i-preserved : goal.loop-i-preserved
loop-i-preserved c =
    let max = c.args.basis.now in
    let table = c.args.table.now in
    let width = free_width c.args.self.now (c.args.t +ℤ pos c.from.result) in
    let i = c.loop-i.i in
    let x = c.index.result.now in
    let items = c.in_ok-terms.terms.items in
    let l : i < length items = omega (arith, c.loop-i-test.true, c.len-i-end.ensures) in
    let tt : to_z w32 (of_z w32 c.args.t) ≡ c.args.t = omega (arith, ints) in
    let are : AreTerms max c.args.self.now c.from.result c.args.t c.args.v.now (length c.args.v.now) items = simp tt at c.in_ok-terms.ensures in
    let room = room_of max width c.from.result items items i x refl are.room l c.index.ensures in
    let within = room.within in
    let wide : length table ≡ width = c.requires.places ∙ ap (λ n. free_width c.args.self.now (c.args.t +ℤ pos n)) (sym c.from.ensures) in
    let size : length (basis_of (c.from.result + degree_of x.right)) ≡ length (basis_of (c.args.degree + degree_of x.right)) = ap (λ n. length (basis_of (n + degree_of x.right))) c.from.ensures in
    let m = c.index-in-loop-i.result.now in
    let e : m.now ≡ factors_at c.args.degree x = found_at c.args.degree c.in_ok-found.found.items items i m x (c.in_ok-found.ensures ∙ ap (map (factors_at c.args.degree)) c.as_slice.ensures.value) l c.index-in-loop-i.ensures c.index.ensures in
    let more : AreAdded table c.args.end (products_at (length table) x.offset c.args.degree x.right) c.loop-i.columns c.add_to_columns.new.columns =
    subst (λ (f : Factors). AreAdded table c.args.end (products_at (length table) x.offset f.degree f.right) c.loop-i.columns c.add_to_columns.new.columns) e c.add_to_columns.ensures in
    one_term table c.args.end c.args.degree (length table) items i x c.args.columns.now c.loop-i.columns c.add_to_columns.new.columns l c.index.ensures (omega (arith, within, wide, size)) more c.loop-i.invariant

pub returns : goal.returns
returns c =
    let ds = c.args.self.now in
    let v = c.args.v.now in
    let items = c.in_ok-terms.terms.items in
    let past : length items ≤ c.loop-i.i = omega (arith, c.loop-i-test.false, c.len-i-end.ensures) in
    let tt : to_z w32 (of_z w32 c.args.t) ≡ c.args.t = omega (arith, ints) in
    let are : AreTerms c.args.basis.now ds c.from.result c.args.t v (length v) items = simp tt at c.in_ok-terms.ensures in
    let wide : length c.args.table.now ≡ free_width ds (c.args.t +ℤ pos c.from.result) = c.requires.places ∙ ap (λ n. free_width ds (c.args.t +ℤ pos n)) (sym c.from.ensures) in
    all_terms c.args.table.now c.args.end c.args.degree (length c.args.table.now) items c.loop-i.i (λ r. free_action ds r c.args.t v) c.args.columns.now c.loop-i.columns past
    (λ r e. ap (λ n. added_to (zeros n) r items) wide
    ∙ are.sum r (e ∙ sym c.from.ensures) ∙ acted_through-all ds r c.args.t v c.requires.width)
    c.loop-i.invariant
