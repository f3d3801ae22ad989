use Rattle.std.proofs.Common.{◌≡◌, ◌+◌, ◌-ℤ◌, ◌<◌, length, take, Some, slice_get, to_z, of_z, w32, refl, ap, sym, ◌∙◌, arith}
use Rattle.std.proofs.lemmas.Int.{ints}
use Rattle.std.proofs.lemmas.Option.{slice_get_read}
use Rattle.milnor_product.specs.Times.{basis_at}
use Rattle.free_module.specs.FreeModule.{degree_at, free_basis, free_width}
use Rattle.free_module.proofs.FreeBasis.{start_more, free_basis-place, read-IsOfDegree}
use Rattle.free_module.proofs.gens.Gens.at.Goals as goal

pub returns-then-left-elements-clause-element : goal.returns-then-left-elements-clause-element
returns-then-left-elements-clause-element c =
    let ds = c.args.self.now in
    let t = c.args.t in
    let g = c.loop-generator.generator in
    let left = c.loop-generator.left in
    let x = c.index-elements-left.result in
    let tt : to_z w32 (of_z w32 t) ≡ t = omega (arith, ints) in
    let h : g < length ds = omega (arith, ap length c.self.view_is) in
    let so_far : free_width (take g ds) t + left ≡ c.args.i = simp tt at c.loop-generator.invariant in
    let block : c.block-elements.result.now ≡ basis_at (t -ℤ degree_at ds g) = simp tt at c.block-elements.ensures in
    let read : slice_get c.block-elements.result.now left ≡ Some x = slice_get_read c.block-elements.result.now (length c.block-elements.result.now) left x refl c.if-left-elements.true c.index-elements-left.is in
    ap (slice_get (free_basis ds t)) (sym so_far) ∙ free_basis-place ds t g left x h (ap (λ xs. slice_get xs left) (sym block) ∙ read)

pub returns-then-left-elements-clause-degree : goal.returns-then-left-elements-clause-degree
returns-then-left-elements-clause-degree c =
    (read-IsOfDegree c.args.self.now c.args.t c.args.i (c.loop-generator.generator, c.index-elements-left.result) (returns-then-left-elements-clause-element c)).degree

pub loop-generator-preserved : goal.loop-generator-preserved
loop-generator-preserved c =
    let ds = c.args.self.now in
    let t = c.args.t in
    let g = c.loop-generator.generator in
    let tt : to_z w32 (of_z w32 t) ≡ t = omega (arith, ints) in
    let h : g < length ds = omega (arith, ap length c.self.view_is) in
    let so_far : free_width (take g ds) t + c.loop-generator.left ≡ c.args.i = simp tt at c.loop-generator.invariant in
    let block : length c.block-elements.result.now ≡ length (basis_at (t -ℤ degree_at ds g)) = simp tt at (ap length c.block-elements.ensures) in
    simp tt (omega (arith, start_more ds t g h))
