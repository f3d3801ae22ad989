use Rattle.std.proofs.Common.{◌≡◌, ◌+◌, ◌-ℤ◌, take, slice_get, to_z, of_z, w32, ap, ◌∙◌, arith}
use Rattle.std.proofs.lemmas.Int.{ints}
use Rattle.std.proofs.lemmas.Option.{slice_get_within}
use Rattle.milnor_product.specs.Times.{basis_at}
use Rattle.free_module.specs.FreeModule.{degree_at, free_basis, free_width}
use Rattle.free_module.proofs.FreeBasis.{start_within, free_basis-place, block-place}
use Rattle.free_module.proofs.gens.Gens.place.Goals as goal

pub overflow_add-result : goal.overflow_add-result
overflow_add-result c =
    let ds = c.args.self.now in
    let t = c.args.t in
    let g = c.args.generator in
    let r = c.args.r.now in
    let place = c.in-Some.place in
    let tt : to_z w32 (of_z w32 t) ≡ t = omega (arith, ints) in
    let start : c.block_start.result ≡ free_width (take g ds) t = simp tt at c.block_start.ensures in
    let there = block-place ds t g c.in-Some.field-0-0 place r c.requires.degree c.in-Some.ensures.degree c.in-Some.ensures.place in
    let within = slice_get_within (basis_at (t -ℤ degree_at ds g)) place r there in
    omega (arith, start_within ds t g c.requires.there, c.requires.fits)

pub returns : goal.returns
returns c =
    let ds = c.args.self.now in
    let t = c.args.t in
    let g = c.args.generator in
    let r = c.args.r.now in
    let place = c.in-Some.place in
    let tt : to_z w32 (of_z w32 t) ≡ t = omega (arith, ints) in
    let start : c.block_start.result ≡ free_width (take g ds) t = simp tt at c.block_start.ensures in
    let there = block-place ds t g c.in-Some.field-0-0 place r c.requires.degree c.in-Some.ensures.degree c.in-Some.ensures.place in
    ap (λ s. slice_get (free_basis ds t) (s + place)) start ∙ free_basis-place ds t g place r c.requires.there there
