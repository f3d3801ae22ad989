use Rattle.std.proofs.Common.{◌≡◌, ◌<◌, ◌+◌, length, map, get_or, ap, ◌∙◌, arith}
use Rattle.std.specs.List.{range_with_len}
use Rattle.std.proofs.lemmas.List.FromFn.{length-map-range_with_len, get_or-map-range_with_len}
use Rattle.milnor_basis.specs.Basis.{basis_of}
use Rattle.milnor_basis.proofs.basis.Basis.of_degree.Goals as goal

pub index-level-requires : goal.index-level-requires
index-level-requires c =
    let lens : length c.self.inside.levels.items ≡ c.self.inside.max + 1 = ap length c.self.invariant.1 ∙ length-map-range_with_len basis_of 0 (c.self.inside.max + 1) in
    let max : c.self.inside.max ≡ c.args.self.now = c.self.view_is in
    omega (arith, c.self.inside.levels.ok.0)

pub returns : goal.returns
returns c =
    let n = c.args.n in
    let level = c.index-level.result.now in
    let within : n < c.self.inside.max + 1 = (let max : c.self.inside.max ≡ c.args.self.now = c.self.view_is in omega arith) in
    let at : get_or (map basis_of (range_with_len 0 (c.self.inside.max + 1))) n level ≡ basis_of n = get_or-map-range_with_len basis_of 0 (c.self.inside.max + 1) n n level within (omega arith) in
    c.as_slice.ensures.value ∙ c.level.view_is ∙ c.index-level.ensures ∙ ap (λ i. get_or c.self.inside.levels.items i level) c.from.ensures ∙ ap (λ xs. get_or xs n level) c.self.invariant.1 ∙ at
