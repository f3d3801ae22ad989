use Rattle.std.proofs.Common.{◌≡◌, to_z, of_z, w32, arith}
use Rattle.std.proofs.lemmas.Int.{ints}
use Rattle.finite_module.specs.Module.{bottom}
use Rattle.finite_module.specs.ModuleLaws.{width-below}
use Rattle.finite_module.proofs.finite_module.Module.bottom.Goals as goal

pub returns-clause-none_below : goal.returns-clause-none_below
returns-clause-none_below c t l =
    let gs = c.args.self.now.plain.generators in
    let e : c.bottom.result ≡ bottom gs = cc in
    let z : to_z w32 (of_z w32 c.bottom.result) ≡ c.bottom.result = omega (arith, ints) in
    width-below gs c.args.self.now.by_degree t (omega (arith, ints, l))
