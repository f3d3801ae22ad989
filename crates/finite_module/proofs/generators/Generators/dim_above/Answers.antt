use Rattle.std.proofs.Common.{pos, ◌+ℤ◌, ◌<ℤ◌, sym, subst, arith}
use Rattle.std.proofs.lemmas.Int.{ints, by_lt_z}
use Rattle.milnor_basis.specs.Exponents.{degree_of}
use Rattle.module_spec.specs.WellFormed.{AreByDegree}
use Rattle.finite_module.proofs.Degrees.{width_past}
use Rattle.finite_module.proofs.generators.Generators.dim_above.Goals as goal

-- a sum that is too great for its type is above all degrees
pub returns-in-None : goal.returns-in-None
returns-in-None c =
    let by = subst AreByDegree c.self.view_is c.self.invariant in
    let n = degree_of c.args.r.now in
    let past : pos 128 <ℤ (c.args.t +ℤ pos n) =
    by_lt_z (pos 128) (c.args.t +ℤ pos n) (λ l. l) (λ l. absurd (c.in-None.ensures (omega (arith, ints, c.from.ensures, c.degree.ensures.degree)))) in
    sym (width_past c.args.self.now (c.args.t +ℤ pos n) by past)
