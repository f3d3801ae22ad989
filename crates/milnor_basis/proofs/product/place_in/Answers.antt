use Rattle.std.proofs.Common.{◌<◌, refl, ◌∙◌, arith}
use Rattle.milnor_basis.specs.Exponents.{degree_of}
use Rattle.milnor_basis.proofs.FreeTable.{other_degree}
use Rattle.milnor_basis.proofs.product.place_in.Goals as goal

pub returns-in_err-degree-clause-none : goal.returns-in_err-degree-clause-none
returns-in_err-degree-clause-none c _ =
    let past : c.args.basis.now < degree_of c.args.r.now = c.in_err-degree.ensures.past.0 refl in
    other_degree c.args.n c.args.r.now (λ e. omega (arith, c.requires))

pub returns-else-degree-n-clause-none : goal.returns-else-degree-n-clause-none
returns-else-degree-n-clause-none c _ = other_degree c.args.n c.args.r.now (λ e. c.if-degree-n.false (c.in_ok-degree.ensures.degree ∙ e))
