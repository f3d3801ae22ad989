use Rattle.std.proofs.Common.{◌≡◌, ℕ, ◌+◌, pos, ◌+ℤ◌, Bool, List, Result, Ok, Err, IfOk, length, to_z, of_z, w64, ap, ◌∙◌, arith}
use Rattle.std.proofs.lemmas.Int.{ints}
use Rattle.milnor_basis.specs.Exponents.{degree_of}
use Rattle.module_spec.specs.Spec.{degree_at}
use Rattle.finite_module.specs.Module.{width, act_on}
use Rattle.finite_module.proofs.Widths.{length-act_on, degree_of-single}
use Rattle.module_check.proofs.sq_n.twice.Goals as goal

length_if : {E : Type 0} (result : Result (List Bool) E) (v : List Bool) (n : ℕ) → length v ≡ n → IfOk result (λ w. w ≡ v) → IfOk result (λ w. length w ≡ n)
length_if (Ok w) v n e h = ap length h ∙ e
length_if (Err m) v n e h = tt

pub returns-clause-width : goal.returns-clause-width
returns-clause-width c =
    let gs = c.args.operators.now.generators in
    let t = to_z w64 (of_z w64 (to_z w64 (of_z w64 c.from.result) +ℤ to_z w64 (of_z w64 c.from-2.result))) in
    let degree : c.degree.result ≡ degree_at gs c.args.i = c.degree.ensures.degree ∙ ap (λ g. degree_at g c.args.i) c.generators.ensures.generators in
    let p : degree_of c.sq-2.result ≡ c.args.p = ap degree_of c.sq-2.ensures ∙ degree_of-single c.args.p in
    let up : t +ℤ pos (degree_of c.sq-2.result) ≡ degree_at gs c.args.i +ℤ pos (c.args.p + c.args.q) = omega (arith, ints, c.from.ensures, c.from-2.ensures, c.degree.ensures.lowest, c.degree.ensures.highest) in
    length_if c.act_on.result (act_on gs c.args.operators.now.operators c.sq-2.result t c.in_ok-value.value) _ (length-act_on gs c.args.operators.now.operators c.sq-2.result t c.in_ok-value.value c.generators.ensures.widths ∙ ap (width gs) up) c.act_on.ensures
