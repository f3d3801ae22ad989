use Rattle.std.proofs.Common.{length, ap, sym, ◌∙◌}
use Rattle.milnor_basis.specs.Basis.{basis_of}
use Rattle.adem_laws.proofs.Values.{length-value}
use Rattle.ext_run.proofs.task.product_lines.Goals as goal

pub to_admissible-requires-clause-width : goal.to_admissible-requires-clause-width
to_admissible-requires-clause-width c = ap length c.in_ok-value.ensures ∙ (length-value c.args.squares.now ∙ ap (λ n. length (basis_of n)) (sym c.in-Some.ensures.degree))

pub product-requires-clause-width : goal.product-requires-clause-width
product-requires-clause-width c = ap length c.in_ok-value.ensures ∙ (length-value c.args.squares.now ∙ ap (λ n. length (basis_of n)) (sym c.in-Some.ensures.degree))
