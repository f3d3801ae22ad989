use Rattle.std.proofs.Common.{◌≡◌, ◌-◌, [], None, List, ℕ, ap, sym, subst, ◌∙◌, arith}
use Rattle.std.proofs.lemmas.Bool.{false≢true}
use Rattle.std.proofs.lemmas.Grind.{common_steps}
use Rattle.milnor_basis.specs.Basis.{basis_of}
use Rattle.module_check.specs.Acceptance.{first_in, relation_of}
use Rattle.module_check.specs.Inside.Relations.{reaching}
use Rattle.module_check.proofs.Powers.{powers_unreached, powers_next}
use Rattle.module_check.proofs.relations.check_powers_in.Goals.{then-is_power_of_two+in_ok-check_left, else-is_power_of_two}
use Rattle.module_check.proofs.relations.check_powers_in.Goals as goal

pub returns-then-is_empty : goal.returns-then-is_empty
returns-then-is_empty c =
    let none : c.in_ok-numbers.numbers.items ≡ [] = grind (arith, common_steps) in
    powers_unreached c.args.operators.now c.args.n c.generators.ensures.widths (ap (λ gs. reaching gs c.args.n) (sym c.generators.ensures.generators) ∙ sym c.in_ok-numbers.ensures ∙ none)

pub loop-k-preserved : goal.loop-k-preserved
loop-k-preserved c =
    powers_next c.args.operators.now c.args.n c.loop-k.k c.loop-k.invariant (λ two. elim c.if-is_power_of_two.branch [
      | then-is_power_of_two+in_ok-check_left w ↦
          subst (λ (r : List ℕ). first_in (relation_of c.args.operators.now r) (basis_of (c.args.n - c.loop-k.k)) ≡ None) w.sq.ensures w.in_ok-check_left.ensures.holds
      | else-is_power_of_two w ↦ absurd (false≢true (sym (sym c.is_power_of_two.ensures ∙ w.if-is_power_of_two.false) ∙ two))
    ])
