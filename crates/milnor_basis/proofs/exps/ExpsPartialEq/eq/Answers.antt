use Rattle.std.proofs.Common.{◌≡◌, length, sym, ◌∙◌}
use Rattle.milnor_basis.proofs.ExponentLemmas.{pointwise-trimmed}
use Rattle.milnor_basis.proofs.exps.ExpsPartialEq.eq.Goals as goal

pub returns : goal.returns
returns c =
    let lens : length c.self.inside.numbers ≡ length c.other.inside.numbers = c.self.invariant.0 ∙ sym c.other.invariant.0 in
    rw (← c.self.view_is, ← c.other.view_is) (c.eq.ensures ∙ pointwise-trimmed _ _ lens)
