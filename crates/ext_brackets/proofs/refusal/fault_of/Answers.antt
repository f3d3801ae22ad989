use Rattle.std.proofs.Common.{◌≡◌, ℕ, suc, ◌-◌, ap, ◌∙◌, arith}
use Rattle.massey.specs.declared.fault.MasseyFault.TheVariants.{Nonzero}
use Rattle.ext_brackets.proofs.refusal.fault_of.Goals as goal

pub nonzero-requires-in_default : goal.nonzero-requires-in_default
nonzero-requires-in_default c =
    let which = c.in-Nonzero.which in
    let more : which ≡ suc (which - 1) = omega arith in
    record { square = c.requires.bc (which - 1) c.in-Nonzero.product (c.in-Nonzero.is ∙ ap (λ (n : ℕ). Nonzero n c.in-Nonzero.product) more) }
