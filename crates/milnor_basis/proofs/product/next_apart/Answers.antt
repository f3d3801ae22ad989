use Rattle.std.proofs.Common.{◌≡◌, ℕ, ◌+◌, ◌-◌, ◌<◌, bit_and, subst}
use Rattle.milnor_basis.proofs.Digits.{skipped_shares}
use Rattle.milnor_basis.proofs.product.next_apart.Goals as goal

as_given : (x d a b e v : ℕ) → a ≡ x → b ≡ d → e ≡ d → v < a + b + 1 - bit_and (a + b + 1) e → v < x + d + 1 - bit_and (x + d + 1) d
as_given x d a b e v p q r h =
    subst (λ k. v < k + d + 1 - bit_and (k + d + 1) d) p (subst (λ k. v < a + k + 1 - bit_and (a + k + 1) d) q (subst (λ k. v < a + b + 1 - bit_and (a + b + 1) k) r h))

pub returns-clause-least : goal.returns-clause-least
returns-clause-least c v l m =
    skipped_shares c.args.sum c.args.number v c.requires l
    (as_given c.args.number c.args.sum c.from.result c.from-2.result c.from-3.result v c.from.ensures c.from-2.ensures c.from-3.ensures m)
