-- A value of a bracket has a coordinate for each class of the bracket's square.
use Rattle.std.proofs.Common.{◌≡◌, ℕ, ◌+◌, ℤ, Bool, List, length, ap, ◌∙◌}
use Rattle.f2_vec.specs.Vectors.{plus}
use Rattle.lift_laws.specs.Lifts.{Resolution}
use Rattle.lift_laws.specs.Products.{Class, count_of, coefficient_of, coefficients}
use Rattle.bracket_laws.specs.Brackets.{dot, IsBracketMember}
use Rattle.bracket_laws.proofs.Vectors.{length-on_square}

pub length-member : (r q : Resolution) (a b c : Class) (n l : ℕ) (top : ℤ) (v : List Bool) → IsBracketMember r q a b c n l top v → length v ≡ count_of r (n + a.s) (a.above + b.above + c.above)
length-member r q a b c n l top v m =
    ap length m.value ∙ length-on_square r (n + a.s) (a.above + b.above + c.above) (λ g. plus (coefficient_of q a (m.H a.s g)) (dot m.e (coefficients q l (a.above + b.above) (m.gamma l g))))
