-- That the bases of the algebra reach the target of d_s is a fact with one proof.
use Rattle.std.proofs.Props.{props}
use Rattle.std.specs.Prelude.{ℕ, ℤ}
use Rattle.square.specs.Below.{reaches_of}
use Rattle.square.specs.declared.below.Below.{Below}
use Rattle.square.specs.declared.below.Below.TheVariants.{Module, Row}

pub reaches_of-prop : (below : Below) (max : ℕ) (t : ℤ) → IsProp (reaches_of below max t)
reaches_of-prop (Module m) max t = hlevel props
reaches_of-prop (Row gens) max t = hlevel props
