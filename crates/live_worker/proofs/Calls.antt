-- What is so of a call that was asked whether it failed.
use Rattle.std.proofs.Common.{◌≡◌, Bool, true, false, Result, Ok, Err}
use Rattle.std.specs.Result.{OnOk, OnErr}
use Rattle.core.specs.Result.{is_err}

-- what is so where a call did well
pub did_well : {T E : Type 0} (r : Result T E) (b : Bool) (P : Type 0) → OnOk r P → b ≡ is_err r → b ≡ false → P
did_well (Ok y) b P is value fails = is
did_well (Err e) b P is value fails = absurd (cc)

-- what is so where a call failed
pub did_fail : {T E : Type 0} (r : Result T E) (b : Bool) (P : Type 0) → OnErr r P → b ≡ is_err r → b ≡ true → P
did_fail (Ok y) b P is value fails = absurd (cc)
did_fail (Err e) b P is value fails = is
