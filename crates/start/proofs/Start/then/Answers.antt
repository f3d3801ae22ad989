-- The arguments live as long as the reference to them.
use mathlib.Core.List.{List}
use Prim.Native.Nat.{ℕ}
use contract.BorrowLft.{◌⊑◌, ⊑_meet, ⊑_static}
use Rattle.start.proofs.Start.then.Goals as goal

pub picked-requires : goal.picked-requires
picked-requires c κs within =
    let one = λ (κ : List ℕ) (h : κs.1.1.0 ⊑ κ). ⊑_meet _ _ _ h (⊑_static κs.1.1.0) in
    let all = ⊑_meet _ _ _ (one _ within.0) (⊑_meet _ _ _ (one _ within.1.0) (⊑_meet _ _ _ (one _ within.1.1.0) (⊑_static κs.1.1.0))) in
    (⊑_static κs.1.0, ⊑_meet _ _ _ all all)
