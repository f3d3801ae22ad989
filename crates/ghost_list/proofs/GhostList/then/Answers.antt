-- The list, the item and the items' type live as long as the reference to the pair.
use contract.BorrowLft.{⊑_meet, ⊑_static}
use Rattle.ghost_list.proofs.GhostList.then.Goals as goal

pub picked-requires : goal.picked-requires
picked-requires g c κs within =
    let none = ⊑_static κs.1.1.0 in
    let items = within.1.1.0 in
    let lists = ⊑_meet _ _ _ (⊑_meet _ _ _ items none) (⊑_meet _ _ _ (⊑_meet _ _ _ (⊑_meet _ _ _ items none) none) none) in
    let pair = ⊑_meet _ _ _ (⊑_meet _ _ _ within.0.0 lists) (⊑_meet _ _ _ (⊑_meet _ _ _ within.0.1.0 items) none) in
    (within.1.0, ⊑_meet _ _ _ pair pair)
