use Rattle.std.proofs.Common.{Bool, List, sym, subst}
use Rattle.f2_vec.specs.Spans.{HaveWidth}
use Rattle.f2_vec.proofs.Combinations.{HaveWidth-take}
use Rattle.f2_kernel.specs.Inside.Upward.{AreCleared}
use Rattle.f2_kernel.proofs.Cleared.{AreCleared-upward}
use Rattle.f2_vec.proofs.Spans.{HaveWidth-drop}
use Rattle.f2_kernel.proofs.blocks.clear_block.Goals as goal

pub clear_by_block-requires-clause-block : goal.clear_by_block-requires-clause-block
clear_by_block-requires-clause-block c =
    let n = c.args.n in
    let before = c.split_at_mut-before.result.0.now in
    let block = c.split_at_mut-above.result.1.now in
    let wb : HaveWidth n before = subst (λ (z : List (List Bool)). HaveWidth n z) (sym c.split_at_mut-before.ensures.front) (HaveWidth-take n c.args.end c.args.rows.now c.requires.widths) in
    let w : HaveWidth n block = subst (λ (z : List (List Bool)). HaveWidth n z) (sym c.split_at_mut-above.ensures.back) (HaveWidth-drop n c.args.start before wb) in
    subst (AreCleared n) (sym c.in_ok-clear_one_by_one.ensures) (AreCleared-upward n block w)
