use Rattle.std.proofs.Common.{◌-◌, ◌≤◌, arith}
use Rattle.f2_kernel.proofs.Blocked.{block_more, cleared_from_start, HaveWidth-AreClearedFrom}
use Rattle.f2_kernel.proofs.blocks.clear_upward.Goals as goal

pub loop-end-init : goal.loop-end-init
loop-end-init c = record { within = omega arith; rows = cleared_from_start c.args.rows.now; width = c.in_ok-tables.ensures.cols }

pub clear_block-requires-clause-widths : goal.clear_block-requires-clause-widths
clear_block-requires-clause-widths c = HaveWidth-AreClearedFrom c.args.n c.loop-end.end c.args.rows.now c.loop-end.rows c.requires c.loop-end.invariant.rows

pub loop-end-preserved : goal.loop-end-preserved
loop-end-preserved c =
    let e = c.loop-end.end in
    let s = e - c.rows_of_block.result in
    let l : s ≤ e = omega arith in
    record {
      within = omega (arith, l, c.loop-end.invariant.within);
      rows = block_more s e c.args.rows.now c.loop-end.rows c.clear_block.new.rows l c.loop-end.invariant.within c.loop-end.invariant.rows c.in_ok-clear_block.ensures.rows;
      width = c.in_ok-clear_block.ensures.width;
    }
