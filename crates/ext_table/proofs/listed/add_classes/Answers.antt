use Rattle.std.proofs.Common.{to_z, of_z, w32}
use Rattle.ext_table.specs.Table.{class_text}
use Rattle.ext_table.proofs.Growing.{one_more}
use Rattle.ext_table.proofs.listed.add_classes.Goals as goal

pub loop-i-preserved : goal.loop-i-preserved
loop-i-preserved c =
    one_more (class_text c.args.lists.now c.args.s (to_z w32 (of_z w32 c.args.t))) _ c.loop-i.text.items _ c.loop-i.i c.loop-i.invariant c.in_ok-add_class.ensures
