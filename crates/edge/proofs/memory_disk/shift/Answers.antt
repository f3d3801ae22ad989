use Rattle.std.proofs.Common.{◌<◌, length, ◌∙◌, arith, rules}
use Rattle.edge.proofs.Shifts.{more_shifted, same_shifted}
use Rattle.edge.proofs.memory_disk.shift.Goals as goal
use Rattle.edge.proofs.memory_disk.shift.Goals.{then-marked-i, else-marked-i}

pub loop-i-preserved : goal.loop-i-preserved
loop-i-preserved c =
    let a : c.loop-i.i < length c.args.bytes.now = omega (arith, c.loop-i-test.true) in
    let b : c.loop-i.i < length c.args.marked.now = omega (arith, c.requires) in
    elim c.if-marked-i.branch [
      | then-marked-i w ↦ w.bytes-is ∙ more_shifted c.args.by c.args.bytes.now c.loop-i.bytes c.args.marked.now c.loop-i.i a b c.loop-i.invariant (search rules)
      | else-marked-i w ↦ w.bytes-is ∙ same_shifted c.args.by c.args.bytes.now c.loop-i.bytes c.args.marked.now c.loop-i.i a b c.loop-i.invariant (search rules)
    ]
