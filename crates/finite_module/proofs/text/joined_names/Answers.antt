use Rattle.std.proofs.Common.{◌≡◌, get_or, arith}
use Rattle.finite_module.specs.Text.{name_at}
use Rattle.finite_module.proofs.TextSteps.{joined_by_plus-first, joined_by_plus-next}
use Rattle.finite_module.proofs.text.joined_names.Goals as goal
use Rattle.finite_module.proofs.text.joined_names.Goals.{then-k-gt0+in_ok-extend_from_slice, else-k-gt0}

pub loop-k-preserved : goal.loop-k-preserved
loop-k-preserved c =
    let gs = c.args.generators.now in
    let numbers = c.args.numbers.now in
    let k = c.loop-k.k in
    let last = c.in_ok-extend_from_slice-2.ensures.items in
    let name : c.as_bytes.result.now ≡ name_at gs (get_or numbers k 0) = cc in
    elim c.if-k-gt0.branch [
      | then-k-gt0+in_ok-extend_from_slice w ↦
          let next = joined_by_plus-next (name_at gs) numbers k c.loop-k.text.items w.if-k-gt0.true (omega arith) c.loop-k.invariant in
          cc (w.in_ok-extend_from_slice.ensures.items)
      | else-k-gt0 w ↦
          let first = joined_by_plus-first (name_at gs) numbers k c.loop-k.text.items w.if-k-gt0.false (omega arith) c.loop-k.invariant in
          cc
    ]
