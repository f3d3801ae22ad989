use Rattle.std.proofs.Common.{◌≡◌, ◌+◌, ◌-◌, ◌*◌, ◌^◌, ◌%◌, ◌<◌, length, sym, ap, subst, ◌∙◌, arith}
use Rattle.std.proofs.lemmas.List.{get_or_read, length_push}
use Rattle.std.proofs.lemmas.Nat.{one_shl, pow_below}
use Rattle.milnor_basis.specs.Basis.{lists_of}
use Rattle.milnor_basis.specs.Inside.Counted.{IsCounted}
use Rattle.milnor_basis.proofs.Counting.{count_fits, counted_push, counted_more, counted_none}
use Rattle.milnor_basis.proofs.counts.with_degree.Goals as goal
use Rattle.milnor_basis.proofs.counts.with_degree.Goals.{then-weight-n, else-weight-n}

pub overflow_add-count : goal.overflow_add-count
overflow_add-count c =
    let k = c.loop-k.k in
    let weight : 1 * 2 ^ k % 2 ^ 16 ≡ 2 ^ k = one_shl k 16 (omega arith) in
    let above : 2 ^ 0 < 2 ^ k = pow_below 0 k (omega arith) in
    let from = c.from.ensures in
    let at : 9 * c.from.result + k < length c.loop-k.numbers.items = (let below = c.loop-k.invariant.below in let fits = c.if-weight-n.true in omega arith) in
    let sum : c.loop-k.count + c.index.result.now ≡ length (lists_of k c.args.n) =
    counted_more c.loop-k.numbers.items c.args.n k (1 * 2 ^ k % 2 ^ 16 - 1) (9 * c.from.result + k) c.loop-k.count c.index.result.now (omega arith) (omega arith) (ap (λ m. m - 1) weight) (omega arith) (omega arith) at
    c.loop-k.invariant.counted c.loop-k.invariant.last (get_or_read c.loop-k.numbers.items (9 * c.from.result + k) c.index.result.now at c.index.ensures 0)
    in
    omega (arith, count_fits k c.args.n (omega arith) c.requires.degree)

pub loop-k-preserved : goal.loop-k-preserved
loop-k-preserved c =
    let k = c.loop-k.k in
    let n = c.args.n in
    let weight : 1 * 2 ^ k % 2 ^ 16 ≡ 2 ^ k = one_shl k 16 (omega arith) in
    let above : 2 ^ 0 < 2 ^ k = pow_below 0 k (omega arith) in
    let inv = c.loop-k.invariant in
    let numbers = c.loop-k.numbers.items in
    let made : c.if-weight-n.count ≡ length (lists_of k n) =
    elim c.if-weight-n.branch [
      | then-weight-n w ↦
          let from = w.from.ensures in
          let at : 9 * w.from.result + k < length numbers = (let below = inv.below in let fits = w.if-weight-n.true in omega arith) in
          w.count-is ∙ counted_more numbers n k (1 * 2 ^ k % 2 ^ 16 - 1) (9 * w.from.result + k) c.loop-k.count w.index.result.now (omega arith) (omega arith) (ap (λ m. m - 1) weight) (omega arith) (omega arith) at
          inv.counted inv.last (get_or_read numbers (9 * w.from.result + k) w.index.result.now at w.index.ensures 0)
      | else-weight-n w ↦
          w.count-is ∙ counted_none n k (1 * 2 ^ k % 2 ^ 16 - 1) c.loop-k.count (omega arith) (ap (λ m. m - 1) weight) (omega (arith, w.if-weight-n.false)) inv.last
    ] in
    let next : k + 1 - 1 ≡ k = omega arith in
    let pushed = c.in_ok-push-2.ensures.items in
    record {
      below = ap length pushed ∙ length_push numbers c.if-weight-n.count ∙ (let below = inv.below in omega arith);
      counted = subst IsCounted (sym pushed) (counted_push numbers n k c.if-weight-n.count (omega arith) inv.below made inv.counted);
      last = made ∙ ap (λ j. length (lists_of j n)) (sym next);
    }
