-- Each number has its turn.
use Rattle.std.proofs.Common.{◌≡◌, ℕ, ◌<◌, ◌≤◌, ◌-◌, ◌≢◌, ◌⊎◌, inl, inr, ◌+◌, suc, refl, sym, subst, ◌∙◌, arith, add-one, rules}
use Rattle.milnor_basis.proofs.Fill.{TurnsOverBelow, loop_start, loop_end, loop_skip, loop_skips, loop_turn, turns_at_end}
use Rattle.milnor_basis.specs.Inside.Walk.{least, greatest}
use Rattle.milnor_basis.proofs.product.+fill.Goals as goal

above : (row column : ℕ) → ((row ≡ 0) × (column ≡ 0 → ⊥)) ⊎ (row ≡ 0 → ⊥) → 0 < row + column
above row column (inl h) = let ne : column ≢ 0 = h.1 in omega arith
above row column (inr h) = let ne : row ≢ 0 = h in omega arith

pub returns-then-column-eq0 : goal.returns-then-column-eq0
returns-then-column-eq0 t c = record {
  turned = turns_at_end c.args.degree c.args.width c.args.row c.args.column c.args.left.rows c.args.left.columns c.args.left.diagonals c.args.bits.now c.turn_over.new.bits c.if-row-eq0.true c.if-column-eq0.true c.turn_over.ensures.turned;
  size = c.turn_over.ensures.size;
}

pub loop-number-init : goal.loop-number-init
loop-number-init t c =
    let base = loop_start c.args.degree c.args.width c.args.row c.args.column c.args.left.rows c.args.left.columns c.args.left.diagonals (above c.args.row c.args.column c.else-row-eq0.either) c.requires.column c.args.bits.now in
    let from : c.from-number.result ≡ least c.args.row c.args.column c.args.left.rows c.args.left.columns = c.from-number.ensures ∙ c.range-least.ensures.least in
    record {
      from = omega arith;
      turned = subst (λ (n : ℕ). TurnsOverBelow c.args.degree c.args.width c.args.row c.args.column c.args.left.rows c.args.left.columns c.args.left.diagonals n c.args.bits.now c.args.bits.now) (sym from) base;
      size = refl;
    }

pub loop-number-preserved-then-put-sum-eq0 : goal.loop-number-preserved-then-put-sum-eq0
loop-number-preserved-then-put-sum-eq0 t c =
    let higher = above c.args.row c.args.column c.else-row-eq0.either in
    let n = c.loop-number.number in
    let next = c.next_apart-number.result in
    let past : n < next = c.next_apart-number.ensures.above in
    let from : least c.args.row c.args.column c.args.left.rows c.args.left.columns ≤ n = c.loop-number.invariant.from in
    let to : n ≤ greatest c.args.row c.args.column c.args.left.rows c.args.left.columns = omega (arith, c.loop-number-test.true, c.from.ensures, c.range-least.ensures.greatest) in
    let turned = loop_turn c.args.degree c.args.width c.args.row c.args.column c.args.left.rows c.args.left.columns c.args.left.diagonals higher c.requires.column c.args.bits.now n
    c.next_place-next_row.result.0 c.next_place-next_row.result.1 c.loop-number.bits c.fill.new.bits c.put.result.rows c.put.result.columns c.put.result.diagonals
    c.next_place-next_row.ensures.row c.next_place-next_row.ensures.column c.put.ensures.rows c.put.ensures.columns c.put.ensures.diagonals
    (search rules) (search rules) (search rules) c.loop-number.invariant.size from to c.if-put-sum-eq0.true c.loop-number.invariant.turned c.fill.ensures.turned
    in
    let skipped = loop_skips c.args.degree c.args.width c.args.row c.args.column c.args.left.rows c.args.left.columns c.args.left.diagonals higher c.requires.column c.args.bits.now (next - suc n) (suc n) c.fill.new.bits c.requires.width c.requires.row
    (λ v l m. c.next_apart-number.ensures.least v (omega arith) (omega arith)) turned
    in
    let whole : next - suc n + suc n ≡ next = omega arith in
    record {
      from = omega arith;
      turned = subst (λ (m : ℕ). TurnsOverBelow c.args.degree c.args.width c.args.row c.args.column c.args.left.rows c.args.left.columns c.args.left.diagonals m c.args.bits.now c.fill.new.bits) whole skipped;
      size = c.fill.ensures.size ∙ c.loop-number.invariant.size;
    }

pub loop-number-preserved : goal.loop-number-preserved
loop-number-preserved t c =
    let higher = above c.args.row c.args.column c.else-row-eq0.either in
    let skipped = loop_skip c.args.degree c.args.width c.args.row c.args.column c.args.left.rows c.args.left.columns c.args.left.diagonals higher c.requires.column c.args.bits.now c.loop-number.number c.loop-number.bits c.requires.width c.requires.row c.if-put-sum-eq0.false c.loop-number.invariant.turned in
    let from = c.loop-number.invariant.from in
    record {
      from = omega arith;
      turned = subst (λ (n : ℕ). TurnsOverBelow c.args.degree c.args.width c.args.row c.args.column c.args.left.rows c.args.left.columns c.args.left.diagonals n c.args.bits.now c.loop-number.bits) (sym (add-one c.loop-number.number)) skipped;
      size = c.loop-number.invariant.size;
    }

pub returns : goal.returns
returns t c =
    let higher = above c.args.row c.args.column c.else-row-eq0.either in
    record {
      turned = loop_end c.args.degree c.args.width c.args.row c.args.column c.args.left.rows c.args.left.columns c.args.left.diagonals higher c.requires.column c.args.bits.now c.loop-number.number c.loop-number.bits
          (omega (arith, c.loop-number-test.false, c.from.ensures, c.range-least.ensures.greatest)) c.loop-number.invariant.turned;
      size = c.loop-number.invariant.size;
    }
