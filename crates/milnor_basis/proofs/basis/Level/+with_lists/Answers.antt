use Rattle.std.proofs.Common.{◌≡◌, ◌≤◌, ◌<◌, ◌*◌, ◌/◌, ◌-◌, ◌^◌, ◌%◌, ◌++◌, ◌∷◌, [], IfOk, length, drop, ap, sym, subst, ◌∙◌, arith}
use Rattle.std.proofs.lemmas.List.{drop-set-lt, length-set}
use Rattle.std.proofs.lemmas.Nat.{one_shl, pow_below}
use Rattle.milnor_basis.proofs.BasisLemmas.{placed, placed_one, placed_turn, placed_end}
use Rattle.std.proofs.lemmas.Result.{IfOk-weaker}
use Rattle.milnor_basis.specs.Exponents.{trimmed}
use Rattle.milnor_basis.proofs.basis.Level.+with_lists.Goals as goal
use Rattle.milnor_basis.proofs.basis.Level.+with_lists.Goals.{else-loop-last-test, then-loop-last-test+in_ok-level+else-last-last-end}

pub returns-then-k-eq1 : goal.returns-then-k-eq1
returns-then-k-eq1 t c =
    let self = c.args.self in
    let n = c.args.n in
    subst (λ k. IfOk c.with_element.result (λ level. level ≡ self ++ placed k n (drop k c.args.numbers))) (sym c.if-k-eq1.true)
    (IfOk-weaker c.with_element.result (λ level. level ≡ self ++ trimmed (n ∷ drop 1 c.args.numbers) ∷ []) (λ level. level ≡ self ++ placed 1 n (drop 1 c.args.numbers))
    (λ level e. e ∙ ap (λ xs. self ++ xs) (sym (placed_one n (drop 1 c.args.numbers)))) c.with_element.ensures)

pub nonzero_div-last-end : goal.nonzero_div-last-end
nonzero_div-last-end t c =
    let weight : 1 * 2 ^ c.args.k % 2 ^ 16 ≡ 2 ^ c.args.k = one_shl c.args.k 16 (omega arith) in
    let above : 2 ^ 0 < 2 ^ c.args.k = pow_below 0 c.args.k (omega arith) in
    rw weight (omega arith)

pub loop-last-preserved : goal.loop-last-preserved
loop-last-preserved t c =
    let inv = c.loop-last.invariant in
    let len : length c.loop-last.numbers ≡ 8 = inv.len in
    let within : c.args.k ≤ length c.loop-last.numbers = omega arith in
    record {
      len = length-set c.loop-last.numbers (c.args.k - 1) c.loop-last.last ∙ inv.len;
      weight = inv.weight;
      rest = drop-set-lt c.args.k c.loop-last.numbers (c.args.k - 1) c.loop-last.last (omega arith) ∙ inv.rest;
      elements = placed_turn c.args.self c.loop-last.level c.in_ok-level.level c.args.numbers c.loop-last.numbers c.args.k c.args.n c.loop-last.last (1 * 2 ^ c.args.k % 2 ^ 16 - 1) (omega arith) within inv.weight inv.rest inv.elements c.in_ok-level.ensures;
    }

pub returns : goal.returns
returns t c =
    elim c.loop-last-test.branch [
      | else-loop-last-test w ↦ absurd (omega arith)
      | then-loop-last-test+in_ok-level+else-last-last-end w ↦
          let inv = c.loop-last.invariant in
          let len : length c.loop-last.numbers ≡ 8 = inv.len in
          let within : c.args.k ≤ length c.loop-last.numbers = omega arith in
          let made = placed_turn c.args.self c.loop-last.level w.in_ok-level.level c.args.numbers c.loop-last.numbers c.args.k c.args.n c.loop-last.last (1 * 2 ^ c.args.k % 2 ^ 16 - 1) (omega arith) within inv.weight inv.rest inv.elements w.in_ok-level.ensures in
          let last : c.loop-last.last ≡ c.args.n / (1 * 2 ^ c.args.k % 2 ^ 16 - 1) = omega arith in
          w.level-is ∙ placed_end c.args.self w.in_ok-level.level c.args.k c.args.n c.loop-last.last (1 * 2 ^ c.args.k % 2 ^ 16 - 1) (drop c.args.k c.args.numbers) (omega arith) inv.weight last made
    ]
