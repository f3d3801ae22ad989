use Rattle.std.proofs.Common.{◌≡◌, ◌<◌, ◌++◌, length, string_bytes, ap, ◌∙◌, arith}
use Rattle.std.specs.Prelude.{decimal}
use Rattle.milnor_basis.specs.Exponents.{entry}
use Rattle.milnor_basis.proofs.TextLemmas.{written-first, written-later}
use Rattle.milnor_basis.proofs.text.sq_text.Goals as goal
use Rattle.milnor_basis.proofs.text.sq_text.Goals.{then-i-gt0+in_ok-push, else-i-gt0}

pub loop-i-preserved : goal.loop-i-preserved
loop-i-preserved c =
    let r = c.args.r.now in
    let i = c.loop-i.i in
    let before = string_bytes c.loop-i.text in
    let piece : c.format.result.now ≡ decimal (entry r i) = c.format.ensures.text ∙ ap decimal c.exponent.ensures in
    let inside : i < length r = omega arith in
    elim c.if-i-gt0.branch [
      | then-i-gt0+in_ok-push w ↦
          let comma = ap string_bytes w.text-is ∙ w.in_ok-push.ensures.bytes ∙ ap (λ t. before ++ t) (w.in_ok-push.ensures.ascii (omega arith)) in
          written-later r i before (string_bytes c.if-i-gt0.text) c.format.result.now _ w.if-i-gt0.true inside c.loop-i.invariant comma piece c.in_ok-push_str.ensures.bytes
      | else-i-gt0 w ↦
          let none : i ≡ 0 = omega arith in
          written-first r i (string_bytes c.if-i-gt0.text) c.format.result.now _ none inside (ap string_bytes w.text-is ∙ c.loop-i.invariant) piece c.in_ok-push_str.ensures.bytes
    ]
