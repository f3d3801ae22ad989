use Rattle.std.proofs.Common.{◌≡◌, ℕ, suc, ◌+◌, length, ap, ◌∙◌, arith}
use Rattle.f2_vec.proofs.Sums.{length-zeros}
use Rattle.lift_laws.specs.Products.{count_of}
use Rattle.chain_map.specs.Lifting.{resolution_of}
use Rattle.massey.specs.Brackets.{count_below}
use Rattle.massey.specs.Inside.{above_of}
use Rattle.massey.proofs.making.empty.Goals as goal
use Rattle.massey.proofs.making.empty.Goals.{in-Some, in-None}

pub returns-clause-one_each : goal.returns-clause-one_each
returns-clause-one_each c =
    let p = c.args.setting.now.places in
    let r = resolution_of c.args.setting.now.table.now in
    let size = ap length c.in_ok-zero.ensures ∙ length-zeros c.match-checked_sub.count in
    elim c.match-checked_sub.branch [
      | in-Some w ↦
          let row : suc w.in-Some.row ≡ p.a.s + p.b.s + p.c.s = omega (arith, w.in-Some.ensures) in
          size ∙ (w.count-is ∙ (ap length w.images_of.ensures.images ∙ (ap (count_of r w.in-Some.row) w.above.ensures ∙ ap (λ (n : ℕ). count_below r n (above_of p)) row)))
      | in-None w ↦
          let row : 0 ≡ p.a.s + p.b.s + p.c.s = omega (arith, w.in-None.ensures) in
          size ∙ (w.count-is ∙ ap (λ (n : ℕ). count_below r n (above_of p)) row)
    ]
