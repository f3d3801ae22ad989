use Rattle.std.proofs.Common.{◌≡◌, ◌+◌, ◌-◌, take, drop, ℤ, to_z, of_z, w32, ap, sym, ◌∙◌, arith}
use Rattle.std.proofs.lemmas.Int.{ints}
use Rattle.std.proofs.lemmas.Result.{IfOk-weaker}
use Rattle.ext_table.specs.Table.{is_on, past_line, line_on}
use Rattle.ext_table.proofs.Places.{found, missing}
use Rattle.ext_table.proofs.listed.line_on.Goals as goal

pub returns-in-Some : goal.returns-in-Some
returns-in-Some c =
    let t : ℤ = to_z w32 (of_z w32 c.args.t) in
    let t_is : t ≡ c.args.t = omega (arith, ints) in
    let one : c.in-Some.place + 1 - c.in-Some.place ≡ 1 = omega arith in
    IfOk-weaker c.product_lines.result _ _
    (λ text e.
    e ∙ (found (is_on c.args.s t c.args.i) c.args.lines.now (past_line c.args.s t c.args.i) c.in-Some.place _ (sym c.in-Some.ensures.place) (ap (λ n. take n (drop c.in-Some.place c.args.lines.now)) one)
    ∙ ap (λ (z : ℤ). line_on c.args.s z c.args.i c.args.lines.now) t_is))
    c.product_lines.ensures

pub returns-in-None : goal.returns-in-None
returns-in-None c =
    let t : ℤ = to_z w32 (of_z w32 c.args.t) in
    let t_is : t ≡ c.args.t = omega (arith, ints) in
    IfOk-weaker c.past_line.result _ _
    (λ text e.
    e ∙ (missing (is_on c.args.s t c.args.i) c.args.lines.now (past_line c.args.s t c.args.i) (sym c.in-None.ensures.place)
    ∙ ap (λ (z : ℤ). line_on c.args.s z c.args.i c.args.lines.now) t_is))
    c.past_line.ensures
