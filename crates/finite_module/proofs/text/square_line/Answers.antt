use Rattle.std.proofs.Common.{◌≡◌, ◌+ℤ◌, pos, to_z, of_z, w64, refl, subst, arith}
use Rattle.std.proofs.lemmas.Int.{ints}
use Rattle.std.specs.Result.{IfOk}
use Rattle.module_spec.specs.Spec.{degree_at}
use Rattle.finite_module.specs.Text.{sum_text}
use Rattle.finite_module.proofs.TextSteps.{square_line-none, square_line-some, square-width}
use Rattle.finite_module.proofs.text.square_line.Goals as goal

pub returns-then-is_zero : goal.returns-then-is_zero
returns-then-is_zero c =
    let m = c.args.operators.now in
    let none = square_line-none m c.args.i c.args.n c.sq.result c.in_ok-value.value c.sq.ensures c.in_ok-value.ensures (c.if-is_zero.ensures.0 refl) in
    cc

pub sum_text-requires : goal.sum_text-requires
sum_text-requires c =
    let m = c.args.operators.now in
    let gs = c.generators-generators.result.now in
    let t = to_z w64 (of_z w64 (to_z w64 (of_z w64 c.from.result) +ℤ to_z w64 (of_z w64 c.from-2.result))) in
    let at : c.degree.result ≡ degree_at m.generators c.args.i = cc in
    let d : t ≡ degree_at m.generators c.args.i +ℤ pos c.args.n = omega (arith, ints) in
    rw c.generators-generators.ensures.generators (square-width m c.args.i c.args.n c.sq.result c.in_ok-value.value t c.generators-generators.ensures.widths c.sq.ensures c.in_ok-value.ensures d)

pub returns : goal.returns
returns c =
    let m = c.args.operators.now in
    let t = to_z w64 (of_z w64 (to_z w64 (of_z w64 c.from.result) +ℤ to_z w64 (of_z w64 c.from-2.result))) in
    let at : c.degree.result ≡ degree_at m.generators c.args.i = cc in
    let d : t ≡ degree_at m.generators c.args.i +ℤ pos c.args.n = omega (arith, ints) in
    let name = c.name.ensures in
    let sum : c.as_slice.result.now ≡ sum_text m.generators t c.in_ok-value.value = cc (c.in_ok-sum.ensures) in
    let line = square_line-some m c.args.i c.args.n c.sq.result c.in_ok-value.value t c.name.result.now c.as_slice.result.now c.sq.ensures c.in_ok-value.ensures (λ z. let no = c.if-is_zero.ensures.1 z in cc) (cc) d sum in
    subst (λ text. IfOk c.equation.result (λ made. made.items ≡ text)) line c.equation.ensures
