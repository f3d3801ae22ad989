use Rattle.std.proofs.Common.{◌≡◌, ◌/◌, ◌%◌, ℤ, ◌+ℤ◌, length, to_z, of_z, w64, ap, sym, ◌∙◌, arith}
use Rattle.std.proofs.lemmas.Int.{ints}
use Rattle.module_spec.specs.Spec.{degree_at}
use Rattle.module_build.specs.Inside.Construction.{degree_in}
use Rattle.module_build.proofs.construction.Construction.degree.Goals as goal

pub returns-in-Shift : goal.returns-in-Shift
returns-in-Shift c =
    let m = c.in-Shift.given.now.plain in
    let t : ℤ = to_z w64 (of_z w64 (to_z w64 (of_z w64 c.from.result) +ℤ to_z w64 (of_z w64 c.from-in-Shift.result))) in
    let at : t ≡ degree_at m.generators c.args.x +ℤ c.in-Shift.by = omega (arith, ints, c.from.ensures, c.from-in-Shift.ensures, c.degree.ensures.degree, c.degree.ensures.lowest, c.degree.ensures.highest) in
    at ∙ sym (ap (λ s. degree_in s c.args.x) c.in-Shift.is)

pub returns-in-Tensor : goal.returns-in-Tensor
returns-in-Tensor c =
    let l = c.in-Tensor.left.now.plain in
    let r = c.in-Tensor.right.now.plain in
    let n = length r.generators in
    let k = c.count-count.result in
    let t : ℤ = to_z w64 (of_z w64 (to_z w64 (of_z w64 c.from-in-Tensor.result) +ℤ to_z w64 (of_z w64 c.from-in-Tensor-2.result))) in
    let at : t ≡ degree_at l.generators (c.args.x / k) +ℤ degree_at r.generators (c.args.x % k) = omega (arith, ints, c.from-in-Tensor.ensures, c.from-in-Tensor-2.ensures, c.degree-in-Tensor.ensures.degree, c.degree-in-Tensor.ensures.lowest, c.degree-in-Tensor.ensures.highest, c.degree-in-Tensor-2.ensures.degree, c.degree-in-Tensor-2.ensures.lowest, c.degree-in-Tensor-2.ensures.highest) in
    at
    ∙ ap (λ j. degree_at l.generators (c.args.x / j) +ℤ degree_at r.generators (c.args.x % j)) c.count-count.ensures.count
    ∙ sym (ap (λ s. degree_in s c.args.x) c.in-Tensor.is)
