use Rattle.std.proofs.Common.{◌≡◌, ap, subst, length, List, Bool, arith}
use Rattle.std.proofs.lemmas.Bool.{iff_false}
use Rattle.std.proofs.lemmas.Result.{IfOk-weaker}
use Rattle.save_file.specs.Inside.Differentials.{matrix_of_map}
use Rattle.save_file.specs.Inside.Exactness.{AreOfNone}
use Rattle.save_file.proofs.Inexact.{by_count}
use Rattle.save_file.proofs.row_map.SquareMap.may_have.Goals as goal

pub returns-then-not-adds_up : goal.returns-then-not-adds_up
returns-then-not-adds_up c =
    let rank : length c.as_slice.result.now ≡ length c.args.image = ap length c.as_slice.ensures in
    let nullity : length c.as_slice-2.result.now ≡ length c.args.kernel = ap length c.as_slice-2.ensures in
    λ no. by_count c.parts_are_reduction.ensures (matrix_of_map c.args.self.now) c.args.image c.args.kernel (λ sum. iff_false c.in_ok-adds_up.ensures c.if-not-adds_up.true (omega (arith, rank, nullity, sum)))

pub returns : goal.returns
returns c =
    let m = matrix_of_map c.args.self.now in
    let image : c.in-Some.image.image ≡ c.args.image = rw c.in-Some.is at c.in_ok-image.ensures.image in
    let kernel : c.in-Some-2.kernel.image ≡ c.args.kernel = rw c.in-Some-2.is at c.in_ok-kernel.ensures.image in
    IfOk-weaker c.may_span.result _ _ (λ may none no.
    subst (λ (x : List (List Bool)). AreOfNone m x c.args.kernel) image (subst (λ (x : List (List Bool)). AreOfNone m c.in-Some.image.image x) kernel (none no))) c.may_span.ensures
