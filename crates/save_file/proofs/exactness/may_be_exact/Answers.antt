use Rattle.std.proofs.Common.{◌≡◌, ◌∙◌, ◌+◌, ◌-◌, suc, arith, Some, ℕ, ℤ, w32, to_z, of_z, ap, sym, subst, length, List, Bool}
use Rattle.std.proofs.lemmas.Bool.{iff_false}
use Rattle.std.proofs.lemmas.Int.{to_z-of_z}
use Rattle.std.proofs.lemmas.Result.{IfOk-weaker}
use Rattle.std.specs.Arc.{arc_value}
use Rattle.finite_module.specs.Checked.{Checked}
use Rattle.square.specs.Squares.{Placed, over}
use Rattle.square.specs.Tables.{square_at, IsMatrixAt}
use Rattle.save_file.specs.Inside.Differentials.{matrix_of_map}
use Rattle.save_file.specs.Inside.Exactness.{AreOfNone}
use Rattle.save_file.proofs.Inexact.{inexact_first, inexact_behind}
use Rattle.save_file.proofs.There.{IsThere, is_there}
use Rattle.save_file.proofs.exactness.may_be_exact.Goals as goal

pub returns-then-s-eq0 : goal.returns-then-s-eq0
returns-then-s-eq0 c =
    let now = c.args.table.now in
    let q = arc_value c.in-Some.square.now in
    let m = matrix_of_map c.in_ok-map.map in
    let told = to_z-of_z w32 c.args.t c.ranges.t in
    let is = subst (λ (t : ℤ). IsMatrixAt now c.args.s t m) told c.in_ok-map.ensures in
    let found = subst (λ (t : ℤ). square_at now c.args.s t ≡ Some q) told (sym c.in-Some.ensures.square) in
    let many : length c.kernel.result.now ≡ length q.content.kernel = ap length (c.kernel.ensures ∙ ap (λ (x : Placed). x.content.kernel) c.deref-then-s-eq0.ensures) in
    let width : c.dim_in.result ≡ (over now.resolved).graded.width c.args.t =
    c.dim_in.ensures ∙ ap (λ (r : Checked). (over r).graded.width (to_z w32 (of_z w32 c.args.t))) c.module.ensures ∙ ap (over now.resolved).graded.width told in
    IfOk-weaker c.adds_up.result _ _ (λ may adds no. inexact_first c.parts_are_reduction.ensures now c.args.s c.dim_in.result c.args.t q m c.if-s-eq0.true found is width (λ sum. iff_false adds no (subst (λ (n : ℕ). c.dim_in.result + n ≡ length m.rows) (sym many) sum))) c.adds_up.ensures

pub returns : goal.returns
returns c =
    let now = c.args.table.now in
    let q = arc_value c.in-Some.square.now in
    let below = arc_value c.in-Some-square.below.now in
    let m = matrix_of_map c.in_ok-map.map in
    let told = to_z-of_z w32 c.args.t c.ranges.t in
    let is = subst (λ (t : ℤ). IsMatrixAt now c.args.s t m) told c.in_ok-map.ensures in
    let found = subst (λ (t : ℤ). square_at now c.args.s t ≡ Some q) told (sym c.in-Some.ensures.square) in
    let place : IsThere now c.args.s c.above.result c.args.t = is_there now c.at.ensures.is_table c.args.s c.above.result c.args.t q found (c.above.ensures.above ∙ ap (λ (x : Placed). x.above) c.deref-2.ensures) in
    let image : c.in_ok-image.image ≡ below.content.kernel = c.in_ok-image.ensures ∙ ap (λ (x : Placed). x.content.kernel) c.deref-3.ensures in
    let kernel : c.in_ok-kernel.kernel ≡ q.content.kernel = c.in_ok-kernel.ensures ∙ ap (λ (x : Placed). x.content.kernel) c.deref-4.ensures in
    let next : c.args.s ≡ suc (c.args.s - 1) = omega (arith, c.if-s-eq0.false) in
    IfOk-weaker c.may_have.result _ _ (λ may none no.
    inexact_behind now c.args.s (c.args.s - 1) c.above.result c.args.t q below m c.in_ok-image.image next place.degree found (sym c.in-Some-square.ensures.square) is image
    (subst (λ (x : List (List Bool)). AreOfNone m c.in_ok-image.image x) kernel (none no))) c.may_have.ensures
