use Rattle.std.proofs.Common.{subst}
use Rattle.std.proofs.lemmas.Result.{IfOk-weaker}
use Rattle.save_file.specs.Inside.Differentials.{matrix_of_map}
use Rattle.save_file.specs.Inside.Exactness.{HasNoRelation}
use Rattle.save_file.proofs.Inexact.{by_relation, by_row, by_other_relation}
use Rattle.save_file.proofs.row_map.SquareMap.may_span.Goals as goal

pub returns-then-not-vanish : goal.returns-then-not-vanish
returns-then-not-vanish c =
    let m = matrix_of_map c.args.self.now in
    λ no. by_relation m c.args.image.now.image c.args.kernel.now.image (subst (HasNoRelation m) c.image.ensures.rows (c.in_ok-vanish.ensures c.if-not-vanish.true))

pub returns-then-not-stay : goal.returns-then-not-stay
returns-then-not-stay c =
    λ no. by_row (matrix_of_map c.args.self.now) c.args.image.now.image c.args.kernel.now.image (c.in_ok-stay.ensures c.if-not-stay.true)

pub returns : goal.returns
returns c =
    let m = matrix_of_map c.args.self.now in
    IfOk-weaker c.has_no_more.result _ _ (λ may e no. by_other_relation m c.args.image.now.image c.args.kernel.now.image (e no)) c.has_no_more.ensures
