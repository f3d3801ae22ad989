use Rattle.std.proofs.Common.{ℕ, ◌+◌, ◌<◌, Bool, List, length, ap, sym, subst, ◌∙◌}
use Rattle.std.proofs.lemmas.Result.{IfOk-weaker}
use Rattle.f2_vec.specs.Spans.{row}
use Rattle.square.specs.Tables.{row_in}
use Rattle.lift_laws.specs.Products.{count_of, coefficient_of, on_square}
use Rattle.bracket_laws.proofs.Vectors.{length-on_square}
use Rattle.chain_map.specs.Lifting.{resolution_of}
use Rattle.yoneda.specs.Products.{class_above, AreOnSquare}
use Rattle.massey.specs.Inside.{above_of, far_of}
use Rattle.massey.proofs.Values.{a_is_there, bracket_there}
use Rattle.massey.proofs.Members.{member_of}
use Rattle.massey.proofs.making.member.Goals as goal

pub coefficients-requires-clause-class : goal.coefficients-requires-clause-class
coefficients-requires-clause-class c = a_is_there c.args.setting.now.table.now c.args.setting.now.sphere.now c.args.setting.now.range (far_of c.args.setting.now.places) c.args.setting.now.places c.requires.setting

pub coefficients-requires-clause-square : goal.coefficients-requires-clause-square
coefficients-requires-clause-square c =
    subst (λ (n : ℕ). n < length (row_in c.args.setting.now.table.now.rows (c.args.n + c.args.setting.now.places.a.s))) (sym c.above.ensures) (bracket_there c.args.setting.now.table.now c.args.setting.now.sphere.now c.args.setting.now.range (far_of c.args.setting.now.places) c.args.setting.now.places c.requires.setting c.args.n c.requires.n)

pub coefficients-requires-clause-values : goal.coefficients-requires-clause-values
coefficients-requires-clause-values c =
    subst (λ (n : ℕ). AreOnSquare c.args.setting.now.table.now c.args.setting.now.sphere.now c.args.setting.now.places.a (c.args.n + c.args.setting.now.places.a.s) n c.as_slice.result.now) (sym c.above.ensures)
    (subst (AreOnSquare c.args.setting.now.table.now c.args.setting.now.sphere.now c.args.setting.now.places.a (c.args.n + c.args.setting.now.places.a.s) (above_of c.args.setting.now.places)) (sym c.as_slice.ensures.value) c.in_ok-last.ensures.values)

pub returns-clause-length : goal.returns-clause-length
returns-clause-length c =
    let f : ℕ → Bool = λ g. coefficient_of (resolution_of c.args.setting.now.sphere.now) (class_above c.args.setting.now.places.a) (row c.as_slice.result.now g) in
    IfOk-weaker c.coefficients.result _ _ (λ v is. ap length is ∙ (length-on_square (resolution_of c.args.setting.now.table.now) (c.args.n + c.args.setting.now.places.a.s) c.above.result f ∙ ap (λ (n : ℕ). count_of (resolution_of c.args.setting.now.table.now) (c.args.n + c.args.setting.now.places.a.s) n) c.above.ensures)) c.coefficients.ensures

pub returns-clause-member : goal.returns-clause-member
returns-clause-member c =
    let f : List (List Bool) → ℕ → Bool = λ w g. coefficient_of (resolution_of c.args.setting.now.sphere.now) (class_above c.args.setting.now.places.a) (row w g) in
    let at = ap (λ (n : ℕ). on_square (resolution_of c.args.setting.now.table.now) (c.args.n + c.args.setting.now.places.a.s) n (f c.as_slice.result.now)) c.above.ensures in
    let values = ap (λ (w : List (List Bool)). on_square (resolution_of c.args.setting.now.table.now) (c.args.n + c.args.setting.now.places.a.s) (above_of c.args.setting.now.places) (f w)) c.as_slice.ensures.value in
    IfOk-weaker c.coefficients.result _ _ (λ v is range far s all all_q. member_of c.args.setting.now.table.now c.args.setting.now.sphere.now range far c.args.setting.now.places s all all_q c.args.beta.now c.args.gamma.now c.requires.lifts c.args.n c.requires.n c.in_ok-last.last.items (c.in_ok-last.ensures.map range far s all all_q) v (is ∙ (at ∙ values))) c.coefficients.ensures
