use Rattle.std.proofs.Common.{ℕ, ◌+◌, pos, ◌-ℤ◌, ap, sym, subst, ◌∙◌, arith}
use Rattle.std.proofs.lemmas.Int.{ints}
use Rattle.std.proofs.lemmas.Result.{err_from_is_err_and}
use Rattle.f2_vec.specs.Vectors.{IsZero}
use Rattle.chain_map.specs.Lifting.{resolution_of}
use Rattle.massey.specs.Brackets.{count_below, IsBracketOf}
use Rattle.massey.specs.Inside.{above_of, far_of}
use Rattle.massey.proofs.Refusals.{rows_are, degrees_are}
use Rattle.massey.proofs.Values.{a_is_there, b_is_there, values_ab, values_bc}
use Rattle.massey.proofs.Causes.{cause_of_refusal, ab_product, bc_product, so_through, zero_when, nonzero_when}
use Rattle.massey.proofs.making.bracket.Goals as goal

pub returns-in_err-places-clause-cause : goal.returns-in_err-places-clause-cause
returns-in_err-places-clause-cause c =
    let p = err_from_is_err_and c.from_residual.result c.from_residual.ensures.1 in
    rw (p.1, p.2) (cause_of_refusal c.args.table.now c.args.sphere.now c.args.range c.args.a c.args.b c.args.c _ c.in_err-places.ensures.refused)

pub lift_of_b-requires-clause-setting : goal.lift_of_b-requires-clause-setting
lift_of_b-requires-clause-setting c = c.in_ok-places.ensures.setting

pub lift_of_b-requires-clause-class : goal.lift_of_b-requires-clause-class
lift_of_b-requires-clause-class c =
    let is = c.in_ok-places.ensures.found.b_is in
    record { row = is.row; degree = is.degree; number = is.number; inside = c.in_ok-places.ensures.setting.b_in }

pub product_by_lift-requires-clause-class : goal.product_by_lift-requires-clause-class
product_by_lift-requires-clause-class c = a_is_there c.args.table.now c.args.sphere.now c.args.range (far_of c.in_ok-places.places) c.in_ok-places.places c.in_ok-places.ensures.setting

pub product_by_lift-requires-clause-square : goal.product_by_lift-requires-clause-square
product_by_lift-requires-clause-square c = (values_ab c.args.table.now c.args.sphere.now c.args.range (far_of c.in_ok-places.places) c.in_ok-places.places c.in_ok-places.ensures.setting c.in_ok-beta.beta c.in_ok-beta.ensures).there

pub product_by_lift-requires-clause-row : goal.product_by_lift-requires-clause-row
product_by_lift-requires-clause-row c = (values_ab c.args.table.now c.args.sphere.now c.args.range (far_of c.in_ok-places.places) c.in_ok-places.places c.in_ok-places.ensures.setting c.in_ok-beta.beta c.in_ok-beta.ensures).row

pub product_by_lift-requires-clause-values : goal.product_by_lift-requires-clause-values
product_by_lift-requires-clause-values c = (values_ab c.args.table.now c.args.sphere.now c.args.range (far_of c.in_ok-places.places) c.in_ok-places.places c.in_ok-places.ensures.setting c.in_ok-beta.beta c.in_ok-beta.ensures).on_square

pub lift_of_c-requires-clause-setting : goal.lift_of_c-requires-clause-setting
lift_of_c-requires-clause-setting c = c.in_ok-places.ensures.setting

pub lift_of_c-requires-clause-class : goal.lift_of_c-requires-clause-class
lift_of_c-requires-clause-class c = c.in_ok-places.ensures.found.c_is

pub product_by_lift-requires-2-clause-class : goal.product_by_lift-requires-2-clause-class
product_by_lift-requires-2-clause-class c = b_is_there c.args.table.now c.args.sphere.now c.args.range (far_of c.in_ok-places.places) c.in_ok-places.places c.in_ok-places.ensures.setting

pub product_by_lift-requires-2-clause-square : goal.product_by_lift-requires-2-clause-square
product_by_lift-requires-2-clause-square c = (values_bc c.args.table.now c.args.sphere.now c.args.range (far_of c.in_ok-places.places) c.in_ok-places.places c.in_ok-places.ensures.setting c.in_ok-gamma.gamma c.in_ok-gamma.ensures).there

pub product_by_lift-requires-2-clause-row : goal.product_by_lift-requires-2-clause-row
product_by_lift-requires-2-clause-row c = (values_bc c.args.table.now c.args.sphere.now c.args.range (far_of c.in_ok-places.places) c.in_ok-places.places c.in_ok-places.ensures.setting c.in_ok-gamma.gamma c.in_ok-gamma.ensures).row

pub product_by_lift-requires-2-clause-values : goal.product_by_lift-requires-2-clause-values
product_by_lift-requires-2-clause-values c = (values_bc c.args.table.now c.args.sphere.now c.args.range (far_of c.in_ok-places.places) c.in_ok-places.places c.in_ok-places.ensures.setting c.in_ok-gamma.gamma c.in_ok-gamma.ensures).on_square

pub by_lifts-requires-clause-setting : goal.by_lifts-requires-clause-setting
by_lifts-requires-clause-setting c = c.in_ok-places.ensures.setting

pub by_lifts-requires-clause-beta : goal.by_lifts-requires-clause-beta
by_lifts-requires-clause-beta c = c.in_ok-beta.ensures

pub by_lifts-requires-clause-gamma : goal.by_lifts-requires-clause-gamma
by_lifts-requires-clause-gamma c = c.in_ok-gamma.ensures

pub by_lifts-requires-clause-ab_zero : goal.by_lifts-requires-clause-ab_zero
by_lifts-requires-clause-ab_zero c = subst IsZero c.in_ok-ab.ensures (zero_when c.is_zero.result c.in_ok-ab.ab c.is_zero.ensures c.if-not-is_zero.false)

pub by_lifts-requires-clause-bc_zero : goal.by_lifts-requires-clause-bc_zero
by_lifts-requires-clause-bc_zero c = subst IsZero c.in_ok-bc.ensures (zero_when c.is_zero-2.result c.in_ok-bc.bc c.is_zero-2.ensures c.if-not-is_zero-2.false)

pub returns-then-not-is_zero-clause-cause : goal.returns-then-not-is_zero-clause-cause
returns-then-not-is_zero-clause-cause c = (c.in_ok-places.ensures.made, (ab_product c.lifts_give_one_product.ensures c.modules_are_graded_modules.ensures c.args.table.now c.args.sphere.now c.args.range c.args.a c.args.b c.args.c c.in_ok-places.places c.in_ok-places.ensures.setting c.in_ok-places.ensures.found c.in_ok-beta.beta c.in_ok-beta.ensures c.in_ok-ab.ab c.in_ok-ab.ensures, nonzero_when c.is_zero.result c.in_ok-ab.ab c.is_zero.ensures c.if-not-is_zero.true))

pub returns-then-not-is_zero-2-clause-cause : goal.returns-then-not-is_zero-2-clause-cause
returns-then-not-is_zero-2-clause-cause c = (c.in_ok-places.ensures.made, (record { product = c.in_ok-ab.ab; is_product = ab_product c.lifts_give_one_product.ensures c.modules_are_graded_modules.ensures c.args.table.now c.args.sphere.now c.args.range c.args.a c.args.b c.args.c c.in_ok-places.places c.in_ok-places.ensures.setting c.in_ok-places.ensures.found c.in_ok-beta.beta c.in_ok-beta.ensures c.in_ok-ab.ab c.in_ok-ab.ensures; is_zero = (zero_when c.is_zero.result c.in_ok-ab.ab c.is_zero.ensures c.if-not-is_zero.false) }, bc_product c.lifts_give_one_product.ensures c.modules_are_graded_modules.ensures c.args.table.now c.args.sphere.now c.args.range c.args.a c.args.b c.args.c c.in_ok-places.places c.in_ok-places.ensures.setting c.in_ok-places.ensures.found c.in_ok-gamma.gamma c.in_ok-gamma.ensures c.in_ok-bc.bc c.in_ok-bc.ensures, nonzero_when c.is_zero-2.result c.in_ok-bc.bc c.is_zero-2.ensures c.if-not-is_zero-2.true))

pub returns-clause-bracket : goal.returns-clause-bracket
returns-clause-bracket c = record {
  s = c.in_ok-bracket.ensures.s ∙ ap (λ (n : ℕ). pos n -ℤ pos 1) (rows_are c.args.table.now c.args.sphere.now c.args.range c.args.a c.args.b c.args.c c.in_ok-places.places c.in_ok-places.ensures.found);
  t = c.in_ok-bracket.ensures.t ∙ sym (degrees_are c.args.table.now c.args.sphere.now c.args.range c.requires.sphere c.args.a c.args.b c.args.c c.in_ok-places.places c.in_ok-places.ensures.found).abc;
  widths = c.in_ok-bracket.ensures.widths;
  one_each = λ above at. c.in_ok-bracket.ensures.one_each ∙ (ap (λ (n : ℕ). count_below (resolution_of c.args.table.now) n (above_of c.in_ok-places.places)) (rows_are c.args.table.now c.args.sphere.now c.args.range c.args.a c.args.b c.args.c c.in_ok-places.places c.in_ok-places.ensures.found) ∙ ap (count_below (resolution_of c.args.table.now) (c.args.a.s + c.args.b.s + c.args.c.s)) (omega (arith, ints, at, c.in_ok-bracket.ensures.t)));
  ab_zero = record { product = c.in_ok-ab.ab; is_product = ab_product c.lifts_give_one_product.ensures c.modules_are_graded_modules.ensures c.args.table.now c.args.sphere.now c.args.range c.args.a c.args.b c.args.c c.in_ok-places.places c.in_ok-places.ensures.setting c.in_ok-places.ensures.found c.in_ok-beta.beta c.in_ok-beta.ensures c.in_ok-ab.ab c.in_ok-ab.ensures; is_zero = (zero_when c.is_zero.result c.in_ok-ab.ab c.is_zero.ensures c.if-not-is_zero.false) };
  bc_zero = record { product = c.in_ok-bc.bc; is_product = bc_product c.lifts_give_one_product.ensures c.modules_are_graded_modules.ensures c.args.table.now c.args.sphere.now c.args.range c.args.a c.args.b c.args.c c.in_ok-places.places c.in_ok-places.ensures.setting c.in_ok-places.ensures.found c.in_ok-gamma.gamma c.in_ok-gamma.ensures c.in_ok-bc.bc c.in_ok-bc.ensures; is_zero = (zero_when c.is_zero-2.result c.in_ok-bc.bc c.is_zero-2.ensures c.if-not-is_zero-2.false) };
  is_bracket = so_through c.lifts_give_one_product.ensures c.modules_are_graded_modules.ensures c.args.table.now c.args.sphere.now c.args.range c.args.a c.args.b c.args.c c.in_ok-places.places c.in_ok-places.ensures.setting c.in_ok-places.ensures.found (λ r q x y z. IsBracketOf r q x y z c.in_ok-bracket.bracket.value c.in_ok-bracket.bracket.indeterminacy.rows) c.in_ok-bracket.ensures.bracket;
}
