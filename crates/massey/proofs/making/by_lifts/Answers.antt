use Rattle.std.proofs.Common.{◌≡◌, ℕ, suc, ◌+◌, ◌-◌, ◌∙◌, ap, arith}
use Rattle.chain_map.specs.Lifting.{resolution_of}
use Rattle.massey.specs.Brackets.{count_below}
use Rattle.massey.specs.Inside.{above_of}
use Rattle.std.proofs.lemmas.Result.{IfOk-weaker}
use Rattle.massey.proofs.Positive.{a_row_positive, b_row_positive}
use Rattle.massey.proofs.Values.{bracket_row}
use Rattle.massey.proofs.making.by_lifts.Goals as goal

pub coset-requires-clause-lifts : goal.coset-requires-clause-lifts
coset-requires-clause-lifts c =
    let p = c.args.setting.now.places in
    record {
      low = p.b.s - 1;
      last = p.a.s - 1;
      b_row = omega (arith, c.if-places-eq0-2.false);
      a_row = omega (arith, c.if-places-eq0.false);
      beta_lift = c.requires.beta;
      gamma_lift = c.requires.gamma;
      ab_zero = c.requires.ab_zero;
      bc_zero = c.requires.bc_zero;
    }

pub coset-requires-clause-n : goal.coset-requires-clause-n
coset-requires-clause-n c = omega (arith, c.if-places-eq0-2.false)

pub returns-clause-one_each : goal.returns-clause-one_each
returns-clause-one_each c =
    let p = c.args.setting.now.places in
    let row : suc ((p.c.s + p.b.s - 1) + p.a.s) ≡ p.a.s + p.b.s + p.c.s = omega (arith, c.if-places-eq0-2.false) in
    IfOk-weaker c.coset.result _ _ (λ bracket e. e ∙ ap (λ (i : ℕ). count_below (resolution_of c.args.setting.now.table.now) i (above_of p)) row) c.coset.ensures.one_each

pub returns-clause-s : goal.returns-clause-s
returns-clause-s c = IfOk-weaker c.coset.result _ _ (λ bracket e. e ∙ bracket_row c.args.setting.now.places c.if-places-eq0-2.false) c.coset.ensures.s

pub returns-then-places-eq0-clause-bracket : goal.returns-then-places-eq0-clause-bracket
returns-then-places-eq0-clause-bracket c = IfOk-weaker c.empty.result _ _ (λ bracket e range far s all all_q. absurd (let up = a_row_positive c.units_have_no_zero_products.ensures c.modules_are_graded_modules.ensures c.args.setting.now.table.now c.args.setting.now.sphere.now range far c.args.setting.now.places s all all_q c.args.beta.now c.requires.beta c.requires.ab_zero in let row = c.if-places-eq0.true in omega arith)) c.empty.ensures.widths

pub returns-then-places-eq0-2-clause-bracket : goal.returns-then-places-eq0-2-clause-bracket
returns-then-places-eq0-2-clause-bracket c = IfOk-weaker c.empty-then-places-eq0-2.result _ _ (λ bracket e range far s all all_q. absurd (let up = b_row_positive c.units_have_no_zero_products.ensures c.modules_are_graded_modules.ensures c.args.setting.now.table.now c.args.setting.now.sphere.now range far c.args.setting.now.places s all all_q c.args.gamma.now c.requires.gamma c.requires.bc_zero in let row = c.if-places-eq0-2.true in omega arith)) c.empty-then-places-eq0-2.ensures.widths
