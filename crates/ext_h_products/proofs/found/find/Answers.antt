use Rattle.std.proofs.Common.{◌≡◌, rules, sym, ◌∙◌, to_z, of_z, w32, arith}
use Rattle.ext_h_products.proofs.Counts.{count_none, count_one, missing}
use Rattle.ext_h_products.proofs.found.find.Goals as goal

pub returns-in_default-clause-missing : goal.returns-in_default-clause-missing
returns-in_default-clause-missing c = λ q canonical sphere.
    let same : to_z w32 (of_z w32 c.args.class.t) ≡ c.args.class.t = search rules in
    missing q c.args.class 0 c.requires (count_none q c.args.range canonical sphere c.row_one_is_powers.ensures c.args.class.t (λ some n e l. c.in_default.ensures.none n (same ∙ e) l)) (omega arith)

pub returns-then-range-eq0-clause-missing : goal.returns-then-range-eq0-clause-missing
returns-then-range-eq0-clause-missing c = λ q canonical sphere.
    missing q c.args.class 0 c.requires (count_none q c.args.range canonical sphere c.row_one_is_powers.ensures c.args.class.t (λ some. absurd (omega (arith, some, c.if-range-eq0.true)))) (omega arith)

pub returns-then-class-gt0-clause-missing : goal.returns-then-class-gt0-clause-missing
returns-then-class-gt0-clause-missing c = λ q canonical sphere.
    let same : to_z w32 (of_z w32 c.args.class.t) ≡ c.args.class.t = search rules in
    missing q c.args.class 1 c.requires (count_one q c.args.range canonical sphere c.row_one_has_squares.ensures c.args.class.t c.in-Some._v (sym same ∙ c.in-Some.ensures.is) (omega (arith, c.if-range-eq0.false)) c.in-Some.ensures.within) (omega (arith, c.if-class-gt0.true))
