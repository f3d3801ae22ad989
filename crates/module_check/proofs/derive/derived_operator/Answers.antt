use Rattle.std.proofs.Common.{◌≡◌, [], map, length, get_or, drop, EachIndex, ap, sym, subst, ◌∙◌, arith}
use Rattle.std.specs.List.{range_with_len}
use Rattle.milnor_basis.specs.Exponents.{entry}
use Rattle.milnor_basis.proofs.ExponentLemmas.{entry_last}
use Rattle.finite_module.specs.Module.{unit}
use Rattle.finite_module.specs.DerivedAction.{square_value, by_product, derived_operator}
use Rattle.finite_module.specs.Operators.{HaveWidths}
use Rattle.finite_module.proofs.Values.{width_of}
use Rattle.module_check.proofs.Fronts.{operator_of_none, operator_of_one, operator_of_more}
use Rattle.finite_module.proofs.Derivation.{derived_widths_of, if_ok_is}
use Rattle.module_check.proofs.derive.derived_operator.Goals as goal

pub returns-in-0-clause-operator : goal.returns-in-0-clause-operator
returns-in-0-clause-operator c =
    let f = c.args.spec.now in
    let operators = c.args.operators.now.operators in
    let r = c.args.r.now in
    let gens = c.generators-generators.ensures.generators ∙ c.requires.generators in
    let is : map (unit c.generators-generators.result.now) (range_with_len 0 (length c.generators-generators.result.now)) ≡ derived_operator f operators r =
    ap (λ gs. map (unit gs) (range_with_len 0 (length gs))) gens ∙ operator_of_none f operators r (omega (arith, c.in-0.is, c.len.ensures.length)) in
    if_ok_is c.units.result _ (λ o. o ≡ derived_operator f operators r) c.units.ensures is

pub returns-in-0-clause-widths : goal.returns-in-0-clause-widths
returns-in-0-clause-widths c =
    let f = c.args.spec.now in
    let operators = c.args.operators.now.operators in
    let r = c.args.r.now in
    let gens = c.generators-generators.ensures.generators ∙ c.requires.generators in
    let widths = subst (λ gs. HaveWidths gs operators) c.requires.generators c.generators-generators.ensures.widths in
    let is : map (unit c.generators-generators.result.now) (range_with_len 0 (length c.generators-generators.result.now)) ≡ derived_operator f operators r =
    ap (λ gs. map (unit gs) (range_with_len 0 (length gs))) gens ∙ operator_of_none f operators r (omega (arith, c.in-0.is, c.len.ensures.length)) in
    if_ok_is c.units.result _ (λ o. EachIndex o (λ i. length (get_or o i []) ≡ width_of f.generators r i)) c.units.ensures (derived_widths_of f operators _ r widths c.len.ensures.trimmed is)

pub returns-in-1-clause-operator : goal.returns-in-1-clause-operator
returns-in-1-clause-operator c =
    let f = c.args.spec.now in
    let operators = c.args.operators.now.operators in
    let r = c.args.r.now in
    let gens = c.generators-generators.ensures.generators ∙ c.requires.generators in
    let is : map (square_value f operators c.exponent.result) (range_with_len 0 (length f.generators)) ≡ derived_operator f operators r =
    ap (λ n. map (square_value f operators n) (range_with_len 0 (length f.generators))) c.exponent.ensures ∙ operator_of_one f operators r (omega (arith, c.in-1.is, c.len.ensures.length)) in
    if_ok_is c.squares.result _ (λ o. o ≡ derived_operator f operators r) c.squares.ensures is

pub returns-in-1-clause-widths : goal.returns-in-1-clause-widths
returns-in-1-clause-widths c =
    let f = c.args.spec.now in
    let operators = c.args.operators.now.operators in
    let r = c.args.r.now in
    let gens = c.generators-generators.ensures.generators ∙ c.requires.generators in
    let widths = subst (λ gs. HaveWidths gs operators) c.requires.generators c.generators-generators.ensures.widths in
    let is : map (square_value f operators c.exponent.result) (range_with_len 0 (length f.generators)) ≡ derived_operator f operators r =
    ap (λ n. map (square_value f operators n) (range_with_len 0 (length f.generators))) c.exponent.ensures ∙ operator_of_one f operators r (omega (arith, c.in-1.is, c.len.ensures.length)) in
    if_ok_is c.squares.result _ (λ o. EachIndex o (λ i. length (get_or o i []) ≡ width_of f.generators r i)) c.squares.ensures (derived_widths_of f operators _ r widths c.len.ensures.trimmed is)

pub returns-in_default-clause-operator : goal.returns-in_default-clause-operator
returns-in_default-clause-operator c =
    let f = c.args.spec.now in
    let operators = c.args.operators.now.operators in
    let r = c.args.r.now in
    let gens = c.generators-generators.ensures.generators ∙ c.requires.generators in
    let own = c.args.operators.now.generators in
    let is : map (by_product own operators (entry r 0) (drop 1 r)) (range_with_len 0 (length own)) ≡ derived_operator f operators r =
    ap (λ gs. map (by_product gs operators (entry r 0) (drop 1 r)) (range_with_len 0 (length gs))) c.requires.generators ∙ operator_of_more f operators r (let h = c.in_default in omega (arith, c.len.ensures.length)) in
    if_ok_is c.products.result _ (λ o. o ≡ derived_operator f operators r) c.products.ensures is

pub returns-in_default-clause-widths : goal.returns-in_default-clause-widths
returns-in_default-clause-widths c =
    let f = c.args.spec.now in
    let operators = c.args.operators.now.operators in
    let r = c.args.r.now in
    let gens = c.generators-generators.ensures.generators ∙ c.requires.generators in
    let widths = subst (λ gs. HaveWidths gs operators) c.requires.generators c.generators-generators.ensures.widths in
    let own = c.args.operators.now.generators in
    let is : map (by_product own operators (entry r 0) (drop 1 r)) (range_with_len 0 (length own)) ≡ derived_operator f operators r =
    ap (λ gs. map (by_product gs operators (entry r 0) (drop 1 r)) (range_with_len 0 (length gs))) c.requires.generators ∙ operator_of_more f operators r (let h = c.in_default in omega (arith, c.len.ensures.length)) in
    if_ok_is c.products.result _ (λ o. EachIndex o (λ i. length (get_or o i []) ≡ width_of f.generators r i)) c.products.ensures (derived_widths_of f operators _ r widths c.len.ensures.trimmed is)

pub squares-requires-clause-number : goal.squares-requires-clause-number
squares-requires-clause-number c =
    let one : length c.args.r.now ≡ 1 = sym c.len.ensures.length ∙ c.in-1.is in
    let last = entry_last c.args.r.now 0 c.len.ensures.trimmed one in
    omega (arith, c.exponent.ensures)
