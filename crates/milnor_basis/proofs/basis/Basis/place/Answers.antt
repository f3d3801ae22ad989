use Rattle.std.proofs.Common.{rules, ◌≡◌, ◌+◌, ◌*◌, ◌-◌, ◌^◌, ◌<◌, suc, length, refl, ap, subst, ◌∙◌, arith}
use Rattle.std.proofs.lemmas.Option.{slice_get_within}
use Rattle.milnor_basis.specs.Exponents.{entry, degree_of}
use Rattle.milnor_basis.specs.Basis.{lists_of}
use Rattle.milnor_basis.proofs.Counting.{degree_next, degree_past, place_next, place_of_all}
use Rattle.milnor_basis.proofs.basis.Basis.place.Goals as goal

pub returns-in_err-degree-clause-past : goal.returns-in_err-degree-clause-past
returns-in_err-degree-clause-past c =
    let r = c.args.r.now in
    let i = c.loop-i.i in
    let over : c.args.self.now < c.loop-i.degree + c.exponent.result * (2 ^ suc i - 1) = c.in_err-degree.ensures.past.0 refl in
    let past : c.args.self.now < degree_of r = degree_past r i c.loop-i.degree (omega arith) c.args.self.now c.loop-i.invariant.degree (subst (λ v. c.args.self.now < c.loop-i.degree + v * (2 ^ suc i - 1)) c.exponent.ensures over) in
    (λ _. past, λ _. search rules)

pub overflow_sub-place : goal.overflow_sub-place
overflow_sub-place c =
    let r = c.args.r.now in
    let i = c.loop-i.i in
    let degree : c.in_ok-degree.degree ≡ c.loop-i.degree + entry r i * (2 ^ suc i - 1) = c.in_ok-degree.ensures.degree ∙ ap (λ v. c.loop-i.degree + v * (2 ^ suc i - 1)) c.exponent.ensures in
    (place_next r i c.loop-i.degree (omega arith) c.in_ok-degree.degree c.loop-i.place c.of.result c.of-in-loop-i.result c.loop-i.invariant.place degree c.of.ensures c.of-in-loop-i.ensures).0

pub overflow_add-place : goal.overflow_add-place
overflow_add-place c =
    let r = c.args.r.now in
    let i = c.loop-i.i in
    let degree : c.in_ok-degree.degree ≡ c.loop-i.degree + entry r i * (2 ^ suc i - 1) = c.in_ok-degree.ensures.degree ∙ ap (λ v. c.loop-i.degree + v * (2 ^ suc i - 1)) c.exponent.ensures in
    let at = (place_next r i c.loop-i.degree (omega arith) c.in_ok-degree.degree c.loop-i.place c.of.result c.of-in-loop-i.result c.loop-i.invariant.place degree c.of.ensures c.of-in-loop-i.ensures).1 in
    let within : c.loop-i.place + (c.of.result - c.of-in-loop-i.result) < length (lists_of (i + 1) c.in_ok-degree.degree) = slice_get_within _ _ _ at in
    let count = c.of.ensures in
    omega arith

pub loop-i-preserved : goal.loop-i-preserved
loop-i-preserved c =
    let r = c.args.r.now in
    let i = c.loop-i.i in
    let degree : c.in_ok-degree.degree ≡ c.loop-i.degree + entry r i * (2 ^ suc i - 1) = c.in_ok-degree.ensures.degree ∙ ap (λ v. c.loop-i.degree + v * (2 ^ suc i - 1)) c.exponent.ensures in
    record {
      degree = degree ∙ degree_next r i c.loop-i.degree (omega arith) c.loop-i.invariant.degree;
      small = search rules;
      place = (place_next r i c.loop-i.degree (omega arith) c.in_ok-degree.degree c.loop-i.place c.of.result c.of-in-loop-i.result c.loop-i.invariant.place degree c.of.ensures c.of-in-loop-i.ensures).1;
    }

pub returns-clause-place : goal.returns-clause-place
returns-clause-place c =
    place_of_all c.args.r.now c.loop-i.i c.loop-i.degree c.loop-i.place c.len-i-end.ensures.trimmed (omega (arith, c.loop-i-test.false, c.len-i-end.ensures.length)) c.loop-i.invariant.place
