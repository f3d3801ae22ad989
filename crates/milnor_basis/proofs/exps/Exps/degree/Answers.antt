use Rattle.std.proofs.Common.{◌≡◌, ◌≤◌, ◌<◌, ◌+◌, ◌*◌, ◌-◌, ◌^◌, ◌%◌, length, drop, ap, arith}
use Rattle.std.proofs.lemmas.List.{drop_all}
use Rattle.std.proofs.lemmas.Nat.{one_shl}
use Rattle.milnor_basis.specs.Exponents.{entry, degree_from, degree_of}
use Rattle.milnor_basis.proofs.ExponentLemmas.{degree_of-trimmed, degree_from-drop, degree_of_bound, IsTrimmed-trimmed}
use Rattle.milnor_basis.proofs.exps.Exps.degree.Goals as goal

pub overflow_add-degree-in-loop-i : goal.overflow_add-degree-in-loop-i
overflow_add-degree-in-loop-i c =
    let rs = c.self.inside.numbers in
    let i = c.loop-i.i in
    let within : i < length rs = omega arith in
    let sum : c.loop-i.degree + degree_from (i + 1) (drop i rs) ≡ degree_of rs = c.loop-i.invariant in
    let step : degree_from (i + 1) (drop i rs) ≡ entry rs i * (2 ^ (i + 1) - 1) + degree_from (i + 1 + 1) (drop (i + 1) rs) = degree_from-drop rs i within in
    let bound : degree_of rs ≤ 2 ^ 25 = degree_of_bound rs c.self.invariant.0 c.self.invariant.1 in
    let weight : 1 * 2 ^ (i + 1) % 2 ^ 32 ≡ 2 ^ (i + 1) = one_shl (i + 1) 32 (omega arith) in
    let number : c.from.result ≡ entry rs i = c.from.ensures in
    rw (weight, number) (omega arith)

pub returns-clause-degree : goal.returns-clause-degree
returns-clause-degree c =
    let rs = c.self.inside.numbers in
    let sum : c.loop-i.degree + degree_from (c.loop-i.i + 1) (drop c.loop-i.i rs) ≡ degree_of rs = c.loop-i.invariant in
    let rest : degree_from (c.loop-i.i + 1) (drop c.loop-i.i rs) ≡ 0 = ap (degree_from (c.loop-i.i + 1)) (drop_all c.loop-i.i rs (omega arith)) in
    let whole : c.loop-i.degree ≡ degree_of rs = omega arith in
    rw (← c.self.view_is, degree_of-trimmed) whole

pub returns-clause-trimmed : goal.returns-clause-trimmed
returns-clause-trimmed c = rw (← c.self.view_is) (IsTrimmed-trimmed c.self.inside.numbers)
