use Rattle.std.proofs.Common.{◌≤◌, length, sym, ◌∙◌, arith}
use Rattle.milnor_basis.proofs.ExponentLemmas.{entry-trimmed, entry_past}
use Rattle.milnor_basis.proofs.exps.Exps.exponent.Goals as goal

pub returns-then-i-lt-MAX_EXPONENTS : goal.returns-then-i-lt-MAX_EXPONENTS
returns-then-i-lt-MAX_EXPONENTS c = rw (← c.self.view_is) (sym (entry-trimmed c.self.inside.numbers c.args.i))

pub returns-else-i-lt-MAX_EXPONENTS : goal.returns-else-i-lt-MAX_EXPONENTS
returns-else-i-lt-MAX_EXPONENTS c =
    let past : length c.self.inside.numbers ≤ c.args.i = omega arith in
    rw (← c.self.view_is) (sym (entry-trimmed c.self.inside.numbers c.args.i ∙ entry_past _ _ past))
