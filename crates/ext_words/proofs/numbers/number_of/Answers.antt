use Rattle.std.proofs.Common.{sym, ◌∙◌}
use Rattle.ext_words.proofs.Digits.{five-digits}
use Rattle.ext_words.proofs.numbers.number_of.Goals as goal

pub returns-then-are_digits-clause-within : goal.returns-then-are_digits-clause-within
returns-then-are_digits-clause-within c = rw c.decimal_value.ensures.value (five-digits c.args.most c.args.digits.now c.requires (sym c.are_digits.ensures ∙ c.if-are_digits.true))
