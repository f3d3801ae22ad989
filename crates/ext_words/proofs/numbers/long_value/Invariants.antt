-- The number of the digits so far, as far as it has 32 bits.
use Rattle.std.proofs.Common.{◌≡◌, ◌≤◌, take}
use Rattle.std.specs.Prelude.{min}
use Rattle.ext_words.specs.declared.numbers.TheConstants.{TOO_LONG}
use Rattle.ext_words.specs.Words.{decimal_value}
use Rattle.ext_words.proofs.numbers.long_value.Given as goal

abbrev pub invariant-loop-c : goal.invariant-loop-c
invariant-loop-c l = record {
  value : l.value ≡ min (decimal_value (take l.c-index l.digits)) TOO_LONG;
  small : l.value ≤ TOO_LONG;
}
