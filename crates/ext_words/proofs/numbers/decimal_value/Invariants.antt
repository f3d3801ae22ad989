use Rattle.std.proofs.Common.{◌≡◌, ◌≤◌, take}
use Rattle.ext_words.specs.Words.{decimal_value}
use Rattle.ext_words.proofs.numbers.decimal_value.Given as goal

-- a byte is at most 207 above the digit zero
abbrev pub invariant-loop-c : goal.invariant-loop-c
invariant-loop-c l = record {
  value : l.value ≡ decimal_value (take l.c-index l.digits);
  none_read : l.c-index ≤ 0 → l.value ≤ 0;
  one_read : l.c-index ≤ 1 → l.value ≤ 207;
  two_read : l.c-index ≤ 2 → l.value ≤ 2277;
  three_read : l.c-index ≤ 3 → l.value ≤ 22977;
  four_read : l.c-index ≤ 4 → l.value ≤ 229977;
  all_read : l.value ≤ 2299977;
}
