use Rattle.std.proofs.Common.{◌≡◌, ℕ, ◌<◌, ◌≤◌, length, get_or}
use Rattle.f2_vec.proofs.Four.{xor_four}
use Rattle.f2_vec.proofs.words.xor_four_words.Given as goal

abbrev pub invariant-loop-k : goal.invariant-loop-k
invariant-loop-k l = record {
  len : length l.words ≡ length l.fn.words;
  sums : (j : ℕ) → l.from ≤ j → j < l.k → get_or l.words j 0 ≡ xor_four (get_or l.fn.words j 0) (get_or l.a j 0) (get_or l.b j 0) (get_or l.c j 0) (get_or l.d j 0);
  before : (j : ℕ) → j < l.from → get_or l.words j 0 ≡ get_or l.fn.words j 0;
  behind : (j : ℕ) → l.k ≤ j → get_or l.words j 0 ≡ get_or l.fn.words j 0;
}
