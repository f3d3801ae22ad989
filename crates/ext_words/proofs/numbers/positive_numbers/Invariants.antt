-- The numbers so far, and those of what is left, are all of them.
use Rattle.std.proofs.Common.{◌≡◌, ◌≤◌, ◌++◌, drop}
use Rattle.std.specs.Prelude.{option_map}
use Rattle.std.specs.List.{All}
use Rattle.ext_words.specs.Words.{texts_of, positive_numbers}
use Rattle.ext_words.proofs.numbers.positive_numbers.Given as goal

abbrev pub invariant-loop-text : goal.invariant-loop-text
invariant-loop-text l = record {
  numbers : positive_numbers l.limit (texts_of l.texts)
      ≡ option_map (λ rest. l.numbers.items ++ rest) (positive_numbers l.limit (texts_of (drop l.text-index l.texts)));
  positive : All (λ n. 1 ≤ n) l.numbers.items;
}
