-- The classes so far, and those of what is left, are all of them.
use Rattle.std.proofs.Common.{◌≡◌, ◌++◌, drop}
use Rattle.std.specs.Prelude.{option_map}
use Rattle.std.specs.List.{All}
use Rattle.ext_words.specs.Words.{texts_of, read_each, class_of, IsShort}
use Rattle.ext_words.proofs.numbers.classes_of.Given as goal

abbrev pub invariant-loop-text : goal.invariant-loop-text
invariant-loop-text l = record {
  classes : read_each class_of (texts_of l.texts) ≡ option_map (λ rest. l.classes.items ++ rest) (read_each class_of (texts_of (drop l.text-index l.texts)));
  short : All IsShort l.classes.items;
}
