-- What is wrong with the texts that are left is what is wrong with all of them.
use Rattle.std.proofs.Common.{◌≡◌, drop}
use Rattle.ext_words.specs.Words.{texts_of}
use Rattle.ext_words.specs.Remark.{wrong_value}
use Rattle.ext_words.proofs.remarks.wrong_value.Given as goal

abbrev pub invariant-loop-text : goal.invariant-loop-text
invariant-loop-text l = wrong_value l.name (texts_of (drop l.text-index l.texts)) ≡ wrong_value l.name (texts_of l.texts)
