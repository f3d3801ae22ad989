-- What is wrong with those that are left is what is wrong with all of them.
use Rattle.std.proofs.Common.{◌≡◌, drop}
use Rattle.ext_words.specs.Words.{texts_of}
use Rattle.ext_words.specs.Inside.CommandLine.{given_in}
use Rattle.ext_words.specs.Remark.{first_wrong}
use Rattle.ext_words.proofs.remarks.first_wrong.Given as goal

abbrev pub invariant-loop-name : goal.invariant-loop-name
invariant-loop-name l =
    first_wrong (texts_of (drop l.name-index l.names)) (given_in l.matches) ≡ first_wrong (texts_of l.names) (given_in l.matches)
