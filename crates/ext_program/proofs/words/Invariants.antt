use Rattle.std.proofs.Common.{◌≡◌, map, take}
use Rattle.std.specs.Prelude.{string_bytes}
use Rattle.ext_words.specs.Words.{texts_of}
use Rattle.ext_program.proofs.words.Given as goal

abbrev pub invariant-loop-argument : goal.invariant-loop-argument
invariant-loop-argument l = texts_of l.words.items ≡ map string_bytes (take l.argument-index l.arguments)
