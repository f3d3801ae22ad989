-- The first characters, behind the quotation mark.
use Rattle.std.proofs.Common.{◌≡◌, ◌++◌, take, codes}
use Rattle.std.specs.List.{flat_map}
use Rattle.module_build.specs.FileText.{escaped}
use Rattle.module_build.proofs.file.quoted.Given as goal

abbrev pub invariant-loop-character : goal.invariant-loop-character
invariant-loop-character l = l.written.items ≡ codes "\"" ++ flat_map escaped (take l.character-index l.text)
