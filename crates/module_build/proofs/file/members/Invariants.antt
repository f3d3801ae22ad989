-- The first generators.
use Rattle.std.proofs.Common.{◌≡◌, [], map, take}
use Rattle.module_build.specs.FileText.{member}
use Rattle.module_build.specs.Inside.Written.{written_after}
use Rattle.module_build.proofs.file.members.Given as goal

abbrev pub invariant-loop-i : goal.invariant-loop-i
invariant-loop-i l = l.text.items ≡ written_after [] (map member (take l.i l.given.plain.generators))
