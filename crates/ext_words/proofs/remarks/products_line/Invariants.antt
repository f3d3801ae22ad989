-- The first of those that are left is the first of all of them.
use Rattle.std.proofs.Common.{◌≡◌, drop}
use Rattle.ext_words.specs.Remark.{products_line}
use Rattle.ext_words.proofs.remarks.products_line.Given as goal

abbrev pub invariant-loop-class : goal.invariant-loop-class
invariant-loop-class l = products_line l.range (drop l.class-index l.by) ≡ products_line l.range l.by
