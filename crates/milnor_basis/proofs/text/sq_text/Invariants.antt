use Rattle.std.proofs.Common.{◌≡◌, string_bytes}
use Rattle.milnor_basis.proofs.TextLemmas.{written}
use Rattle.milnor_basis.proofs.text.sq_text.Given as goal

abbrev pub invariant-loop-i : goal.invariant-loop-i
invariant-loop-i l = string_bytes l.text ≡ written l.r l.i
