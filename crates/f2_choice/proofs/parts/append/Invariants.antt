use Rattle.std.proofs.Common.{◌≡◌, ◌++◌, take, map}
use Rattle.f2_choice.proofs.parts.append.Given as goal

abbrev pub invariant-loop-row : goal.invariant-loop-row
invariant-loop-row l = map (λ v. v.now) l.rows.items ≡ map (λ v. v.now) l.fn.rows.items ++ take l.row-index l.more
