use Rattle.f2_choice.proofs.Choosing.{IsChosenTo}
use Rattle.f2_choice.proofs.choice.choose_any.Given as goal

abbrev pub invariant-loop-i : goal.invariant-loop-i
invariant-loop-i l = IsChosenTo l.matrix.cols l.matrix.rows l.candidates l.i l.chosen.items l.reduced
