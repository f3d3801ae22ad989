-- The bit that is turned over is that of the list's element.
use Rattle.std.proofs.Common.{List, Bool, length, sym, ap, subst, ◌∙◌}
use Rattle.f2_vec.specs.Spans.{unit_vector}
use Rattle.f2_vec.proofs.Sums.{length-sum_of}
use Rattle.f2_vec.proofs.Split.{length-unit_vector}
use Rattle.milnor_basis.specs.Inside.Walk.{TurnsOverEqual}
use Rattle.milnor_basis.proofs.Bits.{turns_one}
use Rattle.milnor_basis.proofs.product.turn_over.Goals as goal

pub returns-in-Some-clause-turned : goal.returns-in-Some-clause-turned
returns-in-Some-clause-turned c =
    subst (λ (bits : List Bool). TurnsOverEqual c.args.degree c.args.diagonals.now c.args.bits.now bits) (sym c.flip.ensures)
    (turns_one c.args.degree c.in-Some.place c.args.diagonals.now c.args.bits.now c.requires.bits c.in-Some.ensures.found)

pub returns-in-Some-clause-size : goal.returns-in-Some-clause-size
returns-in-Some-clause-size c = ap length c.flip.ensures ∙ length-sum_of c.args.bits.now (unit_vector (length c.args.bits.now) c.in-Some.place) (sym (length-unit_vector (length c.args.bits.now) c.in-Some.place))
