use Rattle.std.proofs.Common.{◌∙◌, ap, sym}
use Rattle.std.specs.Arc.{arc_value}
use Rattle.square.specs.Squares.{Placed}
use Rattle.square.proofs.ByDegree.{images_held, images_missing}
use Rattle.square.proofs.Targets.{square_small}
use Rattle.square.proofs.table.Table.images_of.Goals as goal

pub returns-in-Some-clause-images : goal.returns-in-Some-clause-images
returns-in-Some-clause-images c =
    c.gens.ensures ∙ (ap (λ (q : Placed). q.content.images) c.deref.ensures ∙ images_held c.args.self.now.rows c.args.s c.args.above (arc_value c.in-Some.square.now) c.in-Some.ensures.square)

pub returns-in-Some-clause-degree : goal.returns-in-Some-clause-degree
returns-in-Some-clause-degree c l = (square_small c.args.self.now c.in-Some.ensures.is_table c.args.s c.args.above l).degree

pub returns-in-None-clause-images : goal.returns-in-None-clause-images
returns-in-None-clause-images c = sym (images_missing c.args.self.now.rows c.args.s c.args.above c.in-None.ensures.square)

pub returns-in-None-clause-degree : goal.returns-in-None-clause-degree
returns-in-None-clause-degree c l = (square_small c.args.self.now c.in-None.ensures.is_table c.args.s c.args.above l).degree
