use Rattle.std.proofs.Common.{List, ap, set, ◌∙◌}
use Rattle.std.proofs.lemmas.List.{map-set}
use Rattle.std.specs.Arc.{arc_value}
use Rattle.square.specs.Squares.{Placed}
use Rattle.square.specs.Tables.{Shelf}
use Rattle.square.proofs.row.Row.replace.Goals as goal

pub returns-clause-squares : goal.returns-clause-squares
returns-clause-squares c =
    map-set arc_value c.self.inside.squares.items c.args.k c.args.square ∙ ap (λ (x : List Placed). set x c.args.k (arc_value c.args.square)) (ap (λ (r : Shelf). r.squares) c.self.view_is)
