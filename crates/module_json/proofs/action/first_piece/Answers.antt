use Rattle.std.specs.Prelude.{◌≡◌, suc, ◌+◌, take, drop, Some, None, ◌∷◌}
use Rattle.std.proofs.Common.{arith, sym, ◌∙◌}
use Rattle.std.proofs.lemmas.List.{take_rest}
use Rattle.module_json.specs.Actions.{pieces}
use Rattle.module_json.proofs.Pieces.{pieces_by_position}
use Rattle.module_json.proofs.action.first_piece.Goals as goal

pub returns-in-None-clause-pieces : goal.returns-in-None-clause-pieces
returns-in-None-clause-pieces c = pieces_by_position c.args.c c.args.text.now None (sym c.in-None.is ∙ c.place.ensures.place)

pub returns-in-Some-clause-pieces : goal.returns-in-Some-clause-pieces
returns-in-Some-clause-pieces c =
    let cut : pieces c.args.c c.args.text.now ≡ take c.in-Some.at c.args.text.now ∷ pieces c.args.c (drop (suc c.in-Some.at) c.args.text.now) = pieces_by_position c.args.c c.args.text.now (Some c.in-Some.at) (sym c.in-Some.is ∙ c.place.ensures.place) in
    let after : c.in-Some.at + 1 ≡ suc c.in-Some.at = omega arith in
    rw after (rw (take_rest c.args.text.now (suc c.in-Some.at)) cut)
