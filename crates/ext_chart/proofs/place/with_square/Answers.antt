use Rattle.std.proofs.Common.{to_z, of_z, w32, ◌∙◌}
use Rattle.ext_chart.proofs.DumpSteps.{square_places-more}
use Rattle.ext_chart.proofs.place.with_square.Goals as goal

pub loop-i-preserved : goal.loop-i-preserved
loop-i-preserved c =
    c.in_ok-push.ensures.items ∙ square_places-more c.args.s (to_z w32 (of_z w32 c.args.t)) c.loop-i.i c.args.places.items c.loop-i.places.items c.loop-i.invariant
