use Rattle.std.proofs.Common.{◌∙◌}
use Rattle.live_view.proofs.Rows.{push_is}
use Rattle.live_view.proofs.view.View.push.Goals as goal

pub returns : goal.returns
returns c =
    push_is c.args.self.now c.reach.new.rows.items c.args.s c.from-s.result c.index_mut-row.result.now c.args.count c.reach.ensures.rows c.reach.ensures.written (c.reach.ensures.same ∙ c.self.view_is) c.from-s.ensures c.index_mut-row.ensures.value c.requires.room
