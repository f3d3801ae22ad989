use Rattle.std.proofs.Common.{ap, sym, ◌∙◌}
use Rattle.live_view.specs.Views.{blank}
use Rattle.live_view.specs.Published.{KnownViews, last_view}
use Rattle.live_view.proofs.Lists.{last_then}
use Rattle.live_view.proofs.writer.LiveWriter.show.Goals as goal

pub invariant_of-newest : goal.invariant_of-newest
invariant_of-newest g c =
    let added = c.again-2.ensures.same ∙ c.if-not-add.ensures in
    let last = ap (λ (k : KnownViews). last_view k.published) added ∙ last_then blank c.self.inside.series.known.published c.args.shown.now in
    c.in_ok-noted.ensures ∙ (c.requires.view ∙ sym last)

pub invariant_of-next : goal.invariant_of-next
invariant_of-next g c =
    let added = c.again-3.ensures.same ∙ c.if-not-add.ensures in
    let last = ap (λ (k : KnownViews). last_view k.published) added ∙ last_then blank c.self.inside.series.known.published c.args.shown.now in
    c.requires.view ∙ sym last
