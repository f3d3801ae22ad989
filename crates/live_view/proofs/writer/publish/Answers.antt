use Rattle.std.proofs.Common.{◌≡◌, List, [], ◌∷◌, ◌++◌, ap, sym, ◌∙◌, subst}
use Rattle.std.proofs.lemmas.Result.{IfOk-weaker}
use Rattle.square_board.specs.Courses.{events_of}
use Rattle.live_view.specs.Counted.{module_in, start_in}
use Rattle.live_view.specs.declared.published.Published.{Published as Shown}
use Rattle.live_view.specs.Views.{IsRight}
use Rattle.live_view.specs.Publishing.{HasPublished}
use Rattle.live_view.specs.Published.{KnownViews, last_view, ArePublished}
use Rattle.live_view.specs.Handles.{LiveState}
use Rattle.live_view.proofs.Follows.{shown_right, was_published}
use Rattle.live_view.proofs.MayPublish.{may_either}
use Rattle.live_view.proofs.writer.publish.Goals as goal

pub read_board-requires-clause-right : goal.read_board-requires-clause-right
read_board-requires-clause-right g c κs within =
    let mine : c.writer.inside.series.known ≡ c.args.writer.now.known = ap (λ (w : LiveState). w.known) c.writer.view_is in
    let known : c.newest.inside.known ≡ c.args.writer.now.known = c.newest.view_is ∙ (c.published-newest.ensures ∙ (c.writer.invariant.0 ∙ mine)) in
    let view : c.in_ok-view.view ≡ last_view c.args.writer.now.known.published = c.in_ok-view.ensures ∙ (c.newest.invariant ∙ ap (λ (k : KnownViews). last_view k.published) known) in
    let are : ArePublished c.args.writer.now.known.published = subst (λ (k : KnownViews). ArePublished k.published) mine c.again-known.ensures.published in
    subst (IsRight (module_in g.T.Stock.words g.T.Counted.table_of c.args.board.now.name) (start_in g.T.Stock.words g.T.Counted.table_of c.args.board.now.name)) (sym view) (shown_right g.T.Stock.words g.T.Counted.table_of c.args.board.now.name c.args.writer.now.known.published are c.requires.of_board)

pub returns-clause-published : goal.returns-clause-published
returns-clause-published g c =
    let after = c.read_board.ensures in
    let old = c.args.writer.now.known in
    let new = c.show.new.self.known in
    let list : List Shown = old.published ++ c.of_board-shown.result ∷ [] in
    let events = events_of c.args.pass.now.seen in
    let since = events_of c.read_board.new.pass.seen in
    IfOk-weaker c.show.result (λ note. new ≡ record old { published = list }) (λ note. HasPublished g.T.Stock.words g.T.Counted.table_of c.args.board.now.name events since old new)
    (λ note is. was_published g.T.Stock.words g.T.Counted.table_of c.args.board.now.name c.of_board-shown.result events since _ _ old new is after.read c.of_board-shown.ensures.of c.of_board-shown.ensures.view)
    c.show.ensures.published

pub returns-clause-may : goal.returns-clause-may
returns-clause-may g c =
    let after = c.read_board.ensures in
    may_either g.T.Stock.words g.T.Counted.table_of c.args.board.now c.args.pass.now c.read_board.new.pass c.show.result c.args.writer.now c.show.new.self c.requires after.pass after.seen c.show.ensures.same
    (returns-clause-published g c)
    c.show.ensures.memory
