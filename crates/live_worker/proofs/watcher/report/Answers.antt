use Rattle.std.proofs.Common.{refl, sym, ap, ◌∙◌}
use Rattle.live_view.specs.Handles.{LiveState}
use Rattle.live_view.specs.Published.{KnownViews, last_view}
use Rattle.live_worker.proofs.Squares.{squares_fit}
use Rattle.live_worker.proofs.Telling.{told_none}
use Rattle.live_worker.proofs.Watching.{watched}
use Rattle.live_worker.proofs.watcher.report.Goals as goal

pub returns-in_err-note-clause-watched : goal.returns-in_err-note-clause-watched
returns-in_err-note-clause-watched g c =
    let written = g.E.Sink.written in
    let faults = g.E.Sink.faults in
    let old = c.args.watcher.now in
    let after = c.in_err-note.ensures in
    watched g.T.Stock.words g.T.Counted.table_of written faults c.args.board.now old _ c.requires after.may after.same after.own (ap (λ (w : LiveState). w.known.book) after.memory) refl refl (told_none written faults old.reports)

pub learn-requires : goal.learn-requires
learn-requires g c =
    let after = c.in_ok-note.ensures in
    ap (λ (k : KnownViews). k.book) after.note ∙ (ap (λ (k : KnownViews). k.book) after.published.known ∙ sym c.requires.reader)

pub tell-requires : goal.tell-requires
tell-requires g c =
    let range = ap (λ (r : LiveState). r.range) c.learn.ensures.same ∙ c.requires.range in
    squares_fit c.learn.new.self.range c.args.board.now.name.range (last_view c.squares-squares.new.self.known.published) c.squares-squares.result c.args.watcher.now.reports.all c.squares-squares.ensures.squares range c.requires.all

pub returns-in_err-tell-clause-watched : goal.returns-in_err-tell-clause-watched
returns-in_err-tell-clause-watched g c =
    let after = c.in_ok-note.ensures in
    let learn = c.learn.ensures in
    let asked = c.squares-squares.ensures in
    watched g.T.Stock.words g.T.Counted.table_of g.E.Sink.written g.E.Sink.faults c.args.board.now c.args.watcher.now _ c.requires after.may after.same after.own (ap (λ (k : KnownViews). k.book) after.published.known) (asked.seen.book ∙ learn.seen.book) (ap (λ (r : LiveState). r.range) asked.same ∙ ap (λ (r : LiveState). r.range) learn.same) c.tell.ensures.told

pub returns-clause-watched : goal.returns-clause-watched
returns-clause-watched g c =
    let after = c.in_ok-note.ensures in
    let learn = c.learn.ensures in
    let asked = c.squares-squares.ensures in
    watched g.T.Stock.words g.T.Counted.table_of g.E.Sink.written g.E.Sink.faults c.args.board.now c.args.watcher.now _ c.requires after.may after.same after.own (ap (λ (k : KnownViews). k.book) after.published.known) (asked.seen.book ∙ learn.seen.book) (ap (λ (r : LiveState). r.range) asked.same ∙ ap (λ (r : LiveState). r.range) learn.same) c.tell.ensures.told
