use Rattle.std.proofs.Common.{◌≡◌, ℕ, ◌≤◌, false, ◌∙◌, subst}
use Rattle.square_board.specs.Workers.{AreOfWorkers}
use Rattle.live_worker.specs.Reports.{squares_of}
use Rattle.live_worker.proofs.Joined.{all_still, gathered_still, of_the_others}
use Rattle.live_worker.proofs.Reported.{on_ok, reported}
use Rattle.live_worker.proofs.Made.{made_or_memory}
use Rattle.live_worker.proofs.Telling.{told_twice}
use Rattle.live_worker.proofs.making.concluded.Goals as goal

pub conclude-made-requires-clause-joined : goal.conclude-made-requires-clause-joined
conclude-made-requires-clause-joined g c κs within =
    let after = c.report-last.ensures.watched in
    all_still c.args.board c.args.watcher.pass c.report-last.new.watcher.pass c.requires.can.may.pass_of after.can.may.pass_of after.same c.requires.joined

pub returns-clause-made : goal.returns-clause-made
returns-clause-made g c =
    let w = g.T.Stock.words in
    let first = c.args.board.name.first.value in
    let made = c.conclude-made.result.0 in
    let last = c.conclude-made.result.1 in
    let after = c.report-last.ensures.watched in
    let pass = c.report-last.new.watcher.pass in
    let ended = c.conclude-made.ensures in
    let gathered = gathered_still c.args.board.passes c.args.watcher.pass pass after.same after.can.none c.requires.gathered in
    let by : AreOfWorkers c.args.watcher.pass.number ended.made.history = subst (λ (n : ℕ). AreOfWorkers n ended.made.history) after.same.number (of_the_others c.args.board.passes pass ended.made.history gathered ended.continues ended.only) in
    made_or_memory w c.args.watcher.pass.number first c.args.range made last c.reported_whole-given.result (record { made = ended.made; by = by }) c.reported_whole-given.ensures.is

pub returns-clause-told : goal.returns-clause-told
returns-clause-told g c start zero well of_all told =
    let written = g.E.Sink.written in
    let faults = g.E.Sink.faults in
    let all = squares_of c.args.range in
    let mid = c.report-last.new.watcher.reports in
    let last = c.reported_whole-given.new.reports in
    let one = told_twice written faults start c.args.watcher.reports mid told c.report-last.ensures.watched.told in
    let both = told_twice written faults start mid last one c.reported_whole-given.ensures.told in
    let of_last : last.all ≡ all = both.all ∙ of_all in
    let done = on_ok c.reported_whole-given.result _ _ (λ (more : last.failed ≡ false → last.all ≤ last.most). λ (f : last.failed ≡ false). subst (λ (n : ℕ). n ≤ last.most) of_last (more f)) c.reported_whole-given.ensures.whole in
    reported written faults start last all c.reported_whole-given.result c.fault.result zero well of_all both c.fault.ensures.well c.fault.ensures.fails done
