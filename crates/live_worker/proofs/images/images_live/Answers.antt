use Rattle.std.proofs.Common.{◌≡◌, ℕ, ◌<◌, ◌≤◌, ◌+◌, true, Result, refl, sym, ap, subst, ◌∙◌}
use Rattle.std.specs.Prelude.{OnOk}
use Rattle.bidegree.specs.declared.shape.Shape.{Shape}
use Rattle.board_core.specs.declared.event.Cause.{Cause}
use Rattle.board_core.specs.Machine.{is_meant_in}
use Rattle.square_board.specs.Openings.{shape_of}
use Rattle.square_board.specs.Workers.{HasMadeBy}
use Rattle.image_worker.specs.declared.inputs.ImageSubject.{ImageSubject}
use Rattle.image_worker.specs.Stocks.{ImageRows, extent_of, fronts_of}
use Rattle.image_worker.specs.Words.{image_words}
use Rattle.live_worker.specs.Reports.{squares_of}
use Rattle.live_worker.proofs.Reported.{reported_none}
use Rattle.live_worker.proofs.images.images_live.Goals as goal

pub returns-in-Err-clause-reported : goal.returns-in-Err-clause-reported
returns-in-Err-clause-reported g c = reported_none (squares_of c.args.range) _ (g.E.Sink.written c.args.err.now) (g.E.Sink.faults c.args.err.now)

pub into_images-requires : goal.into_images-requires
into_images-requires g c =
    let h = c.made_live-made.ensures.made.made in
    let last = c.made_live-made.result.1 in
    let range = c.args.range in
    let first_is : h.opening.first.value.subject ≡ _ = ap (λ (x : ImageRows). x.subject) h.opened.first_is ∙ c.in-Ok.ensures.subject in
    let all = subst (λ r. OnOk r ((s k : ℕ) → s ≤ range.s → k ≤ range.t → is_meant_in (shape_of image_words h.opening) range.s range.t s k ≡ true → k < fronts_of last s)) c.in-Ok-made.is h.all in
    subst (λ (o : ImageSubject). (i k : ℕ) → i ≤ o.range.s → k ≤ o.range.t → k ≤ (extent_of o).n + i → k < fronts_of last i) (sym (h.desk.same ∙ first_is))
    (λ i k row degree square. all i k row degree (subst (λ (x : Shape). is_meant_in x range.s range.t i k ≡ true) (sym (ap (λ (o : ImageSubject). o.shape) first_is)) refl))

pub returns-in-Ok-made-clause-worked : goal.returns-in-Ok-made-clause-worked
returns-in-Ok-made-clause-worked g c =
    let first = c.in-Ok.stock in
    let last = c.made_live-made.result.1 in
    record {
      first = first;
      subject = c.in-Ok.ensures.subject;
      none = c.in-Ok.ensures.fronts;
      last = last;
      rows_are = sym c.into_images.ensures.rows;
      worked = subst (λ (r : Result (Unit {0}) Cause). HasMadeBy image_words c.args.workers first c.args.range r last) c.in-Ok-made.is c.made_live-made.ensures.made;
    }
