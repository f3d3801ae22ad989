use Rattle.std.proofs.Common.{◌≡◌, ℕ, ◌+◌, ◌<◌, ◌≤◌, true, sym, subst, ap, ◌∙◌}
use Rattle.std.specs.Prelude.{Result, Ok, OnOk}
use Rattle.bidegree.specs.declared.shape.Shape.{Shape}
use Rattle.board_core.specs.declared.event.Cause.{Cause}
use Rattle.board_core.specs.Machine.{is_meant_in}
use Rattle.square_board.specs.Openings.{shape_of}
use Rattle.square_board.specs.Workers.{HasMadeBy}
use Rattle.image_worker.specs.declared.inputs.ImageSubject.{ImageSubject}
use Rattle.image_worker.specs.Stocks.{ImageRows, extent_of, fronts_of}
use Rattle.image_worker.specs.Words.{image_words}
use Rattle.image_worker.proofs.Shapes.{square_is_meant}
use Rattle.image_worker.proofs.by_workers.images_through.Goals as goal

pub into_images-requires : goal.into_images-requires
into_images-requires g c =
    let h = c.made_by-outcome.ensures.made in
    let last = c.made_by-outcome.result.1 in
    let range = c.args.range in
    let first_is : h.opening.first.value.subject ≡ record { resolved = c.args.resolved; range = range; shape = c.args.shape } = ap (λ (x : ImageRows). x.subject) h.opened.first_is ∙ c.in_ok-stock.ensures.subject in
    let all = subst (λ r. OnOk r ((s k : ℕ) → s ≤ range.s → k ≤ range.t → is_meant_in (shape_of image_words h.opening) range.s range.t s k ≡ true → k < fronts_of last s)) c.in-Ok.is h.all in
    subst (λ (o : ImageSubject). (i k : ℕ) → i ≤ o.range.s → k ≤ o.range.t → k ≤ (extent_of o).n + i → k < fronts_of last i) (sym (h.desk.same ∙ first_is))
    (λ i k row degree square.
    all i k row degree
    (subst (λ (x : Shape). is_meant_in x range.s range.t i k ≡ true) (sym (ap (λ (o : ImageSubject). o.shape) first_is)) (square_is_meant c.args.shape range i k c.requires.stems row square)))

pub returns-in-Ok-clause-worked : goal.returns-in-Ok-clause-worked
returns-in-Ok-clause-worked g c =
    let first = c.in_ok-stock.stock in
    let last = c.made_by-outcome.result.1 in
    record {
      first = first;
      subject = c.in_ok-stock.ensures.subject;
      none = c.in_ok-stock.ensures.fronts;
      last = last;
      rows_are = sym c.into_images.ensures.rows;
      worked = subst (λ (r : Result (Unit {0}) Cause). HasMadeBy image_words c.args.workers first c.args.range r last) c.in-Ok.is c.made_by-outcome.ensures;
    }
