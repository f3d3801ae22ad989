use Rattle.std.proofs.Common.{◌≡◌, ap, sym, ◌∙◌, inr}
use Rattle.board_core.specs.declared.event.Entry.{Entry as Event}
use Rattle.board_core.specs.declared.event.Entry.TheVariants.{Back}
use Rattle.turn_lock.specs.Turns.{TurnId, PassState}
use Rattle.square_board.specs.declared.opening.Opening.{Opening}
use Rattle.square_board.specs.Courses.{Course, numbered}
use Rattle.square_board.specs.Desks.{DeskState}
use Rattle.square_board.proofs.Turning.{GoesOn, IsTurn, next_entries, fronts_grow, turned_one, told_fronts, named_legal, job_at_desk}
use Rattle.square_board.proofs.board.Board.back.Goals as goal

pub back-requires-clause-job : goal.back-requires-clause-job
back-requires-clause-job g c κs within =
    let w = g.T.Stock.words in
    let P : Type 0 = PassState (Opening g.row.T.Denot) Event in
    let pass = c.args.pass.now in
    let old = c.acquire-held.result.value in
    let inside : c.self.inside.turn.name ≡ c.args.self.now.name = ap (λ (t : TurnId (Opening g.row.T.Denot)). t.name) c.self.view_is in
    let board : pass.turn.name ≡ c.args.self.now.name = ap (λ (t : TurnId (Opening g.row.T.Denot)). t.name) c.requires.pass.turn in
    let seen : c.acquire-held.new.pass.seen ≡ numbered old.course.history = ap (λ (p : P). p.seen) c.acquire-held.ensures.pass in
    let number : c.acquire-held.new.pass.number ≡ pass.number = ap (λ (p : P). p.number) c.acquire-held.ensures.pass in
    job_at_desk w c.args.self.now.name old.opening pass old.course.history c.args.job (c.acquire-held.ensures.name ∙ inside) c.acquire-held.ensures.continues.own c.requires.job

pub release-requires-clause-entries : goal.release-requires-clause-entries
release-requires-clause-entries g c =
    let w = g.T.Stock.words in
    let P : Type 0 = PassState (Opening g.row.T.Denot) Event in
    let pass = c.args.pass.now in
    let old = c.acquire-held.result.value in
    let inside : c.self.inside.turn.name ≡ c.args.self.now.name = ap (λ (t : TurnId (Opening g.row.T.Denot)). t.name) c.self.view_is in
    let board : pass.turn.name ≡ c.args.self.now.name = ap (λ (t : TurnId (Opening g.row.T.Denot)). t.name) c.requires.pass.turn in
    let seen : c.acquire-held.new.pass.seen ≡ numbered old.course.history = ap (λ (p : P). p.seen) c.acquire-held.ensures.pass in
    let number : c.acquire-held.new.pass.number ≡ pass.number = ap (λ (p : P). p.number) c.acquire-held.ensures.pass in
    let event = Back c.args.job.who c.args.job.s c.args.job.t in
    let more : GoesOn pass.number old.course.history c.back.new.self.course.history = inr (record { event = event; by = c.requires.job.who_is; is = ap (λ (x : Course). x.history) (ap (λ (d : DeskState g.row.T.Denot). d.course) c.back.ensures.entered) }) in
    next_entries pass.number _ _ old.course.history _ seen number more

pub release-requires-clause-fronts : goal.release-requires-clause-fronts
release-requires-clause-fronts g c =
    let w = g.T.Stock.words in
    let P : Type 0 = PassState (Opening g.row.T.Denot) Event in
    let pass = c.args.pass.now in
    let old = c.acquire-held.result.value in
    let inside : c.self.inside.turn.name ≡ c.args.self.now.name = ap (λ (t : TurnId (Opening g.row.T.Denot)). t.name) c.self.view_is in
    let board : pass.turn.name ≡ c.args.self.now.name = ap (λ (t : TurnId (Opening g.row.T.Denot)). t.name) c.requires.pass.turn in
    let seen : c.acquire-held.new.pass.seen ≡ numbered old.course.history = ap (λ (p : P). p.seen) c.acquire-held.ensures.pass in
    let number : c.acquire-held.new.pass.number ≡ pass.number = ap (λ (p : P). p.number) c.acquire-held.ensures.pass in
    let event = Back c.args.job.who c.args.job.s c.args.job.t in
    let more : GoesOn pass.number old.course.history c.back.new.self.course.history = inr (record { event = event; by = c.requires.job.who_is; is = ap (λ (x : Course). x.history) (ap (λ (d : DeskState g.row.T.Denot). d.course) c.back.ensures.entered) }) in
    λ i l. fronts_grow w c.self.inside.turn.name pass.number c.acquire-held.new.pass.seen old.course.history c.back.new.self.course.history i seen more

pub returns-clause-turned : goal.returns-clause-turned
returns-clause-turned g c =
    let w = g.T.Stock.words in
    let P : Type 0 = PassState (Opening g.row.T.Denot) Event in
    let pass = c.args.pass.now in
    let old = c.acquire-held.result.value in
    let inside : c.self.inside.turn.name ≡ c.args.self.now.name = ap (λ (t : TurnId (Opening g.row.T.Denot)). t.name) c.self.view_is in
    let board : pass.turn.name ≡ c.args.self.now.name = ap (λ (t : TurnId (Opening g.row.T.Denot)). t.name) c.requires.pass.turn in
    let seen : c.acquire-held.new.pass.seen ≡ numbered old.course.history = ap (λ (p : P). p.seen) c.acquire-held.ensures.pass in
    let number : c.acquire-held.new.pass.number ≡ pass.number = ap (λ (p : P). p.number) c.acquire-held.ensures.pass in
    let event = Back c.args.job.who c.args.job.s c.args.job.t in
    let more : GoesOn pass.number old.course.history c.back.new.self.course.history = inr (record { event = event; by = c.requires.job.who_is; is = ap (λ (x : Course). x.history) (ap (λ (d : DeskState g.row.T.Denot). d.course) c.back.ensures.entered) }) in
    let new = c.back.new.self in
    let opening : new.opening ≡ pass.turn.name = (ap (λ (d : DeskState g.row.T.Denot). d.opening) c.back.ensures.entered) ∙ c.acquire-held.ensures.name ∙ inside ∙ sym board in
    let turn : IsTurn w pass c.acquire-held.new.pass c.release.new.pass old.course.history new.course.history = record {
      held_is = c.acquire-held.ensures.pass;
      continues = c.acquire-held.ensures.continues;
      fronts = told_fronts w c.self.inside.turn.name pass.turn.name old.course.history pass.told (inside ∙ sym board) c.acquire-held.ensures.fronts;
      after_is = c.release.ensures.pass;
      legal = named_legal w pass.turn.name new.opening new.course new.stock c.back.ensures.is_desk opening;
    } in
    turned_one w pass c.acquire-held.new.pass c.release.new.pass old.course.history new.course.history turn event (c.requires.job.who_is) (ap (λ (x : Course). x.history) (ap (λ (d : DeskState g.row.T.Denot). d.course) c.back.ensures.entered))
