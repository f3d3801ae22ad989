use Rattle.std.proofs.Common.{◌≡◌, ap, sym, ◌∙◌, inr}
use Rattle.board_core.specs.declared.event.Entry.{Entry as Event}
use Rattle.turn_lock.specs.Turns.{TurnId, PassState}
use Rattle.square_board.specs.declared.opening.Opening.{Opening}
use Rattle.square_board.specs.Courses.{Course, numbered, events_of}
use Rattle.square_board.proofs.Turning.{GoesOn, IsTurn, next_entries, fronts_grow, turned_one, told_fronts, named_legal, job_at_desk}
use Rattle.square_board.specs.Boards.{entry_of_give}
use Rattle.square_board.proofs.Answered.{entry_by, give_stopped, legal_before}
use Rattle.square_board.proofs.Courses.{events_of-numbered}
use Rattle.square_board.proofs.board.Board.give.Goals as goal

pub give-given-requires-clause-job : goal.give-given-requires-clause-job
give-given-requires-clause-job g c κs within =
    let w = g.T.Stock.words in
    let P : Type 0 = PassState (Opening g.row.T.Denot) Event in
    let pass = c.args.pass.now in
    let old = c.acquire-held.result.value in
    let inside : c.self.inside.turn.name ≡ c.args.self.now.name = ap (λ (t : TurnId (Opening g.row.T.Denot)). t.name) c.self.view_is in
    let board : pass.turn.name ≡ c.args.self.now.name = ap (λ (t : TurnId (Opening g.row.T.Denot)). t.name) c.requires.pass.turn in
    let seen : c.acquire-held.new.pass.seen ≡ numbered old.course.history = ap (λ (p : P). p.seen) c.acquire-held.ensures.pass in
    let number : c.acquire-held.new.pass.number ≡ pass.number = ap (λ (p : P). p.number) c.acquire-held.ensures.pass in
    job_at_desk w c.args.self.now.name old.opening pass old.course.history c.args.job (c.acquire-held.ensures.name ∙ inside) c.acquire-held.ensures.continues.own c.requires.job

pub release-requires-clause-entries : goal.release-requires-clause-entries
release-requires-clause-entries g c =
    let w = g.T.Stock.words in
    let P : Type 0 = PassState (Opening g.row.T.Denot) Event in
    let pass = c.args.pass.now in
    let old = c.acquire-held.result.value in
    let inside : c.self.inside.turn.name ≡ c.args.self.now.name = ap (λ (t : TurnId (Opening g.row.T.Denot)). t.name) c.self.view_is in
    let board : pass.turn.name ≡ c.args.self.now.name = ap (λ (t : TurnId (Opening g.row.T.Denot)). t.name) c.requires.pass.turn in
    let seen : c.acquire-held.new.pass.seen ≡ numbered old.course.history = ap (λ (p : P). p.seen) c.acquire-held.ensures.pass in
    let number : c.acquire-held.new.pass.number ≡ pass.number = ap (λ (p : P). p.number) c.acquire-held.ensures.pass in
    let event = entry_of_give c.give-given.result c.args.job in
    let more : GoesOn pass.number old.course.history c.give-given.new.self.course.history = inr (record { event = event; by = (entry_by c.give-given.result c.args.job ∙ c.requires.job.who_is); is = ap (λ (x : Course). x.history) c.give-given.ensures.entered }) in
    next_entries pass.number _ _ old.course.history _ seen number more

pub release-requires-clause-fronts : goal.release-requires-clause-fronts
release-requires-clause-fronts g c =
    let w = g.T.Stock.words in
    let P : Type 0 = PassState (Opening g.row.T.Denot) Event in
    let pass = c.args.pass.now in
    let old = c.acquire-held.result.value in
    let inside : c.self.inside.turn.name ≡ c.args.self.now.name = ap (λ (t : TurnId (Opening g.row.T.Denot)). t.name) c.self.view_is in
    let board : pass.turn.name ≡ c.args.self.now.name = ap (λ (t : TurnId (Opening g.row.T.Denot)). t.name) c.requires.pass.turn in
    let seen : c.acquire-held.new.pass.seen ≡ numbered old.course.history = ap (λ (p : P). p.seen) c.acquire-held.ensures.pass in
    let number : c.acquire-held.new.pass.number ≡ pass.number = ap (λ (p : P). p.number) c.acquire-held.ensures.pass in
    let event = entry_of_give c.give-given.result c.args.job in
    let more : GoesOn pass.number old.course.history c.give-given.new.self.course.history = inr (record { event = event; by = (entry_by c.give-given.result c.args.job ∙ c.requires.job.who_is); is = ap (λ (x : Course). x.history) c.give-given.ensures.entered }) in
    λ i l. fronts_grow w c.self.inside.turn.name pass.number c.acquire-held.new.pass.seen old.course.history c.give-given.new.self.course.history i seen more

pub returns-clause-turned : goal.returns-clause-turned
returns-clause-turned g c =
    let w = g.T.Stock.words in
    let P : Type 0 = PassState (Opening g.row.T.Denot) Event in
    let pass = c.args.pass.now in
    let old = c.acquire-held.result.value in
    let inside : c.self.inside.turn.name ≡ c.args.self.now.name = ap (λ (t : TurnId (Opening g.row.T.Denot)). t.name) c.self.view_is in
    let board : pass.turn.name ≡ c.args.self.now.name = ap (λ (t : TurnId (Opening g.row.T.Denot)). t.name) c.requires.pass.turn in
    let seen : c.acquire-held.new.pass.seen ≡ numbered old.course.history = ap (λ (p : P). p.seen) c.acquire-held.ensures.pass in
    let number : c.acquire-held.new.pass.number ≡ pass.number = ap (λ (p : P). p.number) c.acquire-held.ensures.pass in
    let event = entry_of_give c.give-given.result c.args.job in
    let more : GoesOn pass.number old.course.history c.give-given.new.self.course.history = inr (record { event = event; by = (entry_by c.give-given.result c.args.job ∙ c.requires.job.who_is); is = ap (λ (x : Course). x.history) c.give-given.ensures.entered }) in
    let new = c.give-given.new.self in
    let opening : new.opening ≡ pass.turn.name = c.give-given.ensures.opening ∙ c.acquire-held.ensures.name ∙ inside ∙ sym board in
    let turn : IsTurn w pass c.acquire-held.new.pass c.release.new.pass old.course.history new.course.history = record {
      held_is = c.acquire-held.ensures.pass;
      continues = c.acquire-held.ensures.continues;
      fronts = told_fronts w c.self.inside.turn.name pass.turn.name old.course.history pass.told (inside ∙ sym board) c.acquire-held.ensures.fronts;
      after_is = c.release.ensures.pass;
      legal = named_legal w pass.turn.name new.opening new.course new.stock c.give-given.ensures.is_desk opening;
    } in
    turned_one w pass c.acquire-held.new.pass c.release.new.pass old.course.history new.course.history turn event ((entry_by c.give-given.result c.args.job ∙ c.requires.job.who_is)) (ap (λ (x : Course). x.history) c.give-given.ensures.entered)

pub returns-clause-stopped : goal.returns-clause-stopped
returns-clause-stopped g c =
    let w = g.T.Stock.words in
    let new = c.give-given.new.self in
    let old = c.acquire-held.result.value in
    let after : events_of c.release.new.pass.seen ≡ new.course.history = ap (λ (p : PassState (Opening g.row.T.Denot) Event). events_of p.seen) c.release.ensures.pass ∙ events_of-numbered new.course.history in
    λ cause. give_stopped c.release.new.pass old.course new.course c.give-given.result c.args.job cause (ap (λ (p : PassState (Opening g.row.T.Denot) Event). p.seen) c.release.ensures.pass) c.give-given.ensures.entered (legal_before w new.opening old.course new.course _ new.stock c.give-given.ensures.is_desk c.give-given.ensures.entered) (c.give-given.ensures.stopped cause)
