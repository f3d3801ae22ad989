use Rattle.std.proofs.Common.{◌≡◌, ℕ, [], ap, sym, ◌∙◌, subst}
use Rattle.board_core.specs.declared.event.Entry.{Entry as Event}
use Rattle.turn_lock.specs.Turns.{TurnId, PassState}
use Rattle.square_board.specs.declared.opening.Opening.{Opening}
use Rattle.square_board.specs.Boards.{HasTurned, HasTakenJob}
use Rattle.square_board.specs.Courses.{numbered}
use Rattle.square_board.specs.Desks.{MatchTaken}
use Rattle.square_board.proofs.Answered.{IsTake, take_goes, take_opening, take_match, take_idle, take_over, take_stopped}
use Rattle.square_board.proofs.Turning.{GoesOn, next_entries, fronts_grow, few_entries, told_fronts, named_legal}
use Rattle.square_board.proofs.Waiting.{waits}
use Rattle.square_board.proofs.board.Board.take.Goals as goal

pub release-requires-clause-entries : goal.release-requires-clause-entries
release-requires-clause-entries g c =
    let w = g.T.Stock.words in
    let P : Type 0 = PassState (Opening g.row.T.Denot) Event in
    let pass = c.args.pass.now in
    let old = c.acquire-held.result.value in
    let inside : c.self.inside.turn.name ≡ c.args.self.now.name = ap (λ (t : TurnId (Opening g.row.T.Denot)). t.name) c.self.view_is in
    let board : pass.turn.name ≡ c.args.self.now.name = ap (λ (t : TurnId (Opening g.row.T.Denot)). t.name) c.requires.turn in
    let seen : c.acquire-held.new.pass.seen ≡ numbered old.course.history = ap (λ (p : P). p.seen) c.acquire-held.ensures.pass in
    let number : c.acquire-held.new.pass.number ≡ pass.number = ap (λ (p : P). p.number) c.acquire-held.ensures.pass in
    let who : c.number.result ≡ pass.number = c.number.ensures ∙ number in
    let new = c.take-taken.new.self in
    let more : GoesOn pass.number old.course.history new.course.history = subst (λ (n : ℕ). GoesOn n old.course.history new.course.history) who (take_goes w old new c.number.result c.take-taken.result c.take-taken.ensures.job) in
    next_entries pass.number _ _ old.course.history _ seen number more

pub release-requires-clause-fronts : goal.release-requires-clause-fronts
release-requires-clause-fronts g c =
    let w = g.T.Stock.words in
    let P : Type 0 = PassState (Opening g.row.T.Denot) Event in
    let pass = c.args.pass.now in
    let old = c.acquire-held.result.value in
    let inside : c.self.inside.turn.name ≡ c.args.self.now.name = ap (λ (t : TurnId (Opening g.row.T.Denot)). t.name) c.self.view_is in
    let board : pass.turn.name ≡ c.args.self.now.name = ap (λ (t : TurnId (Opening g.row.T.Denot)). t.name) c.requires.turn in
    let seen : c.acquire-held.new.pass.seen ≡ numbered old.course.history = ap (λ (p : P). p.seen) c.acquire-held.ensures.pass in
    let number : c.acquire-held.new.pass.number ≡ pass.number = ap (λ (p : P). p.number) c.acquire-held.ensures.pass in
    let who : c.number.result ≡ pass.number = c.number.ensures ∙ number in
    let new = c.take-taken.new.self in
    let more : GoesOn pass.number old.course.history new.course.history = subst (λ (n : ℕ). GoesOn n old.course.history new.course.history) who (take_goes w old new c.number.result c.take-taken.result c.take-taken.ensures.job) in
    λ i l. fronts_grow w c.self.inside.turn.name pass.number c.acquire-held.new.pass.seen old.course.history new.course.history i seen more

pub release-requires-clause-room : goal.release-requires-clause-room
release-requires-clause-room g c =
    let w = g.T.Stock.words in
    let P : Type 0 = PassState (Opening g.row.T.Denot) Event in
    let pass = c.args.pass.now in
    let old = c.acquire-held.result.value in
    let inside : c.self.inside.turn.name ≡ c.args.self.now.name = ap (λ (t : TurnId (Opening g.row.T.Denot)). t.name) c.self.view_is in
    let board : pass.turn.name ≡ c.args.self.now.name = ap (λ (t : TurnId (Opening g.row.T.Denot)). t.name) c.requires.turn in
    let seen : c.acquire-held.new.pass.seen ≡ numbered old.course.history = ap (λ (p : P). p.seen) c.acquire-held.ensures.pass in
    let number : c.acquire-held.new.pass.number ≡ pass.number = ap (λ (p : P). p.number) c.acquire-held.ensures.pass in
    let new = c.take-taken.new.self in
    few_entries w new.opening new.course new.stock c.take-taken.ensures.is_desk

pub returns-clause-job : goal.returns-clause-job
returns-clause-job g c =
    let w = g.T.Stock.words in
    let P : Type 0 = PassState (Opening g.row.T.Denot) Event in
    let pass = c.args.pass.now in
    let old = c.acquire-held.result.value in
    let inside : c.self.inside.turn.name ≡ c.args.self.now.name = ap (λ (t : TurnId (Opening g.row.T.Denot)). t.name) c.self.view_is in
    let board : pass.turn.name ≡ c.args.self.now.name = ap (λ (t : TurnId (Opening g.row.T.Denot)). t.name) c.requires.turn in
    let seen : c.acquire-held.new.pass.seen ≡ numbered old.course.history = ap (λ (p : P). p.seen) c.acquire-held.ensures.pass in
    let number : c.acquire-held.new.pass.number ≡ pass.number = ap (λ (p : P). p.number) c.acquire-held.ensures.pass in
    let who : c.number.result ≡ pass.number = c.number.ensures ∙ number in
    let new = c.take-taken.new.self in
    let opening : new.opening ≡ pass.turn.name = take_opening w old new c.number.result c.take-taken.result c.take-taken.ensures.job ∙ c.acquire-held.ensures.name ∙ inside ∙ sym board in
    let take : IsTake w pass c.acquire-held.new.pass c.release.new.pass old new c.number.result c.take-taken.result = record {
      turn = record {
        held_is = c.acquire-held.ensures.pass;
        continues = c.acquire-held.ensures.continues;
        fronts = told_fronts w c.self.inside.turn.name pass.turn.name old.course.history pass.told (inside ∙ sym board) c.acquire-held.ensures.fronts;
        after_is = c.release.ensures.pass;
        legal = named_legal w pass.turn.name new.opening new.course new.stock c.take-taken.ensures.is_desk opening;
      };
      who_is = who;
      opening = opening;
      desk = c.take-taken.ensures.is_desk;
      job = c.take-taken.ensures.job;
    } in
    take_match w pass c.acquire-held.new.pass c.release.new.pass old new c.number.result c.take-taken.result take

pub returns-clause-idle : goal.returns-clause-idle
returns-clause-idle g c =
    let w = g.T.Stock.words in
    let P : Type 0 = PassState (Opening g.row.T.Denot) Event in
    let pass = c.args.pass.now in
    let old = c.acquire-held.result.value in
    let inside : c.self.inside.turn.name ≡ c.args.self.now.name = ap (λ (t : TurnId (Opening g.row.T.Denot)). t.name) c.self.view_is in
    let board : pass.turn.name ≡ c.args.self.now.name = ap (λ (t : TurnId (Opening g.row.T.Denot)). t.name) c.requires.turn in
    let seen : c.acquire-held.new.pass.seen ≡ numbered old.course.history = ap (λ (p : P). p.seen) c.acquire-held.ensures.pass in
    let number : c.acquire-held.new.pass.number ≡ pass.number = ap (λ (p : P). p.number) c.acquire-held.ensures.pass in
    let who : c.number.result ≡ pass.number = c.number.ensures ∙ number in
    let new = c.take-taken.new.self in
    let opening : new.opening ≡ pass.turn.name = take_opening w old new c.number.result c.take-taken.result c.take-taken.ensures.job ∙ c.acquire-held.ensures.name ∙ inside ∙ sym board in
    let take : IsTake w pass c.acquire-held.new.pass c.release.new.pass old new c.number.result c.take-taken.result = record {
      turn = record {
        held_is = c.acquire-held.ensures.pass;
        continues = c.acquire-held.ensures.continues;
        fronts = told_fronts w c.self.inside.turn.name pass.turn.name old.course.history pass.told (inside ∙ sym board) c.acquire-held.ensures.fronts;
        after_is = c.release.ensures.pass;
        legal = named_legal w pass.turn.name new.opening new.course new.stock c.take-taken.ensures.is_desk opening;
      };
      who_is = who;
      opening = opening;
      desk = c.take-taken.ensures.is_desk;
      job = c.take-taken.ensures.job;
    } in
    take_idle w pass c.acquire-held.new.pass c.release.new.pass old new c.number.result c.take-taken.result take c.take-taken.ensures.idle

pub returns-clause-over : goal.returns-clause-over
returns-clause-over g c =
    let w = g.T.Stock.words in
    let P : Type 0 = PassState (Opening g.row.T.Denot) Event in
    let pass = c.args.pass.now in
    let old = c.acquire-held.result.value in
    let inside : c.self.inside.turn.name ≡ c.args.self.now.name = ap (λ (t : TurnId (Opening g.row.T.Denot)). t.name) c.self.view_is in
    let board : pass.turn.name ≡ c.args.self.now.name = ap (λ (t : TurnId (Opening g.row.T.Denot)). t.name) c.requires.turn in
    let seen : c.acquire-held.new.pass.seen ≡ numbered old.course.history = ap (λ (p : P). p.seen) c.acquire-held.ensures.pass in
    let number : c.acquire-held.new.pass.number ≡ pass.number = ap (λ (p : P). p.number) c.acquire-held.ensures.pass in
    let who : c.number.result ≡ pass.number = c.number.ensures ∙ number in
    let new = c.take-taken.new.self in
    let opening : new.opening ≡ pass.turn.name = take_opening w old new c.number.result c.take-taken.result c.take-taken.ensures.job ∙ c.acquire-held.ensures.name ∙ inside ∙ sym board in
    let take : IsTake w pass c.acquire-held.new.pass c.release.new.pass old new c.number.result c.take-taken.result = record {
      turn = record {
        held_is = c.acquire-held.ensures.pass;
        continues = c.acquire-held.ensures.continues;
        fronts = told_fronts w c.self.inside.turn.name pass.turn.name old.course.history pass.told (inside ∙ sym board) c.acquire-held.ensures.fronts;
        after_is = c.release.ensures.pass;
        legal = named_legal w pass.turn.name new.opening new.course new.stock c.take-taken.ensures.is_desk opening;
      };
      who_is = who;
      opening = opening;
      desk = c.take-taken.ensures.is_desk;
      job = c.take-taken.ensures.job;
    } in
    take_over w pass c.acquire-held.new.pass c.release.new.pass old new c.number.result c.take-taken.result take c.take-taken.ensures.over

pub returns-clause-stopped : goal.returns-clause-stopped
returns-clause-stopped g c =
    let w = g.T.Stock.words in
    let P : Type 0 = PassState (Opening g.row.T.Denot) Event in
    let pass = c.args.pass.now in
    let old = c.acquire-held.result.value in
    let inside : c.self.inside.turn.name ≡ c.args.self.now.name = ap (λ (t : TurnId (Opening g.row.T.Denot)). t.name) c.self.view_is in
    let board : pass.turn.name ≡ c.args.self.now.name = ap (λ (t : TurnId (Opening g.row.T.Denot)). t.name) c.requires.turn in
    let seen : c.acquire-held.new.pass.seen ≡ numbered old.course.history = ap (λ (p : P). p.seen) c.acquire-held.ensures.pass in
    let number : c.acquire-held.new.pass.number ≡ pass.number = ap (λ (p : P). p.number) c.acquire-held.ensures.pass in
    let who : c.number.result ≡ pass.number = c.number.ensures ∙ number in
    let new = c.take-taken.new.self in
    let opening : new.opening ≡ pass.turn.name = take_opening w old new c.number.result c.take-taken.result c.take-taken.ensures.job ∙ c.acquire-held.ensures.name ∙ inside ∙ sym board in
    let take : IsTake w pass c.acquire-held.new.pass c.release.new.pass old new c.number.result c.take-taken.result = record {
      turn = record {
        held_is = c.acquire-held.ensures.pass;
        continues = c.acquire-held.ensures.continues;
        fronts = told_fronts w c.self.inside.turn.name pass.turn.name old.course.history pass.told (inside ∙ sym board) c.acquire-held.ensures.fronts;
        after_is = c.release.ensures.pass;
        legal = named_legal w pass.turn.name new.opening new.course new.stock c.take-taken.ensures.is_desk opening;
      };
      who_is = who;
      opening = opening;
      desk = c.take-taken.ensures.is_desk;
      job = c.take-taken.ensures.job;
    } in
    λ cause. take_stopped w pass c.acquire-held.new.pass c.release.new.pass old new c.number.result c.take-taken.result take cause (c.take-taken.ensures.stopped cause)

pub returns-clause-waits : goal.returns-clause-waits
returns-clause-waits g c =
    let w = g.T.Stock.words in
    let old = c.args.pass.now in
    let new = c.release.new.pass in
    λ is none.
    let turned : HasTurned w old new [] = subst (λ r. MatchTaken r (λ job. HasTakenJob w old new job) (HasTurned w old new [])) is (returns-clause-job g c) in
    waits w c.idle_waits_for_another.ensures old new turned ((returns-clause-idle g c).0 is).1 none
