use Rattle.std.proofs.Common.{ℕ, List, length, drop, Err, sym, subst, arith}
use Rattle.board_core.specs.declared.event.Cause.TheVariants.{Memory}
use Rattle.board_core.specs.declared.event.Entry.{Entry as Event}
use Rattle.turn_lock.specs.Turns.{PassState}
use Rattle.square_board.specs.declared.opening.Opening.{Opening}
use Rattle.square_board.specs.Workers.{AreItsPasses, AreOfWorkers, HasMadeBy}
use Rattle.square_board.proofs.Made.{new_are, written_back}
use Rattle.square_board.proofs.Working.{of_workers}
use Rattle.square_board.proofs.workers.made_by.Goals as goal

pub work_in_threads-requires-clause-passes : goal.work_in_threads-requires-clause-passes
work_in_threads-requires-clause-passes g c κs within =
    let P : Type 0 = PassState (Opening g.row.T.Denot) Event in
    let board = c.in-Ok.made.0 in
    let items = c.in-Ok.made.1.items in
    let all : AreItsPasses board items = new_are board items (λ i h. c.in-Ok.ensures.passes i (let n = c.in-Ok.ensures.count in omega arith)) in
    subst (λ (l : List P). AreItsPasses board l) (sym c.as_mut_slice.ensures.value) all

pub join_all-pass-requires-clause-passes : goal.join_all-pass-requires-clause-passes
join_all-pass-requires-clause-passes g c κs within =
    let new = c.work_in_threads.new.passes in
    let same = c.work_in_threads.ensures.count in
    let long = c.as_mut_slice.ensures.len in
    written_back c.in-Ok.made.0 new (drop (length new) c.in-Ok.made.1.items) c.in-Ok.made.1.len (omega arith) c.work_in_threads.ensures.passes

pub returns : goal.returns
returns g c =
    let w = g.T.Stock.words in
    let ended = c.conclude.ensures in
    let by : AreOfWorkers c.in-Ok.made.0.passes ended.made.history = of_workers c.join_all-pass.result c.in-Ok.made.0.passes ended.made.history ended.continues ended.only c.join_all-pass.ensures.pairs in
    let made : HasMadeBy w c.args.workers c.in-Ok.made.0.name.first.value c.args.range c.conclude.result.0 c.conclude.result.1 =
    record { made = ended.made; by = subst (λ (n : ℕ). AreOfWorkers n ended.made.history) c.in-Ok.ensures.as_many by } in
    subst (λ (x : g.row.T.Denot). HasMadeBy w c.args.workers x c.args.range c.conclude.result.0 c.conclude.result.1) c.in-Ok.ensures.opened.first_is made

pub returns-in-Err : goal.returns-in-Err
returns-in-Err g c = subst (λ (x : g.row.T.Denot). HasMadeBy g.T.Stock.words c.args.workers x c.args.range (Err Memory) c.in-Err.stock) c.in-Err.ensures.err (c.no_board.ensures c.args.workers)
