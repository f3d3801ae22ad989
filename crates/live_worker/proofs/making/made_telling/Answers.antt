use Rattle.std.proofs.Common.{◌≡◌, ℕ, ◌-◌, false, Err, List, length, drop, refl, sym, ◌∙◌, ap, subst, arith}
use Rattle.bidegree.specs.declared.range.Range.{Range}
use Rattle.board_core.specs.declared.event.Cause.TheVariants.{Memory}
use Rattle.square_board.specs.Workers.{HasMadeBy}
use Rattle.live_worker.specs.Reports.{squares_of}
use Rattle.live_worker.specs.declared.role.Role.{Role}
use Rattle.live_worker.specs.declared.reports.Reports.{Reports}
use Rattle.live_worker.specs.Inside.Roles.{AreRoles, HasTold}
use Rattle.live_worker.proofs.Reported.{reported_none}
use Rattle.live_worker.proofs.Rows.{can_run, ran_are, written_back}
use Rattle.live_worker.proofs.making.made_telling.Goals as goal

-- ---- the roles

pub fill-requires-clause-some : goal.fill-requires-clause-some
fill-requires-clause-some g c κs within = let count = c.in-Ok.ensures.opened.count in omega arith

pub fill-requires-clause-room : goal.fill-requires-clause-room
fill-requires-clause-room g c κs within =
    let count = c.in-Ok.ensures.opened.count in
    let room = c.in-Ok.ensures.opened.room in
    omega arith

pub fill-requires-clause-range : goal.fill-requires-clause-range
fill-requires-clause-range g c κs within =
    let o = c.in-Ok.ensures.opened in
    o.of_range ∙ sym o.range_is

pub fill-requires-clause-bottom : goal.fill-requires-clause-bottom
fill-requires-clause-bottom g c κs within = sym c.in-Ok.ensures.opened.bottom_is

pub fill-requires-clause-whole : goal.fill-requires-clause-whole
fill-requires-clause-whole g c κs within = ap (λ (x : g.row.T.Denot). g.T.Stock.words.shape (g.T.Stock.words.subject x)) c.in-Ok.ensures.opened.first_is ∙ c.requires.whole

pub fill-requires-clause-reached : goal.fill-requires-clause-reached
fill-requires-clause-reached g c κs within =
    let o = c.in-Ok.ensures.opened in
    let words = g.T.Stock.words in
    subst (λ (r : Range). words.reaches (words.subject c.in-Ok.opened.board.name.first.value) r) (sym o.of_range)
    (subst (λ (x : g.row.T.Denot). words.reaches (words.subject x) c.args.task.range) (sym o.first_is) c.requires.reached)

pub fill-requires-clause-all : goal.fill-requires-clause-all
fill-requires-clause-all g c κs within = c.squares_of.ensures ∙ ap (λ (r : Range). squares_of r) (sym c.in-Ok.ensures.opened.of_range)

pub run_roles-requires-clause-can : goal.run_roles-requires-clause-can
run_roles-requires-clause-can g c κs within =
    let words = g.T.Stock.words in
    let table_of = g.T.Counted.table_of in
    let R : Type 0 = Role g.row.T.Denot g.row.E.Denot g.row.T-Subject.Denot g.row.T-Inputs.Denot g.row.T-Made.Denot in
    let opened = c.in-Ok.opened in
    let board = opened.board in
    let n : ℕ = length opened.passes.items - 1 in
    let first : Reports g.row.E.Denot = record { err = c.args.err; most = 0; all = c.squares_of.result; failed = false } in
    let are : AreRoles words table_of g.E.Sink.written g.E.Sink.faults first board n c.as_mut_slice.result.now = subst (λ (l : List R). AreRoles words table_of g.E.Sink.written g.E.Sink.faults first board n l) (sym c.as_mut_slice.ensures.value) c.fill.ensures.roles in
    can_run words table_of g.E.Sink.written g.E.Sink.faults first board n c.as_mut_slice.result.now are

pub gathered-watcher-requires-clause-some : goal.gathered-watcher-requires-clause-some
gathered-watcher-requires-clause-some g c κs within = let as_many = c.in-Ok.ensures.opened.as_many in omega arith

pub gathered-watcher-requires-clause-roles : goal.gathered-watcher-requires-clause-roles
gathered-watcher-requires-clause-roles g c κs within =
    let words = g.T.Stock.words in
    let table_of = g.T.Counted.table_of in
    let R : Type 0 = Role g.row.T.Denot g.row.E.Denot g.row.T-Subject.Denot g.row.T-Inputs.Denot g.row.T-Made.Denot in
    let written = g.E.Sink.written in
    let faults = g.E.Sink.faults in
    let opened = c.in-Ok.opened in
    let board = opened.board in
    let n : ℕ = length opened.passes.items - 1 in
    let first = c.of-first.result.value in
    let old = c.as_mut_slice.result.now in
    let new = c.run_roles.new.roles in
    let filled = c.fill.ensures.count in
    let same = c.run_roles.ensures.count in
    let value : old ≡ c.fill.new.roles.items = c.as_mut_slice.ensures.value in
    let size = ap (λ (l : List R). length l) value in
    let long = c.as_mut_slice.ensures.len in
    let made : AreRoles words table_of written faults first board n c.fill.new.roles.items = subst (λ (r : Reports g.row.E.Denot). AreRoles words table_of written faults r board n c.fill.new.roles.items) (sym c.of-first.ensures) c.fill.ensures.roles in
    let are : AreRoles words table_of written faults first board n old = subst (λ (l : List R). AreRoles words table_of written faults first board n l) (sym value) made in
    written_back words table_of written faults first board n new (drop (length new) c.fill.new.roles.items) c.fill.new.roles.len (omega arith) (omega arith) (ran_are words table_of written faults first board n old new same are c.run_roles.ensures.ran)

-- ---- the end

pub returns-clause-made : goal.returns-clause-made
returns-clause-made g c =
    let opened = c.in-Ok.ensures.opened in
    let last = c.gathered-watcher.ensures.gathered.last in
    let as_many = opened.as_many in
    let number : c.gathered-watcher.result.pass.number ≡ c.args.task.workers = omega arith in
    subst (λ (n : ℕ). HasMadeBy g.T.Stock.words n c.args.task.stock c.args.task.range c.concluded.result.1.0 c.concluded.result.1.1) number
    (subst (λ (x : g.row.T.Denot). HasMadeBy g.T.Stock.words c.gathered-watcher.result.pass.number x c.args.task.range c.concluded.result.1.0 c.concluded.result.1.1) opened.first_is c.concluded.ensures.made)

pub returns-clause-reported : goal.returns-clause-reported
returns-clause-reported g c =
    let first : Reports g.row.E.Denot = record { err = c.args.err; most = 0; all = c.squares_of.result; failed = false } in
    let told = subst (λ (r : Reports g.row.E.Denot). HasTold g.E.Sink.written g.E.Sink.faults r c.gathered-watcher.result.reports) c.of-first.ensures c.gathered-watcher.ensures.told in
    c.concluded.ensures.told first refl refl c.squares_of.ensures told

-- ---- no board

pub returns-in-Err-clause-made : goal.returns-in-Err-clause-made
returns-in-Err-clause-made g c =
    subst (λ (x : g.row.T.Denot). HasMadeBy g.T.Stock.words c.args.task.workers x c.args.task.range (Err Memory) c.in-Err.stock) c.in-Err.ensures.refused (c.no_board.ensures c.args.task.workers)

pub returns-in-Err-clause-reported : goal.returns-in-Err-clause-reported
returns-in-Err-clause-reported g c = reported_none (squares_of c.args.task.range) Memory (g.E.Sink.written c.args.err) (g.E.Sink.faults c.args.err)
