use Rattle.std.proofs.Common.{◌≡◌, ℕ, suc, ◌-◌, ◌<◌, ◌≤◌, [], ◌∷◌, ◌++◌, length, Option, Some, inl, refl, sym, ◌∙◌, ap, subst, arith}
use Rattle.std.specs.Option.{option_to_list}
use Rattle.board_core.specs.declared.event.Entry.{Entry as Event}
use Rattle.turn_lock.specs.Turns.{TurnId, PassState, HasBetween}
use Rattle.turn_lock.proofs.Numbers.{has_previous, has_all}
use Rattle.square_board.specs.declared.opening.Opening.{Opening}
use Rattle.live_worker.specs.declared.role.Role.{Role}
use Rattle.live_worker.specs.declared.role.Role.TheVariants.{Work, Watch}
use Rattle.live_worker.specs.Inside.Roles.{IsRoleAt}
use Rattle.live_worker.proofs.Rows.{one_more, others_are, last_is}
use Rattle.square_board.specs.Workers.{MadePairs}
use Rattle.live_worker.proofs.Joined.{pairs_joined}
use Rattle.live_worker.proofs.Watching.{can_after_join}
use Rattle.live_worker.proofs.gathering.gathered.Goals as goal

pub loop-role-init : goal.loop-role-init
loop-role-init g c =
    let R : Type 0 = Role g.row.T.Denot g.row.E.Denot g.row.T-Subject.Denot g.row.T-Inputs.Denot g.row.T-Made.Denot in
    let written = g.E.Sink.written in
    let faults = g.E.Sink.faults in
    let first = c.args.first.now.value in
    let board = c.args.board.now in
    let old = c.args.roles.items in
    let new = c.pop-last.new.self.items in
    let watcher = c.in-Some-Watch.watcher in
    let role : R = Watch watcher in
    let items : old ≡ new ++ role ∷ [] = c.pop-last.ensures.items ∙ ap (λ (o : Option R). new ++ option_to_list o) (c.in-Some-Watch.is ∙ ap Some c.in-Some-Watch.field-0-is) in
    let more = one_more old new role items in
    let is : IsRoleAt g.T.Stock.words g.T.Counted.table_of written faults first board (length new) (length old - 1) role = last_is g.T.Stock.words g.T.Counted.table_of written faults first board (length old - 1) old new role c.requires.roles items in
    let number : watcher.pass.number ≡ length new = is.1 in
    let all = c.requires.count in
    record {
      watcher = is.0;
      roles = others_are g.T.Stock.words g.T.Counted.table_of written faults first board (length old - 1) old new role c.requires.roles items;
      fewer = omega arith;
      told = is.3;
      has = λ n low high. inl (omega arith);
      last = omega arith;
      pairs = λ i more less. absurd (omega arith);
    }

pub unreachable-requires-in_default-role : goal.unreachable-requires-in_default-role
unreachable-requires-in_default-role g c =
    let R : Type 0 = Role g.row.T.Denot g.row.E.Denot g.row.T-Subject.Denot g.row.T-Inputs.Denot g.row.T-Made.Denot in
    let written = g.E.Sink.written in
    let faults = g.E.Sink.faults in
    let first = c.args.first.now.value in
    let board = c.args.board.now in
    let old = c.loop-role.roles.items in
    let new = c.pop.new.self.items in
    let role : R = Watch c.in_default-role.field-0 in
    let n : ℕ = length c.args.roles.items - 1 in
    let items : old ≡ new ++ role ∷ [] = c.pop.ensures.items ∙ ap (λ (o : Option R). new ++ option_to_list o) (c.in-Some.is ∙ ap Some c.in_default-role.is) in
    let more = one_more old new role items in
    let fewer = c.loop-role.invariant.fewer in
    let is : IsRoleAt g.T.Stock.words g.T.Counted.table_of written faults first board (length new) n role = last_is g.T.Stock.words g.T.Counted.table_of written faults first board n old new role c.loop-role.invariant.roles items in
    let at : length new ≡ n = is.2 in
    absurd (omega arith)

pub join-requires-clause-other : goal.join-requires-clause-other
join-requires-clause-other g c κs within =
    let R : Type 0 = Role g.row.T.Denot g.row.E.Denot g.row.T-Subject.Denot g.row.T-Inputs.Denot g.row.T-Made.Denot in
    let old = c.loop-role.roles.items in
    let new = c.pop.new.self.items in
    let role : R = Work c.in-Work.pass in
    let items : old ≡ new ++ role ∷ [] = c.pop.ensures.items ∙ ap (λ (o : Option R). new ++ option_to_list o) (c.in-Some.is ∙ ap Some c.in-Work.is) in
    (last_is g.T.Stock.words g.T.Counted.table_of g.E.Sink.written g.E.Sink.faults c.args.first.now.value c.args.board.now (length c.args.roles.items - 1) old new role c.loop-role.invariant.roles items).0

pub loop-role-preserved : goal.loop-role-preserved
loop-role-preserved g c =
    let R : Type 0 = Role g.row.T.Denot g.row.E.Denot g.row.T-Subject.Denot g.row.T-Inputs.Denot g.row.T-Made.Denot in
    let P : Type 0 = PassState (Opening g.row.T.Denot) Event in
    let written = g.E.Sink.written in
    let faults = g.E.Sink.faults in
    let first = c.args.first.now.value in
    let board = c.args.board.now in
    let old = c.loop-role.roles.items in
    let new = c.pop.new.self.items in
    let watcher = c.loop-role.watcher in
    let other = c.in-Work.pass in
    let role : R = Work other in
    let n : ℕ = length c.args.roles.items - 1 in
    let items : old ≡ new ++ role ∷ [] = c.pop.ensures.items ∙ ap (λ (o : Option R). new ++ option_to_list o) (c.in-Some.is ∙ ap Some c.in-Work.is) in
    let more : length old ≡ suc (length new) = one_more old new role items in
    let fewer = c.loop-role.invariant.fewer in
    let is : IsRoleAt g.T.Stock.words g.T.Counted.table_of written faults first board (length new) n role = last_is g.T.Stock.words g.T.Counted.table_of written faults first board n old new role c.loop-role.invariant.roles items in
    let has : HasBetween watcher.pass (suc (length new)) board.passes = subst (λ (k : ℕ). HasBetween watcher.pass k board.passes) more c.loop-role.invariant.has in
    let both = has_previous watcher.pass other c.join.new.pass.seen (length new) board.passes has is.1 in
    record {
      watcher = can_after_join g.T.Stock.words g.T.Counted.table_of board watcher (record { pass = c.join.new.pass; writer = watcher.writer; reader = watcher.reader; reports = watcher.reports }) c.loop-role.invariant.watcher c.join.ensures.pass (ap (λ (p : P). p.own) c.join.ensures.joined) c.join.ensures.continues refl refl refl;
      roles = others_are g.T.Stock.words g.T.Counted.table_of written faults first board n old new role c.loop-role.invariant.roles items;
      fewer = omega arith;
      told = c.loop-role.invariant.told;
      has = subst (λ (p : P). HasBetween p (length new) board.passes) (sym c.join.ensures.joined) both;
      last = ap (λ (p : P). suc p.number) c.join.ensures.joined ∙ c.loop-role.invariant.last;
      pairs = subst (λ (p : P). (i : ℕ) → length new ≤ i → i < p.number → MadePairs p i) (sym c.join.ensures.joined)
          (pairs_joined watcher.pass other c.join.new.pass.seen (length new) is.1 is.3 (λ i low less. c.loop-role.invariant.pairs i (omega arith) less));
    }

pub returns-clause-all : goal.returns-clause-all
returns-clause-all g c =
    let O : Type 0 = Opening g.row.T.Denot in
    let pass = c.loop-role.watcher.pass in
    let none : length c.loop-role.roles.items ≡ 0 = let v = c.pop.ensures.variant.1 in let n = c.in_default-pop.not-Some in let i = c.in_default-pop.is in let s = c.pop.ensures.cases in grind arith in
    has_all pass c.args.board.now.passes (subst (λ (n : ℕ). HasBetween pass n c.args.board.now.passes) none c.loop-role.invariant.has) (ap (λ (t : TurnId O). t.passes) c.loop-role.invariant.watcher.may.pass_of.turn)

pub returns-clause-gathered : goal.returns-clause-gathered
returns-clause-gathered g c =
    let none : length c.loop-role.roles.items ≡ 0 = let v = c.pop.ensures.variant.1 in let n = c.in_default-pop.not-Some in let i = c.in_default-pop.is in let s = c.pop.ensures.cases in grind arith in
    record {
      last = c.loop-role.invariant.last;
      none = c.loop-role.invariant.watcher.none;
      pairs = λ i less. c.loop-role.invariant.pairs i (omega arith) less;
    }
