use Rattle.std.proofs.Common.{◌≡◌, ℕ, ◌+◌, ◌-◌, List, [], ◌∷◌, ◌++◌, length, get_or, Option, sym, ◌∙◌, ap, subst, arith, length-append}
use Rattle.std.proofs.Math.Seq.{get_or-append_seam}
use Rattle.std.specs.Option.{option_to_list}
use Rattle.board_core.specs.declared.event.Entry.{Entry as Event}
use Rattle.turn_lock.specs.Turns.{PassState}
use Rattle.square_board.specs.declared.opening.Opening.{Opening}
use Rattle.square_board.proofs.Passes as passes
use Rattle.live_view.specs.Handles.{LiveState}
use Rattle.live_view.proofs.MayPublish.{may_first}
use Rattle.live_worker.specs.declared.role.Role.{Role}
use Rattle.live_worker.specs.declared.role.Role.TheVariants.{Work, Watch}
use Rattle.live_worker.specs.Inside.Roles.{IsRoleAt, AreRolesDown}
use Rattle.live_worker.proofs.Telling.{told_none}
use Rattle.live_worker.proofs.Rows.{down_more}
use Rattle.live_worker.proofs.gathering.fill.Goals as goal

pub loop-pass-init : goal.loop-pass-init
loop-pass-init g c =
    let P : Type 0 = PassState (Opening g.row.T.Denot) Event in
    let R : Type 0 = Role g.row.T.Denot g.row.E.Denot g.row.T-Subject.Denot g.row.T-Inputs.Denot g.row.T-Made.Denot in
    let written = g.E.Sink.written in
    let faults = g.E.Sink.faults in
    let board = c.args.board.now in
    let old = c.args.passes.items in
    let new = c.pop.new.self.items in
    let pass = c.in-Some.pass in
    let writer = c.args.writer in
    let reports = c.args.reports in
    let n : ℕ = length old - 1 in
    let items : old ≡ new ++ pass ∷ [] = c.pop.ensures.items ∙ ap (λ (o : Option P). new ++ option_to_list o) c.in-Some.is in
    let more = passes.one_more board old new pass c.requires.passes items in
    let at = passes.last_is board old new pass c.requires.passes items in
    let role : R = Watch (record { pass = pass; writer = writer; reader = c.args.reader; reports = reports }) in
    let is : IsRoleAt g.T.Stock.words g.T.Counted.table_of written faults reports board (n - 0) n role = (
      record {
        none = subst (λ (p : P). p.own ≡ []) (ap (λ (l : List P). get_or l (length new) pass) items ∙ get_or-append_seam new pass [] pass) (c.requires.fresh (length new) pass (omega arith));
        may = may_first g.T.Stock.words g.T.Counted.table_of board pass writer at.pass_of c.requires.whole c.requires.reached c.requires.range c.requires.bottom c.requires.none;
        reader = ap (λ (r : LiveState). r.known.book) c.requires.reader;
        range = ap (λ (r : LiveState). r.range) c.requires.reader ∙ sym c.requires.range;
        all = c.requires.all;
        within = c.requires.within;
      },
      at.number ∙ omega arith,
      omega arith,
      told_none written faults reports,
    ) in
    let made : c.push_reserved.new.self.items ≡ [] ++ role ∷ [] = c.push_reserved.ensures.items ∙ ap (λ (l : List R). l ++ role ∷ []) c.requires.empty in
    let long : length c.push_reserved.new.self.items ≡ 1 = ap length made in
    record {
      passes = passes.others_are board old new pass c.requires.passes items;
      roles = subst (AreRolesDown g.T.Stock.words g.T.Counted.table_of written faults reports board n) (sym made) (down_more g.T.Stock.words g.T.Counted.table_of written faults reports board n [] role (λ k d less. absurd (omega arith)) is);
      count = omega arith;
      some = omega arith;
      room = c.push_reserved.ensures.capacity;
    }

pub loop-pass-preserved : goal.loop-pass-preserved
loop-pass-preserved g c =
    let P : Type 0 = PassState (Opening g.row.T.Denot) Event in
    let R : Type 0 = Role g.row.T.Denot g.row.E.Denot g.row.T-Subject.Denot g.row.T-Inputs.Denot g.row.T-Made.Denot in
    let written = g.E.Sink.written in
    let faults = g.E.Sink.faults in
    let board = c.args.board.now in
    let reports = c.args.reports in
    let old = c.loop-pass.passes.items in
    let new = c.pop-in-loop-pass.new.self.items in
    let pass = c.in-Some-pop.pass in
    let roles = c.loop-pass.roles.items in
    let n : ℕ = length c.args.passes.items - 1 in
    let items : old ≡ new ++ pass ∷ [] = c.pop-in-loop-pass.ensures.items ∙ ap (λ (o : Option P). new ++ option_to_list o) c.in-Some-pop.is in
    let are = c.loop-pass.invariant.passes in
    let more = passes.one_more board old new pass are items in
    let at = passes.last_is board old new pass are items in
    let count = c.loop-pass.invariant.count in
    let some = c.loop-pass.invariant.some in
    let role : R = Work pass in
    let number : length new ≡ n - length roles = omega arith in
    let is : IsRoleAt g.T.Stock.words g.T.Counted.table_of written faults reports board (n - length roles) n role = (at.pass_of, at.number ∙ number, omega arith, at.pairs) in
    let made : c.push_reserved-in-Some-pop.new.self.items ≡ roles ++ role ∷ [] = c.push_reserved-in-Some-pop.ensures.items in
    let long : length c.push_reserved-in-Some-pop.new.self.items ≡ length roles + 1 = ap length made ∙ length-append roles (role ∷ []) in
    record {
      passes = passes.others_are board old new pass are items;
      roles = subst (AreRolesDown g.T.Stock.words g.T.Counted.table_of written faults reports board n) (sym made) (down_more g.T.Stock.words g.T.Counted.table_of written faults reports board n roles role c.loop-pass.invariant.roles is);
      count = omega arith;
      some = omega arith;
      room = c.push_reserved-in-Some-pop.ensures.capacity ∙ c.loop-pass.invariant.room;
    }
