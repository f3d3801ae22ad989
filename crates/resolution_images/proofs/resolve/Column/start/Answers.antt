use Rattle.std.proofs.Common.{◌≡◌, suc, ◌-◌, subst, arith}
use Rattle.std.proofs.lemmas.List.{get_or_read}
use Rattle.std.proofs.lemmas.Result.{IfOk-weaker}
use Rattle.square.specs.Squares.{over}
use Rattle.resolution_images.specs.BareRows.{bare_row_in, no_bare_row}
use Rattle.resolution_images.specs.Made.{IsToCover}
use Rattle.resolution_images.proofs.Standing.{line_done, under_done}
use Rattle.resolution_images.proofs.resolve.Column.start.Goals as goal

pub kernel-requires-clause-here : goal.kernel-requires-clause-here
kernel-requires-clause-here c =
    let m = over c.args.self.now.module.now in
    let lines = c.args.rows.now in
    let s = c.args.s in
    let is : c.index-rows-s.result ≡ bare_row_in lines (s - 1) = get_or_read lines (s - 1) c.index-rows-s.result (omega (arith, c.requires.row)) c.index-rows-s.is no_bare_row in
    line_done m c.args.self.now.extent s (s - 1) c.args.self.now.k lines c.index-rows-s.result c.requires.through (omega (arith, c.if-s-eq0.false)) (omega (arith, c.requires.row)) is

pub kernel-requires-clause-under : goal.kernel-requires-clause-under
kernel-requires-clause-under c =
    under_done (over c.args.self.now.module.now) c.args.self.now.extent c.args.s (c.args.s - 1) c.args.self.now.k c.args.rows.now c.under.result.now c.requires.through (omega arith) (omega (arith, c.requires.row)) c.under.ensures

pub returns-then-s-eq0 : goal.returns-then-s-eq0
returns-then-s-eq0 c =
    let none : 0 ≡ c.args.s = omega (arith, c.if-s-eq0.true) in
    IfOk-weaker c.whole.result _ _ (λ below p. subst (λ s. IsToCover (over c.args.self.now.module.now) c.args.self.now.extent s c.args.self.now.k below) none p) c.whole.ensures

pub returns : goal.returns
returns c =
    let some : suc (c.args.s - 1) ≡ c.args.s = omega (arith, c.if-s-eq0.false) in
    IfOk-weaker c.kernel.result _ _ (λ below p. subst (λ s. IsToCover (over c.args.self.now.module.now) c.args.self.now.extent s c.args.self.now.k below) some p) c.kernel.ensures
