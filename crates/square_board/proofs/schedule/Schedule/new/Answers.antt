use Rattle.std.proofs.Common.{◌≡◌, ℤ, w32, to_z, of_z, sym, ◌∙◌, ap, subst}
use Rattle.std.proofs.lemmas.Int.{to_z-of_z}
use Rattle.board_core.specs.Board.{Board, state_of}
use Rattle.board_core.specs.Machine.{IsStart, stands_in, opening}
use Rattle.square_board.proofs.Schedules.{opened}
use Rattle.square_board.proofs.schedule.Schedule.new.Goals as goal

pub invariant_of-result : goal.invariant_of-result
invariant_of-result c =
    let core : Board = c.in_ok-new.field-0 in
    let m : ℤ = to_z w32 (of_z w32 c.args.m) in
    let same : m ≡ c.args.m = to_z-of_z w32 c.args.m c.ranges.m in
    let is : state_of core ≡ opening m c.args.shape c.args.range.s c.args.range.t c.args.start.now = c.in_ok-new.ensures in
    opened core c.args.m c.args.shape c.args.range.s c.args.range.t c.of.result c.new-2.result.items _
    (is ∙ ap (λ (b : ℤ). opening b c.args.shape c.args.range.s c.args.range.t c.args.start.now) same ∙ ap (λ l. opening c.args.m c.args.shape c.args.range.s c.args.range.t l) (sym c.of.ensures))
    (subst (IsStart (stands_in c.args.shape c.args.range.s c.args.range.t) c.args.m) (sym c.of.ensures) c.requires.start)
    c.new-2.ensures.items
