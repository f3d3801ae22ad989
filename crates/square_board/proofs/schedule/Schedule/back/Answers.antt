use Rattle.std.proofs.Common.{◌≡◌, ℤ, w32, to_z, of_z, refl, sym, subst, arith}
use Rattle.std.proofs.lemmas.Int.{to_z-of_z}
use Rattle.board_core.specs.declared.event.Entry.TheVariants.{Back}
use Rattle.board_core.specs.Board.{state_of as core_state}
use Rattle.board_core.specs.Machine.{State, IsHeld}
use Rattle.square_board.specs.Courses.{Course, state_of}
use Rattle.square_board.proofs.Schedules.{ended}
use Rattle.square_board.proofs.schedule.Schedule.back.Goals as goal

pub invariant_of-self : goal.invariant_of-self
invariant_of-self c =
    let t : ℤ = to_z w32 (of_z w32 c.args.t) in
    let same : t ≡ c.args.t = to_z-of_z w32 c.args.t c.ranges.t in
    let in_view = subst (λ (d : Course). IsHeld (state_of d) c.args.who c.args.s c.args.t) (sym c.self.view_is) c.requires in
    let his = subst (λ (u : ℤ). IsHeld (core_state c.self.inside.core) c.args.who c.args.s u) (sym same) (subst (λ (x : State). IsHeld x c.args.who c.args.s c.args.t) (sym c.self.invariant.state) in_view) in
    ended c.self.inside.core c.enter.new.core c.self.inside.start c.self.inside.history.items c.enter.new.history.items (Back c.args.who c.args.s t) c.args.who c.args.s t c.self.inside.jobs _ _ c.self.invariant
    (record { legal = his; state = c.enter.ensures.state; items = c.enter.ensures.items })
    his refl (omega arith) (omega arith)
