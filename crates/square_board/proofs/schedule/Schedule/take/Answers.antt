use Rattle.std.proofs.Common.{◌≡◌, ℤ, List, [], ◌∷◌, ◌++◌, w32, to_z, of_z, ap, sym, ◌∙◌, subst, arith}
use Rattle.std.proofs.lemmas.Int.{to_z-of_z}
use Rattle.board_core.specs.declared.event.Entry.{Entry as Event}
use Rattle.board_core.specs.declared.event.Entry.TheVariants.{Take}
use Rattle.board_core.specs.Board.{state_of as core_state}
use Rattle.board_core.specs.Entries.{after_entry as after}
use Rattle.board_core.specs.Machine.{State, IsLegalTake}
use Rattle.square_board.specs.Courses.{Course, state_of}
use Rattle.square_board.proofs.Schedules.{taken}
use Rattle.square_board.proofs.schedule.Schedule.take.Goals as goal

pub invariant_of-self-2 : goal.invariant_of-self-2
invariant_of-self-2 c =
    let t : ℤ = to_z w32 (of_z w32 c.args.t) in
    let same : t ≡ c.args.t = to_z-of_z w32 c.args.t c.ranges.t in
    let event : Event = Take c.args.who c.args.s t c.args.snapshot in
    let in_view = subst (λ (d : Course). IsLegalTake (state_of d) c.args.s c.args.t c.args.snapshot) (sym c.self.view_is) c.requires in
    let legal = subst (λ (u : ℤ). IsLegalTake (core_state c.self.inside.core) c.args.s u c.args.snapshot) (sym same) (subst (λ (x : State). IsLegalTake x c.args.s c.args.t c.args.snapshot) (sym c.self.invariant.state) in_view) in
    taken c.self.inside.core c.enter.new.core c.self.inside.start c.self.inside.history.items c.enter.new.history.items c.args.who c.args.s t c.args.snapshot c.self.inside.jobs _ _ c.self.invariant
    (record {
      legal = legal;
      state = c.enter.ensures.state ∙ ap (λ (x : State). after x event) c.in_ok-reserve.ensures.state;
      items = c.enter.ensures.items ∙ ap (λ (l : List Event). l ++ event ∷ []) c.in_ok-reserve-2.ensures.items;
    })
    (omega (arith, c.in_ok-reserve.ensures.ok)) (omega (arith, c.in_ok-reserve-2.ensures.ok))
