use Rattle.std.proofs.Common.{ℕ, ◌<◌, ℤ, List, length, SFits, w32, to_z, of_z, rules, refl, sym, ◌∙◌, ap, subst}
use Rattle.std.proofs.lemmas.Int.{to_z-of_z}
use Rattle.board_core.specs.declared.event.Out.{Out}
use Rattle.board_core.specs.declared.machine.Core.TheInside.{Inside}
use Rattle.board_core.specs.Board.{Board, IsTaken, below_fronts, state_of}
use Rattle.board_core.specs.Inside.{IsMarked}
use Rattle.board_core.specs.Machine.{State, stands_in, IsAbove, IsBegun}
use Rattle.board_core.proofs.Filed.{MayRest, may_rest, may_rest_with, filed_at_rest, sound_at_rest, taken_is_next}
use Rattle.board_core.proofs.machine.Core.stop.Goals as goal
use Rattle.board_core.proofs.machine.Core.stop.Goals.{in-Some+in-Some-begun, in_default}

pub returns-in_default-begun-clause-refuses : goal.returns-in_default-begun-clause-refuses
returns-in_default-begun-clause-refuses c e legal =
    let q = c.in-Some.last in
    let fits : SFits w32 q.1 = search rules in
    let one = subst (λ (u : ℤ). IsBegun (state_of c.args.self.now) q.0 u) (sym (to_z-of_z w32 q.1 fits)) (legal.begun q c.in-Some.is) in
    c.in_default-begun.ensures.none refl one

-- the file with the square, if there is one
abbrev Rests : Inside → Type 0
Rests x = MayRest (stands_in x.shape x.rows x.degrees) x.rows x.degrees x.bottom x.file x.fronts x.aside x.busy.items

pub invariant_of-self : goal.invariant_of-self
invariant_of-self c =
    let inside = c.self.inside in
    let runs = c.if-not-self.false in
    let before : Rests inside = may_rest _ inside.fronts inside.aside inside.busy.items refl runs c.self.invariant in
    let rests : Rests c.match-in_file.self-inside = elim c.match-in_file.branch [
      | in-Some+in-Some-begun w ↦
          let q = w.in-Some.last in
          let k = w.in-Some-begun.above in
          let fits : SFits w32 q.1 = search rules in
          let taken = subst (λ (b : Board). IsTaken (state_of b) q.0 k) (sym c.self.view_is) w.in-Some-begun.ensures.taken in
          let near = subst (λ (b : Board). IsAbove b.bottom (to_z w32 (of_z w32 q.1)) k) (sym c.self.view_is) w.in-Some-begun.ensures.above in
          let at : IsAbove inside.bottom q.1 k = subst (λ (u : ℤ). IsAbove inside.bottom u k) (to_z-of_z w32 q.1 fits) near in
          let next = taken_is_next _ q.0 k q.1 c.self.invariant.filed runs at taken in
          let with = may_rest_with (stands_in inside.shape inside.rows inside.degrees) inside.rows inside.degrees inside.bottom inside.file w.then-self-inside.result inside.fronts w.add.new.self inside.aside inside.busy.items q k before next at w.add.ensures.squares w.add.ensures.rows w.then-self-inside.ensures in
          subst Rests (sym w.self-inside-is) with
      | in_default w ↦ subst Rests (sym w.self-inside-is) before
    ] in
    let done = ap below_fronts c.swap.ensures.x_after ∙ rests.none in
    let m = c.match-in_file.self-inside in
    let state : State = record { shape = m.shape; rows = m.rows; degrees = m.degrees; bottom = m.bottom; done = below_fronts m.fronts; out = m.out.items; failed = m.failed; file = m.file; cause = m.cause; running = m.running } in
    record {
      sound = sound_at_rest state (below_fronts c.swap.new.x) c.clear.new.self.items m.file done c.clear.ensures.items;
      filed = filed_at_rest state (below_fronts c.swap.new.x) c.clear.new.self.items m.file done c.clear.ensures.items rests.listed;
      bounded = record { rows = subst (λ (n : ℕ). m.rows < n) (sym (ap (λ (l : List ℕ). length l) c.swap.ensures.x_after)) rests.long; degrees = rests.bounded.degrees; fits = rests.bounded.fits };
      marked = subst (λ (l : List Out). IsMarked c.unmark.new.busy.items m.rows l) (sym c.clear.ensures.items) (c.unmark.ensures m.rows rests.marks);
      kept_aside = record {
        long = subst (λ (n : ℕ). m.rows < n) (sym (ap (λ (l : List ℕ). length l) c.swap.ensures.y_after)) rests.bounded.rows;
        none = λ r. cc;
        file = λ r. ap below_fronts c.swap.ensures.y_after ∙ rests.squares;
      };
    }
