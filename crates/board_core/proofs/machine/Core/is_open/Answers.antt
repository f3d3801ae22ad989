use Rattle.std.proofs.Common.{◌≡◌, ℕ, ◌<◌, Bool, false, true, length, get_or, refl, sym, ◌∙◌, ap, subst, arith}
use Rattle.std.proofs.lemmas.List.{get_or_default}
use Rattle.board_core.specs.Board.{Board, IsTaken, below_fronts, state_of}
use Rattle.board_core.specs.Inside.{has_row}
use Rattle.board_core.specs.Machine.{State, IsReady}
use Rattle.board_core.proofs.RowsOut.{ready_first, row_is_open}
use Rattle.board_core.proofs.machine.Core.is_open.Goals as goal

pub returns-then-not-index-clause-yes : goal.returns-then-not-index-clause-yes
returns-then-not-index-clause-yes c has running no_cause =
    let inside = c.self.inside in
    let state : State = record { shape = inside.shape; rows = inside.rows; degrees = inside.degrees; bottom = inside.bottom; done = below_fronts inside.fronts; out = inside.out.items; failed = inside.failed; file = inside.file; cause = inside.cause; running = inside.running } in
    let s = c.args.s in
    let front : ℕ = get_or inside.fronts s 0 in
    let next = c.has_next.ensures.0 has in
    let taken : IsTaken state s next.0 = subst (λ (b : Board). IsTaken (state_of b) s next.0) (sym c.self.view_is) next.1 in
    let free : c.index.result.now ≡ false = c.if-not-index.true in
    let read : get_or inside.busy.items s false ≡ false = ap (λ (n : ℕ). get_or inside.busy.items n false) (sym c.from.ensures) ∙ ap (λ (d : Bool). get_or inside.busy.items c.from.result d) (sym free) ∙ sym c.index.ensures ∙ free in
    let clear : has_row inside.out.items s ≡ false = sym (c.self.invariant.marked.marks s) ∙ read in
    let ready = ready_first state s next.0 front (λ j. refl) (ap (λ (b : Board). b.running) c.self.view_is ∙ running) (ap (λ (b : Board). b.cause) c.self.view_is ∙ no_cause) taken clear in
    (front, subst (λ (b : Board). IsReady (state_of b) s front) c.self.view_is ready)

pub returns-else-not-index-clause-no : goal.returns-else-not-index-clause-no
returns-else-not-index-clause-no c e k ready =
    let inside = c.self.inside in
    let state : State = record { shape = inside.shape; rows = inside.rows; degrees = inside.degrees; bottom = inside.bottom; done = below_fronts inside.fronts; out = inside.out.items; failed = inside.failed; file = inside.file; cause = inside.cause; running = inside.running } in
    let s = c.args.s in
    let there : IsReady state s k = subst (λ (b : Board). IsReady (state_of b) s k) (sym c.self.view_is) ready in
    let clear : has_row inside.out.items s ≡ false = row_is_open state s k (get_or inside.fronts s 0) (λ j. refl) c.self.invariant.sound there in
    let marked : c.index.result.now ≡ true = c.if-not-index.false in
    let row = there.in_range.row in
    let long = c.self.invariant.marked.long in
    let within : s < length inside.busy.items = omega arith in
    let same : get_or inside.busy.items s true ≡ get_or inside.busy.items s false = get_or_default inside.busy.items s true false within in
    let read : get_or inside.busy.items s true ≡ true = ap (λ (n : ℕ). get_or inside.busy.items n true) (sym c.from.ensures) ∙ ap (λ (d : Bool). get_or inside.busy.items c.from.result d) (sym marked) ∙ sym c.index.ensures ∙ marked in
    let free = c.self.invariant.marked.marks s in
    cc
