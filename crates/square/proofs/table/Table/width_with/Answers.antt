use Rattle.std.proofs.Common.{◌+◌, ◌<◌, ◌^◌, ℕ, Option, SomeIff, length, ap, subst, sym, ◌∙◌, arith}
use Rattle.square.specs.Tables.{next_width}
use Rattle.square.proofs.Places.{next_length, next_width-row}
use Rattle.square.proofs.table.Table.width_with.Goals as goal

pub width-requires-clause-within : goal.width-requires-clause-within
width-requires-clause-within c =
    let end = next_length c.args.self.now.rows c.args.s c.args.above c.requires.next in
    let len = ap length c.row.ensures.row in
    omega arith

pub returns-in_err-width : goal.returns-in_err-width
returns-in_err-width c =
    let all = next_width c.args.self.now c.args.s c.args.above c.args.count in
    let e = next_width-row c.args.self.now c.args.s c.args.above c.args.count c.row.result.now.squares c.row.ensures.row c.requires.next in
    subst (λ (x : Option ℕ). SomeIff x (all < 2 ^ 64) all) (sym c.from_residual.ensures) (λ fits. c.in_err-width.ensures (omega arith))

pub returns : goal.returns
returns c =
    let e = next_width-row c.args.self.now c.args.s c.args.above c.args.count c.row.result.now.squares c.row.ensures.row c.requires.next in
    subst (λ (n : ℕ). SomeIff c.checked_add.result (n < 2 ^ 64) n) (ap (λ n. n + c.args.count) c.in_ok-width.ensures.1 ∙ e) c.checked_add.ensures
