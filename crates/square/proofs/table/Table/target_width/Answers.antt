use Rattle.std.proofs.Common.{◌≡◌, ◌+◌, ◌-◌, ◌<◌, ◌^◌, ℕ, List, SomeIff, take, ap, subst, sym, ◌∙◌, arith}
use Rattle.std.proofs.lemmas.Int.{ints}
use Rattle.finite_module.specs.Checked.{Checked}
use Rattle.square.specs.Squares.{Placed, bottom_of}
use Rattle.square.specs.Tables.{contents, row_width}
use Rattle.square.proofs.Places.{target_width-read, target_width-above}
use Rattle.square.proofs.table.Table.target_width.Goals as goal

pub returns-then-s-eq0 : goal.returns-then-s-eq0
returns-then-s-eq0 c =
    let low : c.bottom.result ≡ bottom_of c.args.self.now.resolved = c.bottom.ensures.bottom ∙ ap (λ (m : Checked). bottom_of m) c.module.ensures in
    let is = target_width-read c.args.self.now c.args.s c.args.above c.dim_in.result c.module-then-s-eq0.result.now _ c.dim_in.ensures c.module-then-s-eq0.ensures (omega (arith, ints, c.bottom.ensures.lowest, c.bottom.ensures.highest, c.requires.above)) c.if-s-eq0.true c.requires.next in
    let word = c.dim_in.type_inv in
    (omega arith, is)

pub returns : goal.returns
returns c =
    let some = c.if-s-eq0.false in
    let e = target_width-above c.args.self.now c.args.s (c.args.s - 1) c.args.above (omega arith) c.requires.next in
    let same = ap (λ (x : List Placed). row_width (take (c.args.above + 1) (contents x)) c.args.above) c.row.ensures.row in
    subst (λ (n : ℕ). SomeIff c.width.result (n < 2 ^ 64) n) (same ∙ sym e) c.width.ensures
