use Rattle.std.proofs.Common.{◌≡◌, sym, ap, ◌∙◌}
use Rattle.std.specs.Arc.{arc_value}
use Rattle.resolution_laws.specs.Resolution.{candidates_over, below_of}
use Rattle.square.specs.Squares.{Placed, over}
use Rattle.square.specs.Tables.{plain_rows}
use Rattle.cert_check.proofs.Faults.{kernel_below}
use Rattle.cert_check.proofs.checking.covers.Goals as goal

pub returns : goal.returns
returns c =
    let table = c.args.table.now in
    let q = arc_value c.in-Some.below.now in
    let same : c.kernel.result.now ≡ candidates_over (over table.resolved) (below_of (plain_rows table.rows) c.args.s c.args.above) c.args.above =
    c.kernel.ensures ∙ (ap (λ (x : Placed). x.content.kernel) c.deref.ensures ∙ sym (kernel_below table c.args.s c.args.above q c.if-s-eq0.false (sym c.in-Some.ensures.square))) in
    (λ t. c.are_same.ensures.0 t ∙ same, λ e. c.are_same.ensures.1 (e ∙ sym same))
