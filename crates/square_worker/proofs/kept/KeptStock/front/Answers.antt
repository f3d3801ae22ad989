use Rattle.std.proofs.Common.{◌≡◌, arith, ◌∙◌, ap}
use Rattle.std.proofs.lemmas.Int.{ints}
use Rattle.finite_module.specs.Checked.{Checked}
use Rattle.finite_module.specs.Module.{bottom}
use Rattle.square.specs.Squares.{bottom_of}
use Rattle.square_worker.specs.Kept.{KeptTable}
use Rattle.square.proofs.Targets.{row_short}
use Rattle.square_worker.proofs.kept.KeptStock.front.Goals as goal

pub returns-clause-short : goal.returns-clause-short
returns-clause-short g c =
    let row = row_short c.self.inside.table c.front.ensures.is_table c.args.s in
    let front = c.front.ensures.front in
    omega arith

pub returns-clause-fits : goal.returns-clause-fits
returns-clause-fits g c =
    let row = row_short c.self.inside.table c.front.ensures.is_table c.args.s in
    let front = c.front.ensures.front in
    let high = c.bottom-bottom.ensures.highest in
    let low : c.bottom-bottom.result ≡ bottom_of c.args.self.now.table.resolved = c.bottom-bottom.ensures.bottom ∙ (ap (λ (m : Checked). bottom m.plain.generators) c.module.ensures ∙ ap (λ (k : KeptTable g.row.K.Denot). bottom_of k.table.resolved) c.self.view_is) in
    omega (arith, ints)
