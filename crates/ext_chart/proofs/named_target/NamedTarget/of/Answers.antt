use Rattle.std.proofs.Common.{ap, sym, ◌∙◌, arith, ◌-◌}
use Rattle.finite_module.specs.Checked.{Checked}
use Rattle.finite_module.specs.Module.{width}
use Rattle.finite_module.specs.Text.{sum_text}
use Rattle.ext_chart.specs.Dump.{image_text, image_width}
use Rattle.ext_chart.proofs.Targets.{row_target}
use Rattle.ext_chart.proofs.named_target.NamedTarget.of.Goals as goal

pub returns-then-s-eq0 : goal.returns-then-s-eq0
returns-then-s-eq0 g c =
    let gs = (g.R.Shown.seen c.args.table.now).resolved.plain.generators in
    let rows = (g.R.Shown.seen c.args.table.now).rows in
    record {
      text = ap (λ (m : Checked). sum_text m.plain.generators) c.module.ensures ∙ ap (image_text gs rows) (sym c.if-s-eq0.true);
      width = ap (λ (m : Checked). width m.plain.generators) c.module.ensures ∙ ap (image_width gs rows) (sym c.if-s-eq0.true);
      named = λ max k h. tt;
    }

pub returns : goal.returns
returns g c =
    let some = c.if-s-eq0.false in
    let row = c.in_ok-row_gens in
    row_target (g.R.Shown.seen c.args.table.now).resolved.plain.generators (g.R.Shown.seen c.args.table.now).rows (c.args.s - 1) c.args.s _ (omega arith) row.ensures.gens row.ensures.places
