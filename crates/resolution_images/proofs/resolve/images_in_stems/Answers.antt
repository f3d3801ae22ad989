use Rattle.std.proofs.Common.{◌+◌, List, inr, refl, sym, subst, ap}
use Rattle.finite_module.specs.Checked.{Checked}
use Rattle.square.specs.Squares.{over}
use Rattle.resolution_images.specs.BareRows.{BareRow, BareTable, AreOfStems, AreOfRange}
use Rattle.resolution_images.proofs.Making.{stem_lines}
use Rattle.resolution_images.proofs.resolve.images_in_stems.Goals as goal

pub of-requires-clause-rows : goal.of-requires-clause-rows
of-requires-clause-rows c =
    subst (λ (m : Checked). AreOfRange (over m) c.args.s (c.args.n + c.args.s) c.in_ok-resolved.rows.items) (sym c.in_ok-resolved.ensures.resolved)
    (inr (c.args.n, refl, stem_lines c.rows_in_stems_are_whole.ensures (over c.args.resolved) c.args.s c.args.n c.in_ok-resolved.rows.items c.in_ok-resolved.ensures.count c.in_ok-resolved.ensures.through))

pub returns-clause-stems : goal.returns-clause-stems
returns-clause-stems c =
    subst (λ (rows : List BareRow). AreOfStems (over c.args.resolved) c.args.s c.args.n rows) (sym (ap (λ (b : BareTable). b.rows) c.of.ensures))
    (stem_lines c.rows_in_stems_are_whole.ensures (over c.args.resolved) c.args.s c.args.n c.in_ok-resolved.rows.items c.in_ok-resolved.ensures.count c.in_ok-resolved.ensures.through)
