use Rattle.std.proofs.Common.{List, inl, sym, subst, ap}
use Rattle.finite_module.specs.Checked.{Checked}
use Rattle.square.specs.Squares.{over}
use Rattle.resolution_images.specs.BareRows.{BareRow, BareTable, AreOfCanonical, AreOfRange}
use Rattle.resolution_images.proofs.Rectangle.{canonical_lines}
use Rattle.resolution_images.proofs.Resolved.{a_table}
use Rattle.resolution_images.proofs.resolve.images_alone.Goals as goal

pub of-requires-clause-rows : goal.of-requires-clause-rows
of-requires-clause-rows c =
    let x = a_table c.canonical_table_exists.ensures c.args.resolved (record { last = c.args.range.s; n = c.args.range.t }) in
    subst (λ (m : Checked). AreOfRange (over m) c.args.range.s c.args.range.t c.in_ok-resolved.rows.items) (sym c.in_ok-resolved.ensures.resolved)
    (inl (canonical_lines (over c.args.resolved) c.args.range.s c.args.range.t c.in_ok-resolved.rows.items x.0 x.1 c.in_ok-resolved.ensures.count c.in_ok-resolved.ensures.through))

pub returns-clause-canonical : goal.returns-clause-canonical
returns-clause-canonical c =
    let x = a_table c.canonical_table_exists.ensures c.args.resolved (record { last = c.args.range.s; n = c.args.range.t }) in
    subst (λ (rows : List BareRow). AreOfCanonical (over c.args.resolved) c.args.range.s c.args.range.t rows) (sym (ap (λ (b : BareTable). b.rows) c.of.ensures))
    (canonical_lines (over c.args.resolved) c.args.range.s c.args.range.t c.in_ok-resolved.rows.items x.0 x.1 c.in_ok-resolved.ensures.count c.in_ok-resolved.ensures.through)
