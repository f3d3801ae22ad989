use Rattle.std.proofs.Common.{ℕ, ◌+◌, ◌<◌, ◌≤◌, List, sym, ◌∙◌, subst, ap}
use Rattle.std.specs.Arc.{arc_value}
use Rattle.square.specs.Squares.{over}
use Rattle.resolution_images.specs.BareRows.{BareRow, BareTable}
use Rattle.resolution_images.proofs.Resolved.{a_table}
use Rattle.image_worker.specs.Stocks.{ImageRows, extent_of, extent_in, fronts_of}
use Rattle.image_worker.proofs.Whole.{AreOfShape, whole_range, range_of, of_rectangle, of_stems}
use Rattle.image_worker.proofs.stock.ImageStock.into_images.Goals as goal

pub of-requires-clause-rows : goal.of-requires-clause-rows
of-requires-clause-rows c =
    let i = c.self.inside in
    let x = a_table c.canonical_table_exists.ensures (arc_value i.«module») (extent_in i.shape i.range) in
    let all = subst (λ (r : ImageRows). (j k : ℕ) → j ≤ r.subject.range.s → k ≤ r.subject.range.t → k ≤ (extent_of r.subject).n + j → k < fronts_of r j) (sym c.self.view_is) c.requires in
    range_of (over (arc_value i.«module»)) i.shape i.range i.rows.items c.self.invariant.0.stems
    (whole_range c.rows_in_stems_are_whole.ensures (over (arc_value i.«module»)) i.shape i.range i.rows.items i.starts _ x.0 x.1 c.self.invariant.0.stems c.self.invariant.2 all)

shaped : (c : goal.After-drop-self-inside) → AreOfShape (over c.args.self.subject.resolved) c.args.self.subject.shape c.args.self.subject.range c.of.result.rows
shaped c =
    let i = c.self.inside in
    let x = a_table c.canonical_table_exists.ensures (arc_value i.«module») (extent_in i.shape i.range) in
    let all = subst (λ (r : ImageRows). (j k : ℕ) → j ≤ r.subject.range.s → k ≤ r.subject.range.t → k ≤ (extent_of r.subject).n + j → k < fronts_of r j) (sym c.self.view_is) c.requires in
    let done = whole_range c.rows_in_stems_are_whole.ensures (over (arc_value i.«module»)) i.shape i.range i.rows.items i.starts _ x.0 x.1 c.self.invariant.0.stems c.self.invariant.2 all in
    subst (λ (rows : List BareRow). AreOfShape (over c.args.self.subject.resolved) c.args.self.subject.shape c.args.self.subject.range rows) (sym (ap (λ (b : BareTable). b.rows) c.of.ensures))
    (subst (λ (r : ImageRows). AreOfShape (over r.subject.resolved) r.subject.shape r.subject.range i.rows.items) c.self.view_is done)

pub returns-clause-canonical : goal.returns-clause-canonical
returns-clause-canonical c = λ shape_is. of_rectangle (over c.args.self.subject.resolved) c.args.self.subject.shape c.args.self.subject.range c.of.result.rows shape_is (shaped c)

pub returns-clause-stems : goal.returns-clause-stems
returns-clause-stems c = λ shape_is. of_stems (over c.args.self.subject.resolved) c.args.self.subject.shape c.args.self.subject.range c.of.result.rows shape_is (shaped c)

pub returns-clause-rows : goal.returns-clause-rows
returns-clause-rows c = ap (λ (b : BareTable). b.rows) c.of.ensures ∙ ap (λ (r : ImageRows). r.rows) c.self.view_is
