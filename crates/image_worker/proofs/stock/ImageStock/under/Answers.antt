use Rattle.std.proofs.Common.{◌≡◌, ℕ, suc, ◌+◌, ◌-◌, ◌<◌, ◌≤◌, ◌⊎◌, ℤ, List, take, w32, to_z, of_z, FitsSigned, sym, subst, ap, ◌∙◌, arith, rules}
use Rattle.std.proofs.lemmas.Int.{to_z-of_z}
use Rattle.std.proofs.lemmas.List.{get_or_read}
use Rattle.std.proofs.lemmas.Result.{IfOk-weaker}
use Rattle.std.specs.Arc.{arc_value}
use Rattle.resolution_laws.specs.Resolution.{degrees_from}
use Rattle.square.specs.Squares.{over, bottom_of}
use Rattle.finite_module.specs.Checked.{Checked}
use Rattle.resolution_images.specs.BareRows.{no_bare_row, bare_row_in, IsBareRowOf}
use Rattle.resolution_images.specs.Made.{AreUnder, IsMadeThrough}
use Rattle.resolution_images.proofs.Resolved.{a_table}
use Rattle.image_worker.specs.Stocks.{ImageRows, IsNextImage, extent_of, extent_in, squares_done, front_in}
use Rattle.image_worker.proofs.Kept.{some_row, first_squares, under_enough}
use Rattle.image_worker.proofs.stock.ImageStock.under.Goals as goal

pub first_gens-requires-clause-row : goal.first_gens-requires-clause-row
first_gens-requires-clause-row c =
    let i = c.self.inside in
    let checked = arc_value i.«module» in
    let e = extent_in i.shape i.range in
    let kept = c.self.invariant.2 in
    let next = subst (λ (x : ImageRows). IsNextImage x c.args.s c.args.above) (sym c.self.view_is) c.requires.next in
    let fits : FitsSigned w32 c.bottom.result = search rules in
    let b_is : to_z w32 (of_z w32 c.bottom.result) ≡ bottom_of checked = to_z-of_z w32 c.bottom.result fits ∙ c.bottom.ensures.bottom ∙ ap bottom_of c.deref.ensures in
    let l : c.from.result < _ = omega (arith, kept.count, next.row, c.from.ensures) in
    let line_is : c.index-row.result.now ≡ bare_row_in i.rows.items c.from.result = get_or_read i.rows.items c.from.result c.index-row.result.now l c.index-row.ensures no_bare_row in
    let x = a_table c.canonical_table_exists.ensures checked e in
    let made = subst (IsMadeThrough (over checked) e c.from.result (squares_done i.rows.items c.from.result)) (sym line_is) (kept.made c.from.result (omega (arith, next.row, c.from.ensures))) in
    some_row (over checked) e c.from.result (squares_done i.rows.items c.from.result) c.index-row.result.now x.0 x.1 made _ b_is

-- under a row above row 0
under_is : (checked : Checked) (e : _) (s k : ℕ) (gens : List ℤ) → (i : ℕ) → s ≡ suc i → AreUnder (over checked) e (suc i) k gens → AreUnder (over checked) e s k gens
under_is checked e s k gens i same h = subst (λ x. AreUnder (over checked) e x k gens) (sym same) h

pub returns : goal.returns
returns c =
    let i = c.self.inside in
    let checked = arc_value i.«module» in
    let e = extent_in i.shape i.range in
    let kept = c.self.invariant.2 in
    let rows = i.rows.items in
    let next = subst (λ (x : ImageRows). IsNextImage x c.args.s c.args.above) (sym c.self.view_is) c.requires.next in
    let fits : FitsSigned w32 c.bottom.result = search rules in
    let b_is : to_z w32 (of_z w32 c.bottom.result) ≡ bottom_of checked = to_z-of_z w32 c.bottom.result fits ∙ c.bottom.ensures.bottom ∙ ap bottom_of c.deref.ensures in
    let below = c.args.s - 1 in
    let same : c.args.s ≡ suc below = omega (arith, c.if-s-eq0.false) in
    let place : c.from.result ≡ below = omega (arith, c.from.ensures) in
    let line_is : c.index-row.result.now ≡ bare_row_in rows below = get_or_read rows c.from.result c.index-row.result.now (omega (arith, kept.count, next.row, c.from.ensures)) c.index-row.ensures no_bare_row ∙ ap (bare_row_in rows) place in
    let enough : (suc c.args.above ≤ squares_done rows below) ⊎ (squares_done rows below ≡ e.n + below + 1) =
    under_enough (over checked) e i.range.t rows i.starts _ kept below c.args.above (omega (arith, next.row, same)) (ap (front_in rows i.starts) (sym same) ∙ next.next) (omega (arith, next.stem, same)) (λ l. next.below below (sym same) (omega (arith, l, same))) in
    let made = subst (IsMadeThrough (over checked) e below (squares_done rows below)) (sym line_is) (kept.made below (omega (arith, next.row, same))) in
    let many : c.from-2.result + 1 ≡ suc c.args.above = omega (arith, c.from-2.ensures) in
    IfOk-weaker c.first_gens.result _ _
    (λ gens p.
    subst (λ (x : ImageRows). AreUnder (over x.subject.resolved) (extent_of x.subject) c.args.s c.args.above gens) c.self.view_is
    (under_is checked e c.args.s c.args.above gens below same
    (first_squares c.rows_in_stems_are_whole.ensures (over checked) e below (squares_done rows below) (suc c.args.above) c.index-row.result.now gens (omega (arith, next.row, same)) enough made
    (λ squares is.
    subst (λ (b : ℤ). gens ≡ degrees_from b (take (suc c.args.above) squares)) b_is
    (subst (λ n. gens ≡ degrees_from (to_z w32 (of_z w32 c.bottom.result)) (take n squares)) many
    (p squares (subst (λ (b : ℤ). IsBareRowOf b squares c.index-row.result.now) (sym b_is) is)))))))
    c.first_gens.ensures
