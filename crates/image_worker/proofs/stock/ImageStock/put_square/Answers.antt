use Rattle.std.proofs.Common.{◌≡◌, ℕ, suc, ◌+◌, ◌<◌, ◌≤◌, ℤ, pos, ◌+ℤ◌, List, Option, None, length, get_or, set, w32, to_z, of_z, FitsSigned, sym, subst, ap, ◌∙◌, arith, rules}
use Rattle.std.proofs.lemmas.Int.{to_z-of_z}
use Rattle.std.proofs.lemmas.List.{get_or-set_same, get_or-set_other, length-set, set-get_or}
use Rattle.std.specs.Option.{option_map}
use Rattle.std.specs.Arc.{arc_value}
use Rattle.f2_matrix.specs.Reduction.{Rows}
use Rattle.resolution_laws.specs.Resolution.{Content}
use Rattle.square.specs.Squares.{over, bottom_of}
use Rattle.resolution_images.specs.BareRows.{BareRow}
use Rattle.resolution_images.specs.Made.{IsSquareInStems, IsToCover, with_one_square}
use Rattle.resolution_images.proofs.Resolved.{a_table}
use Rattle.image_worker.specs.Stocks.{ImageRows, IsNextImage, IsOneMore, HasKernel, extent_of, extent_in, front_in, fronts_of}
use Rattle.image_worker.specs.Inside.Kept.{AreKept}
use Rattle.image_worker.proofs.Ends.{one_more}
use Rattle.image_worker.proofs.Fronts.{IsPut}
use Rattle.image_worker.proofs.Kept.{kept_square, row_below}
use Rattle.image_worker.proofs.stock.ImageStock.put_square.Goals as goal

pub push-requires : goal.push-requires
push-requires c =
    let i = c.self.inside in
    let checked = arc_value i.«module» in
    let e = extent_in i.shape i.range in
    let kept = c.self.invariant.2 in
    let next = subst (λ (x : ImageRows). IsNextImage x c.args.s c.args.above) (sym c.self.view_is) c.requires.next in
    let fits : FitsSigned w32 c.degree-t.result = search rules in
    let at = to_z-of_z w32 c.degree-t.result fits ∙ c.degree-t.ensures ∙ ap (λ m. bottom_of m +ℤ pos c.args.above) c.deref.ensures in
    let x = a_table c.canonical_table_exists.ensures checked e in
    let row : c.index_mut.result.now ≡ get_or i.rows.items c.args.s c.index_mut.result.now = c.index_mut.ensures.value ∙ ap (λ k. get_or i.rows.items k c.index_mut.result.now) c.from.ensures in
    record { not_below = row_below c.rows_in_stems_are_whole.ensures (over checked) e i.range.t i.rows.items i.starts _ kept c.args.s c.args.above next.row next.next next.stem c.index_mut.result.now row _ at x.0 x.1 }

pub invariant_of-self : goal.invariant_of-self
invariant_of-self c =
    let i = c.self.inside in
    let same : set i.rows.items c.from.result c.push.new.self ≡ i.rows.items =
    ap (set i.rows.items c.from.result) (c.in_err-push.ensures.err ∙ c.index_mut.ensures.value) ∙ set-get_or i.rows.items c.from.result c.index_mut.result.now in (
      c.self.invariant.0,
      c.self.invariant.1,
      subst (λ (rows : List BareRow). AreKept (over (arc_value i.«module»)) (extent_in i.shape i.range) i.range.t rows i.starts (λ k. option_map arc_value (get_or i.kernels.items k None))) (sym same) c.self.invariant.2,
    )

abbrev new : (c : goal.Joined-index_mut-kernel) → ℕ → Option Rows
new c = λ k. option_map arc_value (get_or (set c.self.inside.kernels.items c.from-2.result c.args.kernel) k None)

put : (c : goal.Joined-index_mut-kernel) → AreKept (over (arc_value c.self.inside.«module»)) (extent_in c.self.inside.shape c.self.inside.range) c.self.inside.range.t (set c.self.inside.rows.items c.args.s c.push.new.self) c.self.inside.starts (new c) × IsPut (extent_in c.self.inside.shape c.self.inside.range).n c.args.s c.args.above (front_in c.self.inside.rows.items c.self.inside.starts) (front_in (set c.self.inside.rows.items c.args.s c.push.new.self) c.self.inside.starts)
put c =
    let i = c.self.inside in
    let checked = arc_value i.«module» in
    let m = over checked in
    let e = extent_in i.shape i.range in
    let kept = c.self.invariant.2 in
    let next = subst (λ (x : ImageRows). IsNextImage x c.args.s c.args.above) (sym c.self.view_is) c.requires.next in
    let covers = subst (λ (x : ImageRows). c.args.s < x.subject.range.s → HasKernel (option_map arc_value c.args.kernel) (IsToCover (over x.subject.resolved) (extent_of x.subject) (suc c.args.s) c.args.above)) (sym c.self.view_is) c.requires.covers in
    let within : c.args.above ≤ e.n + c.args.s = subst (λ (x : ImageRows). c.args.above ≤ (extent_of x.subject).n + c.args.s) (sym c.self.view_is) c.requires.square in
    let square = subst (λ (x : ImageRows). (content : Content) × (content.images ≡ c.args.images.items) × IsSquareInStems (over x.subject.resolved) (extent_of x.subject) c.args.s c.args.above content) (sym c.self.view_is) c.requires.images in
    let l : c.from-2.result < length i.kernels.items = omega (arith, c.from-2.ensures, c.self.invariant.1, next.degree) in
    let here : new c c.args.above ≡ option_map arc_value c.args.kernel = ap (new c) (sym c.from-2.ensures) ∙ ap (option_map arc_value) (get_or-set_same i.kernels.items c.from-2.result c.args.kernel None l) in
    let fits : FitsSigned w32 c.degree-t.result = search rules in
    let at = to_z-of_z w32 c.degree-t.result fits ∙ c.degree-t.ensures ∙ ap (λ x. bottom_of x +ℤ pos c.args.above) c.deref.ensures in
    let row : c.index_mut.result.now ≡ get_or i.rows.items c.args.s c.index_mut.result.now = c.index_mut.ensures.value ∙ ap (λ k. get_or i.rows.items k c.index_mut.result.now) c.from.ensures in
    let more = c.in_ok-push.ensures.ok ∙ ap (λ (x : BareRow). with_one_square x (to_z w32 (of_z w32 c.degree-t.result)) c.args.images.items) row ∙ ap (with_one_square (get_or i.rows.items c.args.s c.index_mut.result.now) (to_z w32 (of_z w32 c.degree-t.result))) (sym square.1) in
    kept_square m e i.range.t i.rows.items i.starts (λ k. option_map arc_value (get_or i.kernels.items k None)) kept c.args.s c.args.above next.row next.degree (option_map arc_value c.args.kernel) covers (new c) here
    (λ j apart. ap (option_map arc_value) (get_or-set_other i.kernels.items c.from-2.result j c.args.kernel None (λ q. apart (q ∙ c.from-2.ensures))))
    c.rows_in_stems_are_whole.ensures c.index_mut.result.now c.push.new.self square.0 _ next.next within next.below square.2 at more

pub invariant_of-self-2 : goal.invariant_of-self-2
invariant_of-self-2 c =
    let i = c.self.inside in (
      c.self.invariant.0,
      length-set i.kernels.items c.from-2.result c.args.kernel ∙ c.self.invariant.1,
      subst (λ s. AreKept (over (arc_value i.«module»)) (extent_in i.shape i.range) i.range.t (set i.rows.items s c.push.new.self) i.starts (new c)) (sym c.from.ensures) (put c).0,
    )

pub returns-clause-ok : goal.returns-clause-ok
returns-clause-ok c =
    let i = c.self.inside in
    subst (λ s. IsOneMore c.args.s (fronts_of c.args.self.now) (front_in (set i.rows.items s c.push.new.self) i.starts)) (sym c.from.ensures)
    (subst (λ (x : ImageRows). IsOneMore c.args.s (fronts_of x) (front_in (set i.rows.items c.args.s c.push.new.self) i.starts)) c.self.view_is
    (one_more (extent_in i.shape i.range).n c.args.s c.args.above (front_in i.rows.items i.starts) (front_in (set i.rows.items c.args.s c.push.new.self) i.starts) (put c).1))
