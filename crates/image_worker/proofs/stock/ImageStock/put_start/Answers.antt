use Rattle.std.proofs.Common.{◌≡◌, ℕ, suc, ◌+◌, ◌<◌, Option, None, length, get_or, set, sym, subst, ap, ◌∙◌, arith}
use Rattle.std.proofs.lemmas.List.{get_or-set_same, get_or-set_other, length-set}
use Rattle.std.specs.Option.{option_map}
use Rattle.std.specs.Arc.{arc_value}
use Rattle.f2_matrix.specs.Reduction.{Rows}
use Rattle.square.specs.Squares.{over}
use Rattle.resolution_images.specs.Made.{IsToCover}
use Rattle.image_worker.specs.Stocks.{ImageRows, IsNextImage, IsOneMore, HasKernel, extent_of, extent_in, front_in, fronts_of}
use Rattle.image_worker.specs.Inside.Kept.{AreKept}
use Rattle.image_worker.proofs.Ends.{start_within, one_more}
use Rattle.image_worker.proofs.Fronts.{IsPut}
use Rattle.image_worker.proofs.Kept.{kept_start}
use Rattle.image_worker.proofs.stock.ImageStock.put_start.Goals as goal

abbrev new : (c : goal.Joined-index_mut-kernel) → ℕ → Option Rows
new c = λ k. option_map arc_value (get_or (set c.self.inside.kernels.items c.from.result c.args.kernel) k None)

put : (c : goal.Joined-index_mut-kernel) → AreKept (over (arc_value c.self.inside.«module»)) (extent_in c.self.inside.shape c.self.inside.range) c.self.inside.range.t c.self.inside.rows.items (suc c.self.inside.starts) (new c) × IsPut (extent_in c.self.inside.shape c.self.inside.range).n c.args.s c.args.above (front_in c.self.inside.rows.items c.self.inside.starts) (front_in c.self.inside.rows.items (suc c.self.inside.starts))
put c =
    let i = c.self.inside in
    let m = over (arc_value i.«module») in
    let e = extent_in i.shape i.range in
    let kept = c.self.invariant.2 in
    let next = subst (λ (x : ImageRows). IsNextImage x c.args.s c.args.above) (sym c.self.view_is) c.requires.next in
    let covers = subst (λ (x : ImageRows). c.args.s < x.subject.range.s → HasKernel (option_map arc_value c.args.kernel) (IsToCover (over x.subject.resolved) (extent_of x.subject) (suc c.args.s) c.args.above)) (sym c.self.view_is) c.requires.covers in
    let past : e.n + c.args.s < c.args.above = subst (λ (x : ImageRows). (extent_of x.subject).n + c.args.s < c.args.above) (sym c.self.view_is) c.requires.start in
    let l : c.from.result < length i.kernels.items = omega (arith, c.from.ensures, c.self.invariant.1, next.degree) in
    let here : new c c.args.above ≡ option_map arc_value c.args.kernel = ap (new c) (sym c.from.ensures) ∙ ap (option_map arc_value) (get_or-set_same i.kernels.items c.from.result c.args.kernel None l) in
    let inner = start_within i.shape i.range c.args.s c.args.above c.self.invariant.0.stems next.degree past in
    kept_start m e i.range.t i.rows.items i.starts (λ k. option_map arc_value (get_or i.kernels.items k None)) kept c.args.s c.args.above next.row next.degree (option_map arc_value c.args.kernel) covers (new c) here
    (λ j apart. ap (option_map arc_value) (get_or-set_other i.kernels.items c.from.result j c.args.kernel None (λ q. apart (q ∙ c.from.ensures))))
    next.next (omega (arith, past, next.stem)) inner

pub invariant_of-self : goal.invariant_of-self
invariant_of-self c =
    let i = c.self.inside in
    let next : suc i.starts ≡ i.starts + 1 = omega arith in (
      c.self.invariant.0,
      length-set i.kernels.items c.from.result c.args.kernel ∙ c.self.invariant.1,
      subst (λ n. AreKept (over (arc_value i.«module»)) (extent_in i.shape i.range) i.range.t i.rows.items n (new c)) next (put c).0,
    )

pub returns-clause-ok : goal.returns-clause-ok
returns-clause-ok c =
    let i = c.self.inside in
    let next : suc i.starts ≡ i.starts + 1 = omega arith in
    subst (λ n. IsOneMore c.args.s (fronts_of c.args.self.now) (front_in i.rows.items n)) next
    (subst (λ (x : ImageRows). IsOneMore c.args.s (fronts_of x) (front_in i.rows.items (suc i.starts))) c.self.view_is
    (one_more (extent_in i.shape i.range).n c.args.s c.args.above (front_in i.rows.items i.starts) (front_in i.rows.items (suc i.starts)) (put c).1))
