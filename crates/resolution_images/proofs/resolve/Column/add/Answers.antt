use Rattle.std.proofs.Common.{◌≡◌, ◌+◌, suc, subst, ◌<◌, ◌≤◌, length, w32, FitsSigned, refl, ◌∙◌, arith, rules}
use Rattle.std.proofs.lemmas.Int.{to_z-of_z}
use Rattle.std.proofs.lemmas.List.{length-set}
use Rattle.resolution_laws.specs.Resolution.{Content}
use Rattle.square.specs.Squares.{over}
use Rattle.resolution_images.proofs.Making.{through_first, not_below_at, through_more, through_all}
use Rattle.resolution_images.specs.Made.{IsToCover}
use Rattle.resolution_images.proofs.Resolved.{a_table}
use Rattle.resolution_images.proofs.resolve.Column.add.Goals as goal

pub start-requires-clause-through : goal.start-requires-clause-through
start-requires-clause-through c =
    through_first c.rows_in_stems_are_whole.ensures (over c.args.self.now.module.now) c.args.self.now.extent c.from-first.result c.args.self.now.k c.args.rows.now c.requires.rows (λ i l. omega (arith, c.from-first.ensures, c.saturating_sub.ensures)) c.requires.before

pub loop-s-init : goal.loop-s-init
loop-s-init c = record {
  count = refl;
  stem = omega (arith, c.from-first.ensures, c.saturating_sub.ensures);
  through = through_first c.rows_in_stems_are_whole.ensures (over c.args.self.now.module.now) c.args.self.now.extent c.from-first.result c.args.self.now.k c.args.rows.now c.requires.rows (λ i l. omega (arith, c.from-first.ensures, c.saturating_sub.ensures)) c.requires.before;
  cover = c.in_ok-below.ensures;
}

pub push-requires : goal.push-requires
push-requires c =
    let m = over c.args.self.now.module.now in
    let s = c.loop-s.s in
    let lines = c.loop-s.rows in
    let fits : FitsSigned w32 c.degree-t.result = search rules in
    let at = to_z-of_z w32 c.degree-t.result fits ∙ c.degree-t.ensures in
    let within : s < length lines = omega (arith, c.loop-s-test.true, c.loop-s.invariant.count) in
    let x = a_table c.canonical_table_exists.ensures c.args.self.now.module.now c.args.self.now.extent in
    record { not_below = not_below_at c.rows_in_stems_are_whole.ensures m c.args.self.now.extent x.0 s c.args.self.now.k lines c.index-rows-s.result _ x.1 (omega (arith, within, c.loop-s.invariant.count, c.requires.rows)) c.loop-s.invariant.stem within c.loop-s.invariant.through at }

pub loop-s-preserved : goal.loop-s-preserved
loop-s-preserved c =
    let m = over c.args.self.now.module.now in
    let e = c.args.self.now.extent in
    let s = c.loop-s.s in
    let k = c.args.self.now.k in
    let lines = c.loop-s.rows in
    let content : Content = record { images = c.in_ok-made.made.images.items; kernel = c.in_ok-made.made.kernel.rows } in
    let fits : FitsSigned w32 c.degree-t.result = search rules in
    let at = to_z-of_z w32 c.degree-t.result fits ∙ c.degree-t.ensures in
    let within : s < length lines = omega (arith, c.loop-s-test.true, c.loop-s.invariant.count) in
    let row_is : s ≤ e.last = omega (arith, within, c.loop-s.invariant.count, c.requires.rows) in
    let whole = c.rows_in_stems_are_whole.ensures in
    record {
      count = length-set lines s c.push.new.self ∙ c.loop-s.invariant.count;
      stem = omega (arith, c.loop-s.invariant.stem);
      through = through_more whole m e s k lines c.index-rows-s.result c.push.new.self content _ row_is c.loop-s.invariant.stem within c.loop-s.invariant.through c.in_ok-made.ensures.square at c.in_ok-push.ensures.ok;
      cover = subst (λ x. IsToCover m e x k c.in_ok-made.made.kernel) (let next : suc s ≡ s + 1 = omega arith in next) c.in_ok-made.ensures.kernel;
    }

pub returns-clause-through : goal.returns-clause-through
returns-clause-through c = through_all (over c.args.self.now.module.now) c.args.self.now.extent c.loop-s.s c.args.self.now.k c.loop-s.rows (omega (arith, c.loop-s-test.false, c.loop-s.invariant.count)) c.loop-s.invariant.through
