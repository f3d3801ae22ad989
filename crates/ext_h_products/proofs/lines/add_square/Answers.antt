use Rattle.std.proofs.Common.{◌≡◌, ◌+◌, ◌++◌, ◌<◌, ℕ, Bool, [], List, length, map, w32, refl, ap, subst, ◌∙◌, arith}
use Rattle.std.specs.List.{range_with_len}
use Rattle.std.proofs.lemmas.Int.{to_z-of_z}
use Rattle.std.proofs.lemmas.List.{get_or_default}
use Rattle.std.proofs.lemmas.List.FromFn.{length-map-range_with_len, get_or-map-range_with_len}
use Rattle.f2_vec.specs.Spans.{row}
use Rattle.lift_laws.specs.Products.{count_of, first_of, on_square}
use Rattle.h_laws.specs.Products.{first_on}
use Rattle.h_products.specs.ReadOff.{resolution_in}
use Rattle.ext_products.specs.Products.{OneEach, class_at}
use Rattle.ext_products.proofs.Loops.{line-more}
use Rattle.ext_h_products.specs.RowOne.{IsLineReadOff}
use Rattle.ext_h_products.proofs.lines.add_square.Goals as goal

pub loop-i-preserved : goal.loop-i-preserved
loop-i-preserved c = λ before h.
    let r = resolution_in c.args.images.now in
    let n = c.args.n in
    let s = c.args.s in
    let above = c.args.above in
    let i = c.loop-i.i in
    let values = c.args.values.now in
    let l : i < length values = c.loop-i-test.true in
    let f : ℕ → List Bool = λ j. on_square r (s + 1) (n + above) (first_on r s (first_of r s above + j)) in
    let inside : i < count_of r s above = omega (arith, l, ap length c.requires.values, length-map-range_with_len f 0 (count_of r s above)) in
    let value : c.in_ok-try_copy.field-0 ≡ f i =
    c.in_ok-try_copy.ensures ∙ (c.index-values-i.is ∙ (get_or_default values i c.index-values-i.result [] l ∙ (ap (λ (xs : List (List Bool)). row xs i) c.requires.values ∙ get_or-map-range_with_len f 0 (count_of r s above) i i [] inside (omega arith)))) in
    line-more (IsLineReadOff r n) (class_at s above) before i c.loop-i.lines.items c.push.new.self.items _ (c.loop-i.invariant before h)
    (record {
      s = refl;
      t = to_z-of_z w32 c.degree-t.result (record { sfits = c.degree-t.type_inv }) ∙ c.degree-t.ensures;
      i = refl;
      target_s = refl;
      target_t = to_z-of_z w32 c.degree-target_t.result (record { sfits = c.degree-target_t.type_inv }) ∙ c.degree-target_t.ensures;
      product = value;
    })
    c.in_ok-push.ensures.items

pub returns : goal.returns
returns c = λ before h.
    let r = resolution_in c.args.images.now in
    let f : ℕ → List Bool = λ j. on_square r (c.args.s + 1) (c.args.n + c.args.above) (first_on r c.args.s (first_of r c.args.s c.args.above + j)) in
    let whole : c.loop-i.i ≡ count_of r c.args.s c.args.above = omega (arith, c.loop-i-test.false, ap length c.requires.values, length-map-range_with_len f 0 (count_of r c.args.s c.args.above)) in
    subst (λ (k : ℕ). OneEach (IsLineReadOff r c.args.n) (before ++ map (class_at c.args.s c.args.above) (range_with_len 0 k)) c.loop-i.lines.items) whole (c.loop-i.invariant before h)
