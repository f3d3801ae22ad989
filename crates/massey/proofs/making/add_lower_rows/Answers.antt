use Rattle.std.proofs.Common.{◌≡◌, ℕ, ◌+◌, ◌-◌, Bool, List, [], ◌∷◌, ◌++◌, length, map, append_assoc, ap, sym, subst, ◌∙◌, arith}
use Rattle.std.specs.List.{range_with_len}
use Rattle.std.proofs.lemmas.List.FromFn.{map-range_with_len_more}
use Rattle.lift_laws.specs.Products.{count_of}
use Rattle.chain_map.specs.Lifting.{resolution_of}
use Rattle.massey.specs.Inside.{lower_product, above_ab}
use Rattle.massey.proofs.making.add_lower_rows.Goals as goal

pub loop-i-preserved : goal.loop-i-preserved
loop-i-preserved c =
    let l = (c.args.setting.now.places.b.s + c.args.setting.now.places.a.s) - 1 in
    let f : ℕ → List Bool = lower_product c.args.setting.now.table.now c.args.setting.now.sphere.now c.args.setting.now.places c.args.gamma.now l in
    let before = map f (range_with_len 0 c.loop-i.i) in
    c.in_ok-push.ensures.items
    ∙ (ap (λ (v : List Bool). c.loop-i.rows.items ++ v ∷ []) c.in_ok-lower_row.ensures
    ∙ (ap (λ (z : List (List Bool)). z ++ f c.loop-i.i ∷ []) c.loop-i.invariant
    ∙ (append_assoc c.args.rows.now.items before (f c.loop-i.i ∷ []) ∙ ap (λ (z : List (List Bool)). c.args.rows.now.items ++ z) (sym (map-range_with_len_more f 0 c.loop-i.i c.loop-i.i (omega arith))))))

pub lower_row-requires-clause-row : goal.lower_row-requires-clause-row
lower_row-requires-clause-row c = let a = c.requires.lifts.a_row in omega arith

pub lower_row-requires-clause-class : goal.lower_row-requires-clause-class
lower_row-requires-clause-class c =
    let e : length c.images_of-i-end.result.now ≡ count_of (resolution_of c.args.setting.now.sphere.now) ((c.args.setting.now.places.b.s + c.args.setting.now.places.a.s) - 1) (above_ab c.args.setting.now.places) = ap length c.images_of-i-end.ensures.images ∙ ap (count_of (resolution_of c.args.setting.now.sphere.now) ((c.args.setting.now.places.b.s + c.args.setting.now.places.a.s) - 1)) c.above_ab.ensures in
    omega arith

pub returns : goal.returns
returns c = λ l e.
    let low = (c.args.setting.now.places.b.s + c.args.setting.now.places.a.s) - 1 in
    let count : length c.images_of-i-end.result.now ≡ count_of (resolution_of c.args.setting.now.sphere.now) low (above_ab c.args.setting.now.places) = ap length c.images_of-i-end.ensures.images ∙ ap (count_of (resolution_of c.args.setting.now.sphere.now) low) c.above_ab.ensures in
    let all : c.loop-i.i ≡ count_of (resolution_of c.args.setting.now.sphere.now) low (above_ab c.args.setting.now.places) = omega arith in
    let same : low ≡ l = omega arith in
    subst (λ (k : ℕ). c.loop-i.rows.items ≡ c.args.rows.now.items ++ map (lower_product c.args.setting.now.table.now c.args.setting.now.sphere.now c.args.setting.now.places c.args.gamma.now k) (range_with_len 0 (count_of (resolution_of c.args.setting.now.sphere.now) k (above_ab c.args.setting.now.places)))) same
    (c.loop-i.invariant ∙ ap (λ (k : ℕ). c.args.rows.now.items ++ map (lower_product c.args.setting.now.table.now c.args.setting.now.sphere.now c.args.setting.now.places c.args.gamma.now low) (range_with_len 0 k)) all)
