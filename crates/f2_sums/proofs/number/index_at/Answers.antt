use Rattle.std.specs.Simd.Lanes.{mask_l}
use Rattle.std.proofs.Common.{◌≡◌, ◌<◌, ◌≤◌, ◌+◌, ◌-◌, ◌*◌, ◌^◌, ℕ, Bool, true, false, cond, List, map, drop, length, get_or, ap, sym, ◌∙◌, arith}
use Rattle.std.proofs.lemmas.List.{length-map, get_or-map, length-drop, drop_all}
use Rattle.std.proofs.lemmas.Simd.{mask_l-lt}
use Rattle.std.proofs.Math.Nat.{pow-le-pow_right}
use Rattle.f2_vec.specs.Vectors.{bit}
use Rattle.f2_sums.proofs.Numbers.{mask_l-drop}
use Rattle.f2_sums.proofs.number.index_at.Goals as goal

few_bits : (ms : List Bool) (j : ℕ) → length ms ≤ 32 → mask_l (drop j ms) < 2 ^ 32
few_bits ms j h =
    let b : mask_l (drop j ms) < 2 ^ length (drop j ms) = mask_l-lt (drop j ms) in
    let q : length (drop j ms) ≤ 32 = omega (arith, length-drop j ms) in
    let z : 0 < 2 = omega arith in
    let p : 2 ^ length (drop j ms) ≤ 2 ^ 32 = pow-le-pow_right z q in
    omega arith

-- the number with the bit before it
next : (v : List Bool) (ps : List ℕ) (j index x : ℕ) → 0 < j → j ≤ length ps → index ≡ mask_l (drop j (map (bit v) ps)) → x ≡ cond (bit v (get_or ps (j - 1) 0)) 1 0 → index * 2 + x ≡ mask_l (drop (j - 1) (map (bit v) ps))
next v ps j index x p h e f =
    let ms = map (bit v) ps in
    let i = j - 1 in
    let l : i < length ms = omega (arith, length-map ps (bit v)) in
    let here : bit v (get_or ps i 0) ≡ get_or ms i false = sym (get_or-map (bit v) ps i 0 false (omega arith)) in
    let up : index ≡ mask_l (drop (i + 1) ms) = e ∙ ap (λ k. mask_l (drop k ms)) (omega arith) in
    let one : x ≡ cond (get_or ms i false) 1 0 = f ∙ ap (λ t. cond t 1 0) here in
    let d = mask_l-drop ms i l in
    omega (arith, d, up, one)

pub loop-j-init : goal.loop-j-init
loop-j-init c = record {
  within = omega arith;
  index = sym (ap mask_l (drop_all (length c.args.places.now) (map (bit c.args.row.now) c.args.places.now) (omega (arith, length-map c.args.places.now (bit c.args.row.now)))));
}

pub overflow_mul-index : goal.overflow_mul-index
overflow_mul-index c =
    let b = few_bits (map (bit c.args.row.now) c.args.places.now) c.loop-j.j (omega (arith, length-map c.args.places.now (bit c.args.row.now), c.requires.few)) in
    omega (arith, b, c.loop-j.invariant.index)

digit : (b : Bool) (x : ℕ) → x ≡ cond b 1 0 → x < 2
digit true x e = omega arith
digit false x e = omega arith

pub overflow_add-index : goal.overflow_add-index
overflow_add-index c =
    let d : c.get_number.result < 2 = digit _ c.get_number.result c.get_number.ensures in
    let b = few_bits (map (bit c.args.row.now) c.args.places.now) c.loop-j.j (omega (arith, length-map c.args.places.now (bit c.args.row.now), c.requires.few)) in
    omega (arith, d, b, c.loop-j.invariant.index)

pub loop-j-preserved : goal.loop-j-preserved
loop-j-preserved c = record {
  within = omega (arith, c.loop-j.invariant.within);
  index = next c.args.row.now c.args.places.now c.loop-j.j c.loop-j.index c.get_number.result c.loop-j-test.true c.loop-j.invariant.within c.loop-j.invariant.index c.get_number.ensures;
}
