-- The numbers of sums: their binary digits are the coefficients.
use Rattle.std.specs.Simd.Lanes.{mask_l}
use Rattle.std.proofs.Common.{◌≡◌, ℕ, zero, suc, ◌+◌, ◌*◌, ◌^◌, ◌<◌, ◌≤◌, Bool, true, false, cond, List, [], ◌∷◌, ◌++◌, length, map, take, drop, get_or, refl, ap, ◌∙◌, arith}
use Rattle.std.proofs.lemmas.List.{take_more, drop_more, length-take-le, length-map}
use Rattle.std.proofs.lemmas.Simd.{mask_l-lt}
use Rattle.std.proofs.Math.Nat.{pow-suc, pow-le-pow_right}
use Rattle.f2_vec.specs.Vectors.{zeros, bit}
use Rattle.f2_vec.specs.Spans.{unit_vector}

pub mask_l-push : (ms : List Bool) (b : Bool) → mask_l (ms ++ b ∷ []) ≡ mask_l ms + cond b (2 ^ length ms) 0
mask_l-push [] true = refl
mask_l-push [] false = refl
mask_l-push (m ∷ ms) true =
    let ih : mask_l (ms ++ true ∷ []) ≡ mask_l ms + 2 ^ length ms = mask_l-push ms true in
    let p : 2 ^ suc (length ms) ≡ 2 ^ length ms * 2 = pow-suc 2 (length ms) in
    omega arith
mask_l-push (m ∷ ms) false = let ih : mask_l (ms ++ false ∷ []) ≡ mask_l ms + 0 = mask_l-push ms false in omega arith

-- the number of the first coefficients, one more
pub mask_l-more : (c : List Bool) (i : ℕ) → i < length c → mask_l (take (i + 1) c) ≡ mask_l (take i c) + cond (get_or c i false) (2 ^ i) 0
mask_l-more c i h =
    ap mask_l (take_more c i false h) ∙ mask_l-push (take i c) (get_or c i false) ∙ ap (λ k. mask_l (take i c) + cond (get_or c i false) (2 ^ k) 0) (length-take-le i c (omega arith))

-- the lowest bit of the number of those from place i on
pub mask_l-drop : (c : List Bool) (i : ℕ) → i < length c → mask_l (drop i c) ≡ cond (get_or c i false) 1 0 + 2 * mask_l (drop (i + 1) c)
mask_l-drop c i h = ap mask_l (drop_more c i false h)

pub mask_l-zeros : (m : ℕ) → mask_l (zeros m) ≡ 0
mask_l-zeros zero = refl
mask_l-zeros (suc m) = let ih : mask_l (zeros m) ≡ 0 = mask_l-zeros m in omega arith

-- the number of the sum of one row alone
pub mask_l-unit : (n i : ℕ) → i < n → mask_l (unit_vector n i) ≡ 2 ^ i
mask_l-unit zero i l = absurd (omega arith)
mask_l-unit (suc n) zero l = let z : mask_l (zeros n) ≡ 0 = mask_l-zeros n in omega (arith, z)
mask_l-unit (suc n) (suc i) l = let ih : mask_l (unit_vector n i) ≡ 2 ^ i = mask_l-unit n i (omega arith) in omega (arith, ih, pow-suc 2 i)

pub few_sums : (m : ℕ) (v : List Bool) (ps : List ℕ) → length ps ≤ m → mask_l (map (bit v) ps) < 2 ^ m
few_sums m v ps h =
    let e : length (map (bit v) ps) ≡ length ps = length-map ps (bit v) in
    let b : mask_l (map (bit v) ps) < 2 ^ length (map (bit v) ps) = mask_l-lt (map (bit v) ps) in
    let q : length (map (bit v) ps) ≤ m = omega arith in
    let z : 0 < 2 = omega arith in
    let p : 2 ^ length (map (bit v) ps) ≤ 2 ^ m = pow-le-pow_right z q in
    omega arith
