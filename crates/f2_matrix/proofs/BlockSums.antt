-- Sums of the rows of a block, row after row.
use Rattle.std.proofs.Common.{◌≡◌, ℕ, ◌+◌, ◌*◌, ◌/◌, ◌%◌, ◌<◌, Bool, true, false, cond, List, length, take, get_or, refl, ap, sym, ◌∙◌, arith}
use Rattle.f2_vec.specs.Vectors.{plus, sum_of, bit}
use Rattle.f2_vec.specs.Spans.{row, HaveWidth, combination}
use Rattle.f2_vec.proofs.Sums.{bit-sum_of, plus-assoc, plus-false, sum_of-assoc}
use Rattle.f2_vec.proofs.Spans.{length-combination}
use Rattle.f2_vec.proofs.Combinations.{HaveWidth-take, combination_more}

pub odd_is : (b : Bool) (m x : ℕ) → x ≡ cond b 1 0 + 2 * m → (x % 2 ≡ cond b 1 0) × (x / 2 ≡ m)
odd_is true m x e = (omega arith, omega arith)
odd_is false m x e = (omega arith, omega arith)

bit_if : (b : Bool) (n col : ℕ) (u r : List Bool) → length u ≡ n → length r ≡ n → bit (cond b (sum_of u r) u) col ≡ plus (bit u col) (cond b (bit r col) false)
bit_if true n col u r e f = bit-sum_of u r col (e ∙ sym f)
bit_if false n col u r e f = sym (plus-false (bit u col))

-- the coordinate so far, with one row more
pub bit_more : (n j col : ℕ) (x y : Bool) (c : List Bool) (b : List (List Bool)) → HaveWidth n b → j < length c → j < length b → y ≡ plus x (bit (combination n (take j c) (take j b)) col) → plus y (cond (get_or c j false) (bit (row b j) col) false) ≡ plus x (bit (combination n (take (j + 1) c) (take (j + 1) b)) col)
bit_more n j col x y c b w h l e =
    let u = combination n (take j c) (take j b) in
    let lu : length u ≡ n = length-combination n (take j c) (take j b) (HaveWidth-take n j b w) in
    let z = cond (get_or c j false) (bit (row b j) col) false in
    ap (λ t. plus t z) e
    ∙ plus-assoc x (bit u col) z
    ∙ ap (plus x) (sym (ap (λ v. bit v col) (combination_more n j c b w h l) ∙ bit_if (get_or c j false) n col u (row b j) lu (w j l)))

sum_if : (b : Bool) (v u r : List Bool) → cond b (sum_of (sum_of v u) r) (sum_of v u) ≡ sum_of v (cond b (sum_of u r) u)
sum_if true v u r = sum_of-assoc v u r
sum_if false v u r = refl

-- the row so far, with one row more
pub row_more : (n j : ℕ) (v now new c : List Bool) (b : List (List Bool)) → HaveWidth n b → j < length c → j < length b → now ≡ sum_of v (combination n (take j c) (take j b)) → new ≡ cond (get_or c j false) (sum_of now (row b j)) now → new ≡ sum_of v (combination n (take (j + 1) c) (take (j + 1) b))
row_more n j v now new c b w h l e f =
    let u = combination n (take j c) (take j b) in
    f ∙ ap (λ x. cond (get_or c j false) (sum_of x (row b j)) x) e ∙ sum_if (get_or c j false) v u (row b j) ∙ ap (sum_of v) (sym (combination_more n j c b w h l))
