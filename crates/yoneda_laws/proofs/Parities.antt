-- Parities of sums: with the coordinates from a place on, and of a combination.
use Rattle.std.proofs.Common.{◌≡◌, ℕ, zero, suc, Bool, true, false, ◌<◌, ◌&&◌, List, [], ◌∷◌, length, map, drop, refl, ap, sym, ◌∙◌, arith}
use Rattle.std.proofs.lemmas.Bool.{and_right}
use Rattle.f2_vec.specs.Vectors.{plus, sum_of, bit}
use Rattle.f2_vec.specs.Spans.{unit_vector, HaveWidth, combination}
use Rattle.f2_vec.proofs.Sums.{plus-false}
use Rattle.f2_vec.proofs.Spans.{HaveWidth-head, HaveWidth-tail, length-combination}
use Rattle.bracket_laws.specs.Brackets.{dot}
use Rattle.bracket_laws.proofs.Dots.{dot-zeros, dot-sum}
use Rattle.bracket_laws.proofs.Vectors.{dot-comm}

pub drop-sum_of : (n : ℕ) (u v : List Bool) → length u ≡ length v → drop n (sum_of u v) ≡ sum_of (drop n u) (drop n v)
drop-sum_of zero u v e = refl
drop-sum_of (suc n) [] v e = refl
drop-sum_of (suc n) (x ∷ u) [] e = absurd (omega arith)
drop-sum_of (suc n) (x ∷ u) (y ∷ v) e = drop-sum_of n u v (omega arith)

pub dot-sum_right : (a u v : List Bool) → length u ≡ length v → dot a (sum_of u v) ≡ plus (dot a u) (dot a v)
dot-sum_right a u v e = dot-comm a (sum_of u v) ∙ (dot-sum u v a e ∙ (ap (λ (z : Bool). plus z (dot v a)) (dot-comm u a) ∙ ap (plus (dot a u)) (dot-comm v a)))

-- the parity with a combination is that of the parities with its rows
pub dot-combination : (n : ℕ) (cs : List Bool) (rows : List (List Bool)) (c : List Bool) → HaveWidth n rows → dot (combination n cs rows) c ≡ dot (map (λ r. dot r c) rows) cs
dot-combination n [] [] c h = dot-zeros n c
dot-combination n [] (r ∷ rows) c h = dot-zeros n c
dot-combination n (b ∷ cs) [] c h = dot-zeros n c
dot-combination n (false ∷ cs) (r ∷ rows) c h =
    let rest = dot (map (λ r. dot r c) rows) cs in
    dot-combination n cs rows c (HaveWidth-tail n r rows h) ∙ sym (ap (λ (z : Bool). plus z rest) (and_right (dot r c) false refl))
dot-combination n (true ∷ cs) (r ∷ rows) c h =
    let t = HaveWidth-tail n r rows h in
    let e : length r ≡ length (combination n cs rows) = HaveWidth-head n r rows h ∙ sym (length-combination n cs rows t) in
    dot-sum r (combination n cs rows) c e ∙ (ap (plus (dot r c)) (dot-combination n cs rows c t) ∙ on (dot r c) (dot (map (λ r. dot r c) rows) cs))
  where
    on : (x z : Bool) → plus x z ≡ plus (x && true) z
    on true z = refl
    on false z = refl

-- that with a unit vector is a coordinate
pub dot-unit_vector : (n i : ℕ) (c : List Bool) → i < n → dot (unit_vector n i) c ≡ bit c i
dot-unit_vector zero i c l = absurd (omega arith)
dot-unit_vector (suc n) zero [] l = refl
dot-unit_vector (suc n) zero (x ∷ c) l = ap (plus x) (dot-zeros n c) ∙ plus-false x
dot-unit_vector (suc n) (suc i) [] l = refl
dot-unit_vector (suc n) (suc i) (x ∷ c) l = dot-unit_vector n i c (omega arith)
