-- Values of a map: their lengths, and when two are equal.
use Rattle.std.proofs.Common.{◌≡◌, ℕ, ℤ, Bool, List, length, sym, ◌∙◌, ap}
use Rattle.f2_vec.specs.Vectors.{bit, sum_of, zeros, IsZero}
use Rattle.f2_vec.proofs.Sums.{length-sum_of, bit-zeros, sum_of-zeros_left, sum_of-self, sum_of-cancel_right, zeros_from_bits}
use Rattle.f2_vec.proofs.Spans.{length-combination}
use Rattle.free_module.specs.Graded.{GradedModule, KeepsWidths}
use Rattle.free_module.specs.LinearMap.{AreImages, map_rows, mapped}
use Rattle.free_module.proofs.MapRows.{HaveWidth-map_rows}

pub length-mapped : (target : GradedModule) (degrees : List ℤ) (images : List (List Bool)) (t : ℤ) (v : List Bool) → KeepsWidths target → AreImages target degrees images → length (mapped target degrees images t v) ≡ target.width t
length-mapped target degrees images t v keeps are = length-combination (target.width t) v (map_rows target degrees images t) (HaveWidth-map_rows target degrees images t keeps are)

-- two vectors whose sum is zero are equal, and the other way round
pub same_from_sum : (n : ℕ) (u v : List Bool) → length u ≡ n → length v ≡ n → IsZero (sum_of u v) → u ≡ v
same_from_sum n u v lu lv z =
    let none : sum_of u v ≡ zeros n = zeros_from_bits n (sum_of u v) (length-sum_of u v (lu ∙ sym lv) ∙ lu) z in
    sym (sum_of-cancel_right n u v lu lv) ∙ ap (λ x. sum_of x v) none ∙ sum_of-zeros_left n v lv

pub sum_of_same : (n : ℕ) (u v : List Bool) → length u ≡ n → u ≡ v → IsZero (sum_of u v)
sum_of_same n u v lu e = λ k. ap (λ x. bit (sum_of u x) k) (sym e) ∙ ap (λ x. bit x k) (sum_of-self n u lu) ∙ bit-zeros n k
