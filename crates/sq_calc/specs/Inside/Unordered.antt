-- A sum of admissible monomials before it is put in order.
use Rattle.std.specs.Prelude.{◌≡◌, ℕ, ◌≤◌, Bool, List, nat_eq}
use Rattle.std.specs.Cmp.Lexicographic.{pointwise}
use Rattle.std.specs.List.{All, count_by, sum}
use Rattle.adem_laws.specs.Admissible.{IsAdmissible, sum_of_values}

-- admissible monomials of degree n, each once, whose values have v as their sum
pub record IsUnorderedForm (n : ℕ) (v : List Bool) (monomials : List (List ℕ)) : Type 0 where
  pub admissible : All (λ m. IsAdmissible m × (sum m ≡ n)) monomials
  pub once : (m : List ℕ) → count_by (pointwise nat_eq m) monomials ≤ 1
  pub sum_is : sum_of_values n monomials ≡ v
