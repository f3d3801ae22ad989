-- Operators whose values have the widths of their degrees: what follows of the values of vectors and of sums.
use Rattle.std.proofs.Common.{◌≡◌, ℕ, ◌+◌, ℤ, pos, ◌+ℤ◌, Bool, true, List, [], ◌∷◌, length, map, All, ap, ◌∙◌, arith}
use Rattle.std.proofs.lemmas.List.Elements.{All-filter}
use Rattle.f2_vec.specs.Spans.{HaveWidth}
use Rattle.f2_vec.proofs.Spans.{length-combination}
use Rattle.f2_vec.proofs.Combinations.{HaveWidth-map_where}
use Rattle.milnor_basis.specs.Exponents.{degree_of, IsTrimmed}
use Rattle.milnor_basis.specs.Basis.{basis_of}
use Rattle.milnor_basis.specs.Product.{coefficient, product_terms}
use Rattle.milnor_basis.proofs.BasisLemmas.{All-basis_of}
use Rattle.module_spec.specs.Spec.{Generator, degree_at}
use Rattle.finite_module.specs.Module.{generators_in, width, value, act_on, total}
use Rattle.finite_module.specs.Operators.{HaveWidths}
use Rattle.finite_module.proofs.AboveSpan.{generators_of_degree}

pub length-total : (n : ℕ) (rows : List (List Bool)) → HaveWidth n rows → length (total n rows) ≡ n
length-total n rows h = length-combination n (map (λ row. true) rows) rows h

-- the value of a vector of degree t is of the width of its degree
pub length-act_on : (gs : List Generator) (operators : List (List (List Bool))) (r : List ℕ) (t : ℤ) (v : List Bool) → HaveWidths gs operators → length (act_on gs operators r t v) ≡ width gs (t +ℤ pos (degree_of r))
length-act_on gs operators r t v h =
    length-combination (width gs (t +ℤ pos (degree_of r))) v (map (value gs operators r) (generators_in gs t))
    (HaveWidth-map_where (λ j. degree_at gs j ≡ t) (width gs (t +ℤ pos (degree_of r))) (value gs operators r) (generators_in gs t)
    (λ j at. h r j ∙ ap (λ d. width gs (d +ℤ pos (degree_of r))) at) (generators_of_degree gs t))

pub degree_of-single : (n : ℕ) → degree_of (n ∷ []) ≡ n
degree_of-single n = omega arith

-- the terms of a product are of its degree
pub terms_of_degree : (r s : List ℕ) → All (λ t. IsTrimmed t × (degree_of t ≡ degree_of r + degree_of s)) (product_terms r s)
terms_of_degree r s =
    All-filter (coefficient r s) (λ t. IsTrimmed t × (degree_of t ≡ degree_of r + degree_of s)) (basis_of (degree_of r + degree_of s)) (All-basis_of (degree_of r + degree_of s))
