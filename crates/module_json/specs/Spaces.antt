-- The squares on the cohomology of real projective spaces (Steenrod): on the n-th power of a class of degree 1, Sq^k is the binomial
-- of n over k. Powers below 0 are those of spaces with cells in negative dimensions.
use Rattle.std.specs.Prelude.{ℕ, ◌+◌, ℤ, pos, negsuc, ◌+ℤ◌, neg_ℤ, List, [], ◌∷◌}
use Rattle.milnor_basis.specs.Product.{choose}

-- The binomial of n over k, up to sign. For n below 0 it is that of k - n - 1 over k; n is -m - 1 there, so that is k + m.
abbrev pub binomial : ℤ → ℕ → ℕ
binomial (pos n) k = choose n k
binomial (negsuc m) k = choose (k + m) k

-- how many whole numbers lie from one to another
abbrev pub count_between : ℤ → ℤ → ℕ
count_between min max = or_none (max +ℤ pos 1 +ℤ neg_ℤ min)
  where
    or_none : ℤ → ℕ
    or_none (pos n) = n
    or_none (negsuc n) = 0
