use Rattle.std.proofs.Common.{◌≡◌, ◌+◌, length, map, take}
use Rattle.f2_vec.specs.Spans.{combination}
use Rattle.milnor_basis.specs.Basis.{basis_of}
use Rattle.milnor_basis.specs.Exponents.{degree_of}
use Rattle.milnor_basis.specs.Product.{product_bits}
use Rattle.milnor_product.proofs.products.times.Given as goal

abbrev pub invariant-loop-i : goal.invariant-loop-i
invariant-loop-i l =
    l.sum ≡ combination (length (basis_of (l.deg + degree_of l.r))) (take l.i l.v) (take l.i (map (product_bits l.r) (basis_of l.deg)))
