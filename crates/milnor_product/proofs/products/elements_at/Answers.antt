use Rattle.std.proofs.Common.{arith}
use Rattle.std.proofs.lemmas.Int.{ints}
use Rattle.milnor_product.proofs.Multiples.{basis_at-negative}
use Rattle.milnor_product.proofs.products.elements_at.Goals as goal

pub returns-in-Err : goal.returns-in-Err
returns-in-Err c = basis_at-negative c.args.n (grind (arith, ints))
