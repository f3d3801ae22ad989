use Rattle.std.proofs.Common.{◌≡◌, ◌<◌, true, false, length, slice_index_or, arith}
use Rattle.milnor_basis.specs.Basis.{basis_of}
use Rattle.milnor_basis.proofs.Places.{degree_of-read}
use Rattle.milnor_product.proofs.ProductSteps.{length-partial, length-product_bits, partial-more}
use Rattle.milnor_product.proofs.products.times.Goals as goal
use Rattle.milnor_product.proofs.products.times.Goals.{then-get+in_ok-product, else-get}

pub product-requires : goal.product-requires
product-requires c =
    let d = degree_of-read c.args.deg c.loop-i.i c.of_degree-s-items.result.now c.s-item.result c.of_degree-s-items.ensures c.loop-i-test.true c.s-item.is in
    omega arith

pub xor_with-requires : goal.xor_with-requires
xor_with-requires c =
    let d = degree_of-read c.args.deg c.loop-i.i c.of_degree-s-items.result.now c.s-item.result c.of_degree-s-items.ensures c.loop-i-test.true c.s-item.is in
    cc (c.loop-i.invariant, c.in_ok-product.ensures, length-partial c.args.r.now c.args.deg c.args.v.now c.loop-i.i, length-product_bits c.args.r.now c.s-item.result c.args.deg d)

pub loop-i-preserved : goal.loop-i-preserved
loop-i-preserved c =
    let r = c.args.r.now in
    let n = c.args.deg in
    let v = c.args.v.now in
    let i = c.loop-i.i in
    let x = c.s-item.result in
    let k : i < length (basis_of n) = rw c.of_degree-s-items.ensures at c.loop-i-test.true in
    let is : x ≡ slice_index_or (basis_of n) i x = rw c.of_degree-s-items.ensures at c.s-item.is in
    let l : i < length v = omega arith in
    elim c.if-get.branch [
      | then-get+in_ok-product w ↦
          let b : slice_index_or v i false ≡ true = cc in
          cc (w.in_ok-product.ensures, c.loop-i.invariant, partial-more r n v i true x l k b is)
      | else-get w ↦
          let b : slice_index_or v i false ≡ false = cc in
          cc (c.loop-i.invariant, partial-more r n v i false x l k b is)
    ]
