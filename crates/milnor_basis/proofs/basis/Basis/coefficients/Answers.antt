use Rattle.std.proofs.Common.{◌≡◌, ◌+◌, ℕ, List, Bool, false, Some, slice_get, slice_index_or, [], length, arith, ap, sym, subst, ◌∙◌}
use Rattle.std.proofs.lemmas.Option.{slice_get_within, get_or_from_slice_get}
use Rattle.f2_vec.specs.Vectors.{bit}
use Rattle.f2_vec.proofs.Sums.{length-zeros, bit-zeros}
use Rattle.milnor_basis.specs.Basis.{basis_of}
use Rattle.milnor_basis.specs.Exponents.{degree_of}
use Rattle.milnor_basis.specs.Product.{ArePairs, Factors}
use Rattle.milnor_basis.proofs.Pairs.{product_turned}
use Rattle.milnor_basis.proofs.basis.Basis.coefficients.Goals as goal

pub turn_over-requires : goal.turn_over-requires
turn_over-requires c = λ k d l.
    let are : ArePairs c.in-Some.left c.args.s.now c.pairs.result.now = subst (λ (f : Factors). ArePairs f.degree f.right c.pairs.result.now) c.in_ok-multiples.ensures c.pairs.ensures in
    let n : ℕ = length c.of_degree.result.now in
    let count : length c.in_ok-bits.bits ≡ n = ap length c.in_ok-bits.ensures ∙ length-zeros n in
    let sum : c.product_degree-degree.result ≡ c.in-Some.left + degree_of c.args.s.now = omega (arith, c.product_degree-degree.ensures.sum, c.in-Some.ensures.degree) in
    let whole : n ≡ length (basis_of (c.in-Some.left + degree_of c.args.s.now)) = ap length c.of_degree.ensures ∙ ap (λ m. length (basis_of m)) sum in
    omega (arith, (are.within k d l).1)

pub returns : goal.returns
returns c =
    let r : List ℕ = c.args.r.now in
    let s : List ℕ = c.args.s.now in
    let left : ℕ = c.in-Some.left in
    let place : ℕ = c.in-Some.place in
    let are : ArePairs left s c.pairs.result.now = subst (λ (f : Factors). ArePairs f.degree f.right c.pairs.result.now) c.in_ok-multiples.ensures c.pairs.ensures in
    let at : slice_get (basis_of left) place ≡ Some r = c.in-Some.ensures.place in
    let n : ℕ = length c.of_degree.result.now in
    let before : List Bool = c.in_ok-bits.bits in
    let long : length c.turn_over.new.bits ≡ length (basis_of c.product_degree-degree.result) = c.turn_over.ensures.size ∙ ap length c.in_ok-bits.ensures ∙ length-zeros n ∙ ap length c.of_degree.ensures in
    let clear : (k : ℕ) → bit before k ≡ false = λ k. ap (λ xs. slice_index_or xs k false) c.in_ok-bits.ensures ∙ bit-zeros n k in
    product_turned left place c.product_degree-degree.result r s c.pairs.result.now before c.turn_over.new.bits are c.product_degree-degree.ensures.sum (sym c.in-Some.ensures.degree) (slice_get_within (basis_of left) place r at) (get_or_from_slice_get (basis_of left) place r [] at)
    long clear c.turn_over.ensures.turned
