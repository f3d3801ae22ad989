use Rattle.std.proofs.Common.{◌≡◌, ℕ, ◌+◌, ◌-◌, ◌*◌, ◌^◌, ◌%◌, length, refl, ap, ◌∙◌, arith}
use Rattle.std.proofs.lemmas.Nat.{one_shl}
use Rattle.milnor_basis.specs.Basis.{lists_of}
use Rattle.milnor_basis.proofs.PlacesLeft.{fewer_lists}
use Rattle.milnor_basis.proofs.counts.Counts.counted.Goals as goal

pub overflow_sub-passed : goal.overflow_sub-passed
overflow_sub-passed c =
    let k = c.args.k in
    let m = c.args.rest.degree in
    let e = c.args.exponent in
    let below : ℕ = m - e * (2 ^ k - 1) in
    let weight : 1 * 2 ^ k % 2 ^ 16 ≡ 2 ^ k = one_shl k 16 (omega arith) in
    let second : c.of-2.result ≡ length (lists_of k below) = c.of-2.ensures ∙ ap (λ n. length (lists_of k (m - e * (n - 1)))) weight in
    let is : m ≡ below + e * (2 ^ k - 1) = omega (arith, c.requires.fits) in
    let fewer = fewer_lists k m below e 0 (0 + (length (lists_of k m) - length (lists_of k below))) c.requires.some is refl in
    omega (arith, c.of.ensures)
