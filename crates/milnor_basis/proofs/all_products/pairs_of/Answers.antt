-- There is no pair at first, so that those at the end are the pairs of the products.
use Rattle.std.proofs.Common.{◌≡◌, ◌≤◌, ◌<◌, ◌+◌, ◌-◌, ◌*◌, ◌/◌, ◌^◌, inl, inr, ℕ, List, [], length, replicate, take, drop, slice_index, slice_index_or, refl, ap, sym, ◌∙◌, rules, subst, arith}
use Rattle.std.proofs.lemmas.Bool.{cases_lt}
use Rattle.std.proofs.lemmas.List.{get_or-drop, get_or-replicate, get_or_past}
use Rattle.milnor_basis.specs.Basis.{lists_of, basis_of}
use Rattle.milnor_basis.specs.Product.{ArePairs}
use Rattle.milnor_basis.specs.Inside.Walk.{no_sums}
use Rattle.milnor_basis.specs.Inside.FreeRows.{IsFree, IsInRow, IsTurnedOver, leads_to, element}
use Rattle.milnor_basis.specs.Exponents.{degree_of}
use Rattle.milnor_basis.proofs.PlacesLeft.{none_chosen, no_fewer, all_of_nine}
use Rattle.milnor_basis.proofs.RowPlaces.{nothing_taken}
use Rattle.milnor_basis.proofs.Weights.{start_weight}
use Rattle.milnor_basis.proofs.FreeTable.{all_free, pairs_are}
use Rattle.milnor_basis.proofs.all_products.pairs_of.Goals as goal

-- nothing is filled yet
row_blank : (degree h : ℕ) → 0 < h → h ≤ 8 → IsInRow degree h 0 degree 0 (replicate 8 0)
row_blank degree h some few = record {
  high = refl;
  own = zeros (h - 1);
  blank = λ i l. zeros i;
  placed = none_chosen degree h (drop h (replicate 8 0)) (λ i. get_or-drop h (replicate 8 0) i 0 ∙ zeros (h + i));
}
  where
    zeros : (i : ℕ) → slice_index (replicate 8 0) i ≡ 0
    zeros i = elim (cases_lt i 8) [
      | inl l ↦ get_or-replicate {A = ℕ} 8 i 0 0 l
      | inr m ↦ get_or_past (replicate {A = ℕ} 8 0) i 0 m
    ]

-- the first list of the degree begins the basis
fits_basis : (degree h : ℕ) → degree ≤ 255 → h ≤ 8 → 0 + length (lists_of h degree) ≤ length (basis_of degree)
fits_basis degree h small few =
    let nine : 9 - h + h ≡ 9 = omega arith in
    let more : length (lists_of h degree) ≤ length (lists_of 9 degree) = subst (λ k. length (lists_of h degree) ≤ length (lists_of k degree)) nine (no_fewer (9 - h) h degree) in
    omega (arith, all_of_nine degree small)

-- all of the degree is left
all_left : (row sum below degree : ℕ) → sum ≡ 0 → below ≡ degree → below - sum * (2 ^ row - 1) ≡ degree
all_left row sum below degree none all = ap (λ n. below - n * (2 ^ row - 1)) none ∙ nothing_taken below (2 ^ row - 1) ∙ all

pub fill_all-requires : goal.fill_all-requires
fill_all-requires c =
    let s : List ℕ = c.args.s.now in
    let h : ℕ = c.greatest_len-height.result in
    let own = c.begun.result in
    let degree : ℕ = c.args.degree in
    let b = c.begun.ensures in
    let is_left : own.left.degree ≡ degree = ap (λ r. r.degree) b.left in
    let is_place : own.left.place ≡ 0 = ap (λ r. r.place) b.left in
    let room : own.left.degree - own.sum * (2 ^ h - 1) ≡ degree = all_left h own.sum own.left.degree degree b.sum is_left in
    let below : own.left.degree ≤ degree = omega arith in
    let fits : own.sum * (2 ^ h - 1) ≤ own.left.degree = subst (λ n. n * (2 ^ h - 1) ≤ own.left.degree) (sym b.sum) (omega arith) in
    let most : own.most ≡ (own.left.degree - own.sum * (2 ^ h - 1)) / (2 ^ h - 1) = b.most ∙ ap (λ n. n / (2 ^ h - 1)) (sym room) in
    let small : degree ≤ 255 = omega (arith, c.degree_of_products-product.ensures.sum, c.degree_of_products-product.ensures.small) in
    let lists : length (lists_of h own.left.degree) ≡ length (lists_of h degree) = ap (λ n. length (lists_of h n)) is_left in
    let place : own.left.place + length (lists_of h own.left.degree) ≤ length (basis_of degree) = omega (arith, fits_basis degree h small c.greatest_len-height.ensures.few) in
    let start = start_weight degree s c.of-open.result.columns c.of-open.result.diagonals c.len.ensures.short (search rules) c.of-open.ensures.columns c.of-open.ensures.diagonals in
    let taken : degree_of (take c.len.result c.of-open.result.columns) ≡ degree_of (take (length s) c.of-open.result.columns) = ap (λ n. degree_of (take n c.of-open.result.columns)) c.len.ensures.length in
    let weight : degree_of c.of-open.result.diagonals + (degree_of (take c.len.result c.of-open.result.columns) + (own.left.degree - own.sum * (2 ^ h - 1))) ≡ c.degree_of_products-product.result = omega (arith, c.degree_of_products-product.ensures.sum) in
    search rules

pub returns : goal.returns
returns c =
    let s : List ℕ = c.args.s.now in
    let degree : ℕ = c.args.degree in
    let product : ℕ = c.degree_of_products-product.result in
    let h : ℕ = c.greatest_len-height.result in
    let pairs : List (ℕ × ℕ) = c.fill_all.new.pairs.items in
    let own = c.begun.result in
    let columns : List ℕ = c.of-open.result.columns in
    let diagonals : List ℕ = c.of-open.result.diagonals in
    let start : IsFree degree s h (length s) degree (replicate 8 0) columns diagonals no_sums = all_free degree h s columns diagonals c.of-open.ensures.columns c.of-open.ensures.diagonals c.greatest_len-height.ensures.some c.len.ensures.short in
    let room : own.left.degree - own.sum * (2 ^ h - 1) ≡ degree = all_left h own.sum own.left.degree degree c.begun.ensures.sum (ap (λ r. r.degree) c.begun.ensures.left) in
    let with_room : IsFree degree s h (length s) (own.left.degree - own.sum * (2 ^ h - 1)) (replicate 8 0) columns diagonals no_sums = subst (λ (n : ℕ). IsFree degree s h (length s) n (replicate 8 0) columns diagonals no_sums) (sym room) start in
    let free : IsFree degree s h c.len-2.result (own.left.degree - own.sum * (2 ^ h - 1)) (replicate 8 0) columns diagonals no_sums = subst (λ (n : ℕ). IsFree degree s h n (own.left.degree - own.sum * (2 ^ h - 1)) (replicate 8 0) columns diagonals no_sums) (sym c.len-2.ensures.length) with_room in
    let blank : IsInRow degree h own.sum own.left.degree own.left.place (replicate 8 0) =
    subst (λ (n : ℕ). IsInRow degree h n own.left.degree own.left.place (replicate 8 0)) (sym c.begun.ensures.sum)
    (subst (λ (n : ℕ). IsInRow degree h 0 n own.left.place (replicate 8 0)) (sym (ap (λ r. r.degree) c.begun.ensures.left))
    (subst (λ (n : ℕ). IsInRow degree h 0 degree n (replicate 8 0)) (sym (ap (λ r. r.place) c.begun.ensures.left))
    (row_blank degree h c.greatest_len-height.ensures.some c.greatest_len-height.ensures.few)))
    in
    let turned : IsTurnedOver degree product (leads_to degree product s h (length s) no_sums) c.new-pairs.result.items pairs =
    subst (λ (n : ℕ). IsTurnedOver degree product (leads_to degree product s h n no_sums) c.new-pairs.result.items pairs) c.len-2.ensures.length (c.in_ok-fill_all.ensures.turned (replicate 8 0) blank s no_sums c.len.ensures.length c.len.ensures.short free)
    in
    let from_none : IsTurnedOver degree product (leads_to degree product s h (length s) no_sums) [] pairs =
    subst (λ (xs : List (ℕ × ℕ)). IsTurnedOver degree product (leads_to degree product s h (length s) no_sums) xs pairs) c.new-pairs.ensures.items turned
    in
    let low : (p : ℕ) → p < length (basis_of degree) → length (element degree p) ≤ h =
    λ p l. subst (λ (xs : List (List ℕ)). length (slice_index_or xs p []) ≤ h) c.of_degree-elements.ensures (c.greatest_len-height.ensures.longest p (subst (λ (xs : List (List ℕ)). p < length xs) (sym c.of_degree-elements.ensures) l))
    in
    let have : ArePairs degree s pairs =
    pairs_are degree product h s pairs (omega (arith, c.degree_of_products-product.ensures.sum, c.degree_of_products-product.ensures.small)) c.degree_of_products-product.ensures.sum c.in_ok-fill_all.ensures.within low c.greatest_len-height.ensures.few from_none
    in
    subst (λ (xs : List (ℕ × ℕ)). ArePairs degree s xs) (sym c.shrink_to_fit.ensures.items) have
