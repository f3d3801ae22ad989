-- Rows to which pairs of places are added, one after the other.
use Rattle.std.proofs.Common.{◌≡◌, ◌≢◌, ℕ, ◌+◌, ◌-◌, ◌<◌, ◌≤◌, Bool, true, false, ◌&&◌, nat_eq, List, [], length, map, set, take, get_or, get_or-set_same, get_or-set_other, length-set, refl, ap, sym, subst, ◌∙◌, arith, inl, inr}
use Rattle.std.proofs.lemmas.Bool.{cases_lt, cases_eq, eq-eqb, ne_eqb}
use Rattle.std.proofs.lemmas.List.{ext_get_or, get_or-map, get_or_past, take_all}
use Rattle.f2_vec.specs.Vectors.{plus, bit, sum_of, placed}
use Rattle.f2_vec.specs.Spans.{row, unit_vector}
use Rattle.f2_vec.proofs.Sums.{length-sum_of, bit-sum_of, plus-comm, plus-false, plus-assoc}
use Rattle.f2_vec.proofs.Split.{length-unit_vector, bit-unit_vector}
use Rattle.f2_vec.proofs.Moved.{length-placed, bit-placed_below, bit-placed_above}
use Rattle.milnor_basis.specs.Exponents.{degree_of}
use Rattle.milnor_basis.specs.Basis.{basis_of}
use Rattle.milnor_basis.specs.Product.{coefficient, product_bits, is_odd_at, ArePairs}
use Rattle.milnor_basis.proofs.Places.{basis_of-member}
use Rattle.milnor_basis.proofs.FreeTable.{second_false}
use Rattle.milnor_basis.proofs.Pairs.{odd_at-take, odd_at-past}
use Rattle.free_module.proofs.TermSums.{length-product}

-- The rows once those of the pairs at the places below n are added.
pub record AddsFirst (offset : ℕ) (pairs : List (ℕ × ℕ)) (n : ℕ) (before rows : List (List Bool)) : Type 0 where
  pub count : length rows ≡ length before
  pub widths : (k : ℕ) → length (row rows k) ≡ length (row before k)
  pub below : (k j : ℕ) → j < offset → bit (row rows k) j ≡ bit (row before k) j
  pub above : (k j : ℕ) → bit (row rows k) (offset + j) ≡ plus (is_odd_at (take n pairs) k j) (bit (row before k) (offset + j))

pub adds_none : (offset : ℕ) (pairs : List (ℕ × ℕ)) (rows : List (List Bool)) → AddsFirst offset pairs 0 rows rows
adds_none offset pairs rows = record { count = refl; widths = λ k. refl; below = λ k j l. refl; above = λ k j. refl }

-- one coordinate of one row turned over
module _ (rows : List (List Bool)) (r at : ℕ) (w : List Bool) (there : r < length rows) (room : at < length (row rows r)) (is : w ≡ sum_of (row rows r) (unit_vector (length (row rows r)) at)) where
  pub length-flipped : (k : ℕ) → length (row (set rows r w) k) ≡ length (row rows k)
  length-flipped k = elim (cases_eq k r) [
    | inl e ↦
        subst (λ i. length (row (set rows r w) i) ≡ length (row rows i)) (sym e)
        (ap length (get_or-set_same rows r w [] there) ∙ ap length is ∙ length-sum_of (row rows r) (unit_vector (length (row rows r)) at) (sym (length-unit_vector (length (row rows r)) at)))
    | inr d ↦ ap length (get_or-set_other rows r k w [] d)
  ]

  pub bit-flipped : (k j : ℕ) → bit (row (set rows r w) k) j ≡ plus (nat_eq r k && nat_eq at j) (bit (row rows k) j)
  bit-flipped k j = elim (cases_eq r k) [
    | inr d ↦
        let other : k ≢ r = (λ e. d (sym e)) in
        let none : nat_eq r k ≡ false = ne_eqb r k d in
        ap (λ v. bit v j) (get_or-set_other rows r k w [] other) ∙ sym (rw none refl)
    | inl e ↦
        let here : nat_eq r r ≡ true = eq-eqb r r refl in
        let unit = unit_vector (length (row rows r)) at in
        subst (λ i. bit (row (set rows r w) i) j ≡ plus (nat_eq r i && nat_eq at j) (bit (row rows i) j)) e
        (ap (λ v. bit v j) (get_or-set_same rows r w [] there ∙ is)
        ∙ bit-sum_of (row rows r) unit j (sym (length-unit_vector (length (row rows r)) at))
        ∙ ap (plus (bit (row rows r) j)) (bit-unit_vector (length (row rows r)) at j room ∙ turned j)
        ∙ plus-comm (bit (row rows r) j) (nat_eq at j)
        ∙ ap (λ b. plus (b && nat_eq at j) (bit (row rows r) j)) (sym here))
  ]
    where
      turned : (i : ℕ) → nat_eq i at ≡ nat_eq at i
      turned i = elim (cases_eq i at) [
        | inl s ↦ eq-eqb i at s ∙ sym (eq-eqb at i (sym s))
        | inr d ↦ ne_eqb i at d ∙ sym (ne_eqb at i (λ s. d (sym s)))
      ]

pub nat_eq-moved : (o i j : ℕ) → nat_eq (o + i) (o + j) ≡ nat_eq i j
nat_eq-moved o i j = elim (cases_eq i j) [
  | inl e ↦ let s : o + i ≡ o + j = omega arith in eq-eqb (o + i) (o + j) s ∙ sym (eq-eqb i j e)
  | inr d ↦ let s : o + i ≢ o + j = (λ e. d (omega arith)) in ne_eqb (o + i) (o + j) s ∙ sym (ne_eqb i j d)
]

-- one pair more
pub adds_more : (offset : ℕ) (pairs : List (ℕ × ℕ)) (n : ℕ) (before rows : List (List Bool)) (r t : ℕ) (w : List Bool) → AddsFirst offset pairs n before rows → n < length pairs
    → r ≡ (get_or pairs n (0, 0)).0 → t ≡ (get_or pairs n (0, 0)).1 → r < length rows → offset + t < length (row rows r)
    → w ≡ sum_of (row rows r) (unit_vector (length (row rows r)) (offset + t)) → AddsFirst offset pairs (n + 1) before (set rows r w)
adds_more offset pairs n before rows r t w so_far within er et there room is = record {
  count = length-set rows r w ∙ so_far.count;
  widths = λ k. length-flipped rows r (offset + t) w there room is k ∙ so_far.widths k;
  below = λ k j l.
      let other : offset + t ≢ j = (λ e. omega arith) in
      bit-flipped rows r (offset + t) w there room is k j
      ∙ ap (λ b. plus b (bit (row rows k) j)) (second_false (nat_eq r k) (nat_eq (offset + t) j) (ne_eqb (offset + t) j other))
      ∙ so_far.below k j l;
  above = λ k j.
      let here = nat_eq r k && nat_eq t j in
      let rest = is_odd_at (take n pairs) k j in
      let old = bit (row before k) (offset + j) in
      let new : is_odd_at (take (n + 1) pairs) k j ≡ plus here rest =
      odd_at-take pairs n k j within ∙ ap (λ i. plus (nat_eq i k && nat_eq (get_or pairs n (0, 0)).1 j) rest) (sym er) ∙ ap (λ i. plus (nat_eq r k && nat_eq i j) rest) (sym et)
      in
      bit-flipped rows r (offset + t) w there room is k (offset + j)
      ∙ ap (λ b. plus (nat_eq r k && b) (bit (row rows k) (offset + j))) (nat_eq-moved offset t j)
      ∙ ap (plus here) (so_far.above k j)
      ∙ sym (plus-assoc here rest old)
      ∙ ap (λ b. plus b old) (sym new);
}

-- all pairs: each row has its product
pub adds_products : (offset degree : ℕ) (s : List ℕ) (pairs : List (ℕ × ℕ)) (n : ℕ) (before rows : List (List Bool)) (k : ℕ) → ArePairs degree s pairs → AddsFirst offset pairs n before rows → length pairs ≤ n
    → k < length (basis_of degree) → offset + length (basis_of (degree + degree_of s)) ≤ length (row before k)
    → row rows k ≡ sum_of (row before k) (placed (length (row before k)) offset (product_bits (get_or (basis_of degree) k []) s))
adds_products offset degree s pairs n before rows k are adds all within room =
    let r = get_or (basis_of degree) k [] in
    let old = row before k in
    let bits = product_bits r s in
    let of = (basis_of-member degree k within).1 in
    let size : length bits ≡ length (basis_of (degree + degree_of s)) = length-product r s degree of in
    let moved_up = placed (length old) offset bits in
    let wide : length moved_up ≡ length old = length-placed (length old) offset bits (omega arith) in
    let sum : degree_of r + degree_of s ≡ degree + degree_of s = omega arith in
    let same : (j : ℕ) → is_odd_at pairs k j ≡ bit bits j = λ j. elim (cases_lt j (length (basis_of (degree + degree_of s)))) [
      | inl l ↦
          are.odd k j within l
          ∙ sym (ap (λ d. bit (map (coefficient r s) (basis_of d)) j) sum ∙ get_or-map (coefficient r s) (basis_of (degree + degree_of s)) j [] false l)
      | inr m ↦ odd_at-past degree (degree + degree_of s) pairs k j are.within m ∙ sym (get_or_past bits j false (omega arith))
    ] in
    ext_get_or false (row rows k) (sum_of old moved_up) (adds.widths k ∙ sym (length-sum_of old moved_up (sym wide))) (λ i l.
    let part : bit (sum_of old moved_up) i ≡ plus (bit old i) (bit moved_up i) = bit-sum_of old moved_up i (sym wide) in
    elim (cases_lt i offset) [
      | inl a ↦ adds.below k i a ∙ sym (part ∙ ap (plus (bit old i)) (bit-placed_below (length old) offset bits i a) ∙ plus-false (bit old i))
      | inr a ↦
          let j = i - offset in
          let e : offset + j ≡ i = omega arith in
          ap (bit (row rows k)) (sym e) ∙ adds.above k j
          ∙ ap (λ xs. plus (is_odd_at xs k j) (bit old (offset + j))) (take_all n pairs all)
          ∙ ap (λ b. plus b (bit old (offset + j))) (same j)
          ∙ ap (λ m. plus (bit bits j) (bit old m)) e
          ∙ plus-comm (bit bits j) (bit old i)
          ∙ sym (part ∙ ap (plus (bit old i)) (bit-placed_above (length old) offset bits i a))
    ])
