-- What row 0 has to put on a diagonal is known once only its place of that column is left: fillings that leave no room for it
-- lead to nothing.
use Rattle.std.proofs.Common.{◌≡◌, ℕ, zero, suc, ◌+◌, ◌-◌, ◌<◌, ◌≤◌, ◌≢◌, ◌⊎◌, inl, inr, Bool, true, false, ◌&&◌, nat_eq, List, length, refl, sym, ◌∙◌, ap, arith, bit_and, bit_or}
use Rattle.std.proofs.lemmas.Nat.{and_comm, or_comm, and_assoc, and_or_self, and_or_apart}
use Rattle.std.proofs.lemmas.Bool.{ne_eqb, cases_eq}
use Rattle.milnor_basis.specs.Exponents.{entry}
use Rattle.milnor_basis.specs.Inside.Walk.{fillings, places_to, Sums, add, are_sums_of, next_row, next_column}
use Rattle.milnor_basis.proofs.Parity.{is_odd_below-none}
use Rattle.milnor_basis.proofs.Walk.{fillings_step}
use Rattle.milnor_basis.proofs.Prune.{add_at-other, add_at-same, not_apart, column_not_full}

-- Digits.

-- a number that shares no digit with a | b shares none with b, nor with a
pub or_apart : (a b n : ℕ) → bit_and (bit_or a b) n ≡ 0 → bit_and b n ≡ 0
or_apart a b n h =
    ap (λ x. bit_and x n) (sym (and_or_self b a)) ∙ and_assoc n (bit_or a b) b ∙ ap (bit_and (bit_or a b)) (and_comm b n)
    ∙ sym (and_assoc b (bit_or a b) n) ∙ ap (λ x. bit_and x b) h

pub apart_both : (n a b : ℕ) → bit_and n (bit_or a b) ≡ 0 → bit_and n a ≡ 0
apart_both n a b h = and_comm n a ∙ or_apart b a n (ap (λ x. bit_and x n) (or_comm b a) ∙ and_comm (bit_or a b) n ∙ h)

-- where n shares no digit with d but one with d | a, the number a shares one with d | n; and it does where it shares one with d
pub crowds : (n d a : ℕ) → bit_and n d ≡ 0 → bit_and n (bit_or d a) ≢ 0 ⊎ bit_and a d ≢ 0 → bit_and a (bit_or d n) ≢ 0
crowds n d a apart (inl h) e =
    let none : bit_and n a ≡ 0 = or_apart d n a (and_comm (bit_or d n) a ∙ e) in
    h (and_comm n (bit_or d a) ∙ ap (λ x. bit_and x n) (or_comm d a) ∙ and_or_apart n a d (and_comm d n ∙ apart) ∙ and_comm a n ∙ none)
crowds n d a apart (inr h) e = h (apart_both a d n e)

-- what column c + 1 lacks shares a digit with the diagonal of its place in row 0
module _ (r s t : List ℕ) (bound w c : ℕ) (within : c < length s) where
  abbrev pub IsCrowded : Sums → Type 0
  IsCrowded x = bit_and (entry s c - x.columns (suc c)) (x.diagonals (suc c)) ≢ 0

  still_crowded : (x y : Sums) → y.columns (suc c) ≡ x.columns (suc c) → y.diagonals (suc c) ≡ x.diagonals (suc c) → IsCrowded x → IsCrowded y
  still_crowded x y column diagonal h e =
      h (ap (λ n. bit_and (entry s c - n) (x.diagonals (suc c))) (sym column) ∙ ap (bit_and (entry s c - y.columns (suc c))) (sym diagonal) ∙ e)

  crowded_place : (v : ℕ) (x : Sums) → IsCrowded x → fillings add bound (places_to w zero c) (are_sums_of r s t) (add 0 (suc c) v x) ≡ false
  crowded_place v x h = elim (cases_eq v (entry s c - x.columns (suc c))) [
    | inl full ↦
        let at : 0 + suc c ≡ suc c = omega arith in
        let shares : bit_and v (x.diagonals (0 + suc c)) ≢ 0 = (λ e. h (ap (λ n. bit_and n (x.diagonals (suc c))) (sym full) ∙ ap (λ k. bit_and v (x.diagonals k)) (sym at) ∙ e)) in
        not_apart r s t bound w 0 c (add 0 (suc c) v x) (last x.apart (nat_eq (bit_and v (x.diagonals (0 + suc c))) 0) (ne_eqb (bit_and v (x.diagonals (0 + suc c))) 0 shares))
    | inr other ↦
        let new = add_at-same (suc c) v x.columns in
        column_not_full r s t bound w c within (add 0 (suc c) v x) (λ e. other (omega arith))
  ]
    where
      last : (a b : Bool) → b ≡ false → (a && b) ≡ false
      last true b f = f
      last false b f = refl

  -- the places of row 0 from that one on
  crowded_top : (column : ℕ) → c < column → (x : Sums) → IsCrowded x → fillings add bound (places_to w zero column) (are_sums_of r s t) x ≡ false
  crowded_top zero l x h = absurd (omega arith)
  crowded_top (suc j) l x h =
      fillings_step add bound w zero (suc j) (are_sums_of r s t) x (omega arith)
      ∙ is_odd_below-none (λ v. fillings add bound (places_to w zero j) (are_sums_of r s t) (add 0 (suc j) v x)) bound (λ v q. elim (cases_eq c j) [
        | inl here ↦ ap (λ i. fillings add bound (places_to w zero i) (are_sums_of r s t) (add 0 (suc i) v x)) (sym here) ∙ crowded_place v x h
        | inr past ↦ crowded_top j (omega arith) (add 0 (suc j) v x)
            (still_crowded x (add 0 (suc j) v x) (add_at-other (suc j) v x.columns (suc c) (omega arith)) (add_at-other (0 + suc j) v x.diagonals (suc c) (omega arith)) h)
      ])

  -- the places after one of row 1 that is not past column c
  pub crowded_row : (column : ℕ) → column ≤ c → c < w → (x : Sums) → IsCrowded x → fillings add bound (places_to w (next_row 1 column) (next_column w 1 column)) (are_sums_of r s t) x ≡ false
  crowded_row zero l m x h = crowded_top w m x h
  crowded_row (suc j) l m x h =
      fillings_step add bound w 1 j (are_sums_of r s t) x (omega arith)
      ∙ is_odd_below-none (λ v. fillings add bound (places_to w (next_row 1 j) (next_column w 1 j)) (are_sums_of r s t) (add 1 j v x)) bound (λ v q.
      crowded_row j (omega arith) m (add 1 j v x)
      (still_crowded x (add 1 j v x) (add_at-other j v x.columns (suc c) (omega arith)) (add_at-other (1 + j) v x.diagonals (suc c) (omega arith)) h))
