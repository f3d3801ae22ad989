-- Rows that have their pivots in any order are sorted by them.
use Rattle.std.proofs.Common.{◌≡◌, ◌≢◌, ℕ, ◌+◌, ◌<◌, ◌≤◌, Bool, true, false, if◌then◌else◌, List, length, get_or, set, refl, subst, ap, sym, ◌∙◌, arith, inl, inr}
use Rattle.std.specs.List.{swap}
use Rattle.std.proofs.lemmas.List.{get_or-set_same, get_or-set_other}
use Rattle.std.proofs.lemmas.Bool.{cases_lt, cases_eq, cases_order, cases_Bool, both_ways}
use Rattle.f2_vec.specs.Vectors.{sum_of, bit, IsZero, IsFirstOne}
use Rattle.f2_vec.specs.Spans.{row}
use Rattle.f2_matrix.specs.Inside.RowOperations.{IsClearedBy}
use Rattle.f2_matrix.proofs.Elimination.{IsFirstOne-unique, IsEliminated, IsEliminated-settle}
use Rattle.f2_matrix.proofs.RowOperations.{row-swap_left, row-swap_right, row-swap_other}

-- The rows from place k up to r have their pivots, each alone in its column, and those from place r on are zero.
pub record AreUnsorted (r k : ℕ) (rows : List (List Bool)) : Type 0 where
  pub within : k ≤ r
  pub pivots : (i : ℕ) → k ≤ i → i < r → (p : ℕ) × IsFirstOne (row rows i) p
  pub alone : (i j p : ℕ) → i ≢ j → k ≤ i → i < r → IsFirstOne (row rows i) p → bit (row rows j) p ≡ false
  pub zero : (i : ℕ) → r ≤ i → IsZero (row rows i)

-- at the pivot of each of these rows stands its place
abbrev pub AreNoted : ℕ → ℕ → List (List Bool) → List ℕ → Type 0
AreNoted r k rows places = (i p : ℕ) → k ≤ i → i < r → IsFirstOne (row rows i) p → get_or places p 0 ≡ i

-- ---- a column in which none of these rows has its pivot

pub none_left : (n r k col : ℕ) (xs rows : List (List Bool)) (places : List ℕ) → IsEliminated n k col xs rows → AreUnsorted r k rows → AreNoted r k rows places → (k ≤ get_or places col 0 → get_or places col 0 < r → bit (row rows (get_or places col 0)) col ≡ true → ⊥) → (i : ℕ) → k ≤ i → bit (row rows i) col ≡ false
none_left n r k col xs rows places e s noted not_there i l = elim (cases_Bool (bit (row rows i) col)) [
  | inr off ↦ off
  | inl one ↦ elim (cases_lt i r) [
    | inr m ↦ s.zero i m col
    | inl m ↦
        let f : (p : ℕ) × IsFirstOne (row rows i) p = s.pivots i l m in
        elim (cases_order f.0 col) [
          | inl same ↦
              let at : get_or places col 0 ≡ i = ap (λ c. get_or places c 0) (sym same) ∙ noted i f.0 l m f.1 in
              absurd (not_there (subst (λ x. k ≤ x) (sym at) l) (subst (λ x. x < r) (sym at) m) (ap (λ x. bit (row rows x) col) at ∙ one))
          | inr o ↦ elim o [
            | inl before ↦ absurd (both_ways (bit (row rows i) f.0) (e.settled.rest_zero i f.0 l before) f.1.one)
            | inr after ↦ f.1.zeros_before col after
          ]
        ]
  ]
]

-- ---- the row at place a has its pivot in the column col, and comes to place k

module _ (n r k col a : ℕ) (xs rows : List (List Bool)) (e : IsEliminated n k col xs rows) (s : AreUnsorted r k rows) (low : k ≤ a) (high : a < r) (fits : r ≤ length rows) (one : bit (row rows a) col ≡ true) where
  abbrev new : List (List Bool)
  new = swap rows k a

  lk : k < length rows
  lk = omega arith

  la : a < length rows
  la = omega arith

  first : IsFirstOne (row rows a) col
  first = record { one = one; zeros_before = λ j l. e.settled.rest_zero a j low l }

  -- no other row has a 1 in the column
  off : (i : ℕ) → i ≢ k → bit (row new i) col ≡ false
  off i d = elim (cases_eq i a) [
    | inl h ↦ ap (λ j. bit (row new j) col) h ∙ ap (λ v. bit v col) (row-swap_right rows k a lk la) ∙ s.alone a k col (λ q. d (h ∙ q)) low high first
    | inr h ↦ ap (λ v. bit v col) (row-swap_other rows k a i lk la d h) ∙ s.alone a i col (λ q. h (sym q)) low high first
  ]

  cleared_already : IsClearedBy k col new new
  cleared_already = record {
    as_many = refl;
    pivot_kept = refl;
    others = λ i d. sym (ap (λ b. if b then sum_of (row new i) (row new k) else row new i) (off i d));
  }

  pub IsEliminated-sorted : IsEliminated n (k + 1) (col + 1) xs (swap rows k a)
  IsEliminated-sorted = IsEliminated-settle n k col a xs rows new new e low la one refl cleared_already

  -- where a row from place k + 1 on has stood
  pub stood : (i : ℕ) → k + 1 ≤ i → i < r → (j : ℕ) × (k ≤ j) × (j < r) × (row (swap rows k a) i ≡ row rows j)
  stood i l m = elim (cases_eq i a) [
    | inl h ↦ (k, omega arith, omega arith, ap (row new) h ∙ row-swap_right rows k a lk la)
    | inr h ↦ (i, omega arith, m, row-swap_other rows k a i lk la (λ q. absurd (omega arith)) h)
  ]

  alone_new : (i j p : ℕ) → i ≢ j → k + 1 ≤ i → i < r → IsFirstOne (row new i) p → bit (row new j) p ≡ false
  alone_new i j p d l m f = elim (cases_eq i a) [
    | inl h ↦
        let g : IsFirstOne (row rows k) p = subst (λ v. IsFirstOne v p) (ap (row new) h ∙ row-swap_right rows k a lk la) f in
        let other : k ≢ a = λ q. absurd (omega arith) in
        elim (cases_eq j k) [
          | inl q ↦ ap (λ x. bit (row new x) p) q ∙ ap (λ v. bit v p) (row-swap_left rows k a lk la) ∙ s.alone k a p other (omega arith) (omega arith) g
          | inr q ↦ ap (λ v. bit v p) (row-swap_other rows k a j lk la q (λ x. d (h ∙ sym x))) ∙ s.alone k j p (λ x. q (sym x)) (omega arith) (omega arith) g
        ]
    | inr h ↦
        let ne : i ≢ k = λ q. absurd (omega arith) in
        let g : IsFirstOne (row rows i) p = subst (λ v. IsFirstOne v p) (row-swap_other rows k a i lk la ne h) f in
        let ki : k ≤ i = omega arith in
        elim (cases_eq j k) [
          | inl q ↦ ap (λ x. bit (row new x) p) q ∙ ap (λ v. bit v p) (row-swap_left rows k a lk la) ∙ s.alone i a p h ki m g
          | inr q ↦ elim (cases_eq j a) [
            | inl x ↦ ap (λ y. bit (row new y) p) x ∙ ap (λ v. bit v p) (row-swap_right rows k a lk la) ∙ s.alone i k p ne ki m g
            | inr x ↦ ap (λ v. bit v p) (row-swap_other rows k a j lk la q x) ∙ s.alone i j p d ki m g
          ]
        ]
  ]

  pub AreUnsorted-sorted : AreUnsorted r (k + 1) (swap rows k a)
  AreUnsorted-sorted = record {
    within = omega arith;
    pivots = λ i l m.
        let w = stood i l m in
        let f : (p : ℕ) × IsFirstOne (row rows w.0) p = s.pivots w.0 w.1 w.2 in
        (f.0, subst (λ v. IsFirstOne v f.0) (sym w.3) f.1);
    alone = alone_new;
    zero = λ i l j. ap (λ v. bit v j) (row-swap_other rows k a i lk la (λ q. absurd (omega arith)) (λ q. absurd (omega arith))) ∙ s.zero i l j;
  }

  -- the place of the row that has gone is noted anew
  pub AreNoted-sorted : (places : List ℕ) (q : ℕ) → AreNoted r k rows places → IsFirstOne (row rows k) q → q < length places → AreNoted r (k + 1) (swap rows k a) (set places q a)
  AreNoted-sorted places q noted f lq i p l m g = elim (cases_eq i a) [
    | inl h ↦
        let same : p ≡ q = IsFirstOne-unique (row rows k) p q (subst (λ v. IsFirstOne v p) (ap (row new) h ∙ row-swap_right rows k a lk la) g) f in
        ap (λ x. get_or (set places q a) x 0) same ∙ get_or-set_same places q a 0 lq ∙ sym h
    | inr h ↦
        let ne : i ≢ k = λ x. absurd (omega arith) in
        let was : IsFirstOne (row rows i) p = subst (λ v. IsFirstOne v p) (row-swap_other rows k a i lk la ne h) g in
        let apart : p ≢ q = λ x. both_ways (bit (row rows i) q) (s.alone k i q (λ y. ne (sym y)) (omega arith) (omega arith) f) (ap (bit (row rows i)) (sym x) ∙ was.one) in
        get_or-set_other places q p a 0 apart ∙ noted i p (omega arith) m was
  ]
