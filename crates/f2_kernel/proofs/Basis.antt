-- Rows in reduced echelon form without a zero row: the test of it, and the rows one after the other.
use Rattle.std.proofs.Common.{◌≡◌, ◌≢◌, ◌⊎◌, ℕ, zero, suc, ◌<◌, ◌≤◌, Bool, true, false, not, ◌&&◌, List, [], ◌∷◌, length, slice_set, refl, sym, ◌∙◌, ap, subst, arith, inl, inr}
use Rattle.std.specs.Prelude.{nat_lt}
use Rattle.std.specs.List.{list_all}
use Rattle.std.proofs.lemmas.Bool.{cases_lt, cases_eq, both_ways, ltb-true, lt-ltb, and_parts, and_from, not-true, not_from_false, true_from_ne_false, false_from_ne_true}
use Rattle.std.proofs.lemmas.List.{length-set, get_or-set_other}
use Rattle.std.proofs.lemmas.Grind.{get_or-set_at}
use Rattle.f2_vec.specs.Vectors.{bit, zeros, IsZero, IsFirstOne}
use Rattle.f2_vec.specs.Spans.{row, HaveWidth}
use Rattle.f2_vec.proofs.Sums.{one_within, bit-zeros, length-zeros}
use Rattle.f2_matrix.specs.Echelon.{IsReduced, HasNoZeroRow}
use Rattle.f2_matrix.specs.Preimages.{pivot_of}
use Rattle.f2_matrix.specs.Reduction.{has_one}
use Rattle.f2_matrix.proofs.Elimination.{IsFirstOne-unique}
use Rattle.f2_matrix.proofs.Parts.{has_one-zero, has_one-nonzero}
use Rattle.f2_matrix.proofs.Pivots.{first_within, pivot_first, late_pivot}
use Rattle.f2_matrix.proofs.Unique.{zero_or_first, first_one, IsReduced-tail, HasNoZeroRow-tail}
use Rattle.f2_kernel.specs.Tests.{is_row_basis}

no_first : (p : ℕ) → IsFirstOne [] p → ⊥
no_first p f = both_ways false refl f.one

-- ---- the first row and the rows below it

-- the first row has a pivot left of those below it, and 0s at these
pub record IsFirstOf (r : List Bool) (rows : List (List Bool)) : Type 0 where
  pub nonzero : IsZero r → ⊥
  pub rise : (j p q : ℕ) → IsFirstOne r p → IsFirstOne (row rows j) q → p < q
  pub clear : (j q : ℕ) → IsFirstOne (row rows j) q → bit r q ≡ false

IsReduced-cons : (r : List Bool) (rows : List (List Bool)) → IsFirstOf r rows → IsReduced rows → IsReduced (r ∷ rows)
IsReduced-cons r rows first h = record { zero_rows_last = last; pivots_rise = rise; pivots_alone = alone }
  where
    last : (i j : ℕ) → i < j → IsZero (row (r ∷ rows) i) → IsZero (row (r ∷ rows) j)
    last zero j l z = absurd (first.nonzero z)
    last (suc i) zero l z = absurd (omega arith)
    last (suc i) (suc j) l z = h.zero_rows_last i j (omega arith) z

    rise : (i j p q : ℕ) → i < j → IsFirstOne (row (r ∷ rows) i) p → IsFirstOne (row (r ∷ rows) j) q → p < q
    rise i zero p q l f g = absurd (omega arith)
    rise zero (suc j) p q l f g = first.rise j p q f g
    rise (suc i) (suc j) p q l f g = h.pivots_rise i j p q (omega arith) f g

    alone : (i j p : ℕ) → i ≢ j → IsFirstOne (row (r ∷ rows) i) p → bit (row (r ∷ rows) j) p ≡ false
    alone zero zero p d f = absurd (d refl)
    alone (suc i) zero p d f = first.clear i p f
    alone (suc i) (suc j) p d f = h.pivots_alone i j p (omega arith) f
    alone zero (suc j) p d f = elim (zero_or_first (row rows j)) [
      | inl z ↦ z p
      | inr g ↦ let behind = first.rise j p g.0 f g.1 in g.1.zeros_before p behind
    ]

HasNoZeroRow-cons : (r : List Bool) (rows : List (List Bool)) → (IsZero r → ⊥) → HasNoZeroRow rows → HasNoZeroRow (r ∷ rows)
HasNoZeroRow-cons r rows nonzero h zero l z = nonzero z
HasNoZeroRow-cons r rows nonzero h (suc i) l z = h i (omega arith) z

-- ---- the test

behind : List Bool → List Bool → Bool
behind r x = nat_lt (pivot_of r) (pivot_of x) && not (bit r (pivot_of x))

all_at : (r : List Bool) (rows : List (List Bool)) → list_all (behind r) rows ≡ true → (j : ℕ) → j < length rows → behind r (row rows j) ≡ true
all_at r [] e j l = absurd (omega arith)
all_at r (x ∷ rows) e zero l = (and_parts (behind r x) (list_all (behind r) rows) e).0
all_at r (x ∷ rows) e (suc j) l = all_at r rows (and_parts (behind r x) (list_all (behind r) rows) e).1 j (omega arith)

all_from : (r : List Bool) (rows : List (List Bool)) → ((j : ℕ) → j < length rows → behind r (row rows j) ≡ true) → list_all (behind r) rows ≡ true
all_from r [] h = refl
all_from r (x ∷ rows) h = and_from (behind r x) (list_all (behind r) rows) (h zero (omega arith)) (all_from r rows (λ j l. h (suc j) (omega arith)))

pub basis_tested : (rows : List (List Bool)) → is_row_basis rows ≡ true → IsReduced rows × HasNoZeroRow rows
unfolding behind
basis_tested [] e = (
  record {
    zero_rows_last = λ i j l z k. refl;
    pivots_rise = λ i j p q l f g. absurd (no_first p f);
    pivots_alone = λ i j p d f. refl;
  },
  λ i l z. omega arith,
)
basis_tested (r ∷ rows) e =
    let a = and_parts (has_one r && list_all (behind r) rows) (is_row_basis rows) e in
    let b = and_parts (has_one r) (list_all (behind r) rows) a.0 in
    let rest = basis_tested rows a.1 in
    let nonzero : IsZero r → ⊥ = has_one-nonzero r b.0 in
    let tests = λ (j q : ℕ) (g : IsFirstOne (row rows j) q). and_parts (nat_lt (pivot_of r) (pivot_of (row rows j))) (not (bit r (pivot_of (row rows j)))) (all_at r rows b.1 j (first_within rows j q g)) in
    let first : IsFirstOf r rows = record {
      nonzero = nonzero;
      rise = λ j p q f g.
          let less = ltb-true (pivot_of r) (pivot_of (row rows j)) (tests j q g).0 in
          let here = pivot_first r p f in
          let there = pivot_first (row rows j) q g in
          omega arith;
      clear = λ j q g. ap (bit r) (sym (pivot_first (row rows j) q g)) ∙ not-true (bit r (pivot_of (row rows j))) (tests j q g).1;
    } in
    (IsReduced-cons r rows first rest.0, HasNoZeroRow-cons r rows nonzero rest.1)

pub basis_passes : (rows : List (List Bool)) → IsReduced rows → HasNoZeroRow rows → is_row_basis rows ≡ true
unfolding behind
basis_passes [] h nonzero = refl
basis_passes (r ∷ rows) h nonzero =
    let first = first_one r (nonzero zero (omega arith)) in
    let has : has_one r ≡ true = true_from_ne_false (has_one r) (λ e. nonzero zero (omega arith) (has_one-zero r e)) in
    let each : (j : ℕ) → j < length rows → behind r (row rows j) ≡ true = λ j l.
    let g = first_one (row rows j) (nonzero (suc j) (omega arith)) in
    let here = pivot_first r first.0 first.1 in
    let there = pivot_first (row rows j) g.0 g.1 in
    let less : first.0 < g.0 = h.pivots_rise zero (suc j) first.0 g.0 (omega arith) first.1 g.1 in
    let clear : bit r g.0 ≡ false = h.pivots_alone (suc j) zero g.0 (omega arith) g.1 in
    and_from (nat_lt (pivot_of r) (pivot_of (row rows j))) (not (bit r (pivot_of (row rows j)))) (lt-ltb _ _ (omega arith)) (not_from_false (bit r (pivot_of (row rows j))) (ap (bit r) there ∙ clear)) in
    and_from (has_one r && list_all (behind r) rows) (is_row_basis rows)
    (and_from (has_one r) (list_all (behind r) rows) has (all_from r rows each))
    (basis_passes rows (IsReduced-tail r rows h) (HasNoZeroRow-tail r rows nonzero))

-- ---- one row after the other, from the last to the first

-- The rows from this place on are in the form. `next` is the first of their pivots, `n` where there is none, and `marks` has a 1 at
-- just their pivots.
pub record AreInForm (n from next : ℕ) (marks : List Bool) (rows : List (List Bool)) : Type 0 where
  pub nonzero : (j : ℕ) → from ≤ j → j < length rows → IsZero (row rows j) → ⊥
  pub rise : (j k p q : ℕ) → from ≤ j → j < k → IsFirstOne (row rows j) p → IsFirstOne (row rows k) q → p < q
  pub clear : (j k q : ℕ) → from ≤ j → j < k → IsFirstOne (row rows k) q → bit (row rows j) q ≡ false
  pub right : (j p : ℕ) → from ≤ j → IsFirstOne (row rows j) p → next ≤ p
  pub first : (p : ℕ) → IsFirstOne (row rows from) p → next ≡ p
  pub none : length rows ≤ from → next ≡ n
  pub marked : (q : ℕ) → bit marks q ≡ true → (k : ℕ) × (from ≤ k) × IsFirstOne (row rows k) q
  pub marks_all : (k q : ℕ) → from ≤ k → IsFirstOne (row rows k) q → bit marks q ≡ true
  pub width : length marks ≡ n

at_or_behind : (i j : ℕ) → i ≤ j → (i ≡ j) ⊎ (suc i ≤ j)
at_or_behind i j l = elim (cases_lt i j) [
  | inl b ↦ inr (omega arith)
  | inr b ↦ inl (omega arith)
]

past_end : (rows : List (List Bool)) (j : ℕ) → length rows ≤ j → row rows j ≡ []
past_end [] j l = refl
past_end (r ∷ rows) zero l = absurd (omega arith)
past_end (r ∷ rows) (suc j) l = past_end rows j (omega arith)

pub no_first_past : (rows : List (List Bool)) (j p : ℕ) → length rows ≤ j → IsFirstOne (row rows j) p → ⊥
no_first_past rows j p l f = let within = first_within rows j p f in omega arith

pub none_in_form : (n : ℕ) (rows : List (List Bool)) → AreInForm n (length rows) n (zeros n) rows
none_in_form n rows = record {
  nonzero = λ j l m z. omega arith;
  rise = λ j k p q l m f g. absurd (no_first_past rows j p l f);
  clear = λ j k q l m g. absurd (no_first_past rows k q (omega arith) g);
  right = λ j p l f. absurd (no_first_past rows j p l f);
  first = λ p f. absurd (no_first_past rows (length rows) p (omega arith) f);
  none = λ l. refl;
  marked = λ q e. absurd (both_ways (bit (zeros n) q) (bit-zeros n q) e);
  marks_all = λ k q l g. absurd (no_first_past rows k q l g);
  width = length-zeros n;
}

-- a 1 is set
set_same : (marks : List Bool) (p q : ℕ) → p < length marks → q ≡ p → bit (slice_set marks p true) q ≡ true
set_same marks p q l e = get_or-set_at marks p q true false e l

set_other : (marks : List Bool) (p q : ℕ) → q ≢ p → bit (slice_set marks p true) q ≡ bit marks q
set_other marks p q d = get_or-set_other marks p q true false d

pub one_more_in_form : (n i next pivot : ℕ) (marks : List Bool) (rows : List (List Bool)) → AreInForm n (suc i) next marks rows → IsFirstOne (row rows i) pivot → pivot < n → pivot < next →
    ((p : ℕ) × (bit (row rows i) p ≡ true) × (bit marks p ≡ true) → ⊥) → AreInForm n i pivot (slice_set marks pivot true) rows
one_more_in_form n i next pivot marks rows h first within less apart = record {
  nonzero = λ j l m z. elim (at_or_behind i j l) [
    | inl e ↦ let none : bit (row rows i) pivot ≡ false = ap (λ k. bit (row rows k) pivot) e ∙ z pivot in both_ways (bit (row rows i) pivot) none first.one
    | inr b ↦ h.nonzero j b m z
  ];
  rise = λ j k p q l m f g. elim (at_or_behind i j l) [
    | inl e ↦ let at = same j p e f in let right = h.right k q (omega arith) g in omega arith
    | inr b ↦ h.rise j k p q b m f g
  ];
  clear = λ j k q l m g. elim (at_or_behind i j l) [
    | inl e ↦ false_from_ne_true (bit (row rows j) q) (λ one. apart (q, ap (λ k. bit (row rows k) q) e ∙ one, h.marks_all k q (omega arith) g))
    | inr b ↦ h.clear j k q b m g
  ];
  right = λ j p l f. elim (at_or_behind i j l) [
    | inl e ↦ let at = same j p e f in omega arith
    | inr b ↦ let right = h.right j p b f in omega arith
  ];
  first = λ p f. sym (same i p refl f);
  none = λ l. absurd (no_first_past rows i pivot l first);
  marked = λ q e. elim (cases_eq q pivot) [
    | inl at ↦ (i, omega arith, subst (IsFirstOne (row rows i)) (sym at) first)
    | inr off ↦ let found = h.marked q (sym (set_other marks pivot q off) ∙ e) in (found.0, omega (arith, found.1), found.2)
  ];
  marks_all = λ k q l g. elim (cases_eq q pivot) [
    | inl at ↦ set_same marks pivot q (omega (arith, h.width)) at
    | inr off ↦ elim (at_or_behind i k l) [
      | inl e ↦ absurd (off (same k q e g))
      | inr b ↦ set_other marks pivot q off ∙ h.marks_all k q b g
    ]
  ];
  width = length-set marks pivot true ∙ h.width;
}
  where
    same : (j p : ℕ) → i ≡ j → IsFirstOne (row rows j) p → p ≡ pivot
    same j p e f = IsFirstOne-unique (row rows i) p pivot (subst (λ k. IsFirstOne (row rows k) p) (sym e) f) first

pub all_in_form : (n next : ℕ) (marks : List Bool) (rows : List (List Bool)) → AreInForm n 0 next marks rows → IsReduced rows × HasNoZeroRow rows
all_in_form n next marks rows h = (
  record {
    zero_rows_last = λ j k l z. elim (cases_lt j (length rows)) [
      | inl b ↦ absurd (h.nonzero j (omega arith) b z)
      | inr b ↦ subst IsZero (sym (past_end rows k (omega arith))) (λ n. refl)
    ];
    pivots_rise = λ j k p q l f g. h.rise j k p q (omega arith) l f g;
    pivots_alone = alone;
  },
  λ j l z. h.nonzero j (omega arith) l z,
)
  where
    alone : (j k p : ℕ) → j ≢ k → IsFirstOne (row rows j) p → bit (row rows k) p ≡ false
    alone j k p d f =
        elim (cases_lt k j) [
          | inl b ↦ h.clear k j p (omega arith) b f
          | inr b ↦ elim (zero_or_first (row rows k)) [
            | inl z ↦ z p
            | inr g ↦ let l = h.rise j k p g.0 (omega arith) (omega arith) f g.1 in g.1.zeros_before p l
          ]
        ]

-- where the row before has its pivot too far right, or a 1 at a pivot behind it, the rows are not in the form
pub pivot_too_high : (n i next pivot : ℕ) (marks : List Bool) (rows : List (List Bool)) → AreInForm n (suc i) next marks rows → IsFirstOne (row rows i) pivot → pivot < n → next ≤ pivot → IsReduced rows → HasNoZeroRow rows → ⊥
pivot_too_high n i next pivot marks rows h first within high reduced nonzero = elim (cases_lt (suc i) (length rows)) [
  | inl b ↦
      let behind = first_one (row rows (suc i)) (nonzero (suc i) b) in
      let at = h.first behind.0 behind.1 in
      let rise = reduced.pivots_rise i (suc i) pivot behind.0 (omega arith) first behind.1 in
      omega arith
  | inr b ↦ let at = h.none b in omega arith
]

pub pivot_not_alone : (n i next : ℕ) (marks : List Bool) (rows : List (List Bool)) → AreInForm n (suc i) next marks rows → (p : ℕ) × (bit (row rows i) p ≡ true) × (bit marks p ≡ true) → IsReduced rows → ⊥
pivot_not_alone n i next marks rows h found reduced =
    let behind = h.marked found.0 found.2 in
    let apart : behind.0 ≢ i = λ e. omega (arith, behind.1, e) in
    both_ways (bit (row rows i) found.0) (reduced.pivots_alone behind.0 i found.0 apart behind.2) found.1

-- ---- there are no more such rows than coordinates

pub basis_few : (n : ℕ) (rows : List (List Bool)) → HaveWidth n rows → IsReduced rows → HasNoZeroRow rows → length rows ≤ n
basis_few n [] wide h nonzero = omega arith
basis_few n (r ∷ rows) wide h nonzero =
    let i = length rows in
    let last = first_one (row (r ∷ rows) i) (nonzero i (omega arith)) in
    let far = late_pivot (r ∷ rows) h nonzero i last.0 (omega arith) last.1 in
    let within = one_within (row (r ∷ rows) i) last.0 last.1.one in
    let width = wide i (omega arith) in
    omega arith
