-- A vector with a 1 at the pivots of the rows so far.
use Rattle.std.specs.List.{list_any}
use Rattle.std.proofs.Common.{◌≡◌, ℕ, ◌+◌, ◌<◌, nat_eq, Bool, true, false, not, List, [], length, set, sym, ap, subst, ◌∙◌, arith, inl, inr}
use Rattle.std.proofs.lemmas.Bool.{cases_eq, cases_Bool, both_ways, eq-eqb, false_from_ne_true}
use Rattle.std.proofs.lemmas.List.Folds.{list_any_at}
use Rattle.std.proofs.lemmas.List.{length-set, get_or-set_same, get_or-set_other}
use Rattle.f2_vec.specs.Vectors.{bit, zeros, IsZero, IsFirstOne}
use Rattle.f2_vec.specs.Spans.{row, HaveWidth}
use Rattle.f2_vec.proofs.Sums.{bit-zeros, length-zeros}
use Rattle.f2_matrix.specs.Preimages.{pivot_of}
use Rattle.f2_matrix.proofs.Elimination.{IsFirstOne-unique}
use Rattle.f2_matrix.proofs.Pivots.{pivot_first, pivot_zero, first_within}
use Rattle.f2_choice.proofs.Relations.{found}
use Rattle.f2_kernel.specs.Inside.Upward.{has_no_pivot}
use Rattle.f2_kernel.proofs.Cleared.{zero_or_pivot}

-- marks, of length n, has a 1 at just the pivots of the first k rows
pub record AreMarked (n k : ℕ) (rows : List (List Bool)) (marks : List Bool) : Type 0 where
  pub width : length marks ≡ n
  pub marked : (p : ℕ) → bit marks p ≡ true → (j : ℕ) × (j < k) × IsFirstOne (row rows j) p
  pub all_marked : (j p : ℕ) → j < k → IsFirstOne (row rows j) p → bit marks p ≡ true

pub none_marked : (n : ℕ) (rows : List (List Bool)) → AreMarked n 0 rows (zeros n)
none_marked n rows = record {
  width = length-zeros n;
  marked = λ p o. absurd (both_ways (bit (zeros n) p) (bit-zeros n p) o);
  all_marked = λ j p l f. absurd (omega arith);
}

pub one_marked : (n k q : ℕ) (rows : List (List Bool)) (marks : List Bool) → q < n → IsFirstOne (row rows k) q → AreMarked n k rows marks → AreMarked n (k + 1) rows (set marks q true)
one_marked n k q rows marks l f h = record { width = length-set marks q true ∙ h.width; marked = marked; all_marked = all_marked }
  where
    here : bit (set marks q true) q ≡ true
    here = get_or-set_same marks q true false (omega (arith, l, h.width))

    marked : (p : ℕ) → bit (set marks q true) p ≡ true → (j : ℕ) × (j < k + 1) × IsFirstOne (row rows j) p
    marked p o = elim (cases_eq p q) [
      | inl e ↦ (k, omega arith, subst (IsFirstOne (row rows k)) (sym e) f)
      | inr d ↦
          let before = h.marked p (sym (get_or-set_other marks q p true false d) ∙ o) in
          (before.0, omega (arith, before.1), before.2)
    ]

    all_marked : (j p : ℕ) → j < k + 1 → IsFirstOne (row rows j) p → bit (set marks q true) p ≡ true
    all_marked j p m g = elim (cases_eq p q) [
      | inl e ↦ ap (bit (set marks q true)) e ∙ here
      | inr d ↦ elim (cases_eq j k) [
        | inl e ↦ absurd (d (IsFirstOne-unique (row rows k) p q (subst (λ i. IsFirstOne (row rows i) p) e g) f))
        | inr a ↦ get_or-set_other marks q p true false d ∙ h.all_marked j p (omega (arith, m, a)) g
      ]
    ]

pub zero_marked : (n k : ℕ) (rows : List (List Bool)) (marks : List Bool) → IsZero (row rows k) → AreMarked n k rows marks → AreMarked n (k + 1) rows marks
zero_marked n k rows marks z h = record {
  width = h.width;
  marked = λ p o. let before = h.marked p o in (before.0, omega (arith, before.1), before.2);
  all_marked = λ j p m g. elim (cases_eq j k) [
    | inl e ↦ absurd (both_ways (bit (row rows j) p) (ap (λ i. bit (row rows i) p) e ∙ z p) g.one)
    | inr a ↦ h.all_marked j p (omega (arith, m, a)) g
  ];
}

-- where there is no mark no row has its pivot
pub marked_is_taken : (n p : ℕ) (form : List (List Bool)) (marks : List Bool) → HaveWidth n form → ((p : ℕ) → bit marks p ≡ true → (j : ℕ) × IsFirstOne (row form j) p) → ((j p : ℕ) → IsFirstOne (row form j) p → bit marks p ≡ true) → p < n → bit marks p ≡ not (has_no_pivot form p)
marked_is_taken n p form marks w marked all l =
    let any = list_any (λ r. nat_eq (pivot_of r) p) form in
    elim (cases_Bool any) [
      | inl some ↦
          let f = found pivot_of form p some in
          elim (zero_or_pivot (row form f.0)) [
            | inl z ↦ absurd (let past = pivot_zero (row form f.0) z in omega (arith, past, w f.0 f.1, f.2, l))
            | inr first ↦ all f.0 p (subst (IsFirstOne (row form f.0)) f.2 first) ∙ sym (ap (λ b. not (not b)) some)
          ]
      | inr none ↦
          false_from_ne_true (bit marks p) (λ o.
          let f = marked p o in
          both_ways any none (list_any_at (λ r. nat_eq (pivot_of r) p) form f.0 [] (first_within form f.0 p f.1) (eq-eqb (pivot_of (row form f.0)) p (pivot_first (row form f.0) p f.1))))
          ∙ sym (ap (λ b. not (not b)) none)
    ]
