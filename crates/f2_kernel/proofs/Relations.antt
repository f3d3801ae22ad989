-- The relations that are solved from a form: where they begin, and that they are reduced.
use Rattle.std.proofs.Common.{◌≡◌, ◌≢◌, inl, inr, ℕ, ◌+◌, ◌-◌, ◌<◌, nat_eq, Bool, true, false, not, List, [], ◌++◌, length, map, reverse, get_or, refl, ap, sym, subst, ◌∙◌, arith}
use Rattle.std.specs.List.{range_with_len, list_any}
use Rattle.std.proofs.lemmas.Bool.{cases_order, both_ways, eq-eqb, ne_eqb}
use Rattle.std.proofs.lemmas.Bool.Decides.{nat_tests}
use Rattle.std.proofs.lemmas.List.{ext_get_or, get_or-map, length-map, length-append, length-reverse, get_or-reverse, get_or_append_left, get_or_read}
use Rattle.std.proofs.lemmas.List.Folds.{list_any_at}
use Rattle.std.proofs.lemmas.List.FromFn.{length-range_with_len, get_or-range_with_len}
use Rattle.f2_vec.specs.Vectors.{zeros, bit, IsFirstOne}
use Rattle.f2_vec.proofs.Sums.{length-zeros}
use Rattle.f2_vec.specs.Spans.{row, HaveWidth, unit_vector}
use Rattle.f2_vec.proofs.Split.{bit-unit_vector, length-unit_vector}
use Rattle.f2_vec.proofs.Combinations.{HaveWidth-map}
use Rattle.f2_matrix.specs.Echelon.{IsReduced, HasNoZeroRow}
use Rattle.f2_matrix.specs.Preimages.{pivot_of}
use Rattle.f2_matrix.proofs.Pivots.{pivot_first}
use Rattle.f2_matrix.proofs.Kept.{place_of, kept_at, place_of-rises}
use Rattle.f2_choice.proofs.Relations.{HaveFirsts, IsReduced-from_firsts, HasNoZeroRow-from_firsts}
use Rattle.f2_kernel.specs.Inside.Upward.{solved, AreCleared, has_no_pivot, vacant_elements, relation, relations}
use Rattle.f2_kernel.proofs.Solved.{length-solved, solved-bit, solved-past}

-- ---- vacant elements

-- the i-th vacant element
abbrev pub vacant_at : ℕ → List (List Bool) → ℕ → ℕ
vacant_at n form i = place_of (λ e. has_no_pivot form (n - 1 - e)) (range_with_len 0 n) i

pub vacant_at-is : (n : ℕ) (form : List (List Bool)) (i : ℕ) → i < length (vacant_elements n form) → (vacant_at n form i < n) × (get_or (vacant_elements n form) i 0 ≡ vacant_at n form i) × (has_no_pivot form (n - 1 - vacant_at n form i) ≡ true)
vacant_at-is n form i l =
    let test : ℕ → Bool = λ e. has_no_pivot form (n - 1 - e) in
    let at = kept_at test 0 (range_with_len 0 n) i l in
    let e = place_of test (range_with_len 0 n) i in
    let m : e < n = omega (arith, at.0, length-range_with_len 0 n) in
    let v : get_or (range_with_len 0 n) e 0 ≡ e = get_or-range_with_len 0 n e 0 m ∙ omega arith in
    (m, at.1 ∙ v, ap test (sym v) ∙ at.2)

pub vacant_at-rises : (n : ℕ) (form : List (List Bool)) (i j : ℕ) → i < j → j < length (vacant_elements n form) → vacant_at n form i < vacant_at n form j
vacant_at-rises n form i j l m = place_of-rises (λ e. has_no_pivot form (n - 1 - e)) (range_with_len 0 n) i j l m

pub vacant_no_pivot : (form : List (List Bool)) (p j : ℕ) → has_no_pivot form p ≡ true → j < length form → p ≢ pivot_of (row form j)
vacant_no_pivot form p j v l e =
    let any : list_any (λ r. nat_eq (pivot_of r) p) form ≡ true = list_any_at (λ r. nat_eq (pivot_of r) p) form j [] l (eq-eqb (pivot_of (row form j)) p (sym e)) in
    both_ways (has_no_pivot form p) (ap not any) v

-- ---- one relation

module _ (n new : ℕ) (form : List (List Bool)) (h : AreCleared n form) where
  abbrev pub start : ℕ → List Bool
  start e = unit_vector n (n - 1 - e)

  pub length-front : (e : ℕ) → length (reverse (solved form (start e))) ≡ n
  length-front e = length-reverse (solved form (start e)) ∙ length-solved n form (start e) (length-unit_vector n (n - 1 - e))

  pub length-relation : (e : ℕ) → length (relation n new form e) ≡ n + new
  length-relation e = length-append (reverse (solved form (start e))) (zeros new) ∙ omega (arith, length-front e, length-zeros new)

  pub bit-relation : (e k : ℕ) → k < n → bit (relation n new form e) k ≡ bit (solved form (start e)) (n - 1 - k)
  bit-relation e k l =
      let z = solved form (start e) in
      let lz : length z ≡ n = length-solved n form (start e) (length-unit_vector n (n - 1 - e)) in
      get_or_append_left (reverse z) (zeros new) false k (omega (arith, length-front e))
      ∙ get_or-reverse z k false (omega arith)
      ∙ ap (λ m. bit z (m - 1 - k)) lz

  -- its values at vacant elements
  pub relation_vacant : (e k : ℕ) → e < n → k < n → has_no_pivot form (n - 1 - k) ≡ true → bit (relation n new form e) k ≡ nat_eq k e
  relation_vacant e k l m v =
      let p = n - 1 - k in
      let c = n - 1 - e in
      bit-relation e k m
      ∙ solved-bit n form (start e) p h.widths (length-unit_vector n c) (λ j b. vacant_no_pivot form p j v b)
      ∙ bit-unit_vector n c p (omega arith)
      ∙ turned
    where
      turned : nat_eq (n - 1 - k) (n - 1 - e) ≡ nat_eq k e
      turned = grind (arith, nat_tests)

  pub relation_before : (e k : ℕ) → e < n → k < e → bit (relation n new form e) k ≡ false
  relation_before e k l m =
      let c = n - 1 - e in
      bit-relation e k (omega arith)
      ∙ solved-past n c form (start e) h.widths (length-unit_vector n c)
      (λ q b. let d : q ≢ c = λ s. omega arith in bit-unit_vector n c q (omega arith) ∙ ne_eqb q c d) (n - 1 - k) (omega arith)

  pub relation_first : (e : ℕ) → e < n → has_no_pivot form (n - 1 - e) ≡ true → IsFirstOne (relation n new form e) e
  relation_first e l v = record {
    one = relation_vacant e e l l v ∙ eq-eqb e e refl;
    zeros_before = λ k m. relation_before e k l m;
  }

  -- ---- all of them

  pub length-relations : length (relations n new form) ≡ length (vacant_elements n form)
  length-relations = length-map (vacant_elements n form) (relation n new form)

  pub row-relations : (i : ℕ) → i < length (relations n new form) → row (relations n new form) i ≡ relation n new form (vacant_at n form i)
  row-relations i l =
      let m : i < length (vacant_elements n form) = omega (arith, length-relations) in
      get_or-map (relation n new form) (vacant_elements n form) i 0 [] m ∙ ap (relation n new form) (vacant_at-is n form i m).1

  pub wide_relations : HaveWidth (n + new) (relations n new form)
  wide_relations = HaveWidth-map (n + new) (relation n new form) (vacant_elements n form) length-relation

  pub relations_firsts : HaveFirsts (relations n new form) (vacant_at n form)
  relations_firsts = record {
    first = λ i l.
        let at = vacant_at-is n form i (omega (arith, length-relations)) in
        subst (λ v. IsFirstOne v (vacant_at n form i)) (sym (row-relations i l)) (relation_first (vacant_at n form i) at.0 at.2);
    rise = λ i j l m. vacant_at-rises n form i j l (omega (arith, length-relations));
    alone = λ i j d l m.
        let a = vacant_at-is n form i (omega (arith, length-relations)) in
        let b = vacant_at-is n form j (omega (arith, length-relations)) in
        let x = vacant_at n form i in
        let y = vacant_at n form j in
        let apart : x ≢ y = λ q. elim (cases_order i j) [
          | inl e ↦ d e
          | inr o ↦ elim o [
            | inl k ↦ omega (arith, vacant_at-rises n form i j k (omega (arith, length-relations)))
            | inr k ↦ omega (arith, vacant_at-rises n form j i k (omega (arith, length-relations)))
          ]
        ] in
        ap (λ v. bit v x) (row-relations j m) ∙ relation_vacant y x b.0 a.0 a.2 ∙ ne_eqb x y apart;
  }

  pub relations_reduced : IsReduced (relations n new form)
  relations_reduced = IsReduced-from_firsts (relations n new form) (vacant_at n form) relations_firsts

  pub relations_nonzero : HasNoZeroRow (relations n new form)
  relations_nonzero = HasNoZeroRow-from_firsts (relations n new form) (vacant_at n form) relations_firsts

  pub relations_pivot : (i : ℕ) → i < length (relations n new form) → pivot_of (row (relations n new form) i) ≡ get_or (vacant_elements n form) i 0
  relations_pivot i l =
      let at = vacant_at-is n form i (omega (arith, length-relations)) in
      pivot_first (row (relations n new form) i) (vacant_at n form i) (relations_firsts.first i l) ∙ sym at.1

  pub pivots_are : vacant_elements n form ≡ map pivot_of (relations n new form)
  pivots_are =
      let l = length-map (relations n new form) pivot_of in
      ext_get_or 0 (vacant_elements n form) (map pivot_of (relations n new form)) (sym (l ∙ length-relations))
      (λ i b.
      let m : i < length (relations n new form) = omega (arith, length-relations) in
      sym (get_or-map pivot_of (relations n new form) i [] 0 m ∙ relations_pivot i m))

-- ---- what the function that makes a row asks

pub row_place : (n new : ℕ) (form : List (List Bool)) (vacant : List ℕ) (i x : ℕ) → AreCleared n form → vacant ≡ vacant_elements n form → x ≡ get_or vacant i x → i < length (relations n new form) → (x ≡ vacant_at n form i) × (x < n)
row_place n new form vacant i x h e at l =
    let v : i < length (vacant_elements n form) = omega (arith, length-relations n new form h) in
    let is = vacant_at-is n form i v in
    let m : i < length vacant = omega (arith, ap length e) in
    let same : x ≡ vacant_at n form i = get_or_read vacant i x m at 0 ∙ ap (λ z. get_or z i 0) e ∙ is.1 in
    (same, (let b : x < n = omega (arith, is.0) in b))

pub length-row_made : (n : ℕ) (form given : List (List Bool)) (u z : List Bool) (x : ℕ) → given ≡ form → u ≡ unit_vector n x → z ≡ solved given u → length z ≡ n
length-row_made n form given u z x g e f = ap length f ∙ length-solved n given u (ap length e ∙ length-unit_vector n x)

pub row_made : (n new width i x : ℕ) (form given : List (List Bool)) (u z r : List Bool) → AreCleared n form → x ≡ vacant_at n form i → i < length (relations n new form) → width ≡ n + new → given ≡ form → u ≡ unit_vector n (n - 1 - x) → z ≡ solved given u → r ≡ reverse z ++ zeros (width - length z) → r ≡ row (relations n new form) i
row_made n new width i x form given u z r h at l w g e f m =
    let lz = length-row_made n form given u z (n - 1 - x) g e f in
    let rest : width - length z ≡ new = omega arith in
    m
    ∙ ap (λ k. reverse z ++ zeros k) rest
    ∙ ap (λ y. reverse y ++ zeros new) (f ∙ ap (λ y. solved y u) g ∙ ap (solved form) e)
    ∙ ap (relation n new form) at
    ∙ sym (row-relations n new form h i l)
