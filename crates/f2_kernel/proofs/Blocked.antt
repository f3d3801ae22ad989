-- Rows cleared by blocks, the last one first: a block clears the rows before it by its sums.
use Rattle.std.proofs.Common.{◌≡◌, ◌≢◌, inl, inr, ℕ, ◌-◌, ◌<◌, ◌≤◌, Bool, true, false, List, [], ◌∷◌, ◌++◌, length, map, take, drop, refl, ap, sym, subst, ◌∙◌, arith}
use Rattle.std.proofs.lemmas.Bool.{cases_lt, both_ways}
use Rattle.std.proofs.lemmas.List.{get_or_past, get_or-take, get_or-map, length-map, length-take-le, length-drop, append-nil, nil_from_length, take_all, map-id, take-map, drop-map, take-append-drop, take_at, drop_at, take-append-le, drop-append-le}
use Rattle.f2_vec.specs.Vectors.{plus, sum_of, bit, IsZero, IsFirstOne}
use Rattle.f2_vec.specs.Spans.{row, HaveWidth, combination, IsInSpan, HaveSameSpan}
use Rattle.f2_vec.proofs.Sums.{bit-sum_of, length-sum_of, plus-self, sum_of-comm, sum_of-assoc, sum_of-cancel, sum_of-zeros_right, zeros_from_bits}
use Rattle.f2_vec.proofs.Spans.{HaveWidth-append, length-combination, row-IsInSpan, zeros-IsInSpan, HaveSameSpan_from_rows, sum-IsInSpan, bit-combination_alone}
use Rattle.f2_vec.proofs.Combinations.{HaveWidth-take, map-map, map_same}
use Rattle.f2_matrix.specs.Echelon.{IsEchelonForm, IsRowBasis, IsReduced, HasNoZeroRow}
use Rattle.f2_matrix.specs.Preimages.{pivot_of, at_pivots, rest_of}
use Rattle.f2_matrix.proofs.Unique.{zero_or_first}
use Rattle.f2_matrix.proofs.Pivots.{pivot_first, length-at_pivots, bit-at_pivots}
use Rattle.f2_kernel.specs.Inside.Upward.{clear_one, cleared_by, upward, AreCleared, IsBlockCleared}
use Rattle.f2_kernel.proofs.Cleared.{zero_or_pivot, bit_at_zero, length-cleared_by, cleared_by-clears, cleared_by-added, span_first, HaveWidth-upward}
use Rattle.f2_vec.proofs.Spans.{HaveWidth-drop}

-- ---- one block behind another

pub cleared_by-append : (a b : List (List Bool)) (v : List Bool) → cleared_by (a ++ b) v ≡ cleared_by a (cleared_by b v)
cleared_by-append [] b v = refl
cleared_by-append (r ∷ a) b v = ap (clear_one r) (cleared_by-append a b v)

pub upward-append : (b c : List (List Bool)) → upward (b ++ c) ≡ upward (map (cleared_by (upward c)) b) ++ upward c
upward-append [] c = refl
upward-append (x ∷ b) c =
    let us = upward (map (cleared_by (upward c)) b) in
    ap (λ z. cleared_by z x ∷ z) (upward-append b c) ∙ ap (λ y. y ∷ (us ++ upward c)) (cleared_by-append us (upward c) x)

-- the rows from place e on are cleared, and those before it at the pivots of these
abbrev pub AreClearedFrom : ℕ → List (List Bool) → List (List Bool) → Type 0
AreClearedFrom e xs cur = cur ≡ map (cleared_by (upward (drop e xs))) (take e xs) ++ upward (drop e xs)

pub block_more : (s e : ℕ) (xs cur new : List (List Bool)) → s ≤ e → e ≤ length xs → AreClearedFrom e xs cur → IsBlockCleared s e cur new → AreClearedFrom s xs new
block_more s e xs cur new l m before h =
    let x = take e xs in
    let c = drop e xs in
    let f = cleared_by (upward c) in
    let lx : length x ≡ e = length-take-le e xs m in
    let lf : length (map f x) ≡ e = length-map x f ∙ lx in
    let first : take e cur ≡ map f x = ap (take e) before ∙ take_at (map f x) (upward c) e lf in
    let last : drop e cur ≡ upward c = ap (drop e) before ∙ drop_at (map f x) (upward c) e lf in
    let a = take s x in
    let b = drop s x in
    let us = upward (map f b) in
    let above : take s (take e cur) ≡ map f a = ap (take s) first ∙ take-map f s x in
    let block : drop s (take e cur) ≡ map f b = ap (drop s) first ∙ drop-map f s x in
    let now : new ≡ map (cleared_by us) (map f a) ++ (us ++ upward c) =
    h ∙ ap (λ z. map (cleared_by (upward z)) (take s (take e cur)) ++ (upward z ++ drop e cur)) block
    ∙ ap (λ z. map (cleared_by us) z ++ (us ++ drop e cur)) above
    ∙ ap (λ z. map (cleared_by us) (map f a) ++ (us ++ z)) last in
    let whole : xs ≡ x ++ c = sym (take-append-drop e xs) in
    let behind : drop s xs ≡ b ++ c = ap (drop s) whole ∙ drop-append-le s x c (omega (arith, lx)) in
    let front : take s xs ≡ a = ap (take s) whole ∙ take-append-le s x c (omega (arith, lx)) in
    let form : upward (drop s xs) ≡ us ++ upward c = ap upward behind ∙ upward-append b c in
    let rows : map (cleared_by us) (map f a) ≡ map (cleared_by (us ++ upward c)) a =
    map-map (cleared_by us) f a ∙ map_same [] (λ v. cleared_by us (f v)) (cleared_by (us ++ upward c)) a (λ i k. sym (cleared_by-append us (upward c) (row a i))) in
    now ∙ ap (λ z. z ++ (us ++ upward c)) rows ∙ ap (λ z. map (cleared_by z) a ++ z) (sym form) ∙ ap (λ z. map (cleared_by (upward (drop s xs))) z ++ upward (drop s xs)) (sym front)

pub cleared_from_start : (xs : List (List Bool)) → AreClearedFrom (length xs) xs xs
cleared_from_start xs =
    let none : drop (length xs) xs ≡ [] = nil_from_length (drop (length xs) xs) (length-drop (length xs) xs ∙ omega arith) in
    let all : take (length xs) xs ≡ xs = take_all (length xs) xs (omega arith) in
    let front : map (cleared_by []) xs ≡ xs = map_same [] (cleared_by []) (λ v. v) xs (λ i l. refl) ∙ map-id xs in
    sym (ap (λ z. map (cleared_by (upward z)) (take (length xs) xs) ++ upward z) none ∙ append-nil (map (cleared_by []) (take (length xs) xs)) ∙ ap (map (cleared_by [])) all ∙ front)

pub HaveWidth-AreClearedFrom : (n e : ℕ) (xs cur : List (List Bool)) → HaveWidth n xs → AreClearedFrom e xs cur → HaveWidth n cur
HaveWidth-AreClearedFrom n e xs cur w h =
    let us = upward (drop e xs) in
    let wu : HaveWidth n us = HaveWidth-upward n (drop e xs) (HaveWidth-drop n e xs w) in
    let wt : HaveWidth n (take e xs) = HaveWidth-take n e xs w in
    let wf : HaveWidth n (map (cleared_by us) (take e xs)) = λ i l.
    let k : i < length (take e xs) = omega (arith, l, length-map (take e xs) (cleared_by us)) in
    ap length (get_or-map (cleared_by us) (take e xs) i [] [] k) ∙ length-cleared_by n us (row (take e xs) i) wu (wt i k) in
    subst (λ (z : List (List Bool)). HaveWidth n z) (sym h) (HaveWidth-append n (map (cleared_by us) (take e xs)) us wf wu)

-- ---- what clears a vector is determined

pub AreCleared-IsReduced : (n : ℕ) (rows : List (List Bool)) → HaveWidth n rows → IsReduced rows → AreCleared n rows
AreCleared-IsReduced n rows w h = record { widths = w; cleared = cleared }
  where
    cleared : (i j : ℕ) → i < j → j < length rows → bit (row rows i) (pivot_of (row rows j)) ≡ false
    cleared i j l m = elim (zero_or_pivot (row rows j)) [
      | inl z ↦ bit_at_zero n (row rows j) (row rows i) (w j m) (w i (omega arith)) z
      | inr f ↦ h.pivots_alone j i (pivot_of (row rows j)) (λ e. absurd (omega arith)) f
    ]

pub cleared_unique : (n : ℕ) (us ws : List (List Bool)) (v u w : List Bool) → AreCleared n us → AreCleared n ws → HaveSameSpan n us ws → length v ≡ n → length u ≡ n → length w ≡ n → IsInSpan n us (sum_of v u) → ((j : ℕ) → j < length us → bit u (pivot_of (row us j)) ≡ false) → IsInSpan n ws (sum_of v w) → ((j : ℕ) → j < length ws → bit w (pivot_of (row ws j)) ≡ false) → u ≡ w
cleared_unique n us ws v u w hu hw same lv lu lw su zu sw zw =
    let d = sum_of u w in
    let ld : length d ≡ n = length-sum_of u w (lu ∙ sym lw) ∙ lu in
    let e : sum_of (sum_of v u) (sum_of v w) ≡ d =
    ap (λ z. sum_of z (sum_of v w)) (sum_of-comm v u) ∙ sum_of-assoc u v (sum_of v w) ∙ ap (sum_of u) (sum_of-cancel n v w lv lw) in
    let inside : IsInSpan n us d = subst (IsInSpan n us) e (sum-IsInSpan n us (sum_of v u) (sum_of v w) hu.widths su ((same (sum_of v w)).1 sw)) in
    let outside : IsInSpan n ws d = (same d).0 inside in
    elim (zero_or_first d) [
      | inl z ↦ sym (sym (sum_of-cancel n u w lu lw) ∙ ap (sum_of u) (zeros_from_bits n d ld z) ∙ sum_of-zeros_right n u lu)
      | inr f ↦
          let p = f.0 in
          let a = span_first n us inside.coefficients p hu (subst (λ z. IsFirstOne z p) (sym inside.sum) f.1) in
          let b = span_first n ws outside.coefficients p hw (subst (λ z. IsFirstOne z p) (sym outside.sum) f.1) in
          let at_u : bit u p ≡ false = ap (bit u) (sym (pivot_first (row us a.0) p a.2)) ∙ zu a.0 a.1 in
          let at_w : bit w p ≡ false = ap (bit w) (sym (pivot_first (row ws b.0) p b.2)) ∙ zw b.0 b.1 in
          absurd (both_ways (bit d p) (bit-sum_of u w p (lu ∙ sym lw) ∙ ap (λ x. plus x (bit w p)) at_u ∙ ap (plus false) at_w) f.1.one)
    ]

-- ---- a vector cleared by a sum of the echelon form

pub with_sum-clears : (n : ℕ) (rows : List (List Bool)) (v : List Bool) → HaveWidth n rows → IsReduced rows → length v ≡ n → (j : ℕ) → j < length rows → bit (sum_of v (combination n (at_pivots rows v) rows)) (pivot_of (row rows j)) ≡ false
with_sum-clears n rows v w h lv j l =
    let s = combination n (at_pivots rows v) rows in
    let ls : length s ≡ n = length-combination n (at_pivots rows v) rows w in
    let p = pivot_of (row rows j) in
    elim (zero_or_pivot (row rows j)) [
      | inl z ↦ bit_at_zero n (row rows j) (sum_of v s) (w j l) (length-sum_of v s (lv ∙ sym ls) ∙ lv) z
      | inr f ↦
          let at : bit s p ≡ bit v p =
          bit-combination_alone n (at_pivots rows v) rows j p w l (length-at_pivots rows v) f.one (λ i m d. h.pivots_alone j i p (λ e. d (sym e)) f) ∙ bit-at_pivots rows v j l in
          bit-sum_of v s p (lv ∙ sym ls) ∙ ap (plus (bit v p)) at ∙ plus-self (bit v p)
    ]

-- the rows of an echelon form clear what the rows clear
pub rest_of-is : (n : ℕ) (block form : List (List Bool)) (v : List Bool) → AreCleared n block → IsRowBasis n block form → length v ≡ n → rest_of n form v ≡ cleared_by block v
rest_of-is n block form v h g lv =
    let k = at_pivots form v in
    let s = combination n k form in
    let ls : length s ≡ n = length-combination n k form g.widths in
    let added : IsInSpan n form (sum_of v (sum_of v s)) = record { coefficients = k; one_each = length-at_pivots form v; sum = sym (sum_of-cancel n v s lv ls) } in
    sym (cleared_unique n block form v (cleared_by block v) (sum_of v s) h (AreCleared-IsReduced n form g.widths g.reduced) g.same_span lv (length-cleared_by n block v h.widths lv) (length-sum_of v s (lv ∙ sym ls) ∙ lv)
    (cleared_by-added n block v h.widths lv) (cleared_by-clears n block v h lv) added (with_sum-clears n form v g.widths g.reduced lv))

pub all_cleared : (n : ℕ) (block form rows new : List (List Bool)) → AreCleared n block → IsRowBasis n block form → HaveWidth n rows → new ≡ map (rest_of n form) rows → new ≡ map (cleared_by block) rows
all_cleared n block form rows new h g w e = e ∙ map_same [] (rest_of n form) (cleared_by block) rows (λ i l. rest_of-is n block form (row rows i) h g (w i l))

-- ---- an echelon form without its zero rows

pub without_zeros-IsRowBasis : (n : ℕ) (block form basis : List (List Bool)) → IsEchelonForm n block form → basis ≡ take (length basis) form → length basis ≤ length form → HasNoZeroRow basis → ((i : ℕ) → length basis ≤ i → IsZero (row form i)) → IsRowBasis n block basis
without_zeros-IsRowBasis n block form basis h e m nonzero zero =
    let same : HaveSameSpan n form basis = HaveSameSpan_from_rows n form basis h.widths wide covered inside in
    record {
      widths = wide;
      same_span = λ v. (λ s. (same v).0 ((h.same_span v).0 s), λ s. (h.same_span v).1 ((same v).1 s));
      reduced = record { zero_rows_last = last; pivots_rise = rise; pivots_alone = alone };
      nonzero = nonzero;
    }
  where
    at : (i : ℕ) → i < length basis → row basis i ≡ row form i
    at i l = ap (λ z. row z i) e ∙ get_or-take (length basis) form i [] l

    past : (i p : ℕ) → length basis ≤ i → bit (row basis i) p ≡ false
    past i p l = ap (λ v. bit v p) (get_or_past basis i [] l) ∙ get_or_past [] p false (omega arith)

    wide : HaveWidth n basis
    wide i l = ap length (at i l) ∙ h.widths i (omega (arith, l, m))

    covered : (i : ℕ) → i < length form → IsInSpan n basis (row form i)
    covered i l = elim (cases_lt i (length basis)) [
      | inl k ↦ subst (IsInSpan n basis) (at i k) (row-IsInSpan n basis i wide k)
      | inr k ↦ subst (IsInSpan n basis) (sym (zeros_from_bits n (row form i) (h.widths i l) (zero i k))) (zeros-IsInSpan n basis wide)
    ]

    inside : (i : ℕ) → i < length basis → IsInSpan n form (row basis i)
    inside i l = subst (IsInSpan n form) (sym (at i l)) (row-IsInSpan n form i h.widths (omega (arith, l, m)))

    there : (i p : ℕ) → bit (row basis i) p ≡ true → i < length basis
    there i p o = elim (cases_lt i (length basis)) [
      | inl k ↦ k
      | inr k ↦ absurd (both_ways (bit (row basis i) p) (past i p k) o)
    ]

    last : (i j : ℕ) → i < j → IsZero (row basis i) → IsZero (row basis j)
    last i j l z = elim (cases_lt j (length basis)) [
      | inl k ↦ absurd (nonzero i (omega (arith, l, k)) z)
      | inr k ↦ λ p. past j p k
    ]

    first : (i p : ℕ) → IsFirstOne (row basis i) p → IsFirstOne (row form i) p
    first i p f = subst (λ v. IsFirstOne v p) (at i (there i p f.one)) f

    rise : (i j p q : ℕ) → i < j → IsFirstOne (row basis i) p → IsFirstOne (row basis j) q → p < q
    rise i j p q l f g = h.reduced.pivots_rise i j p q l (first i p f) (first j q g)

    alone : (i j p : ℕ) → i ≢ j → IsFirstOne (row basis i) p → bit (row basis j) p ≡ false
    alone i j p d f = elim (cases_lt j (length basis)) [
      | inl k ↦ ap (λ v. bit v p) (at j k) ∙ h.reduced.pivots_alone i j p d (first i p f)
      | inr k ↦ past j p k
    ]

-- where the row before place `end` is not zero, none of those before it is
pub nonzero_before : (rows basis : List (List Bool)) (end : ℕ) (x : List Bool) → IsReduced rows → basis ≡ take end rows → length basis ≡ end → x ≡ row rows (end - 1) → (IsZero x → ⊥) → HasNoZeroRow basis
nonzero_before rows basis end x h e len at not i l z =
    let same : row basis i ≡ row rows i = ap (λ b. row b i) e ∙ get_or-take end rows i [] (omega (arith, l, len)) in
    let zi : IsZero (row rows i) = subst IsZero same z in
    elim (cases_lt i (end - 1)) [
      | inl k ↦ not (subst IsZero (sym at) (h.zero_rows_last i (end - 1) k zi))
      | inr k ↦ let q : i ≡ end - 1 = omega (arith, l, len, k) in not (subst IsZero (ap (row rows) q ∙ sym at) zi)
    ]
