-- One step of each loop.
use Rattle.std.proofs.Common.{◌≡◌, ◌↔◌, inl, inr, ℕ, ◌+◌, ◌-◌, ◌<◌, ◌≤◌, nat_eq, Bool, true, false, cond, not, List, [], ◌∷◌, ◌++◌, length, map, take, drop, reverse, get_or, set, refl, ap, sym, ◌∙◌, arith}
use Rattle.std.specs.List.{items_where_true, range_with_len, filter}
use Rattle.std.proofs.lemmas.Bool.{cases_lt, cases_Bool}
use Rattle.std.proofs.lemmas.Bool.Decides.{nat_tests}
use Rattle.std.proofs.lemmas.List.FromFn.{length-range_with_len, get_or-range_with_len}
use Rattle.std.proofs.lemmas.List.{ext_get_or, drop-set, append_assoc, append-nil, at_drop_more, take_more, take_at, drop_at, set_at, get_or-map, get_or-reverse, get_or_push, get_or_append_left, get_or-append_right, get_or-set_same, length-take-le, length-map, length-append, length-reverse}
use Rattle.f2_vec.specs.Vectors.{sum_of, zeros, bit, IsZero, IsFirstOne}
use Rattle.f2_vec.proofs.Sums.{bit-zeros, length-zeros}
use Rattle.f2_vec.specs.Spans.{row, unit_vector, unit_vectors}
use Rattle.f2_vec.proofs.Split.{bit-unit_vector, length-unit_vector}
use Rattle.f2_vec.proofs.Combinations.{map_same}
use Rattle.f2_vec.proofs.Ones.{items_where_true-push}
use Rattle.f2_matrix.specs.Preimages.{pivot_of}
use Rattle.f2_choice.specs.Inside.Columns.{column}
use Rattle.f2_matrix.specs.Reduction.{has_one}
use Rattle.f2_matrix.proofs.Parts.{has_one-zero, zero_has_none}
use Rattle.f2_choice.proofs.Loops.{range_push}
use Rattle.std.proofs.lemmas.List.Elements.{filter-append}
use Rattle.f2_matrix.proofs.Pivots.{pivot_first}
use Rattle.f2_choice.specs.Inside.Dots.{dot}
use Rattle.f2_choice.proofs.OnCandidates.{row-column}
use Rattle.f2_kernel.specs.Inside.Upward.{clear_one, cleared_by, upward, are_zero, solved_one, solved, has_no_pivot, relation, relations}
use Rattle.f2_kernel.proofs.Cleared.{bit_at_zero}

-- ---- one row

pub cleared_true : (r v : List Bool) (p : ℕ) → IsFirstOne r p → bit v p ≡ true → clear_one r v ≡ sum_of v r
cleared_true r v p f e = ap (λ b. cond b (sum_of v r) v) (ap (bit v) (pivot_first r p f) ∙ e)

pub cleared_false : (r v : List Bool) (p : ℕ) → IsFirstOne r p → bit v p ≡ false → clear_one r v ≡ v
cleared_false r v p f e = ap (λ b. cond b (sum_of v r) v) (ap (bit v) (pivot_first r p f) ∙ e)

pub cleared_zero : (n : ℕ) (r v : List Bool) → length r ≡ n → length v ≡ n → IsZero r → clear_one r v ≡ v
cleared_zero n r v lr lv z = ap (λ b. cond b (sum_of v r) v) (bit_at_zero n r v lr lv z)

pub solved_true : (r y : List Bool) (p : ℕ) → IsFirstOne r p → dot r y ≡ true → solved_one r y ≡ sum_of y (unit_vector (length y) p)
solved_true r y p f e = ap (λ b. cond b (sum_of y (unit_vector (length y) (pivot_of r))) y) e ∙ ap (λ q. sum_of y (unit_vector (length y) q)) (pivot_first r p f)

-- ---- rows cleared upward

pub upward_more : (n i : ℕ) (xs cur above below : List (List Bool)) (d x : List Bool) → i < length xs → cur ≡ take (i + 1) xs ++ upward (drop (i + 1) xs) → above ≡ take (i + 1) cur → below ≡ drop (i + 1) cur → x ≡ cleared_by below (get_or above i d) → set above i x ++ below ≡ take i xs ++ upward (drop i xs)
upward_more n i xs cur above below d x l c a b e =
    let lt : length (take (i + 1) xs) ≡ i + 1 = length-take-le (i + 1) xs (omega arith) in
    let li : length (take i xs) ≡ i = length-take-le i xs (omega arith) in
    let is_above : above ≡ take i xs ++ row xs i ∷ [] = a ∙ ap (take (i + 1)) c ∙ take_at (take (i + 1) xs) (upward (drop (i + 1) xs)) (i + 1) lt ∙ take_more xs i [] l in
    let is_below : below ≡ upward (drop (i + 1) xs) = b ∙ ap (drop (i + 1)) c ∙ drop_at (take (i + 1) xs) (upward (drop (i + 1) xs)) (i + 1) lt in
    let here : get_or above i d ≡ row xs i = ap (λ z. get_or z i d) is_above ∙ get_or_push (take i xs) (row xs i) d i li in
    let value : x ≡ cleared_by (upward (drop (i + 1) xs)) (row xs i) = e ∙ ap (λ z. cleared_by z (get_or above i d)) is_below ∙ ap (cleared_by (upward (drop (i + 1) xs))) here in
    let written : set above i x ≡ take i xs ++ x ∷ [] = ap (λ z. set z i x) is_above ∙ set_at (take i xs) (row xs i) [] x i li in
    ap (λ z. z ++ below) written
    ∙ append_assoc (take i xs) (x ∷ []) below
    ∙ ap (λ (z : List (List Bool)). take i xs ++ x ∷ z) is_below
    ∙ ap (λ (z : List Bool). take i xs ++ z ∷ upward (drop (i + 1) xs)) value
    ∙ ap (λ z. take i xs ++ z) (sym (at_drop_more upward xs i [] l))

-- and the pivots of what is cleared
pub pivots_more : (i : ℕ) (xs cur above below : List (List Bool)) (d d2 x : List Bool) (pivots : List ℕ) (p : ℕ) → i < length xs → i < length pivots → cur ≡ take (i + 1) xs ++ upward (drop (i + 1) xs) → above ≡ take (i + 1) cur → below ≡ drop (i + 1) cur → x ≡ cleared_by below (get_or above i d) → drop (i + 1) pivots ≡ map pivot_of (upward (drop (i + 1) xs)) → p ≡ pivot_of (get_or (set above i x) i d2) → drop i (set pivots i p) ≡ map pivot_of (upward (drop i xs))
pivots_more i xs cur above below d d2 x pivots p l room c a b e h q =
    let whole = upward_more 0 i xs cur above below d x l c a b e in
    let lx : length (take (i + 1) xs) ≡ i + 1 = length-take-le (i + 1) xs (omega arith) in
    let la : length above ≡ i + 1 = ap length (a ∙ ap (take (i + 1)) c ∙ take_at (take (i + 1) xs) (upward (drop (i + 1) xs)) (i + 1) lx) ∙ lx in
    let is : get_or (set above i x) i d2 ≡ x = get_or-set_same above i x d2 (omega arith) in
    let li : length (take i xs) ≡ i = length-take-le i xs (omega arith) in
    let lower : below ≡ upward (drop (i + 1) xs) = b ∙ ap (drop (i + 1)) c ∙ drop_at (take (i + 1) xs) (upward (drop (i + 1) xs)) (i + 1) lx in
    let here : get_or above i d ≡ row xs i = ap (λ z. get_or z i d) (a ∙ ap (take (i + 1)) c ∙ take_at (take (i + 1) xs) (upward (drop (i + 1) xs)) (i + 1) lx ∙ take_more xs i [] l) ∙ get_or_push (take i xs) (row xs i) d i li in
    let value : x ≡ cleared_by (upward (drop (i + 1) xs)) (row xs i) = e ∙ ap (λ z. cleared_by z (get_or above i d)) lower ∙ ap (cleared_by (upward (drop (i + 1) xs))) here in
    drop-set pivots i p room
    ∙ ap (λ (z : List ℕ). p ∷ z) h
    ∙ ap (λ z. z ∷ map pivot_of (upward (drop (i + 1) xs))) (q ∙ ap pivot_of (is ∙ value))
    ∙ sym (ap (map pivot_of) (at_drop_more upward xs i [] l))

-- ---- solving

pub solved_more : (i : ℕ) (rows : List (List Bool)) (r y z : List Bool) → i < length rows → r ≡ row rows i → z ≡ solved (r ∷ []) y → solved (drop (i + 1) rows) z ≡ solved (drop i rows) y
solved_more i rows r y z l e f = ap (solved (drop (i + 1) rows)) (f ∙ ap (λ x. solved_one x y) e) ∙ sym (at_drop_more (λ rs. solved rs y) rows i [] l)

-- ---- turned vectors

pub turned_is : (width i : ℕ) (v t : List Bool) → length t ≡ width → length v ≤ width → length v ≤ i → ((k : ℕ) → k < i → k < length v → bit t (length v - 1 - k) ≡ bit v k) → ((p : ℕ) → ((k : ℕ) → k < i → k < length v → p ≡ length v - 1 - k → ⊥) → bit t p ≡ false) → t ≡ reverse v ++ zeros (width - length v)
turned_is width i v t lt within all done rest =
    let zs = zeros (width - length v) in
    let lr = length-reverse v in
    let whole : length (reverse v ++ zs) ≡ width = omega (arith, length-append (reverse v) zs, lr, length-zeros (width - length v)) in
    ext_get_or false t (reverse v ++ zs) (lt ∙ sym whole)
    (λ p l. elim (cases_lt p (length v)) [
      | inl b ↦
          let k = length v - 1 - p in
          let back : length v - 1 - k ≡ p = omega arith in
          ap (bit t) (sym back) ∙ done k (omega arith) (omega arith) ∙ sym (get_or_append_left (reverse v) zs false p (omega arith) ∙ get_or-reverse v p false b)
      | inr b ↦ rest p (λ k c d e. omega arith) ∙ sym (get_or-append_right (reverse v) zs (length v) p false lr b ∙ bit-zeros (width - length v) (p - length v))
    ])

-- ---- columns

pub column_is : (place i : ℕ) (rows : List (List Bool)) (c : List Bool) → length c ≡ length rows → length rows ≤ i → ((k : ℕ) → k < i → k < length rows → bit c k ≡ bit (row rows (length rows - 1 - k)) place) → c ≡ column place (reverse rows)
column_is place i rows c lc all done =
    let lr = length-reverse rows in
    ext_get_or false c (column place (reverse rows)) (lc ∙ sym (length-map (reverse rows) (λ v. bit v place) ∙ lr))
    (λ k l.
    let m : k < length rows = omega arith in
    done k (omega arith) m ∙ ap (λ v. bit v place) (sym (get_or-reverse rows k [] m)) ∙ sym (row-column place (reverse rows) k (omega arith)))

-- ---- chosen rows

pub chosen_more : (i : ℕ) (kept : List Bool) (rows old new : List (List Bool)) (b : Bool) → i < length kept → length kept ≡ length rows → old ≡ items_where_true (take i kept) (take i rows) → b ≡ bit kept i → new ≡ old ++ cond b (row rows i ∷ []) [] → new ≡ items_where_true (take (i + 1) kept) (take (i + 1) rows)
chosen_more i kept rows old new b l same o e n =
    let m : i < length rows = omega arith in
    let lk : length (take i kept) ≡ length (take i rows) = length-take-le i kept (omega arith) ∙ sym (length-take-le i rows (omega arith)) in
    n ∙ ap (λ z. z ++ cond b (row rows i ∷ []) []) o
    ∙ ap (λ c. items_where_true (take i kept) (take i rows) ++ cond c (row rows i ∷ []) []) e
    ∙ sym (items_where_true-push (take i kept) (bit kept i) (take i rows) (row rows i) lk)
    ∙ ap (λ z. items_where_true z (take i rows ++ row rows i ∷ [])) (sym (take_more kept i false l))
    ∙ ap (items_where_true (take (i + 1) kept)) (sym (take_more rows i [] m))

-- ---- vacant elements

pub filter_more : (p : ℕ → Bool) (k : ℕ) (old new : List ℕ) → old ≡ filter p (range_with_len 0 k) → new ≡ old ++ cond (p k) (k ∷ []) [] → new ≡ filter p (range_with_len 0 (k + 1))
filter_more p k old new o n =
    let e : 0 + k ≡ k = omega arith in
    let whole : filter p (range_with_len 0 (k + 1)) ≡ filter p (range_with_len 0 k) ++ cond (p k) (k ∷ []) [] =
    ap (filter p) (range_push 0 k ∙ ap (λ x. range_with_len 0 k ++ x ∷ []) e) ∙ filter-append p (range_with_len 0 k) (k ∷ []) in
    n ∙ ap (λ z. z ++ cond (p k) (k ∷ []) []) o ∙ sym whole

-- an element more, which is vacant where nothing is at its place
pub vacant_push : (form : List (List Bool)) (n e : ℕ) (taken : List Bool) (b : Bool) (old new : List ℕ) → e < n → ((p : ℕ) → p < n → bit taken p ≡ not (has_no_pivot form p)) → not b ≡ bit taken (n - 1 - e) → old ≡ filter (λ k. has_no_pivot form (n - 1 - k)) (range_with_len 0 e) → new ≡ old ++ cond b (e ∷ []) [] → new ≡ filter (λ k. has_no_pivot form (n - 1 - k)) (range_with_len 0 (e + 1))
vacant_push form n e taken b old new l h t o m =
    let v : b ≡ has_no_pivot form (n - 1 - e) = turned b (has_no_pivot form (n - 1 - e)) (t ∙ h (n - 1 - e) (omega arith)) in
    filter_more (λ k. has_no_pivot form (n - 1 - k)) e old new o (m ∙ ap (λ c. old ++ cond c (e ∷ []) []) v)
  where
    turned : (x y : Bool) → not x ≡ not y → x ≡ y
    turned true true e = refl
    turned true false e = sym e
    turned false true e = sym e
    turned false false e = refl

-- ---- zero rows

pub is_zero_bit : (form : List (List Bool)) (i : ℕ) (v : List Bool) (b : Bool) → i < length form → v ≡ row form i → (b ≡ true) ↔ IsZero v → b ≡ bit (are_zero form) i
is_zero_bit form i v b l e h =
    by b h ∙ ap (λ x. not (has_one x)) e ∙ sym (get_or-map (λ x. not (has_one x)) form i [] false l)
  where
    by : (b : Bool) → (b ≡ true) ↔ IsZero v → b ≡ not (has_one v)
    by true h = sym (ap not (zero_has_none v (h.0 refl)))
    by false h = elim (cases_Bool (has_one v)) [
      | inl one ↦ sym (ap not one)
      | inr none ↦ h.1 (has_one-zero v none) ∙ sym (ap not none)
    ]

-- ---- all vectors

pub whole_relations : (n : ℕ) (form : List (List Bool)) → form ≡ [] → relations n 0 form ≡ unit_vectors n
whole_relations n form none =
    ap (relations n 0) none
    ∙ ap (map (relation n 0 [])) (same (range_with_len 0 n))
    ∙ map_same 0 (relation n 0 []) (unit_vector n) (range_with_len 0 n)
    (λ i l.
    let m : i < n = omega (arith, length-range_with_len 0 n) in
    let at : get_or (range_with_len 0 n) i 0 ≡ i = omega (arith, get_or-range_with_len 0 n i 0 m) in
    ap (relation n 0 []) at ∙ unit i m ∙ sym (ap (unit_vector n) at))
  where
    same : (xs : List ℕ) → filter (λ e. has_no_pivot [] (n - 1 - e)) xs ≡ xs
    same [] = refl
    same (x ∷ xs) = ap (λ (z : List ℕ). x ∷ z) (same xs)

    unit : (e : ℕ) → e < n → relation n 0 [] e ≡ unit_vector n e
    unit e l =
        let u = unit_vector n (n - 1 - e) in
        let lu = length-unit_vector n (n - 1 - e) in
        append-nil (reverse u)
        ∙ ext_get_or false (reverse u) (unit_vector n e) (length-reverse u ∙ lu ∙ sym (length-unit_vector n e))
        (λ k b.
        let m : k < n = omega (arith, length-reverse u, lu) in
        get_or-reverse u k false (omega (arith, lu))
        ∙ ap (λ z. bit u (z - 1 - k)) lu
        ∙ bit-unit_vector n (n - 1 - e) (n - 1 - k) (omega arith)
        ∙ (let t : nat_eq (n - 1 - k) (n - 1 - e) ≡ nat_eq k e = grind (arith, nat_tests) in t)
        ∙ sym (bit-unit_vector n e k l))
