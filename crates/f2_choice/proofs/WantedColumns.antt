-- The columns of the form that are parts: those at places with no pivot, and those behind the bar.
use Rattle.std.proofs.Common.{◌≡◌, ℕ, suc, ◌+◌, ◌-◌, ◌<◌, ◌≤◌, Bool, true, false, cond, not, Option, List, [], ◌∷◌, ◌++◌, length, map, take, drop, get_or, refl, ap, sym, ◌∙◌, arith, subst, inl, inr}
use Rattle.std.specs.List.{range_with_len, filter}
use Rattle.std.specs.Option.{is_some}
use Rattle.std.proofs.lemmas.Bool.{cases_Bool}
use Rattle.std.proofs.lemmas.List.{ext_get_or, get_or-take, get_or-map, length-map, length-append, map-append, get_or_append_left, get_or-append_right, take_at, drop_at}
use Rattle.std.proofs.lemmas.List.FromFn.{length-range_with_len, get_or-range_with_len, length-map-range_with_len, get_or-map-range_with_len}
use Rattle.f2_vec.specs.Vectors.{sum_of, zeros}
use Rattle.f2_vec.specs.Spans.{row, unit_vector}
use Rattle.f2_matrix.specs.Reduction.{has_one}
use Rattle.f2_matrix.proofs.Kept.{place_of, kept_at}
use Rattle.f2_choice.specs.Inside.Columns.{column, columns, columns_at, with_element}
use Rattle.f2_choice.specs.Inside.Coordinates.{is_free, free_elements, relation_of, relations_of, preimage_at, preimages_of}
use Rattle.f2_choice.specs.Inside.Form.{parts_of}
use Rattle.f2_choice.specs.Inside.Tables.{entry_at, place_in, is_vacant, vacant_places, wanted_places, spread_by, IsTableOfPivots, IsReducedBasis}
use Rattle.f2_choice.proofs.Form.{elements_at, columns-form, relation-turned, length-elements_at}
use Rattle.f2_choice.proofs.Tables.{free_where_vacant, not_free_where_taken}

-- tests that agree on a list keep the same of it
pub filter_same_on : (p q : ℕ → Bool) (xs : List ℕ) → ((i : ℕ) → i < length xs → p (get_or xs i 0) ≡ q (get_or xs i 0)) → filter p xs ≡ filter q xs
filter_same_on p q [] h = refl
filter_same_on p q (x ∷ xs) h =
    let e : p x ≡ q x = h 0 (omega arith) in
    let r = filter_same_on p q xs (λ i l. h (suc i) (omega arith)) in
    ap (λ b. cond b (x ∷ filter p xs) (filter p xs)) e ∙ ap (λ z. cond (q x) (x ∷ z) z) r

abbrev elements : List (Option ℕ) → List ℕ
elements table = filter (is_vacant table) (range_with_len 0 (length table))

module _ (n w : ℕ) (bar : n ≤ w) (image kernel : List (List Bool)) (table : List (Option ℕ)) (t : IsTableOfPivots n (map (take n) image) table) (basis : IsReducedBasis n (map (take n) image)) (none : (i : ℕ) → has_one (take n (row kernel i)) ≡ false) where
  -- ---- the elements with no pivot are free

  vacant_is_free : (e : ℕ) → e < n → is_vacant table e ≡ is_free n (map (take n) image) e
  vacant_is_free e l =
      let same : place_in table e ≡ n - 1 - e = omega (arith, t.size) in
      let at : is_some (entry_at table (place_in table e)) ≡ is_some (entry_at table (n - 1 - e)) = ap (λ p. is_some (entry_at table p)) same in
      elim (cases_Bool (is_some (entry_at table (n - 1 - e)))) [
        | inl f ↦ ap not (at ∙ f) ∙ sym (not_free_where_taken n e (map (take n) image) table t l f)
        | inr f ↦ ap not (at ∙ f) ∙ sym (free_where_vacant n e (map (take n) image) table t basis l f)
      ]

  elements_are_free : elements table ≡ free_elements n (map (take n) image)
  elements_are_free =
      filter_same_on (is_vacant table) (is_free n (map (take n) image)) (range_with_len 0 (length table))
      (λ i l.
      let m : i < length table = omega (arith, length-range_with_len 0 (length table)) in
      let at : get_or (range_with_len 0 (length table)) i 0 ≡ i = omega (arith, get_or-range_with_len 0 (length table) i 0 m) in
      ap (is_vacant table) at ∙ vacant_is_free i (omega (arith, t.size)) ∙ ap (is_free n (map (take n) image)) (sym at))
      ∙ ap (λ m. filter (is_free n (map (take n) image)) (range_with_len 0 m)) t.size

  element_within : (i : ℕ) → i < length (elements table) → get_or (elements table) i 0 < n
  element_within i l =
      let xs = range_with_len 0 (length table) in
      let s = kept_at (is_vacant table) 0 xs i l in
      let j = place_of (is_vacant table) xs i in
      let m : j < length table = omega (arith, s.0, length-range_with_len 0 (length table)) in
      omega (arith, s.1, get_or-range_with_len 0 (length table) j 0 m, t.size)

  -- ---- the columns at all places

  column_is : (c : ℕ) → c < w → column c (spread_by table w image ++ kernel) ≡ get_or (map (elements_at (parts_of n (w - n) image kernel)) (range_with_len 0 n) ++ preimages_of (parts_of n (w - n) image kernel)) c []
  column_is c l =
      let at : w ≡ n + (w - n) = omega (arith, bar) in
      sym (get_or-map-range_with_len (λ j. column j (spread_by table w image ++ kernel)) 0 w c c [] l (omega arith))
      ∙ ap (λ z. get_or z c []) (ap (λ k. columns k (spread_by table k image ++ kernel)) at ∙ columns-form n (w - n) image kernel table t basis none)

  left_is : (c : ℕ) → c < n → column c (spread_by table w image ++ kernel) ≡ elements_at (parts_of n (w - n) image kernel) c
  left_is c l =
      let r = parts_of n (w - n) image kernel in
      let left = map (elements_at r) (range_with_len 0 n) in
      column_is c (omega (arith, bar))
      ∙ get_or_append_left left (preimages_of r) [] c (omega (arith, length-map-range_with_len (elements_at r) 0 n))
      ∙ get_or-map-range_with_len (elements_at r) 0 n c c [] l (omega arith)

  right_is : (i : ℕ) → i < w - n → column (n + i) (spread_by table w image ++ kernel) ≡ get_or (preimages_of (parts_of n (w - n) image kernel)) i []
  right_is i l =
      let r = parts_of n (w - n) image kernel in
      let left = map (elements_at r) (range_with_len 0 n) in
      let back : n + i - n ≡ i = omega arith in
      column_is (n + i) (omega arith)
      ∙ get_or-append_right left (preimages_of r) n (n + i) [] (length-map-range_with_len (elements_at r) 0 n) (omega arith)
      ∙ ap (λ z. get_or (preimages_of r) z []) back

  -- ---- the wanted ones

  pub count_vacant : length (wanted_places table w) - (w - n) ≡ length (vacant_places table)
  count_vacant = omega (arith, length-append (vacant_places table) (range_with_len (length table) (w - length table)), length-range_with_len (length table) (w - length table), t.size)

  pub enough_places : w - n ≤ length (wanted_places table w)
  enough_places = omega (arith, length-append (vacant_places table) (range_with_len (length table) (w - length table)), length-range_with_len (length table) (w - length table), t.size)

  pub last_are_preimages : (count : ℕ) → count ≡ length (vacant_places table) → drop count (columns_at (wanted_places table w) (spread_by table w image ++ kernel)) ≡ preimages_of (parts_of n (w - n) image kernel)
  last_are_preimages count e =
      let rows = spread_by table w image ++ kernel in
      let col : ℕ → List Bool = λ p. column p rows in
      let r = parts_of n (w - n) image kernel in
      let first = vacant_places table in
      let last = range_with_len (length table) (w - length table) in
      let lr : length (preimages_of r) ≡ w - n = length-map-range_with_len (preimage_at r) 0 (w - n) in
      ap (drop count) (map-append col first last)
      ∙ drop_at (map col first) (map col last) count (length-map first col ∙ sym e)
      ∙ ap (λ m. map col (range_with_len m (w - m))) t.size
      ∙ ext_get_or [] (map col (range_with_len n (w - n))) (preimages_of r) (length-map-range_with_len col n (w - n) ∙ sym lr)
      (λ i l.
      let m : i < w - n = omega (arith, length-map-range_with_len col n (w - n)) in
      get_or-map-range_with_len col n (w - n) i (n + i) [] m refl ∙ right_is i m)

  first_are : (count : ℕ) → count ≡ length (vacant_places table) → take count (columns_at (wanted_places table w) (spread_by table w image ++ kernel)) ≡ columns_at (vacant_places table) (spread_by table w image ++ kernel)
  first_are count e =
      let col : ℕ → List Bool = λ p. column p (spread_by table w image ++ kernel) in
      let first = vacant_places table in
      let last = range_with_len (length table) (w - length table) in
      ap (take count) (map-append col first last) ∙ take_at (map col first) (map col last) count (length-map first col ∙ sym e)

  pub length-first : (count : ℕ) → count ≡ length (vacant_places table) → length (take count (columns_at (wanted_places table w) (spread_by table w image ++ kernel))) ≡ length (vacant_places table)
  length-first count e = ap length (first_are count e) ∙ length-map (vacant_places table) (λ p. column p (spread_by table w image ++ kernel))

  place_is : (i : ℕ) → i < length (vacant_places table) → get_or (wanted_places table w) i 0 ≡ n - 1 - get_or (elements table) i 0
  place_is i l =
      let m : i < length (elements table) = omega (arith, length-map (elements table) (place_in table)) in
      let at : get_or (wanted_places table w) i 0 ≡ get_or (vacant_places table) i 0 = get_or_append_left (vacant_places table) (range_with_len (length table) (w - length table)) 0 i l in
      let is : get_or (vacant_places table) i 0 ≡ place_in table (get_or (elements table) i 0) = get_or-map (place_in table) (elements table) i 0 0 m in
      omega (arith, at, is, t.size)

  pub place_within : (i : ℕ) → i < length (vacant_places table) → get_or (wanted_places table w) i 0 < n
  place_within i l = omega (arith, place_is i l, element_within i (omega (arith, length-map (elements table) (place_in table))))

  first_is : (count i : ℕ) → count ≡ length (vacant_places table) → i < length (vacant_places table) → row (take count (columns_at (wanted_places table w) (spread_by table w image ++ kernel))) i ≡ elements_at (parts_of n (w - n) image kernel) (n - 1 - get_or (elements table) i 0)
  first_is count i e l =
      let col : ℕ → List Bool = λ p. column p (spread_by table w image ++ kernel) in
      let at : get_or (vacant_places table) i 0 ≡ n - 1 - get_or (elements table) i 0 = sym (get_or_append_left (vacant_places table) (range_with_len (length table) (w - length table)) 0 i l) ∙ place_is i l in
      ap (λ z. row z i) (first_are count e)
      ∙ get_or-map col (vacant_places table) i 0 [] l
      ∙ ap col at
      ∙ left_is (n - 1 - get_or (elements table) i 0) (omega (arith, place_is i l, place_within i l))

  pub first_wide : (count i : ℕ) → count ≡ length (vacant_places table) → i < length (vacant_places table) → n ≤ length (row (take count (columns_at (wanted_places table w) (spread_by table w image ++ kernel))) i)
  first_wide count i e l =
      let r = parts_of n (w - n) image kernel in
      omega (arith, ap length (first_is count i e l), length-elements_at r (n - 1 - get_or (elements table) i 0))

  -- the first ones with their elements are the relations
  pub turned_are_relations : (count : ℕ) (new : List (List Bool)) → count ≡ length (vacant_places table) → length new ≡ length (vacant_places table)
      → ((i : ℕ) → i < length (vacant_places table) → row new i ≡ with_element n (get_or (wanted_places table w) i 0) (row (take count (columns_at (wanted_places table w) (spread_by table w image ++ kernel))) i))
      → new ≡ relations_of (parts_of n (w - n) image kernel)
  turned_are_relations count new e ln each =
      let r = parts_of n (w - n) image kernel in
      let f : ℕ → List Bool = λ e. relation_of n r.image e ++ zeros (length r.kernel) in
      let free = free_elements n r.image in
      let many : length (vacant_places table) ≡ length (elements table) = length-map (elements table) (place_in table) in
      let same : length (elements table) ≡ length free = ap length elements_are_free in
      ext_get_or [] new (relations_of r) (ln ∙ many ∙ same ∙ sym (length-map free f))
      (λ i l.
      let b : i < length (vacant_places table) = omega (arith, ln) in
      let m : i < length (elements table) = omega (arith, many) in
      let o : i < length free = omega (arith, same) in
      let x = row (take count (columns_at (wanted_places table w) (spread_by table w image ++ kernel))) i in
      let g = get_or (elements table) i 0 in
      let within : g < n = element_within i m in
      let back : n - 1 - get_or (wanted_places table w) i 0 ≡ g = omega (arith, place_is i b) in
      relation-turned r g x (row new i) within (first_is count i e b) (each i b ∙ ap (λ z. sum_of x (unit_vector (length x) z)) back)
      ∙ ap (λ z. f (get_or z i 0)) elements_are_free
      ∙ sym (get_or-map f free i 0 [] o))
