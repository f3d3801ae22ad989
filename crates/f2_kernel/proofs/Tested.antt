-- The test of the parts of a reduction.
use Rattle.std.proofs.Common.{◌≡◌, ℕ, zero, suc, ◌+◌, ◌<◌, Bool, true, false, not, ◌&&◌, List, [], ◌∷◌, ◌++◌, length, map, replicate, refl, sym, ◌∙◌, ap, arith}
use Rattle.std.specs.Prelude.{nat_eq}
use Rattle.std.specs.List.{list_all}
use Rattle.std.proofs.lemmas.Bool.{false≢true, and_parts, and_from, not-true, not_from_false, eqb-true, eq-eqb}
use Rattle.f2_vec.specs.Vectors.{bit, zeros, IsFirstOne}
use Rattle.f2_vec.specs.Spans.{row, HaveWidth, combination}
use Rattle.f2_matrix.specs.Echelon.{IsReduced, HasNoZeroRow}
use Rattle.f2_matrix.specs.Parts.{AreReductionParts}
use Rattle.f2_matrix.specs.Preimages.{pivot_of}
use Rattle.f2_matrix.proofs.Pivots.{first_within, pivot_first}
use Rattle.f2_matrix.proofs.Unique.{first_one}
use Rattle.f2_kernel.specs.Tests.{is_row_basis, same_bit, same_vector, same_rows, are_clear, are_parts}
use Rattle.f2_kernel.proofs.Basis.{basis_tested, basis_passes}

-- ---- equal vectors and rows

same_bit-is : (a b : Bool) → same_bit a b ≡ true → a ≡ b
same_bit-is true true e = refl
same_bit-is true false e = absurd (false≢true e)
same_bit-is false false e = refl
same_bit-is false true e = absurd (false≢true e)

same_bit-self : (a : Bool) → same_bit a a ≡ true
same_bit-self true = refl
same_bit-self false = refl

same_vector-is : (u v : List Bool) → same_vector u v ≡ true → u ≡ v
same_vector-is [] [] e = refl
same_vector-is [] (y ∷ ys) e = absurd (false≢true e)
same_vector-is (x ∷ xs) [] e = absurd (false≢true e)
same_vector-is (x ∷ xs) (y ∷ ys) e =
    let both = and_parts (same_bit x y) (same_vector xs ys) e in
    ap (λ b. b ∷ xs) (same_bit-is x y both.0) ∙ ap (λ l. y ∷ l) (same_vector-is xs ys both.1)

same_vector-self : (u : List Bool) → same_vector u u ≡ true
same_vector-self [] = refl
same_vector-self (x ∷ xs) = and_from (same_bit x x) (same_vector xs xs) (same_bit-self x) (same_vector-self xs)

same_rows-is : (a b : List (List Bool)) → same_rows a b ≡ true → a ≡ b
same_rows-is [] [] e = refl
same_rows-is [] (y ∷ ys) e = absurd (false≢true e)
same_rows-is (x ∷ xs) [] e = absurd (false≢true e)
same_rows-is (x ∷ xs) (y ∷ ys) e =
    let both = and_parts (same_vector x y) (same_rows xs ys) e in
    ap (λ v. v ∷ xs) (same_vector-is x y both.0) ∙ ap (λ l. y ∷ l) (same_rows-is xs ys both.1)

same_rows-self : (a : List (List Bool)) → same_rows a a ≡ true
same_rows-self [] = refl
same_rows-self (x ∷ xs) = and_from (same_vector x x) (same_rows xs xs) (same_vector-self x) (same_rows-self xs)

-- ---- rows that are clear at pivots

clear_at : (v : List Bool) (rows : List (List Bool)) → list_all (λ r. not (bit v (pivot_of r))) rows ≡ true → (j : ℕ) → j < length rows → bit v (pivot_of (row rows j)) ≡ false
clear_at v [] e j l = absurd (omega arith)
clear_at v (r ∷ rows) e zero l = not-true (bit v (pivot_of r)) (and_parts (not (bit v (pivot_of r))) (list_all (λ r. not (bit v (pivot_of r))) rows) e).0
clear_at v (r ∷ rows) e (suc j) l = clear_at v rows (and_parts (not (bit v (pivot_of r))) (list_all (λ r. not (bit v (pivot_of r))) rows) e).1 j (omega arith)

all_clear_at : (v : List Bool) (rows : List (List Bool)) → ((j : ℕ) → j < length rows → bit v (pivot_of (row rows j)) ≡ false) → list_all (λ r. not (bit v (pivot_of r))) rows ≡ true
all_clear_at v [] h = refl
all_clear_at v (r ∷ rows) h = and_from (not (bit v (pivot_of r))) (list_all (λ r. not (bit v (pivot_of r))) rows) (not_from_false (bit v (pivot_of r)) (h zero (omega arith))) (all_clear_at v rows (λ j l. h (suc j) (omega arith)))

clear_in : (rows vectors : List (List Bool)) → are_clear rows vectors ≡ true → (i : ℕ) → i < length vectors → list_all (λ r. not (bit (row vectors i) (pivot_of r))) rows ≡ true
clear_in rows [] e i l = absurd (omega arith)
clear_in rows (v ∷ vectors) e zero l = (and_parts (list_all (λ r. not (bit v (pivot_of r))) rows) (are_clear rows vectors) e).0
clear_in rows (v ∷ vectors) e (suc i) l = clear_in rows vectors (and_parts (list_all (λ r. not (bit v (pivot_of r))) rows) (are_clear rows vectors) e).1 i (omega arith)

all_clear_in : (rows vectors : List (List Bool)) → ((i : ℕ) → i < length vectors → list_all (λ r. not (bit (row vectors i) (pivot_of r))) rows ≡ true) → are_clear rows vectors ≡ true
all_clear_in rows [] h = refl
all_clear_in rows (v ∷ vectors) h = and_from (list_all (λ r. not (bit v (pivot_of r))) rows) (are_clear rows vectors) (h zero (omega arith)) (all_clear_in rows vectors (λ i l. h (suc i) (omega arith)))

-- ---- products

map_at : (f : List Bool → List Bool) (xs ys rest others : List (List Bool)) → length xs ≡ length ys → map f (xs ++ rest) ≡ ys ++ others → (i : ℕ) → i < length xs → f (row xs i) ≡ row ys i
map_at f [] ys rest others e h i l = absurd (omega arith)
map_at f (x ∷ xs) [] rest others e h i l = absurd (omega arith)
map_at f (x ∷ xs) (y ∷ ys) rest others e h zero l = let same : f x ≡ y = cc in same
map_at f (x ∷ xs) (y ∷ ys) rest others e h (suc i) l = let tail : map f (xs ++ rest) ≡ ys ++ others = cc in map_at f xs ys rest others (omega arith) tail i (omega arith)

map_behind : (f : List Bool → List Bool) (xs ys rest others : List (List Bool)) → length xs ≡ length ys → map f (xs ++ rest) ≡ ys ++ others → map f rest ≡ others
map_behind f [] [] rest others e h = h
map_behind f [] (y ∷ ys) rest others e h = absurd (omega arith)
map_behind f (x ∷ xs) [] rest others e h = absurd (omega arith)
map_behind f (x ∷ xs) (y ∷ ys) rest others e h = let tail : map f (xs ++ rest) ≡ ys ++ others = cc in map_behind f xs ys rest others (omega arith) tail

zero_at : (f : List Bool → List Bool) (z : List Bool) (xs : List (List Bool)) → map f xs ≡ replicate (length xs) z → (i : ℕ) → i < length xs → f (row xs i) ≡ z
zero_at f z [] h i l = absurd (omega arith)
zero_at f z (x ∷ xs) h zero l = let same : f x ≡ z = cc in same
zero_at f z (x ∷ xs) h (suc i) l = let tail : map f xs ≡ replicate (length xs) z = cc in zero_at f z xs tail i (omega arith)

map_from : (f : List Bool → List Bool) (xs ys rest others : List (List Bool)) → length xs ≡ length ys → ((i : ℕ) → i < length xs → f (row xs i) ≡ row ys i) → map f rest ≡ others → map f (xs ++ rest) ≡ ys ++ others
map_from f [] [] rest others e h r = r
map_from f [] (y ∷ ys) rest others e h r = absurd (omega arith)
map_from f (x ∷ xs) [] rest others e h r = absurd (omega arith)
map_from f (x ∷ xs) (y ∷ ys) rest others e h r =
    ap (λ v. v ∷ map f (xs ++ rest)) (h zero (omega arith)) ∙ ap (λ l. y ∷ l) (map_from f xs ys rest others (omega arith) (λ i l. h (suc i) (omega arith)) r)

zeros_from : (f : List Bool → List Bool) (z : List Bool) (xs : List (List Bool)) → ((i : ℕ) → i < length xs → f (row xs i) ≡ z) → map f xs ≡ replicate (length xs) z
zeros_from f z [] h = refl
zeros_from f z (x ∷ xs) h = ap (λ v. v ∷ map f xs) (h zero (omega arith)) ∙ ap (λ l. z ∷ l) (zeros_from f z xs (λ i l. h (suc i) (omega arith)))

-- ---- the parts

module _ (n : ℕ) (rows image chosen kernel : List (List Bool)) (image_wide : HaveWidth n image) (chosen_wide : HaveWidth (length rows) chosen) (kernel_wide : HaveWidth (length rows) kernel) (reduced : IsReduced kernel) (nonzero : HasNoZeroRow kernel) where
  abbrev times : List Bool → List Bool
  times c = combination n c rows

  -- what is tested, fact by fact
  pub parts_from : length image + length kernel ≡ length rows → length chosen ≡ length image → IsReduced image → HasNoZeroRow image → ((i j p : ℕ) → i < length chosen → IsFirstOne (row kernel j) p → bit (row chosen i) p ≡ false)
      → ((i : ℕ) → i < length image → combination n (row chosen i) rows ≡ row image i) → ((i : ℕ) → i < length kernel → combination n (row kernel i) rows ≡ zeros n) → AreReductionParts n rows image chosen kernel
  parts_from count many image_reduced image_nonzero clear products relations = record {
    image_widths = image_wide;
    image_reduced = image_reduced;
    image_nonzero = image_nonzero;
    kernel_widths = kernel_wide;
    kernel_reduced = reduced;
    kernel_nonzero = nonzero;
    rank_and_nullity = count;
    relations = λ i l. record { one_each = kernel_wide i l; vanishes = relations i l };
    preimages = record {
      widths = chosen_wide;
      as_many = many;
      each = λ i l. record {
        one_each = chosen_wide i (omega (arith, many, l));
        gives = products i l;
        clear = λ j p first. clear i j p (omega (arith, many, l)) first;
      };
    };
  }

  tested : are_parts n rows image chosen kernel ≡ true → AreReductionParts n rows image chosen kernel
  tested e =
      let counts = (nat_eq (length image + length kernel) (length rows) && nat_eq (length chosen) (length image)) in
      let made = map times (chosen ++ kernel) in
      let wanted = image ++ replicate (length kernel) (zeros n) in
      let a = and_parts (counts && is_row_basis image) (are_clear kernel chosen && same_rows made wanted) e in
      let b = and_parts counts (is_row_basis image) a.0 in
      let c = and_parts (nat_eq (length image + length kernel) (length rows)) (nat_eq (length chosen) (length image)) b.0 in
      let d = and_parts (are_clear kernel chosen) (same_rows made wanted) a.1 in
      let count = eqb-true (length image + length kernel) (length rows) c.0 in
      let many = eqb-true (length chosen) (length image) c.1 in
      let basis = basis_tested image b.1 in
      let same : made ≡ wanted = same_rows-is made wanted d.1 in
      parts_from count many basis.0 basis.1
      (λ i j p l first. ap (bit (row chosen i)) (sym (pivot_first (row kernel j) p first)) ∙ clear_at (row chosen i) kernel (clear_in kernel chosen d.0 i l) j (first_within kernel j p first))
      (λ i l. map_at times chosen image kernel (replicate (length kernel) (zeros n)) many same i (omega (arith, many, l)))
      (λ i l. zero_at times (zeros n) kernel (map_behind times chosen image kernel (replicate (length kernel) (zeros n)) many same) i l)

  passes : AreReductionParts n rows image chosen kernel → are_parts n rows image chosen kernel ≡ true
  passes h =
      let many = h.preimages.as_many in
      let made = map times (chosen ++ kernel) in
      let wanted = image ++ replicate (length kernel) (zeros n) in
      let same : made ≡ wanted = map_from times chosen image kernel (replicate (length kernel) (zeros n)) many (λ i l. (h.preimages.each i (omega (arith, many, l))).gives) (zeros_from times (zeros n) kernel (λ i l. (h.relations i l).vanishes)) in
      let clear : are_clear kernel chosen ≡ true = all_clear_in kernel chosen (λ i l. all_clear_at (row chosen i) kernel (λ j m.
      let first = first_one (row kernel j) (nonzero j m) in
      ap (bit (row chosen i)) (pivot_first (row kernel j) first.0 first.1) ∙ (h.preimages.each i (omega (arith, many, l))).clear j first.0 first.1)) in
      and_from ((nat_eq (length image + length kernel) (length rows) && nat_eq (length chosen) (length image)) && is_row_basis image) (are_clear kernel chosen && same_rows made wanted)
      (and_from (nat_eq (length image + length kernel) (length rows) && nat_eq (length chosen) (length image)) (is_row_basis image)
      (and_from (nat_eq (length image + length kernel) (length rows)) (nat_eq (length chosen) (length image)) (eq-eqb (length image + length kernel) (length rows) h.rank_and_nullity) (eq-eqb (length chosen) (length image) many))
      (basis_passes image h.image_reduced h.image_nonzero))
      (and_from (are_clear kernel chosen) (same_rows made wanted) clear (ap (same_rows made) (sym same) ∙ same_rows-self made))

  pub parts_tested : (are_parts n rows image chosen kernel ≡ true → AreReductionParts n rows image chosen kernel) × (AreReductionParts n rows image chosen kernel → are_parts n rows image chosen kernel ≡ true)
  parts_tested = (tested, passes)
