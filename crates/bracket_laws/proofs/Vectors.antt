-- Parities of vectors on the generators of a square.
use Rattle.std.proofs.Common.{◌≡◌, inl, inr, ℕ, zero, suc, ◌+◌, ◌-◌, ◌<◌, ◌≤◌, ℤ, pos, ◌+ℤ◌, Bool, true, false, not, ◌&&◌, nat_eq, List, [], ◌∷◌, ◌++◌, length, map, take, drop, replicate, refl, ap, sym, subst, ◌∙◌, arith}
use Rattle.std.specs.List.{range_with_len}
use Rattle.std.proofs.lemmas.Int.{ints}
use Rattle.std.proofs.lemmas.Bool.{cases_lt, eq-eqb, ne_eqb}
use Rattle.std.proofs.lemmas.List.FromFn.{length-map-range_with_len, get_or-map-range_with_len}
use Rattle.std.proofs.lemmas.List.{length-append, length-replicate, length-take-le, take_more, get_or_append_left, get_or-append_right, ext_get_or}
use Rattle.f2_vec.specs.Vectors.{plus, bit, sum_of}
use Rattle.f2_vec.specs.Spans.{HaveWidth, combination}
use Rattle.f2_vec.proofs.Sums.{length-sum_of, bit-sum_of}
use Rattle.f2_vec.proofs.Spans.{length-combination}
use Rattle.f2_vec.proofs.Combinations.{map-map, HaveWidth-map}
use Rattle.free_module.specs.FreeModule.{degree_at}
use Rattle.resolution_laws.specs.Resolution.{no_content, square_in, degrees_from, row_of}
use Rattle.lift_laws.specs.Lifts.{Resolution, gens, degree}
use Rattle.bracket_laws.specs.Brackets.{dot}
use Rattle.lift_laws.specs.Products.{first_of, count_of, on_square}
use Rattle.resolution_laws.proofs.Generators.{length-images_of}
use Rattle.resolution_laws.proofs.Rows.{degrees_from-between, degrees_from-split, degrees_from-push}
use Rattle.lift_laws.proofs.Coefficients.{map_range}
use Rattle.bracket_laws.proofs.Dots.{bit-combination_dot}

pub dot-comm : (a b : List Bool) → dot a b ≡ dot b a
dot-comm [] [] = refl
dot-comm [] (y ∷ b) = refl
dot-comm (x ∷ a) [] = refl
dot-comm (x ∷ a) (y ∷ b) = swap x y (dot a b) (dot b a) (dot-comm a b)
  where
    swap : (x y c d : Bool) → c ≡ d → plus (x && y) c ≡ plus (y && x) d
    swap true true c d e = ap not e
    swap true false c d e = e
    swap false true c d e = e
    swap false false c d e = e

-- the coordinates of a vector in order
pub bits_of : (v : List Bool) (n : ℕ) → length v ≡ n → map (λ i. bit v i) (range_with_len 0 n) ≡ v
bits_of v n e =
    ext_get_or false (map (λ i. bit v i) (range_with_len 0 n)) v (length-map-range_with_len (λ i. bit v i) 0 n ∙ sym e)
    (λ k l. get_or-map-range_with_len (λ i. bit v i) 0 n k k false (omega (arith, length-map-range_with_len (λ i. bit v i) 0 n)) (omega arith))

module _ (r : Resolution) (k n : ℕ) where
  abbrev count : ℕ
  count = count_of r k n

  abbrev first : ℕ
  first = first_of r k n

  pub length-on_square : (f : ℕ → Bool) → length (on_square r k n f) ≡ count
  length-on_square f = length-map-range_with_len (λ j. f (first + j)) 0 count

  pub bit-on_square : (f : ℕ → Bool) (i : ℕ) → i < count → bit (on_square r k n f) i ≡ f (first + i)
  bit-on_square f i l = get_or-map-range_with_len (λ j. f (first + j)) 0 count i i false l (omega arith)

  pub on_square-same : (f h : ℕ → Bool) → ((i : ℕ) → i < count → f (first + i) ≡ h (first + i)) → on_square r k n f ≡ on_square r k n h
  on_square-same f h same = map_range (λ j. f (first + j)) (λ j. h (first + j)) 0 count (λ i l. let e : 0 + i ≡ i = omega arith in subst (λ (z : ℕ). f (first + z) ≡ h (first + z)) (sym e) (same i l))

  pub on_square-sum : (f h : ℕ → Bool) → sum_of (on_square r k n f) (on_square r k n h) ≡ on_square r k n (λ g. plus (f g) (h g))
  on_square-sum f h =
      let both = on_square r k n (λ g. plus (f g) (h g)) in
      let left = on_square r k n f in
      let right = on_square r k n h in
      let same = length-on_square f ∙ sym (length-on_square h) in
      let size = length-on_square (λ g. plus (f g) (h g)) in
      sym (ext_get_or false both (sum_of left right) (size ∙ sym (length-sum_of left right same ∙ length-on_square f)) (λ i l.
      let b : i < count = omega arith in
      bit-on_square (λ g. plus (f g) (h g)) i b ∙ (cc (bit-on_square f i b, bit-on_square h i b) ∙ sym (bit-sum_of left right i same))))

  pub on_square-combination : (cs : List Bool) (F : ℕ → ℕ → Bool) (m : ℕ) → combination count cs (map (λ j. on_square r k n (F j)) (range_with_len 0 m)) ≡ on_square r k n (λ g. dot (map (λ j. F j g) (range_with_len 0 m)) cs)
  on_square-combination cs F m =
      let rows = map (λ j. on_square r k n (F j)) (range_with_len 0 m) in
      let value = λ (g : ℕ). dot (map (λ j. F j g) (range_with_len 0 m)) cs in
      let wide : HaveWidth count rows = HaveWidth-map count (λ j. on_square r k n (F j)) (range_with_len 0 m) (λ j. length-on_square (F j)) in
      let len = length-combination count cs rows wide in
      ext_get_or false (combination count cs rows) (on_square r k n value) (len ∙ sym (length-on_square value))
      (λ i l.
      let b : i < count = omega arith in
      let each : map (λ v. bit v i) rows ≡ map (λ j. F j (first + i)) (range_with_len 0 m) = map-map (λ v. bit v i) (λ j. on_square r k n (F j)) (range_with_len 0 m) ∙ map_range (λ j. bit (on_square r k n (F j)) i) (λ j. F j (first + i)) 0 m (λ j h. bit-on_square (F (0 + j)) i b) in
      bit-combination_dot count cs rows i wide ∙ (ap (λ (z : List Bool). dot z cs) each ∙ sym (bit-on_square value i b)))

  -- a generator of the degree of the square is one of the square
  pub in_square : n < length (row_of r.table k) → (g : ℕ) → g < length (gens r k) → degree r k g ≡ r.base.bottom +ℤ pos n → (i : ℕ) × (i < count) × (g ≡ first + i)
  in_square there g l deg =
      let squares = row_of r.table k in
      let b0 = r.base.bottom in
      let before = degrees_from b0 (take n squares) in
      let later = degrees_from (b0 +ℤ pos n) (drop n squares) in
      let through = degrees_from b0 (take (n + 1) squares) in
      let above = degrees_from (b0 +ℤ pos (n + 1)) (drop (n + 1) squares) in
      let split = degrees_from-split b0 squares n in
      let split_above = degrees_from-split b0 squares (n + 1) in
      let len_before = length-images_of b0 (take n squares) in
      let len : length (take n squares) ≡ n = length-take-le n squares (omega arith) in
      let more : through ≡ before ++ replicate count (b0 +ℤ pos n) =
      ap (degrees_from b0) (take_more squares n no_content there) ∙ (degrees_from-push b0 (take n squares) (square_in squares n) ∙ ap (λ (j : ℕ). before ++ replicate count (b0 +ℤ pos j)) len) in
      let len_through : length through ≡ length before + count = ap length more ∙ (length-append before (replicate count (b0 +ℤ pos n)) ∙ ap (λ (j : ℕ). length before + j) (length-replicate count (b0 +ℤ pos n))) in
      let from : first ≤ g = elim (cases_lt g (length before)) [
        | inl m ↦
            let low = (degrees_from-between b0 (take n squares) g m).below in
            let same : degree r k g ≡ degree_at before g = ap (λ (z : List ℤ). degree_at z g) split ∙ get_or_append_left before later (pos 0) g m in
            absurd (omega (arith, ints))
        | inr m ↦ omega arith
      ] in
      let to : g < first + count = elim (cases_lt g (length through)) [
        | inl m ↦ omega arith
        | inr m ↦
            let same : degree r k g ≡ degree_at above (g - length through) = ap (λ (z : List ℤ). degree_at z g) split_above ∙ get_or-append_right through above (length through) g (pos 0) refl m in
            let all : length (gens r k) ≡ length through + length above = ap length split_above ∙ length-append through above in
            let high = (degrees_from-between (b0 +ℤ pos (n + 1)) (drop (n + 1) squares) (g - length through) (omega arith)).from in
            absurd (omega (arith, ints))
      ] in
      (g - first, omega arith, omega arith)

-- the parity with a vector that has one 1
dot-none : (m k a : ℕ) (c : List Bool) → k < a → dot (map (λ j. nat_eq k j) (range_with_len a m)) c ≡ false
dot-none zero k a c l = refl
dot-none (suc m) k a [] l = refl
dot-none (suc m) k a (x ∷ c) l =
    let z : nat_eq k a ≡ false = ne_eqb k a (λ e. omega arith) in
    let ih : dot (map (λ j. nat_eq k j) (range_with_len (a + 1) m)) c ≡ false = dot-none m k (a + 1) c (omega arith) in
    ap (λ (b : Bool). plus (b && x) (dot (map (λ j. nat_eq k j) (range_with_len (a + 1) m)) c)) z ∙ ih

plus-none : (x : Bool) → plus (true && x) false ≡ x
plus-none true = refl
plus-none false = refl

pub dot-one : (m i a : ℕ) (c : List Bool) → length c ≡ m → i < m → dot (map (λ j. nat_eq (a + i) j) (range_with_len a m)) c ≡ bit c i
dot-one zero i a c e l = absurd (omega arith)
dot-one (suc m) i a [] e l = absurd (omega arith)
dot-one (suc m) zero a (x ∷ c) e l =
    let z : nat_eq (a + 0) a ≡ true = eq-eqb (a + 0) a (omega arith) in
    let none : dot (map (λ j. nat_eq (a + 0) j) (range_with_len (a + 1) m)) c ≡ false = dot-none m (a + 0) (a + 1) c (omega arith) in
    ap (λ (b : Bool). plus (b && x) (dot (map (λ j. nat_eq (a + 0) j) (range_with_len (a + 1) m)) c)) z ∙ (ap (plus (true && x)) none ∙ plus-none x)
dot-one (suc m) (suc i) a (x ∷ c) e l =
    let z : nat_eq (a + suc i) a ≡ false = ne_eqb (a + suc i) a (λ e. omega arith) in
    let f : a + suc i ≡ (a + 1) + i = omega arith in
    let ih : dot (map (λ j. nat_eq ((a + 1) + i) j) (range_with_len (a + 1) m)) c ≡ bit c i = dot-one m i (a + 1) c (omega arith) (omega arith) in
    ap (λ (b : Bool). plus (b && x) (dot (map (λ j. nat_eq (a + suc i) j) (range_with_len (a + 1) m)) c)) z ∙ (ap (λ (k : ℕ). dot (map (λ j. nat_eq k j) (range_with_len (a + 1) m)) c) f ∙ ih)
