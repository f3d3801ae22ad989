-- Tables of sums, and vectors cleared by four of them.
use Rattle.std.specs.Simd.Lanes.{mask_l}
use Rattle.std.specs.List.{All}
use Rattle.std.proofs.Common.{◌≡◌, ℕ, ◌+◌, ◌*◌, ◌^◌, ◌<◌, ◌≤◌, Bool, true, false, cond, List, [], ◌∷◌, ◌++◌, length, map, take, drop, get_or, min, refl, subst, ap, sym, ◌∙◌, arith}
use Rattle.std.proofs.lemmas.List.{ext_get_or, take_all, take-append-drop, map-append, length-map, length-take, length-take-le, length-drop, get_or-take, get_or-drop, length-set}
use Rattle.std.proofs.lemmas.List.Elements.{All-take, All-drop}
use Rattle.std.proofs.lemmas.List.FromFn.{length-map-range_with_len, get_or-map-range_with_len}
use Rattle.std.proofs.lemmas.Simd.{mask_l-lt}
use Rattle.std.proofs.Math.Nat.{pow-le-pow_right}
use Rattle.f2_vec.specs.Vectors.{sum_of, zeros, bit, IsWithinWords}
use Rattle.f2_vec.specs.Spans.{row, HaveWidth, combination, unit_vector}
use Rattle.f2_vec.proofs.Sums.{length-zeros, sum_of-assoc, sum_of-zeros_right}
use Rattle.f2_vec.proofs.Spans.{combination-zeros, combination-append, bit-combination_zero, HaveWidth-drop}
use Rattle.f2_vec.proofs.Combinations.{HaveWidth-take, combination_more, combination-unit_vector}
use Rattle.f2_sums.specs.Sums.{Block, cleared_at}
use Rattle.f2_sums.specs.Inside.Tables.{HoldsSums, IsRoomForSums, IsTable, rows_in, rows_of, block_of, first_part, second_part, third_part, fourth_part, IsPart, AreParts, AreTables, AreWithinWords}
use Rattle.f2_sums.proofs.Numbers.{mask_l-more, mask_l-zeros, mask_l-unit}

-- ---- one table

pub zero_sum : (n : ℕ) (b table : List (List Bool)) → HoldsSums n b table → row table 0 ≡ zeros n
zero_sum n b table h = ap (row table) (sym (mask_l-zeros (length b))) ∙ h.sums (zeros (length b)) (length-zeros (length b)) ∙ combination-zeros n (length b) b

pub HoldsSums-none : (n m : ℕ) (table : List (List Bool)) → IsRoomForSums n m table → HoldsSums n [] table
HoldsSums-none n m table h = record { widths = h.widths; sums = only_zero }
  where
    only_zero : (c : List Bool) → length c ≡ 0 → row table (mask_l c) ≡ combination n c []
    only_zero [] e = h.first
    only_zero (x ∷ c) e = absurd (omega arith)

pub HoldsSums-more : (n j : ℕ) (b table new : List (List Bool)) (p : List Bool) → HaveWidth n b → j < length b → p ≡ row b j → HoldsSums n (take j b) table → HaveWidth n new → ((t : ℕ) → t < 2 ^ j → row new t ≡ row table t) → ((t : ℕ) → t < 2 ^ j → row new (2 ^ j + t) ≡ sum_of (row table t) p) → HoldsSums n (take (j + 1) b) new
HoldsSums-more n j b table new p w l is h widths kept sums = record {
  widths = widths;
  sums = λ c e.
      let size : length c ≡ j + 1 = e ∙ length-take-le (j + 1) b (omega arith) in
      let c0 = take j c in
      let l0 : length c0 ≡ j = length-take-le j c (omega arith) in
      let t = mask_l c0 in
      let low : t < 2 ^ j = subst (λ k. t < 2 ^ k) l0 (mask_l-lt c0) in
      let whole : take (j + 1) c ≡ c = take_all (j + 1) c (omega arith) in
      let place : mask_l c ≡ t + cond (get_or c j false) (2 ^ j) 0 = ap mask_l (sym whole) ∙ mask_l-more c j (omega arith) in
      let u = combination n c0 (take j b) in
      let before : row table t ≡ u = h.sums c0 (l0 ∙ sym (length-take-le j b (omega arith))) in
      let after : combination n c (take (j + 1) b) ≡ cond (get_or c j false) (sum_of u (row b j)) u = ap (λ x. combination n x (take (j + 1) b)) (sym whole) ∙ combination_more n j c b w (omega arith) l in
      ap (row new) place ∙ by_bit (get_or c j false) t u low before ∙ sym after;
}
  where
    by_bit : (x : Bool) (t : ℕ) (u : List Bool) → t < 2 ^ j → row table t ≡ u → row new (t + cond x (2 ^ j) 0) ≡ cond x (sum_of u (row b j)) u
    by_bit true t u low before = ap (row new) (omega arith) ∙ sums t low ∙ ap (λ v. sum_of v p) before ∙ ap (sum_of u) is
    by_bit false t u low before = ap (row new) (omega arith) ∙ kept t low ∙ before

-- the rows of which a table has the sums are seen in it
pub rows_held : (n : ℕ) (b table : List (List Bool)) → HaveWidth n b → HoldsSums n b table → rows_in (length b) table ≡ b
rows_held n b table w h =
    let k = length b in
    let f : ℕ → List Bool = λ j. row table (2 ^ j) in
    let size : length (rows_in k table) ≡ k = length-map-range_with_len f 0 k in
    ext_get_or [] (rows_in k table) b size (λ j l.
    let m : j < k = omega (arith, l, size) in
    get_or-map-range_with_len f 0 k j j [] m (omega arith)
    ∙ ap (row table) (sym (mask_l-unit k j m))
    ∙ h.sums (unit_vector k j) (length-set (zeros k) j true ∙ length-zeros k)
    ∙ combination-unit_vector n k j b w refl m)

pub length-rows_in : (k : ℕ) (table : List (List Bool)) → length (rows_in k table) ≡ k
length-rows_in k table = length-map-range_with_len (λ j. row table (2 ^ j)) 0 k

pub none_in : (n m : ℕ) (table : List (List Bool)) → m ≤ 8 → IsRoomForSums n m table → IsTable n m 0 table
none_in n m table l h = record { small = l; few = omega arith; room = h; sums = HoldsSums-none n m table h }

pub filled : (n m : ℕ) (b table : List (List Bool)) → m ≤ 8 → length b ≤ m → HaveWidth n b → IsRoomForSums n m table → HoldsSums n b table → IsTable n m (length b) table
filled n m b table l f w r h = record { small = l; few = f; room = r; sums = subst (λ (z : List (List Bool)). HoldsSums n z table) (sym (rows_held n b table w h)) h }

-- the number of a sum is a place of the table
pub number_within : (n m k x : ℕ) (table rows : List (List Bool)) → IsTable n m k table → rows_in k table ≡ rows → x < 2 ^ length rows → x < length table
number_within n m k x table rows h e l =
    let z : 0 < 2 = omega arith in
    let size : 2 ^ length rows ≡ 2 ^ k = ap (λ (r : List (List Bool)). 2 ^ length r) (sym e) ∙ ap (λ j. 2 ^ j) (length-rows_in k table) in
    let most : 2 ^ k ≤ 2 ^ m = pow-le-pow_right z h.few in
    omega (arith, h.room.size, size, most, l)

-- what stands there is the sum
pub sum_there : (n m k x : ℕ) (c : List Bool) (table rows : List (List Bool)) → IsTable n m k table → rows_in k table ≡ rows → length c ≡ length rows → x ≡ mask_l c → row table x ≡ combination n c rows
sum_there n m k x c table rows h e l f = ap (row table) f ∙ h.sums.sums c (l ∙ sym (ap length e)) ∙ ap (combination n c) e

-- a vector with a 0 at each place has the number 0, and only such a one: its sum is zero
pub none_at_zero : (n x : ℕ) (c : List Bool) (rows : List (List Bool)) → x ≡ mask_l c → x ≡ 0 → combination n c rows ≡ zeros n
none_at_zero n x c rows e z = ap (λ d. combination n d rows) (all_false c (sym e ∙ z)) ∙ combination-zeros n (length c) rows
  where
    all_false : (c : List Bool) → mask_l c ≡ 0 → c ≡ zeros (length c)
    all_false [] h = refl
    all_false (true ∷ c) h = absurd (omega arith)
    all_false (false ∷ c) h = ap (λ d. false ∷ d) (all_false c (omega arith))

-- ---- four tables

-- a combination of rows in two parts
split_sum : (n m : ℕ) (f : ℕ → Bool) (ps : List ℕ) (rows : List (List Bool)) → HaveWidth n rows → length rows ≡ length ps → combination n (map f ps) rows ≡ sum_of (combination n (map f (take m ps)) (take m rows)) (combination n (map f (drop m ps)) (drop m rows))
split_sum n m f ps rows w e =
    let front : length (map f (take m ps)) ≡ length (take m rows) = length-map (take m ps) f ∙ length-take m ps ∙ ap (min m) (sym e) ∙ sym (length-take m rows) in
    ap (λ x. combination n (map f x) rows) (sym (take-append-drop m ps))
    ∙ ap (combination n (map f (take m ps ++ drop m ps))) (sym (take-append-drop m rows))
    ∙ ap (λ c. combination n c (take m rows ++ drop m rows)) (map-append f (take m ps) (drop m ps))
    ∙ combination-append n (map f (take m ps)) (map f (drop m ps)) (take m rows) (drop m rows) (HaveWidth-take n m rows w) (HaveWidth-drop n m rows w) front

pub fewer : (m : ℕ) (ps : List ℕ) (rows : List (List Bool)) → length rows ≡ length ps → length (drop m rows) ≡ length (drop m ps)
fewer m ps rows e = omega (arith, length-drop m rows, length-drop m ps)

pub part_length : (m : ℕ) (ps : List ℕ) (rows : List (List Bool)) → length rows ≡ length ps → length (take m rows) ≡ length (take m ps)
part_length m ps rows e = length-take m rows ∙ ap (min m) e ∙ sym (length-take m ps)

regroup : (v a b c d : List Bool) → sum_of v (sum_of a (sum_of b (sum_of c d))) ≡ sum_of (sum_of (sum_of (sum_of v a) b) c) d
regroup v a b c d =
    sym (sum_of-assoc v a (sum_of b (sum_of c d)))
    ∙ sym (sum_of-assoc (sum_of v a) b (sum_of c d))
    ∙ sym (sum_of-assoc (sum_of (sum_of v a) b) c d)

-- a sum of each part clears the vector by all rows
pub four_sums : (n m : ℕ) (ps : List ℕ) (rows : List (List Bool)) (v r s t u : List Bool) → HaveWidth n rows → length rows ≡ length ps
    → r ≡ combination n (map (bit v) (first_part m ps)) (first_part m rows) → s ≡ combination n (map (bit v) (second_part m ps)) (second_part m rows)
    → t ≡ combination n (map (bit v) (third_part m ps)) (third_part m rows) → u ≡ combination n (map (bit v) (fourth_part m ps)) (fourth_part m rows)
    → sum_of (sum_of (sum_of (sum_of v r) s) t) u ≡ cleared_at n ps rows v
four_sums n m ps rows v r s t u wide e er es et eu =
    let f = bit v in
    let p2 = drop m ps in
    let r2 = drop m rows in
    let p3 = drop m p2 in
    let r3 = drop m r2 in
    let e2 : length r2 ≡ length p2 = fewer m ps rows e in
    let e3 : length r3 ≡ length p3 = fewer m p2 r2 e2 in
    let w2 : HaveWidth n r2 = HaveWidth-drop n m rows wide in
    let w3 : HaveWidth n r3 = HaveWidth-drop n m r2 w2 in
    let third : combination n (map f p3) r3 ≡ sum_of t u = split_sum n m f p3 r3 w3 e3 ∙ cc (et, eu) in
    let second : combination n (map f p2) r2 ≡ sum_of s (sum_of t u) = split_sum n m f p2 r2 w2 e2 ∙ cc (es, third) in
    let whole : combination n (map f ps) rows ≡ sum_of r (sum_of s (sum_of t u)) = split_sum n m f ps rows wide e ∙ cc (er, second) in
    sym (ap (sum_of v) whole ∙ regroup v r s t u)

-- ---- the words of sums

pub wider : (from to a b : ℕ) (v : List Bool) → a ≤ from → to ≤ b → IsWithinWords from to v → IsWithinWords a b v
wider from to a b v l m h = record { before = λ k q. h.before k (omega arith); behind = λ k q. h.behind k (omega arith) }

within_combination : (n from to : ℕ) (c : List Bool) (rows : List (List Bool)) → HaveWidth n rows → ((i : ℕ) → i < length rows → IsWithinWords from to (row rows i)) → IsWithinWords from to (combination n c rows)
within_combination n from to c rows w h = record {
  before = λ k l. bit-combination_zero n c rows k w (λ i m. (h i m).before k l);
  behind = λ k l. bit-combination_zero n c rows k w (λ i m. (h i m).behind k l);
}

within_take : (m from to : ℕ) (rows : List (List Bool)) → ((i : ℕ) → i < length rows → IsWithinWords from to (row rows i)) → (i : ℕ) → i < length (take m rows) → IsWithinWords from to (row (take m rows) i)
within_take m from to rows h i l =
    let size = length-take m rows in
    subst (IsWithinWords from to) (sym (get_or-take m rows i [] (omega arith))) (h i (omega arith))

within_drop : (m from to : ℕ) (rows : List (List Bool)) → ((i : ℕ) → i < length rows → IsWithinWords from to (row rows i)) → (i : ℕ) → i < length (drop m rows) → IsWithinWords from to (row (drop m rows) i)
within_drop m from to rows h i l =
    let size = length-drop m rows in
    subst (IsWithinWords from to) (sym (get_or-drop m rows i [])) (h (m + i) (omega arith))

-- ---- what is known of one part

-- a table has the sums of these rows, of length n, and each has a place
pub record Fits (n m from to : ℕ) (ps : List ℕ) (rows : List (List Bool)) (t : Block) : Type 0 where
  pub small : m ≤ 8
  pub is : IsPart n m rows t
  pub as_many : length rows ≡ length ps
  pub below : All (λ p. p < n) ps
  pub within : AreWithinWords from to rows
  pub wide : HaveWidth n rows

pub sum_is : {n m from to : ℕ} {ps : List ℕ} {rows : List (List Bool)} {t : Block} (v r : List Bool) → Fits n m from to ps rows t → r ≡ combination t.cols (map (bit v) ps) t.rows → r ≡ combination n (map (bit v) ps) rows
sum_is {n} {m} {from} {to} {ps} {rows} {t} v r h e = e ∙ ap (λ k. combination k (map (bit v) ps) t.rows) h.is.cols ∙ ap (combination n (map (bit v) ps)) h.is.rows_are

pub sum_within : {n m from to : ℕ} {ps : List ℕ} {rows : List (List Bool)} {t : Block} (v r : List Bool) → Fits n m from to ps rows t → r ≡ combination t.cols (map (bit v) ps) t.rows → IsWithinWords from to r
sum_within {n} {m} {from} {to} {ps} {rows} {t} v r h e = subst (IsWithinWords from to) (sym (sum_is v r h e)) (within_combination n from to (map (bit v) ps) rows h.wide h.within)

pub places_of : {n m from to : ℕ} {ps : List ℕ} {rows : List (List Bool)} {t : Block} → Fits n m from to ps rows t → All (λ p. p < t.cols) ps
places_of {n} {m} {from} {to} {ps} {rows} {t} h = subst (λ k. All (λ p. p < k) ps) (sym h.is.cols) h.below

pub one_each : {n m from to : ℕ} {ps : List ℕ} {rows : List (List Bool)} {t : Block} → Fits n m from to ps rows t → length ps ≡ length t.rows
one_each h = sym (ap length h.is.rows_are ∙ h.as_many)

-- the four parts, with their places
pub record Fit (n m q from to : ℕ) (ps pa pb pc pd : List ℕ) (rows : List (List Bool)) (a b c d : Block) : Type 0 where
  pub first : Fits n m from to pa (first_part q rows) a
  pub second : Fits n m from to pb (second_part q rows) b
  pub third : Fits n m from to pc (third_part q rows) c
  pub fourth : Fits n m from to pd (fourth_part q rows) d
  pub first_places : pa ≡ first_part q ps
  pub second_places : pb ≡ second_part q ps
  pub third_places : pc ≡ third_part q ps
  pub fourth_places : pd ≡ fourth_part q ps

one_fit : (n m from to : ℕ) (ps pa : List ℕ) (rows : List (List Bool)) (t : Block) → m ≤ 8 → IsPart n m rows t → pa ≡ ps → length rows ≡ length ps → All (λ p. p < n) ps → AreWithinWords from to rows → HaveWidth n rows → Fits n m from to pa rows t
one_fit n m from to ps pa rows t small h same e below within wide = record {
  small = small;
  is = h;
  as_many = e ∙ sym (ap length same);
  below = subst (All (λ p. p < n)) (sym same) below;
  within = within;
  wide = wide;
}

pub fit : (n m q from to : ℕ) (ps pa pb pc pd : List ℕ) (a b c d all : Block) → AreTables n m q from to a b c d → block_of n m a b c d ≡ all → length ps ≡ length all.rows → All (λ p. p < all.cols) ps → pa ≡ first_part q ps → pb ≡ second_part q ps → pc ≡ third_part q ps → pd ≡ fourth_part q ps → Fit n m q from to ps pa pb pc pd (rows_of a b c d) a b c d
fit n m q from to ps pa pb pc pd a b c d all h same size inside ea eb ec ed =
    let rows = rows_of a b c d in
    let below : All (λ p. p < n) ps = subst (λ k. All (λ p. p < k) ps) (sym (ap (λ (z : Block). z.cols) same)) inside in
    let e : length rows ≡ length ps = ap (λ (z : Block). length z.rows) same ∙ sym size in
    let p2 = drop q ps in
    let p3 = drop q p2 in
    let r2 = drop q rows in
    let r3 = drop q r2 in
    let e2 : length r2 ≡ length p2 = fewer q ps rows e in
    let e3 : length r3 ≡ length p3 = fewer q p2 r2 e2 in
    let b2 = All-drop (λ p. p < n) q ps below in
    let b3 = All-drop (λ p. p < n) q p2 b2 in
    let i2 = within_drop q from to rows h.within in
    let i3 = within_drop q from to r2 i2 in
    let w2 = HaveWidth-drop n q rows h.widths in
    let w3 = HaveWidth-drop n q r2 w2 in
    record {
      first = one_fit n m from to (take q ps) pa (take q rows) a h.small h.parts.first ea (part_length q ps rows e) (All-take (λ p. p < n) q ps below) (within_take q from to rows h.within) (HaveWidth-take n q rows h.widths);
      second = one_fit n m from to (take q p2) pb (take q r2) b h.small h.parts.second eb (part_length q p2 r2 e2) (All-take (λ p. p < n) q p2 b2) (within_take q from to r2 i2) (HaveWidth-take n q r2 w2);
      third = one_fit n m from to (take q p3) pc (take q r3) c h.small h.parts.third ec (part_length q p3 r3 e3) (All-take (λ p. p < n) q p3 b3) (within_take q from to r3 i3) (HaveWidth-take n q r3 w3);
      fourth = one_fit n m from to (drop q p3) pd (drop q r3) d h.small h.parts.fourth ed (fewer q p3 r3 e3) (All-drop (λ p. p < n) q p3 b3) (within_drop q from to r3 i3) (HaveWidth-drop n q r3 w3);
      first_places = ea;
      second_places = eb;
      third_places = ec;
      fourth_places = ed;
    }

-- four sums clear a vector by the rows of the tables
pub cleared_by_four : (n m q from to : ℕ) (ps pa pb pc pd : List ℕ) (a b c d all : Block) (v r s t u : List Bool) → AreTables n m q from to a b c d → block_of n m a b c d ≡ all → length ps ≡ length all.rows → Fit n m q from to ps pa pb pc pd (rows_of a b c d) a b c d
    → r ≡ combination a.cols (map (bit v) pa) a.rows → s ≡ combination b.cols (map (bit v) pb) b.rows
    → t ≡ combination c.cols (map (bit v) pc) c.rows → u ≡ combination d.cols (map (bit v) pd) d.rows
    → sum_of (sum_of (sum_of (sum_of v r) s) t) u ≡ cleared_at all.cols ps all.rows v
cleared_by_four n m q from to ps pa pb pc pd a b c d all v r s t u h same size f er es et eu =
    let rows = rows_of a b c d in
    four_sums n q ps rows v r s t u h.widths (ap (λ (z : Block). length z.rows) same ∙ sym size)
    (sum_is v r f.first er ∙ ap (λ z. combination n (map (bit v) z) (first_part q rows)) f.first_places)
    (sum_is v s f.second es ∙ ap (λ z. combination n (map (bit v) z) (second_part q rows)) f.second_places)
    (sum_is v t f.third et ∙ ap (λ z. combination n (map (bit v) z) (third_part q rows)) f.third_places)
    (sum_is v u f.fourth eu ∙ ap (λ z. combination n (map (bit v) z) (fourth_part q rows)) f.fourth_places)
    ∙ ap (λ (z : Block). cleared_at z.cols ps z.rows v) same

-- nothing is added by four sums that are zero
pub nothing_added : (n : ℕ) (v r s t u : List Bool) → length v ≡ n → r ≡ zeros n → s ≡ zeros n → t ≡ zeros n → u ≡ zeros n → v ≡ sum_of (sum_of (sum_of (sum_of v r) s) t) u
nothing_added n v r s t u l er es et eu =
    let a : sum_of v r ≡ v = ap (sum_of v) er ∙ sum_of-zeros_right n v l in
    let b : sum_of v s ≡ v = ap (sum_of v) es ∙ sum_of-zeros_right n v l in
    let c : sum_of v t ≡ v = ap (sum_of v) et ∙ sum_of-zeros_right n v l in
    let d : sum_of v u ≡ v = ap (sum_of v) eu ∙ sum_of-zeros_right n v l in
    sym (ap (λ x. sum_of (sum_of (sum_of x s) t) u) a ∙ ap (λ x. sum_of (sum_of x t) u) b ∙ ap (λ x. sum_of x u) c ∙ d)

-- ---- four tables filled

pub parts_whole : (n m q : ℕ) (rows : List (List Bool)) (a b c d : Block) → AreParts n m q rows a b c d → rows_of a b c d ≡ rows
parts_whole n m q rows a b c d h =
    let r2 = drop q rows in
    let r3 = drop q r2 in
    let e : rows_of a b c d ≡ take q rows ++ (take q r2 ++ (take q r3 ++ drop q r3)) = cc (h.first.rows_are, h.second.rows_are, h.third.rows_are, h.fourth.rows_are) in
    e ∙ ap (λ z. take q rows ++ (take q r2 ++ z)) (take-append-drop q r3) ∙ ap (λ z. take q rows ++ z) (take-append-drop q r2) ∙ take-append-drop q rows

pub tables_filled : (n m q from to : ℕ) (rows : List (List Bool)) (a b c d : Block) → m ≤ 8 → HaveWidth n rows → AreParts n m q rows a b c d → AreWithinWords from to rows → AreTables n m q from to a b c d
tables_filled n m q from to rows a b c d small wide h within =
    let e : rows ≡ rows_of a b c d = sym (parts_whole n m q rows a b c d h) in
    record {
      small = small;
      widths = subst (λ (z : List (List Bool)). HaveWidth n z) e wide;
      parts = subst (λ (z : List (List Bool)). AreParts n m q z a b c d) e h;
      within = subst (λ (z : List (List Bool)). AreWithinWords from to z) e within;
    }

-- the rows are these, and have room in the table
pub record IsGiven (t : Block) (part rows : List (List Bool)) : Type 0 where
  pub is : rows ≡ part
  pub widths : HaveWidth t.cols rows
  pub few : length rows ≤ t.most

given : (n m : ℕ) (t : Block) (part rows : List (List Bool)) → t.cols ≡ n → t.most ≡ m → rows ≡ part → HaveWidth n part → length part ≤ m → IsGiven t part rows
given n m t part rows x y e w l = record {
  is = e;
  widths = subst (λ k. HaveWidth k rows) (sym x) (subst (HaveWidth n) (sym e) w);
  few = omega (arith, ap length e, l, y);
}

-- the four parts of the rows, one for each table
pub record AreGiven (q : ℕ) (rows ra rb rc rd : List (List Bool)) (a b c d : Block) : Type 0 where
  pub first : IsGiven a (first_part q rows) ra
  pub second : IsGiven b (second_part q rows) rb
  pub third : IsGiven c (third_part q rows) rc
  pub fourth : IsGiven d (fourth_part q rows) rd

pub four_given : (n m q from to k : ℕ) (rows ra rb rc rd : List (List Bool)) (a b c d all : Block) → AreTables n m k from to a b c d → block_of n m a b c d ≡ all → HaveWidth all.cols rows → length rows ≤ all.most → length rows ≤ 4 * q → 4 * q < length rows + 4 → ra ≡ first_part q rows → rb ≡ second_part q rows → rc ≡ third_part q rows → rd ≡ fourth_part q rows → AreGiven q rows ra rb rc rd a b c d
four_given n m q from to k rows ra rb rc rd a b c d all h same wide few f least ea eb ec ed =
    let w : HaveWidth n rows = subst (λ j. HaveWidth j rows) (sym (ap (λ (z : Block). z.cols) same)) wide in
    let most : length rows ≤ 4 * m = omega (arith, few, ap (λ (z : Block). z.most) same) in
    let l : q ≤ m = omega (arith, most, least) in
    let r2 = drop q rows in
    let r3 = drop q r2 in
    let w2 = HaveWidth-drop n q rows w in
    let w3 = HaveWidth-drop n q r2 w2 in
    record {
      first = given n m a (take q rows) ra h.parts.first.cols h.parts.first.most ea (HaveWidth-take n q rows w) (omega (arith, length-take q rows, l));
      second = given n m b (take q r2) rb h.parts.second.cols h.parts.second.most eb (HaveWidth-take n q r2 w2) (omega (arith, length-take q r2, l));
      third = given n m c (take q r3) rc h.parts.third.cols h.parts.third.most ec (HaveWidth-take n q r3 w3) (omega (arith, length-take q r3, l));
      fourth = given n m d (drop q r3) rd h.parts.fourth.cols h.parts.fourth.most ed (HaveWidth-drop n q r3 w3) (omega (arith, length-drop q rows, length-drop q r2, length-drop q r3, f, l));
    }

part_filled : (n m : ℕ) (old part rows : List (List Bool)) (t new : Block) → IsPart n m old t → IsGiven t part rows → new.cols ≡ t.cols → new.most ≡ t.most → new.rows ≡ rows → IsPart n m part new
part_filled n m old part rows t new h g x y z = record {
  cols = x ∙ h.cols;
  most = y ∙ h.most;
  rows_are = z ∙ g.is;
  few = omega (arith, ap length g.is, g.few, h.most);
}

-- each table filled with its part
pub parts_filled : (n m q from to k : ℕ) (rows ra rb rc rd : List (List Bool)) (a b c d na nb nc nd : Block) → AreTables n m k from to a b c d → AreGiven q rows ra rb rc rd a b c d
    → na.cols ≡ a.cols → na.most ≡ a.most → na.rows ≡ ra → nb.cols ≡ b.cols → nb.most ≡ b.most → nb.rows ≡ rb
    → nc.cols ≡ c.cols → nc.most ≡ c.most → nc.rows ≡ rc → nd.cols ≡ d.cols → nd.most ≡ d.most → nd.rows ≡ rd → AreParts n m q rows na nb nc nd
parts_filled n m q from to k rows ra rb rc rd a b c d na nb nc nd h g ax ay az bx by bz cx cy cz dx dy dz = record {
  first = part_filled n m (first_part k (rows_of a b c d)) (first_part q rows) ra a na h.parts.first g.first ax ay az;
  second = part_filled n m (second_part k (rows_of a b c d)) (second_part q rows) rb b nb h.parts.second g.second bx by bz;
  third = part_filled n m (third_part k (rows_of a b c d)) (third_part q rows) rc c nc h.parts.third g.third cx cy cz;
  fourth = part_filled n m (fourth_part k (rows_of a b c d)) (fourth_part q rows) rd d nd h.parts.fourth g.fourth dx dy dz;
}

-- no row
pub none_filled : (n m : ℕ) (a b c d : Block) → m ≤ 8 → a.cols ≡ n → a.most ≡ m → a.rows ≡ [] → b.cols ≡ n → b.most ≡ m → b.rows ≡ [] → c.cols ≡ n → c.most ≡ m → c.rows ≡ [] → d.cols ≡ n → d.most ≡ m → d.rows ≡ [] → AreTables n m 0 0 0 a b c d
none_filled n m a b c d l ac am ar bc bm br cm cn cr dc dm dr = tables_filled n m 0 0 0 [] a b c d l (λ i h. absurd (omega arith)) parts (λ i h. absurd (omega arith))
  where
    none : (t : Block) → t.cols ≡ n → t.most ≡ m → t.rows ≡ [] → IsPart n m [] t
    none t x y z = record { cols = x; most = y; rows_are = z; few = omega arith }

    parts : AreParts n m 0 [] a b c d
    parts = record { first = none a ac am ar; second = none b bc bm br; third = none c cm cn cr; fourth = none d dc dm dr }

pub none_of : (a b c d : Block) → a.rows ≡ [] → b.rows ≡ [] → c.rows ≡ [] → d.rows ≡ [] → rows_of a b c d ≡ []
none_of a b c d ea eb ec ed = let e : rows_of a b c d ≡ [] ++ ([] ++ ([] ++ [])) = cc (ea, eb, ec, ed) in e
