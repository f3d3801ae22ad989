-- Columns to which the rows of a matrix are added.
use Rattle.std.proofs.Common.{◌≡◌, ◌≢◌, ◌⊎◌, inl, inr, ℕ, ◌+◌, ◌-◌, ◌<◌, ◌≤◌, Bool, true, false, ◌&&◌, nat_eq, Option, Some, List, [], ◌∷◌, ◌++◌, length, map, replicate, set, take, get_or, length-set, refl, ap, sym, subst, ◌∙◌, arith}
use Rattle.std.proofs.lemmas.Bool.{cases_lt, cases_eq, eq-eqb, ne_eqb}
use Rattle.std.proofs.lemmas.List.{get_or-map, length-map, length-append, get_or_append_left, get_or-append_right, get_or-replicate, length-replicate, take_more, take_all}
use Rattle.f2_vec.specs.Vectors.{plus, bit, sum_of, zeros, placed}
use Rattle.f2_vec.specs.Spans.{row, unit_vector}
use Rattle.f2_vec.proofs.Sums.{bit-sum_of, bit-zeros, length-zeros, plus-comm, plus-assoc, sum_of-zeros_left}
use Rattle.f2_vec.proofs.Moved.{length-placed}
use Rattle.milnor_basis.specs.Exponents.{degree_of}
use Rattle.milnor_basis.specs.Basis.{basis_of}
use Rattle.milnor_basis.specs.Product.{product_bits, ArePairs}
use Rattle.milnor_basis.proofs.Places.{basis_of-member}
use Rattle.milnor_basis.proofs.FreeTable.{second_false}
use Rattle.free_module.specs.Inside.Terms.{added_to, products_at}
use Rattle.free_module.specs.declared.terms.Term.{Term}
use Rattle.free_module.specs.Columns.{column_at, IsTableOfColumns, AreAdded}
use Rattle.free_module.proofs.TermSums.{added_to-push, length-product, length-with}
use Rattle.free_module.proofs.PairSums.{AddsFirst, adds_none, adds_more, adds_products, length-flipped, bit-flipped}

-- rows of zeros change nothing
pub added_none : (table : List (Option ℕ)) (end : ℕ) (rows columns : List (List Bool)) → ((k p : ℕ) → k < length rows → bit (row rows k) p ≡ false) → AreAdded table end rows columns columns
added_none table end rows columns none = record {
  as_many = refl;
  lengths = λ j. refl;
  added = λ p j k e l. ap (λ b. plus b (bit (row columns j) (end - 1 - k))) (sym (none k p l));
  others = λ j i o. refl;
}

-- rows with the same coordinates
pub added_same : (table : List (Option ℕ)) (end : ℕ) (rows same old new : List (List Bool)) → length same ≡ length rows → ((k p : ℕ) → k < length rows → bit (row same k) p ≡ bit (row rows k) p) → AreAdded table end rows old new → AreAdded table end same old new
added_same table end rows same old new count is h = record {
  as_many = h.as_many;
  lengths = h.lengths;
  added = λ p j k e l.
      let m : k < length rows = omega (arith, l, count) in
      h.added p j k e m ∙ ap (λ b. plus b (bit (row old j) (end - 1 - k))) (sym (is k p m));
  others = λ j i o. h.others j i (subst (λ n. (end ≤ i) ⊎ (i + n < end)) count o);
}

-- rows, and then others: their sums
pub added_sum : (table : List (Option ℕ)) (end : ℕ) (a b c old mid new : List (List Bool)) → length a ≡ length c → length b ≡ length c → ((k p : ℕ) → k < length c → bit (row c k) p ≡ plus (bit (row b k) p) (bit (row a k) p)) → AreAdded table end a old mid → AreAdded table end b mid new → AreAdded table end c old new
added_sum table end a b c old mid new la lb is h g = record {
  as_many = g.as_many ∙ h.as_many;
  lengths = λ j. g.lengths j ∙ h.lengths j;
  added = λ p j k e l.
      let i = end - 1 - k in
      g.added p j k e (omega (arith, l, lb))
      ∙ ap (plus (bit (row b k) p)) (h.added p j k e (omega (arith, l, la)))
      ∙ sym (plus-assoc (bit (row b k) p) (bit (row a k) p) (bit (row old j) i))
      ∙ ap (λ x. plus x (bit (row old j) i)) (sym (is k p l));
  others = λ j i o.
      g.others j i (subst (λ n. (end ≤ i) ⊎ (i + n < end)) (sym lb) o) ∙ h.others j i (subst (λ n. (end ≤ i) ⊎ (i + n < end)) (sym la) o);
}

-- rows, and then those that stand behind them
pub added-append : (table : List (Option ℕ)) (end : ℕ) (a b old mid new : List (List Bool)) → length a + length b ≤ end → AreAdded table end a old mid → AreAdded table (end - length a) b mid new → AreAdded table end (a ++ b) old new
added-append table end a b old mid new room h g = record {
  as_many = g.as_many ∙ h.as_many;
  lengths = λ j. g.lengths j ∙ h.lengths j;
  added = λ p j k e l.
      let i = end - 1 - k in
      elim (cases_lt k (length a)) [
        | inl m ↦
            g.others j i (inl (omega (arith, m, room)))
            ∙ h.added p j k e m
            ∙ ap (λ v. plus (bit v p) (bit (row old j) i)) (sym (get_or_append_left a b [] k m))
        | inr m ↦
            let n : k - length a < length b = omega (arith, m, l, length-append a b) in
            let there : end - length a - 1 - (k - length a) ≡ i = omega (arith, m, n, room) in
            ap (bit (row new j)) (sym there)
            ∙ g.added p j (k - length a) e n
            ∙ ap (λ z. plus (bit (row b (k - length a)) p) (bit (row mid j) z)) there
            ∙ ap (plus (bit (row b (k - length a)) p)) (h.others j i (inr (omega (arith, m, n, room))))
            ∙ ap (λ v. plus (bit v p) (bit (row old j) i)) (sym (get_or-append_right a b (length a) k [] refl m))
      ];
  others = λ j i o. elim o [
    | inl past ↦ g.others j i (inl (omega (arith, past))) ∙ h.others j i (inl past)
    | inr under ↦
        let sum = length-append a b in
        g.others j i (inr (omega (arith, under, sum))) ∙ h.others j i (inr (omega (arith, under, sum)))
  ];
}

-- one coordinate of one row turned over, and the same of the column that goes with its place
module _ (table : List (Option ℕ)) (end : ℕ) (rows old cur : List (List Bool)) (r at : ℕ) (w : List Bool) (there : r < length rows) (room : at < length (row rows r)) (is : w ≡ sum_of (row rows r) (unit_vector (length (row rows r)) at)) (few : length rows ≤ end) (h : AreAdded table end rows old cur) where
  pub added_nowhere : ((j : ℕ) → column_at table at ≡ Some j → ⊥) → AreAdded table end (set rows r w) old cur
  added_nowhere none = record {
    as_many = h.as_many;
    lengths = h.lengths;
    added = λ p j k e l.
        let m : k < length rows = omega (arith, l, length-set rows r w) in
        let apart : at ≢ p = (λ s. none j (ap (column_at table) s ∙ e)) in
        let same : bit (row (set rows r w) k) p ≡ bit (row rows k) p = bit-flipped rows r at w there room is k p ∙ ap (λ b. plus b (bit (row rows k) p)) (second_false (nat_eq r k) (nat_eq at p) (ne_eqb at p apart)) in
        h.added p j k e m ∙ ap (λ b. plus b (bit (row old j) (end - 1 - k))) (sym same);
    others = λ j i o. h.others j i (subst (λ n. (end ≤ i) ⊎ (i + n < end)) (length-set rows r w) o);
  }

  pub added_somewhere : (c : ℕ) (v : List Bool) → IsTableOfColumns (length cur) table → column_at table at ≡ Some c → end - 1 - r < length (row cur c) → v ≡ sum_of (row cur c) (unit_vector (length (row cur c)) (end - 1 - r)) → AreAdded table end (set rows r w) old (set cur c v)
  added_somewhere c v t some fits turned =
      let q = end - 1 - r in
      let inside : c < length cur = t.within at c some in
      record {
        as_many = length-set cur c v ∙ h.as_many;
        lengths = λ j. length-flipped cur c q v inside fits turned j ∙ h.lengths j;
        added = λ p j k e l.
            let m : k < length rows = omega (arith, l, length-set rows r w) in
            let i = end - 1 - k in
            let x = bit (row rows k) p in
            let y = bit (row old j) i in
            let places : nat_eq q i ≡ nat_eq r k = elim (cases_eq r k) [
              | inl s ↦ eq-eqb q i (ap (λ z. end - 1 - z) s) ∙ sym (eq-eqb r k s)
              | inr d ↦ ne_eqb q i (λ s. d (omega (arith, s, m, there, few))) ∙ sym (ne_eqb r k d)
            ] in
            let columns : nat_eq c j ≡ nat_eq at p = elim (cases_eq at p) [
              | inl s ↦ eq-eqb c j (one c j (sym some ∙ ap (column_at table) s ∙ e)) ∙ sym (eq-eqb at p s)
              | inr d ↦ ne_eqb c j (λ s. d (t.apart at p j (some ∙ ap Some s) e)) ∙ sym (ne_eqb at p d)
            ] in
            let both : (nat_eq c j && nat_eq q i) ≡ (nat_eq r k && nat_eq at p) = ap (λ b. b && nat_eq q i) columns ∙ ap (λ b. nat_eq at p && b) places ∙ swap (nat_eq at p) (nat_eq r k) in
            bit-flipped cur c q v inside fits turned j i
            ∙ ap (λ b. plus b (bit (row cur j) i)) both
            ∙ ap (plus (nat_eq r k && nat_eq at p)) (h.added p j k e m)
            ∙ sym (plus-assoc (nat_eq r k && nat_eq at p) x y)
            ∙ ap (λ b. plus b y) (sym (bit-flipped rows r at w there room is k p));
        others = λ j i o.
            let out : (end ≤ i) ⊎ (i + length rows < end) = subst (λ n. (end ≤ i) ⊎ (i + n < end)) (length-set rows r w) o in
            let apart : q ≢ i = (λ s. elim out [ inl past ↦ omega (arith, past, s, there, few) | inr under ↦ omega (arith, under, s, there, few) ]) in
            bit-flipped cur c q v inside fits turned j i
            ∙ ap (λ b. plus b (bit (row cur j) i)) (second_false (nat_eq c j) (nat_eq q i) (ne_eqb q i apart))
            ∙ h.others j i out;
      }
    where
      one : (c j : ℕ) → Some c ≡ Some j → c ≡ j
      one c j e = cc

      swap : (a b : Bool) → (a && b) ≡ (b && a)
      swap true true = refl
      swap true false = refl
      swap false true = refl
      swap false false = refl

-- ---- the pairs of one term

-- the columns once the pairs at the places below n are added
pub record HavePairs (table : List (Option ℕ)) (end offset width height : ℕ) (pairs : List (ℕ × ℕ)) (n : ℕ) (old new : List (List Bool)) : Type 0 where
  pub rows : List (List Bool)
  pub adds : AddsFirst offset pairs n (replicate height (zeros width)) rows
  pub added : AreAdded table end rows old new

pub pairs_none : (table : List (Option ℕ)) (end offset width height : ℕ) (pairs : List (ℕ × ℕ)) (old : List (List Bool)) → HavePairs table end offset width height pairs 0 old old
pairs_none table end offset width height pairs old =
    let rows = replicate height (zeros width) in
    record {
      rows = rows;
      adds = adds_none offset pairs rows;
      added = added_none table end rows old (λ k p l. ap (λ v. bit v p) (get_or-replicate height k (zeros width) [] (omega (arith, l, length-replicate height (zeros width)))) ∙ bit-zeros width p);
    }

module _ (table : List (Option ℕ)) (end offset width height : ℕ) (pairs : List (ℕ × ℕ)) (n : ℕ) (old cur : List (List Bool)) (r t : ℕ) (h : HavePairs table end offset width height pairs n old cur) (l : n < length pairs) (er : r ≡ (get_or pairs n (0, 0)).0) (et : t ≡ (get_or pairs n (0, 0)).1) (first : r < height) (second : offset + t < width) (few : height ≤ end) where
  abbrev turned : List Bool
  turned = sum_of (row h.rows r) (unit_vector (length (row h.rows r)) (offset + t))

  many : length h.rows ≡ height
  many = h.adds.count ∙ length-replicate height (zeros width)

  there : r < length h.rows
  there = omega (arith, first, many)

  wide : length (row h.rows r) ≡ width
  wide = h.adds.widths r ∙ ap length (get_or-replicate height r (zeros width) [] first) ∙ length-zeros width

  room : offset + t < length (row h.rows r)
  room = omega (arith, second, wide)

  more : AddsFirst offset pairs (n + 1) (replicate height (zeros width)) (set h.rows r turned)
  more = adds_more offset pairs n (replicate height (zeros width)) h.rows r t turned h.adds l er et there room refl

  pub pairs_nowhere : ((j : ℕ) → column_at table (offset + t) ≡ Some j → ⊥) → HavePairs table end offset width height pairs (n + 1) old cur
  pairs_nowhere none = record {
    rows = set h.rows r turned;
    adds = more;
    added = added_nowhere table end h.rows old cur r (offset + t) turned there room refl (omega (arith, few, many)) h.added none;
  }

  pub pairs_somewhere : (c : ℕ) (v : List Bool) → IsTableOfColumns (length cur) table → column_at table (offset + t) ≡ Some c → end - 1 - r < length (row cur c) → v ≡ sum_of (row cur c) (unit_vector (length (row cur c)) (end - 1 - r)) → HavePairs table end offset width height pairs (n + 1) old (set cur c v)
  pairs_somewhere c v is some fits flipped = record {
    rows = set h.rows r turned;
    adds = more;
    added = added_somewhere table end h.rows old cur r (offset + t) turned there room refl (omega (arith, few, many)) h.added c v is some fits flipped;
  }

pub pairs_all : (table : List (Option ℕ)) (end offset width degree : ℕ) (s : List ℕ) (pairs : List (ℕ × ℕ)) (n : ℕ) (old new : List (List Bool)) → ArePairs degree s pairs → length pairs ≤ n → offset + length (basis_of (degree + degree_of s)) ≤ width → HavePairs table end offset width (length (basis_of degree)) pairs n old new → AreAdded table end (products_at width offset degree s) old new
pairs_all table end offset width degree s pairs n old new are all room h =
    let height = length (basis_of degree) in
    let before = replicate height (zeros width) in
    let moved : List ℕ → List Bool = λ r. placed width offset (product_bits r s) in
    let many : length h.rows ≡ height = h.adds.count ∙ length-replicate height (zeros width) in
    let count : length (map moved (basis_of degree)) ≡ height = length-map (basis_of degree) moved in
    added_same table end h.rows (map moved (basis_of degree)) old new (count ∙ sym many)
    (λ k p l.
    let m : k < height = omega (arith, l, many) in
    let r = get_or (basis_of degree) k [] in
    let blank : row before k ≡ zeros width = get_or-replicate height k (zeros width) [] m in
    let wide : length (row before k) ≡ width = ap length blank ∙ length-zeros width in
    let size = length-product r s degree (basis_of-member degree k m).1 in
    let sum : row h.rows k ≡ sum_of (row before k) (placed (length (row before k)) offset (product_bits r s)) = adds_products offset degree s pairs n before h.rows k are h.adds all m (omega (arith, room, wide)) in
    let is : row h.rows k ≡ moved r = sum ∙ ap (λ v. sum_of v (placed (length v) offset (product_bits r s))) blank ∙ ap (λ z. sum_of (zeros width) (placed z offset (product_bits r s))) (length-zeros width) ∙ sum_of-zeros_left width (moved r) (length-placed width offset (product_bits r s) (omega (arith, room, size))) in
    ap (λ v. bit v p) (get_or-map moved (basis_of degree) k [] [] m ∙ sym is))
    h.added

-- ---- the terms

-- the columns once the terms before term i are added
pub record HaveTerms (table : List (Option ℕ)) (end degree width : ℕ) (terms : List Term) (i : ℕ) (old new : List (List Bool)) : Type 0 where
  pub widths : (k : ℕ) → k < length (basis_of degree) → length (added_to (zeros width) (get_or (basis_of degree) k []) (take i terms)) ≡ width
  pub added : AreAdded table end (map (λ r. added_to (zeros width) r (take i terms)) (basis_of degree)) old new

pub no_terms : (table : List (Option ℕ)) (end degree width : ℕ) (terms : List Term) (old : List (List Bool)) → HaveTerms table end degree width terms 0 old old
no_terms table end degree width terms old =
    let f : List ℕ → List Bool = λ r. zeros width in
    record {
      widths = λ k l. length-zeros width;
      added = added_none table end (map f (basis_of degree)) old (λ k p l. ap (λ v. bit v p) (get_or-map f (basis_of degree) k [] [] (omega (arith, l, length-map (basis_of degree) f))) ∙ bit-zeros width p);
    }

pub one_term : (table : List (Option ℕ)) (end degree width : ℕ) (terms : List Term) (i : ℕ) (x : Term) (old mid new : List (List Bool)) → i < length terms → x ≡ get_or terms i x → x.offset + length (basis_of (degree + degree_of x.right)) ≤ width → AreAdded table end (products_at width x.offset degree x.right) mid new → HaveTerms table end degree width terms i old mid → HaveTerms table end degree width terms (i + 1) old new
one_term table end degree width terms i x old mid new l is room more h =
    let xs = basis_of degree in
    let f : List ℕ → List Bool = λ r. added_to (zeros width) r (take i terms) in
    let g : List ℕ → List Bool = λ r. added_to (zeros width) r (take (i + 1) terms) in
    let moved : List ℕ → List Bool = λ r. placed width x.offset (product_bits r x.right) in
    let front : take (i + 1) terms ≡ take i terms ++ x ∷ [] = take_more terms i x l ∙ ap (λ (y : Term). take i terms ++ y ∷ []) (sym is) in
    let size : (k : ℕ) → k < length xs → length (product_bits (get_or xs k []) x.right) ≡ length (basis_of (degree + degree_of x.right)) = λ k m. length-product (get_or xs k []) x.right degree (basis_of-member degree k m).1 in
    let step : (k : ℕ) → k < length xs → g (get_or xs k []) ≡ sum_of (f (get_or xs k [])) (moved (get_or xs k [])) =
    λ k m.
    let r = get_or xs k [] in
    ap (added_to (zeros width) r) front ∙ added_to-push (zeros width) r (take i terms) x ∙ ap (λ z. sum_of (f r) (placed z x.offset (product_bits r x.right))) (h.widths k m)
    in
    record {
      widths = λ k m.
          let r = get_or xs k [] in
          let full : length (f r) ≡ width = h.widths k m in
          ap length (step k m) ∙ ap (λ z. length (sum_of (f r) (placed z x.offset (product_bits r x.right)))) (sym full) ∙ length-with (f r) (product_bits r x.right) x.offset (omega (arith, room, size k m, full)) ∙ full;
      added = added_sum table end (map f xs) (map moved xs) (map g xs) old mid new (length-map xs f ∙ sym (length-map xs g)) (length-map xs moved ∙ sym (length-map xs g))
          (λ k p b.
          let m : k < length xs = omega (arith, b, length-map xs g) in
          let r = get_or xs k [] in
          let full : length (f r) ≡ width = h.widths k m in
          let wide : length (moved r) ≡ width = length-placed width x.offset (product_bits r x.right) (omega (arith, room, size k m)) in
          ap (λ v. bit v p) (get_or-map g xs k [] [] m ∙ step k m)
          ∙ bit-sum_of (f r) (moved r) p (full ∙ sym wide)
          ∙ plus-comm (bit (f r) p) (bit (moved r) p)
          ∙ ap (λ v. plus (bit (moved r) p) (bit v p)) (sym (get_or-map f xs k [] [] m))
          ∙ ap (λ v. plus (bit v p) (bit (row (map f xs) k) p)) (sym (get_or-map moved xs k [] [] m)))
          h.added more;
    }

pub all_terms : (table : List (Option ℕ)) (end degree width : ℕ) (terms : List Term) (i : ℕ) (f : List ℕ → List Bool) (old new : List (List Bool)) → length terms ≤ i → ((r : List ℕ) → degree_of r ≡ degree → added_to (zeros width) r terms ≡ f r) → HaveTerms table end degree width terms i old new → AreAdded table end (map f (basis_of degree)) old new
all_terms table end degree width terms i f old new l are h =
    let xs = basis_of degree in
    let g : List ℕ → List Bool = λ r. added_to (zeros width) r (take i terms) in
    added_same table end (map g xs) (map f xs) old new (length-map xs f ∙ sym (length-map xs g))
    (λ k p b.
    let m : k < length xs = omega (arith, b, length-map xs g) in
    let r = get_or xs k [] in
    ap (λ v. bit v p)
    (get_or-map f xs k [] [] m ∙ sym (are r (basis_of-member degree k m).1) ∙ ap (added_to (zeros width) r) (sym (take_all i terms l)) ∙ sym (get_or-map g xs k [] [] m)))
    h.added
