-- The terms of a vector, and the sums of their products.
use Rattle.std.proofs.Common.{◌≡◌, Bor, ℕ, zero, suc, ◌+◌, ◌-◌, ◌<◌, ◌≤◌, Bool, true, false, cond, Some, slice_get, List, [], ◌∷◌, ◌++◌, length, map, replicate, take, drop, get_or, ℤ, pos, ◌+ℤ◌, ◌-ℤ◌, refl, subst, ap, sym, ◌∙◌, arith, length-append}
use Rattle.std.specs.List.{All, items_where_true}
use Rattle.std.proofs.lemmas.Int.{ints}
use Rattle.std.proofs.lemmas.List.{append_assoc, append-nil, drop_more, drop_all, take_all, ext_get_or, get_or-map, length-map, length-take-le, map-append, get_or-replicate, length-replicate}
use Rattle.std.proofs.lemmas.List.Elements.{All-push, All-nil, All-get_or}
use Rattle.std.proofs.lemmas.Option.{slice_get_within, get_or_from_slice_get, slice_get-get_or}
use Rattle.f2_vec.specs.Vectors.{zeros, bit, sum_of, placed, IsNextOne}
use Rattle.f2_vec.specs.Spans.{row, HaveWidth, combination}
use Rattle.f2_vec.proofs.Sums.{length-sum_of, length-zeros}
use Rattle.f2_vec.proofs.Spans.{length-combination}
use Rattle.f2_vec.proofs.Split.{zeros-append}
use Rattle.f2_vec.proofs.Moved.{length-placed}
use Rattle.f2_vec.proofs.Combinations.{HaveWidth-map, HaveWidth-take, combination_more}
use Rattle.milnor_basis.specs.Exponents.{degree_of}
use Rattle.milnor_basis.specs.Basis.{basis_of}
use Rattle.milnor_basis.specs.Product.{Factors, coefficient, product_bits}
use Rattle.milnor_basis.proofs.Places.{basis_of-member}
use Rattle.milnor_product.specs.Times.{basis_at}
use Rattle.milnor_product.proofs.Multiples.{degree_of-basis_at}
use Rattle.free_module.specs.FreeModule.{IsWithinReach, degree_at, free_basis_from, free_basis, free_width, acted, free_action}
use Rattle.free_module.specs.Inside.FreeLaws.{on, coefficient_at, own_part, other_part, later_parts}
use Rattle.free_module.specs.Inside.Terms.{factors_at, term_at, added_to, acted_through, HasRoom, AreTerms}
use Rattle.free_module.specs.declared.terms.Term.{Term}
use Rattle.free_module.proofs.FreeBasis.{free_basis-at, start_within, free_basis-place}

-- Sq(R) on one basis element is the product, at the place of its generator
earlier_parts : (k : ℕ) (ds : List ℤ) (h : ℕ) (r s : List ℕ) (t : ℤ) → k + length ds ≤ h → map (coefficient_at h r s) (free_basis_from k ds t) ≡ zeros (length (free_basis_from k ds t))
earlier_parts k [] h r s t l = refl
earlier_parts k (d ∷ ds) h r s t l =
    let b = basis_at (t -ℤ d) in
    let rest = free_basis_from (suc k) ds t in
    let e : map (coefficient_at h r s) (on k b) ≡ zeros (length b) = other_part k h r s b (omega arith) in
    let f : map (coefficient_at h r s) rest ≡ zeros (length rest) = earlier_parts (suc k) ds h r s t (omega arith) in
    let n : length (on k b ++ rest) ≡ length b + length rest = length-append (on k b) rest ∙ ap (λ m. m + length rest) (length-map b (λ x. (k, x))) in
    cc (map-append (coefficient_at h r s) (on k b) rest, zeros-append (length b) (length rest))

pub acted-placed : (ds : List ℤ) (r s : List ℕ) (t : ℤ) (g : ℕ) → g < length ds → (t -ℤ degree_at ds g) ≡ pos (degree_of r + degree_of s) → acted ds r t (g, s) ≡ placed (free_width ds t) (free_width (take g ds) t) (product_bits r s)
acted-placed ds r s t g h deg =
    let front = free_basis (take g ds) t in
    let d = degree_at ds g in
    let b = basis_at (t -ℤ d) in
    let rest = free_basis_from (suc g) (drop (g + 1) ds) t in
    let f = coefficient_at g r s in
    let split : free_basis ds t ≡ front ++ (on g b ++ rest) = free_basis-at ds t g h in
    let before : map f front ≡ zeros (length front) = earlier_parts 0 (take g ds) g r s t (omega (arith, length-take-le g ds (omega arith))) in
    let own : map f (on g b) ≡ product_bits r s = own_part g r s b ∙ ap (λ n. map (coefficient r s) (basis_at n)) deg in
    let after : map f rest ≡ zeros (length rest) = later_parts (suc g) (drop (g + 1) ds) g r s t (omega arith) in
    let width : length (product_bits r s) ≡ length b = length-map (basis_of (degree_of r + degree_of s)) (coefficient r s) ∙ ap (λ n. length (basis_at n)) (sym deg) in
    let on_g : length (on g b) ≡ length b = length-map b (λ x. (g, x)) in
    let all : free_width ds t ≡ length front + (length b + length rest) = ap length split ∙ length-append front (on g b ++ rest) ∙ ap (λ n. length front + n) (length-append (on g b) rest ∙ ap (λ n. n + length rest) on_g) in
    let back : length rest ≡ free_width ds t - (length front + length (product_bits r s)) = omega arith in
    ap (map f) split ∙ map-append f front (on g b ++ rest)
    ∙ ap (λ xs. xs ++ map f (on g b ++ rest)) before
    ∙ ap (λ xs. zeros (length front) ++ xs) (map-append f (on g b) rest)
    ∙ ap (λ xs. zeros (length front) ++ (xs ++ map f rest)) own
    ∙ ap (λ xs. zeros (length front) ++ (product_bits r s ++ xs)) after
    ∙ sym (append_assoc (zeros (length front)) (product_bits r s) (zeros (length rest)))
    ∙ ap (λ n. (zeros (length front) ++ product_bits r s) ++ zeros n) back

-- Sq(R) on one coordinate more
module _ (ds : List ℤ) (r : List ℕ) (t : ℤ) (v : List Bool) where
  HaveWidth-acted : HaveWidth (free_width ds (t +ℤ pos (degree_of r))) (map (acted ds r (t +ℤ pos (degree_of r))) (free_basis ds t))
  HaveWidth-acted =
      let above = t +ℤ pos (degree_of r) in
      HaveWidth-map (free_width ds above) (acted ds r above) (free_basis ds t) (λ e. length-map (free_basis ds above) (coefficient_at e.0 r e.1))

  pub length-acted_through : (i : ℕ) → length (acted_through ds r t v i) ≡ free_width ds (t +ℤ pos (degree_of r))
  length-acted_through i =
      let above = t +ℤ pos (degree_of r) in
      let rows = map (acted ds r above) (free_basis ds t) in
      length-combination (free_width ds above) (take i v) (take i rows) (HaveWidth-take (free_width ds above) i rows HaveWidth-acted)

  acted_through-more : (i : ℕ) (e : ℕ × List ℕ) → length v ≡ free_width ds t → i < length v → slice_get (free_basis ds t) i ≡ Some e → acted_through ds r t v (i + 1) ≡ cond (bit v i) (sum_of (acted_through ds r t v i) (acted ds r (t +ℤ pos (degree_of r)) e)) (acted_through ds r t v i)
  acted_through-more i e w l at =
      let above = t +ℤ pos (degree_of r) in
      let rows = map (acted ds r above) (free_basis ds t) in
      let m : i < length rows = omega (arith, length-map (free_basis ds t) (acted ds r above)) in
      let here : row rows i ≡ acted ds r above e = get_or-map (acted ds r above) (free_basis ds t) i e [] (slice_get_within (free_basis ds t) i e at) ∙ ap (acted ds r above) (get_or_from_slice_get (free_basis ds t) i e e at) in
      combination_more (free_width ds above) i v rows HaveWidth-acted l m ∙ ap (λ x. cond (bit v i) (sum_of (acted_through ds r t v i) x) (acted_through ds r t v i)) here

  pub acted_through-all : length v ≡ free_width ds t → acted_through ds r t v (length v) ≡ free_action ds r t v
  acted_through-all w =
      let above = t +ℤ pos (degree_of r) in
      let rows = map (acted ds r above) (free_basis ds t) in
      let m : length rows ≤ length v = omega (arith, length-map (free_basis ds t) (acted ds r above)) in
      ap (λ c. combination (free_width ds above) c (take (length v) rows)) (take_all (length v) v (omega arith)) ∙ ap (combination (free_width ds above) v) (take_all (length v) rows m)

-- one term more
pub added_to-push : (v : List Bool) (r : List ℕ) (xs : List Term) (x : Term) → added_to v r (xs ++ x ∷ []) ≡ sum_of (added_to v r xs) (placed (length (added_to v r xs)) x.offset (product_bits r x.right))
added_to-push v r [] x = refl
added_to-push v r (y ∷ ys) x = added_to-push (sum_of v (placed (length v) y.offset (product_bits r y.right))) r ys x

pub added_to-more : (v : List Bool) (r : List ℕ) (xs : List Term) (i : ℕ) (x : Term) → i < length xs → x ≡ get_or xs i x → added_to v r (drop i xs) ≡ added_to (sum_of v (placed (length v) x.offset (product_bits r x.right))) r (drop (i + 1) xs)
added_to-more v r xs i x l is =
    ap (added_to v r) (drop_more xs i x l) ∙ ap (λ (y : Term). added_to v r (y ∷ drop (i + 1) xs)) (sym is)

abbrev if_one : Bool → Term → List Term
if_one b x = cond b (x ∷ []) []

sum_more : (ds : List ℤ) (r : List ℕ) (t : ℤ) (v : List Bool) (i : ℕ) (xs : List Term) (g : ℕ) (s : List ℕ)
    → g < length ds → length v ≡ free_width ds t → i < length v → slice_get (free_basis ds t) i ≡ Some (g, s) → (degree_at ds g +ℤ pos (degree_of s)) ≡ t
    → added_to (zeros (free_width ds (t +ℤ pos (degree_of r)))) r xs ≡ acted_through ds r t v i
    → added_to (zeros (free_width ds (t +ℤ pos (degree_of r)))) r (xs ++ if_one (bit v i) (term_at (free_width (take g ds) (t +ℤ pos (degree_of r))) s)) ≡ acted_through ds r t v (i + 1)
sum_more ds r t v i xs g s h w l at deg so_far = by (bit v i) refl
  where
    by : (b : Bool) → bit v i ≡ b → added_to (zeros (free_width ds (t +ℤ pos (degree_of r)))) r (xs ++ if_one b (term_at (free_width (take g ds) (t +ℤ pos (degree_of r))) s)) ≡ acted_through ds r t v (i + 1)
    by false e =
        ap (added_to (zeros (free_width ds (t +ℤ pos (degree_of r)))) r) (append-nil xs) ∙ so_far
        ∙ sym (acted_through-more ds r t v i (g, s) w l at ∙ ap (λ b. cond b (sum_of (acted_through ds r t v i) (acted ds r (t +ℤ pos (degree_of r)) (g, s))) (acted_through ds r t v i)) e)
    by true e =
        let above = t +ℤ pos (degree_of r) in
        let o = free_width (take g ds) above in
        let d : (above -ℤ degree_at ds g) ≡ pos (degree_of r + degree_of s) = omega (arith, ints) in
        added_to-push (zeros (free_width ds above)) r xs (term_at o s)
        ∙ ap (λ x. sum_of x (placed (length x) o (product_bits r s))) so_far
        ∙ ap (λ n. sum_of (acted_through ds r t v i) (placed n o (product_bits r s))) (length-acted_through ds r t v i)
        ∙ ap (sum_of (acted_through ds r t v i)) (sym (acted-placed ds r s above g h d))
        ∙ sym (acted_through-more ds r t v i (g, s) w l at ∙ ap (λ b. cond b (sum_of (acted_through ds r t v i) (acted ds r above (g, s))) (acted_through ds r t v i)) e)

pub terms_none : (max : ℕ) (ds : List ℤ) (a : ℕ) (t : ℤ) (v : List Bool) → AreTerms max ds a t v 0 []
terms_none max ds a t v = record {
  sum = λ r e. ap (λ n. zeros (free_width ds (t +ℤ pos n))) (sym e);
  room = All-nil (HasRoom max (free_width ds (t +ℤ pos a)) a);
}

terms_more : (max : ℕ) (ds : List ℤ) (a : ℕ) (t : ℤ) (v : List Bool) (i : ℕ) (xs : List Term) (g : ℕ) (s : List ℕ)
    → g < length ds → length v ≡ free_width ds t → i < length v → slice_get (free_basis ds t) i ≡ Some (g, s) → (degree_at ds g +ℤ pos (degree_of s)) ≡ t
    → IsWithinReach max ds (t +ℤ pos a) → AreTerms max ds a t v i xs
    → AreTerms max ds a t v (i + 1) (xs ++ if_one (bit v i) (term_at (free_width (take g ds) (t +ℤ pos a)) s))
terms_more max ds a t v i xs g s h w l at deg reach are =
    record {
      sum = λ r e.
          let before : added_to (zeros (free_width ds (t +ℤ pos (degree_of r)))) r xs ≡ acted_through ds r t v i = subst (λ n. added_to (zeros (free_width ds (t +ℤ pos n))) r xs ≡ acted_through ds r t v i) (sym e) (are.sum r e) in
          subst (λ n. added_to (zeros (free_width ds (t +ℤ pos n))) r (xs ++ if_one (bit v i) (term_at (free_width (take g ds) (t +ℤ pos n)) s)) ≡ acted_through ds r t v (i + 1)) e (sum_more ds r t v i xs g s h w l at deg before);
      room = by (bit v i);
    }
  where
    by : (b : Bool) → All (HasRoom max (free_width ds (t +ℤ pos a)) a) (xs ++ if_one b (term_at (free_width (take g ds) (t +ℤ pos a)) s))
    by false = subst (All (HasRoom max (free_width ds (t +ℤ pos a)) a)) (sym (append-nil xs)) are.room
    by true =
        let above = t +ℤ pos a in
        let d : (above -ℤ degree_at ds g) ≡ pos (a + degree_of s) = omega (arith, ints) in
        let r = reach g h in
        let inside = start_within ds above g h in
        let size : length (basis_at (above -ℤ degree_at ds g)) ≡ length (basis_of (a + degree_of s)) = ap (λ n. length (basis_at n)) d in
        All-push (HasRoom max (free_width ds above) a) xs (term_at (free_width (take g ds) above) s) are.room (record { reach = omega (arith, ints); within = omega arith })

picked-none : {X : Type 0} (bits : List Bool) → items_where_true {X = X} bits [] ≡ []
picked-none [] = refl
picked-none (b ∷ bits) = refl

picked-cons : (o : ℕ) (xs : List Term) (b : Bool) (bits : List Bool) (s : List ℕ) (ss : List (List ℕ)) → (xs ++ if_one b (term_at o s)) ++ map (term_at o) (items_where_true bits ss) ≡ xs ++ map (term_at o) (items_where_true (b ∷ bits) (s ∷ ss))
picked-cons o xs true bits s ss = append_assoc xs (term_at o s ∷ []) (map (term_at o) (items_where_true bits ss))
picked-cons o xs false bits s ss = ap (λ ys. ys ++ map (term_at o) (items_where_true bits ss)) (append-nil xs)

-- the terms on one generator more
module _ (max : ℕ) (ds : List ℤ) (a : ℕ) (t : ℤ) (v : List Bool) (g : ℕ) (h : g < length ds) (w : length v ≡ free_width ds t) (reach : IsWithinReach max ds (t +ℤ pos a)) where
  terms_from : (n j : ℕ) (xs : List Term) → j + n ≡ length (basis_at (t -ℤ degree_at ds g)) → AreTerms max ds a t v (free_width (take g ds) t + j) xs
      → AreTerms max ds a t v (free_width (take g ds) t + length (basis_at (t -ℤ degree_at ds g))) (xs ++ map (term_at (free_width (take g ds) (t +ℤ pos a))) (items_where_true (drop (free_width (take g ds) t + j) v) (drop j (basis_at (t -ℤ degree_at ds g)))))
  terms_from zero j xs e are =
      let b = basis_at (t -ℤ degree_at ds g) in
      let start = free_width (take g ds) t in
      let o = free_width (take g ds) (t +ℤ pos a) in
      let none : items_where_true (drop (start + j) v) (drop j b) ≡ [] = ap (items_where_true (drop (start + j) v)) (drop_all j b (omega arith)) ∙ picked-none (drop (start + j) v) in
      let same : j ≡ length b = omega arith in
      let all : xs ≡ xs ++ map (term_at o) (items_where_true (drop (start + j) v) (drop j b)) = sym (ap (λ ss. xs ++ map (term_at o) ss) none ∙ append-nil xs) in
      subst (AreTerms max ds a t v (start + length b)) all (subst (λ n. AreTerms max ds a t v (start + n) xs) same are)
  terms_from (suc n) j xs e are =
      let b = basis_at (t -ℤ degree_at ds g) in
      let start = free_width (take g ds) t in
      let o = free_width (take g ds) (t +ℤ pos a) in
      let i = start + j in
      let s = get_or b j [] in
      let l : j < length b = omega arith in
      let within = start_within ds t g h in
      let lv : i < length v = omega arith in
      let at = free_basis-place ds t g j s h (slice_get-get_or b j [] l) in
      let deg : (degree_at ds g +ℤ pos (degree_of s)) ≡ t = omega (arith, ints, degree_of-basis_at (t -ℤ degree_at ds g) j l) in
      let next : i + 1 ≡ start + (j + 1) = omega arith in
      let one = terms_more max ds a t v i xs g s h w lv at deg reach are in
      let rest = terms_from n (j + 1) (xs ++ if_one (bit v i) (term_at o s)) (omega arith) (subst (λ k. AreTerms max ds a t v k (xs ++ if_one (bit v i) (term_at o s))) next one) in
      let bits : drop i v ≡ bit v i ∷ drop (start + (j + 1)) v = drop_more v i false lv ∙ ap (λ k. bit v i ∷ drop k v) next in
      let parts : drop j b ≡ s ∷ drop (j + 1) b = drop_more b j [] l in
      let all : (xs ++ if_one (bit v i) (term_at o s)) ++ map (term_at o) (items_where_true (drop (start + (j + 1)) v) (drop (j + 1) b)) ≡ xs ++ map (term_at o) (items_where_true (drop i v) (drop j b)) =
      picked-cons o xs (bit v i) (drop (start + (j + 1)) v) s (drop (j + 1) b)
      ∙ ap (λ ss. xs ++ map (term_at o) (items_where_true (bit v i ∷ drop (start + (j + 1)) v) ss)) (sym parts)
      ∙ ap (λ cs. xs ++ map (term_at o) (items_where_true cs (drop j b))) (sym bits)
      in
      subst (AreTerms max ds a t v (start + length b)) all rest

  pub terms_block : (xs : List Term) → AreTerms max ds a t v (free_width (take g ds) t) xs
      → AreTerms max ds a t v (free_width (take g ds) t + length (basis_at (t -ℤ degree_at ds g))) (xs ++ map (term_at (free_width (take g ds) (t +ℤ pos a))) (items_where_true (drop (free_width (take g ds) t) v) (basis_at (t -ℤ degree_at ds g))))
  terms_block xs are =
      let b = basis_at (t -ℤ degree_at ds g) in
      let start = free_width (take g ds) t in
      let o = free_width (take g ds) (t +ℤ pos a) in
      let z : start + 0 ≡ start = omega arith in
      subst (λ k. AreTerms max ds a t v (start + length b) (xs ++ map (term_at o) (items_where_true (drop k v) b))) z
      (terms_from (length b) 0 xs (omega arith) (subst (λ k. AreTerms max ds a t v k xs) (sym z) are))

-- the same, in the words of the loop
pub terms_step : (max : ℕ) (ds : List ℤ) (a : ℕ) (t : ℤ) (v : List Bool) (g start offset : ℕ) (elements : List (List ℕ)) (xs ys : List Term)
    → g < length ds → length v ≡ free_width ds t → IsWithinReach max ds (t +ℤ pos a)
    → start ≡ free_width (take g ds) t → offset ≡ free_width (take g ds) (t +ℤ pos a) → elements ≡ basis_at (t -ℤ degree_at ds g)
    → ys ≡ xs ++ map (term_at offset) (items_where_true (drop start v) elements) → AreTerms max ds a t v start xs
    → AreTerms max ds a t v (start + length elements) ys
terms_step max ds a t v g start offset elements xs ys h w reach es eo ee ey are =
    let s = free_width (take g ds) t in
    let o = free_width (take g ds) (t +ℤ pos a) in
    let made = terms_block max ds a t v g h w reach xs (subst (λ k. AreTerms max ds a t v k xs) es are) in
    let by_elements = subst (λ b. AreTerms max ds a t v (s + length b) (xs ++ map (term_at o) (items_where_true (drop s v) b))) (sym ee) made in
    let by_offset = subst (λ k. AreTerms max ds a t v (s + length elements) (xs ++ map (term_at k) (items_where_true (drop s v) elements))) (sym eo) by_elements in
    let by_start = subst (λ k. AreTerms max ds a t v (k + length elements) (xs ++ map (term_at offset) (items_where_true (drop k v) elements))) (sym es) by_offset in
    subst (AreTerms max ds a t v (start + length elements)) (sym ey) by_start

pub terms_done : (ds : List ℤ) (t : ℤ) (v : List Bool) (k start : ℕ) → length ds ≤ k → length v ≡ free_width ds t → start ≡ free_width (take k ds) t → start ≡ length v
terms_done ds t v k start l w e = e ∙ ap (λ xs. free_width xs t) (take_all k ds l) ∙ sym w

-- one of the terms
pub room_of : (max width a : ℕ) (items terms : List Term) (i : ℕ) (x : Term) → items ≡ terms → All (HasRoom max width a) terms → i < length items → x ≡ get_or items i x → HasRoom max width a x
room_of max width a items terms i x e all l is =
    subst (HasRoom max width a) (sym is) (All-get_or (HasRoom max width a) items i x l (subst (All (HasRoom max width a)) (sym e) all))

pub length-product : (r s : List ℕ) (a : ℕ) → degree_of r ≡ a → length (product_bits r s) ≡ length (basis_of (a + degree_of s))
length-product r s a e = length-map (basis_of (degree_of r + degree_of s)) (coefficient r s) ∙ ap (λ n. length (basis_of (n + degree_of s))) e

-- a vector with a product added
pub length-with : (v bits : List Bool) (o : ℕ) → o + length bits ≤ length v → length (sum_of v (placed (length v) o bits)) ≡ length v
length-with v bits o h = length-sum_of v (placed (length v) o bits) (sym (length-placed (length v) o bits h))

-- the rows of a degree's elements, to which the terms from i on are left to add
pub record RowsAre (degree width : ℕ) (terms : List Term) (i : ℕ) (rows : List (List Bool)) : Type 0 where
  pub count : length rows ≡ length (basis_of degree)
  pub widths : (k : ℕ) → k < length rows → length (row rows k) ≡ width
  pub rest : (k : ℕ) → k < length rows → added_to (row rows k) (get_or (basis_of degree) k []) (drop i terms) ≡ added_to (zeros width) (get_or (basis_of degree) k []) terms

pub rows_start : (degree width n : ℕ) (terms : List Term) (rows : List (List Bool)) → n ≡ length (basis_of degree) → rows ≡ replicate n (zeros width) → RowsAre degree width terms 0 rows
rows_start degree width n terms rows e is =
    let count : length rows ≡ n = ap length is ∙ length-replicate n (zeros width) in
    let here : (k : ℕ) → k < length rows → row rows k ≡ zeros width = λ k l. ap (λ xs. row xs k) is ∙ get_or-replicate n k (zeros width) [] (omega arith) in
    record {
      count = count ∙ e;
      widths = λ k l. ap length (here k l) ∙ length-zeros width;
      rest = λ k l. ap (λ v. added_to v (get_or (basis_of degree) k []) terms) (here k l);
    }

pub rows_more : (degree width : ℕ) (terms : List Term) (i : ℕ) (x : Term) (rows new : List (List Bool))
    → i < length terms → x ≡ get_or terms i x → length new ≡ length rows → x.offset + length (basis_of (degree + degree_of x.right)) ≤ width
    → ((k : ℕ) → k < length rows → row new k ≡ sum_of (row rows k) (placed (length (row rows k)) x.offset (product_bits (get_or (basis_of degree) k []) x.right)))
    → RowsAre degree width terms i rows → RowsAre degree width terms (i + 1) new
rows_more degree width terms i x rows new l is same room added h =
    let element : ℕ → List ℕ = λ k. get_or (basis_of degree) k [] in
    let size : (k : ℕ) → k < length rows → length (product_bits (element k) x.right) ≡ length (basis_of (degree + degree_of x.right)) =
    λ k m. length-product (element k) x.right degree (basis_of-member degree k (omega (arith, h.count))).1
    in
    record {
      count = same ∙ h.count;
      widths = λ k m.
          let n : k < length rows = omega arith in
          let wide : length (row rows k) ≡ width = h.widths k n in
          ap length (added k n) ∙ length-with (row rows k) (product_bits (element k) x.right) x.offset (omega (arith, size k n)) ∙ wide;
      rest = λ k m.
          let n : k < length rows = omega arith in
          ap (λ v. added_to v (element k) (drop (i + 1) terms)) (added k n) ∙ sym (added_to-more (row rows k) (element k) terms i x l is) ∙ h.rest k n;
    }

pub rows_end : (degree width : ℕ) (terms : List Term) (i : ℕ) (rows : List (List Bool)) (f : List ℕ → List Bool) → length terms ≤ i → ((r : List ℕ) → degree_of r ≡ degree → added_to (zeros width) r terms ≡ f r) → RowsAre degree width terms i rows → rows ≡ map f (basis_of degree)
rows_end degree width terms i rows f l are h =
    ext_get_or [] rows (map f (basis_of degree)) (h.count ∙ sym (length-map (basis_of degree) f)) (λ k m.
    let r = get_or (basis_of degree) k [] in
    let within : k < length (basis_of degree) = omega (arith, h.count) in
    ap (added_to (row rows k) r) (sym (drop_all i terms l)) ∙ h.rest k m ∙ are r (basis_of-member degree k within).1 ∙ sym (get_or-map f (basis_of degree) k [] [] within))

-- zeros pick nothing
picked_over : (d k j : ℕ) (v : List Bool) (es : List (List ℕ)) → ((q : ℕ) → k ≤ q → q < k + d → bit v q ≡ false) → k + d ≤ length v → j + d ≤ length es → items_where_true (drop k v) (drop j es) ≡ items_where_true (drop (k + d) v) (drop (j + d) es)
picked_over zero k j v es h l m =
    let a : k ≡ k + 0 = omega arith in
    let b : j ≡ j + 0 = omega arith in
    ap (λ i. items_where_true (drop i v) (drop j es)) a ∙ ap (λ i. items_where_true (drop (k + 0) v) (drop i es)) b
picked_over (suc d) k j v es h l m =
    let a : (k + 1) + d ≡ k + suc d = omega arith in
    let b : (j + 1) + d ≡ j + suc d = omega arith in
    let bits : drop k v ≡ false ∷ drop (k + 1) v = drop_more v k false (omega arith) ∙ ap (λ x. x ∷ drop (k + 1) v) (h k (omega arith) (omega arith)) in
    let rest : drop j es ≡ get_or es j [] ∷ drop (j + 1) es = drop_more es j [] (omega arith) in
    ap (λ cs. items_where_true cs (drop j es)) bits ∙ ap (items_where_true (false ∷ drop (k + 1) v)) rest
    ∙ picked_over d (k + 1) (j + 1) v es (λ q f g. h q (omega arith) (omega arith)) (omega arith) (omega arith)
    ∙ ap (λ i. items_where_true (drop i v) (drop ((j + 1) + d) es)) a ∙ ap (λ i. items_where_true (drop (k + suc d) v) (drop i es)) b

-- the next 1 picks its element
pub picked_next : (o : ℕ) (xs xs' : List Term) (v : List Bool) (es : List (List ℕ)) (start from i : ℕ) (s : List ℕ)
    → start ≤ from → IsNextOne v from i → i < start + length es → start + length es ≤ length v → s ≡ get_or es (i - start) s → xs' ≡ xs ++ term_at o s ∷ []
    → xs' ++ map (term_at o) (items_where_true (drop (i + 1) v) (drop ((i + 1) - start) es)) ≡ xs ++ map (term_at o) (items_where_true (drop from v) (drop (from - start) es))
picked_next o xs xs' v es start from i s lo next hi room is pushed =
    let reached = next.reached in
    let a : from + (i - from) ≡ i = omega arith in
    let b : (from - start) + (i - from) ≡ i - start = omega arith in
    let c : (i - start) + 1 ≡ (i + 1) - start = omega arith in
    let over = picked_over (i - from) from (from - start) v es (λ q f g. next.zeros_between q f (omega arith)) (omega arith) (omega arith) in
    let bits : drop i v ≡ true ∷ drop (i + 1) v = drop_more v i false (omega arith) ∙ ap (λ x. x ∷ drop (i + 1) v) next.one in
    let rest : drop (i - start) es ≡ s ∷ drop ((i + 1) - start) es = drop_more es (i - start) s (omega arith) ∙ ap (λ (x : List ℕ). x ∷ drop ((i - start) + 1) es) (sym is) ∙ ap (λ n. s ∷ drop n es) c in
    let all : items_where_true (drop from v) (drop (from - start) es) ≡ s ∷ items_where_true (drop (i + 1) v) (drop ((i + 1) - start) es) =
    over ∙ ap (λ k. items_where_true (drop k v) (drop ((from - start) + (i - from)) es)) a ∙ ap (λ k. items_where_true (drop i v) (drop k es)) b
    ∙ ap (λ cs. items_where_true cs (drop (i - start) es)) bits ∙ ap (items_where_true (true ∷ drop (i + 1) v)) rest
    in
    ap (λ ys. ys ++ map (term_at o) (items_where_true (drop (i + 1) v) (drop ((i + 1) - start) es))) pushed
    ∙ append_assoc xs (term_at o s ∷ []) (map (term_at o) (items_where_true (drop (i + 1) v) (drop ((i + 1) - start) es)))
    ∙ ap (λ ss. xs ++ map (term_at o) ss) (sym all)

pub picked_end : (o : ℕ) (xs : List Term) (v : List Bool) (es : List (List ℕ)) (start from : ℕ) → start ≤ from → from ≤ start + length es → start + length es ≤ length v
    → ((k : ℕ) → from ≤ k → k < start + length es → bit v k ≡ false) → xs ++ map (term_at o) (items_where_true (drop from v) (drop (from - start) es)) ≡ xs
picked_end o xs v es start from lo hi room none =
    let d = (start + length es) - from in
    let b : (from - start) + d ≡ length es = omega arith in
    let over = picked_over d from (from - start) v es (λ q f g. none q f (omega arith)) (omega arith) (omega arith) in
    let all : items_where_true (drop from v) (drop (from - start) es) ≡ [] = over ∙ ap (λ n. items_where_true (drop (from + d) v) (drop n es)) b ∙ ap (items_where_true (drop (from + d) v)) (drop_all (length es) es (omega arith)) ∙ picked-none (drop (from + d) v) in
    ap (λ ss. xs ++ map (term_at o) ss) all ∙ append-nil xs

-- the products that are found for a term are those with its element
pub found_at : (degree : ℕ) (found : List (Bor Factors)) (terms : List Term) (i : ℕ) (m : Bor Factors) (x : Term) → map (λ (b : Bor Factors). b.now) found ≡ map (factors_at degree) terms → i < length terms → m ≡ get_or found i m → x ≡ get_or terms i x → m.now ≡ factors_at degree x
found_at degree found terms i m x e l em ex =
    let now : Bor Factors → Factors = λ b. b.now in
    let there : i < length found = omega (arith, l, ap length e, length-map found now, length-map terms (factors_at degree)) in
    ap now em ∙ sym (get_or-map now found i m m.now there) ∙ ap (λ (ms : List Factors). get_or ms i m.now) e ∙ get_or-map (factors_at degree) terms i x m.now l ∙ ap (factors_at degree) (sym ex)
