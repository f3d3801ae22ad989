-- What lifts, products and brackets are through the first squares of a table they are through more of them.
use Rattle.std.proofs.Common.{◌≡◌, ℕ, suc, ◌+◌, ◌<◌, ◌≤◌, ℤ, pos, ◌+ℤ◌, ◌-ℤ◌, ◌≤ℤ◌, Bool, true, nat_eq, if◌then◌else◌, List, [], ◌∷◌, ◌++◌, take, drop, map, ap, ◌∙◌, arith}
use Rattle.std.specs.List.{range_with_len}
use Rattle.std.proofs.lemmas.Int.{ints}
use Rattle.bidegree.specs.declared.range.Range.{Range}
use Rattle.f2_vec.specs.Vectors.{bit, zeros}
use Rattle.resolution_laws.specs.Resolution.{Module, Content, row_of}
use Rattle.lift_laws.specs.Lifts.{Resolution, IsCanonical, IsSphere, IsLift, degree, dual_of}
use Rattle.lift_laws.specs.Products.{Class, first_of, count_of, old_width, degree_of_class, on_square, product_by, LiftsGiveOneProduct}
use Rattle.lift_laws.proofs.Coefficients.{map_range}
use Rattle.lift_laws.proofs.Counts.{first_of-less, count_of-less, old_width-less}
use Rattle.lift_laws.proofs.Cut.{degree-cut, IsLift-uncut}
use Rattle.lift_laws.proofs.Sums.{IsLift-start}
use Rattle.bracket_laws.specs.Brackets.{HasRoom, top_of, IsBracketMember, IsIndeterminacy}
use Rattle.yoneda.specs.Products.{IsYonedaProduct}
use Rattle.yoneda.proofs.Cut.{product_by-part}
use Rattle.yoneda.proofs.OneProduct.{given-lowered, product-of-lift}
use Rattle.range_laws.specs.Ranges.{resolution_in, BracketsAreSameInEachRange}
use Rattle.massey.specs.Brackets.{IsBracketOf}

-- tables with the first squares of others, in rows through rs and degrees through rt, and of the sphere's through qs and qt
module _ (m w : Module) (table more sphere more_sphere : List (List Content)) (rs rt qs qt : ℕ)
    (r_rows : (i : ℕ) → i ≤ rs → row_of table i ≡ take (rt + 1) (row_of more i))
    (q_rows : (i : ℕ) → i ≤ qs → row_of sphere i ≡ take (qt + 1) (row_of more_sphere i)) where
  abbrev r : Resolution
  r = resolution_in m table

  abbrev q : Resolution
  q = resolution_in w sphere

  abbrev r_more : Resolution
  r_more = resolution_in m more

  abbrev q_more : Resolution
  q_more = resolution_in w more_sphere

  -- the class that a lift lifts, by the degree of a generator and the number of the class
  abbrev dual : ℤ → ℕ → ℤ → ℕ → List Bool
  dual u g t number = if nat_eq g number then true ∷ [] else zeros (w.graded.width (t -ℤ u))

  pub lift-more : (s k i : ℕ) (u : ℤ) (upto : ℕ) (top : ℤ) (phi : ℕ → ℕ → List Bool) → s + upto ≤ rs → upto ≤ qs → k ≤ rt → top ≤ℤ (m.bottom +ℤ pos rt) → (top -ℤ u) ≤ℤ (w.bottom +ℤ pos qt)
      → IsLift r q s u (dual_of r q s u (first_of r s k + i)) upto top phi → IsLift r_more q_more s u (dual_of r_more q_more s u (first_of r_more s k + i)) upto top phi
  lift-more s k i u upto top phi rows rows_q small low low_q lift =
      let z = dual_of r_more q_more s u (first_of r_more s k + i) in
      let number : first_of r s k + i ≡ first_of r_more s k + i = ap (λ (f : ℕ). f + i) (first_of-less m more table s rt (r_rows s (omega arith)) k small) in
      IsLift-uncut m w rs (rt + 1) qs (qt + 1) more table more_sphere sphere r_rows q_rows s u z upto top phi rows rows_q (omega (arith, ints)) (omega (arith, ints))
      (IsLift-start r q s u (dual_of r q s u (first_of r s k + i)) z upto top phi
      (λ g there b.
      ap (dual u g (degree r s g)) number
      ∙ ap (λ (t : ℤ). dual u g t (first_of r_more s k + i)) (degree-cut m rs (rt + 1) more table r_rows s g (omega arith) there)) lift)

  pub product-more : LiftsGiveOneProduct → (range far : Range) → IsCanonical r_more range.s range.t → IsCanonical q_more far.s far.t → IsSphere q_more → rs ≤ range.s → rt ≤ range.t → qs ≤ far.s → qt ≤ far.t
      → (a x : Class) → x.s + a.s ≤ rs → a.s ≤ qs → a.above + x.above ≤ rt → a.above ≤ qt → a.i < count_of q_more a.s a.above → (v : List Bool) → IsYonedaProduct r q a x v → IsYonedaProduct r_more q_more a x v
  product-more one range far canonical canonical_q is_sphere row_r degree_r row_q degree_q a x rows rows_q degrees degrees_q there v product =
      let some = product.some in
      let zero = is_sphere.bottom in
      let less : ℤ = m.bottom +ℤ pos (a.above + x.above) in
      product-of-lift one r_more q_more range far canonical canonical_q is_sphere a x (omega arith) (omega arith) (omega arith) (omega arith) there v
      (record {
        top = less;
        phi = some.phi;
        reaches = omega (arith, ints);
        is_lift = lift-more x.s x.above x.i (degree_of_class r x) a.s less some.phi rows rows_q (omega arith) (omega (arith, ints)) (omega (arith, ints)) (given-lowered r q a x v some);
        gives = some.gives ∙ product_by-part m w more table more_sphere sphere rt qt (x.s + a.s) (a.above + x.above) a (r_rows (x.s + a.s) rows) (q_rows a.s rows_q) degrees degrees_q some.phi;
      })

-- a bracket, through more squares of the sphere: the rows of the module's table end with the range
module _ (brackets : BracketsAreSameInEachRange) (m w : Module) (table sphere more_sphere : List (List Content)) (range far : Range)
    (again : (i : ℕ) → i ≤ range.s → row_of table i ≡ take (range.t + 1) (row_of table i))
    (q_rows : (i : ℕ) → i ≤ far.s → row_of sphere i ≡ take (far.t + 1) (row_of more_sphere i))
    (canonical : IsCanonical (resolution_in m table) range.s range.t) (canonical_q : IsCanonical (resolution_in w sphere) far.s far.t) (canonical_more : IsCanonical (resolution_in w more_sphere) range.s range.t)
    (is_sphere : IsSphere (resolution_in w more_sphere)) (a b c : Class) (n l : ℕ) (room : HasRoom range.s range.t far.s far.t a b c n l) (more_room : HasRoom range.s range.t range.s range.t a b c n l) where
  abbrev module_near : Resolution
  module_near = resolution_in m table

  abbrev sphere_near : Resolution
  sphere_near = resolution_in w sphere

  abbrev sphere_whole : Resolution
  sphere_whole = resolution_in w more_sphere

  abbrev top : ℤ
  top = top_of module_near a b c

  abbrev N : ℕ
  N = a.above + b.above + c.above

  abbrev K : ℕ
  K = a.above + b.above

  out : (v : List Bool) → IsBracketMember module_near sphere_near a b c n l top v → IsBracketMember module_near sphere_whole a b c n l top v
  out v = brackets m w table table sphere more_sphere range.s range.t far.s far.t range.s range.t range.s range.t a b c n l v canonical canonical canonical_q canonical_more (record { bottom = is_sphere.bottom; one = is_sphere.one; none = is_sphere.none }) room more_room

  back : (v : List Bool) → IsBracketMember module_near sphere_whole a b c n l top v → IsBracketMember module_near sphere_near a b c n l top v
  back v = brackets m w table table more_sphere sphere range.s range.t range.s range.t range.s range.t far.s far.t a b c n l v canonical canonical canonical_more canonical_q is_sphere more_room room

  spans-more : (rows : List (List Bool)) → IsIndeterminacy module_near sphere_near a b c n l top rows → IsIndeterminacy module_near sphere_whole a b c n l top rows
  spans-more rows p =
      let zero = is_sphere.bottom in
      let n_row = room.n_row in
      let l_row = room.l_row in
      let a_row = room.a_row in
      let in_r = room.rows_r in
      let in_q = room.rows_q in
      let degrees_r = room.degrees_r in
      let degrees_q = room.degrees_q in
      let u : ℤ = degree_of_class module_near c +ℤ degree_of_class sphere_near b in
      let F : ℕ → List Bool = λ j. product_by module_near sphere_near a (p.lifts j) (n + a.s) N in
      let G : ℕ → List Bool = λ j. product_by module_near sphere_whole a (p.lifts j) (n + a.s) N in
      let same : (j : ℕ) → F j ≡ G j = λ j. product_by-part m w table table more_sphere sphere range.t far.t (n + a.s) N a (again (n + a.s) in_r) (q_rows a.s (omega arith)) degrees_r (omega arith) (p.lifts j) in
      let first : map F (range_with_len 0 (count_of module_near n (b.above + c.above))) ≡ map G (range_with_len 0 (count_of module_near n (b.above + c.above))) = map_range F G 0 (count_of module_near n (b.above + c.above)) (λ j h. same (0 + j)) in
      let lower : ℕ → ℕ → List Bool = λ old i. on_square module_near (n + a.s) N (λ g. bit (drop old (p.gamma l g)) i) in
      let old = old_width-less w more_sphere sphere l far.t (q_rows l (omega arith)) K degrees_q in
      let count = count_of-less w more_sphere sphere l far.t (q_rows l (omega arith)) K degrees_q in
      let second : map (lower (old_width sphere_near l K)) (range_with_len 0 (count_of sphere_near l K)) ≡ map (lower (old_width sphere_whole l K)) (range_with_len 0 (count_of sphere_whole l K)) =
      ap (λ (k : ℕ). map (lower k) (range_with_len 0 (count_of sphere_near l K))) old ∙ ap (λ (k : ℕ). map (lower (old_width sphere_whole l K)) (range_with_len 0 k)) count in
      record {
        lifts = p.lifts;
        gamma = p.gamma;
        each = λ j h. lift-more m w table table sphere more_sphere range.s range.t far.s far.t again q_rows n (b.above + c.above) j u a.s top (p.lifts j) in_r (omega arith) (omega arith) (omega (arith, ints)) (omega (arith, ints)) (p.each j h);
        gamma_lift = lift-more m w table table sphere more_sphere range.s range.t far.s far.t again q_rows c.s c.above c.i (degree_of_class module_near c) l top p.gamma (omega arith) (omega arith) (omega arith) (omega (arith, ints)) (omega (arith, ints)) p.gamma_lift;
        are = p.are ∙ (ap (λ (z : List (List Bool)). z ++ map (lower (old_width sphere_near l K)) (range_with_len 0 (count_of sphere_near l K))) first ∙ ap (λ (z : List (List Bool)). map G (range_with_len 0 (count_of module_near n (b.above + c.above))) ++ z) second);
      }

-- what a bracket says, with the two rows that are named by others
module _ (brackets : BracketsAreSameInEachRange) (m w : Module) (table sphere more_sphere : List (List Content)) (range far : Range)
    (again : (i : ℕ) → i ≤ range.s → row_of table i ≡ take (range.t + 1) (row_of table i))
    (q_rows : (i : ℕ) → i ≤ far.s → row_of sphere i ≡ take (far.t + 1) (row_of more_sphere i))
    (canonical : IsCanonical (resolution_in m table) range.s range.t) (canonical_q : IsCanonical (resolution_in w sphere) far.s far.t) (canonical_more : IsCanonical (resolution_in w more_sphere) range.s range.t)
    (is_sphere : IsSphere (resolution_in w more_sphere)) (a b c : Class) (last low : ℕ) (a_row : a.s ≡ suc last) (b_row : b.s ≡ suc low) (rows_r : a.s + b.s + c.s ≤ range.s + 1) (rows_q : a.s + b.s ≤ far.s) (rows_more : a.s + b.s ≤ range.s) (degrees_r : a.above + b.above + c.above ≤ range.t) (degrees_q : a.above + b.above ≤ far.t) where
  pub bracket-more : (value : List Bool) (rows : List (List Bool)) → IsBracketOf (resolution_in m table) (resolution_in w sphere) a b c value rows → IsBracketOf (resolution_in m table) (resolution_in w more_sphere) a b c value rows
  bracket-more value rows k =
      let n_row = k.n_row in
      let l_row = k.l_row in
      let room : HasRoom range.s range.t far.s far.t a b c k.n k.l = record { last = last; low = low; a_row = a_row; b_row = b_row; n_row = n_row; l_row = l_row; rows_r = omega arith; rows_q = omega arith; degrees_r = degrees_r; degrees_q = degrees_q } in
      let more_room : HasRoom range.s range.t range.s range.t a b c k.n k.l = record { last = last; low = low; a_row = a_row; b_row = b_row; n_row = n_row; l_row = l_row; rows_r = omega arith; rows_q = omega arith; degrees_r = degrees_r; degrees_q = omega arith } in
      let to = out brackets m w table sphere more_sphere range far again q_rows canonical canonical_q canonical_more is_sphere a b c k.n k.l room more_room in
      let from = back brackets m w table sphere more_sphere range far again q_rows canonical canonical_q canonical_more is_sphere a b c k.n k.l room more_room in
      record {
        n = k.n;
        l = k.l;
        n_row = n_row;
        l_row = l_row;
        member = to value k.member;
        spanning = k.spanning;
        spans = spans-more brackets m w table sphere more_sphere range far again q_rows canonical canonical_q canonical_more is_sphere a b c k.n k.l room more_room k.spanning k.spans;
        basis = k.basis;
        clear = k.clear;
        all = λ v e. let both = k.all v e in (λ u. both.0 (from v u), λ u. to v (both.1 u));
      }
