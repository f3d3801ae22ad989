-- Maps between two minimal tables of a module, row by row: each row's map covers that of the row below, and is one to one and
-- onto in each degree of the range.
use Rattle.std.proofs.Common.{◌≡◌, ℕ, zero, suc, ◌<◌, ◌≤◌, Bool, ℤ, pos, ◌+ℤ◌, List, [], length, map, refl, sym, ◌∙◌, ap, subst, arith}
use Rattle.std.proofs.lemmas.Bool.{both_ways}
use Rattle.std.proofs.lemmas.Int.{ints}
use Rattle.std.proofs.lemmas.List.{length-map}
use Rattle.f2_vec.specs.Vectors.{bit, sum_of, zeros}
use Rattle.f2_vec.specs.Spans.{row, HaveWidth, combination, IsInSpan, unit_vector, unit_vectors}
use Rattle.f2_vec.proofs.Combinations.{map-map, map_same_all, combination-combination}
use Rattle.f2_vec.proofs.Spans.{HaveWidth-nil, length-combination, combination-sum_of, combination-IsInSpan, row-IsInSpan, sum-IsInSpan}
use Rattle.f2_vec.proofs.Split.{row-unit_vectors, length-unit_vector, length-unit_vectors, combination-unit_vectors}
use Rattle.f2_vec.proofs.Sums.{length-sum_of, sum_of-comm, sum_of-self, sum_of-cancel, zeros_from_bits}
use Rattle.f2_matrix.proofs.Parts.{combination_where-IsInSpan}
use Rattle.milnor_basis.specs.Exponents.{degree_of, IsTrimmed}
use Rattle.milnor_laws.proofs.FreeModules.{free_modules_are_modules}
use Rattle.milnor_laws.proofs.LinearMaps.{maps_commute}
use Rattle.free_module.specs.FreeBasis.{IsOfDegree, element}
use Rattle.free_module.specs.FreeModule.{degree_at, free_basis, free_width, free_action}
use Rattle.free_module.specs.Graded.{GradedModule, IsSteenrodModule}
use Rattle.free_module.specs.LinearMap.{AreImages, image_of, map_rows, mapped}
use Rattle.free_module.proofs.FreeBasis.{All-free_basis}
use Rattle.free_module.proofs.MapRows.{HaveWidth-map_rows}
use Rattle.resolution_laws.specs.Resolution.{Module, Content, images_of, row_of}
use Rattle.resolution_laws.specs.Exactness.{degrees_in, target_of, differential, boundary, IsExactAt}
use Rattle.resolution_laws.proofs.Complex.{length-differential}
use Rattle.resolution_laws.proofs.Generators.{element-IsOfDegree}
use Rattle.resolution_laws.proofs.Squares.{target_is_module}
use Rattle.f2_matrix.specs.Rank.{SpanAll}
use Rattle.resolution_counts.specs.Cochains.{IsModuleMap}
use Rattle.resolution_counts.specs.Counts.{IsMinimalTable}
use Rattle.resolution_counts.proofs.Bare.{place_of_generator, positive_degree, unit_is_acted}
use Rattle.resolution_counts.proofs.Maps.{mapped_is_map}
use Rattle.resolution_counts.proofs.Cover.{Covered, images_fit, differential_widths, covers, covered_length, boundary_covered, generator_degree, image_covered, chosen_each}
use Rattle.f2_matrix.proofs.Spanning.{spanning_is_full}

-- A map of modules between the targets of d_i in two tables. In the degrees of the range it takes what d_i covers to what d_i
-- covers, all of it, and only zero to zero.
pub record IsComparison (m : Module) (t : ℕ) (a b : List (List Content)) (i : ℕ) : Type 0 where
  pub f : ℤ → List Bool → List Bool
  pub is_map : IsModuleMap (target_of m a i) (target_of m b i) f
  pub into : (k : ℕ) → k ≤ t → (v : List Bool) → Covered m a i (m.bottom +ℤ pos k) v → Covered m b i (m.bottom +ℤ pos k) (f (m.bottom +ℤ pos k) v)
  pub onto : (k : ℕ) → k ≤ t → (w : List Bool) → Covered m b i (m.bottom +ℤ pos k) w → (v : List Bool) × Covered m a i (m.bottom +ℤ pos k) v × (f (m.bottom +ℤ pos k) v ≡ w)
  pub one_one : (k : ℕ) → k ≤ t → (v : List Bool) → length v ≡ (target_of m a i).width (m.bottom +ℤ pos k) → f (m.bottom +ℤ pos k) v ≡ zeros ((target_of m b i).width (m.bottom +ℤ pos k)) → v ≡ zeros ((target_of m a i).width (m.bottom +ℤ pos k))

-- two tables of a module over the Steenrod algebra
pub record ArePair (m : Module) (s t : ℕ) (a b : List (List Content)) : Type 0 where
  pub steenrod : IsSteenrodModule m.graded
  pub left : IsMinimalTable m s t a
  pub right : IsMinimalTable m s t b

-- ---- the map on row i: a preimage for each generator

pub record IsLift (m : Module) (t : ℕ) (a b : List (List Content)) (i : ℕ) (p : IsComparison m t a b i) : Type 0 where
  pub images : List (List Bool)
  pub fit : AreImages (target_of m b (suc i)) (degrees_in m a i) images
  pub over : (g : ℕ) → g < length (degrees_in m a i) → boundary m b i (degree_at (degrees_in m a i) g) (row images g) ≡ p.f (degree_at (degrees_in m a i) g) (row (images_of (row_of a i)) g)

-- a preimage of the image of generator g
abbrev IsOver : (m : Module) (t : ℕ) (a b : List (List Content)) (i : ℕ) → IsComparison m t a b i → ℕ → List Bool → Type 0
IsOver m t a b i p g y =
    let d = degree_at (degrees_in m a i) g in
    (length y ≡ free_width (degrees_in m b i) d) × (boundary m b i d y ≡ p.f d (row (images_of (row_of a i)) g))

one_over : (m : Module) (s t : ℕ) (a b : List (List Content)) → ArePair m s t a b → (i : ℕ) → i ≤ s → (p : IsComparison m t a b i) → (g : ℕ) → g < length (degrees_in m a i) → (y : List Bool) × IsOver m t a b i p g y
one_over m s t a b pair i h p g l =
    let d = degree_at (degrees_in m a i) g in
    let v = row (images_of (row_of a i)) g in
    let degree = generator_degree m s t a pair.left.is_table i h g l in
    let covered : Covered m a i d v = image_covered m s t a pair.steenrod pair.left i h g l in
    let P : ℤ → Type 0 = λ z. Covered m a i z v → Covered m b i z (p.f z v) in
    let into : P d = subst P (sym degree.is) (p.into degree.k degree.within v) in
    let wide = differential_widths m s t b pair.steenrod pair.right.is_table i h d in
    let exact : IsExactAt m b i d = subst (λ (z : ℤ). IsExactAt m b i z) (sym degree.is) (pair.right.exact i degree.k h degree.within) in
    let x = (covers m b i d wide exact (p.f d v)).0 (into covered) in
    (x.coefficients, (x.one_each ∙ length-differential m b i d, x.sum))

pub lift : (m : Module) (s t : ℕ) (a b : List (List Content)) → ArePair m s t a b → (i : ℕ) → i ≤ s → (p : IsComparison m t a b i) → IsLift m t a b i p
lift m s t a b pair i h p =
    let all = chosen_each (IsOver m t a b i p) (length (degrees_in m a i)) (one_over m s t a b pair i h p) in
    record {
      images = all.list;
      fit = record { one_each = all.len; widths = λ g l. (all.each g l).0 };
      over = λ g l. (all.each g l).1;
    }

module _ (m : Module) (s t : ℕ) (a b : List (List Content)) (pair : ArePair m s t a b) (i : ℕ) (h : i ≤ s) (p : IsComparison m t a b i) (q : IsLift m t a b i p) where
  abbrev ds : List ℤ
  ds = degrees_in m a i

  abbrev es : List ℤ
  es = degrees_in m b i

  abbrev X : GradedModule
  X = target_of m a i

  abbrev Y : GradedModule
  Y = target_of m b i

  abbrev new_rows : ℤ → List (List Bool)
  new_rows d = map_rows (target_of m b (suc i)) ds q.images d

  abbrev new : ℤ → List Bool → List Bool
  new d v = mapped (target_of m b (suc i)) ds q.images d v

  new_widths : (d : ℤ) → HaveWidth (free_width es d) (new_rows d)
  new_widths d = HaveWidth-map_rows (target_of m b (suc i)) ds q.images d (free_modules_are_modules es).widths q.fit

  length-new_rows : (d : ℤ) → length (new_rows d) ≡ free_width ds d
  length-new_rows d = length-map (free_basis ds d) (image_of (target_of m b (suc i)) ds q.images)

  old_widths : (d : ℤ) → HaveWidth (X.width d) (differential m a i d)
  old_widths d = differential_widths m s t a pair.steenrod pair.left.is_table i h d

  other_widths : (d : ℤ) → HaveWidth (Y.width d) (differential m b i d)
  other_widths d = differential_widths m s t b pair.steenrod pair.right.is_table i h d

  -- the square commutes on a basis element
  chain_element : (d : ℤ) (e : ℕ × List ℕ) → IsOfDegree ds d e → boundary m b i d (image_of (target_of m b (suc i)) ds q.images e) ≡ p.f d (image_of X ds (images_of (row_of a i)) e)
  chain_element d e o =
      let g = e.0 in
      let r = e.1 in
      let u = degree_at ds g in
      let v = row (images_of (row_of a i)) g in
      let y = row q.images g in
      let fit = images_fit m s t a pair.left.is_table i h in
      let through : Y.action r u (boundary m b i u y) ≡ boundary m b i (u +ℤ pos (degree_of r)) ((target_of m b (suc i)).action r u y) =
      maps_commute Y es (images_of (row_of b i)) (target_is_module free_modules_are_modules m b i pair.steenrod) (images_fit m s t b pair.right.is_table i h) r u y o.trimmed (q.fit.widths g o.generator) in
      let over : Y.action r u (boundary m b i u y) ≡ Y.action r u (p.f u v) = ap (Y.action r u) (q.over g o.generator) in
      let acts : p.f (u +ℤ pos (degree_of r)) (X.action r u v) ≡ Y.action r u (p.f u v) = p.is_map.acts r u v o.trimmed (fit.widths g o.generator) in
      let P : ℤ → Type 0 = λ z. boundary m b i z ((target_of m b (suc i)).action r u y) ≡ p.f z (X.action r u v) in
      subst P o.degree (sym through ∙ (over ∙ sym acts))

  chain : (d : ℤ) (v : List Bool) → length v ≡ free_width ds d → boundary m b i d (new d v) ≡ p.f d (boundary m a i d v)
  chain d v e =
      let n = Y.width d in
      let D = differential m b i d in
      let basis = free_basis ds d in
      let image = image_of (target_of m b (suc i)) ds q.images in
      let old = image_of X ds (images_of (row_of a i)) in
      let all : boundary m b i d (new d v) ≡ combination n v (map (λ x. combination n x D) (new_rows d)) = combination-combination n (free_width es d) v (new_rows d) D (length-differential m b i d) (new_widths d) (other_widths d) in
      let each : map (λ x. combination n x D) (new_rows d) ≡ map (p.f d) (differential m a i d) =
      map-map (λ x. combination n x D) image basis ∙ (map_same_all (IsOfDegree ds d) (λ e. combination n (image e) D) (λ e. p.f d (old e)) basis (All-free_basis ds d) (chain_element d) ∙ sym (map-map (p.f d) old basis)) in
      all ∙ (ap (combination n v) each ∙ sym (p.is_map.linear d v (differential m a i d) (old_widths d)))

  -- ---- onto

  -- a combination of the new rows is reached
  new_reached : (d : ℤ) (v : List Bool) → IsInSpan (free_width es d) (new_rows d) (new d v)
  new_reached d v = combination-IsInSpan (free_width es d) v (new_rows d) (new_rows d) (new_widths d) (λ n l. row-IsInSpan (free_width es d) (new_rows d) n (new_widths d) l)

  -- where a vector is reached, so is Sq(R) on it
  preimage_acted : (d u : ℤ) (r : List ℕ) (v x : List Bool) → IsTrimmed r → d +ℤ pos (degree_of r) ≡ u → length x ≡ free_width ds d → new d x ≡ v → IsInSpan (free_width es u) (new_rows u) (free_action es r d v)
  preimage_acted d u r v x trimmed sum len is =
      let above = d +ℤ pos (degree_of r) in
      let through : free_action es r d (new d x) ≡ new above (free_action ds r d x) = maps_commute (target_of m b (suc i)) ds q.images (free_modules_are_modules es) q.fit r d x trimmed len in
      let value : free_action es r d v ≡ new above (free_action ds r d x) = ap (free_action es r d) (sym is) ∙ through in
      let P : ℤ → Type 0 = λ z. IsInSpan (free_width es z) (new_rows z) (free_action es r d v) in
      subst P sum (subst (IsInSpan (free_width es above) (new_rows above)) (sym value) (new_reached above (free_action ds r d x)))

  acted_reached : (d u : ℤ) (r : List ℕ) (v : List Bool) → IsTrimmed r → d +ℤ pos (degree_of r) ≡ u → IsInSpan (free_width es d) (new_rows d) v → IsInSpan (free_width es u) (new_rows u) (free_action es r d v)
  acted_reached d u r v trimmed sum x = preimage_acted d u r v x.coefficients trimmed sum (subst (λ (n : ℕ). length x.coefficients ≡ n) (length-new_rows d) x.one_each) x.sum

  -- a basis element with an operation is reached, where generators of lower degrees are
  element_reached : (k : ℕ) → ((j : ℕ) → j < k → SpanAll (free_width es (m.bottom +ℤ pos j)) (new_rows (m.bottom +ℤ pos j))) → (j : ℕ) → j < free_width es (m.bottom +ℤ pos k) → ((element (free_basis es (m.bottom +ℤ pos k)) j).1 ≡ [] → ⊥) → IsInSpan (free_width es (m.bottom +ℤ pos k)) (new_rows (m.bottom +ℤ pos k)) (unit_vector (free_width es (m.bottom +ℤ pos k)) j)
  element_reached k lower j l some =
      let u = m.bottom +ℤ pos k in
      let e = element (free_basis es u) j in
      let o = element-IsOfDegree es u j l in
      let g = e.0 in
      let r = e.1 in
      let d = degree_at es g in
      let degree = generator_degree m s t b pair.right.is_table i h g o.generator in
      let positive : 0 < degree_of r = positive_degree r o.trimmed some in
      let is = degree.is in
      let sum = o.degree in
      let less : degree.k < k = omega (arith, ints) in
      let P : ℤ → Type 0 = λ z. SpanAll (free_width es z) (new_rows z) in
      let all : P d = subst P (sym is) (lower degree.k less) in
      let at = place_of_generator es g o.generator in
      let unit = unit_vector (free_width es d) at.0 in
      subst (IsInSpan (free_width es u) (new_rows u)) (sym (unit_is_acted es u g j at.0 r at.1 sum l refl)) (acted_reached d u r unit o.trimmed sum (all unit (length-unit_vector (free_width es d) at.0)))

  -- so is a relation of the other table
  relation_reached : (k : ℕ) → k ≤ t → ((j : ℕ) → j < k → SpanAll (free_width es (m.bottom +ℤ pos j)) (new_rows (m.bottom +ℤ pos j))) → (z : List Bool) → length z ≡ free_width es (m.bottom +ℤ pos k) → boundary m b i (m.bottom +ℤ pos k) z ≡ zeros (Y.width (m.bottom +ℤ pos k)) → IsInSpan (free_width es (m.bottom +ℤ pos k)) (new_rows (m.bottom +ℤ pos k)) z
  relation_reached k c lower z len none =
      let u = m.bottom +ℤ pos k in
      let n = free_width es u in
      let bare = pair.right.needed i k h c z (record { one_each = len ∙ sym (length-differential m b i u); vanishes = none }) in
      subst (IsInSpan n (new_rows u)) (combination-unit_vectors n z len) (combination_where-IsInSpan n z (unit_vectors n) (new_rows u) (new_widths u) (λ j l one.
      let within : j < n = omega (arith, length-unit_vectors n) in
      subst (IsInSpan n (new_rows u)) (sym (row-unit_vectors n j within)) (element_reached k lower j within (λ nil. both_ways (bit z j) (bare j within nil) one))))

  -- and each vector with the boundary of one that is reached
  vector_reached : (k : ℕ) → k ≤ t → ((j : ℕ) → j < k → SpanAll (free_width es (m.bottom +ℤ pos j)) (new_rows (m.bottom +ℤ pos j))) → (w x : List Bool) → length w ≡ free_width es (m.bottom +ℤ pos k) → boundary m b i (m.bottom +ℤ pos k) (new (m.bottom +ℤ pos k) x) ≡ boundary m b i (m.bottom +ℤ pos k) w → IsInSpan (free_width es (m.bottom +ℤ pos k)) (new_rows (m.bottom +ℤ pos k)) w
  vector_reached k c lower w x e same =
      let u = m.bottom +ℤ pos k in
      let n = free_width es u in
      let N = Y.width u in
      let D = differential m b i u in
      let y = new u x in
      let len_y : length y ≡ n = length-combination n x (new_rows u) (new_widths u) in
      let z = sum_of w y in
      let len_z : length z ≡ n = length-sum_of w y (e ∙ sym len_y) ∙ e in
      let none : boundary m b i u z ≡ zeros N =
      combination-sum_of N w y D (other_widths u) (e ∙ sym len_y) ∙ (ap (sum_of (boundary m b i u w)) same ∙ sum_of-self N (boundary m b i u w) (length-combination N w D (other_widths u))) in
      let whole : sum_of y z ≡ w = ap (sum_of y) (sum_of-comm w y) ∙ sum_of-cancel n y w len_y e in
      subst (IsInSpan n (new_rows u)) whole (sum-IsInSpan n (new_rows u) y z (new_widths u) (new_reached u x) (relation_reached k c lower z len_z none))

  -- a vector of which the map below takes to the boundary of w
  boundary_reached : (k : ℕ) → k ≤ t → (v w : List Bool) → p.f (m.bottom +ℤ pos k) v ≡ boundary m b i (m.bottom +ℤ pos k) w → IsInSpan (X.width (m.bottom +ℤ pos k)) (differential m a i (m.bottom +ℤ pos k)) v → (x : List Bool) × (boundary m b i (m.bottom +ℤ pos k) (new (m.bottom +ℤ pos k) x) ≡ boundary m b i (m.bottom +ℤ pos k) w)
  boundary_reached k c v w is x =
      let u = m.bottom +ℤ pos k in
      let len : length x.coefficients ≡ free_width ds u = subst (λ (n : ℕ). length x.coefficients ≡ n) (length-differential m a i u) x.one_each in
      (x.coefficients, chain u x.coefficients len ∙ (ap (p.f u) x.sum ∙ is))

  reached_at : (k : ℕ) → k ≤ t → ((j : ℕ) → j < k → SpanAll (free_width es (m.bottom +ℤ pos j)) (new_rows (m.bottom +ℤ pos j))) → SpanAll (free_width es (m.bottom +ℤ pos k)) (new_rows (m.bottom +ℤ pos k))
  reached_at k c lower w e =
      let u = m.bottom +ℤ pos k in
      let v = p.onto k c (boundary m b i u w) (boundary_covered m b i u w (other_widths u) (pair.right.exact i k h c) e) in
      let x = boundary_reached k c v.0 w v.2 ((covers m a i u (old_widths u) (pair.left.exact i k h c) v.0).0 v.1) in
      vector_reached k c lower w x.0 e x.1

  reached_below : (bound k : ℕ) → k < bound → k ≤ t → SpanAll (free_width es (m.bottom +ℤ pos k)) (new_rows (m.bottom +ℤ pos k))
  reached_below zero k l c = absurd (omega arith)
  reached_below (suc bound) k l c = reached_at k c (λ j l'. reached_below bound j (omega arith) (omega arith))

  pub reached : (k : ℕ) → k ≤ t → SpanAll (free_width es (m.bottom +ℤ pos k)) (new_rows (m.bottom +ℤ pos k))
  reached k c = reached_below (suc k) k (omega arith) c

  pub not_fewer : (k : ℕ) → k ≤ t → free_width es (m.bottom +ℤ pos k) ≤ free_width ds (m.bottom +ℤ pos k)
  not_fewer k c =
      let u = m.bottom +ℤ pos k in
      let full = spanning_is_full (free_width es u) (new_rows u) (new_widths u) (reached k c) in
      let many = full.many in
      omega (arith, length-new_rows u)

  -- ---- where the dimensions are the same it is a comparison of the kernels
  pub next : ((k : ℕ) → k ≤ t → free_width ds (m.bottom +ℤ pos k) ≡ free_width es (m.bottom +ℤ pos k)) → IsComparison m t a b (suc i)
  next same = record {
    f = new;
    is_map = mapped_is_map (target_of m b (suc i)) ds q.images (free_modules_are_modules es) q.fit;
    into = λ k c v relation.
        let u = m.bottom +ℤ pos k in
        let e : length v ≡ free_width ds u = covered_length m a (suc i) u v relation in
        record {
          one_each = length-combination (free_width es u) v (new_rows u) (new_widths u) ∙ sym (length-differential m b i u);
          vanishes = chain u v e ∙ (ap (p.f u) relation.vanishes ∙ p.is_map.linear u [] [] (HaveWidth-nil (X.width u)));
        };
    onto = λ k c w relation.
        let u = m.bottom +ℤ pos k in
        let e : length w ≡ free_width es u = covered_length m b (suc i) u w relation in
        let x = reached k c w e in
        let len : length x.coefficients ≡ free_width ds u = x.one_each ∙ length-new_rows u in
        let zero_there : p.f u (boundary m a i u x.coefficients) ≡ zeros (Y.width u) = sym (chain u x.coefficients len) ∙ (ap (boundary m b i u) x.sum ∙ relation.vanishes) in
        let none : boundary m a i u x.coefficients ≡ zeros (X.width u) = p.one_one k c (boundary m a i u x.coefficients) (length-combination (X.width u) x.coefficients (differential m a i u) (old_widths u)) zero_there in
        (x.coefficients, record { one_each = len ∙ sym (length-differential m a i u); vanishes = none }, x.sum);
    one_one = λ k c v e none.
        let u = m.bottom +ℤ pos k in
        let full = spanning_is_full (free_width es u) (new_rows u) (new_widths u) (reached k c) in
        zeros_from_bits (free_width ds u) v e (full.independent (length-new_rows u ∙ same k c) v (record { one_each = e ∙ sym (length-new_rows u); vanishes = none }));
  }
