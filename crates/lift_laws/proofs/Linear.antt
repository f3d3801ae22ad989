-- Maps of modules, through a degree: those from free modules that values on generators give, their composites, sums and shifts.
use Rattle.std.proofs.Common.{◌≡◌, ℕ, ◌+◌, ◌<◌, ℤ, pos, ◌+ℤ◌, ◌-ℤ◌, ◌≤ℤ◌, Bool, true, nat_eq, if◌then◌else◌, List, [], ◌∷◌, length, map, ap, sym, ◌∙◌, arith}
use Rattle.std.specs.List.{range_with_len}
use Rattle.std.proofs.lemmas.Int.{ints}
use Rattle.std.proofs.lemmas.List.{length-map}
use Rattle.std.proofs.lemmas.List.FromFn.{length-range_with_len, get_or-map-range_with_len}
use Rattle.f2_vec.specs.Vectors.{sum_of, zeros}
use Rattle.f2_vec.specs.Spans.{row, HaveWidth, combination}
use Rattle.f2_vec.proofs.Sums.{length-zeros, sum_of-zeros_right}
use Rattle.f2_vec.proofs.Spans.{HaveWidth-nil, HaveWidth-cons, length-combination}
use Rattle.f2_vec.proofs.Combinations.{map-map, map_same_all, HaveWidth-map_where, combination-combination, combination-zero_rows, combination-sum_rows}
use Rattle.milnor_basis.specs.Exponents.{degree_of}
use Rattle.milnor_basis.specs.Basis.{basis_of}
use Rattle.milnor_basis.specs.Product.{product_bits}
use Rattle.free_module.specs.FreeModule.{degree_at, free_basis, free_width, free_action}
use Rattle.free_module.specs.FreeBasis.{IsOfDegree}
use Rattle.free_module.specs.Graded.{GradedModule, IsSteenrodModule, free_graded}
use Rattle.free_module.specs.LinearMap.{AreImages, mapped}
use Rattle.free_module.proofs.FreeBasis.{All-free_basis}
use Rattle.milnor_laws.proofs.LinearMaps.{maps_commute}
use Rattle.resolution_laws.proofs.Complex.{action-zeros}
use Rattle.lift_laws.specs.Maps.{shifted, IsMap, value_of, extended, FitThrough}

pub IsSteenrodModule-shifted : (x : ℤ) (m : GradedModule) → IsSteenrodModule m → IsSteenrodModule (shifted x m)
IsSteenrodModule-shifted x m p = record {
  unit = λ t v e. p.unit (t -ℤ x) v e;
  widths = λ r t v e. p.widths r (t -ℤ x) v e ∙ ap m.width (across t (degree_of r));
  linear = λ r t c rows h. p.linear r (t -ℤ x) c rows h ∙ ap (λ (u : ℤ). combination (m.width u) c (map (m.action r (t -ℤ x)) rows)) (across t (degree_of r));
  products = λ r s t v hr hs e.
      ap (λ (u : ℤ). m.action r u (m.action s (t -ℤ x) v)) (sym (across t (degree_of s)))
      ∙ (p.products r s (t -ℤ x) v hr hs e ∙ ap (λ (u : ℤ). combination (m.width u) (product_bits r s) (map (λ q. m.action q (t -ℤ x) v) (basis_of (degree_of r + degree_of s)))) (across t (degree_of r + degree_of s)));
}
  where
    across : (t : ℤ) (n : ℕ) → (t -ℤ x) +ℤ pos n ≡ (t +ℤ pos n) -ℤ x
    across t n = omega (arith, ints)

pub IsMap-shifted : (x top high : ℤ) (m n : GradedModule) (op : ℤ → List Bool → List Bool) → (high -ℤ x) ≤ℤ top → IsMap top m n op → IsMap high (shifted x m) (shifted x n) (λ t. op (t -ℤ x))
IsMap-shifted x top high m n op h p = record {
  fits = λ t v l e. p.fits (t -ℤ x) v (omega (arith, ints)) e;
  linear = λ t c rows l w. p.linear (t -ℤ x) c rows (omega (arith, ints)) w;
  commutes = λ r t v hr l e.
      let a : (t -ℤ x) +ℤ pos (degree_of r) ≡ (t +ℤ pos (degree_of r)) -ℤ x = omega (arith, ints) in
      ap (λ (u : ℤ). op u (m.action r (t -ℤ x) v)) (sym a) ∙ p.commutes r (t -ℤ x) v hr (omega (arith, ints)) e;
}

module _ (top : ℤ) (m n : GradedModule) (op : ℤ → List Bool → List Bool) (p : IsMap top m n op) where
  pub map-zeros : (t : ℤ) → t ≤ℤ top → op t (zeros (m.width t)) ≡ zeros (n.width t)
  map-zeros t l = p.linear t [] [] l (HaveWidth-nil (m.width t))

  pub map-sum : (t : ℤ) (u v : List Bool) → t ≤ℤ top → length u ≡ m.width t → length v ≡ m.width t → op t (sum_of u v) ≡ sum_of (op t u) (op t v)
  map-sum t u v l a b =
      let w : HaveWidth (m.width t) (u ∷ v ∷ []) = HaveWidth-cons (m.width t) u (v ∷ []) a (HaveWidth-cons (m.width t) v [] b (HaveWidth-nil (m.width t))) in
      ap (λ (z : List Bool). op t (sum_of u z)) (sym (sum_of-zeros_right (m.width t) v b))
      ∙ (p.linear t (true ∷ true ∷ []) (u ∷ v ∷ []) l w ∙ ap (sum_of (op t u)) (sum_of-zeros_right (n.width t) (op t v) (p.fits t v l b)))

pub action-sum : (m : GradedModule) → IsSteenrodModule m → (r : List ℕ) (t : ℤ) (u v : List Bool) → length u ≡ m.width t → length v ≡ m.width t → m.action r t (sum_of u v) ≡ sum_of (m.action r t u) (m.action r t v)
action-sum m p r t u v a b =
    let w : HaveWidth (m.width t) (u ∷ v ∷ []) = HaveWidth-cons (m.width t) u (v ∷ []) a (HaveWidth-cons (m.width t) v [] b (HaveWidth-nil (m.width t))) in
    ap (λ (z : List Bool). m.action r t (sum_of u z)) (sym (sum_of-zeros_right (m.width t) v b))
    ∙ (p.linear r t (true ∷ true ∷ []) (u ∷ v ∷ []) w ∙ ap (sum_of (m.action r t u)) (sum_of-zeros_right (m.width (t +ℤ pos (degree_of r))) (m.action r t v) (p.widths r t v b)))

-- the generator of an element of degree t is of at most that degree
pub generator-at_most : (ds : List ℤ) (t top : ℤ) (e : ℕ × List ℕ) → IsOfDegree ds t e → t ≤ℤ top → degree_at ds e.0 ≤ℤ top
generator-at_most ds t top e o l = let a = o.degree in omega (arith, ints)

-- ---- values as a list that fits at each generator

abbrev fitted : GradedModule → List ℤ → (ℕ → List Bool) → ℕ → List Bool
fitted target ds f g = if nat_eq (length (f g)) (target.width (degree_at ds g)) then f g else zeros (target.width (degree_at ds g))

length-fitted : (target : GradedModule) (ds : List ℤ) (f : ℕ → List Bool) (g : ℕ) → length (fitted target ds f g) ≡ target.width (degree_at ds g)
length-fitted target ds f g = grind (arith, length-zeros (target.width (degree_at ds g)))

fitted-fits : (target : GradedModule) (ds : List ℤ) (f : ℕ → List Bool) (g : ℕ) → length (f g) ≡ target.width (degree_at ds g) → fitted target ds f g ≡ f g
fitted-fits target ds f g e = grind (arith, e)

abbrev listed : ℕ → (ℕ → List Bool) → List (List Bool)
listed n f = map f (range_with_len 0 n)

row-listed : (n : ℕ) (f : ℕ → List Bool) (g : ℕ) → g < n → row (listed n f) g ≡ f g
row-listed n f g l = get_or-map-range_with_len f 0 n g g [] l (omega arith)

abbrev as_list : GradedModule → List ℤ → (ℕ → List Bool) → List (List Bool)
as_list target ds f = listed (length ds) (fitted target ds f)

AreImages-as_list : (target : GradedModule) (ds : List ℤ) (f : ℕ → List Bool) → AreImages target ds (as_list target ds f)
AreImages-as_list target ds f = record {
  one_each = length-map (range_with_len 0 (length ds)) (fitted target ds f) ∙ length-range_with_len 0 (length ds);
  widths = λ g l. ap length (row-listed (length ds) (fitted target ds f) g l) ∙ length-fitted target ds f g;
}

-- ---- the map on vectors

-- values that agree on the generators of degree at most top
pub extended-same : (target : GradedModule) (ds : List ℤ) (top : ℤ) (f h : ℕ → List Bool) → ((g : ℕ) → g < length ds → degree_at ds g ≤ℤ top → f g ≡ h g) → (t : ℤ) (v : List Bool) → t ≤ℤ top → extended target ds f t v ≡ extended target ds h t v
extended-same target ds top f h same t v l =
    ap (combination (target.width t) v) (map_same_all (IsOfDegree ds t) (value_of target ds f) (value_of target ds h) (free_basis ds t) (All-free_basis ds t)
    (λ e o. ap (target.action e.1 (degree_at ds e.0)) (same e.0 o.generator (generator-at_most ds t top e o l))))

module _ (target : GradedModule) (steenrod : IsSteenrodModule target) (ds : List ℤ) (top : ℤ) (f : ℕ → List Bool) (fit : FitThrough target ds top f) where
  extended-mapped : (t : ℤ) (v : List Bool) → t ≤ℤ top → extended target ds f t v ≡ mapped target ds (as_list target ds f) t v
  extended-mapped t v l =
      extended-same target ds top f (row (as_list target ds f)) (λ g b h. sym (row-listed (length ds) (fitted target ds f) g b ∙ fitted-fits target ds f g (fit g b h))) t v l

  pub HaveWidth-extended : (t : ℤ) → t ≤ℤ top → HaveWidth (target.width t) (map (value_of target ds f) (free_basis ds t))
  HaveWidth-extended t l =
      HaveWidth-map_where (IsOfDegree ds t) (target.width t) (value_of target ds f) (free_basis ds t)
      (λ e o. steenrod.widths e.1 (degree_at ds e.0) (f e.0) (fit e.0 o.generator (generator-at_most ds t top e o l)) ∙ ap target.width o.degree)
      (All-free_basis ds t)

  pub length-extended : (t : ℤ) (v : List Bool) → t ≤ℤ top → length (extended target ds f t v) ≡ target.width t
  length-extended t v l = length-combination (target.width t) v (map (value_of target ds f) (free_basis ds t)) (HaveWidth-extended t l)

  pub IsMap-extended : IsMap top (free_graded ds) target (extended target ds f)
  IsMap-extended = record {
    fits = λ t v l e. length-extended t v l;
    linear = λ t c rows l w. combination-combination (target.width t) (free_width ds t) c rows (map (value_of target ds f) (free_basis ds t)) (length-map (free_basis ds t) (value_of target ds f)) w (HaveWidth-extended t l);
    commutes = λ r t v hr l e.
        let below : t ≤ℤ top = omega (arith, ints) in
        extended-mapped (t +ℤ pos (degree_of r)) (free_action ds r t v) l
        ∙ (sym (maps_commute target ds (as_list target ds f) steenrod (AreImages-as_list target ds f) r t v hr e)
        ∙ ap (target.action r t) (sym (extended-mapped t v below)));
  }

  -- a map after this one has its values on their values
  pub extended-after : (n : GradedModule) (op : ℤ → List Bool → List Bool) → IsMap top target n op → (t : ℤ) (v : List Bool) → t ≤ℤ top → op t (extended target ds f t v) ≡ extended n ds (λ g. op (degree_at ds g) (f g)) t v
  extended-after n op p t v l =
      let g = value_of target ds f in
      let h = value_of n ds (λ g. op (degree_at ds g) (f g)) in
      let each : map (λ e. op t (g e)) (free_basis ds t) ≡ map h (free_basis ds t) = map_same_all (IsOfDegree ds t) (λ e. op t (g e)) h (free_basis ds t) (All-free_basis ds t) (λ e o.
      let low = degree_at ds e.0 in
      let sum : low +ℤ pos (degree_of e.1) ≡ t = o.degree in
      let c : op (low +ℤ pos (degree_of e.1)) (target.action e.1 low (f e.0)) ≡ n.action e.1 low (op low (f e.0)) = p.commutes e.1 low (f e.0) o.trimmed (omega (arith, ints)) (fit e.0 o.generator (generator-at_most ds t top e o l)) in
      ap (λ (u : ℤ). op u (target.action e.1 low (f e.0))) (sym sum) ∙ c) in
      p.linear t v (map g (free_basis ds t)) l (HaveWidth-extended t l) ∙ ap (combination (n.width t) v) (map-map (op t) g (free_basis ds t) ∙ each)

  -- the sum with another map
  pub extended-sum : (h : ℕ → List Bool) → FitThrough target ds top h → (t : ℤ) (v : List Bool) → t ≤ℤ top → extended target ds (λ g. sum_of (f g) (h g)) t v ≡ sum_of (extended target ds f t v) (extended target ds h t v)
  extended-sum h also t v l =
      let a = value_of target ds f in
      let b = value_of target ds h in
      let c = value_of target ds (λ g. sum_of (f g) (h g)) in
      let each : map c (free_basis ds t) ≡ map (λ e. sum_of (a e) (b e)) (free_basis ds t) = map_same_all (IsOfDegree ds t) c (λ e. sum_of (a e) (b e)) (free_basis ds t) (All-free_basis ds t) (λ e o.
      let small = generator-at_most ds t top e o l in
      action-sum target steenrod e.1 (degree_at ds e.0) (f e.0) (h e.0) (fit e.0 o.generator small) (also e.0 o.generator small)) in
      ap (combination (target.width t) v) each ∙ combination-sum_rows (target.width t) v a b (free_basis ds t)

-- values that are zero
pub extended-null : (target : GradedModule) (steenrod : IsSteenrodModule target) (ds : List ℤ) (top : ℤ) (f : ℕ → List Bool) → ((g : ℕ) → g < length ds → degree_at ds g ≤ℤ top → f g ≡ zeros (target.width (degree_at ds g))) → (t : ℤ) (v : List Bool) → t ≤ℤ top → extended target ds f t v ≡ zeros (target.width t)
extended-null target steenrod ds top f none t v l =
    let each : map (value_of target ds f) (free_basis ds t) ≡ map (λ e. zeros (target.width t)) (free_basis ds t) = map_same_all (IsOfDegree ds t) (value_of target ds f) (λ e. zeros (target.width t)) (free_basis ds t) (All-free_basis ds t) (λ e o.
    ap (target.action e.1 (degree_at ds e.0)) (none e.0 o.generator (generator-at_most ds t top e o l)) ∙ (action-zeros target steenrod.linear e.1 (degree_at ds e.0) ∙ ap (λ (u : ℤ). zeros (target.width u)) o.degree)) in
    ap (combination (target.width t) v) each ∙ combination-zero_rows (target.width t) v (free_basis ds t)
