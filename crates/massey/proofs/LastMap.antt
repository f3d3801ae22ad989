-- Over canonical resolutions the maps that are made are a null homotopy.
use Rattle.std.proofs.Common.{◌≡◌, ℕ, suc, ◌+◌, ◌<◌, ◌≤◌, Bool, ℤ, pos, ◌+ℤ◌, ◌-ℤ◌, ◌≤ℤ◌, List, [], length, take, refl, ap, sym, subst, ◌∙◌, arith}
use Rattle.std.proofs.lemmas.Int.{ints}
use Rattle.std.proofs.lemmas.List.{get_or-map}
use Rattle.bidegree.specs.declared.range.Range.{Range}
use Rattle.f2_vec.specs.Vectors.{bit, sum_of, zeros}
use Rattle.f2_vec.specs.Spans.{row}
use Rattle.finite_module.specs.Graded.{ModulesAreSteenrodModules}
use Rattle.free_module.specs.FreeModule.{degree_at, free_width}
use Rattle.free_module.specs.Graded.{free_graded}
use Rattle.free_module.specs.LinearMap.{mapped}
use Rattle.resolution_laws.specs.Resolution.{row_of}
use Rattle.resolution_laws.specs.Exactness.{CanonicalTableIsMinimalResolution, target_of as boundary_target}
use Rattle.resolution_laws.proofs.Generators.{length-images_of}
use Rattle.square.specs.Squares.{over, bottom_of}
use Rattle.square.specs.Tables.{Staircase, plain_rows}
use Rattle.lift_laws.specs.Lifts.{Resolution, IsSphere, gens, degree, image, d, lowered}
use Rattle.lift_laws.specs.Products.{first_of, degree_of_class}
use Rattle.lift_laws.proofs.Cut.{degree-cut, image-cut, basis-cut}
use Rattle.lift_laws.proofs.Resolved.{IsResolved, is_resolved}
use Rattle.bracket_laws.specs.Brackets.{composed, top_of, HasZeroLower}
use Rattle.bracket_laws.proofs.Members.{AreMadeMaps}
use Rattle.bracket_laws.proofs.HasMember.{made_homotopy}
use Rattle.chain_map.specs.Lifting.{lowered_row, IsInverseAt, chosen_preimage, LiftValues, resolution_of, IsCanonicalIn, map_of, IsChosenFor, target_of, next_goal}
use Rattle.chain_map.proofs.Generators.{degree-lowered}
use Rattle.chain_map.proofs.Preimages.{gives-of}
use Rattle.chain_map.proofs.Widths.{width-take}
use Rattle.yoneda.specs.Products.{class_above}
use Rattle.massey.specs.declared.places.Places.{Places}
use Rattle.chain_map.specs.Classes.{through}
use Rattle.massey.specs.Inside.{above_of, above_ab, above_bc, IsLastMap, IsCompositeIn, beta_values, homotopy_goal}
use Rattle.chain_map.proofs.Classes.{rows_through}
use Rattle.chain_map.proofs.Resolved.{is_canonical}
use Rattle.yoneda.proofs.Through.{count_through, product_through}
use Rattle.massey.proofs.Values.{room_of}
use Rattle.massey.proofs.Members.{gamma_through, beta_through}
use Rattle.massey.proofs.Assembled.{no_coefficient}
use Rattle.massey.proofs.Maps.{among_first, part_map}
use Rattle.massey.proofs.Composites.{row_inside, sphere_row_inside, beta_taken}
use Rattle.massey.proofs.MapValues.{next_width}
use Rattle.massey.proofs.Chosen.{AreMaps}

module _ (minimal : CanonicalTableIsMinimalResolution) (modules : ModulesAreSteenrodModules) (table sphere : Staircase) (range far : Range) (p : Places) (n : ℕ) (beta gamma : LiftValues) (c : IsCompositeIn table sphere range far p n beta gamma)
    (all : IsCanonicalIn range table) (all_q : IsCanonicalIn far sphere) (last : List (List Bool)) (made : AreMaps table sphere p n beta gamma p.a.s last) where
  abbrev r : Resolution
  r = resolution_of table

  abbrev q : Resolution
  q = resolution_of sphere

  abbrev rc : Resolution
  rc = through range table

  abbrev qc : Resolution
  qc = through far sphere

  abbrev x : ℤ
  x = degree_of_class rc (class_above p.c)

  abbrev y : ℤ
  y = degree_of_class qc (class_above p.b)

  abbrev w : ℤ
  w = bottom_of table.resolved +ℤ pos (above_bc p)

  w-is : w ≡ x +ℤ y
  w-is = let zero = c.setting.is_sphere.bottom in omega (arith, ints)

  abbrev top : ℤ
  top = top_of rc (class_above p.a) (class_above p.b) (class_above p.c)

  abbrev H : ℕ → ℕ → List Bool
  H k g = row (made.maps k) g

  p_resolved : IsResolved rc range.s range.t
  p_resolved = is_resolved minimal rc range.s range.t (is_canonical table c.setting.is_table range (c.setting.through_table range.s (omega arith)) modules all)

  q_resolved : IsResolved qc far.s far.t
  q_resolved = is_resolved minimal qc far.s far.t (is_canonical sphere c.setting.is_sphere_table far (c.setting.through_sphere far.s (omega arith)) modules all_q)

  -- ---- the generators of the part

  same-degree : (i g : ℕ) → i ≤ range.s → g < length (gens rc i) → degree rc i g ≡ degree r i g
  same-degree i g l b = degree-cut (over table.resolved) range.s (range.t + 1) (plain_rows table.rows) rc.table (rows_through table range) i g l b

  same-image : (i g : ℕ) → i ≤ range.s → g < length (gens rc i) → image rc i g ≡ image r i g
  same-image i g l b = image-cut (over table.resolved) range.s (range.t + 1) (plain_rows table.rows) rc.table (rows_through table range) i g l b

  same-width : (k : ℕ) (u : ℤ) → k ≤ far.s → u ≤ℤ (bottom_of sphere.resolved +ℤ pos far.t) → free_width (gens q k) u ≡ free_width (gens qc k) u
  same-width k u l low = sym (ap length (basis-cut (over sphere.resolved) far.s (far.t + 1) (plain_rows sphere.rows) qc.table (rows_through sphere far) k u l (omega (arith, ints))))

  with-value : (i g : ℕ) → i ≤ range.s → g < length (gens rc i) → degree rc i g ≤ℤ top → g < first_of r i (above_of p + 1)
  with-value i g l b low = let inside = c.setting.inside in let few = inside.degree in among_first table sphere range far i (above_of p) g l b (omega (arith, ints))

  next-row : (k : ℕ) → k < p.a.s → suc (n + k) ≤ range.s
  next-row k l = let h = row_inside table sphere range far p n beta gamma c (suc k) (omega arith) in omega arith

  -- ---- H_0

  first-zero : (g : ℕ) → g < length (gens rc n) → degree rc n g ≤ℤ top → H 0 g ≡ zeros (free_width (gens qc 0) (degree rc n g -ℤ (x +ℤ y)))
  first-zero g b low =
      let row_n = row_inside table sphere range far p n beta gamma c 0 (omega arith) in
      let there = with-value n g (omega arith) b low in
      let same = same-degree n g (omega arith) b in
      let target = target_of sphere 0 (p.a.above + 1) in
      let zero_of : ℤ → List Bool = λ t. zeros (free_width target t) in
      let source = lowered_row table n (above_of p + 1) (above_bc p) in
      let count = length-images_of (pos 0 -ℤ pos (above_bc p)) (take (above_of p + 1) (row_of (plain_rows table.rows) n)) in
      let u = degree rc n g -ℤ (x +ℤ y) in
      let e = w-is in
      let lower = degree-lowered r n (above_of p + 1) (above_bc p) g there in
      let at : degree_at source g ≡ u = omega (arith, ints) in
      let wide : free_width target u ≡ free_width (gens qc 0) u = width-take (bottom_of sphere.resolved) (row_of (plain_rows sphere.rows) 0) (p.a.above + 1) u (omega (arith, ints)) ∙ same-width 0 u (omega arith) (omega (arith, ints)) in
      ap (λ (v : List (List Bool)). row v g) made.first
      ∙ (get_or-map zero_of source g (pos 0) [] (omega arith)
      ∙ (ap zero_of at ∙ ap zeros wide))

  -- ---- the others

  chosen : (k g : ℕ) → k < p.a.s → g < first_of r (suc (n + k)) (above_of p + 1) → IsChosenFor sphere (suc k) (degree r (suc (n + k)) g -ℤ w) (homotopy_goal table sphere p n k (beta_values sphere p beta k) gamma (made.maps k) g) (H (suc k) g)
  chosen k g l there = let next = made.next k l in let one = next.one_each in next.each g (omega arith)

  fits : (k g : ℕ) → k < p.a.s → g < length (gens rc (suc (n + k))) → degree rc (suc (n + k)) g ≤ℤ top → length (H (suc k) g) ≡ free_width (gens qc (suc k)) (degree rc (suc (n + k)) g -ℤ (x +ℤ y))
  fits k g l b low =
      let next = made.next k l in
      let i = suc (n + k) in
      let row_in_range = next-row k l in
      let there = with-value i g row_in_range b low in
      let same = same-degree i g row_in_range b in
      let e = w-is in
      let row_q = sphere_row_inside table sphere range far p n beta gamma c (suc k) (omega arith) in
      let at : degree r i g -ℤ w ≡ degree rc i g -ℤ (x +ℤ y) = omega (arith, ints) in
      next_width table sphere range far p n beta gamma c k g (made.maps k) (made.maps (suc k)) l next (omega arith)
      ∙ (ap (free_width (gens q (suc k))) at ∙ same-width (suc k) (degree rc i g -ℤ (x +ℤ y)) (omega arith) (omega (arith, ints)))

  goal-is : (k g : ℕ) → k < p.a.s → g < length (gens rc (suc (n + k))) → degree rc (suc (n + k)) g ≤ℤ top
      → homotopy_goal table sphere p n k (beta_values sphere p beta k) gamma (made.maps k) g ≡ sum_of (composed qc p.b.s y x (map_of beta) (map_of gamma) k (degree rc (suc (n + k)) g) g) (lowered rc (n + k) qc k (x +ℤ y) (H k) (degree rc (suc (n + k)) g) (image rc (suc (n + k)) g))
  goal-is k g l b low =
      let i = suc (n + k) in
      let row_in_range = next-row k l in
      let same = same-degree i g row_in_range b in
      let im = same-image i g row_in_range b in
      let t = degree rc i g in
      let e = w-is in
      let row_k = row_inside table sphere range far p n beta gamma c k (omega arith) in
      let row_q = sphere_row_inside table sphere range far p n beta gamma c k (omega arith) in
      let u = degree r i g -ℤ w in
      let first : mapped (free_graded (target_of sphere k (p.a.above + 1))) (lowered_row sphere (p.b.s + k) (above_ab p + 1) p.b.above) (beta_values sphere p beta k) u (map_of gamma (p.b.s + k) g) ≡ composed qc p.b.s y x (map_of beta) (map_of gamma) k t g =
      part_map sphere sphere far far (p.b.s + k) k p.b.above (above_ab p + 1) (p.a.above + 1) y u (beta_values sphere p beta k) (map_of beta k) (t -ℤ x) (map_of gamma (p.b.s + k) g) (omega arith) (omega arith) (omega arith) (omega arith) refl (omega (arith, ints)) (omega (arith, ints)) (omega (arith, ints))
      (λ h a. beta_taken table sphere range far p n beta gamma c k h (omega arith) a) in
      let second : next_goal table sphere (n + k) k (above_bc p) (above_of p + 1) (p.a.above + 1) (made.maps k) g ≡ lowered rc (n + k) qc k (x +ℤ y) (H k) t (image rc i g) =
      ap (mapped (free_graded (target_of sphere k (p.a.above + 1))) (lowered_row table (n + k) (above_of p + 1) (above_bc p)) (made.maps k) u) (sym im)
      ∙ part_map table sphere range far (n + k) k (above_bc p) (above_of p + 1) (p.a.above + 1) (x +ℤ y) u (made.maps k) (H k) t (image rc i g) (omega arith) (omega arith) (omega arith) (omega arith) (sym e) (omega (arith, ints)) (omega (arith, ints)) (omega (arith, ints))
      (λ h a. refl) in
      ap (λ (v : List Bool). sum_of v (next_goal table sphere (n + k) k (above_bc p) (above_of p + 1) (p.a.above + 1) (made.maps k) g)) first
      ∙ ap (sum_of (composed qc p.b.s y x (map_of beta) (map_of gamma) k t g)) second

  gives : (k g : ℕ) → k < p.a.s → g < length (gens rc (suc (n + k))) → degree rc (suc (n + k)) g ≤ℤ top → (goal : List Bool) → goal ≡ sum_of (composed qc p.b.s y x (map_of beta) (map_of gamma) k (degree rc (suc (n + k)) g) g) (lowered rc (n + k) qc k (x +ℤ y) (H k) (degree rc (suc (n + k)) g) (image rc (suc (n + k)) g))
      → length goal ≡ free_width (gens qc k) (degree rc (suc (n + k)) g -ℤ (x +ℤ y)) → d qc k (degree rc (suc (n + k)) g -ℤ (x +ℤ y)) goal ≡ zeros ((boundary_target qc.base qc.table k).width (degree rc (suc (n + k)) g -ℤ (x +ℤ y))) → d qc (suc k) (degree rc (suc (n + k)) g -ℤ (x +ℤ y)) (H (suc k) g) ≡ goal
  gives k g l b low goal is len cycle =
      let s = c.setting in
      let i = suc (n + k) in
      let row_in_range = next-row k l in
      let there = with-value i g row_in_range b low in
      let same = same-degree i g row_in_range b in
      let e = w-is in
      let row_q = sphere_row_inside table sphere range far p n beta gamma c (suc k) (omega arith) in
      let one = chosen k g l there in
      let long = s.through_sphere far.s (omega arith) in
      let at : degree r i g -ℤ w ≡ degree rc i g -ℤ (x +ℤ y) = omega (arith, ints) in
      let wanted : homotopy_goal table sphere p n k (beta_values sphere p beta k) gamma (made.maps k) g ≡ goal = goal-is k g l b low ∙ sym is in
      gives-of sphere s.is_sphere_table far long q_resolved (suc k) (degree rc i g -ℤ (x +ℤ y)) goal (H (suc k) g) one.inverse (omega arith) (omega (arith, ints)) (subst (λ (u : ℤ). IsInverseAt sphere (suc k) u one.inverse) at one.is) (one.value ∙ ap (chosen_preimage one.inverse) wanted) (fits k g l b low) len cycle

  are_made : AreMadeMaps rc qc n (x +ℤ y) (composed qc p.b.s y x (map_of beta) (map_of gamma)) p.a.s top H
  are_made = record {
    starts = first-zero;
    fits = λ k j g l e.
        let P : ℕ → Type 0 = λ j. g < length (gens rc (suc j)) → degree rc (suc j) g ≤ℤ top → length (H (suc k) g) ≡ free_width (gens qc (suc k)) (degree rc (suc j) g -ℤ (x +ℤ y)) in
        subst P (sym e) (fits k g l);
    gives = λ k j g l e.
        let goal : ℕ → List Bool = λ j. sum_of (composed qc p.b.s y x (map_of beta) (map_of gamma) k (degree rc (suc j) g) g) (lowered rc j qc k (x +ℤ y) (H k) (degree rc (suc j) g) (image rc (suc j) g)) in
        let P : ℕ → Type 0 = λ j. g < length (gens rc (suc j)) → degree rc (suc j) g ≤ℤ top → length (goal j) ≡ free_width (gens qc k) (degree rc (suc j) g -ℤ (x +ℤ y)) → d qc k (degree rc (suc j) g -ℤ (x +ℤ y)) (goal j) ≡ zeros ((boundary_target qc.base qc.table k).width (degree rc (suc j) g -ℤ (x +ℤ y))) → d qc (suc k) (degree rc (suc j) g -ℤ (x +ℤ y)) (H (suc k) g) ≡ goal j in
        let here : P (n + k) = λ b low. gives k g l b low (goal (n + k)) refl in
        subst P (sym e) here;
  }

  -- ---- bc is zero

  l : ℕ
  l = p.b.s + c.lifts.last

  l_row : suc l ≡ p.b.s + p.a.s
  unfolding l
  l_row = let e = c.lifts.a_row in omega arith

  zero_lower : HasZeroLower rc qc (class_above p.a) (class_above p.b) (class_above p.c) n l top (map_of gamma)
  zero_lower =
      let s = c.setting in
      let inside = s.inside in
      let b = class_above p.b in
      let part = product_through table sphere range far b (p.c.s + p.b.s) (above_bc p) (map_of gamma) (omega arith) inside.bc_degree (omega arith) (omega arith) in
      record {
        gamma_lift = gamma_through table sphere range far p s all all_q beta gamma c.lifts l l_row;
        zero = no_coefficient rc qc b (map_of gamma) (p.c.s + p.b.s) (suc n) (above_bc p) (sym c.n_row) (λ i. ap (λ (v : List Bool). bit v i) part ∙ c.lifts.bc_zero i);
      }

  pub is_last_map : IsLastMap table sphere p n beta gamma last range far
  is_last_map =
      let s = c.setting in
      let inside = s.inside in
      let sphere_c : IsSphere qc = record { bottom = s.is_sphere.bottom; one = s.is_sphere.one; none = s.is_sphere.none } in
      let count = count_through sphere far p.b.s p.b.above (omega arith) (omega arith) in
      record {
        H = H;
        homotopy = made_homotopy rc qc range.s range.t far.s far.t p_resolved q_resolved (class_above p.a) (class_above p.b) (class_above p.c) n l sphere_c (room_of table sphere range far p inside beta gamma c.lifts n c.n_row l l_row) top (omega arith) (map_of gamma) (map_of beta) zero_lower (beta_through table sphere range far p s all all_q beta gamma c.lifts l l_row) (omega (arith, ints)) H are_made;
        values = λ g. ap (λ (v : List (List Bool)). row v g) (sym made.here);
      }
