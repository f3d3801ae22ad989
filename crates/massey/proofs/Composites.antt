-- What the lifts of b and of c have for the maps of a null homotopy: the rows, and the dimensions of the values.
use Rattle.std.proofs.Common.{◌≡◌, ℕ, suc, ◌+◌, ◌<◌, ◌≤◌, ℤ, pos, ◌+ℤ◌, ◌-ℤ◌, List, [], length, take, ap, sym, subst, ◌∙◌, arith}
use Rattle.std.proofs.lemmas.Int.{ints}
use Rattle.std.proofs.lemmas.List.{length-take-le, get_or-take}
use Rattle.bidegree.specs.declared.range.Range.{Range}
use Rattle.f2_vec.specs.Spans.{row}
use Rattle.free_module.specs.FreeModule.{degree_at, IsWithinReach, free_width}
use Rattle.free_module.specs.Graded.{free_graded}
use Rattle.free_module.specs.LinearMap.{AreImages}
use Rattle.resolution_laws.specs.Resolution.{row_of}
use Rattle.resolution_laws.proofs.Generators.{length-images_of}
use Rattle.square.specs.Squares.{bottom_of}
use Rattle.square.specs.Tables.{Staircase, row_in, plain_rows}
use Rattle.square.proofs.Found.{row_within}
use Rattle.square.proofs.Places.{length-row_of}
use Rattle.lift_laws.specs.Lifts.{Resolution, degree}
use Rattle.lift_laws.specs.Products.{first_of, count_of}
use Rattle.chain_map.specs.Lifting.{lowered_row, LiftValues, resolution_of, row_values, joined, degrees_through, AreValues, target_of}
use Rattle.chain_map.specs.Inside.{Reaches}
use Rattle.chain_map.proofs.Generators.{is_number, images_taken, first_of-more, length-joined, within-reach, degree-below, degree-lowered}
use Rattle.chain_map.proofs.Places.{low_width, are_images}
use Rattle.chain_map.proofs.Widths.{HasPlace}
use Rattle.massey.specs.declared.places.Places.{Places}
use Rattle.massey.specs.Inside.{above_of, above_ab, above_bc, IsCompositeIn, beta_values}
use Rattle.massey.proofs.Values.{reaches_in}

module _ (table sphere : Staircase) (range far : Range) (p : Places) (n : ℕ) (beta gamma : LiftValues) (c : IsCompositeIn table sphere range far p n beta gamma) where
  abbrev r : Resolution
  r = resolution_of table

  abbrev q : Resolution
  q = resolution_of sphere

  -- the rows of the maps through H_k
  pub row_inside : (k : ℕ) → k ≤ p.a.s → n + k ≤ range.s
  row_inside k l = let row = c.setting.inside.row in let e = c.n_row in omega arith

  pub sphere_row_inside : (k : ℕ) → k ≤ p.a.s → p.b.s + k ≤ far.s
  sphere_row_inside k l = let row = c.setting.inside.ab_row in omega arith

  pub row_there : (k : ℕ) → k ≤ p.a.s → above_of p < length (row_in table.rows (n + k))
  row_there k l = let long = c.setting.through_table (n + k) (row_inside k l) in let degree = c.setting.inside.degree in omega arith

  pub sphere_row_there : (k : ℕ) → k ≤ p.a.s → p.a.above < length (row_in sphere.rows k)
  sphere_row_there k l = let b = c.setting.inside.ab_row in let long = c.setting.through_sphere k (omega arith) in let degree = c.setting.inside.ab_degree in omega arith

  pub inner_row_there : (k : ℕ) → k ≤ p.a.s → above_ab p < length (row_in sphere.rows (p.b.s + k))
  inner_row_there k l = let long = c.setting.through_sphere (p.b.s + k) (sphere_row_inside k l) in let degree = c.setting.inside.ab_degree in omega arith

  pub through_bracket : (k : ℕ) → k ≤ p.a.s → Reaches table sphere n (above_bc p) k (above_of p + 1) (p.a.above + 1)
  through_bracket k l =
      let s = c.setting in
      let here = row_there k l in
      let there = sphere_row_there k l in
      let within = row_within table.rows (n + k) 0 (omega arith) in
      let e : n + 0 ≡ n = omega arith in
      let same = ap (λ (i : ℕ). length (row_in table.rows i)) e in
      let first = row_there 0 (omega arith) in
      record { is_table = s.is_table; is_sphere_table = s.is_sphere_table; row = omega arith; some = omega arith; here = omega arith; there = omega arith; enough = omega arith; class_there = omega arith }

  -- the degree of a value of H_k is that of a square of the sphere, or below its bottom
  pub has_place : (k i g : ℕ) → k ≤ p.a.s → above_of p < length (row_in table.rows i) → g < first_of r i (above_of p + 1) → HasPlace sphere k (degree r i g -ℤ (bottom_of table.resolved +ℤ pos (above_bc p)))
  has_place k i g l long there j e =
      let len = length-row_of table.rows i in
      let low = degree-below r i (above_of p + 1) g (omega arith) there in
      let there_q = sphere_row_there k l in
      let at : j ≤ p.a.above = omega (arith, ints) in
      omega arith

  -- ---- beta

  abbrev beta_reach : ℕ
  beta_reach = degrees_through sphere sphere p.b.s p.b.above p.a.s

  beta_far : above_ab p < beta_reach
  beta_far = let s = c.setting in let i = s.inside in let row = i.ab_row in let low = i.ab_degree in reaches_in sphere sphere far far s.through_sphere s.through_sphere p.b.s p.b.above p.a.s (above_ab p) (omega arith) (omega arith) low (omega arith)

  pub beta_row : (k : ℕ) → k ≤ p.a.s → k < length beta.rows
  beta_row k l = let reached = beta_far in let rows = c.lifts.beta_lift.rows (omega arith) in omega arith

  beta_are : (k : ℕ) → k ≤ p.a.s → AreValues sphere sphere p.b.s (bottom_of sphere.resolved +ℤ pos p.b.above) beta_reach k (row_values beta k)
  beta_are k l = c.lifts.beta_lift.values k (beta_row k l)

  -- it has a value on each of the generators that are taken
  pub beta_count : (k : ℕ) → k ≤ p.a.s → first_of q (p.b.s + k) (above_ab p + 1) ≤ length (joined (row_values beta k))
  beta_count k l =
      let reached = beta_far in
      let fewer = images_taken (row_of q.table (p.b.s + k)) (above_ab p + 1) beta_reach (omega arith) in
      omega (arith, length-joined sphere (p.b.s + k) beta_reach (row_values beta k) (beta_are k l).one_each)

  pub beta_taken : (k g : ℕ) → k ≤ p.a.s → g < first_of q (p.b.s + k) (above_ab p + 1) → row (beta_values sphere p beta k) g ≡ row (joined (row_values beta k)) g
  beta_taken k g l there = let count = beta_count k l in get_or-take (first_of q (p.b.s + k) (above_ab p + 1)) (joined (row_values beta k)) g [] (omega arith)

  pub inner_count : (k : ℕ) → length (lowered_row sphere (p.b.s + k) (above_ab p + 1) p.b.above) ≡ first_of q (p.b.s + k) (above_ab p + 1)
  inner_count k = sym (length-images_of (pos 0 -ℤ pos p.b.above) (take (above_ab p + 1) (row_of (plain_rows sphere.rows) (p.b.s + k))))

  pub beta_images : (k : ℕ) → k ≤ p.a.s → AreImages (free_graded (target_of sphere k (p.a.above + 1))) (lowered_row sphere (p.b.s + k) (above_ab p + 1) p.b.above) (beta_values sphere p beta k)
  beta_images k l =
      let here = inner_row_there k l in
      let count = length-take-le (first_of q (p.b.s + k) (above_ab p + 1)) (joined (row_values beta k)) (beta_count k l) in
      let most = beta_count k l in
      are_images sphere sphere (p.b.s + k) k p.b.above (above_ab p + 1) (p.a.above + 1) (beta_values sphere p beta k) c.setting.is_sphere (omega arith) (omega arith) count
      (λ g b. ap length (beta_taken k g l (omega arith)) ∙ (beta_are k l).widths g (omega arith))

  -- ---- gamma

  gamma_far : (k : ℕ) → k < p.a.s → above_of p < degrees_through table sphere p.c.s p.c.above (p.b.s + c.lifts.last)
  gamma_far k l = let s = c.setting in let i = s.inside in let row = i.row in let ab = i.ab_row in let low = i.ab_degree in let e = c.lifts.a_row in reaches_in table sphere range far s.through_table s.through_sphere p.c.s p.c.above (p.b.s + c.lifts.last) (above_of p) (omega arith) (omega arith) i.degree (omega arith)

  pub gamma_row : (k : ℕ) → k < p.a.s → p.b.s + k < length gamma.rows
  gamma_row k l = let reached = gamma_far k l in let e = c.lifts.a_row in let rows = c.lifts.gamma_lift.rows (omega arith) in omega arith

  gamma_are : (k : ℕ) → k < p.a.s → AreValues table sphere p.c.s (bottom_of table.resolved +ℤ pos p.c.above) (degrees_through table sphere p.c.s p.c.above (p.b.s + c.lifts.last)) (p.b.s + k) (row_values gamma (p.b.s + k))
  gamma_are k l = c.lifts.gamma_lift.values (p.b.s + k) (gamma_row k l)

  -- the row of its generators
  gamma_at : (k : ℕ) → p.c.s + (p.b.s + k) ≡ suc (n + k)
  gamma_at k = let e = c.n_row in omega arith

  -- it has a value on number h of the square j
  pub gamma_there : (k j h : ℕ) → k < p.a.s → j ≤ above_of p → h < count_of r (suc (n + k)) j → first_of r (suc (n + k)) j + h < length (joined (row_values gamma (p.b.s + k)))
  gamma_there k j h l b there =
      let e : suc (n + k) ≡ n + suc k = omega arith in
      let same = ap (λ (i : ℕ). length (row_in table.rows i)) e in
      let long = row_there (suc k) (omega arith) in
      let len = length-row_of table.rows (suc (n + k)) in
      let more = first_of-more r (suc (n + k)) j in
      let reached = gamma_far k l in
      let fewer = images_taken (row_of r.table (suc (n + k))) (j + 1) (degrees_through table sphere p.c.s p.c.above (p.b.s + c.lifts.last)) (omega arith) in
      omega (arith, ap (λ (i : ℕ). first_of r i (degrees_through table sphere p.c.s p.c.above (p.b.s + c.lifts.last))) (gamma_at k), length-joined table (p.c.s + (p.b.s + k)) (degrees_through table sphere p.c.s p.c.above (p.b.s + c.lifts.last)) (row_values gamma (p.b.s + k)) (gamma_are k l).one_each)

  -- which beta_k takes
  pub gamma_width : (k j h : ℕ) → k < p.a.s → j ≤ above_of p → h < count_of r (suc (n + k)) j → length (row (joined (row_values gamma (p.b.s + k))) (first_of r (suc (n + k)) j + h)) ≡ free_width (lowered_row sphere (p.b.s + k) (above_ab p + 1) p.b.above) (pos j -ℤ pos (above_bc p))
  gamma_width k j h l b there =
      let e : suc (n + k) ≡ n + suc k = omega arith in
      let same = ap (λ (i : ℕ). length (row_in table.rows i)) e in
      let long = row_there (suc k) (omega arith) in
      let len = length-row_of table.rows (suc (n + k)) in
      let g = first_of r (suc (n + k)) j + h in
      let number = (is_number r (suc (n + k)) j h (omega arith) there).degree_is in
      let at = ap (λ (i : ℕ). degree r i g) (gamma_at k) in
      let t = degree r (p.c.s + (p.b.s + k)) g -ℤ (bottom_of table.resolved +ℤ pos p.c.above) in
      (gamma_are k l).widths g (gamma_there k j h l b there)
      ∙ sym (low_width (bottom_of sphere.resolved) (row_of (plain_rows sphere.rows) (p.b.s + k)) p.b.above (above_ab p + 1) t (pos j -ℤ pos (above_bc p)) (omega (arith, ints)) (omega (arith, ints)))

  -- degrees are within the reach of the Milnor bases
  pub inner_reach : (k j max : ℕ) (source : List ℤ) (t : ℤ) → j ≤ above_of p → above_of p ≤ max → source ≡ lowered_row sphere (p.b.s + k) (above_ab p + 1) p.b.above → t ≡ pos j -ℤ pos (above_bc p) → IsWithinReach max source t
  inner_reach k j max source t b is same at =
      subst (λ (z : List ℤ). IsWithinReach max z t) (sym same) (within-reach (pos 0 -ℤ pos p.b.above) (take (above_ab p + 1) (row_of (plain_rows sphere.rows) (p.b.s + k))) max t (omega (arith, ints)))

  pub zero_reach : (max : ℕ) (source target : List ℤ) → above_of p ≤ max → source ≡ lowered_row table n (above_of p + 1) (above_bc p) → target ≡ target_of sphere 0 (p.a.above + 1) → (g : ℕ) → g < length source → IsWithinReach max target (degree_at source g)
  zero_reach max source target is source_is target_is g l =
      let e : n + 0 ≡ n = omega arith in
      let same = ap (λ (i : ℕ). length (row_in table.rows i)) e in
      let long = row_there 0 (omega arith) in
      let len = length-row_of table.rows n in
      let count = length-images_of (pos 0 -ℤ pos (above_bc p)) (take (above_of p + 1) (row_of (plain_rows table.rows) n)) in
      let there : g < first_of r n (above_of p + 1) = omega (arith, ap length source_is) in
      let low = degree-below r n (above_of p + 1) g (omega arith) there in
      subst (λ (z : List ℤ). IsWithinReach max z (degree_at source g)) (sym target_is) (within-reach (bottom_of sphere.resolved) (take (p.a.above + 1) (row_of (plain_rows sphere.rows) 0)) max (degree_at source g) (omega (arith, ints, c.setting.a_in.degree_small, c.setting.is_sphere.bottom, ap (λ (z : List ℤ). degree_at z g) source_is, degree-lowered r n (above_of p + 1) (above_bc p) g there)))
