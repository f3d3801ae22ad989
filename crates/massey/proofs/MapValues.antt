-- The values of the maps of a null homotopy are vectors of the sphere's resolution.
use Rattle.std.proofs.Common.{◌≡◌, ℕ, zero, suc, ◌+◌, ◌<◌, ◌≤◌, Bool, ℤ, pos, ◌+ℤ◌, ◌-ℤ◌, List, [], length, ap, sym, subst, ◌∙◌, arith}
use Rattle.std.proofs.lemmas.Int.{ints}
use Rattle.std.proofs.lemmas.List.{length-map, get_or-map}
use Rattle.bidegree.specs.declared.range.Range.{Range}
use Rattle.f2_vec.specs.Vectors.{zeros}
use Rattle.f2_vec.specs.Spans.{row}
use Rattle.f2_vec.proofs.Sums.{length-zeros}
use Rattle.free_module.specs.FreeModule.{degree_at, free_width}
use Rattle.free_module.specs.Graded.{free_graded}
use Rattle.free_module.specs.LinearMap.{AreImages}
use Rattle.square.specs.Squares.{bottom_of}
use Rattle.square.specs.Tables.{Staircase, row_in}
use Rattle.square.proofs.Places.{length-row_of}
use Rattle.lift_laws.specs.Lifts.{Resolution, gens, degree}
use Rattle.lift_laws.specs.Products.{first_of}
use Rattle.chain_map.specs.Lifting.{lowered_row, LiftValues, resolution_of, target_of}
use Rattle.chain_map.proofs.Generators.{is_number, first_of-more}
use Rattle.chain_map.proofs.Places.{are_images}
use Rattle.chain_map.proofs.Widths.{value_width}
use Rattle.yoneda.specs.Products.{AreOnSquare}
use Rattle.massey.specs.declared.places.Places.{Places}
use Rattle.massey.specs.Inside.{above_of, above_bc, IsCompositeIn, beta_values, homotopy_goal, zero_map, AreNext}
use Rattle.massey.proofs.Composites.{row_there, has_place}
use Rattle.massey.proofs.Chosen.{AreMaps}

module _ (table sphere : Staircase) (range far : Range) (p : Places) (n : ℕ) (beta gamma : LiftValues) (c : IsCompositeIn table sphere range far p n beta gamma) where
  abbrev r : Resolution
  r = resolution_of table

  abbrev q : Resolution
  q = resolution_of sphere

  abbrev w : ℤ
  w = bottom_of table.resolved +ℤ pos (above_bc p)

  pub next_row_there : (k : ℕ) → k < p.a.s → above_of p < length (row_in table.rows (suc (n + k)))
  next_row_there k l =
      let e : n + suc k ≡ suc (n + k) = omega arith in
      subst (λ (i : ℕ). above_of p < length (row_in table.rows i)) e (row_there table sphere range far p n beta gamma c (suc k) (omega arith))

  pub next_width : (k g : ℕ) (below vectors : List (List Bool)) → k < p.a.s → AreNext table sphere p n beta gamma k below vectors → g < length vectors → length (row vectors g) ≡ free_width (gens q (suc k)) (degree r (suc (n + k)) g -ℤ w)
  next_width k g below vectors l next b =
      value_width sphere (suc k) (degree r (suc (n + k)) g -ℤ w) (has_place table sphere range far p n beta gamma c (suc k) (suc (n + k)) g (omega arith) (next_row_there k l) (omega arith)) (homotopy_goal table sphere p n k (beta_values sphere p beta k) gamma below g) (row vectors g) (next.each g b)

  -- they are the images of a map
  abbrev Images : ℕ → List (List Bool) → Type 0
  Images k vectors = AreImages (free_graded (target_of sphere k (p.a.above + 1))) (lowered_row table (n + k) (above_of p + 1) (above_bc p)) vectors

  zero_images : Images 0 (zero_map table sphere p n)
  zero_images =
      let e : n ≡ n + 0 = omega arith in
      let target = target_of sphere 0 (p.a.above + 1) in
      let zero_of : ℤ → List Bool = λ d. zeros (free_width target d) in
      let source = lowered_row table n (above_of p + 1) (above_bc p) in
      subst (λ (i : ℕ). AreImages (free_graded target) (lowered_row table i (above_of p + 1) (above_bc p)) (zero_map table sphere p n)) e
      (record {
        one_each = length-map source zero_of;
        widths = λ g l. ap length (get_or-map zero_of source g (pos 0) [] l) ∙ length-zeros (free_width target (degree_at source g));
      })

  next_images : (k : ℕ) (below vectors : List (List Bool)) → k < p.a.s → AreNext table sphere p n beta gamma k below vectors → Images (suc k) vectors
  next_images k below vectors l next =
      let e : suc (n + k) ≡ n + suc k = omega arith in
      let here = next_row_there k l in
      subst (λ (i : ℕ). AreImages (free_graded (target_of sphere (suc k) (p.a.above + 1))) (lowered_row table i (above_of p + 1) (above_bc p)) vectors) e
      (are_images table sphere (suc (n + k)) (suc k) (above_bc p) (above_of p + 1) (p.a.above + 1) vectors c.setting.is_sphere (omega arith) (omega arith) next.one_each
      (λ g b. next_width k g below vectors l next b))

  images_at : (k : ℕ) → k ≤ p.a.s → (last : List (List Bool)) (m : AreMaps table sphere p n beta gamma k last) → Images k (m.maps k)
  images_at zero l last m = subst (Images 0) (sym m.first) zero_images
  images_at (suc k) l last m = next_images k (m.maps k) (m.maps (suc k)) (omega arith) (m.next k (omega arith))

  pub maps_are_images : (k : ℕ) → k ≤ p.a.s → (last : List (List Bool)) → AreMaps table sphere p n beta gamma k last → Images k last
  maps_are_images k l last m = subst (Images k) m.here (images_at k l last m)

  -- on the square of the bracket
  pub last_on_square : (last : List (List Bool)) → AreMaps table sphere p n beta gamma p.a.s last → AreOnSquare table sphere p.a (n + p.a.s) (above_of p) last
  last_on_square last m =
      let k = c.lifts.last in
      let a_row = c.lifts.a_row in
      let e : suc (n + k) ≡ n + p.a.s = omega arith in
      let next = m.next k (omega arith) in
      let all : m.maps (suc k) ≡ last = ap m.maps (sym a_row) ∙ m.here in
      let here = next_row_there k (omega arith) in
      let len = length-row_of table.rows (suc (n + k)) in
      let more = first_of-more r (suc (n + k)) (above_of p) in
      let P : ℕ → List (List Bool) → Type 0 = λ i v. AreOnSquare table sphere p.a i (above_of p) v in
      let Q : ℕ → ℕ → Type 0 = λ s h. length (row (m.maps (suc k)) (first_of r (suc (n + k)) (above_of p) + h)) ≡ free_width (gens q s) (bottom_of sphere.resolved +ℤ pos p.a.above) in
      let on : P (suc (n + k)) (m.maps (suc k)) = record {
        enough = omega arith;
        widths = λ h b.
            let g = first_of r (suc (n + k)) (above_of p) + h in
            let number = (is_number r (suc (n + k)) (above_of p) h (omega arith) b).degree_is in
            let at : degree r (suc (n + k)) g -ℤ w ≡ bottom_of sphere.resolved +ℤ pos p.a.above = omega (arith, ints) in
            subst (λ (s : ℕ). Q s h) (sym a_row) (next_width k g (m.maps k) (m.maps (suc k)) (omega arith) next (omega arith) ∙ ap (free_width (gens q (suc k))) at);
      } in
      subst (λ (v : List (List Bool)). P (n + p.a.s) v) all (subst (λ (i : ℕ). P i (m.maps (suc k))) e on)
