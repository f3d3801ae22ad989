-- The coordinates of vectors that stand for the generators of a square.
use Rattle.std.proofs.Common.{◌≡◌, ℕ, ◌+◌, ◌-◌, ◌<◌, ◌≤◌, Bool, false, List, [], length, map, take, drop, ap, sym, ◌∙◌, arith}
use Rattle.std.specs.List.{range_with_len}
use Rattle.std.proofs.lemmas.List.{length-drop, length-take-le, get_or-map, get_or-drop, get_or-take, ext_get_or, length-map}
use Rattle.std.proofs.lemmas.List.FromFn.{length-map-range_with_len, get_or-map-range_with_len}
use Rattle.bidegree.specs.declared.place.Place.{Place}
use Rattle.f2_vec.specs.Vectors.{bit}
use Rattle.f2_vec.specs.Spans.{row}
use Rattle.square.specs.Tables.{Staircase}
use Rattle.square.proofs.Places.{length-row_of}
use Rattle.lift_laws.specs.Products.{first_of, count_of, old_width, coefficient_of, on_square}
use Rattle.lift_laws.proofs.Coefficients.{width-parts}
use Rattle.chain_map.specs.Lifting.{resolution_of}
use Rattle.yoneda.specs.Products.{class_above, IsThere, AreOnSquare}

-- the coordinate so many places before the end
abbrev coefficients_back : ℕ → List Bool → Bool
coefficients_back back v = bit v (length v - back)

module _ (table sphere : Staircase) (a : Place) (s above : ℕ) (values : List (List Bool)) (there : IsThere sphere a) (on : AreOnSquare table sphere a s above values)
    (first count new : ℕ) (first_is : first ≡ first_of (resolution_of table) s above) (count_is : count ≡ count_of (resolution_of table) s above) (new_is : new ≡ count_of (resolution_of sphere) a.s a.above) where
  abbrev old : ℕ
  old = old_width (resolution_of sphere) a.s a.above

  -- the values on the square
  abbrev part : List (List Bool)
  part = take ((first + count) - first) (drop first values)

  part-length : length part ≡ count
  part-length = omega (arith, length-take-le ((first + count) - first) (drop first values) (omega (arith, length-drop first values)))

  part-row : (j : ℕ) → j < count → row part j ≡ row values (first + j)
  part-row j l = get_or-take ((first + count) - first) (drop first values) j [] (omega arith) ∙ get_or-drop first values j []

  part-width : (j : ℕ) → j < count → length (row part j) ≡ old + new
  part-width j l =
      let width = width-parts (resolution_of sphere) a.s a.above (omega (arith, length-row_of sphere.rows a.s)) in
      ap length (part-row j l) ∙ (ap (λ (n : ℕ). length (row values (n + j))) first_is ∙ (on.widths j (omega arith) ∙ (width ∙ ap (λ (n : ℕ). old + n) (sym new_is))))

  -- each is long enough for the coordinate
  pub behind : (j : ℕ) → j < length part → new - a.i ≤ length (row part j)
  behind j l = omega (arith, part-width j (omega (arith, part-length)))

  pub coefficients_on : map (coefficients_back (new - a.i)) part ≡ on_square (resolution_of table) s above (λ g. coefficient_of (resolution_of sphere) (class_above a) (row values g))
  coefficients_on =
      let back = coefficients_back (new - a.i) in
      let F : ℕ → Bool = λ j. bit (row values (first + j)) (old + a.i) in
      ext_get_or false (map back part) (map F (range_with_len 0 count)) (omega (arith, part-length, length-map part back, length-map-range_with_len F 0 count)) (λ j b.
      let l : j < count = omega (arith, part-length, length-map part back) in
      let at : length (row part j) - (new - a.i) ≡ old + a.i = omega (arith, there.generator, part-width j l) in
      get_or-map back part j [] false (omega (arith, part-length))
      ∙ (ap (bit (row part j)) at ∙ (ap (λ (v : List Bool). bit v (old + a.i)) (part-row j l) ∙ sym (get_or-map-range_with_len F 0 count j j false l (omega arith)))))
      ∙ (ap (λ (n : ℕ). map (λ j. bit (row values (n + j)) (old + a.i)) (range_with_len 0 count)) first_is
      ∙ ap (λ (n : ℕ). map (λ j. bit (row values (first_of (resolution_of table) s above + j)) (old + a.i)) (range_with_len 0 n)) count_is)
