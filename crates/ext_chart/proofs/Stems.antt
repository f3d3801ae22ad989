-- The squares of a canonical resolution in stems are told as those of the whole resolution.
use Rattle.std.proofs.Common.{◌≡◌, ℕ, zero, suc, ◌+◌, ◌<◌, ◌≤◌, ℤ, pos, ◌+ℤ◌, Bool, List, [], ◌∷◌, ◌++◌, length, map, take, replicate, refl, ap, sym, subst, ◌∙◌, arith}
use Rattle.std.specs.List.{range_with_len}
use Rattle.std.proofs.lemmas.List.{get_or-take, length-take-le, map-append}
use Rattle.std.proofs.lemmas.Simd.{splat_is_map}
use Rattle.std.proofs.lemmas.List.FromFn.{length-range_with_len, get_or-map-range_with_len}
use Rattle.bidegree.specs.declared.shape.Shape.TheVariants.{Stems}
use Rattle.bidegree.specs.LastDegrees.{last_degree}
use Rattle.f2_vec.specs.Vectors.{bit, IsZeroFrom}
use Rattle.f2_vec.specs.Spans.{row}
use Rattle.f2_vec.proofs.Combinations.{map-map}
use Rattle.free_module.specs.FreeModule.{free_basis, free_width}
use Rattle.module_spec.specs.Spec.{Generator}
use Rattle.finite_module.specs.Module.{Module as SteenrodModule, bottom, generators_in}
use Rattle.finite_module.specs.Text.{joined_by_plus, name_at, sum_text}
use Rattle.resolution_laws.specs.Resolution.{Module, Content, no_content, square_in, row_of, degrees_from}
use Rattle.stem_laws.specs.Stems.{in_stems, IsCanonicalResolution, NewGeneratorsAreNotMet, RowsInStemsAreWhole, SquaresInStemsAreThoseOfTable}
use Rattle.square.specs.Squares.{module_over}
use Rattle.ext_chart.specs.declared.place.Place.{Place}
use Rattle.ext_chart.specs.Dump.{square_places, places_from, term_text, free_sum_text, image_text, square_text}
use Rattle.ext_chart.specs.Alike.{AreToldAlike, rows_in_stems, StemsAreToldAlike}
use Rattle.ext_chart.proofs.DumpSteps.{items_where_true-bits}
use Rattle.ext_chart.proofs.Agreement.{free_sum_text-first, same_square_lines}

-- ---- generators of squares with these numbers of them

same_places : (s : ℕ) (b : ℤ) (xs ys : List Content) → length xs ≡ length ys → ((j : ℕ) → j < length xs → length (square_in xs j).images ≡ length (square_in ys j).images) → places_from s b xs ≡ places_from s b ys
same_places s b [] [] e h = refl
same_places s b [] (y ∷ ys) e h = absurd (omega arith)
same_places s b (x ∷ xs) [] e h = absurd (omega arith)
same_places s b (x ∷ xs) (y ∷ ys) e h =
    let here : length x.images ≡ length y.images = h 0 (omega arith) in
    ap (λ (n : ℕ). square_places s b n ++ places_from s (b +ℤ pos 1) xs) here
    ∙ ap (λ (z : List Place). square_places s b (length y.images) ++ z) (same_places s (b +ℤ pos 1) xs ys (omega arith) (λ j l. h (suc j) (omega arith)))

-- the degree of a generator is said by its place
degree_of : Place → ℤ
degree_of p = p.t

places-degrees : (s : ℕ) (b : ℤ) (squares : List Content) → map degree_of (places_from s b squares) ≡ degrees_from b squares
unfolding degree_of
places-degrees s b [] = refl
places-degrees s b (x ∷ squares) =
    let n = length x.images in
    let place : ℕ → Place = λ i. record { s = s; t = b; i = i } in
    let here : map degree_of (square_places s b n) ≡ replicate n b =
    map-map degree_of place (range_with_len 0 n) ∙ sym (splat_is_map (range_with_len 0 n) n b (length-range_with_len 0 n)) in
    map-append degree_of (square_places s b n) (places_from s (b +ℤ pos 1) squares)
    ∙ (ap (λ (z : List ℤ). z ++ map degree_of (places_from s (b +ℤ pos 1) squares)) here
    ∙ ap (λ (z : List ℤ). replicate n b ++ z) (places-degrees s (b +ℤ pos 1) squares))

-- ---- texts of vectors with the same coordinates

same_sum_text : (gs : List Generator) (t : ℤ) (u v : List Bool) → ((j : ℕ) → bit u j ≡ bit v j) → sum_text gs t u ≡ sum_text gs t v
same_sum_text gs t u v h = ap (λ (z : List ℕ). joined_by_plus (map (name_at gs) z)) (items_where_true-bits u v (generators_in gs t) h)

same_free_text : (places : List Place) (degrees : List ℤ) (t : ℤ) (u v : List Bool) → ((j : ℕ) → bit u j ≡ bit v j) → free_sum_text places degrees t u ≡ free_sum_text places degrees t v
same_free_text places degrees t u v h = ap (λ (z : List (ℕ × List ℕ)). joined_by_plus (map (term_text places) z)) (items_where_true-bits u v (free_basis degrees t) h)

-- ---- rows in stems

pub row_of-in_stems : (m : Module) (s n : ℕ) (table : List (List Content)) (i : ℕ) → i ≤ s → row_of (rows_in_stems m s n table) i ≡ in_stems m n table i
row_of-in_stems m s n table i l = get_or-map-range_with_len (in_stems m n table) 0 (s + 1) i i [] (omega arith) (omega arith)

module _ (new : NewGeneratorsAreNotMet) (whole : RowsInStemsAreWhole) (those : SquaresInStemsAreThoseOfTable) (m : SteenrodModule) (s n : ℕ) (table : List (List Content)) (p : IsCanonicalResolution (module_over m) s (n + s) table) where
  abbrev b : ℤ
  b = bottom m.generators

  abbrev rows : List (List Content)
  rows = rows_in_stems (module_over m) s n table

  row_is : (i : ℕ) → i ≤ s → row_of rows i ≡ in_stems (module_over m) n table i
  row_is = row_of-in_stems (module_over m) s n table

  pub row_length : (i : ℕ) → i ≤ s → length (row_of rows i) ≡ n + i + 1
  row_length i l = ap length (row_is i l) ∙ whole (module_over m) s n table p.canonical i l

  count_is : (i k : ℕ) → i ≤ s → k ≤ n + i → length (square_in (row_of rows i) k).images ≡ length (square_in (row_of table i) k).images
  count_is i k l h = ap (λ (x : List Content). length (square_in x k).images) (row_is i l) ∙ (those (module_over m) s n table p i k l h).count

  bits : (i k : ℕ) → i ≤ s → k ≤ n + i → (g j : ℕ) → bit (row (square_in (row_of rows i) k).images g) j ≡ bit (row (square_in (row_of table i) k).images g) j
  bits i k l h g j = ap (λ (x : List Content). bit (row (square_in x k).images g) j) (row_is i l) ∙ (those (module_over m) s n table p i k l h).coordinates g j

  first_places : (i q : ℕ) → i ≤ s → q ≤ n + i + 1 → places_from i b (take q (row_of rows i)) ≡ places_from i b (take q (row_of table i))
  first_places i q l h =
      let in_row = row_length i l in
      let in_table = p.canonical.squares i l in
      let left = length-take-le q (row_of rows i) (omega arith) in
      let right = length-take-le q (row_of table i) (omega arith) in
      same_places i b (take q (row_of rows i)) (take q (row_of table i)) (left ∙ sym right) (λ j c.
      let a : square_in (take q (row_of rows i)) j ≡ square_in (row_of rows i) j = get_or-take q (row_of rows i) j no_content (omega arith) in
      let d : square_in (take q (row_of table i)) j ≡ square_in (row_of table i) j = get_or-take q (row_of table i) j no_content (omega arith) in
      ap (λ (x : Content). length x.images) a ∙ (count_is i j l (omega arith) ∙ sym (ap (λ (x : Content). length x.images) d)))

  first_degrees : (i q : ℕ) → i ≤ s → q ≤ n + i + 1 → degrees_from b (take q (row_of rows i)) ≡ degrees_from b (take q (row_of table i))
  first_degrees i q l h =
      sym (places-degrees i b (take q (row_of rows i))) ∙ (ap (map degree_of) (first_places i q l h) ∙ places-degrees i b (take q (row_of table i)))

  -- no image meets the generators of its own degree, and on those before them the rows agree
  same_image : (i k g : ℕ) → i ≤ s → k ≤ n + i → g < length (square_in (row_of table i) k).images → image_text m.generators rows i (b +ℤ pos k) (row (square_in (row_of rows i) k).images g) ≡ image_text m.generators table i (b +ℤ pos k) (row (square_in (row_of table i) k).images g)
  same_image zero k g l h c = same_sum_text m.generators (b +ℤ pos k) _ _ (bits zero k l h g)
  same_image (suc i) k g l h c =
      let t = b +ℤ pos k in
      let u = row (square_in (row_of rows (suc i)) k).images g in
      let v = row (square_in (row_of table (suc i)) k).images g in
      let xs = row_of rows i in
      let ys = row_of table i in
      let same = bits (suc i) k l h g in
      let degrees = first_degrees i k (omega arith) (omega arith) in
      let zero_v : IsZeroFrom v (free_width (degrees_from b (take k ys)) t) = (new (module_over m) s (n + s) table p i k (omega arith) (omega arith)).images l g c in
      let zero_u : IsZeroFrom u (free_width (degrees_from b (take k xs)) t) =
      subst (λ (ds : List ℤ). IsZeroFrom u (free_width ds t)) (sym degrees) (λ j a. same j ∙ zero_v j a) in
      free_sum_text-first i b xs k t u zero_u
      ∙ (ap (λ (z : List Place). free_sum_text z (degrees_from b (take k xs)) t u) (first_places i k (omega arith) (omega arith))
      ∙ (ap (λ (ds : List ℤ). free_sum_text (places_from i b (take k ys)) ds t u) degrees
      ∙ (same_free_text (places_from i b (take k ys)) (degrees_from b (take k ys)) t u v same
      ∙ sym (free_sum_text-first i b ys k t v zero_v))))

  same_lines : (i k : ℕ) → i ≤ s → k ≤ n + i → square_text m.generators rows i k ≡ square_text m.generators table i k
  same_lines i k l h =
      let t = b +ℤ pos k in
      let count = count_is i k l h in
      same_square_lines i t (image_text m.generators rows i t) (image_text m.generators table i t) (square_in (row_of rows i) k).images (square_in (row_of table i) k).images count (λ g c. same_image i k g l h (omega arith))

  alike : (last : ℕ → ℕ) → ((i : ℕ) → i ≤ s → last i ≤ n + i) → AreToldAlike m.generators s last rows table
  alike last within = record {
    counts = λ i k l h. let w = within i l in count_is i k l (omega arith);
    lines = λ i k l h. let w = within i l in same_lines i k l (omega arith);
  }

-- through the degrees of a range
pub stems_alike : NewGeneratorsAreNotMet → RowsInStemsAreWhole → SquaresInStemsAreThoseOfTable → StemsAreToldAlike
stems_alike new whole those m range n table e p =
    let here : IsCanonicalResolution (module_over m) range.s (n + range.s) table = subst (λ (t : ℕ). IsCanonicalResolution (module_over m) range.s t table) (sym e) p in
    alike new whole those m range.s n table here (last_degree Stems range) (λ i l. omega (arith, e))
