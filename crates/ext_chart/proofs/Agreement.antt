-- The texts of a table through a range speak of the squares of the range alone, and are the same for squares that are told alike.
use Rattle.std.proofs.Common.{◌≡◌, ℕ, zero, suc, ◌+◌, ◌-◌, ◌<◌, ◌≤◌, ℤ, pos, ◌+ℤ◌, ◌<ℤ◌, Bool, List, [], ◌∷◌, ◌++◌, length, map, take, drop, get_or, codes, refl, ap, sym, ◌∙◌, arith}
use Rattle.std.specs.List.{flat_map, sum, range_with_len, items_where_true}
use Rattle.std.specs.Prelude.{slice_index_or}
use Rattle.std.proofs.lemmas.Int.{ints}
use Rattle.std.proofs.lemmas.List.{append_assoc, get_or-take, get_or_append_left}
use Rattle.std.proofs.lemmas.List.FromFn.{length-range_with_len, get_or-range_with_len}
use Rattle.f2_vec.specs.Spans.{row}
use Rattle.f2_vec.proofs.Combinations.{map_same, map_same_all}
use Rattle.f2_vec.specs.Vectors.{IsZeroFrom}
use Rattle.free_module.specs.FreeModule.{free_basis_from, free_basis, free_width}
use Rattle.free_module.specs.FreeBasis.{IsOfDegree}
use Rattle.free_module.proofs.FreeBasis.{free_basis_from-append, All-free_basis}
use Rattle.module_spec.specs.Spec.{Generator}
use Rattle.finite_module.specs.Module.{bottom}
use Rattle.finite_module.specs.Text.{newline, joined_by_plus}
use Rattle.resolution_laws.specs.Resolution.{Content, no_content, square_in, row_of, degrees_from, generator_count}
use Rattle.resolution_laws.proofs.Rows.{degrees_from-split, free_basis-take}
use Rattle.ext_chart.specs.declared.place.Place.{Place}
use Rattle.chart_lines.specs.Chart.{mark, row_label, count_marks, row_line, row_lines, stems_line, chart_text}
use Rattle.ext_chart.specs.Dump.{no_place, square_places, places_from, term_text, free_sum_text, generator_line, square_lines, image_text, square_text, row_text, dump_text}
use Rattle.ext_chart.specs.Alike.{AreToldAlike}
use Rattle.ext_chart.specs.Summary.{row_total, module_line, squares_line, gens_line, total_lines, summary_text}
use Rattle.ext_chart.proofs.DumpSteps.{map-items_where_true, items_where_true-zeros}
use Rattle.ext_chart.proofs.RowSteps.{length-places_from}

-- ---- functions that agree on a range

map_range : {X : Type 0} (f g : ℕ → X) (a n : ℕ) → ((j : ℕ) → j < n → f (a + j) ≡ g (a + j)) → map f (range_with_len a n) ≡ map g (range_with_len a n)
map_range f g a n h = map_same 0 f g (range_with_len a n) (λ j l.
    let m : j < n = omega (arith, length-range_with_len a n) in
    let e = get_or-range_with_len a n j 0 m in
    ap f e ∙ h j m ∙ sym (ap g e))

flat_map_same_at : {X : Type 0} (d : X) (f g : X → List ℕ) (xs : List X) → ((j : ℕ) → j < length xs → f (get_or xs j d) ≡ g (get_or xs j d)) → flat_map f xs ≡ flat_map g xs
flat_map_same_at d f g [] h = refl
flat_map_same_at d f g (x ∷ xs) h = cc (h zero (omega arith), flat_map_same_at d f g xs (λ j l. h (suc j) (omega arith)))

flat_map_range : (f g : ℕ → List ℕ) (n : ℕ) → ((j : ℕ) → j < n → f j ≡ g j) → flat_map f (range_with_len 0 n) ≡ flat_map g (range_with_len 0 n)
flat_map_range f g n h = flat_map_same_at 0 f g (range_with_len 0 n) (λ j l.
    let m : j < n = omega (arith, length-range_with_len 0 n) in
    let z : 0 + j ≡ j = omega arith in
    let e : get_or (range_with_len 0 n) j 0 ≡ j = get_or-range_with_len 0 n j 0 m ∙ z in
    ap f e ∙ h j m ∙ sym (ap g e))

-- ---- a vector of a degree below that of square n, on the generators of a row and on those of its first n squares

places_from-split : (s : ℕ) (b : ℤ) (squares : List Content) (n : ℕ) → places_from s b squares ≡ places_from s b (take n squares) ++ places_from s (b +ℤ pos n) (drop n squares)
places_from-split s b squares zero = let e : b ≡ b +ℤ pos 0 = omega (arith, ints) in ap (λ (t : ℤ). places_from s t squares) e
places_from-split s b [] (suc n) = refl
places_from-split s b (x ∷ squares) (suc n) =
    let e : (b +ℤ pos 1) +ℤ pos n ≡ b +ℤ pos (suc n) = omega (arith, ints) in
    let here = square_places s b (length x.images) in
    let front = places_from s (b +ℤ pos 1) (take n squares) in
    let rest : places_from s (b +ℤ pos 1) squares ≡ front ++ places_from s (b +ℤ pos (suc n)) (drop n squares) =
    places_from-split s (b +ℤ pos 1) squares n ∙ ap (λ (t : ℤ). front ++ places_from s t (drop n squares)) e in
    ap (λ (z : List Place). here ++ z) rest ∙ sym (append_assoc here front (places_from s (b +ℤ pos (suc n)) (drop n squares)))

-- the texts of the elements on the generators of the first n squares
same_terms : (s : ℕ) (b : ℤ) (squares : List Content) (n : ℕ) (t : ℤ) → let basis = free_basis (degrees_from b (take n squares)) t in map (term_text (places_from s b squares)) basis ≡ map (term_text (places_from s b (take n squares))) basis
same_terms s b squares n t =
    let whole = places_from s b squares in
    let front = places_from s b (take n squares) in
    let degrees = degrees_from b (take n squares) in
    map_same_all (IsOfDegree degrees t) (term_text whole) (term_text front) (free_basis degrees t) (All-free_basis degrees t) (λ e o.
    let g = o.generator in
    let l : e.0 < length front = omega (arith, length-places_from s b (take n squares)) in
    let place : slice_index_or whole e.0 no_place ≡ slice_index_or front e.0 no_place = ap (λ (z : List Place). slice_index_or z e.0 no_place) (places_from-split s b squares n) ∙ get_or_append_left front (places_from s (b +ℤ pos n) (drop n squares)) no_place e.0 l in
    cc)

same_sum : (s : ℕ) (b : ℤ) (squares : List Content) (n : ℕ) (t : ℤ) (v : List Bool) → items_where_true v (free_basis (degrees_from b squares) t) ≡ items_where_true v (free_basis (degrees_from b (take n squares)) t) → free_sum_text (places_from s b squares) (degrees_from b squares) t v ≡ free_sum_text (places_from s b (take n squares)) (degrees_from b (take n squares)) t v
same_sum s b squares n t v e =
    let whole = places_from s b squares in
    let front = places_from s b (take n squares) in
    let basis = free_basis (degrees_from b (take n squares)) t in
    ap (λ (z : List (ℕ × List ℕ)). joined_by_plus (map (term_text whole) z)) e
    ∙ ap joined_by_plus (map-items_where_true (term_text whole) v basis ∙ ap (items_where_true v) (same_terms s b squares n t) ∙ sym (map-items_where_true (term_text front) v basis))

free_sum_text-take : (s : ℕ) (b : ℤ) (squares : List Content) (n : ℕ) (t : ℤ) (v : List Bool) → t <ℤ (b +ℤ pos n) → free_sum_text (places_from s b squares) (degrees_from b squares) t v ≡ free_sum_text (places_from s b (take n squares)) (degrees_from b (take n squares)) t v
free_sum_text-take s b squares n t v h = same_sum s b squares n t v (ap (items_where_true v) (free_basis-take b squares n t h))

-- a vector with no coordinate at the generators behind those of the first n squares
pub free_sum_text-first : (s : ℕ) (b : ℤ) (squares : List Content) (n : ℕ) (t : ℤ) (v : List Bool) → IsZeroFrom v (free_width (degrees_from b (take n squares)) t) → free_sum_text (places_from s b squares) (degrees_from b squares) t v ≡ free_sum_text (places_from s b (take n squares)) (degrees_from b (take n squares)) t v
free_sum_text-first s b squares n t v h =
    let first = degrees_from b (take n squares) in
    let later = degrees_from (b +ℤ pos n) (drop n squares) in
    let basis : free_basis (degrees_from b squares) t ≡ free_basis first t ++ free_basis_from (0 + length first) later t =
    ap (λ (ds : List ℤ). free_basis ds t) (degrees_from-split b squares n) ∙ free_basis_from-append 0 first later t in
    same_sum s b squares n t v (ap (items_where_true v) basis ∙ items_where_true-zeros v (free_basis first t) (free_basis_from (0 + length first) later t) h)

-- ---- two counts that agree through the last degrees of rows

module _ (s : ℕ) (last : ℕ → ℕ) (f g : ℕ → ℕ → ℕ) (same : (i k : ℕ) → i ≤ s → k ≤ last i → f i k ≡ g i k) where
  same_row_line : (i : ℕ) → i ≤ s → row_line (count_marks f) (last i) i ≡ row_line (count_marks g) (last i) i
  same_row_line i l =
      let marks : map (count_marks f i) (range_with_len i (last i + 1 - i)) ≡ map (count_marks g i) (range_with_len i (last i + 1 - i)) =
      map_range (count_marks f i) (count_marks g i) i (last i + 1 - i) (λ j m. ap mark (same i (i + j) l (omega arith))) in
      ap (λ (z : List ℕ). row_label i ++ (codes " |" ++ (z ++ newline))) marks

  same_row_lines : (n : ℕ) → n ≤ s + 1 → row_lines (count_marks f) last n ≡ row_lines (count_marks g) last n
  same_row_lines zero l = refl
  same_row_lines (suc n) l = cc (same_row_line n (omega arith), same_row_lines n (omega arith))

  pub chart_text-counts : (bottom : ℤ) → chart_text bottom s last f ≡ chart_text bottom s last g
  chart_text-counts bottom = ap (λ (z : List ℕ). z ++ stems_line bottom (last 0)) (same_row_lines (s + 1) (omega arith))

  same_row_total : (i : ℕ) → i ≤ s → row_total f (last i) i ≡ row_total g (last i) i
  same_row_total i l = ap sum (map_range (f i) (g i) 0 (last i + 1) (λ j m. same i (0 + j) l (omega arith)))

  summary_text-counts : (gens : ℕ) (bottom : ℤ) → summary_text gens bottom s last f ≡ summary_text gens bottom s last g
  summary_text-counts gens bottom =
      ap (λ (totals : List ℕ). module_line gens bottom ++ (squares_line s last ++ (gens_line (sum totals) ++ total_lines 0 totals)))
      (map_range (λ i. row_total f (last i) i) (λ i. row_total g (last i) i) 0 (s + 1) (λ j m. same_row_total (0 + j) (omega arith)))

-- ---- two tables whose squares are told alike

module _ (gs : List Generator) (s : ℕ) (last : ℕ → ℕ) (a b : List (List Content)) (alike : AreToldAlike gs s last a b) where
  pub chart_text-alike : (bottom : ℤ) → chart_text bottom s last (generator_count a) ≡ chart_text bottom s last (generator_count b)
  chart_text-alike = chart_text-counts s last (generator_count a) (generator_count b) alike.counts

  pub summary_text-alike : (gens : ℕ) (bottom : ℤ) → summary_text gens bottom s last (generator_count a) ≡ summary_text gens bottom s last (generator_count b)
  summary_text-alike = summary_text-counts s last (generator_count a) (generator_count b) alike.counts

  same_row_text : (i : ℕ) → i ≤ s → row_text gs a (last i) i ≡ row_text gs b (last i) i
  same_row_text i l = flat_map_range (square_text gs a i) (square_text gs b i) (last i + 1) (λ k h. alike.lines i k l (omega arith))

  pub dump_text-alike : dump_text gs s last a ≡ dump_text gs s last b
  dump_text-alike = flat_map_range (λ i. row_text gs a (last i) i) (λ i. row_text gs b (last i) i) (s + 1) (λ i h. same_row_text i (omega arith))

pub alike-through : (gs : List Generator) (s : ℕ) (last : ℕ → ℕ) (a b c : List (List Content)) → AreToldAlike gs s last a b → AreToldAlike gs s last b c → AreToldAlike gs s last a c
alike-through gs s last a b c p q = record {
  counts = λ i k l m. p.counts i k l m ∙ q.counts i k l m;
  lines = λ i k l m. p.lines i k l m ∙ q.lines i k l m;
}

-- the lines of a square with as many images, the texts of which are the same
pub same_square_lines : (s : ℕ) (t : ℤ) (f g : List Bool → List ℕ) (xs ys : List (List Bool)) → length xs ≡ length ys → ((j : ℕ) → j < length xs → f (row xs j) ≡ g (row ys j)) → square_lines f s t xs ≡ square_lines g s t ys
same_square_lines s t f g xs ys e same =
    let line : (List Bool → List ℕ) → List (List Bool) → ℕ → List ℕ = λ f images j. generator_line (record { s = s; t = t; i = j }) (f (row images j)) in
    flat_map_range (line f xs) (line g ys) (length xs) (λ j h. ap (λ (z : List ℕ). generator_line (record { s = s; t = t; i = j }) z) (same j h))
    ∙ ap (λ (n : ℕ). flat_map (line g ys) (range_with_len 0 n)) e

-- ---- two tables that have the same squares through a range

abbrev pub AgreeThrough : ℕ → ℕ → List (List Content) → List (List Content) → Type 0
AgreeThrough s t a b = (i : ℕ) → i ≤ s → take (t + 1) (row_of a i) ≡ take (t + 1) (row_of b i)

module _ (s t : ℕ) (a b : List (List Content)) (agree : AgreeThrough s t a b) where
  same_square : (i k : ℕ) → i ≤ s → k ≤ t → square_in (row_of a i) k ≡ square_in (row_of b i) k
  same_square i k l m =
      let n : k < t + 1 = omega arith in
      sym (get_or-take (t + 1) (row_of a i) k no_content n) ∙ ap (λ (z : List Content). square_in z k) (agree i l) ∙ get_or-take (t + 1) (row_of b i) k no_content n

  module _ (gs : List Generator) where
    same_image_text : (i k : ℕ) (v : List Bool) → i ≤ s → k ≤ t → image_text gs a i (bottom gs +ℤ pos k) v ≡ image_text gs b i (bottom gs +ℤ pos k) v
    same_image_text zero k v l m = refl
    same_image_text (suc i) k v l m =
        let d = bottom gs in
        let h : (d +ℤ pos k) <ℤ (d +ℤ pos (t + 1)) = omega (arith, ints) in
        free_sum_text-take i d (row_of a i) (t + 1) (d +ℤ pos k) v h
        ∙ ap (λ (z : List Content). free_sum_text (places_from i d z) (degrees_from d z) (d +ℤ pos k) v) (agree i (omega arith))
        ∙ sym (free_sum_text-take i d (row_of b i) (t + 1) (d +ℤ pos k) v h)

    same_square_text : (i k : ℕ) → i ≤ s → k ≤ t → square_text gs a i k ≡ square_text gs b i k
    same_square_text i k l m =
        let u = bottom gs +ℤ pos k in
        let images = (square_in (row_of b i) k).images in
        ap (λ c. square_lines (image_text gs a i u) i u c.images) (same_square i k l m)
        ∙ same_square_lines i u (image_text gs a i u) (image_text gs b i u) images images refl (λ j h. same_image_text i k (row images j) l m)

    -- they are told alike in each shape within the range
    pub agreeing_alike : (last : ℕ → ℕ) → ((i : ℕ) → last i ≤ t) → AreToldAlike gs s last a b
    agreeing_alike last within = record {
      counts = λ i k l m. let w = within i in ap (λ c. length c.images) (same_square i k l (omega arith));
      lines = λ i k l m. let w = within i in same_square_text i k l (omega arith);
    }
