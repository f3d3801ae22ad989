-- The texts of a resolution do not speak of kernels.
use Rattle.std.proofs.Common.{◌≡◌, ℕ, zero, suc, ◌+◌, ◌≤◌, ℤ, pos, ◌+ℤ◌, Bool, List, [], ◌∷◌, ◌++◌, length, map, refl, ap, sym, subst, ◌∙◌, arith, inl, inr}
use Rattle.std.proofs.Math.Path.{fun_ext}
use Rattle.std.proofs.lemmas.Bool.{cases_lt}
use Rattle.std.proofs.lemmas.List.{ext_get_or, get_or-map, get_or_past, length-map}
use Rattle.std.proofs.lemmas.List.FromFn.{length-map-range_with_len}
use Rattle.bidegree.specs.declared.range.Range.{Range}
use Rattle.bidegree.specs.declared.shape.Shape.TheVariants.{Stems}
use Rattle.bidegree.specs.LastDegrees.{last_degree}
use Rattle.module_spec.specs.Spec.{Generator}
use Rattle.finite_module.specs.Module.{Module as SteenrodModule, bottom}
use Rattle.resolution_laws.specs.Resolution.{Content, no_content, square_in, row_of, degrees_from, generator_count, IsCanonicalTable}
use Rattle.stem_laws.specs.Stems.{in_stems, IsCanonicalResolution}
use Rattle.square.specs.Squares.{module_over}
use Rattle.resolution_images.specs.BareRows.{BareRow, bare_row_in, contents_of, squares_of, IsBareRowOf, AreOfCanonical}
use Rattle.resolution_images.proofs.Contents.{bare, contents_bare, degrees_bare, row_of-squares}
use Rattle.ext_chart.specs.declared.place.Place.{Place}
use Rattle.ext_chart.specs.Dump.{square_places, places_from, free_sum_text, square_lines, image_text, square_text}
use Rattle.ext_chart.specs.Alike.{AreToldAlike, rows_in_stems, StemsAreToldAlike}
use Rattle.ext_chart.proofs.Agreement.{alike-through}
use Rattle.ext_chart.proofs.Stems.{row_of-in_stems}

abbrev pub bare_rows : List (List Content) → List (List Content)
bare_rows rows = map (map bare) rows

row_of-bare : (rows : List (List Content)) (i : ℕ) → row_of (bare_rows rows) i ≡ map bare (row_of rows i)
row_of-bare rows i =
    elim (cases_lt i (length rows)) [
      | inl l ↦ get_or-map (map bare) rows i [] [] l
      | inr l ↦ get_or_past (bare_rows rows) i [] (omega (arith, length-map rows (map bare))) ∙ sym (ap (map bare) (get_or_past rows i [] l))
    ]

pub images-bare : (squares : List Content) (k : ℕ) → (square_in (map bare squares) k).images ≡ (square_in squares k).images
images-bare squares k =
    elim (cases_lt k (length squares)) [
      | inl l ↦ ap (λ (c : Content). c.images) (get_or-map bare squares k no_content no_content l)
      | inr l ↦ ap (λ (c : Content). c.images) (get_or_past (map bare squares) k no_content (omega (arith, length-map squares bare)) ∙ sym (get_or_past squares k no_content l))
    ]

square-bare : (rows : List (List Content)) (i k : ℕ) → (square_in (row_of (bare_rows rows) i) k).images ≡ (square_in (row_of rows i) k).images
square-bare rows i k = ap (λ (x : List Content). (square_in x k).images) (row_of-bare rows i) ∙ images-bare (row_of rows i) k

places-bare : (s : ℕ) (b : ℤ) (squares : List Content) → places_from s b (map bare squares) ≡ places_from s b squares
places-bare s b [] = refl
places-bare s b (c ∷ squares) = ap (λ (z : List Place). square_places s b (length c.images) ++ z) (places-bare s (b +ℤ pos 1) squares)

image_text-bare : (gs : List Generator) (rows : List (List Content)) (s : ℕ) → image_text gs (bare_rows rows) s ≡ image_text gs rows s
image_text-bare gs rows zero = refl
image_text-bare gs rows (suc i) =
    let b = bottom gs in
    let f : List Content → ℤ → List Bool → List ℕ = λ x t v. free_sum_text (places_from i b x) (degrees_from b x) t v in
    let row = row_of rows i in
    ap f (row_of-bare rows i)
    ∙ fun_ext (λ t. fun_ext (λ v. ap (λ (z : List Place). free_sum_text z (degrees_from b (map bare row)) t v) (places-bare i b row) ∙ ap (λ (ds : List ℤ). free_sum_text (places_from i b row) ds t v) (degrees_bare b row)))

square_text-bare : (gs : List Generator) (rows : List (List Content)) (s k : ℕ) → square_text gs (bare_rows rows) s k ≡ square_text gs rows s k
square_text-bare gs rows s k =
    let u = bottom gs +ℤ pos k in
    ap (λ (x : List (List Bool)). square_lines (image_text gs (bare_rows rows) s u) s u x) (square-bare rows s k)
    ∙ ap (λ (f : ℤ → List Bool → List ℕ). square_lines (f u) s u (square_in (row_of rows s) k).images) (image_text-bare gs rows s)

-- squares are told as they are with their kernels
bare_alike : (gs : List Generator) (s : ℕ) (last : ℕ → ℕ) (bare_ones rows : List (List Content)) → bare_ones ≡ bare_rows rows → AreToldAlike gs s last bare_ones rows
bare_alike gs s last bare_ones rows e = record {
  counts = λ i k l h. ap (λ (x : List (List Content)). generator_count x i k) e ∙ ap length (square-bare rows i k);
  lines = λ i k l h. ap (λ (x : List (List Content)). square_text gs x i k) e ∙ square_text-bare gs rows i k;
}

-- ---- the texts of rows that are kept without kernels are those of the canonical resolution

-- the squares of rows that are bare of those of these rows
squares_bare : (b : ℤ) (s : ℕ) (lines : List BareRow) (rows : List (List Content)) → length lines ≡ s + 1 → length rows ≡ s + 1 → ((i : ℕ) → i ≤ s → IsBareRowOf b (row_of rows i) (bare_row_in lines i)) → squares_of lines ≡ bare_rows rows
squares_bare b s lines rows n k each =
    ext_get_or [] (squares_of lines) (bare_rows rows) (length-map lines contents_of ∙ n ∙ sym (length-map rows (map bare) ∙ k))
    (λ i l.
    let within : i ≤ s = omega (arith, length-map lines contents_of, n) in
    row_of-squares lines i ∙ (contents_bare b (row_of rows i) (bare_row_in lines i) (each i within) ∙ sym (row_of-bare rows i)))

pub images_alike : (m : SteenrodModule) (range : Range) (lines : List BareRow) (table : List (List Content)) → IsCanonicalTable (module_over m) range.s range.t table → AreOfCanonical (module_over m) range.s range.t lines → (last : ℕ → ℕ) → AreToldAlike m.generators range.s last (squares_of lines) table
images_alike m range lines table canonical h last =
    bare_alike m.generators range.s last (squares_of lines) table (squares_bare (module_over m).bottom range.s lines table h.rows canonical.rows (h.each table canonical))

-- those in stems, whose images on the edge are shorter
pub stem_images_alike : StemsAreToldAlike → (m : SteenrodModule) (range : Range) (n : ℕ) (lines : List BareRow) (table : List (List Content)) → n + range.s ≡ range.t → IsCanonicalResolution (module_over m) range.s range.t table → length lines ≡ range.s + 1 → ((i : ℕ) → i ≤ range.s → IsBareRowOf (module_over m).bottom (in_stems (module_over m) n table i) (bare_row_in lines i)) → AreToldAlike m.generators range.s (last_degree Stems range) (squares_of lines) table
stem_images_alike alike m range n lines table e p count each =
    let last = last_degree Stems range in
    let rows = rows_in_stems (module_over m) range.s n table in
    let whole : length rows ≡ range.s + 1 = length-map-range_with_len (in_stems (module_over m) n table) 0 (range.s + 1) in
    let bare_ones = squares_bare (module_over m).bottom range.s lines rows count whole (λ i l.
    subst (λ (squares : List Content). IsBareRowOf (module_over m).bottom squares (bare_row_in lines i)) (sym (row_of-in_stems (module_over m) range.s n table i l)) (each i l)) in
    alike-through m.generators range.s last (squares_of lines) rows table (bare_alike m.generators range.s last (squares_of lines) rows bare_ones) (alike m range n table e p)
