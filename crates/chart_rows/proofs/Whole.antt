-- Images with a zero for each generator of their own degree in the row below.
use Rattle.std.proofs.Common.{◌≡◌, ℕ, zero, suc, ◌+◌, ◌<◌, ◌≤◌, ℤ, pos, ◌+ℤ◌, Bool, List, [], ◌∷◌, ◌++◌, length, map, take, get_or, ap, sym, subst, ◌∙◌, arith}
use Rattle.std.proofs.lemmas.List.{ext_get_or}
use Rattle.std.proofs.lemmas.List.{length-append, length-map, length-take-le, get_or-take, get_or-map, take-take}
use Rattle.std.proofs.lemmas.List.FromFn.{length-map-range_with_len, get_or-map-range_with_len, map-range_with_len_more}
use Rattle.bidegree.specs.declared.range.TheConstants.{MAX_S}
use Rattle.f2_vec.specs.Vectors.{zeros}
use Rattle.f2_vec.specs.Spans.{row, HaveWidth}
use Rattle.f2_vec.proofs.Sums.{length-zeros}
use Rattle.free_module.specs.FreeModule.{free_width}
use Rattle.free_module.specs.LinearMap.{AreImages}
use Rattle.resolution_laws.specs.Resolution.{Module, Content, no_content, degrees_from, images_of, row_of, square_in}
use Rattle.resolution_laws.proofs.Rows.{images_of-push}
use Rattle.resolution_laws.proofs.Generators.{AreImages-row}
use Rattle.resolution_images.specs.BareRows.{BareRow, bare_row_in, squares_of}
use Rattle.resolution_images.proofs.Contents.{length-row}
use Rattle.chart_rows.specs.Standing.{target_below, new_below, whole_images, whole_square, whole_row, AreCharted}
use Rattle.chart_rows.proofs.Widths.{width_at, degrees_by_count}

pub length-whole_row : (squares : List (List Content)) (s n k : ℕ) → length (whole_row squares s n k) ≡ k
length-whole_row squares s n k = length-map-range_with_len (whole_square squares s n) 0 k

pub square-whole_row : (squares : List (List Content)) (s n k j : ℕ) → j < k → square_in (whole_row squares s n k) j ≡ whole_square squares s n j
square-whole_row squares s n k j l = get_or-map-range_with_len (whole_square squares s n) 0 k j j no_content l (omega arith)

-- they are as many as there were
pub degrees-whole_row : (b : ℤ) (squares : List (List Content)) (s n k : ℕ) → k ≤ length (row_of squares s) → degrees_from b (whole_row squares s n k) ≡ degrees_from b (take k (row_of squares s))
degrees-whole_row b squares s n k l =
    let xs = whole_row squares s n k in
    let ys = take k (row_of squares s) in
    let many : (c : Content) → ℕ = λ c. length c.images in
    let len : length ys ≡ k = length-take-le k (row_of squares s) l in
    let long = length-whole_row squares s n k in
    degrees_by_count b xs ys (ext_get_or 0 (map many xs) (map many ys) (length-map xs many ∙ long ∙ sym (length-map ys many ∙ len))
    (λ j c.
    let within : j < k = omega (arith, length-map xs many) in
    let left : get_or (map many xs) j 0 ≡ length (square_in xs j).images = get_or-map many xs j no_content 0 (omega arith) in
    let right : get_or (map many ys) j 0 ≡ length (square_in ys j).images = get_or-map many ys j no_content 0 (omega arith) in
    let old = (square_in (row_of squares s) j).images in
    let pad : (v : List Bool) → List Bool = λ v. v ++ zeros (new_below squares s n j) in
    left ∙ ap many (square-whole_row squares s n k j within) ∙ length-map old pad ∙ sym (right ∙ ap many (get_or-take k (row_of squares s) j no_content within))))

-- vectors with zeros behind them
wider : (n w : ℕ) (vectors : List (List Bool)) → HaveWidth n vectors → HaveWidth (n + w) (map (λ v. v ++ zeros w) vectors)
wider n w vectors h i l =
    let pad : (v : List Bool) → List Bool = λ v. v ++ zeros w in
    let b : i < length vectors = omega (arith, length-map vectors pad) in
    ap length (get_or-map pad vectors i [] [] b) ∙ length-append (row vectors i) (zeros w) ∙ ap (λ x. x + length (zeros w)) (h i b) ∙ ap (λ x. n + x) (length-zeros w)

-- such images of the square j are vectors of the free module on the first n squares of the row below
width_whole : (m : Module) (squares : List (List Content)) (s n j : ℕ) → j ≤ n → (target_below m squares s n).width (m.bottom +ℤ pos j) ≡ (target_below m squares s j).width (m.bottom +ℤ pos j) + new_below squares s n j
width_whole m squares zero n j l = omega arith
width_whole m squares (suc i) n j l =
    let below = row_of squares i in
    let first : take j (take n below) ≡ take j below = take-take j n below l in
    width_at m.bottom (take n below) j ∙ ap (λ (z : List Content). free_width (degrees_from m.bottom z) (m.bottom +ℤ pos j) + length (square_in (take n below) j).images) first

pub whole_widths : (m : Module) (squares : List (List Content)) (s n j : ℕ) → j ≤ n → HaveWidth ((target_below m squares s j).width (m.bottom +ℤ pos j)) (square_in (row_of squares s) j).images → HaveWidth ((target_below m squares s n).width (m.bottom +ℤ pos j)) (whole_images squares s n j)
whole_widths m squares s n j l h =
    subst (λ (x : ℕ). HaveWidth x (whole_images squares s n j)) (sym (width_whole m squares s n j l))
    (wider ((target_below m squares s j).width (m.bottom +ℤ pos j)) (new_below squares s n j) (square_in (row_of squares s) j).images h)

-- so the first k squares of a row with such images are a map to it
pub whole_are_images : (m : Module) (rows : List BareRow) (s n k : ℕ) → AreCharted m rows → s ≤ MAX_S → k ≤ length (bare_row_in rows s).counts → k ≤ n + 1 → AreImages (target_below m (squares_of rows) s n) (degrees_from m.bottom (take k (row_of (squares_of rows) s))) (images_of (whole_row (squares_of rows) s n k))
whole_are_images m rows s n k h low l few =
    let squares = squares_of rows in
    let here = whole_row squares s n k in
    let target = target_below m squares s n in
    let len = length-whole_row squares s n k in
    let all : AreImages target (degrees_from m.bottom here) (images_of here) = AreImages-row target m.bottom here (λ j c.
    let within : j < k = omega arith in
    subst (λ (x : Content). HaveWidth (target.width (m.bottom +ℤ pos j)) x.images) (sym (square-whole_row squares s n k j within))
    (whole_widths m squares s n j (omega arith) (h.widths s j low (omega arith)))) in
    subst (λ (ds : List ℤ). AreImages target ds (images_of here)) (degrees-whole_row m.bottom squares s n k (omega (arith, length-row rows s))) all

-- one square more
pub whole_more : (squares : List (List Content)) (s n j count : ℕ) (old image new : List (List Bool)) → old ≡ images_of (whole_row squares s n j) → count ≡ new_below squares s n j → image ≡ (square_in (row_of squares s) j).images → new ≡ old ++ map (λ v. v ++ zeros count) image → new ≡ images_of (whole_row squares s n (j + 1))
whole_more squares s n j count old image new before many is put =
    let first = whole_row squares s n j in
    let more : whole_row squares s n (j + 1) ≡ first ++ whole_square squares s n j ∷ [] = map-range_with_len_more (whole_square squares s n) 0 j j (omega arith) in
    put ∙ ap (λ (z : List (List Bool)). z ++ map (λ v. v ++ zeros count) image) before
    ∙ ap (λ c. images_of first ++ map (λ (v : List Bool). v ++ zeros c) image) many
    ∙ ap (λ (z : List (List Bool)). images_of first ++ map (λ v. v ++ zeros (new_below squares s n j)) z) is
    ∙ sym (ap images_of more ∙ images_of-push first (whole_square squares s n j))
