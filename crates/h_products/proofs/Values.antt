-- The coefficients at one place of the images of a square, on its generators.
use Rattle.std.proofs.Common.{◌≡◌, ℕ, suc, ◌+◌, ◌<◌, ◌≤◌, ℤ, pos, ◌+ℤ◌, Bool, false, List, [], ◌∷◌, ◌++◌, length, map, take, drop, replicate, refl, ap, sym, subst, ◌∙◌, arith}
use Rattle.std.specs.List.{range_with_len}
use Rattle.std.proofs.lemmas.List.{drop_more, ext_get_or, get_or-append-add, get_or-map, get_or_append_left, length-map}
use Rattle.std.proofs.lemmas.List.FromFn.{length-map-range_with_len, get_or-map-range_with_len}
use Rattle.f2_vec.specs.Vectors.{bit}
use Rattle.f2_vec.specs.Spans.{row}
use Rattle.free_module.specs.FreeModule.{free_width}
use Rattle.resolution_laws.specs.Resolution.{Content, no_content, square_in, images_of, row_of}
use Rattle.resolution_laws.proofs.Generators.{images_of-split}
use Rattle.lift_laws.specs.Lifts.{Resolution, degree, gens, image}
use Rattle.lift_laws.specs.Products.{first_of, count_of, on_square}
use Rattle.lift_laws.proofs.Coefficients.{is_new}
use Rattle.h_laws.specs.Products.{first_on}
use Rattle.h_products.specs.ReadOff.{first_degrees}
use Rattle.h_products.proofs.Generators.{taken}

-- the images of a square are those of its generators
image_of_square : (r : Resolution) (s k j : ℕ) → k < length (row_of r.table s) → j < count_of r s k → image r s (first_of r s k + j) ≡ row (square_in (row_of r.table s) k).images j
image_of_square r s k j there l =
    let squares = row_of r.table s in
    let c = square_in squares k in
    let front = images_of (take k squares) in
    let back = images_of (drop (k + 1) squares) in
    let parts : images_of squares ≡ front ++ (c.images ++ back) = images_of-split squares k ∙ ap (λ (z : List Content). front ++ images_of z) (drop_more squares k no_content there) in
    ap (λ (z : List (List Bool)). row z (first_of r s k + j)) parts ∙ (get_or-append-add front (c.images ++ back) j [] ∙ get_or_append_left c.images back [] j l)

-- those of the coefficient behind the first generators of the row below
pub behind : (r : Resolution) (n s above i : ℕ) → above < length (row_of r.table s) → n + above < length (row_of r.table (s + 1)) → i < count_of r s above → map (λ w. bit w (free_width (first_degrees r s above i) (r.base.bottom +ℤ pos (n + above)))) (square_in (row_of r.table (s + 1)) (n + above)).images ≡ on_square r (s + 1) (n + above) (first_on r s (first_of r s above + i))
behind r n s above i here there l =
    let k = n + above in
    let m = first_of r s above + i in
    let next : s + 1 ≡ suc s = omega arith in
    let images = (square_in (row_of r.table (s + 1)) k).images in
    let count = count_of r (s + 1) k in
    let first = first_of r (s + 1) k in
    let read : List Bool → Bool = λ w. bit w (free_width (first_degrees r s above i) (r.base.bottom +ℤ pos k)) in
    let told : ℕ → Bool = λ j. first_on r s m (first + j) in
    ext_get_or false (map read images) (map told (range_with_len 0 count)) (length-map images read ∙ sym (length-map-range_with_len told 0 count)) (λ j b.
    let inside : j < count = omega (arith, length-map images read) in
    let new = is_new r (s + 1) k there j inside in
    let degree_is : degree r (suc s) (first + j) ≡ r.base.bottom +ℤ pos k = subst (λ (z : ℕ). degree r z (first + j) ≡ r.base.bottom +ℤ pos k) next new.degree_is in
    let image_is : image r (suc s) (first + j) ≡ row images j = subst (λ (z : ℕ). image r z (first + j) ≡ row images j) next (image_of_square r (s + 1) k j there inside) in
    get_or-map read images j [] false inside
    ∙ (ap (λ (gs : List ℤ). bit (row images j) (free_width gs (r.base.bottom +ℤ pos k))) (taken r s above here i (omega arith))
    ∙ (ap (λ (t : ℤ). bit (row images j) (free_width (take m (gens r s)) t)) (sym degree_is)
    ∙ (ap (λ (w : List Bool). bit w (free_width (take m (gens r s)) (degree r (suc s) (first + j)))) (sym image_is)
    ∙ sym (get_or-map-range_with_len told 0 count j j false inside (omega arith))))))
