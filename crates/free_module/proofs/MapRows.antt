-- The rows of a linear map, generator by generator, and their widths.
use Rattle.std.proofs.Common.{◌≡◌, ℕ, zero, suc, ◌+◌, ◌-◌, ◌<◌, ◌≤◌, Bool, true, false, cond, Some, slice_get, List, [], ◌∷◌, ◌++◌, length, map, take, drop, get_or, ℤ, pos, ◌-ℤ◌, refl, ap, sym, ◌∙◌, arith}
use Rattle.std.proofs.lemmas.List.{append_assoc, append-nil, drop_more, drop_all, take_all, get_or-map, length-map, map-append}
use Rattle.std.proofs.lemmas.Option.{slice_get_within, get_or_from_slice_get}
use Rattle.f2_vec.specs.Vectors.{bit, sum_of, IsZeroFrom, IsNextOne}
use Rattle.f2_vec.specs.Spans.{row, HaveWidth, combination}
use Rattle.f2_vec.proofs.Spans.{length-combination}
use Rattle.f2_vec.proofs.Combinations.{map-map, HaveWidth-take, HaveWidth-map_where, combination_more}
use Rattle.milnor_basis.specs.Exponents.{degree_of}
use Rattle.milnor_product.proofs.Multiples.{degree_of-basis_at}
use Rattle.free_module.specs.Inside.FreeLaws.{on}
use Rattle.milnor_product.specs.Times.{basis_at}
use Rattle.free_module.specs.FreeModule.{free_basis_from, free_basis, free_width, degree_at}
use Rattle.free_module.specs.FreeBasis.{IsOfDegree}
use Rattle.free_module.specs.Graded.{GradedModule, KeepsWidths}
use Rattle.free_module.specs.LinearMap.{AreImages, image_of, map_rows, mapped}
use Rattle.free_module.proofs.FreeBasis.{All-free_basis}

pub degree_of-element : (xs : List (List ℕ)) (n : ℤ) (i : ℕ) → xs ≡ basis_at n → i < length xs → pos (degree_of (get_or xs i [])) ≡ n
degree_of-element xs n i e h =
    let l : i < length (basis_at n) = omega (arith, ap length e) in
    ap (λ ys. pos (degree_of (get_or ys i []))) e ∙ degree_of-basis_at n i l

-- the same rows, in other words
pub same_block : (act : List ℕ → ℤ → List Bool → List Bool) (d e : ℤ) (v w : List Bool) (xs ys : List (List ℕ)) → d ≡ e → v ≡ w → xs ≡ ys → map (λ s. act s d v) xs ≡ map (λ s. act s e w) ys
same_block act d e v w xs ys p q r =
    ap (λ z. map (λ s. act s z v) xs) p ∙ ap (λ z. map (λ s. act s e z) xs) q ∙ ap (map (λ s. act s e w)) r

pub map_rows-more : (target : GradedModule) (degrees : List ℤ) (images : List (List Bool)) (t : ℤ) (g : ℕ) (rows : List (List Bool)) → g < length degrees → rows ++ map (image_of target degrees images) (free_basis_from g (drop g degrees) t) ≡ (rows ++ map (λ s. target.action s (degree_at degrees g) (row images g)) (basis_at (t -ℤ degree_at degrees g))) ++ map (image_of target degrees images) (free_basis_from (g + 1) (drop (g + 1) degrees) t)
map_rows-more target degrees images t g rows h =
    let f = image_of target degrees images in
    let d = degree_at degrees g in
    let b = basis_at (t -ℤ d) in
    let rest = drop (g + 1) degrees in
    let e : drop g degrees ≡ d ∷ rest = drop_more degrees g (pos 0) h in
    let n : suc g ≡ g + 1 = omega arith in
    let one : map f (on g b) ≡ map (λ s. target.action s d (row images g)) b = map-map f (λ x. (g, x)) b in
    let two : map f (free_basis_from g (d ∷ rest) t) ≡ map (λ s. target.action s d (row images g)) b ++ map f (free_basis_from (suc g) rest t) = map-append f (on g b) (free_basis_from (suc g) rest t) ∙ ap (λ xs. xs ++ map f (free_basis_from (suc g) rest t)) one in
    ap (λ xs. rows ++ map f (free_basis_from g xs t)) e ∙ ap (λ xs. rows ++ xs) two ∙ ap (λ k. rows ++ (map (λ s. target.action s d (row images g)) b ++ map f (free_basis_from k rest t))) n ∙ sym (append_assoc rows (map (λ s. target.action s d (row images g)) b) (map f (free_basis_from (g + 1) rest t)))

pub map_rows-done : (target : GradedModule) (degrees : List ℤ) (images : List (List Bool)) (t : ℤ) (g : ℕ) (rows : List (List Bool)) → length degrees ≤ g → rows ++ map (image_of target degrees images) (free_basis_from g (drop g degrees) t) ≡ rows
map_rows-done target degrees images t g rows h =
    ap (λ xs. rows ++ map (image_of target degrees images) (free_basis_from g xs t)) (drop_all g degrees h) ∙ append-nil rows

pub HaveWidth-map_rows : (target : GradedModule) (degrees : List ℤ) (images : List (List Bool)) (t : ℤ) → KeepsWidths target → AreImages target degrees images → HaveWidth (target.width t) (map_rows target degrees images t)
HaveWidth-map_rows target degrees images t keeps fit =
    let image = image_of target degrees images in
    HaveWidth-map_where (IsOfDegree degrees t) (target.width t) image (free_basis degrees t)
    (λ e o. keeps e.1 (degree_at degrees e.0) (row images e.0) (fit.widths e.0 o.generator) ∙ ap target.width o.degree)
    (All-free_basis degrees t)

-- the row of a basis element
pub row-map_rows : (target : GradedModule) (degrees : List ℤ) (images : List (List Bool)) (t : ℤ) (i : ℕ) (e : ℕ × List ℕ) → slice_get (free_basis degrees t) i ≡ Some e → row (map_rows target degrees images t) i ≡ image_of target degrees images e
row-map_rows target degrees images t i e h =
    let f = image_of target degrees images in
    let basis = free_basis degrees t in
    get_or-map f basis i e [] (slice_get_within basis i e h) ∙ ap f (get_or_from_slice_get basis i e e h)

-- the map on the first i coordinates of v
abbrev pub mapped_through : GradedModule → List ℤ → List (List Bool) → ℤ → List Bool → ℕ → List Bool
mapped_through target degrees images t v i = combination (target.width t) (take i v) (take i (map_rows target degrees images t))

length-mapped_through : (target : GradedModule) (degrees : List ℤ) (images : List (List Bool)) (t : ℤ) (v : List Bool) (i : ℕ) → KeepsWidths target → AreImages target degrees images → length (mapped_through target degrees images t v i) ≡ target.width t
length-mapped_through target degrees images t v i keeps are =
    let rows = map_rows target degrees images t in
    length-combination (target.width t) (take i v) (take i rows) (HaveWidth-take (target.width t) i rows (HaveWidth-map_rows target degrees images t keeps are))

mapped_through-more : (target : GradedModule) (degrees : List ℤ) (images : List (List Bool)) (t : ℤ) (v : List Bool) (i : ℕ) → KeepsWidths target → AreImages target degrees images → length v ≡ free_width degrees t → i < length v → mapped_through target degrees images t v (i + 1) ≡ cond (bit v i) (sum_of (mapped_through target degrees images t v i) (row (map_rows target degrees images t) i)) (mapped_through target degrees images t v i)
mapped_through-more target degrees images t v i keeps are e l =
    let m : i < length (map_rows target degrees images t) = omega (arith, length-map (free_basis degrees t) (image_of target degrees images)) in
    combination_more (target.width t) i v (map_rows target degrees images t) (HaveWidth-map_rows target degrees images t keeps are) l m

-- one coordinate more: a one adds its row, a zero adds nothing
pub mapped_through-one : (target : GradedModule) (degrees : List ℤ) (images : List (List Bool)) (t : ℤ) (v : List Bool) (i : ℕ) (sum image : List Bool) → KeepsWidths target → AreImages target degrees images → length v ≡ free_width degrees t → i < length v → bit v i ≡ true → sum ≡ mapped_through target degrees images t v i → image ≡ row (map_rows target degrees images t) i → sum_of sum image ≡ mapped_through target degrees images t v (i + 1)
mapped_through-one target degrees images t v i sum image keeps are e l b s r = cc (mapped_through-more target degrees images t v i keeps are e l)

pub mapped_through-zero : (target : GradedModule) (degrees : List ℤ) (images : List (List Bool)) (t : ℤ) (v : List Bool) (i : ℕ) (sum : List Bool) → KeepsWidths target → AreImages target degrees images → length v ≡ free_width degrees t → i < length v → bit v i ≡ false → sum ≡ mapped_through target degrees images t v i → sum ≡ mapped_through target degrees images t v (i + 1)
mapped_through-zero target degrees images t v i sum keeps are e l b s = cc (mapped_through-more target degrees images t v i keeps are e l)

-- the sum so far and the image of a basis element are of one length
pub mapped_through-row : (target : GradedModule) (degrees : List ℤ) (images : List (List Bool)) (t : ℤ) (v : List Bool) (i : ℕ) (sum image : List Bool) → KeepsWidths target → AreImages target degrees images → i < free_width degrees t → sum ≡ mapped_through target degrees images t v i → image ≡ row (map_rows target degrees images t) i → length sum ≡ length image
mapped_through-row target degrees images t v i sum image keeps are h s r =
    let l : i < length (map_rows target degrees images t) = omega (arith, length-map (free_basis degrees t) (image_of target degrees images)) in
    ap length s ∙ length-mapped_through target degrees images t v i keeps are ∙ sym (HaveWidth-map_rows target degrees images t keeps are i l) ∙ sym (ap length r)

pub mapped_through-all : (target : GradedModule) (degrees : List ℤ) (images : List (List Bool)) (t : ℤ) (v : List Bool) (i : ℕ) → length v ≡ free_width degrees t → length v ≤ i → mapped_through target degrees images t v i ≡ mapped target degrees images t v
mapped_through-all target degrees images t v i e l =
    let rows = map_rows target degrees images t in
    let m : length rows ≤ i = omega (arith, length-map (free_basis degrees t) (image_of target degrees images)) in
    ap (λ c. combination (target.width t) c (take i rows)) (take_all i v l) ∙ ap (combination (target.width t) v) (take_all i rows m)

-- zeros add nothing
mapped_through-zeros : (target : GradedModule) (degrees : List ℤ) (images : List (List Bool)) (t : ℤ) (v : List Bool) (i d : ℕ) → KeepsWidths target → AreImages target degrees images → length v ≡ free_width degrees t → i + d ≤ length v → ((k : ℕ) → i ≤ k → k < i + d → bit v k ≡ false) → mapped_through target degrees images t v i ≡ mapped_through target degrees images t v (i + d)
mapped_through-zeros target degrees images t v i zero keeps are e l h = let z : i ≡ i + 0 = omega arith in ap (mapped_through target degrees images t v) z
mapped_through-zeros target degrees images t v i (suc d) keeps are e l h =
    let z : (i + d) + 1 ≡ i + suc d = omega arith in
    mapped_through-zeros target degrees images t v i d keeps are e (omega arith) (λ k f g. h k f (omega arith))
    ∙ mapped_through-zero target degrees images t v (i + d) (mapped_through target degrees images t v (i + d)) keeps are e (omega arith) (h (i + d) (omega arith) (omega arith)) refl
    ∙ ap (mapped_through target degrees images t v) z

-- the next 1 adds its row
pub mapped_through-over : (target : GradedModule) (degrees : List ℤ) (images : List (List Bool)) (t : ℤ) (v : List Bool) (i p : ℕ) (sum : List Bool) → KeepsWidths target → AreImages target degrees images → length v ≡ free_width degrees t → p < length v → IsNextOne v i p → sum ≡ mapped_through target degrees images t v i → sum ≡ mapped_through target degrees images t v p
mapped_through-over target degrees images t v i p sum keeps are e l next s =
    let reached = next.reached in
    let z : i + (p - i) ≡ p = omega arith in
    s ∙ mapped_through-zeros target degrees images t v i (p - i) keeps are e (omega arith) (λ k f g. next.zeros_between k f (omega arith)) ∙ ap (mapped_through target degrees images t v) z

pub mapped_through-end : (target : GradedModule) (degrees : List ℤ) (images : List (List Bool)) (t : ℤ) (v : List Bool) (i : ℕ) (sum : List Bool) → KeepsWidths target → AreImages target degrees images → length v ≡ free_width degrees t → i ≤ length v → IsZeroFrom v i → sum ≡ mapped_through target degrees images t v i → sum ≡ mapped target degrees images t v
mapped_through-end target degrees images t v i sum keeps are e l none s =
    let n = i + (length v - i) in
    s ∙ mapped_through-zeros target degrees images t v i (length v - i) keeps are e (omega arith) (λ k f g. none k f) ∙ mapped_through-all target degrees images t v n e (omega arith)
