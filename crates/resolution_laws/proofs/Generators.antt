-- The generators of a row, each with its square, and the matrices of d_s in the degrees where not all of them count.
use Rattle.std.proofs.Common.{◌≡◌, inl, inr, ℕ, zero, suc, ◌-◌, ◌<◌, Bool, ℤ, pos, ◌+ℤ◌, ◌<ℤ◌, List, [], ◌∷◌, ◌++◌, ◌&&◌, nat_eq, length, map, take, drop, replicate, refl, sym, ◌∙◌, ap, arith}
use Rattle.std.proofs.lemmas.Int.{ints}
use Rattle.std.proofs.lemmas.Bool.{cases_lt}
use Rattle.std.proofs.lemmas.List.{append_assoc, get_or_append_left, get_or-append_right, get_or-replicate, length-append, length-replicate}
use Rattle.std.proofs.lemmas.Option.{slice_get-get_or}
use Rattle.f2_vec.specs.Spans.{row, HaveWidth, combination}
use Rattle.f2_vec.proofs.Combinations.{map_same_all}
use Rattle.milnor_basis.specs.Exponents.{degree_of}
use Rattle.milnor_basis.specs.Product.{coefficient}
use Rattle.free_module.specs.FreeModule.{free_basis, free_width, free_action, degree_at}
use Rattle.free_module.specs.FreeBasis.{IsOfDegree, element}
use Rattle.free_module.specs.Graded.{GradedModule, free_graded}
use Rattle.free_module.specs.LinearMap.{AreImages, image_of, map_rows}
use Rattle.free_module.proofs.FreeBasis.{read-IsOfDegree, All-free_basis}
use Rattle.resolution_laws.specs.Resolution.{Content, square_in, degrees_from, images_of}
use Rattle.resolution_laws.proofs.Rows.{degrees_from-split, free_basis-take}

-- generator g of a row from degree b on is number h of square k
pub record IsGenerator (b : ℤ) (squares : List Content) (g : ℕ) : Type 0 where
  pub k : ℕ
  pub h : ℕ
  pub square : k < length squares
  pub within : h < length (square_in squares k).images
  pub degree : degree_at (degrees_from b squares) g ≡ b +ℤ pos k
  pub image : row (images_of squares) g ≡ row (square_in squares k).images h

pub generator_at : (b : ℤ) (squares : List Content) (g : ℕ) → g < length (degrees_from b squares) → IsGenerator b squares g
generator_at b [] g l = absurd (omega arith)
generator_at b (x ∷ squares) g l =
    let n = length x.images in
    let here = replicate n b in
    let rest = degrees_from (b +ℤ pos 1) squares in
    let len : length here ≡ n = length-replicate n b in
    let whole = length-append here rest in
    elim (cases_lt g n) [
      | inl m ↦
          let e : b ≡ b +ℤ pos 0 = omega (arith, ints) in
          record {
            k = 0;
            h = g;
            square = omega arith;
            within = m;
            degree = get_or_append_left here rest (pos 0) g (omega arith) ∙ (get_or-replicate n g b (pos 0) m ∙ e);
            image = get_or_append_left x.images (images_of squares) [] g m;
          }
      | inr m ↦
          let p = generator_at (b +ℤ pos 1) squares (g - n) (omega arith) in
          let e : (b +ℤ pos 1) +ℤ pos p.k ≡ b +ℤ pos (suc p.k) = omega (arith, ints) in
          let s = p.square in
          record {
            k = suc p.k;
            h = p.h;
            square = omega arith;
            within = p.within;
            degree = get_or-append_right here rest n g (pos 0) len m ∙ (p.degree ∙ e);
            image = get_or-append_right x.images (images_of squares) n g [] refl m ∙ p.image;
          }
    ]

pub length-images_of : (b : ℤ) (squares : List Content) → length (images_of squares) ≡ length (degrees_from b squares)
length-images_of b [] = refl
length-images_of b (x ∷ squares) =
    let ih = length-images_of (b +ℤ pos 1) squares in
    length-append x.images (images_of squares) ∙ (omega (arith, length-replicate (length x.images) b) ∙ sym (length-append (replicate (length x.images) b) (degrees_from (b +ℤ pos 1) squares)))

-- where each square's images fit the target, so do those of the row
pub AreImages-row : (target : GradedModule) (b : ℤ) (squares : List Content) → ((k : ℕ) → k < length squares → HaveWidth (target.width (b +ℤ pos k)) (square_in squares k).images) → AreImages target (degrees_from b squares) (images_of squares)
AreImages-row target b squares w = record {
  one_each = length-images_of b squares;
  widths = λ g l.
      let p = generator_at b squares g l in
      ap length p.image ∙ (w p.k p.square p.h p.within ∙ ap target.width (sym p.degree));
}

pub images_of-split : (squares : List Content) (n : ℕ) → images_of squares ≡ images_of (take n squares) ++ images_of (drop n squares)
images_of-split squares zero = refl
images_of-split [] (suc n) = refl
images_of-split (x ∷ squares) (suc n) =
    ap (λ (z : List (List Bool)). x.images ++ z) (images_of-split squares n) ∙ sym (append_assoc x.images (images_of (take n squares)) (images_of (drop n squares)))

-- in the degrees below that of square n, the generators of the squares from it on add no row to the matrix
pub map_rows-take : (target : GradedModule) (b : ℤ) (squares : List Content) (n : ℕ) (t : ℤ) → t <ℤ (b +ℤ pos n) → map_rows target (degrees_from b squares) (images_of squares) t ≡ map_rows target (degrees_from b (take n squares)) (images_of (take n squares)) t
map_rows-take target b squares n t h =
    let ds = degrees_from b (take n squares) in
    let vs = images_of (take n squares) in
    let f = image_of target (degrees_from b squares) (images_of squares) in
    let len = length-images_of b (take n squares) in
    ap (map f) (free_basis-take b squares n t h) ∙ map_same_all (IsOfDegree ds t) f (image_of target ds vs) (free_basis ds t) (All-free_basis ds t) (λ e o.
    let l = o.generator in
    let degree : degree_at (degrees_from b squares) e.0 ≡ degree_at ds e.0 = ap (λ (z : List ℤ). degree_at z e.0) (degrees_from-split b squares n) ∙ get_or_append_left ds (degrees_from (b +ℤ pos n) (drop n squares)) (pos 0) e.0 l in
    let image : row (images_of squares) e.0 ≡ row vs e.0 = ap (λ (z : List (List Bool)). row z e.0) (images_of-split squares n) ∙ get_or_append_left vs (images_of (drop n squares)) [] e.0 (omega arith) in
    cc)

-- two modules of one dimension in degree t, to which each Sq(R) goes in one way
pub record AgreeIn (t : ℤ) (x y : GradedModule) : Type 0 where
  pub width : x.width t ≡ y.width t
  pub action : (r : List ℕ) (d : ℤ) (v : List Bool) → d +ℤ pos (degree_of r) ≡ t → x.action r d v ≡ y.action r d v

free_action_same : (ds es : List ℤ) (r : List ℕ) (t u : ℤ) (v : List Bool) → t +ℤ pos (degree_of r) ≡ u → free_basis ds t ≡ free_basis es t → free_basis ds u ≡ free_basis es u → free_action ds r t v ≡ free_action es r t v
free_action_same ds es r t u v e p q =
    let above : free_basis ds (t +ℤ pos (degree_of r)) ≡ free_basis es (t +ℤ pos (degree_of r)) = ap (free_basis ds) e ∙ (q ∙ ap (free_basis es) (sym e)) in
    let row_at : List (ℕ × List ℕ) → ℕ × List ℕ → List Bool = λ z e. map (λ f. nat_eq f.0 e.0 && coefficient r e.1 f.1) z in
    ap (λ (z : List (ℕ × List ℕ)). combination (length z) v (map (row_at z) (free_basis ds t))) above ∙ ap (λ (z : List (ℕ × List ℕ)). combination (free_width es (t +ℤ pos (degree_of r))) v (map (row_at (free_basis es (t +ℤ pos (degree_of r)))) z)) p

-- so do the free modules on a row and on its first squares, in degrees below those of the others
pub AgreeIn-take : (b : ℤ) (squares : List Content) (n : ℕ) (t : ℤ) → t <ℤ (b +ℤ pos n) → AgreeIn t (free_graded (degrees_from b (take n squares))) (free_graded (degrees_from b squares))
AgreeIn-take b squares n t h = record {
  width = ap length (sym (free_basis-take b squares n t h));
  action = λ r d v e. free_action_same (degrees_from b (take n squares)) (degrees_from b squares) r d t v e (sym (free_basis-take b squares n d (omega (arith, ints)))) (sym (free_basis-take b squares n t h));
}

pub element-IsOfDegree : (ds : List ℤ) (t : ℤ) (i : ℕ) → i < length (free_basis ds t) → IsOfDegree ds t (element (free_basis ds t) i)
element-IsOfDegree ds t i l = read-IsOfDegree ds t i (element (free_basis ds t) i) (slice_get-get_or (free_basis ds t) i (0, []) l)

pub map_rows-agree : (t : ℤ) (x y : GradedModule) (ds : List ℤ) (images : List (List Bool)) → AgreeIn t x y → map_rows x ds images t ≡ map_rows y ds images t
map_rows-agree t x y ds images a =
    map_same_all (IsOfDegree ds t) (image_of x ds images) (image_of y ds images) (free_basis ds t) (All-free_basis ds t) (λ e o. a.action e.1 (degree_at ds e.0) (row images e.0) o.degree)
