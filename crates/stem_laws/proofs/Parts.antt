-- A graded module as part of another: a free module is part of the one on further generators, whose elements stand behind.
use Rattle.std.proofs.Common.{◌≡◌, inl, inr, ℕ, suc, ◌+◌, ◌-◌, ◌<◌, Bool, false, ◌&&◌, nat_eq, ℤ, pos, ◌+ℤ◌, ◌-ℤ◌, List, [], ◌∷◌, ◌++◌, length, map, replicate, refl, sym, ◌∙◌, ap, arith}
use Rattle.std.proofs.lemmas.Int.{ints}
use Rattle.std.proofs.lemmas.Bool.{cases_lt, ne_eqb}
use Rattle.std.proofs.lemmas.List.{append-nil, map-append, get_or_append_left, get_or-append_right, get_or-replicate, length-append, length-map, length-replicate}
use Rattle.f2_vec.specs.Vectors.{zeros, sum_of}
use Rattle.f2_vec.specs.Spans.{row, HaveWidth, combination}
use Rattle.f2_vec.proofs.Sums.{sum_of-zeros_right}
use Rattle.f2_vec.proofs.Spans.{length-combination, combination-zeros, combination-append}
use Rattle.f2_vec.proofs.Split.{zeros-append}
use Rattle.f2_vec.proofs.Combinations.{map-map, map_same_all, HaveWidth-map, combination-padded_right}
use Rattle.milnor_basis.specs.Exponents.{degree_of}
use Rattle.milnor_basis.specs.Product.{coefficient}
use Rattle.milnor_product.specs.Times.{basis_at}
use Rattle.free_module.specs.FreeModule.{free_basis_from, free_basis, free_width, acted, degree_at}
use Rattle.free_module.specs.FreeBasis.{IsOfDegree}
use Rattle.free_module.specs.Graded.{GradedModule, free_graded}
use Rattle.free_module.specs.LinearMap.{AreImages, image_of, map_rows}
use Rattle.free_module.proofs.FreeBasis.{All-free_basis, free_basis_from-append}
use Rattle.resolution_laws.specs.Resolution.{Content, square_in, degrees_from, images_of}
use Rattle.stem_laws.proofs.Padded.{padded, row-padded, HaveWidth-padded}

-- vectors of x are, with zeros behind them, vectors of y, and operations act on them as in y
pub record IsPart (x y : GradedModule) (w : ℤ → ℕ) : Type 0 where
  pub width : (t : ℤ) → y.width t ≡ x.width t + w t
  pub action : (r : List ℕ) (t : ℤ) (v : List Bool) → length v ≡ x.width t → y.action r t (padded (w t) v) ≡ padded (w (t +ℤ pos (degree_of r))) (x.action r t v)

pub whole-IsPart : (x : GradedModule) → IsPart x x (λ t. 0)
whole-IsPart x = record {
  width = λ t. omega arith;
  action = λ r t v e. ap (x.action r t) (append-nil v) ∙ sym (append-nil (x.action r t v));
}

-- ---- free modules

-- how many elements of degree t are on generators behind these
abbrev pub behind : List ℤ → List ℤ → ℤ → ℕ
behind ds later t = length (free_basis_from (length ds) later t)

free_basis-split : (ds later : List ℤ) (t : ℤ) → free_basis (ds ++ later) t ≡ free_basis ds t ++ free_basis_from (length ds) later t
free_basis-split ds later t =
    let start : 0 + length ds ≡ length ds = omega arith in
    free_basis_from-append 0 ds later t ∙ ap (λ (k : ℕ). free_basis ds t ++ free_basis_from k later t) start

-- an operation takes an element on generator a to none on a later one
abbrev has : List ℕ → ℕ × List ℕ → ℕ × List ℕ → Bool
has r e f = nat_eq f.0 e.0 && coefficient r e.1 f.1

none_on : (r : List ℕ) (e : ℕ × List ℕ) (g : ℕ) (bs : List (List ℕ)) → e.0 < g → map (has r e) (map (λ s. (g, s)) bs) ≡ zeros (length bs)
none_on r e g [] l = refl
none_on r e g (b ∷ bs) l =
    let other : nat_eq g e.0 ≡ false = ne_eqb g e.0 (λ q. omega arith) in
    ap (λ (x : Bool). (x && coefficient r e.1 b) ∷ map (has r e) (map (λ s. (g, s)) bs)) other ∙ ap (λ (z : List Bool). false ∷ z) (none_on r e g bs l)

none_behind : (r : List ℕ) (e : ℕ × List ℕ) (g : ℕ) (later : List ℤ) (t : ℤ) → e.0 < g → map (has r e) (free_basis_from g later t) ≡ zeros (length (free_basis_from g later t))
none_behind r e g [] t l = refl
none_behind r e g (d ∷ later) t l =
    let bs = basis_at (t -ℤ d) in
    let here : List (ℕ × List ℕ) = map (λ s. (g, s)) bs in
    let rest = free_basis_from (suc g) later t in
    let first : map (has r e) here ≡ zeros (length here) = none_on r e g bs l ∙ ap zeros (sym (length-map {B = ℕ × List ℕ} bs (λ s. (g, s)))) in
    map-append (has r e) here rest
    ∙ (ap (λ (z : List Bool). z ++ map (has r e) rest) first
    ∙ (ap (λ (z : List Bool). zeros (length here) ++ z) (none_behind r e (suc g) later t (omega arith))
    ∙ sym (ap zeros (length-append here rest) ∙ zeros-append (length here) (length rest))))

acted-padded : (ds later : List ℤ) (r : List ℕ) (t : ℤ) (e : ℕ × List ℕ) → e.0 < length ds → acted (ds ++ later) r t e ≡ padded (behind ds later t) (acted ds r t e)
acted-padded ds later r t e l =
    let back = free_basis_from (length ds) later t in
    ap (map (has r e)) (free_basis-split ds later t)
    ∙ (map-append (has r e) (free_basis ds t) back ∙ ap (λ (z : List Bool). acted ds r t e ++ z) (none_behind r e (length ds) later t l))

pub free-IsPart : (ds later : List ℤ) → IsPart (free_graded ds) (free_graded (ds ++ later)) (behind ds later)
free-IsPart ds later = record {
  width = λ t. ap length (free_basis-split ds later t) ∙ length-append (free_basis ds t) (free_basis_from (length ds) later t);
  action = λ r t v e.
      let all = ds ++ later in
      let u = t +ℤ pos (degree_of r) in
      let n = free_width ds u in
      let w = behind ds later u in
      let wide : free_width all u ≡ n + w = ap length (free_basis-split ds later u) ∙ length-append (free_basis ds u) (free_basis_from (length ds) later u) in
      let f = acted all r u in
      let front = free_basis ds t in
      let back = free_basis_from (length ds) later t in
      let rows = map (acted ds r u) front in
      let left : map f front ≡ map (padded w) rows =
      map_same_all (IsOfDegree ds t) f (λ x. padded w (acted ds r u x)) front (All-free_basis ds t) (λ x o. acted-padded ds later r u x o.generator) ∙ sym (map-map (padded w) (acted ds r u) front) in
      let fits : (x : ℕ × List ℕ) → length (f x) ≡ n + w = λ x. length-map (free_basis all u) (has r x) ∙ wide in
      let short : HaveWidth n rows = HaveWidth-map n (acted ds r u) front (λ x. length-map (free_basis ds u) (has r x)) in
      let hl : HaveWidth (n + w) (map (padded w) rows) = HaveWidth-padded n w rows short in
      let hr : HaveWidth (n + w) (map f back) = HaveWidth-map (n + w) f back fits in
      let parts : map f (free_basis all t) ≡ map (padded w) rows ++ map f back =
      ap (map f) (free_basis-split ds later t) ∙ (map-append f front back ∙ ap (λ (z : List (List Bool)). z ++ map f back) left) in
      let count : length v ≡ length (map (padded w) rows) = e ∙ sym (length-map rows (padded w) ∙ length-map front (acted ds r u)) in
      let made = combination (n + w) v (map (padded w) rows) in
      ap (λ (z : ℕ). combination z (padded (behind ds later t) v) (map f (free_basis all t))) wide
      ∙ (ap (combination (n + w) (padded (behind ds later t) v)) parts
      ∙ (combination-append (n + w) v (zeros (behind ds later t)) (map (padded w) rows) (map f back) hl hr count
      ∙ (ap (sum_of made) (combination-zeros (n + w) (behind ds later t) (map f back))
      ∙ (sum_of-zeros_right (n + w) made (length-combination (n + w) v (map (padded w) rows) hl)
      ∙ combination-padded_right n w v rows short))));
}

-- ---- the rows of maps

-- where images to y are those to x with zeros behind, so are the rows of the map in each degree
pub map_rows-part : (x y : GradedModule) (w : ℤ → ℕ) (ds : List ℤ) (xs ys : List (List Bool)) (t : ℤ) → IsPart x y w → AreImages x ds xs → ((g : ℕ) → g < length ds → row ys g ≡ padded (w (degree_at ds g)) (row xs g)) → map_rows y ds ys t ≡ map (padded (w t)) (map_rows x ds xs t)
map_rows-part x y w ds xs ys t part are same =
    map_same_all (IsOfDegree ds t) (image_of y ds ys) (λ e. padded (w t) (image_of x ds xs e)) (free_basis ds t) (All-free_basis ds t) (λ e o.
    let d = degree_at ds e.0 in
    ap (y.action e.1 d) (same e.0 o.generator) ∙ (part.action e.1 d (row xs e.0) (are.widths e.0 o.generator) ∙ ap (λ (z : ℤ). padded (w z) (image_of x ds xs e)) o.degree))
    ∙ sym (map-map (padded (w t)) (image_of x ds xs) (free_basis ds t))

-- ---- squares

-- squares with equally many generators have the same degrees
pub degrees_same : (b : ℤ) (xs ys : List Content) → length xs ≡ length ys → ((j : ℕ) → j < length xs → length (square_in xs j).images ≡ length (square_in ys j).images) → degrees_from b xs ≡ degrees_from b ys
degrees_same b [] [] e h = refl
degrees_same b [] (y ∷ ys) e h = absurd (omega arith)
degrees_same b (x ∷ xs) [] e h = absurd (omega arith)
degrees_same b (x ∷ xs) (y ∷ ys) e h =
    let here : length x.images ≡ length y.images = h 0 (omega arith) in
    ap (λ (n : ℕ). replicate n b ++ degrees_from (b +ℤ pos 1) xs) here
    ∙ ap (λ (z : List ℤ). replicate (length y.images) b ++ z) (degrees_same (b +ℤ pos 1) xs ys (omega arith) (λ j l. h (suc j) (omega arith)))

-- where the images of each square are those of another with zeros behind, so are those of the rows
pub row-images_of : (w : ℤ → ℕ) (b : ℤ) (xs ys : List Content) → length xs ≡ length ys → ((j : ℕ) → j < length xs → (square_in ys j).images ≡ map (padded (w (b +ℤ pos j))) (square_in xs j).images) → (g : ℕ) → g < length (degrees_from b xs) → row (images_of ys) g ≡ padded (w (degree_at (degrees_from b xs) g)) (row (images_of xs) g)
row-images_of w b [] ys e h g l = absurd (omega arith)
row-images_of w b (x ∷ xs) [] e h g l = absurd (omega arith)
row-images_of w b (x ∷ xs) (y ∷ ys) e h g l =
    let n = length x.images in
    let here = replicate n b in
    let rest = degrees_from (b +ℤ pos 1) xs in
    let len : length here ≡ n = length-replicate n b in
    let start : b +ℤ pos 0 ≡ b = omega (arith, ints) in
    let first : y.images ≡ map (padded (w b)) x.images = h 0 (omega arith) ∙ ap (λ (t : ℤ). map (padded (w t)) x.images) start in
    let many : length y.images ≡ n = ap length first ∙ length-map x.images (padded (w b)) in
    let whole = length-append here rest in
    elim (cases_lt g n) [
      | inl m ↦
          let at : degree_at (here ++ rest) g ≡ b = get_or_append_left here rest (pos 0) g (omega arith) ∙ get_or-replicate n g b (pos 0) m in
          let left : row (y.images ++ images_of ys) g ≡ padded (w b) (row x.images g) = get_or_append_left y.images (images_of ys) [] g (omega arith) ∙ (ap (λ (z : List (List Bool)). row z g) first ∙ row-padded (w b) x.images g m) in
          let right : row (x.images ++ images_of xs) g ≡ row x.images g = get_or_append_left x.images (images_of xs) [] g m in
          left ∙ (ap (λ (t : ℤ). padded (w t) (row x.images g)) (sym at) ∙ ap (padded (w (degree_at (here ++ rest) g))) (sym right))
      | inr m ↦
          let shift : (j : ℕ) → (b +ℤ pos (suc j)) ≡ ((b +ℤ pos 1) +ℤ pos j) = λ j. omega (arith, ints) in
          let at : degree_at (here ++ rest) g ≡ degree_at rest (g - n) = get_or-append_right here rest n g (pos 0) len m in
          let left : row (y.images ++ images_of ys) g ≡ row (images_of ys) (g - n) = get_or-append_right y.images (images_of ys) n g [] many m in
          let right : row (x.images ++ images_of xs) g ≡ row (images_of xs) (g - n) = get_or-append_right x.images (images_of xs) n g [] refl m in
          let ih : row (images_of ys) (g - n) ≡ padded (w (degree_at rest (g - n))) (row (images_of xs) (g - n)) =
          row-images_of w (b +ℤ pos 1) xs ys (omega arith) (λ j k. h (suc j) (omega arith) ∙ ap (λ (t : ℤ). map (padded (w t)) (square_in xs j).images) (shift j)) (g - n) (omega arith) in
          left ∙ (ih ∙ (ap (λ (t : ℤ). padded (w t) (row (images_of xs) (g - n))) (sym at) ∙ ap (padded (w (degree_at (here ++ rest) g))) (sym right)))
    ]
