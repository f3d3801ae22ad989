-- What a square is made from fits together, also with new generators, and the matrix of d_s over it.
use Rattle.std.proofs.Common.{◌≡◌, ℕ, zero, suc, ◌+◌, ◌<◌, ◌≤◌, ℤ, pos, ◌+ℤ◌, Bool, List, [], ◌∷◌, ◌++◌, length, replicate, take, Option, Some, IfSome, refl, sym, ◌∙◌, ap, subst, arith}
use Rattle.std.proofs.lemmas.Int.{ints}
use Rattle.f2_vec.specs.Spans.{HaveWidth}
use Rattle.f2_matrix.proofs.Unique.{kernel_basis_unique}
use Rattle.free_module.specs.FreeModule.{free_width, IsWithinReach}
use Rattle.free_module.specs.Graded.{GradedModule}
use Rattle.free_module.specs.LinearMap.{AreImages, map_rows}
use Rattle.resolution_laws.specs.Resolution.{Module, Content, square_in, degrees_from, images_of, target_over}
use Rattle.resolution_laws.specs.Start.{squares_below, row_below, IsOf}
use Rattle.resolution_laws.proofs.Generators.{AreImages-row}
use Rattle.resolution_laws.proofs.Rows.{degrees_from-push, free_basis-take, AreImages-more, IsWithinReach-row}
use Rattle.resolution_laws.proofs.Shapes.{content_shape}
use Rattle.resolution_laws.proofs.StartLaws.{content_is_unique, length-squares_below, squares_below-take}
use Rattle.square.specs.Squares.{degrees_with, target_width, square_matrix, over, bottom_of}
use Rattle.square.specs.Tables.{Footing, IsFooting}

-- ---- the row below

pub below_is_of : (f : Footing) → IsFooting f → (i : ℕ) (below : List Content) → suc i ≡ f.s → f.below ≡ Some below → (k : ℕ) → k ≤ f.above → IsOf (over f.resolved) f.start i k (square_in below k)
below_is_of f h i below e is k l =
    let P : Option (List Content) → Type 0 = λ x. IfSome x (λ b. IsOf (over f.resolved) f.start i k (square_in b k)) in
    subst P is (h.below_are i k e l)

-- squares of the start's table in the row below are those that are given
pub below_take : (f : Footing) → IsFooting f → (at : ℕ → ℕ → Content) (i : ℕ) (below : List Content) (n : ℕ) → suc i ≡ f.s → f.below ≡ Some below → length below ≡ f.above + 1 → n ≤ f.above + 1 → ((k : ℕ) → k < n → IsOf (over f.resolved) f.start i k (at i k)) → squares_below at i n ≡ take n below
below_take f h at i below n e is len l given =
    squares_below-take at i n below (omega arith) (λ k b. content_is_unique kernel_basis_unique (over f.resolved) f.start i k _ _ (given k b) (below_is_of f h i below e is k (omega arith)))

-- the width of the target over them
width_below : (f : Footing) → IsFooting f → (at : ℕ → ℕ → Content) (j : ℕ) → j ≤ f.above → ((i k : ℕ) → suc i ≡ f.s → k ≤ j → IsOf (over f.resolved) f.start i k (at i k))
    → (target_over (over f.resolved) (row_below at f.s j)).width (bottom_of f.resolved +ℤ pos j) ≡ (target_over (over f.resolved) f.below).width (bottom_of f.resolved +ℤ pos j)
width_below f h at j l given = in_row f.s refl
  where
    in_row : (s : ℕ) → s ≡ f.s → (target_over (over f.resolved) (row_below at s j)).width (bottom_of f.resolved +ℤ pos j) ≡ (target_over (over f.resolved) f.below).width (bottom_of f.resolved +ℤ pos j)
    in_row zero e = ap (λ (x : Option (List Content)). (target_over (over f.resolved) x).width (bottom_of f.resolved +ℤ pos j)) (sym (h.has_none (sym e)))
    in_row (suc i) e =
        let p = h.has_below i e in
        let b = bottom_of f.resolved in
        let same : squares_below at i (suc j) ≡ take (suc j) p.0 = below_take f h at i p.0 (suc j) e p.1 p.2 (omega arith) (λ k m. given i k e (omega arith)) in
        ap (λ (x : List Content). free_width (degrees_from b x) (b +ℤ pos j)) same
        ∙ (ap length (sym (free_basis-take b p.0 (suc j) (b +ℤ pos j) (omega (arith, ints))))
        ∙ ap (λ (x : Option (List Content)). (target_over (over f.resolved) x).width (b +ℤ pos j)) (sym p.1))

-- ---- widths

-- the images of each square of the row are of the dimension of the target in its degree
row_fits : (f : Footing) → IsFooting f → (j : ℕ) → j < f.above → HaveWidth ((target_over (over f.resolved) f.below).width (bottom_of f.resolved +ℤ pos j)) (square_in f.squares j).images
row_fits f h j l =
    let m = over f.resolved in
    let b = bottom_of f.resolved in
    let c = square_in f.squares j in
    let shaped = content_shape kernel_basis_unique m f.start f.s j c (h.before_are j l) in
    let o = shaped.over in
    let P : ℕ → Type 0 = λ n. HaveWidth ((target_over m (row_below o.at f.s j)).width (b +ℤ pos n)) c.images in
    let Q : ℕ → Type 0 = λ n. HaveWidth n c.images in
    subst Q (width_below f h o.at j (omega arith) o.below) (subst P (length-squares_below o.at f.s j) shaped.shape.image_widths)

pub AreImages-footing : (f : Footing) → IsFooting f → AreImages (target_over (over f.resolved) f.below) (degrees_from (bottom_of f.resolved) f.squares) (images_of f.squares)
AreImages-footing f h =
    let len = h.length_is in
    AreImages-row (target_over (over f.resolved) f.below) (bottom_of f.resolved) f.squares (λ k l. row_fits f h k (omega arith))

-- ---- the matrix

-- that of the map over this target which takes these generators to these images
pub matrix_of : (m : Module) (below : Option (List Content)) (squares : List Content) (c : Content) (target : GradedModule) (degrees : List ℤ) (images : List (List Bool)) (t : ℤ) → target ≡ target_over m below → degrees ≡ degrees_with m squares c → images ≡ images_of squares ++ c.images → t ≡ m.bottom +ℤ pos (length squares)
    → (target.width t ≡ target_width m below squares) × (map_rows target degrees images t ≡ square_matrix m below squares c)
matrix_of m below squares c target degrees images t e1 e2 e3 e4 =
    let wanted = target_over m below in
    let u = m.bottom +ℤ pos (length squares) in (
      ap (λ (x : GradedModule). x.width t) e1 ∙ ap wanted.width e4,
      ap (λ (x : GradedModule). map_rows x degrees images t) e1
          ∙ ap (λ (x : ℤ). map_rows wanted degrees images x) e4
          ∙ ap (λ (x : List ℤ). map_rows wanted x images u) e2
          ∙ ap (λ (x : List (List Bool)). map_rows wanted (degrees_with m squares c) x u) e3,
    )

-- ---- new generators of these images, in the degree of the square

-- what a square is made from and they, as they are read
pub record AreGivenWith (f : Footing) (new : List (List Bool)) (target : GradedModule) (degrees : List ℤ) (images : List (List Bool)) (t : ℤ) : Type 0 where
  pub is_footing : IsFooting f
  pub target_is : target ≡ target_over (over f.resolved) f.below
  pub degrees_are : degrees ≡ degrees_from (bottom_of f.resolved) f.squares ++ replicate (length new) t
  pub images_are : images ≡ images_of f.squares ++ new
  pub degree : t ≡ bottom_of f.resolved +ℤ pos f.above

module _ (f : Footing) (new : List (List Bool)) (target : GradedModule) (degrees : List ℤ) (images : List (List Bool)) (t : ℤ) (h : AreGivenWith f new target degrees images t) where
  at_end : t ≡ bottom_of f.resolved +ℤ pos (length f.squares)
  at_end = h.degree ∙ ap (λ n. bottom_of f.resolved +ℤ pos n) (sym h.is_footing.length_is)

  pub AreImages-with : HaveWidth (target_width (over f.resolved) f.below f.squares) new → AreImages target degrees images
  AreImages-with w =
      let m = over f.resolved in
      let wanted = target_over m f.below in
      let here : HaveWidth (wanted.width t) new = subst (λ (x : ℤ). HaveWidth (wanted.width x) new) (sym at_end) w in
      let are = AreImages-more wanted (degrees_from m.bottom f.squares) (images_of f.squares) new t (AreImages-footing f h.is_footing) here in
      let A : GradedModule → Type 0 = λ x. AreImages x (degrees_from m.bottom f.squares ++ replicate (length new) t) (images_of f.squares ++ new) in
      let B : List ℤ → Type 0 = λ x. AreImages target x (images_of f.squares ++ new) in
      let C : List (List Bool) → Type 0 = λ x. AreImages target degrees x in
      subst C (sym h.images_are) (subst B (sym h.degrees_are) (subst A (sym h.target_is) are))

  degrees_are_with : degrees ≡ degrees_with (over f.resolved) f.squares (record { images = new; kernel = [] })
  degrees_are_with = h.degrees_are ∙ ap (λ (x : ℤ). degrees_from (bottom_of f.resolved) f.squares ++ replicate (length new) x) at_end

  pub reach_with : (max : ℕ) → f.above ≤ max → IsWithinReach max degrees t
  reach_with max l =
      let c : Content = record { images = new; kernel = [] } in
      IsWithinReach-row (bottom_of f.resolved) (f.squares ++ c ∷ []) f.above max degrees t h.degree (degrees_are_with ∙ sym (degrees_from-push (bottom_of f.resolved) f.squares c)) l

  pub matrix_with_is : (target.width t ≡ target_width (over f.resolved) f.below f.squares) × (map_rows target degrees images t ≡ square_matrix (over f.resolved) f.below f.squares (record { images = new; kernel = [] }))
  matrix_with_is = matrix_of (over f.resolved) f.below f.squares (record { images = new; kernel = [] }) target degrees images t h.target_is degrees_are_with h.images_are at_end
