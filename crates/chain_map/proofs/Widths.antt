-- Dimensions: of the vectors that a quasi-inverse takes and gives, and of the images of generators.
use Rattle.std.proofs.Common.{◌≡◌, ℕ, suc, ◌+◌, ◌<◌, Bool, ℤ, pos, ◌+ℤ◌, ◌<ℤ◌, List, [], ◌++◌, length, take, Option, Some, None, IfSome, refl, ap, sym, subst, ◌∙◌, arith}
use Rattle.std.proofs.lemmas.Int.{ints}
use Rattle.std.proofs.lemmas.List.{length-map, length-take-le, take_more}
use Rattle.f2_vec.specs.Spans.{HaveWidth}
use Rattle.f2_matrix.specs.Reduction.{Reduction}
use Rattle.free_module.specs.FreeModule.{free_basis, free_width}
use Rattle.free_module.specs.LinearMap.{image_of}
use Rattle.f2_matrix.proofs.Unique.{kernel_basis_unique}
use Rattle.resolution_laws.specs.Resolution.{Content, no_content, degrees_from, images_of, row_of, below_of, target_over}
use Rattle.resolution_laws.proofs.Rows.{degrees_from-push, free_basis-take}
use Rattle.resolution_laws.specs.Start.{squares_below}
use Rattle.resolution_laws.proofs.StartTables.{start_table_shape}
use Rattle.square.specs.Squares.{over, bottom_of, degrees_with}
use Rattle.square.specs.Tables.{Staircase, row_in, plain_rows, content_at, IsTable, IsQuasiAt}
use Rattle.square.proofs.Places.{length-row_of, table_under, table_before, table_content}
use Rattle.lift_laws.specs.Lifts.{gens}
use Rattle.lift_laws.proofs.Facts.{free_width-below}
use Rattle.chain_map.specs.Lifting.{IsInverseAt, chosen_preimage, resolution_of, IsChosenFor}

-- the generators of later squares add nothing
pub width-take : (b : ℤ) (squares : List Content) (n : ℕ) (t : ℤ) → t <ℤ (b +ℤ pos n) → free_width (degrees_from b (take n squares)) t ≡ free_width (degrees_from b squares) t
width-take b squares n t l = ap length (sym (free_basis-take b squares n t l))

module _ (q : Staircase) (k : ℕ) (u : ℤ) where
  -- a place of the row in that degree, where the degree is not below the bottom
  abbrev pub HasPlace : Type 0
  HasPlace = (j : ℕ) → u ≡ bottom_of q.resolved +ℤ pos j → j < length (row_in q.rows k)

  -- what a reduction is of, and takes
  pub record IsOfSize (r : Reduction) : Type 0 where
    pub above : ℕ
    pub degree : u ≡ bottom_of q.resolved +ℤ pos above
    pub cols : r.cols ≡ (target_over (over q.resolved) (below_of (plain_rows q.rows) k above)).width u
    pub height : r.height ≡ free_width (gens (resolution_of q) k) u

  pub quasi_size : HasPlace → (r : Reduction) → IsQuasiAt q k u r → IsOfSize r
  quasi_size there r is =
      let m = over q.resolved in
      let row = row_of (plain_rows q.rows) k in
      let squares = take is.above row in
      let c = content_at q.rows k is.above in
      let target = target_over m (below_of (plain_rows q.rows) k is.above) in
      let place = there is.above is.degree in
      let whole = length-row_of q.rows k in
      let len : length squares ≡ is.above = length-take-le is.above row (omega arith) in
      let here : m.bottom +ℤ pos (length squares) ≡ u = ap (λ (n : ℕ). m.bottom +ℤ pos n) len ∙ sym is.degree in
      let all : degrees_with m squares c ≡ degrees_from m.bottom (take (is.above + 1) row) = sym (ap (degrees_from m.bottom) (take_more row is.above no_content (omega arith)) ∙ degrees_from-push m.bottom squares c) in
      let rows : r.height ≡ free_width (degrees_with m squares c) (m.bottom +ℤ pos (length squares)) = is.quasi.height ∙ length-map (free_basis (degrees_with m squares c) (m.bottom +ℤ pos (length squares))) (image_of target (degrees_with m squares c) (images_of squares ++ c.images)) in
      record {
        above = is.above;
        degree = is.degree;
        cols = is.quasi.cols ∙ ap target.width here;
        height = rows ∙ (ap (λ (z : List ℤ). free_width z (m.bottom +ℤ pos (length squares))) all ∙ (ap (free_width (degrees_from m.bottom (take (is.above + 1) row))) here ∙ width-take m.bottom row (is.above + 1) u (let d = is.degree in omega (arith, ints))));
      }

  -- a value has the dimension of F_k
  value_width_of : HasPlace → (goal v : List Bool) (inverse : Option Reduction) → IsInverseAt q k u inverse → IfSome inverse (λ r. length v ≡ r.height) → (inverse ≡ None → v ≡ []) → length v ≡ free_width (gens (resolution_of q) k) u
  value_width_of there goal v None is fits none = ap length (none refl) ∙ sym (free_width-below (resolution_of q) k u is)
  value_width_of there goal v (Some r) is fits none = fits ∙ (quasi_size there r is).height

  pub value_width : HasPlace → (goal v : List Bool) → IsChosenFor q k u goal v → length v ≡ free_width (gens (resolution_of q) k) u
  value_width there goal v c = value_width_of there goal v c.inverse c.is c.fits (λ e. c.value ∙ ap (λ (z : Option Reduction). chosen_preimage z goal) e)

-- what the reduction for d_0 takes, and that for d_(k+1)
first_cols : (q : Staircase) (u : ℤ) (r : Reduction) → HasPlace q 0 u → IsQuasiAt q 0 u r → r.cols ≡ (over q.resolved).graded.width u
first_cols q u r there is = (quasi_size q 0 u there r is).cols

next_cols : (q : Staircase) (k : ℕ) (u : ℤ) (r : Reduction) → HasPlace q (suc k) u → IsQuasiAt q (suc k) u r → r.cols ≡ free_width (gens (resolution_of q) k) u
next_cols q k u r there is =
    let s = quasi_size q (suc k) u there r is in
    s.cols ∙ width-take (bottom_of q.resolved) (row_of (plain_rows q.rows) k) (suc s.above) u (let d = s.degree in omega (arith, ints))

pub first_goal_fits : (q : Staircase) (u : ℤ) (inverse : Option Reduction) (goal : List Bool) → HasPlace q 0 u → IsInverseAt q 0 u inverse → length goal ≡ (over q.resolved).graded.width u → IfSome inverse (λ r. length goal ≡ r.cols)
first_goal_fits q u None goal there is e = tt
first_goal_fits q u (Some r) goal there is e = e ∙ sym (first_cols q u r there is)

pub next_goal_fits : (q : Staircase) (k : ℕ) (u : ℤ) (inverse : Option Reduction) (goal : List Bool) → HasPlace q (suc k) u → IsInverseAt q (suc k) u inverse → length goal ≡ free_width (gens (resolution_of q) k) u → IfSome inverse (λ r. length goal ≡ r.cols)
next_goal_fits q k u None goal there is e = tt
next_goal_fits q k u (Some r) goal there is e = e ∙ sym (next_cols q k u r there is)

-- the images of a square above row 0, whatever the table holds
pub image_widths : (table : Staircase) → IsTable table → (i n : ℕ) → n < length (row_in table.rows (suc i)) → HaveWidth (free_width (gens (resolution_of table) i) ((over table.resolved).bottom +ℤ pos n)) (content_at table.rows (suc i) n).images
image_widths table h i n l =
    let m = over table.resolved in
    let at = content_at table.rows in
    let low = h.never_rise i in
    let len = length-row_of table.rows (suc i) in
    let under = table_under table h (suc i) n (omega arith) (λ j e. let same : i ≡ j = omega arith in subst (λ (z : ℕ). n < length (row_in table.rows z)) same (omega arith)) in
    let shape = start_table_shape kernel_basis_unique m table.start (suc i) n at (at (suc i) n) (record { before = under.before; below = under.below }) (table_content table h (suc i) n l) in
    let before = table_before table.rows (suc i) n (omega arith) in
    let count : length (squares_below at (suc i) n) ≡ n = ap length before ∙ length-take-le n (row_of (plain_rows table.rows) (suc i)) (omega arith) in
    let row = row_of (plain_rows table.rows) i in
    let below : squares_below at i (suc n) ≡ take (suc n) row = table_before table.rows i (suc n) (omega arith) in
    let width : free_width (degrees_from m.bottom (squares_below at i (suc n))) (m.bottom +ℤ pos (length (squares_below at (suc i) n))) ≡ free_width (degrees_from m.bottom row) (m.bottom +ℤ pos n) =
    ap (λ (j : ℕ). free_width (degrees_from m.bottom (squares_below at i (suc n))) (m.bottom +ℤ pos j)) count
    ∙ (ap (λ (z : List Content). free_width (degrees_from m.bottom z) (m.bottom +ℤ pos n)) below ∙ width-take m.bottom row (suc n) (m.bottom +ℤ pos n) (omega (arith, ints))) in
    subst (λ (w : ℕ). HaveWidth w (at (suc i) n).images) width shape.image_widths
