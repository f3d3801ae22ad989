-- The map d_s in the degree of a square of a table, by the generators of its row and their images, and its matrix.
use Rattle.std.proofs.Common.{◌≡◌, ℕ, zero, suc, ◌+◌, ◌<◌, ◌≤◌, ℤ, pos, ◌+ℤ◌, Bool, List, length, take, Some, refl, sym, ◌∙◌, ap, subst, arith}
use Rattle.std.proofs.lemmas.Int.{ints}
use Rattle.std.proofs.lemmas.List.{take_more, take-take, length-take-le, get_or-take}
use Rattle.f2_vec.specs.Spans.{HaveWidth}
use Rattle.f2_matrix.proofs.Unique.{kernel_basis_unique}
use Rattle.free_module.specs.FreeModule.{free_width, IsWithinReach}
use Rattle.free_module.specs.Graded.{GradedModule}
use Rattle.free_module.specs.LinearMap.{AreImages, map_rows}
use Rattle.resolution_laws.specs.Resolution.{Module, Content, no_content, row_of, below_of, degrees_from, images_of, target_over}
use Rattle.resolution_laws.specs.Start.{row_below}
use Rattle.resolution_laws.proofs.Generators.{AreImages-row}
use Rattle.resolution_laws.proofs.Rows.{degrees_from-push, images_of-push, free_basis-take, IsWithinReach-row}
use Rattle.resolution_laws.proofs.StartLaws.{length-squares_below}
use Rattle.resolution_laws.proofs.StartTables.{start_table_shape}
use Rattle.square.specs.Squares.{Placed, over, bottom_of}
use Rattle.square.specs.Tables.{Staircase, row_in, plain_rows, content_at, square_at, IsTable, IsMatrixAt}
use Rattle.square.proofs.Fitting.{matrix_of}
use Rattle.square.proofs.Found.{square_found}
use Rattle.square.proofs.Places.{length-row_of, table_content, table_below, table_under}
use Rattle.save_file.proofs.Entries.{is_within, reached_there}

-- ---- the images

-- the generators of the row below past a degree add nothing to the target there
target_width-more : (m : Module) (rows : List (List Content)) (s n k : ℕ) → n ≤ k → (target_over m (below_of rows s n)).width (m.bottom +ℤ pos n) ≡ (target_over m (below_of rows s k)).width (m.bottom +ℤ pos n)
target_width-more m rows zero n k l = refl
target_width-more m rows (suc i) n k l =
    let b = m.bottom in
    let row = row_of rows i in
    ap (λ x. free_width (degrees_from b x) (b +ℤ pos n)) (sym (take-take (suc n) (suc k) row (omega arith)))
    ∙ ap length (sym (free_basis-take b (take (suc k) row) (suc n) (b +ℤ pos n) (omega (arith, ints))))

-- the images at a square of the row are vectors of the target, over the row below through a later degree
widths_there : (table : Staircase) → IsTable table → (s n k : ℕ) → n ≤ k → n < length (row_in table.rows s) → HaveWidth ((target_over (over table.resolved) (below_of (plain_rows table.rows) s k)).width (bottom_of table.resolved +ℤ pos n)) (content_at table.rows s n).images
widths_there table h s n k l there =
    let m = over table.resolved in
    let b = bottom_of table.resolved in
    let at = content_at table.rows in
    let images = (at s n).images in
    let reached = reached_there table h s n there in
    let shape = start_table_shape kernel_basis_unique m table.start s n at (at s n) (table_under table h s n reached.before reached.below) (table_content table h s n there) in
    let one = subst (λ j. HaveWidth ((target_over m (row_below at s n)).width (b +ℤ pos j)) images) (length-squares_below at s n) shape.image_widths in
    let two = subst (λ x. HaveWidth ((target_over m x).width (b +ℤ pos n)) images) (table_below table.rows s n reached.below) one in
    subst (λ q. HaveWidth q images) (target_width-more m (plain_rows table.rows) s n k l) two

images_of_row : (table : Staircase) → IsTable table → (s k : ℕ) → k < length (row_in table.rows s) → AreImages (target_over (over table.resolved) (below_of (plain_rows table.rows) s k)) (degrees_from (bottom_of table.resolved) (take (k + 1) (row_of (plain_rows table.rows) s))) (images_of (take (k + 1) (row_of (plain_rows table.rows) s)))
images_of_row table h s k l =
    let b = bottom_of table.resolved in
    let row = row_of (plain_rows table.rows) s in
    let target = target_over (over table.resolved) (below_of (plain_rows table.rows) s k) in
    let whole = length-row_of table.rows s in
    let long : k + 1 ≤ length row = omega arith in
    AreImages-row target b (take (k + 1) row) (λ n d.
    let early : n < k + 1 = omega (arith, d, length-take-le (k + 1) row long) in
    subst (λ q. HaveWidth (target.width (b +ℤ pos n)) q.images) (sym (get_or-take (k + 1) row n no_content early)) (widths_there table h s n k (omega arith) (omega arith)))

-- ---- the map

-- what a table lends of the square (s, k): the target of d_s, and the generators of the row through the square with their images
pub record AreLentAt (table : Staircase) (s k : ℕ) (target : GradedModule) (gens : List ℤ) (images : List (List Bool)) : Type 0 where
  pub there : k < length (row_in table.rows s)
  pub target_is : target ≡ target_over (over table.resolved) (below_of (plain_rows table.rows) s k)
  pub gens_are : gens ≡ degrees_from (bottom_of table.resolved) (take (k + 1) (row_of (plain_rows table.rows) s))
  pub images_are : images ≡ images_of (take (k + 1) (row_of (plain_rows table.rows) s))

module _ (table : Staircase) (h : IsTable table) (s k : ℕ) (target : GradedModule) (gens : List ℤ) (images : List (List Bool)) (lent : AreLentAt table s k target gens images) where
  pub images_fit_there : AreImages target gens images
  images_fit_there =
      let row = take (k + 1) (row_of (plain_rows table.rows) s) in
      let b = bottom_of table.resolved in
      let A : GradedModule → Type 0 = λ x. AreImages x (degrees_from b row) (images_of row) in
      let B : List ℤ → Type 0 = λ x. AreImages target x (images_of row) in
      let C : List (List Bool) → Type 0 = λ x. AreImages target gens x in
      subst C (sym lent.images_are) (subst B (sym lent.gens_are) (subst A (sym lent.target_is) (images_of_row table h s k lent.there)))

  pub reach_there : (max : ℕ) (t : ℤ) → t ≡ bottom_of table.resolved +ℤ pos k → k ≤ max → IsWithinReach max gens t
  reach_there max t at l = IsWithinReach-row (bottom_of table.resolved) (take (k + 1) (row_of (plain_rows table.rows) s)) k max gens t at lent.gens_are l

  pub matrix_there : (t : ℤ) → t ≡ bottom_of table.resolved +ℤ pos k → IsMatrixAt table s t (record { cols = target.width t; rows = map_rows target gens images t })
  matrix_there t at =
      let m = over table.resolved in
      let row = row_of (plain_rows table.rows) s in
      let squares = take k row in
      let c = content_at table.rows s k in
      let whole = length-row_of table.rows s in
      let there = lent.there in
      let more = take_more row k no_content (omega arith) in
      let is = matrix_of m (below_of (plain_rows table.rows) s k) squares c target gens images t lent.target_is (lent.gens_are ∙ ap (degrees_from m.bottom) more ∙ degrees_from-push m.bottom squares c) (lent.images_are ∙ ap images_of more ∙ images_of-push squares c) (at ∙ ap (λ n. m.bottom +ℤ pos n) (sym (length-take-le k row (omega arith)))) in
      record { above = k; degree = at; cols = is.0; rows = is.1 }

-- ---- the place of a square that is found

pub record IsThere (table : Staircase) (s k : ℕ) (t : ℤ) : Type 0 where
  pub degree : t ≡ bottom_of table.resolved +ℤ pos k
  pub there : k < length (row_in table.rows s)
  pub below : (i : ℕ) → suc i ≡ s → k < length (row_in table.rows i)

pub is_there : (table : Staircase) → IsTable table → (s k : ℕ) (t : ℤ) (q : Placed) → square_at table s t ≡ Some q → k ≡ q.above → IsThere table s k t
is_there table h s k t q e named =
    let f = square_found table s t q e in
    let is = h.placed s f.above q f.there in
    let same : f.above ≡ k = sym is.above_is ∙ sym named in
    let at : k < length (row_in table.rows s) = subst (λ n. n < length (row_in table.rows s)) same (is_within (row_in table.rows s) f.above q f.there) in
    record {
      degree = f.degree ∙ ap (λ n. bottom_of table.resolved +ℤ pos n) same;
      there = at;
      below = (reached_there table h s k at).below;
    }
