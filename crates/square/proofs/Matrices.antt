-- The matrix of a square of a table, made of the images of the generators of its row.
use Rattle.std.proofs.Common.{◌≡◌, ℕ, zero, suc, ◌+◌, ◌<◌, ◌≤◌, ℤ, pos, ◌+ℤ◌, Bool, List, [], length, take, Option, Result, Ok, Err, IfOk, refl, sym, ◌∙◌, ap, subst, arith, add-one}
use Rattle.std.proofs.lemmas.Int.{ints}
use Rattle.std.proofs.lemmas.List.{take_more, take-take, length-take-le, get_or-take}
use Rattle.f2_vec.specs.Spans.{HaveWidth}
use Rattle.f2_matrix.specs.Reduction.{Rows}
use Rattle.f2_matrix.proofs.Unique.{kernel_basis_unique}
use Rattle.finite_module.specs.Checked.{Checked}
use Rattle.free_module.specs.FreeModule.{free_width, IsWithinReach}
use Rattle.free_module.specs.Graded.{GradedModule, free_graded}
use Rattle.free_module.specs.LinearMap.{map_rows, AreImages}
use Rattle.resolution_laws.specs.Resolution.{Content, no_content, square_in, row_of, below_of, degrees_from, images_of, target_over}
use Rattle.resolution_laws.specs.Start.{squares_below}
use Rattle.resolution_laws.proofs.Generators.{AreImages-row}
use Rattle.resolution_laws.proofs.Rows.{degrees_from-push, images_of-push, free_basis-take, IsWithinReach-row}
use Rattle.resolution_laws.proofs.Shapes.{content_shape}
use Rattle.resolution_laws.proofs.StartLaws.{content_is_unique, length-squares_below, squares_below-same, squares_below-take}
use Rattle.square.specs.Squares.{Placed, target_width, square_matrix, over, bottom_of}
use Rattle.square.specs.Tables.{Staircase, Footing, contents, row_in, plain_rows, content_at, IsMatrixBehind, IsTable}
use Rattle.square.proofs.Fitting.{matrix_of}
use Rattle.square.proofs.Places.{row_of-plain, length-row_of, table_content}

-- ---- widths of images

first_widths : (table : Staircase) → IsTable table → (k : ℕ) → k < length (row_in table.rows zero) → HaveWidth ((over table.resolved).graded.width ((over table.resolved).bottom +ℤ pos k)) (content_at table.rows zero k).images
first_widths table h k l =
    let m = over table.resolved in
    let c = content_at table.rows zero k in
    let p = content_shape kernel_basis_unique m table.start zero k c (table_content table h zero k l) in
    subst (λ n. HaveWidth (m.graded.width (m.bottom +ℤ pos n)) c.images) (length-squares_below p.over.at zero k) p.shape.image_widths

upper_widths : (table : Staircase) → IsTable table → (i k n : ℕ) → n ≤ k → n < length (row_in table.rows (suc i)) → k < length (row_in table.rows i)
    → HaveWidth (free_width (degrees_from (over table.resolved).bottom (take (suc k) (row_of (plain_rows table.rows) i))) ((over table.resolved).bottom +ℤ pos n)) (content_at table.rows (suc i) n).images
upper_widths table h i k n le there l =
    let m = over table.resolved in
    let b = m.bottom in
    let row = row_of (plain_rows table.rows) i in
    let c = content_at table.rows (suc i) n in
    let at = content_at table.rows in
    let p = content_shape kernel_basis_unique m table.start (suc i) n c (table_content table h (suc i) n there) in
    let len = length-squares_below p.over.at (suc i) n in
    let whole = length-row_of table.rows i in
    let same : squares_below p.over.at i (suc n) ≡ squares_below at i (suc n) = squares_below-same p.over.at at i (suc n) (λ j d. content_is_unique kernel_basis_unique m table.start i j (p.over.at i j) (at i j) (p.over.below i j refl (omega arith)) (table_content table h i j (omega arith))) in
    let first : squares_below p.over.at i (suc n) ≡ take (n + 1) (take (suc k) row) = same ∙ squares_below-take at i (suc n) row (omega arith) (λ j d. refl) ∙ ap (λ x. take x row) (sym (add-one n)) ∙ sym (take-take (n + 1) (suc k) row (omega arith)) in
    let width : free_width (degrees_from b (squares_below p.over.at i (suc n))) (b +ℤ pos (length (squares_below p.over.at (suc i) n))) ≡ free_width (degrees_from b (take (suc k) row)) (b +ℤ pos n) =
    ap (λ x. free_width (degrees_from b (squares_below p.over.at i (suc n))) (b +ℤ pos x)) len ∙ ap (λ x. free_width (degrees_from b x) (b +ℤ pos n)) first ∙ ap length (sym (free_basis-take b (take (suc k) row) (n + 1) (b +ℤ pos n) (omega (arith, ints)))) in
    subst (λ x. HaveWidth x c.images) width p.shape.image_widths

-- ---- the images of a row

row_images : (target : GradedModule) (b : ℤ) (row : List Content) (count : ℕ) → ((n : ℕ) → n < count → HaveWidth (target.width (b +ℤ pos n)) (square_in row n).images) → count ≤ length row → AreImages target (degrees_from b (take count row)) (images_of (take count row))
row_images target b row count w l =
    AreImages-row target b (take count row) (λ n h.
    let m : n < count = omega (arith, length-take-le count row l) in
    subst (λ q. HaveWidth (target.width (b +ℤ pos n)) q.images) (sym (get_or-take count row n no_content m)) (w n m))

-- what a table has of a row, as it was read
pub gens_read : (table : Staircase) (s n : ℕ) (b : ℤ) (squares : List Placed) (gens : List ℤ) → gens ≡ degrees_from b (take n (contents squares)) → b ≡ bottom_of table.resolved → squares ≡ row_in table.rows s → gens ≡ degrees_from (over table.resolved).bottom (take n (row_of (plain_rows table.rows) s))
gens_read table s n b squares gens e low same =
    e ∙ ap (λ x. degrees_from x (take n (contents squares))) low ∙ ap (λ (x : List Placed). degrees_from (bottom_of table.resolved) (take n (contents x))) same ∙ ap (λ (x : List Content). degrees_from (bottom_of table.resolved) (take n x)) (sym (row_of-plain table.rows s))

pub images_read : (table : Staircase) (s n : ℕ) (squares : List Placed) (images images' : List (List Bool)) → images' ≡ images → images ≡ images_of (take n (contents squares)) → squares ≡ row_in table.rows s → images' ≡ images_of (take n (row_of (plain_rows table.rows) s))
images_read table s n squares images images' e0 e same = e0 ∙ e ∙ ap (λ (x : List Placed). images_of (take n (contents x))) same ∙ ap (λ (x : List Content). images_of (take n x)) (sym (row_of-plain table.rows s))

-- the images of row 0, and of a row above it
first_images : (table : Staircase) → IsTable table → (s k : ℕ) (target : GradedModule) (gens : List ℤ) (images : List (List Bool)) → s ≡ 0 → k < length (row_in table.rows s) → target ≡ (over table.resolved).graded → gens ≡ degrees_from (over table.resolved).bottom (take (k + 1) (row_of (plain_rows table.rows) s)) → images ≡ images_of (take (k + 1) (row_of (plain_rows table.rows) s)) → AreImages target gens images
first_images table h s k target gens images zeroth l e1 e2 e3 =
    let m = over table.resolved in
    let low = ap (λ n. length (row_in table.rows n)) zeroth in
    let whole = length-row_of table.rows zero in
    let are = row_images m.graded m.bottom (row_of (plain_rows table.rows) zero) (k + 1) (λ n b. first_widths table h n (omega arith)) (omega arith) in
    let P : ℕ → Type 0 = λ n. AreImages m.graded (degrees_from m.bottom (take (k + 1) (row_of (plain_rows table.rows) n))) (images_of (take (k + 1) (row_of (plain_rows table.rows) n))) in
    let Q : GradedModule → Type 0 = λ x. AreImages x gens images in
    let R : List ℤ → Type 0 = λ x. AreImages m.graded x images in
    let S : List (List Bool) → Type 0 = λ x. AreImages m.graded (degrees_from m.bottom (take (k + 1) (row_of (plain_rows table.rows) s))) x in
    subst Q (sym e1) (subst R (sym e2) (subst S (sym e3) (subst P (sym zeroth) are)))

upper_images : (table : Staircase) → IsTable table → (s i k : ℕ) (below gens : List ℤ) (images : List (List Bool)) → suc i ≡ s → k < length (row_in table.rows s) → below ≡ degrees_from (over table.resolved).bottom (take (k + 1) (row_of (plain_rows table.rows) i)) → gens ≡ degrees_from (over table.resolved).bottom (take (k + 1) (row_of (plain_rows table.rows) s)) → images ≡ images_of (take (k + 1) (row_of (plain_rows table.rows) s)) → AreImages (free_graded below) gens images
upper_images table h s i k below gens images above l e1 e2 e3 =
    let m = over table.resolved in
    let b = m.bottom in
    let rows = plain_rows table.rows in
    let here = ap (λ n. length (row_in table.rows n)) above in
    let low = h.never_rise i in
    let whole = length-row_of table.rows (suc i) in
    let target = free_graded (degrees_from b (take (suc k) (row_of rows i))) in
    let are = row_images target b (row_of rows (suc i)) (k + 1) (λ n d. upper_widths table h i k n (omega arith) (omega arith) (omega arith)) (omega arith) in
    let P : ℕ → Type 0 = λ n. AreImages target (degrees_from b (take (k + 1) (row_of rows n))) (images_of (take (k + 1) (row_of rows n))) in
    let Q : List ℤ → Type 0 = λ x. AreImages (free_graded x) gens images in
    let R : List ℤ → Type 0 = λ x. AreImages target x images in
    let S : List (List Bool) → Type 0 = λ x. AreImages target (degrees_from b (take (k + 1) (row_of rows s))) x in
    let lower : degrees_from b (take (suc k) (row_of rows i)) ≡ below = ap (λ n. degrees_from b (take n (row_of rows i))) (sym (add-one k)) ∙ sym e1 in
    subst Q lower (subst R (sym e2) (subst S (sym e3) (subst P above are)))

-- the images of a row are vectors of the target over the row below
pub images_fit : (table : Staircase) → IsTable table → (s k : ℕ) (target : GradedModule) (gens : List ℤ) (images : List (List Bool)) → k < length (row_in table.rows s) → target ≡ target_over (over table.resolved) (below_of (plain_rows table.rows) s k) → gens ≡ degrees_from (over table.resolved).bottom (take (k + 1) (row_of (plain_rows table.rows) s)) → images ≡ images_of (take (k + 1) (row_of (plain_rows table.rows) s)) → AreImages target gens images
images_fit table h zero k target gens images l e1 e2 e3 = first_images table h zero k target gens images refl l e1 e2 e3
images_fit table h (suc i) k target gens images l e1 e2 e3 =
    let b = bottom_of table.resolved in
    let row = row_of (plain_rows table.rows) i in
    let P : GradedModule → Type 0 = λ x. AreImages x gens images in
    subst P (ap (λ n. free_graded (degrees_from b (take n row))) (add-one k) ∙ sym e1) (upper_images table h (suc i) i k (degrees_from b (take (k + 1) row)) gens images refl l refl e2 e3)

pub within_reach : (table : Staircase) (s k max n : ℕ) (gens : List ℤ) (t : ℤ) → gens ≡ degrees_from (over table.resolved).bottom (take n (row_of (plain_rows table.rows) s)) → t ≡ bottom_of table.resolved +ℤ pos k → k ≤ max → IsWithinReach max gens t
within_reach table s k max n gens t e at l = IsWithinReach-row (bottom_of table.resolved) (take n (row_of (plain_rows table.rows) s)) k max gens t at e l

-- ---- the matrix

pub matrix_is : (table : Staircase) (s k : ℕ) (target : GradedModule) (gens : List ℤ) (images : List (List Bool)) (t : ℤ) → k < length (row_in table.rows s) → target ≡ target_over (over table.resolved) (below_of (plain_rows table.rows) s k) → gens ≡ degrees_from (over table.resolved).bottom (take (k + 1) (row_of (plain_rows table.rows) s)) → images ≡ images_of (take (k + 1) (row_of (plain_rows table.rows) s)) → t ≡ bottom_of table.resolved +ℤ pos k
    → (target.width t ≡ target_width (over table.resolved) (below_of (plain_rows table.rows) s k) (take k (row_of (plain_rows table.rows) s))) × (map_rows target gens images t ≡ square_matrix (over table.resolved) (below_of (plain_rows table.rows) s k) (take k (row_of (plain_rows table.rows) s)) (content_at table.rows s k))
matrix_is table s k target gens images t l e1 e2 e3 e4 =
    let m = over table.resolved in
    let row = row_of (plain_rows table.rows) s in
    let squares = take k row in
    let c = content_at table.rows s k in
    let whole = length-row_of table.rows s in
    let more = take_more row k no_content (omega arith) in
    matrix_of m (below_of (plain_rows table.rows) s k) squares c target gens images t e1 (e2 ∙ ap (degrees_from m.bottom) more ∙ degrees_from-push m.bottom squares c) (e3 ∙ ap images_of more ∙ images_of-push squares c) (e4 ∙ ap (λ n. m.bottom +ℤ pos n) (sym (length-take-le k row (omega arith))))

-- over the inputs of the next square of a row
pub matrix_behind : (table : Staircase) (s : ℕ) (t : ℤ) (images : List (List Bool)) (f : Footing) (m : Rows) → t ≡ bottom_of table.resolved +ℤ pos f.above → f.resolved ≡ table.resolved → f.squares ≡ take f.above (row_of (plain_rows table.rows) s) → f.below ≡ below_of (plain_rows table.rows) s f.above
    → m.cols ≡ target_width (over f.resolved) f.below f.squares → m.rows ≡ square_matrix (over f.resolved) f.below f.squares (record { images = images; kernel = [] }) → IsMatrixBehind table s t images m
matrix_behind table s t images f m at resolved squares below cols rows =
    let c : Content = record { images = images; kernel = [] } in
    let under = below_of (plain_rows table.rows) s f.above in
    record {
      above = f.above;
      degree = at;
      cols = cols
          ∙ ap (λ (x : Checked). target_width (over x) f.below f.squares) resolved
          ∙ ap (λ (x : Option (List Content)). target_width (over table.resolved) x f.squares) below
          ∙ ap (λ (x : List Content). target_width (over table.resolved) under x) squares;
      rows = rows
          ∙ ap (λ (x : Checked). square_matrix (over x) f.below f.squares c) resolved
          ∙ ap (λ (x : Option (List Content)). square_matrix (over table.resolved) x f.squares c) below
          ∙ ap (λ (x : List Content). square_matrix (over table.resolved) under x c) squares;
    }

-- what follows from two facts of an answer, where there is one
pub if_both : {X Y : Type 0} (r : Result X Y) (P Q R : X → Type 0) → IfOk r P → IfOk r Q → ((x : X) → P x → Q x → R x) → IfOk r R
if_both (Ok x) P Q R p q f = f x p q
if_both (Err e) P Q R p q f = tt

-- what d_s goes to over row 0, and over a row above it
pub first_target : (table : Staircase) (s k : ℕ) → s ≡ 0 → (over table.resolved).graded ≡ target_over (over table.resolved) (below_of (plain_rows table.rows) s k)
first_target table s k e = ap (λ n. target_over (over table.resolved) (below_of (plain_rows table.rows) n k)) (sym e)

pub upper_target : (table : Staircase) (s i k : ℕ) (below : List ℤ) → suc i ≡ s → below ≡ degrees_from (over table.resolved).bottom (take (k + 1) (row_of (plain_rows table.rows) i)) → free_graded below ≡ target_over (over table.resolved) (below_of (plain_rows table.rows) s k)
upper_target table s i k below e same =
    let m = over table.resolved in
    ap free_graded (same ∙ ap (λ n. degrees_from m.bottom (take n (row_of (plain_rows table.rows) i))) (add-one k)) ∙ ap (λ n. target_over m (below_of (plain_rows table.rows) n k)) e
