-- The body of a square is read as the square, behind squares of the same table.
use Rattle.std.proofs.Common.{◌≡◌, ℕ, suc, ◌+◌, ◌-◌, ◌^◌, ◌<◌, ◌≤◌, ℤ, pos, ◌+ℤ◌, Bool, List, length, take, Option, None, Some, IfSome, IsSome, refl, sym, ◌∙◌, ap, subst, arith}
use Rattle.std.specs.Prelude.{slice_get}
use Rattle.std.specs.Option.{unwrap_or, option_map}
use Rattle.std.proofs.lemmas.Int.{ints}
use Rattle.std.proofs.lemmas.Option.{IfSome_then, same_Some}
use Rattle.f2_vec.specs.Spans.{HaveWidth}
use Rattle.f2_matrix.specs.Parts.{AreReductionParts, PartsAreReduction}
use Rattle.f2_matrix.specs.Reduction.{Reduction, IsReductionOf}
use Rattle.f2_matrix.proofs.Unique.{kernel_basis_unique}
use Rattle.resolution_laws.specs.Resolution.{Module, Content, no_content, row_of, below_of}
use Rattle.resolution_laws.specs.Start.{Entry, entry_at, HasShape, squares_below, row_below, IsOf, AreOf, AreBefore}
use Rattle.resolution_laws.proofs.StartLaws.{content_is_unique, squares_below-same, row_below-same, listed_is_of}
use Rattle.resolution_laws.proofs.StartTables.{start_table_shape}
use Rattle.square.specs.Squares.{Placed, entry_of, target_width, width_with, source_width, square_matrix, over, bottom_of, AreWidths, IsQuasi, IsSquare}
use Rattle.square.specs.Tables.{Staircase, row_in, plain_rows, content_at, square_at, IsQuasiAt, IsTable}
use Rattle.square.specs.Keeping.{IsNextIn, HoldsTable}
use Rattle.square.proofs.Places.{slice_get-there, content_at-is}
use Rattle.square.proofs.ByDegree.{square_at-above}
use Rattle.square.proofs.Found.{row_within}
use Rattle.save_file.specs.Bodies.{body_bytes, body_of, Kept, kept_of, entries, kept_at, Addition, addition_bytes, HasAdditionRules, preimages_of, reduction_with, content_in, target_dim, source_dim, matrix_with, HasRules}
use Rattle.save_file.specs.Reading.{square_in, addition_in}
use Rattle.save_file.specs.Saved.{IsClosed, IsReadAs, IsReadAsQuasi}
use Rattle.save_file.specs.Laws.{FitNumbers, AdditionFits}
use Rattle.f2_kernel.proofs.Basis.{basis_few}
use Rattle.save_file.proofs.Entries.{some_is, is_within, HasRows, reached_there, target_dim_over, matrix_over}
use Rattle.save_file.proofs.Rules.{length-matrix_with, down_to, kept_entry, each_is_read, each_is_added}

-- ---- what a list of squares of a start's table has

there_of : (m : Module) (start list : List Entry) → AreOf m start list → (s k : ℕ) → IsSome (entry_at list s k) → IsOf m start s k (content_in list s k)
there_of m start list are s k there =
    let x = some_is (entry_at list s k) there in
    subst (IsOf m start s k) (sym (ap (λ o. unwrap_or o no_content) x.1)) (listed_is_of m start list are s k x.0 x.1)

-- ---- those that a square stands on

before_there : (list : List Entry) (q : Placed) → IsClosed list → IsNextIn list q → (j : ℕ) → j < q.above → IsSome (entry_at list q.s j)
before_there list q closed next j l =
    let d = q.above - suc j in
    let top : suc (d + j) ≡ q.above = omega arith in
    down_to list closed q.s j d (next.before (d + j) top)

below_there : (list : List Entry) (q : Placed) → IsClosed list → IsNextIn list q → (i j : ℕ) → suc i ≡ q.s → j ≤ q.above → IsSome (entry_at list i j)
below_there list q closed next i j e l =
    let d = q.above - j in
    let top : q.above ≡ d + j = omega arith in
    down_to list closed i j d (subst (λ n. IsSome (entry_at list i n)) top (next.below i e))

-- ---- its dimensions and its matrix, behind squares of the same start's table

module _ (q : Placed) (list : List Entry) (are : AreOf (over q.resolved) q.start list) (closed : IsClosed list) (next : IsNextIn list q) (at : ℕ → ℕ → Content) (under : AreBefore (over q.resolved) q.start q.s q.above at) where
  left : squares_below at q.s q.above ≡ squares_below (content_in list) q.s q.above
  left = squares_below-same at (content_in list) q.s q.above (λ j l. content_is_unique kernel_basis_unique (over q.resolved) q.start q.s j _ _ (under.before j l) (there_of (over q.resolved) q.start list are q.s j (before_there list q closed next j l)))

  low : row_below at q.s q.above ≡ row_below (content_in list) q.s q.above
  low = row_below-same at (content_in list) q.s q.above (λ i j e l. content_is_unique kernel_basis_unique (over q.resolved) q.start i j _ _ (under.below i j e l) (there_of (over q.resolved) q.start list are i j (below_there list q closed next i j e l)))

  target_there : target_width (over q.resolved) (row_below at q.s q.above) (squares_below at q.s q.above) ≡ target_dim (over q.resolved) list q.s q.above
  target_there = let m = over q.resolved in ap (λ x. target_width m x (squares_below at q.s q.above)) low ∙ ap (λ x. target_width m (row_below (content_in list) q.s q.above) x) left

  source_there : source_width (over q.resolved) (squares_below at q.s q.above) q.content ≡ source_dim (over q.resolved) list q.s q.above (length q.content.images)
  source_there = ap (λ x. width_with (over q.resolved) x (length q.content.images)) left

  -- the reduction of its matrix is that of the matrix over the list, so its rows are the parts
  quasi_there : (r : Reduction) → IsQuasi (over q.resolved) (row_below at q.s q.above) (squares_below at q.s q.above) q.content r → IsReductionOf (target_dim (over q.resolved) list q.s q.above) (matrix_with (over q.resolved) list q.s q.above q.content.images) r
  quasi_there r is =
      let m = over q.resolved in
      let is1 = subst (λ x. IsQuasi m x (squares_below at q.s q.above) q.content r) low is in
      let is2 = subst (λ x. IsQuasi m (row_below (content_in list) q.s q.above) x q.content r) left is1 in
      is2

-- the rows of a reduction are its parts
pub parts_of_reduction : PartsAreReduction → (n : ℕ) (rows : List (List Bool)) (r : Reduction) → IsReductionOf n rows r → AreReductionParts n rows r.image r.chosen r.kernel
parts_of_reduction law n rows r is =
    let made = λ (w v : ℕ). let x : Reduction = record { cols = w; height = v; image = r.image; chosen = r.chosen; kernel = r.kernel } in x in
    let same : r ≡ made n (length rows) = ap (λ w. made w r.height) is.cols ∙ ap (made n) is.height in
    (law n rows r.image r.chosen r.kernel is.widths).1 (subst (IsReductionOf n rows) same is)

-- ---- its body

pub read_as : PartsAreReduction → (q : Placed) (w v : ℕ) (bytes : List ℕ) → IsSquare q → AreWidths q w v → w < 2 ^ 64 → v < 2 ^ 64 → bytes ≡ body_bytes (body_of w v (kept_of q)) → IsReadAs q bytes
read_as law q w v bytes square widths narrow narrow' is list are closed next =
    let m = over q.resolved in
    let at = widths.at in
    let b = body_of w v (kept_of q) in
    let shape : HasShape m (row_below at q.s q.above) (squares_below at q.s q.above) q.content = start_table_shape kernel_basis_unique m q.start q.s q.above at q.content widths.under square.is_of in
    let target : w ≡ target_dim m list q.s q.above = widths.target ∙ target_there q list are closed next at widths.under in
    let source : v ≡ source_dim m list q.s q.above (length q.content.images) = widths.source ∙ source_there q list are closed next at widths.under in
    let wide : HaveWidth w q.content.images = subst (λ n. HaveWidth n q.content.images) (sym widths.target) shape.image_widths in
    let wide' : HaveWidth v q.content.kernel = subst (λ n. HaveWidth n q.content.kernel) (sym widths.source) shape.kernel_widths in
    let few = shape.images_few in
    let same = widths.target in
    let rows = matrix_with m list q.s q.above q.content.images in
    let tall : length rows ≡ v = length-matrix_with m list q.s q.above q.content.images ∙ sym source in
    let here : IfSome q.quasi (λ r. IsReductionOf w rows r × (r.kernel ≡ q.content.kernel)) =
    IfSome_then q.quasi square.kept (λ r k. (subst (λ n. IsReductionOf n rows r) (sym target) (quasi_there q list are closed next k.at k.under r k.quasi), k.kernel)) in
    let rules : HasRules m list b = record {
      row = square.row;
      degree = square.degree;
      place = record { absent = next.absent; before = next.before; below = next.below };
      target = target;
      images_few = omega arith;
      source = source;
      kernel_few = basis_few v q.content.kernel wide' shape.reduced shape.nonzero;
      image_widths = wide;
      kernel_widths = wide';
      reduced = shape.reduced;
      nonzero = shape.nonzero;
      parts = preimages_parts w rows q.content.kernel q.quasi here;
    } in
    let fits : FitNumbers b = record { target = narrow; source = narrow'; image = few_of w rows q.content.kernel v tall narrow' q.quasi here } in
    ap (square_in m list) is ∙ each_is_read m list b rules fits ∙ ap (λ o. let x : Kept = record { entry = entry_of q; quasi = o } in Some x) (quasi_again w v rows q.content.kernel tall q.quasi here)
  where
    preimages_parts : (w : ℕ) (rows kernel : List (List Bool)) (o : Option Reduction) → IfSome o (λ r. IsReductionOf w rows r × (r.kernel ≡ kernel)) → IfSome (option_map preimages_of o) (λ p. AreReductionParts w rows p.image p.chosen kernel)
    preimages_parts w rows kernel None h = tt
    preimages_parts w rows kernel (Some r) h = subst (AreReductionParts w rows r.image r.chosen) h.1 (parts_of_reduction law w rows r h.0)

    few_of : (w : ℕ) (rows kernel : List (List Bool)) (v : ℕ) → length rows ≡ v → v < 2 ^ 64 → (o : Option Reduction) → IfSome o (λ r. IsReductionOf w rows r × (r.kernel ≡ kernel)) → IfSome (option_map preimages_of o) (λ p. length p.image < 2 ^ 64)
    few_of w rows kernel v tall narrow None h = tt
    few_of w rows kernel v tall narrow (Some r) h = let sum = (parts_of_reduction law w rows r h.0).rank_and_nullity in omega arith

    quasi_again : (w v : ℕ) (rows kernel : List (List Bool)) → length rows ≡ v → (o : Option Reduction) → IfSome o (λ r. IsReductionOf w rows r × (r.kernel ≡ kernel)) → option_map (λ p. reduction_with w v p kernel) (option_map preimages_of o) ≡ o
    quasi_again w v rows kernel tall None h = refl
    quasi_again w v rows kernel tall (Some r) h =
        let made = λ (a b : ℕ) (k : List (List Bool)). reduction_with a b (preimages_of r) k in
        ap (λ x. Some x) (sym (ap (λ a. made a r.height r.kernel) h.0.cols ∙ ap (λ b. made w b r.kernel) (h.0.height ∙ tall) ∙ ap (made w v) h.1))

-- ---- the body of a quasi-inverse

-- a list with just the squares of a table has what its rows have
held_rows : (list : List Entry) (rows : List (List Placed)) → HoldsTable list rows → HasRows list rows
held_rows list rows holds s k l =
    let there = slice_get-there (row_in rows s) k l in
    ap (λ o. unwrap_or o no_content) (holds s k ∙ ap (option_map (λ (q : Placed). q.content)) there.1) ∙ sym (content_at-is rows s k there.0 there.1)

pub read_as_quasi : PartsAreReduction → (table : Staircase) → IsTable table → (s k : ℕ) (q : Placed) (r : Reduction) → slice_get (row_in table.rows s) k ≡ Some q → IsQuasi (over table.resolved) (below_of (plain_rows table.rows) s k) (take k (row_of (plain_rows table.rows) s)) (content_at table.rows s k) r → r.kernel ≡ q.content.kernel → r.cols < 2 ^ 64 → r.height < 2 ^ 64
    → (kept : List Kept) (square : Kept) → HoldsTable (entries kept) table.rows → kept_at kept s k ≡ Some square → square.quasi ≡ None → (addition_in (over table.resolved) kept (addition_bytes (record { s = s; above = k; cols = r.cols; height = r.height; preimages = preimages_of r })) ≡ Some (record { s = s; above = k; cols = r.cols; height = r.height; preimages = preimages_of r })) × (reduction_with r.cols r.height (preimages_of r) square.entry.content.kernel ≡ r)
read_as_quasi law table h s k q r there quasi kernel narrow narrow' kept square holds here bare =
    let m = over table.resolved in
    let a : Addition = record { s = s; above = k; cols = r.cols; height = r.height; preimages = preimages_of r } in
    let list = entries kept in
    let has = held_rows list table.rows holds in
    let l = is_within (row_in table.rows s) k q there in
    let reached = reached_there table h s k l in
    let content : square.entry.content ≡ q.content = same_Some square.entry.content q.content (sym (kept_entry kept s k square here) ∙ holds s k ∙ ap (option_map (λ (x : Placed). x.content)) there) in
    let images : q.content.images ≡ square.entry.content.images = ap (λ (c : Content). c.images) (sym content) in
    let kernel' : r.kernel ≡ square.entry.content.kernel = kernel ∙ ap (λ (c : Content). c.kernel) (sym content) in
    let rows = matrix_with m list s k square.entry.content.images in
    let matrix : square_matrix m (below_of (plain_rows table.rows) s k) (take k (row_of (plain_rows table.rows) s)) (content_at table.rows s k) ≡ rows =
    ap (λ c. square_matrix m (below_of (plain_rows table.rows) s k) (take k (row_of (plain_rows table.rows) s)) c) (content_at-is table.rows s k q there) ∙ sym (matrix_over table list has s k reached q.content.images) ∙ ap (matrix_with m list s k) images in
    let target : target_width m (below_of (plain_rows table.rows) s k) (take k (row_of (plain_rows table.rows) s)) ≡ target_dim m list s k = sym (target_dim_over table list has s k reached) in
    let wide = target_width m (below_of (plain_rows table.rows) s k) (take k (row_of (plain_rows table.rows) s)) in
    let is : IsReductionOf (target_dim m list s k) rows r = subst (λ n. IsReductionOf n rows r) target (subst (λ x. IsReductionOf wide x r) matrix quasi) in
    let parts1 = subst (λ n. AreReductionParts n rows r.image r.chosen r.kernel) (sym is.cols) (parts_of_reduction law (target_dim m list s k) rows r is) in
    let parts = subst (AreReductionParts r.cols rows r.image r.chosen) kernel' parts1 in
    let high = row_within table.rows s k l in
    let count = h.rows in
    let sum = parts.rank_and_nullity in
    let tall = is.height in
    let rules : HasAdditionRules m kept a = record {
      row = omega arith;
      degree = (h.placed s k q there).within;
      square = square;
      there = here;
      bare = bare;
      target = is.cols;
      source = is.height ∙ length-matrix_with m list s k square.entry.content.images;
      parts = parts;
    } in
    let fits : AdditionFits a = record { target = narrow; source = narrow'; image = omega arith } in
    (each_is_added m kept a rules fits, ap (reduction_with r.cols r.height (preimages_of r)) (sym kernel'))

-- bytes that are the body of a quasi-inverse of the table's square in row s and of degree t are read as it
pub quasi_read : PartsAreReduction → (table : Staircase) → IsTable table → (s k : ℕ) (t : ℤ) (q : Placed) (r : Reduction) (bytes : List ℕ) → t ≡ bottom_of table.resolved +ℤ pos k → square_at table s t ≡ Some q → IsQuasiAt table s t r → r.kernel ≡ q.content.kernel → r.cols < 2 ^ 64 → r.height < 2 ^ 64
    → bytes ≡ addition_bytes (record { s = s; above = k; cols = r.cols; height = r.height; preimages = preimages_of r }) → IsReadAsQuasi table s t bytes
quasi_read law table h s k t q r bytes degree found is kernel narrow narrow' e =
    let m = over table.resolved in
    let a : Addition = record { s = s; above = k; cols = r.cols; height = r.height; preimages = preimages_of r } in
    let there : slice_get (row_in table.rows s) k ≡ Some q = sym (square_at-above table s k t degree) ∙ found in
    let d = is.degree in
    let at : is.above ≡ k = omega (arith, ints) in
    let quasi = subst (λ n. IsQuasi m (below_of (plain_rows table.rows) s n) (take n (row_of (plain_rows table.rows) s)) (content_at table.rows s n) r) at is.quasi in
    record {
      above = k;
      degree = degree;
      quasi = r;
      is_quasi = is;
      addition = a;
      place = (refl, refl);
      read = λ kept square holds here bare.
          let p = read_as_quasi law table h s k q r there quasi kernel narrow narrow' kept square holds here bare in
          (ap (addition_in m kept) e ∙ p.0, p.1);
    }

-- the degree of the square that is there
pub degree_there : (table : Staircase) → IsTable table → (s : ℕ) (t : ℤ) (q : Placed) (r : Reduction) (k : ℕ) → square_at table s t ≡ Some q → k ≡ q.above → IsQuasiAt table s t r → t ≡ bottom_of table.resolved +ℤ pos k
degree_there table h s t q r k found e is =
    let there : slice_get (row_in table.rows s) is.above ≡ Some q = sym (square_at-above table s is.above t is.degree) ∙ found in
    let at : is.above ≡ k = sym (h.placed s is.above q there).above_is ∙ sym e in
    is.degree ∙ ap (λ n. bottom_of table.resolved +ℤ pos n) at
