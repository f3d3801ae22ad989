-- What is read of bytes behind the squares of a table, or why nothing is.
use Rattle.std.proofs.Common.{◌≡◌, ℕ, ◌+◌, ◌≤◌, ℤ, pos, ◌+ℤ◌, Bool, List, [], ◌∷◌, ◌++◌, length, take, Option, Some, None, IfSome, refl, sym, ◌∙◌, ap, subst, arith}
use Rattle.std.specs.Option.{option_map}
use Rattle.std.specs.Int.{w64}
use Rattle.std.proofs.lemmas.Int.{ints}
use Rattle.std.proofs.lemmas.Option.{IfSome_then}
use Rattle.bidegree.specs.declared.range.TheConstants.{MAX_S, MAX_T}
use Rattle.f2_vec.specs.Spans.{HaveWidth}
use Rattle.f2_matrix.specs.Echelon.{IsReduced, HasNoZeroRow}
use Rattle.f2_matrix.specs.Parts.{AreReductionParts}
use Rattle.f2_matrix.specs.Reduction.{Rows, Reduction, IsReductionOf}
use Rattle.resolution_laws.specs.Resolution.{Module, Content, row_of, below_of}
use Rattle.resolution_laws.specs.Start.{Entry}
use Rattle.square.specs.Squares.{Placed, entry_of, square_matrix, over, bottom_of}
use Rattle.square.specs.Tables.{Staircase, plain_rows, AllRead, IsNext, IsNextAt, IsTable, IsReadable, IsQuasiBehind, IsMatrixBehind, next_target_width, next_width}
use Rattle.save_file.specs.Bodies.{Preimages, body_bytes, Kept, kept_of, kept_in, reduction_with, preimages_of, matrix_with, HasRules}
use Rattle.save_file.specs.Reading.{number_at, body_at, square_in}
use Rattle.save_file.specs.Saved.{IsDecodedSquare}
use Rattle.save_file.specs.Laws.{FitNumbers}
use Rattle.save_file.specs.Inside.Outline.{end_of, PackedPair, Outline, outline_at, IsWhole, AreUnpacked, IsPlaceFor, HasDimensions, ArePackedParts}
use Rattle.save_journal.specs.Laws.{AreBytes}
use Rattle.save_journal.proofs.Bytes.{number_below}
use Rattle.save_file.proofs.Unpacking.{unpacked_once}
use Rattle.save_file.proofs.Outlines.{pair_of_whole}
use Rattle.save_file.proofs.Reductions.{other_count}
use Rattle.save_file.proofs.Bodies.{ArePreimagesOf, of_itself, body_with, whole_body, end_at}
use Rattle.save_file.proofs.Rules.{length-matrix_with, nothing_read, each_is_read}
use Rattle.save_file.proofs.Entries.{reached_next, matrix_at_is, next_place, place_next, target_dim_is, source_dim_is}

-- ---- why nothing is read

pub not_whole : (m : Module) (list : List Entry) (bytes : List ℕ) → (IsWhole bytes → ⊥) → square_in m list bytes ≡ None
not_whole m list bytes none = nothing_read m list bytes (λ is_body rules. none (of_itself bytes is_body).whole)

pub not_next : (table : Staircase) → IsTable table → AllRead table.rows → (bytes : List ℕ) (o : Outline) → o ≡ outline_at bytes → (o.s ≤ MAX_S → o.above ≤ MAX_T → IsNext table.rows o.s o.above → ⊥) → square_in (over table.resolved) table.start bytes ≡ None
not_next table h read bytes o e none =
    let here = subst (λ (x : Outline). x.s ≤ MAX_S → x.above ≤ MAX_T → IsNext table.rows x.s x.above → ⊥) e none in
    nothing_read (over table.resolved) table.start bytes (λ is_body rules. here rules.row rules.degree (place_next table h read (body_at bytes).s (body_at bytes).above rules.place))

kernel_cols : (bytes : List ℕ) → (body_at bytes).kernel.cols ≡ (outline_at bytes).kernel.cols
kernel_cols bytes = ap (λ p. number_at w64 (p + 8) bytes) (end_at 5 bytes)

pub not_fitting : (table : Staircase) → IsTable table → AllRead table.rows → (bytes : List ℕ) (o : Outline) → o ≡ outline_at bytes → (HasDimensions table o → ⊥) → square_in (over table.resolved) table.start bytes ≡ None
not_fitting table h read bytes o e none =
    let m = over table.resolved in
    let here = subst (λ (x : Outline). HasDimensions table x → ⊥) e none in
    nothing_read m table.start bytes (λ is_body rules.
    let b = body_at bytes in
    let itself = of_itself bytes is_body in
    let next = place_next table h read b.s b.above rules.place in
    let height = itself.images.as_many in
    let height' = itself.kernel.as_many in
    let cols = kernel_cols bytes in
    let few = rules.images_few in
    let few' = rules.kernel_few in
    here (record {
      target = rules.target ∙ target_dim_is table h read b.s b.above next;
      images_few = omega arith;
      source = sym cols ∙ rules.source ∙ source_dim_is table h read b.s b.above (length b.images.rows) next ∙ ap (next_width table b.s b.above) height;
      kernel_few = omega arith;
    }))

pub no_images : (m : Module) (list : List Entry) (bytes : List ℕ) (o : Outline) → o ≡ outline_at bytes → ((rows : List (List Bool)) → AreUnpacked o.images rows → ⊥) → square_in m list bytes ≡ None
no_images m list bytes o e none =
    let here = subst (λ (x : Outline). (rows : List (List Bool)) → AreUnpacked x.images rows → ⊥) e none in
    nothing_read m list bytes (λ is_body rules. here (body_at bytes).images.rows (of_itself bytes is_body).images)

pub no_kernel : (m : Module) (list : List Entry) (bytes : List ℕ) (o : Outline) → o ≡ outline_at bytes → ((rows : List (List Bool)) → AreUnpacked o.kernel rows → ⊥) → square_in m list bytes ≡ None
no_kernel m list bytes o e none =
    let here = subst (λ (x : Outline). (rows : List (List Bool)) → AreUnpacked x.kernel rows → ⊥) e none in
    nothing_read m list bytes (λ is_body rules. here (body_at bytes).kernel.rows (of_itself bytes is_body).kernel)

-- ---- what was found

-- the parts of the bytes at their place in the table, with their rows
pub record IsFound (table : Staircase) (bytes : List ℕ) (o : Outline) (t : ℤ) (images kernel : List (List Bool)) : Type 0 where
  pub whole : IsWhole bytes
  pub are_bytes : AreBytes bytes
  pub place : IsPlaceFor table o.s o.above t
  pub dimensions : HasDimensions table o
  pub images_are : AreUnpacked o.images images
  pub kernel_is : AreUnpacked o.kernel kernel

-- the rows that the body at their places would have
pub record AreThose (bytes : List ℕ) (images kernel : List (List Bool)) : Type 0 where
  pub images_are : (body_at bytes).images.rows ≡ images
  pub kernel_is : (body_at bytes).kernel.rows ≡ kernel

those_found : (table : Staircase) (bytes : List ℕ) (t : ℤ) (images kernel : List (List Bool)) → IsFound table bytes (outline_at bytes) t images kernel → bytes ≡ body_bytes (body_at bytes) → AreThose bytes images kernel
those_found table bytes t images kernel f is_body =
    let itself = of_itself bytes is_body in
    let o = outline_at bytes in
    record {
      images_are = unpacked_once o.images.cols (body_at bytes).images.rows images itself.images.widths f.images_are.widths (itself.images.as_many ∙ sym f.images_are.as_many) (itself.images.bytes ∙ sym f.images_are.bytes);
      kernel_is = unpacked_once o.kernel.cols (body_at bytes).kernel.rows kernel itself.kernel.widths f.kernel_is.widths (itself.kernel.as_many ∙ sym f.kernel_is.as_many) (itself.kernel.bytes ∙ sym f.kernel_is.bytes);
    }

pub not_basis : (table : Staircase) (bytes : List ℕ) (o : Outline) (t : ℤ) (images kernel : List (List Bool)) → o ≡ outline_at bytes → IsFound table bytes o t images kernel → (IsReduced kernel × HasNoZeroRow kernel → ⊥) → square_in (over table.resolved) table.start bytes ≡ None
not_basis table bytes o t images kernel e found none =
    let f = subst (λ (x : Outline). IsFound table bytes x t images kernel) e found in
    nothing_read (over table.resolved) table.start bytes (λ is_body rules.
    let those = those_found table bytes t images kernel f is_body in
    let P : List (List Bool) → Type 0 = λ rows. IsReduced rows × HasNoZeroRow rows in
    none (subst P those.kernel_is (rules.reduced, rules.nonzero)))

-- ---- the parts of a reduction

-- the images are as long as the target has dimensions
pub images_wide : (table : Staircase) (bytes : List ℕ) (o : Outline) (t : ℤ) (images kernel : List (List Bool)) → IsFound table bytes o t images kernel → (k : ℕ) → t ≡ bottom_of table.resolved +ℤ pos k → HaveWidth (next_target_width table o.s k) images
images_wide table bytes o t images kernel found k degree =
    let there = found.place.degree in
    let at : o.above ≡ k = omega (arith, ints) in
    subst (λ n. HaveWidth (next_target_width table o.s n) images) at (subst (λ n. HaveWidth n images) found.dimensions.target found.images_are.widths)

-- the matrix of d_s with these generators, where the next square of the row is
pub matrix_here : (table : Staircase) → IsTable table → AllRead table.rows → (s k : ℕ) (t : ℤ) (images : List (List Bool)) (matrix : Rows) → IsPlaceFor table s k t → IsMatrixBehind table s t images matrix → matrix.rows ≡ matrix_with (over table.resolved) table.start s k images
matrix_here table h read s k t images matrix place is =
    let there = place.degree in
    let here = is.degree in
    let at : is.above ≡ k = omega (arith, ints) in
    let m = over table.resolved in
    let rows = plain_rows table.rows in
    let c : Content = record { images = images; kernel = [] } in
    is.rows ∙ ap (λ n. square_matrix m (below_of rows s n) (take n (row_of rows s)) c) at ∙ sym (matrix_at_is table h read s k (reached_next table s k place.next) images)

pub cols_here : (table : Staircase) (s k : ℕ) (t : ℤ) (images : List (List Bool)) (matrix : Rows) → IsPlaceFor table s k t → IsMatrixBehind table s t images matrix → matrix.cols ≡ next_target_width table s k
cols_here table s k t images matrix place is =
    let there = place.degree in
    let here = is.degree in
    let at : is.above ≡ k = omega (arith, ints) in
    is.cols ∙ ap (next_target_width table s) at

-- packed rows and kernel rows are as long as the matrix has columns and rows
pub record FitsMatrix (p : PackedPair) (matrix : Rows) (kernel : List (List Bool)) : Type 0 where
  pub cols : p.image.cols ≡ matrix.cols
  pub height : p.chosen.cols ≡ length matrix.rows
  pub widths : HaveWidth (length matrix.rows) kernel

pub fits_next : (table : Staircase) → IsTable table → AllRead table.rows → (bytes : List ℕ) (o : Outline) (t : ℤ) (images kernel : List (List Bool)) (p : PackedPair) (matrix : Rows) → o ≡ outline_at bytes → IsFound table bytes o t images kernel → o.quasi ≡ Some p → IsMatrixBehind table o.s t images matrix → FitsMatrix p matrix kernel
fits_next table h read bytes o t images kernel p matrix e found some is =
    let pair = pair_of_whole bytes o p found.whole e some in
    let rows = matrix_here table h read o.s o.above t images matrix found.place is in
    let tall : o.kernel.cols ≡ length matrix.rows =
    found.dimensions.source ∙ ap (next_width table o.s o.above) (sym found.images_are.as_many) ∙ sym (source_dim_is table h read o.s o.above (length images) found.place.next) ∙ sym (length-matrix_with (over table.resolved) table.start o.s o.above images) ∙ sym (ap length rows) in
    record {
      cols = pair.image_cols ∙ found.dimensions.target ∙ sym (cols_here table o.s o.above t images matrix found.place is);
      height = pair.chosen_cols ∙ tall;
      widths = subst (λ n. HaveWidth n kernel) tall found.kernel_is.widths;
    }

-- where no rows are packed so that are its parts, nothing is read
pub no_parts : (table : Staircase) → IsTable table → AllRead table.rows → (bytes : List ℕ) (o : Outline) (t : ℤ) (images kernel : List (List Bool)) (p : PackedPair) (matrix : Rows) → o ≡ outline_at bytes → IsFound table bytes o t images kernel → o.quasi ≡ Some p → IsMatrixBehind table o.s t images matrix
    → ((image chosen : List (List Bool)) → ArePackedParts p matrix image chosen kernel → ⊥) → square_in (over table.resolved) table.start bytes ≡ None
no_parts table h read bytes o t images kernel p matrix e found some is none =
    let m = over table.resolved in
    let f = subst (λ (x : Outline). IsFound table bytes x t images kernel) e found in
    let b = body_at bytes in
    let o' = outline_at bytes in
    let is' = subst (λ (x : Outline). IsMatrixBehind table x.s t images matrix) e is in
    let there : o'.quasi ≡ Some p = sym (ap (λ (x : Outline). x.quasi) e) ∙ some in
    nothing_read m table.start bytes (λ is_body rules.
    let those = those_found table bytes t images kernel f is_body in
    let pair : ArePreimagesOf (Some p) b.quasi = subst (λ x. ArePreimagesOf x b.quasi) there (of_itself bytes is_body).quasi in
    let cols : b.images.cols ≡ matrix.cols = f.dimensions.target ∙ sym (cols_here table o'.s o'.above t images matrix f.place is') in
    let rows : matrix_with m table.start b.s b.above b.images.rows ≡ matrix.rows = ap (matrix_with m table.start b.s b.above) those.images_are ∙ sym (matrix_here table h read o'.s o'.above t images matrix f.place is') in
    from b.images.cols (matrix_with m table.start b.s b.above b.images.rows) b.kernel.rows b.quasi pair cols rows those.kernel_is rules.parts)
  where
    from : (w : ℕ) (rows kernel' : List (List Bool)) (q : Option Preimages) → ArePreimagesOf (Some p) q → w ≡ matrix.cols → rows ≡ matrix.rows → kernel' ≡ kernel → IfSome q (λ x. AreReductionParts w rows x.image x.chosen kernel') → ⊥
    from w rows kernel' None pair e1 e2 e3 parts = pair
    from w rows kernel' (Some x) pair e1 e2 e3 parts =
        let one = subst (λ n. AreReductionParts n rows x.image x.chosen kernel') e1 parts in
        let two = subst (λ r. AreReductionParts matrix.cols r x.image x.chosen kernel') e2 one in
        none x.image x.chosen (record { image_rows = pair.image; chosen_rows = pair.chosen; parts = subst (AreReductionParts matrix.cols matrix.rows x.image x.chosen) e3 two })

-- where the image rows and the kernel rows are not as many as the matrix has rows, nothing is read
pub no_count : (table : Staircase) → IsTable table → AllRead table.rows → (bytes : List ℕ) (o : Outline) (t : ℤ) (images kernel : List (List Bool)) (p : PackedPair) → o ≡ outline_at bytes → IsFound table bytes o t images kernel → o.quasi ≡ Some p → (p.image.height + o.kernel.height ≡ p.chosen.cols → ⊥) → square_in (over table.resolved) table.start bytes ≡ None
no_count table h read bytes o t images kernel p e found some differ =
    let rows = plain_rows table.rows in
    let matrix : Rows = record { cols = next_target_width table o.s o.above; rows = square_matrix (over table.resolved) (below_of rows o.s o.above) (take o.above (row_of rows o.s)) (record { images = images; kernel = [] }) } in
    let is : IsMatrixBehind table o.s t images matrix = record { above = o.above; degree = found.place.degree; cols = refl; rows = refl } in
    let fits = fits_next table h read bytes o t images kernel p matrix e found some is in
    let count = found.kernel_is.as_many in
    no_parts table h read bytes o t images kernel p matrix e found some is (other_count p matrix kernel fits.height (λ sum. differ (ap (λ n. p.image.height + n) (sym count) ∙ sum)))

-- ---- what is read

-- the rows behind the kernel rows, if there are any
abbrev pub PartsAt : Staircase → Outline → List (List Bool) → List (List Bool) → Option Preimages → Type 0
PartsAt table o images kernel q = IfSome q (λ p. AreReductionParts o.images.cols (matrix_with (over table.resolved) table.start o.s o.above images) p.image p.chosen kernel)

-- no more image rows than the matrix has rows
few_images : (w : ℕ) (rows kernel : List (List Bool)) (q : Option Preimages) → IfSome q (λ p. AreReductionParts w rows p.image p.chosen kernel) → IfSome q (λ p. length p.image ≤ length rows)
few_images w rows kernel None parts = tt
few_images w rows kernel (Some p) parts = let sum = parts.rank_and_nullity in omega arith

-- what a square is read from: its rows, and the parts of its reduction if there are any
pub record IsWhollyFound (table : Staircase) (bytes : List ℕ) (o : Outline) (t : ℤ) (images kernel : List (List Bool)) (quasi : Option Preimages) : Type 0 where
  pub found : IsFound table bytes o t images kernel
  pub reduced : IsReduced kernel
  pub nonzero : HasNoZeroRow kernel
  pub pair : ArePreimagesOf o.quasi quasi
  pub parts : PartsAt table o images kernel quasi

-- a square without a quasi-inverse
pub found_bare : (table : Staircase) (bytes : List ℕ) (o : Outline) (t : ℤ) (images kernel : List (List Bool)) → IsFound table bytes o t images kernel → IsReduced kernel → HasNoZeroRow kernel → o.quasi ≡ None → IsWhollyFound table bytes o t images kernel None
found_bare table bytes o t images kernel found reduced nonzero none = record { found = found; reduced = reduced; nonzero = nonzero; pair = subst (λ x. ArePreimagesOf x None) (sym none) tt; parts = tt }

module _ (table : Staircase) (h : IsTable table) (read : AllRead table.rows) (bytes : List ℕ) (t : ℤ) (images kernel : List (List Bool)) (quasi : Option Preimages) (f : IsWhollyFound table bytes (outline_at bytes) t images kernel quasi) where
  body_found : bytes ≡ body_bytes (body_with bytes images kernel quasi)
  body_found = whole_body bytes images kernel quasi f.found.whole f.found.are_bytes f.found.images_are f.found.kernel_is f.pair

  rules_found : HasRules (over table.resolved) table.start (body_with bytes images kernel quasi)
  rules_found =
      let b = body_with bytes images kernel quasi in
      let d = f.found.dimensions in
      let count = f.found.images_are.as_many in
      let count' = f.found.kernel_is.as_many in
      let few = d.images_few in
      let few' = d.kernel_few in
      let next = f.found.place.next in
      record {
        row = f.found.place.row;
        degree = f.found.place.within;
        place = next_place table h read b.s b.above next;
        target = d.target ∙ sym (target_dim_is table h read b.s b.above next);
        images_few = omega arith;
        source = d.source ∙ ap (next_width table b.s b.above) (sym count) ∙ sym (source_dim_is table h read b.s b.above (length images) next);
        kernel_few = omega arith;
        image_widths = f.found.images_are.widths;
        kernel_widths = f.found.kernel_is.widths;
        reduced = f.reduced;
        nonzero = f.nonzero;
        parts = f.parts;
      }

  numbers_found : FitNumbers (body_with bytes images kernel quasi)
  numbers_found =
      let b = body_with bytes images kernel quasi in
      let m = over table.resolved in
      let narrow' = number_below (end_of 5 bytes + 8) bytes f.found.are_bytes in
      let tall = length-matrix_with m table.start b.s b.above images in
      let source = rules_found.source in
      record {
        target = number_below 13 bytes f.found.are_bytes;
        source = narrow';
        image = IfSome_then quasi (few_images b.images.cols (matrix_with m table.start b.s b.above images) kernel quasi f.parts) (λ p l. omega arith);
      }

  square_here : square_in (over table.resolved) table.start bytes ≡ Some (kept_in (body_with bytes images kernel quasi))
  square_here = ap (square_in (over table.resolved) table.start) body_found ∙ each_is_read (over table.resolved) table.start (body_with bytes images kernel quasi) rules_found numbers_found

-- the square that the parts of the bytes give
abbrev pub kept_found : Outline → List (List Bool) → List (List Bool) → Option Preimages → Kept
kept_found o images kernel quasi = record {
  entry = record { s = o.s; above = o.above; content = record { images = images; kernel = kernel } };
  quasi = option_map (λ p. reduction_with o.images.cols o.kernel.cols p kernel) quasi;
}

pub square_found : (table : Staircase) → IsTable table → AllRead table.rows → (bytes : List ℕ) (o : Outline) (t : ℤ) (images kernel : List (List Bool)) (quasi : Option Preimages) → o ≡ outline_at bytes → IsWhollyFound table bytes o t images kernel quasi → square_in (over table.resolved) table.start bytes ≡ Some (kept_found o images kernel quasi)
square_found table h read bytes o t images kernel quasi e f =
    let here = subst (λ (x : Outline). IsWhollyFound table bytes x t images kernel quasi) e f in
    square_here table h read bytes t images kernel quasi here ∙ ap (λ (x : Outline). Some (kept_found x images kernel quasi)) (sym e)

abbrev pub place_at : (table : Staircase) (s above : ℕ) (t : ℤ) → IsPlaceFor table s above t → IsNextAt table s t
place_at table s above t p = record { above = above; degree = p.degree; row = p.row; within = p.within; next = p.next }

pub is_readable : (table : Staircase) → AllRead table.rows → (bytes : List ℕ) (o : Outline) (t : ℤ) (images kernel : List (List Bool)) → o ≡ outline_at bytes → IsFound table bytes o t images kernel → IsReduced kernel → HasNoZeroRow kernel → IsReadable table o.s t (record { images = images; kernel = kernel })
is_readable table read bytes o t images kernel e found reduced nonzero =
    let f = subst (λ (x : Outline). IsFound table bytes x t images kernel) e found in
    let cols : o.images.cols ≡ (outline_at bytes).images.cols = ap (λ (x : Outline). x.images.cols) e in
    let cols' : o.kernel.cols ≡ (outline_at bytes).kernel.cols = ap (λ (x : Outline). x.kernel.cols) e in
    let count = found.images_are.as_many in
    let few = found.dimensions.images_few in
    let target = found.dimensions.target in
    let source : o.kernel.cols ≡ next_width table o.s o.above (length images) = found.dimensions.source ∙ ap (next_width table o.s o.above) (sym count) in
    let narrow = number_below 13 bytes f.are_bytes in
    let narrow' = number_below (end_of 5 bytes + 8) bytes f.are_bytes in
    record {
      all_read = read;
      place = place_at table o.s o.above t found.place;
      shape = record {
        image_widths = subst (λ n. HaveWidth n images) target found.images_are.widths;
        images_few = omega arith;
        kernel_widths = subst (λ n. HaveWidth n kernel) source found.kernel_is.widths;
        reduced = reduced;
        nonzero = nonzero;
      };
      target_fits = omega arith;
      source_fits = omega arith;
    }

-- the square that was made of them
pub decoded : (table : Staircase) → IsTable table → AllRead table.rows → (bytes : List ℕ) (o : Outline) (t : ℤ) (images kernel : List (List Bool)) (quasi : Option Preimages) → o ≡ outline_at bytes → IsWhollyFound table bytes o t images kernel quasi
    → (q : Placed) → q.resolved ≡ table.resolved → q.start ≡ table.start ++ entry_of q ∷ [] → q.s ≡ o.s → t ≡ bottom_of table.resolved +ℤ pos q.above → q.content ≡ record { images = images; kernel = kernel } → q.quasi ≡ (kept_found o images kernel quasi).quasi → IsDecodedSquare table bytes q
decoded table h read bytes o t images kernel quasi e f q resolved start s degree content same_quasi =
    let there = f.found.place.degree in
    let above : o.above ≡ q.above = omega (arith, ints) in
    let made = λ (i k : ℕ) (c : Content) (r : Option Reduction). let x : Kept = record { entry = record { s = i; above = k; content = c }; quasi = r } in x in
    let c : Content = record { images = images; kernel = kernel } in
    let r = (kept_found o images kernel quasi).quasi in
    let same : kept_found o images kernel quasi ≡ kept_of q = ap (λ n. made n o.above c r) (sym s) ∙ ap (λ n. made q.s n c r) above ∙ ap (λ x. made q.s q.above x r) (sym content) ∙ ap (made q.s q.above q.content) (sym same_quasi) in
    record {
      square = square_found table h read bytes o t images kernel quasi e f ∙ ap (λ (x : Kept). Some x) same;
      resolved = resolved;
      start = start;
      next = subst (λ n. IsNext table.rows q.s n) above (subst (λ n. IsNext table.rows n o.above) (sym s) f.found.place.next);
    }

-- ---- a reduction that was put together of its parts

-- what `reduction` gives, where the next square of the row is
pub record IsReductionHere (table : Staircase) (o : Outline) (t : ℤ) (images kernel : List (List Bool)) (p : PackedPair) (r : Reduction) : Type 0 where
  pub matrix : Rows
  pub is_matrix : IsMatrixBehind table o.s t images matrix
  pub parts : ArePackedParts p matrix r.image r.chosen r.kernel
  pub kernel_is : r.kernel ≡ kernel
  pub reduction : IsReductionOf matrix.cols matrix.rows r

module _ (table : Staircase) (h : IsTable table) (read : AllRead table.rows) (bytes : List ℕ) (o : Outline) (t : ℤ) (images kernel : List (List Bool)) (e : o ≡ outline_at bytes) (found : IsFound table bytes o t images kernel) (p : PackedPair) (some : o.quasi ≡ Some p) (r : Reduction) (is : IsReductionHere table o t images kernel p r) where
  matrix_found : is.matrix.rows ≡ matrix_with (over table.resolved) table.start o.s o.above images
  matrix_found = matrix_here table h read o.s o.above t images is.matrix found.place is.is_matrix

  cols_found : is.matrix.cols ≡ o.images.cols
  cols_found = cols_here table o.s o.above t images is.matrix found.place is.is_matrix ∙ sym found.dimensions.target

  height_found : length is.matrix.rows ≡ o.kernel.cols
  height_found =
      ap length matrix_found ∙ length-matrix_with (over table.resolved) table.start o.s o.above images ∙ source_dim_is table h read o.s o.above (length images) found.place.next
      ∙ ap (next_width table o.s o.above) found.images_are.as_many ∙ sym found.dimensions.source

  pub wholly_found : IsReduced kernel → HasNoZeroRow kernel → IsWhollyFound table bytes o t images kernel (Some (preimages_of r))
  wholly_found reduced nonzero =
      let parts1 = subst (λ n. AreReductionParts n is.matrix.rows r.image r.chosen r.kernel) cols_found is.parts.parts in
      let parts2 = subst (λ x. AreReductionParts o.images.cols x r.image r.chosen r.kernel) matrix_found parts1 in
      record {
        found = found;
        reduced = reduced;
        nonzero = nonzero;
        pair = subst (λ x. ArePreimagesOf x (Some (preimages_of r))) (sym some) (record { image = is.parts.image_rows; chosen = is.parts.chosen_rows });
        parts = subst (AreReductionParts o.images.cols (matrix_with (over table.resolved) table.start o.s o.above images) r.image r.chosen) is.kernel_is parts2;
      }

  pub reduction_is : Some r ≡ (kept_found o images kernel (Some (preimages_of r))).quasi
  reduction_is =
      let made = λ (w v : ℕ) (k : List (List Bool)). reduction_with w v (preimages_of r) k in
      ap (λ (x : Reduction). Some x) (ap (λ w. made w r.height r.kernel) (is.reduction.cols ∙ cols_found) ∙ ap (λ v. made o.images.cols v r.kernel) (is.reduction.height ∙ height_found) ∙ ap (made o.images.cols o.kernel.cols) is.kernel_is)

  pub is_quasi_behind : IsQuasiBehind table o.s t (record { images = images; kernel = kernel }) r
  is_quasi_behind = record {
    above = is.is_matrix.above;
    degree = is.is_matrix.degree;
    quasi =
        let k = is.is_matrix.above in
        let rows = square_matrix (over table.resolved) (below_of (plain_rows table.rows) o.s k) (take k (row_of (plain_rows table.rows) o.s)) (record { images = images; kernel = [] }) in
        subst (λ n. IsReductionOf n rows r) is.is_matrix.cols (subst (λ x. IsReductionOf is.matrix.cols x r) is.is_matrix.rows is.reduction);
    kernel = is.kernel_is;
  }
