-- What is read of bytes as a quasi-inverse of a square of a table, or why nothing is.
use Rattle.std.proofs.Common.{◌≡◌, ℕ, ◌+◌, ◌<◌, ◌≤◌, ℤ, pos, ◌+ℤ◌, Bool, true, List, length, take, Option, Some, None, MatchOption, IsSome, refl, sym, ◌∙◌, ap, subst, arith}
use Rattle.std.specs.Prelude.{slice_get}
use Rattle.std.proofs.lemmas.Int.{ints}
use Rattle.std.proofs.lemmas.Option.{same_Some, none-some}
use Rattle.f2_vec.specs.Spans.{HaveWidth}
use Rattle.f2_matrix.specs.Echelon.{IsReduced, HasNoZeroRow}
use Rattle.f2_matrix.specs.Parts.{AreReductionParts}
use Rattle.f2_matrix.specs.Reduction.{Rows, Reduction, IsReductionOf}
use Rattle.f2_matrix.proofs.Unique.{kernel_basis_unique}
use Rattle.resolution_laws.specs.Resolution.{Module, Content, row_of, below_of}
use Rattle.finite_module.specs.Checked.{Checked}
use Rattle.resolution_laws.specs.Start.{Entry, entry_at, squares_below, row_below, IsOf, AreBefore}
use Rattle.resolution_laws.proofs.StartLaws.{IsOf-over, squares_below-same, row_below-same}
use Rattle.resolution_laws.proofs.StartTables.{start_table_shape}
use Rattle.square.specs.Squares.{Placed, AreWidths, target_width, source_width, square_matrix, over, bottom_of}
use Rattle.square.specs.Tables.{Staircase, row_in, plain_rows, content_at, square_at, AllRead, IsTable, IsMatrixAt, next_target_width, next_width}
use Rattle.square.proofs.Places.{content_at-is, table_content, table_before, table_below, table_under}
use Rattle.square.proofs.ByDegree.{square_at-above}
use Rattle.square.proofs.Found.{row_within}
use Rattle.save_file.specs.Bodies.{Kept, entries, kept_at, preimages_of, reduction_with, Addition, addition_bytes, target_dim, source_dim, matrix_with, HasAdditionRules}
use Rattle.save_file.specs.Reading.{addition_at, addition_in, has_addition_rules, reduction_of_square}
use Rattle.save_file.specs.Saved.{kept_of_table, IsDecodedQuasi}
use Rattle.save_file.specs.Laws.{AdditionFits}
use Rattle.save_file.specs.Inside.Outline.{AdditionOutline, addition_outline_at, IsWholeAddition, IsBareAt, ArePackedParts}
use Rattle.save_file.proofs.Inverting.{is_quasi_at}
use Rattle.save_file.proofs.Reductions.{other_count}
use Rattle.save_journal.specs.Laws.{AreBytes}
use Rattle.save_journal.proofs.Bytes.{number_below}
use Rattle.save_file.proofs.Bodies.{addition_itself, addition_with, whole_addition, wide_addition}
use Rattle.save_file.proofs.Rules.{HasBasis, HaveBases, length-matrix_with, addition_tested, nothing_added, each_is_added}
use Rattle.save_file.proofs.Entries.{is_within, reached_there, target_dim_at, source_dim_at, matrix_at_is, entry_there, entries_of_table, kept_there, kept_is_there}

-- ---- the kernel rows of the squares of a table

table_bases : (table : Staircase) → IsTable table → AllRead table.rows → HaveBases (over table.resolved) table.start
table_bases table h read s k c there =
    let m = over table.resolved in
    let l = h.started s k c there in
    let reached = reached_there table h s k l in
    let at = content_at table.rows in
    let same : at s k ≡ c = same_Some (at s k) c (sym (entry_there table h read s k l) ∙ there) in
    let under = table_under table h s k reached.before reached.below in
    let shape = start_table_shape kernel_basis_unique m table.start s k at (at s k) under (table_content table h s k l) in
    let width : source_width m (squares_below at s k) (at s k) ≡ source_dim m table.start s k (length (at s k).images) = ap (λ squares. source_width m squares (at s k)) (table_before table.rows s k reached.before) ∙ sym (source_dim_at table h read s k reached (length (at s k).images)) in
    subst (HasBasis m table.start s k) same (record { widths = subst (λ n. HaveWidth n (at s k).kernel) width shape.kernel_widths; reduced = shape.reduced; nonzero = shape.nonzero })

bases_of_table : (table : Staircase) → IsTable table → AllRead table.rows → HaveBases (over table.resolved) (entries (kept_of_table table))
bases_of_table table h read = subst (HaveBases (over table.resolved)) (sym (entries_of_table table)) (table_bases table h read)

-- ---- the rules, over the squares of a table

-- the body is of a quasi-inverse of the square q
pub record IsFor (table : Staircase) (a : Addition) (q : Placed) : Type 0 where
  pub there : slice_get (row_in table.rows a.s) a.above ≡ Some q
  pub bare : q.quasi ≡ None
  pub target : a.cols ≡ next_target_width table a.s a.above
  pub source : a.height ≡ next_width table a.s a.above (length q.content.images)
  pub parts : AreReductionParts a.cols (matrix_with (over table.resolved) table.start a.s a.above q.content.images) a.preimages.image a.preimages.chosen q.content.kernel

-- a square that is kept as it stands in the table
abbrev pub kept_as : ℕ → ℕ → Placed → Kept
kept_as s k q = record { entry = record { s = s; above = k; content = q.content }; quasi = q.quasi }

pub rules_there : (table : Staircase) → IsTable table → AllRead table.rows → (a : Addition) → HasAdditionRules (over table.resolved) (kept_of_table table) a → (q : Placed) × IsFor table a q
rules_there table h read a rules =
    let m = over table.resolved in
    let found = kept_is_there table h a.s a.above rules.square rules.there in
    let q = found.0 in
    let l = is_within (row_in table.rows a.s) a.above q found.1 in
    let reached = reached_there table h a.s a.above l in
    let same : rules.square ≡ kept_as a.s a.above q = same_Some rules.square (kept_as a.s a.above q) (sym rules.there ∙ kept_there table h read a.s a.above q found.1) in
    let list : entries (kept_of_table table) ≡ table.start = entries_of_table table in
    let target : a.cols ≡ target_dim m table.start a.s a.above = rules.target ∙ ap (λ (x : List Entry). target_dim m x a.s a.above) list in
    let source : a.height ≡ source_dim m table.start a.s a.above (length q.content.images) = rules.source ∙ ap (λ (x : List Entry). source_dim m x a.s a.above (length rules.square.entry.content.images)) list ∙ ap (λ (x : Kept). source_dim m table.start a.s a.above (length x.entry.content.images)) same in
    let parts1 = subst (λ (x : List Entry). AreReductionParts a.cols (matrix_with m x a.s a.above rules.square.entry.content.images) a.preimages.image a.preimages.chosen rules.square.entry.content.kernel) list rules.parts in
    let parts2 = subst (λ (x : Kept). AreReductionParts a.cols (matrix_with m table.start a.s a.above x.entry.content.images) a.preimages.image a.preimages.chosen x.entry.content.kernel) same parts1 in (
      q,
      record {
        there = found.1;
        bare = sym (ap (λ (x : Kept). x.quasi) same) ∙ rules.bare;
        target = target ∙ target_dim_at table h read a.s a.above reached;
        source = source ∙ source_dim_at table h read a.s a.above reached (length q.content.images);
        parts = parts2;
      },
    )

pub there_rules : (table : Staircase) → IsTable table → AllRead table.rows → (a : Addition) (q : Placed) → IsFor table a q → HasAdditionRules (over table.resolved) (kept_of_table table) a
there_rules table h read a q f =
    let m = over table.resolved in
    let l = is_within (row_in table.rows a.s) a.above q f.there in
    let reached = reached_there table h a.s a.above l in
    let list : table.start ≡ entries (kept_of_table table) = sym (entries_of_table table) in
    let high = row_within table.rows a.s a.above l in
    let rows = h.rows in
    let target : a.cols ≡ target_dim m table.start a.s a.above = f.target ∙ sym (target_dim_at table h read a.s a.above reached) in
    let source : a.height ≡ source_dim m table.start a.s a.above (length q.content.images) = f.source ∙ sym (source_dim_at table h read a.s a.above reached (length q.content.images)) in
    record {
      row = omega arith;
      degree = (h.placed a.s a.above q f.there).within;
      square = kept_as a.s a.above q;
      there = kept_there table h read a.s a.above q f.there;
      bare = f.bare;
      target = target ∙ ap (λ (x : List Entry). target_dim m x a.s a.above) list;
      source = source ∙ ap (λ (x : List Entry). source_dim m x a.s a.above (length q.content.images)) list;
      parts = subst (λ (x : List Entry). AreReductionParts a.cols (matrix_with m x a.s a.above q.content.images) a.preimages.image a.preimages.chosen q.content.kernel) list f.parts;
    }

-- what bytes with the rules are for
rules_for : (table : Staircase) → IsTable table → AllRead table.rows → (bytes : List ℕ) → has_addition_rules (over table.resolved) (kept_of_table table) (addition_at bytes) ≡ true → (q : Placed) × IsFor table (addition_at bytes) q
rules_for table h read bytes rules =
    let wide = wide_addition bytes in
    rules_there table h read (addition_at bytes) (addition_tested (over table.resolved) (kept_of_table table) (addition_at bytes) (bases_of_table table h read) wide.0 wide.1 rules)

-- ---- why nothing is read

pub not_whole_addition : (m : Module) (kept : List Kept) (bytes : List ℕ) → (IsWholeAddition bytes → ⊥) → addition_in m kept bytes ≡ None
not_whole_addition m kept bytes none = nothing_added m kept bytes (λ is_body rules. none (addition_itself bytes is_body).whole)

pub no_bare : (table : Staircase) → IsTable table → AllRead table.rows → (bytes : List ℕ) (o : AdditionOutline) → o ≡ addition_outline_at bytes → ((q : Placed) → IsBareAt table o q → ⊥) → addition_in (over table.resolved) (kept_of_table table) bytes ≡ None
no_bare table h read bytes o e none =
    let here = subst (λ (x : AdditionOutline). (q : Placed) → IsBareAt table x q → ⊥) e none in
    nothing_added (over table.resolved) (kept_of_table table) bytes (λ is_body rules.
    let found = rules_for table h read bytes rules in
    here found.0 (record { there = found.1.there; bare = found.1.bare; target = found.1.target; source = found.1.source }))

-- the matrix of d_s with the generators of the square there
matrix_of_square : (table : Staircase) → IsTable table → AllRead table.rows → (s k : ℕ) (t : ℤ) (q : Placed) (matrix : Rows) → slice_get (row_in table.rows s) k ≡ Some q → t ≡ bottom_of table.resolved +ℤ pos k → IsMatrixAt table s t matrix → matrix.rows ≡ matrix_with (over table.resolved) table.start s k q.content.images
matrix_of_square table h read s k t q matrix there degree is =
    let m = over table.resolved in
    let here = is.degree in
    let at : is.above ≡ k = omega (arith, ints) in
    let rows = plain_rows table.rows in
    let l = is_within (row_in table.rows s) k q there in
    is.rows ∙ ap (λ n. square_matrix m (below_of rows s n) (take n (row_of rows s)) (content_at table.rows s n)) at
    ∙ ap (λ c. square_matrix m (below_of rows s k) (take k (row_of rows s)) c) (content_at-is table.rows s k q there)
    ∙ sym (matrix_at_is table h read s k (reached_there table h s k l) q.content.images)

cols_of_square : (table : Staircase) (s k : ℕ) (t : ℤ) (matrix : Rows) → t ≡ bottom_of table.resolved +ℤ pos k → IsMatrixAt table s t matrix → matrix.cols ≡ next_target_width table s k
cols_of_square table s k t matrix degree is =
    let here = is.degree in
    let at : is.above ≡ k = omega (arith, ints) in
    is.cols ∙ ap (next_target_width table s) at

-- its degree, as the square tells it
pub degree_of_square : (table : Staircase) → IsTable table → (s k : ℕ) (t : ℤ) (q : Placed) → slice_get (row_in table.rows s) k ≡ Some q → t ≡ bottom_of q.resolved +ℤ pos q.above → t ≡ bottom_of table.resolved +ℤ pos k
degree_of_square table h s k t q there e =
    let is = h.placed s k q there in
    e ∙ ap (λ n. bottom_of q.resolved +ℤ pos n) is.above_is ∙ ap (λ m. bottom_of m +ℤ pos k) is.resolved_is

module _ (table : Staircase) (h : IsTable table) (read : AllRead table.rows) (bytes : List ℕ) (t : ℤ) (q : Placed) (matrix : Rows) (bare : IsBareAt table (addition_outline_at bytes) q) (degree : t ≡ bottom_of table.resolved +ℤ pos (addition_outline_at bytes).above) (is : IsMatrixAt table (addition_outline_at bytes).s t matrix) where
  rows_here : matrix.rows ≡ matrix_with (over table.resolved) table.start (addition_outline_at bytes).s (addition_outline_at bytes).above q.content.images
  rows_here = let o = addition_outline_at bytes in matrix_of_square table h read o.s o.above t q matrix bare.there degree is

  cols_here : matrix.cols ≡ (addition_at bytes).cols
  cols_here = let o = addition_outline_at bytes in cols_of_square table o.s o.above t matrix degree is ∙ sym bare.target

  no_parts_here : ((image chosen : List (List Bool)) → ArePackedParts (addition_outline_at bytes).quasi matrix image chosen q.content.kernel → ⊥) → addition_in (over table.resolved) (kept_of_table table) bytes ≡ None
  no_parts_here none = nothing_added (over table.resolved) (kept_of_table table) bytes (λ is_body rules.
      let a = addition_at bytes in
      let found = rules_for table h read bytes rules in
      let same : found.0 ≡ q = same_Some found.0 q (sym found.1.there ∙ bare.there) in
      let pair = (addition_itself bytes is_body).quasi in
      let parts1 = subst (λ (x : Placed). AreReductionParts a.cols (matrix_with (over table.resolved) table.start a.s a.above x.content.images) a.preimages.image a.preimages.chosen x.content.kernel) same found.1.parts in
      let parts2 = subst (λ n. AreReductionParts n (matrix_with (over table.resolved) table.start a.s a.above q.content.images) a.preimages.image a.preimages.chosen q.content.kernel) (sym cols_here) parts1 in
      none a.preimages.image a.preimages.chosen (record { image_rows = pair.image; chosen_rows = pair.chosen; parts = subst (λ x. AreReductionParts matrix.cols x a.preimages.image a.preimages.chosen q.content.kernel) (sym rows_here) parts2 }))

  -- ---- what is read

  module _ (r : Reduction) (whole : IsWholeAddition bytes) (are_bytes : AreBytes bytes) (parts : ArePackedParts (addition_outline_at bytes).quasi matrix r.image r.chosen r.kernel) (kernel : r.kernel ≡ q.content.kernel) (reduction : IsReductionOf matrix.cols matrix.rows r) where
    for_square : IsFor table (addition_with bytes (preimages_of r)) q
    for_square =
        let a = addition_with bytes (preimages_of r) in
        let parts1 = subst (λ n. AreReductionParts n matrix.rows r.image r.chosen r.kernel) cols_here parts.parts in
        let parts2 = subst (λ x. AreReductionParts a.cols x r.image r.chosen r.kernel) rows_here parts1 in
        record {
          there = bare.there;
          bare = bare.bare;
          target = bare.target;
          source = bare.source;
          parts = subst (AreReductionParts a.cols (matrix_with (over table.resolved) table.start a.s a.above q.content.images) r.image r.chosen) kernel parts2;
        }

    numbers_here : AdditionFits (addition_with bytes (preimages_of r))
    numbers_here = record {
      target = number_below 13 bytes are_bytes;
      source = number_below 21 bytes are_bytes;
      image = let few = number_below 5 bytes are_bytes in let many = parts.image_rows.as_many in omega arith;
    }

    height_here : length matrix.rows ≡ (addition_at bytes).height
    height_here =
        let o = addition_outline_at bytes in
        let m = over table.resolved in
        let l = is_within (row_in table.rows o.s) o.above q bare.there in
        ap length rows_here ∙ length-matrix_with m table.start o.s o.above q.content.images ∙ source_dim_at table h read o.s o.above (reached_there table h o.s o.above l) (length q.content.images) ∙ sym bare.source

    decoded_here : IsDecodedQuasi table bytes (addition_outline_at bytes).s t r
    decoded_here =
        let o = addition_outline_at bytes in
        let m = over table.resolved in
        let a = addition_with bytes (preimages_of r) in
        let rules = there_rules table h read a q for_square in
        let is_body : bytes ≡ addition_bytes a = whole_addition bytes (preimages_of r) whole are_bytes (record { image = parts.image_rows; chosen = parts.chosen_rows }) in
        let made = λ (w v : ℕ) (k : List (List Bool)). reduction_with w v (preimages_of r) k in
        let kept : kept_at (kept_of_table table) o.s o.above ≡ Some (kept_as o.s o.above q) = kept_there table h read o.s o.above q bare.there in
        let same : r ≡ made a.cols a.height q.content.kernel = ap (λ w. made w r.height r.kernel) (reduction.cols ∙ cols_here) ∙ ap (λ v. made a.cols v r.kernel) (reduction.height ∙ height_here) ∙ ap (made a.cols a.height) kernel in
        record {
          addition = a;
          read = ap (addition_in m (kept_of_table table)) is_body ∙ each_is_added m (kept_of_table table) a rules numbers_here;
          row = refl;
          degree = degree;
          reduction = same ∙ sym (ap (reduction_of_square a) kept);
          is_quasi = is_quasi_at table o.s t matrix r is reduction;
          lacks = record { square = q; there = square_at-above table o.s o.above t degree ∙ bare.there; bare = bare.bare; kernel = kernel };
        }

-- ---- the same of the parts as they were found

pub no_parts_quasi : (table : Staircase) → IsTable table → AllRead table.rows → (bytes : List ℕ) (o : AdditionOutline) (t : ℤ) (q : Placed) (matrix : Rows) → o ≡ addition_outline_at bytes → IsBareAt table o q → t ≡ bottom_of q.resolved +ℤ pos q.above → IsMatrixAt table o.s t matrix
    → ((image chosen : List (List Bool)) → ArePackedParts o.quasi matrix image chosen q.content.kernel → ⊥) → addition_in (over table.resolved) (kept_of_table table) bytes ≡ None
no_parts_quasi table h read bytes o t q matrix e bare degree is none =
    let o' = addition_outline_at bytes in
    let bare' = subst (λ (x : AdditionOutline). IsBareAt table x q) e bare in
    let is' = subst (λ (x : AdditionOutline). IsMatrixAt table x.s t matrix) e is in
    let none' = subst (λ (x : AdditionOutline). (image chosen : List (List Bool)) → ArePackedParts x.quasi matrix image chosen q.content.kernel → ⊥) e none in
    no_parts_here table h read bytes t q matrix bare' (degree_of_square table h o'.s o'.above t q bare'.there degree) is' none'

pub decoded_quasi : (table : Staircase) → IsTable table → AllRead table.rows → (bytes : List ℕ) (o : AdditionOutline) (t : ℤ) (q : Placed) (matrix : Rows) (r : Reduction) → o ≡ addition_outline_at bytes → IsBareAt table o q → t ≡ bottom_of q.resolved +ℤ pos q.above → IsMatrixAt table o.s t matrix → IsWholeAddition bytes → AreBytes bytes
    → ArePackedParts o.quasi matrix r.image r.chosen r.kernel → r.kernel ≡ q.content.kernel → IsReductionOf matrix.cols matrix.rows r → IsDecodedQuasi table bytes o.s t r
decoded_quasi table h read bytes o t q matrix r e bare degree is whole are_bytes parts kernel reduction =
    let o' = addition_outline_at bytes in
    let bare' = subst (λ (x : AdditionOutline). IsBareAt table x q) e bare in
    let is' = subst (λ (x : AdditionOutline). IsMatrixAt table x.s t matrix) e is in
    let parts' = subst (λ (x : AdditionOutline). ArePackedParts x.quasi matrix r.image r.chosen r.kernel) e parts in
    subst (λ (x : AdditionOutline). IsDecodedQuasi table bytes x.s t r) (sym e) (decoded_here table h read bytes t q matrix bare' (degree_of_square table h o'.s o'.above t q bare'.there degree) is' r whole are_bytes parts' kernel reduction)

-- what is asked of the kernel rows of the square and of its matrix
pub record FitsSquare (table : Staircase) (o : AdditionOutline) (q : Placed) (matrix : Rows) : Type 0 where
  pub cols : o.quasi.image.cols ≡ matrix.cols
  pub height : o.quasi.chosen.cols ≡ length matrix.rows
  pub widths : HaveWidth (length matrix.rows) q.content.kernel
  pub reduced : IsReduced q.content.kernel
  pub nonzero : HasNoZeroRow q.content.kernel

pub fits_square : (table : Staircase) → IsTable table → AllRead table.rows → (o : AdditionOutline) (t : ℤ) (q : Placed) (matrix : Rows) → IsBareAt table o q → t ≡ bottom_of q.resolved +ℤ pos q.above → IsMatrixAt table o.s t matrix → FitsSquare table o q matrix
fits_square table h read o t q matrix bare degree is =
    let m = over table.resolved in
    let at = degree_of_square table h o.s o.above t q bare.there degree in
    let l = is_within (row_in table.rows o.s) o.above q bare.there in
    let rows = matrix_of_square table h read o.s o.above t q matrix bare.there at is in
    let entry : entry_at table.start o.s o.above ≡ Some q.content = entry_there table h read o.s o.above l ∙ ap (λ c. Some c) (content_at-is table.rows o.s o.above q bare.there) in
    let basis = table_bases table h read o.s o.above q.content entry in
    let tall : source_dim m table.start o.s o.above (length q.content.images) ≡ length matrix.rows = sym (length-matrix_with m table.start o.s o.above q.content.images) ∙ sym (ap length rows) in
    record {
      cols = bare.target ∙ sym (cols_of_square table o.s o.above t matrix at is);
      height = bare.source ∙ sym (source_dim_at table h read o.s o.above (reached_there table h o.s o.above l) (length q.content.images)) ∙ tall;
      widths = subst (λ n. HaveWidth n q.content.kernel) tall basis.widths;
      reduced = basis.reduced;
      nonzero = basis.nonzero;
    }

-- where the image rows and the kernel rows are not as many as the matrix has rows, nothing is read
pub no_count_quasi : (table : Staircase) → IsTable table → AllRead table.rows → (bytes : List ℕ) (o : AdditionOutline) (q : Placed) → o ≡ addition_outline_at bytes → IsBareAt table o q → (o.quasi.image.height + length q.content.kernel ≡ o.quasi.chosen.cols → ⊥) → addition_in (over table.resolved) (kept_of_table table) bytes ≡ None
no_count_quasi table h read bytes o q e bare differ =
    let t = bottom_of q.resolved +ℤ pos q.above in
    let m = over table.resolved in
    let rows = plain_rows table.rows in
    let below = below_of rows o.s o.above in
    let before = take o.above (row_of rows o.s) in
    let matrix : Rows = record { cols = target_width m below before; rows = square_matrix m below before (content_at table.rows o.s o.above) } in
    let is : IsMatrixAt table o.s t matrix = record { above = o.above; degree = degree_of_square table h o.s o.above t q bare.there refl; cols = refl; rows = refl } in
    let fits = fits_square table h read o t q matrix bare refl is in
    no_parts_quasi table h read bytes o t q matrix e bare refl is (other_count o.quasi matrix q.content.kernel fits.height differ)

-- the square is found by its degree
pub found_there : (table : Staircase) → IsTable table → (o : AdditionOutline) (t : ℤ) (q : Placed) → IsBareAt table o q → t ≡ bottom_of q.resolved +ℤ pos q.above → IsSome (square_at table o.s t)
found_there table h o t q bare degree = subst IsSome (sym (square_at-above table o.s o.above t (degree_of_square table h o.s o.above t q bare.there degree) ∙ bare.there)) refl

-- ---- the widths that a square tells

-- what was read at a place is what the start has there
as_read : (o : Option Content) (S H : Type 0) (c d : Content) → o ≡ Some d → MatchOption o S (λ read. (c ≡ read) × H) → c ≡ d
as_read None S H c d e p = absurd (none-some d e)
as_read (Some x) S H c d e p = p.0 ∙ same_Some x d e

-- the widths of a square over its own start, at a place of a table
abbrev WidthsAt : Placed → ℕ → ℕ → Checked → ℕ → ℕ → Type 0
WidthsAt q w v m i j = (at : ℕ → ℕ → Content) × AreBefore (over m) q.start i j at × (w ≡ target_width (over m) (row_below at i j) (squares_below at i j)) × (v ≡ source_width (over m) (squares_below at i j) q.content)

-- they are those of the modules there
pub widths_in_table : (table : Staircase) → IsTable table → AllRead table.rows → (s k : ℕ) (q : Placed) (w v : ℕ) → slice_get (row_in table.rows s) k ≡ Some q → AreWidths q w v → (w ≡ next_target_width table s k) × (v ≡ next_width table s k (length q.content.images))
widths_in_table table h read s k q w v there widths =
    let m = over table.resolved in
    let is = h.placed s k q there in
    let l = is_within (row_in table.rows s) k q there in
    let reached = reached_there table h s k l in
    let one : WidthsAt q w v q.resolved q.s q.above = (widths.at, widths.under, widths.target, widths.source) in
    let two = subst (λ x. WidthsAt q w v x q.s q.above) is.resolved_is one in
    let three = subst (λ x. WidthsAt q w v table.resolved x q.above) is.s_is two in
    let here : WidthsAt q w v table.resolved s k = subst (λ x. WidthsAt q w v table.resolved s x) is.above_is three in
    let at = here.0 in
    let under : AreBefore m q.start s k at = here.1 in
    let same : (i j : ℕ) → i ≤ s → j ≤ k → j < length (row_in table.rows i) → IsOf m q.start i j (at i j) → at i j ≡ content_at table.rows i j = λ i j a b c is_of.
    as_read (entry_at q.start i j) _ _ (at i j) (content_at table.rows i j) (is.beneath i j a b ∙ entry_there table h read i j c) (IsOf-over m q.start i j (at i j) is_of).here in
    let left : squares_below at s k ≡ take k (row_of (plain_rows table.rows) s) =
    squares_below-same at (content_at table.rows) s k (λ j b. same s j (omega arith) (omega arith) (omega arith) (under.before j b)) ∙ table_before table.rows s k reached.before in
    let low : row_below at s k ≡ below_of (plain_rows table.rows) s k =
    row_below-same at (content_at table.rows) s k (λ i j e b. let lower = reached.below i e in same i j (omega arith) b (omega arith) (under.below i j e b)) ∙ table_below table.rows s k reached.below in (
      here.2 ∙ ap (λ x. target_width m x (squares_below at s k)) low ∙ ap (λ x. target_width m (below_of (plain_rows table.rows) s k) x) left,
      here.3 ∙ ap (λ x. source_width m x q.content) left,
    )

-- ---- the square that a quasi-inverse is for

-- it has none, and the widths are its own
pub bare_there : (table : Staircase) → IsTable table → AllRead table.rows → (o : AdditionOutline) (q : Placed) (w v : ℕ) → slice_get (row_in table.rows o.s) o.above ≡ Some q → AreWidths q w v → q.quasi ≡ None → w ≡ o.quasi.image.cols → v ≡ o.quasi.chosen.cols → IsBareAt table o q
bare_there table h read o q w v there widths bare target source =
    let both = widths_in_table table h read o.s o.above q w v there widths in
    record { there = there; bare = bare; target = sym target ∙ both.0; source = sym source ∙ both.1 }

-- or it is not so
pub not_bare : (table : Staircase) → IsTable table → AllRead table.rows → (o : AdditionOutline) (q : Placed) (w v : ℕ) → slice_get (row_in table.rows o.s) o.above ≡ Some q → AreWidths q w v → (q.quasi ≡ None → w ≡ o.quasi.image.cols → v ≡ o.quasi.chosen.cols → ⊥) → (x : Placed) → IsBareAt table o x → ⊥
not_bare table h read o q w v there widths none x bare =
    let same : x ≡ q = same_Some x q (sym bare.there ∙ there) in
    let here = subst (IsBareAt table o) same bare in
    let both = widths_in_table table h read o.s o.above q w v there widths in
    none here.bare (both.0 ∙ sym here.target) (both.1 ∙ sym here.source)
