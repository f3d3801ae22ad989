use Rattle.std.proofs.Common.{◌≡◌, ℤ, Bool, List, length, None, Some, to_z, of_z, w32, rules, sym, ◌∙◌, ap, subst, arith}
use Rattle.std.proofs.lemmas.Bool.{iff_false}
use Rattle.std.proofs.lemmas.Option.{MatchOption-at_none, MatchOption-at_some}
use Rattle.std.specs.Option.{option_map}
use Rattle.f2_vec.specs.Spans.{HaveWidth}
use Rattle.f2_matrix.specs.Echelon.{IsReduced, HasNoZeroRow}
use Rattle.f2_matrix.specs.Reduction.{Reduction}
use Rattle.resolution_laws.specs.Resolution.{Content}
use Rattle.square.specs.Squares.{over}
use Rattle.square.specs.Tables.{IsReadable, IsMatrixBehind, IsQuasiBehind}
use Rattle.save_file.specs.Bodies.{preimages_of}
use Rattle.save_file.specs.Inside.Differentials.{matrix_of}
use Rattle.save_file.specs.Inside.Outline.{outline_of, pair_of, IsPlaceFor, ArePackedParts}
use Rattle.save_journal.specs.Laws.{AreBytes}
use Rattle.save_file.proofs.Outlines.{images_length, kernel_length, pair_of_whole}
use Rattle.save_file.proofs.Decoding.{not_whole, not_next, not_fitting, no_images, no_kernel, not_basis, no_count, no_parts, is_readable, decoded, place_at, IsFound, images_wide, found_bare, fits_next, IsReductionHere, wholly_found, reduction_is, is_quasi_behind}
use Rattle.save_file.proofs.Reductions.{IsPutTogether}
use Rattle.save_file.proofs.reading.read_square.Goals.{After-is_row_basis, After-reduction}
use Rattle.save_file.proofs.reading.read_square.Goals as goal

pub returns-in_default : goal.returns-in_default
returns-in_default c = not_whole (over c.args.table.now.resolved) c.args.table.now.start c.args.body.now c.in_default.ensures

pub returns-in_default-next_degree : goal.returns-in_default-next_degree
returns-in_default-next_degree c = not_next c.args.table.now c.next_degree.ensures.is_table c.requires c.args.body.now (outline_of c.in-Some.parts) c.in-Some.ensures.1 c.in_default-next_degree.ensures.place

pub returns-then-not-has_dimensions : goal.returns-then-not-has_dimensions
returns-then-not-has_dimensions c =
    not_fitting c.args.table.now c.next_degree.ensures.is_table c.requires c.args.body.now (outline_of c.in-Some.parts) c.in-Some.ensures.1 (iff_false c.has_dimensions.ensures c.if-not-has_dimensions.true)

pub unpack-requires : goal.unpack-requires
unpack-requires c = images_length c.args.body.now (outline_of c.in-Some.parts) c.in-Some.ensures.0 c.in-Some.ensures.1

pub unpack-requires-2 : goal.unpack-requires-2
unpack-requires-2 c = kernel_length c.args.body.now (outline_of c.in-Some.parts) c.in-Some.ensures.0 c.in-Some.ensures.1

pub returns-in_default-2 : goal.returns-in_default-2
returns-in_default-2 c = no_images (over c.args.table.now.resolved) c.args.table.now.start c.args.body.now (outline_of c.in-Some.parts) c.in-Some.ensures.1 (MatchOption-at_none _ _ c.in_default-2.is c.in_ok-images.ensures)

pub returns-in_default-3 : goal.returns-in_default-3
returns-in_default-3 c = no_kernel (over c.args.table.now.resolved) c.args.table.now.start c.args.body.now (outline_of c.in-Some.parts) c.in-Some.ensures.1 (MatchOption-at_none _ _ c.in_default-3.is c.in_ok-kernel.ensures)

pub is_row_basis-requires : goal.is_row_basis-requires
is_row_basis-requires c = subst (HaveWidth (outline_of c.in-Some.parts).kernel.cols) (sym c.as_slice.ensures.value) (MatchOption-at_some _ _ c.in-Some-3.kernel c.in-Some-3.is c.in_ok-kernel.ensures).widths

-- the parts of the bytes with their rows
found : (c : After-is_row_basis) (t : ℤ) → IsPlaceFor c.args.table.now c.in-Some.parts.s c.in-Some.parts.above t → AreBytes c.args.body.now → IsFound c.args.table.now c.args.body.now (outline_of c.in-Some.parts) t c.in-Some-2.images.items c.in-Some-3.kernel.items
found c t place bytes = record {
  whole = c.in-Some.ensures.0;
  are_bytes = bytes;
  place = place;
  dimensions = c.has_dimensions.ensures.0 c.if-not-has_dimensions.false;
  images_are = MatchOption-at_some _ _ c.in-Some-2.images c.in-Some-2.is c.in_ok-images.ensures;
  kernel_is = MatchOption-at_some _ _ c.in-Some-3.kernel c.in-Some-3.is c.in_ok-kernel.ensures;
}

pub returns-then-not-is_basis : goal.returns-then-not-is_basis
returns-then-not-is_basis c =
    let f = found (goal.at.returns-then-not-is_basis c).After-is_row_basis c.in-Some-next_degree.t c.in-Some-next_degree.ensures.place (λ i. omega (arith, c.type_inv.body i)) in
    let P : List (List Bool) → Type 0 = λ rows. IsReduced rows × HasNoZeroRow rows → ⊥ in
    not_basis c.args.table.now c.args.body.now (outline_of c.in-Some.parts) c.in-Some-next_degree.t c.in-Some-2.images.items c.in-Some-3.kernel.items c.in-Some.ensures.1 f (subst P c.as_slice.ensures.value (iff_false c.in_ok-is_basis.ensures c.if-not-is_basis.true))

pub read-square-requires-clause-content : goal.read-square-requires-clause-content
read-square-requires-clause-content c =
    let t : ℤ = to_z w32 (of_z w32 c.in-Some-next_degree.t) in
    let place : IsPlaceFor c.args.table.now c.in-Some.parts.s c.in-Some.parts.above t = search rules in
    let f = found (goal.at.read-square-requires-clause-content c).After-is_row_basis t place (λ i. omega (arith, c.type_inv.body i)) in
    let P : List (List Bool) → Type 0 = λ rows. IsReduced rows × HasNoZeroRow rows in
    let form = subst P c.as_slice.ensures.value (c.in_ok-is_basis.ensures.0 c.if-not-is_basis.false) in
    is_readable c.args.table.now c.requires c.args.body.now (outline_of c.in-Some.parts) t c.in-Some-2.images.items c.in-Some-3.kernel.items c.in-Some.ensures.1 f form.0 form.1

pub returns-in_default-quasi : goal.returns-in_default-quasi
returns-in_default-quasi c =
    let o = outline_of c.in-Some.parts in
    let t : ℤ = to_z w32 (of_z w32 c.in-Some-next_degree.t) in
    let place : IsPlaceFor c.args.table.now c.in-Some.parts.s c.in-Some.parts.above t = search rules in
    let f = found (goal.at.returns-in_default-quasi c).After-is_row_basis t place (λ i. omega (arith, c.type_inv.body i)) in
    let P : List (List Bool) → Type 0 = λ rows. IsReduced rows × HasNoZeroRow rows in
    let form = subst P c.as_slice.ensures.value (c.in_ok-is_basis.ensures.0 c.if-not-is_basis.false) in
    let none : o.quasi ≡ None = ap (option_map pair_of) c.in_default-quasi.is in
    decoded c.args.table.now c.next_degree.ensures.is_table c.requires c.args.body.now o t c.in-Some-2.images.items c.in-Some-3.kernel.items None c.in-Some.ensures.1 (found_bare c.args.table.now c.args.body.now o t c.in-Some-2.images.items c.in-Some-3.kernel.items f form.0 form.1 none)
    c.read-square.result c.read-square.ensures.resolved c.read-square.ensures.start c.read-square.ensures.s c.read-square.ensures.t c.read-square.ensures.content c.read-square.ensures.quasi

pub returns-then-not-counts_add_up : goal.returns-then-not-counts_add_up
returns-then-not-counts_add_up c =
    let o = outline_of c.in-Some.parts in
    let f = found (goal.at.returns-then-not-counts_add_up c).After-is_row_basis c.in-Some-next_degree.t c.in-Some-next_degree.ensures.place (λ i. omega (arith, c.type_inv.body i)) in
    let some : o.quasi ≡ Some (pair_of c.in-Some-quasi.packed) = ap (option_map pair_of) c.in-Some-quasi.is in
    no_count c.args.table.now c.next_degree.ensures.is_table c.requires c.args.body.now o c.in-Some-next_degree.t c.in-Some-2.images.items c.in-Some-3.kernel.items (pair_of c.in-Some-quasi.packed) c.in-Some.ensures.1 f some (iff_false c.counts_add_up.ensures c.if-not-counts_add_up.true)

pub are_few-requires : goal.are_few-requires
are_few-requires c = c.in-Some-next_degree.ensures.place.within

pub next_map-requires-clause-place : goal.next_map-requires-clause-place
next_map-requires-clause-place c =
    let t : ℤ = to_z w32 (of_z w32 c.in-Some-next_degree.t) in
    let place : IsPlaceFor c.args.table.now c.in-Some.parts.s c.in-Some.parts.above t = search rules in
    place_at c.args.table.now c.in-Some.parts.s c.in-Some.parts.above t place

pub next_map-requires-clause-widths : goal.next_map-requires-clause-widths
next_map-requires-clause-widths c = λ k degree.
    let t : ℤ = to_z w32 (of_z w32 c.in-Some-next_degree.t) in
    let place : IsPlaceFor c.args.table.now c.in-Some.parts.s c.in-Some.parts.above t = search rules in
    let f = found (goal.at.next_map-requires-clause-widths c).After-is_row_basis t place (λ i. omega (arith, c.type_inv.body i)) in
    rw c.as_slice-3.ensures.value (images_wide c.args.table.now c.args.body.now (outline_of c.in-Some.parts) t c.in-Some-2.images.items c.in-Some-3.kernel.items f k degree)

-- ---- the parts of a reduction

pub reduction-requires-clause-image : goal.reduction-requires-clause-image
reduction-requires-clause-image c =
    let o = outline_of c.in-Some.parts in
    let some : o.quasi ≡ Some (pair_of c.in-Some-quasi.packed) = ap (option_map pair_of) c.in-Some-quasi.is in
    (pair_of_whole c.args.body.now o (pair_of c.in-Some-quasi.packed) c.in-Some.ensures.0 c.in-Some.ensures.1 some).image_length

pub reduction-requires-clause-chosen : goal.reduction-requires-clause-chosen
reduction-requires-clause-chosen c =
    let o = outline_of c.in-Some.parts in
    let some : o.quasi ≡ Some (pair_of c.in-Some-quasi.packed) = ap (option_map pair_of) c.in-Some-quasi.is in
    (pair_of_whole c.args.body.now o (pair_of c.in-Some-quasi.packed) c.in-Some.ensures.0 c.in-Some.ensures.1 some).chosen_length

pub reduction-requires-clause-cols : goal.reduction-requires-clause-cols
reduction-requires-clause-cols c =
    let o = outline_of c.in-Some.parts in
    let t : ℤ = to_z w32 (of_z w32 c.in-Some-next_degree.t) in
    let place : IsPlaceFor c.args.table.now c.in-Some.parts.s c.in-Some.parts.above t = search rules in
    let f = found (goal.at.reduction-requires-clause-cols c).After-is_row_basis t place (λ i. omega (arith, c.type_inv.body i)) in
    let some : o.quasi ≡ Some (pair_of c.in-Some-quasi.packed) = ap (option_map pair_of) c.in-Some-quasi.is in
    let is : IsMatrixBehind c.args.table.now o.s t c.in-Some-2.images.items (matrix_of c.in_ok-matrix.matrix) = subst (λ rows. IsMatrixBehind c.args.table.now o.s t rows (matrix_of c.in_ok-matrix.matrix)) c.as_slice-3.ensures.value c.in_ok-matrix.ensures in
    (fits_next c.args.table.now c.next_degree.ensures.is_table c.requires c.args.body.now o t c.in-Some-2.images.items c.in-Some-3.kernel.items (pair_of c.in-Some-quasi.packed) (matrix_of c.in_ok-matrix.matrix) c.in-Some.ensures.1 f some is).cols

pub reduction-requires-clause-height : goal.reduction-requires-clause-height
reduction-requires-clause-height c =
    let o = outline_of c.in-Some.parts in
    let t : ℤ = to_z w32 (of_z w32 c.in-Some-next_degree.t) in
    let place : IsPlaceFor c.args.table.now c.in-Some.parts.s c.in-Some.parts.above t = search rules in
    let f = found (goal.at.reduction-requires-clause-height c).After-is_row_basis t place (λ i. omega (arith, c.type_inv.body i)) in
    let some : o.quasi ≡ Some (pair_of c.in-Some-quasi.packed) = ap (option_map pair_of) c.in-Some-quasi.is in
    let is : IsMatrixBehind c.args.table.now o.s t c.in-Some-2.images.items (matrix_of c.in_ok-matrix.matrix) = subst (λ rows. IsMatrixBehind c.args.table.now o.s t rows (matrix_of c.in_ok-matrix.matrix)) c.as_slice-3.ensures.value c.in_ok-matrix.ensures in
    (fits_next c.args.table.now c.next_degree.ensures.is_table c.requires c.args.body.now o t c.in-Some-2.images.items c.in-Some-3.kernel.items (pair_of c.in-Some-quasi.packed) (matrix_of c.in_ok-matrix.matrix) c.in-Some.ensures.1 f some is).height

pub reduction-requires-clause-widths : goal.reduction-requires-clause-widths
reduction-requires-clause-widths c =
    let o = outline_of c.in-Some.parts in
    let t : ℤ = to_z w32 (of_z w32 c.in-Some-next_degree.t) in
    let place : IsPlaceFor c.args.table.now c.in-Some.parts.s c.in-Some.parts.above t = search rules in
    let f = found (goal.at.reduction-requires-clause-widths c).After-is_row_basis t place (λ i. omega (arith, c.type_inv.body i)) in
    let some : o.quasi ≡ Some (pair_of c.in-Some-quasi.packed) = ap (option_map pair_of) c.in-Some-quasi.is in
    let is : IsMatrixBehind c.args.table.now o.s t c.in-Some-2.images.items (matrix_of c.in_ok-matrix.matrix) = subst (λ rows. IsMatrixBehind c.args.table.now o.s t rows (matrix_of c.in_ok-matrix.matrix)) c.as_slice-3.ensures.value c.in_ok-matrix.ensures in
    subst (HaveWidth (length (matrix_of c.in_ok-matrix.matrix).rows)) (sym c.in_ok-shared.ensures)
    (fits_next c.args.table.now c.next_degree.ensures.is_table c.requires c.args.body.now o t c.in-Some-2.images.items c.in-Some-3.kernel.items (pair_of c.in-Some-quasi.packed) (matrix_of c.in_ok-matrix.matrix) c.in-Some.ensures.1 f some is).widths

pub reduction-requires-clause-reduced : goal.reduction-requires-clause-reduced
reduction-requires-clause-reduced c =
    let P : List (List Bool) → Type 0 = λ rows. IsReduced rows × HasNoZeroRow rows in
    let form = subst P c.as_slice.ensures.value (c.in_ok-is_basis.ensures.0 c.if-not-is_basis.false) in
    subst IsReduced (sym c.in_ok-shared.ensures) form.0

pub reduction-requires-clause-nonzero : goal.reduction-requires-clause-nonzero
reduction-requires-clause-nonzero c =
    let P : List (List Bool) → Type 0 = λ rows. IsReduced rows × HasNoZeroRow rows in
    let form = subst P c.as_slice.ensures.value (c.in_ok-is_basis.ensures.0 c.if-not-is_basis.false) in
    subst HasNoZeroRow (sym c.in_ok-shared.ensures) form.1

pub returns-in_default-4 : goal.returns-in_default-4
returns-in_default-4 c =
    let o = outline_of c.in-Some.parts in
    let p = pair_of c.in-Some-quasi.packed in
    let matrix = (matrix_of c.in_ok-matrix.matrix) in
    let t : ℤ = to_z w32 (of_z w32 c.in-Some-next_degree.t) in
    let place : IsPlaceFor c.args.table.now c.in-Some.parts.s c.in-Some.parts.above t = search rules in
    let f = found (goal.at.returns-in_default-4 c).After-is_row_basis t place (λ i. omega (arith, c.type_inv.body i)) in
    let some : o.quasi ≡ Some p = ap (option_map pair_of) c.in-Some-quasi.is in
    let is : IsMatrixBehind c.args.table.now o.s t c.in-Some-2.images.items matrix = subst (λ rows. IsMatrixBehind c.args.table.now o.s t rows matrix) c.as_slice-3.ensures.value c.in_ok-matrix.ensures in
    let none : (image chosen : List (List Bool)) → ArePackedParts p matrix image chosen c.in-Some-3.kernel.items → ⊥ =
    subst (λ rows. (image chosen : List (List Bool)) → ArePackedParts p matrix image chosen rows → ⊥) c.in_ok-shared.ensures (MatchOption-at_none _ _ c.in_default-4.is c.in_ok-quasi.ensures) in
    no_parts c.args.table.now c.next_degree.ensures.is_table c.requires c.args.body.now o t c.in-Some-2.images.items c.in-Some-3.kernel.items p matrix c.in-Some.ensures.1 f some is none

-- what was put together is the reduction there
here : (c : After-reduction) (t : ℤ) (r : Reduction) → IsMatrixBehind c.args.table.now c.in-Some.parts.s t c.as_slice-3.result.now (matrix_of c.in_ok-matrix.matrix) → IsPutTogether (pair_of c.in-Some-quasi.packed) (matrix_of c.in_ok-matrix.matrix) c.in_ok-shared.shared r
    → IsReductionHere c.args.table.now (outline_of c.in-Some.parts) t c.in-Some-2.images.items c.in-Some-3.kernel.items (pair_of c.in-Some-quasi.packed) r
here c t r is put = record {
  matrix = (matrix_of c.in_ok-matrix.matrix);
  is_matrix = subst (λ rows. IsMatrixBehind c.args.table.now c.in-Some.parts.s t rows (matrix_of c.in_ok-matrix.matrix)) c.as_slice-3.ensures.value is;
  parts = put.0;
  kernel_is = put.1 ∙ c.in_ok-shared.ensures;
  reduction = put.2;
}

pub read_reduced-requires-clause-content : goal.read_reduced-requires-clause-content
read_reduced-requires-clause-content c =
    let r = c.in-Some-4.quasi in
    let t : ℤ = to_z w32 (of_z w32 c.in-Some-next_degree.t) in
    let place : IsPlaceFor c.args.table.now c.in-Some.parts.s c.in-Some.parts.above t = search rules in
    let f = found (goal.at.read_reduced-requires-clause-content c).After-is_row_basis t place (λ i. omega (arith, c.type_inv.body i)) in
    let P : List (List Bool) → Type 0 = λ rows. IsReduced rows × HasNoZeroRow rows in
    let form = subst P c.as_slice.ensures.value (c.in_ok-is_basis.ensures.0 c.if-not-is_basis.false) in
    let is = here (goal.at.read_reduced-requires-clause-content c).After-reduction t r c.in_ok-matrix.ensures (MatchOption-at_some _ _ r c.in-Some-4.is c.in_ok-quasi.ensures) in
    subst (λ rows. IsReadable c.args.table.now c.in-Some.parts.s t (record { images = c.in-Some-2.images.items; kernel = rows })) (sym is.kernel_is)
    (is_readable c.args.table.now c.requires c.args.body.now (outline_of c.in-Some.parts) t c.in-Some-2.images.items c.in-Some-3.kernel.items c.in-Some.ensures.1 f form.0 form.1)

pub read_reduced-requires-clause-quasi : goal.read_reduced-requires-clause-quasi
read_reduced-requires-clause-quasi c =
    let o = outline_of c.in-Some.parts in
    let p = pair_of c.in-Some-quasi.packed in
    let r = c.in-Some-4.quasi in
    let t : ℤ = to_z w32 (of_z w32 c.in-Some-next_degree.t) in
    let place : IsPlaceFor c.args.table.now c.in-Some.parts.s c.in-Some.parts.above t = search rules in
    let f = found (goal.at.read_reduced-requires-clause-quasi c).After-is_row_basis t place (λ i. omega (arith, c.type_inv.body i)) in
    let some : o.quasi ≡ Some p = ap (option_map pair_of) c.in-Some-quasi.is in
    let is = here (goal.at.read_reduced-requires-clause-quasi c).After-reduction t r c.in_ok-matrix.ensures (MatchOption-at_some _ _ r c.in-Some-4.is c.in_ok-quasi.ensures) in
    subst (λ rows. IsQuasiBehind c.args.table.now c.in-Some.parts.s t (record { images = c.in-Some-2.images.items; kernel = rows }) r) (sym is.kernel_is)
    (is_quasi_behind c.args.table.now c.next_degree.ensures.is_table c.requires c.args.body.now o t c.in-Some-2.images.items c.in-Some-3.kernel.items c.in-Some.ensures.1 f p some r is)

pub returns : goal.returns
returns c =
    let table = c.args.table.now in
    let o = outline_of c.in-Some.parts in
    let p = pair_of c.in-Some-quasi.packed in
    let images = c.in-Some-2.images.items in
    let kernel = c.in-Some-3.kernel.items in
    let r = c.in-Some-4.quasi in
    let h = c.next_degree.ensures.is_table in
    let t : ℤ = to_z w32 (of_z w32 c.in-Some-next_degree.t) in
    let place : IsPlaceFor table c.in-Some.parts.s c.in-Some.parts.above t = search rules in
    let f = found (goal.at.returns c).After-is_row_basis t place (λ i. omega (arith, c.type_inv.body i)) in
    let P : List (List Bool) → Type 0 = λ rows. IsReduced rows × HasNoZeroRow rows in
    let form = subst P c.as_slice.ensures.value (c.in_ok-is_basis.ensures.0 c.if-not-is_basis.false) in
    let some : o.quasi ≡ Some p = ap (option_map pair_of) c.in-Some-quasi.is in
    let is = here (goal.at.returns c).After-reduction t r c.in_ok-matrix.ensures (MatchOption-at_some _ _ r c.in-Some-4.is c.in_ok-quasi.ensures) in
    let whole = wholly_found table h c.requires c.args.body.now o t images kernel c.in-Some.ensures.1 f p some r is form.0 form.1 in
    let same = reduction_is table h c.requires c.args.body.now o t images kernel c.in-Some.ensures.1 f p some r is in
    let read = c.read_reduced.ensures in
    let content = ap (λ (rows : List (List Bool)). let x : Content = record { images = images; kernel = rows } in x) is.kernel_is in
    decoded table h c.requires c.args.body.now o t images kernel (Some (preimages_of r)) c.in-Some.ensures.1 whole
    c.read_reduced.result read.resolved_is read.start_is read.s_is read.degree (read.content_is ∙ content) (read.quasi_is ∙ same)
