use Rattle.std.proofs.Common.{◌≡◌, ◌+◌, ℤ, pos, ◌+ℤ◌, Bool, List, length, to_z, of_z, w32, sym, ◌∙◌, ap, subst, arith}
use Rattle.std.specs.Arc.{arc_value}
use Rattle.std.proofs.lemmas.Bool.{iff_false}
use Rattle.std.proofs.lemmas.Int.{to_z-of_z}
use Rattle.std.proofs.lemmas.Option.{MatchOption-at_none, MatchOption-at_some}
use Rattle.f2_vec.specs.Spans.{HaveWidth}
use Rattle.f2_matrix.specs.Echelon.{IsReduced, HasNoZeroRow}
use Rattle.f2_matrix.specs.Reduction.{Rows}
use Rattle.square.specs.Squares.{Placed, over, bottom_of}
use Rattle.square.specs.Tables.{IsMatrixAt}
use Rattle.save_file.specs.Inside.Differentials.{matrix_of}
use Rattle.save_file.specs.Inside.Outline.{addition_outline_of, ArePackedParts}
use Rattle.save_file.specs.Saved.{kept_of_table, IsDecodedQuasi}
use Rattle.save_file.proofs.Outlines.{addition_long}
use Rattle.save_file.proofs.DecodingQuasi.{not_whole_addition, no_bare, no_count_quasi, FitsSquare, fits_square, no_parts_quasi, decoded_quasi, found_there}
use Rattle.save_file.proofs.Reductions.{IsPutTogether}
use Rattle.save_file.proofs.reading.read_quasi.Goals.{After-t, After-kernel_rows}
use Rattle.save_file.proofs.reading.read_quasi.Goals as goal

pub returns-in_default : goal.returns-in_default
returns-in_default c = not_whole_addition (over c.args.table.now.resolved) (kept_of_table c.args.table.now) c.args.body.now c.in_default.ensures

pub returns-in_default-bare_square : goal.returns-in_default-bare_square
returns-in_default-bare_square c = no_bare c.args.table.now c.bare_square.ensures.is_table c.requires c.args.body.now (addition_outline_of c.in-Some.parts) c.in-Some.ensures.1 c.in_default-bare_square.ensures.square

-- the degree is what the square tells
degree : (c : After-t) → to_z w32 (of_z w32 c.t.result) ≡ bottom_of (arc_value c.in-Some-bare_square.square.now).resolved +ℤ pos (arc_value c.in-Some-bare_square.square.now).above
degree c = to_z-of_z w32 c.t.result (record { sfits = c.t.type_inv }) ∙ c.t.ensures ∙ ap (λ (q : Placed). bottom_of q.resolved +ℤ pos q.above) c.deref-2.ensures

-- the square there fits the matrix of d_s in its degree
fitting : (c : After-t) → (matrix : Rows) → IsMatrixAt c.args.table.now c.in-Some.parts.s (to_z w32 (of_z w32 c.t.result)) matrix → FitsSquare c.args.table.now (addition_outline_of c.in-Some.parts) (arc_value c.in-Some-bare_square.square.now) matrix
fitting c matrix is = fits_square c.args.table.now c.bare_square.ensures.is_table c.requires (addition_outline_of c.in-Some.parts) (to_z w32 (of_z w32 c.t.result)) (arc_value c.in-Some-bare_square.square.now) matrix c.in-Some-bare_square.ensures.square (degree c) is

pub are_few-requires : goal.are_few-requires
are_few-requires c = (c.bare_square.ensures.is_table.placed _ _ (arc_value c.in-Some-bare_square.square.now) c.in-Some-bare_square.ensures.square.there).within

pub map_there-requires : goal.map_there-requires
map_there-requires c = found_there c.args.table.now c.bare_square.ensures.is_table (addition_outline_of c.in-Some.parts) (to_z w32 (of_z w32 c.t.result)) (arc_value c.in-Some-bare_square.square.now) c.in-Some-bare_square.ensures.square (degree (goal.at.map_there-requires c).After-t)

pub returns-then-not-counts_add_up : goal.returns-then-not-counts_add_up
returns-then-not-counts_add_up c =
    let o = addition_outline_of c.in-Some.parts in
    let q = arc_value c.in-Some-bare_square.square.now in
    let kernel : length c.kernel.result.now ≡ length q.content.kernel = ap length c.kernel.ensures ∙ ap (λ (x : Placed). length x.content.kernel) c.deref.ensures in
    let differ : o.quasi.image.height + length c.kernel.result.now ≡ o.quasi.chosen.cols → ⊥ = iff_false c.counts_add_up.ensures c.if-not-counts_add_up.true in
    no_count_quasi c.args.table.now c.bare_square.ensures.is_table c.requires c.args.body.now o q c.in-Some.ensures.1 c.in-Some-bare_square.ensures.square (λ sum. differ (ap (λ n. o.quasi.image.height + n) kernel ∙ sum))

-- the kernel rows are those of the square
kernel_is : (c : After-kernel_rows) → (rows : List (List Bool)) → rows ≡ c.deref-3.result.now.content.kernel → rows ≡ (arc_value c.in-Some-bare_square.square.now).content.kernel
kernel_is c rows e = e ∙ ap (λ (q : Placed). q.content.kernel) c.deref-3.ensures

pub reduction-requires-clause-image : goal.reduction-requires-clause-image
reduction-requires-clause-image c = (addition_long c.args.body.now (addition_outline_of c.in-Some.parts) c.in-Some.ensures.0 c.in-Some.ensures.1).image

pub reduction-requires-clause-chosen : goal.reduction-requires-clause-chosen
reduction-requires-clause-chosen c = (addition_long c.args.body.now (addition_outline_of c.in-Some.parts) c.in-Some.ensures.0 c.in-Some.ensures.1).chosen

pub reduction-requires-clause-cols : goal.reduction-requires-clause-cols
reduction-requires-clause-cols c = (fitting (goal.at.reduction-requires-clause-cols c).After-t (matrix_of c.in_ok-matrix.matrix) c.in_ok-matrix.ensures).cols

pub reduction-requires-clause-height : goal.reduction-requires-clause-height
reduction-requires-clause-height c = (fitting (goal.at.reduction-requires-clause-height c).After-t (matrix_of c.in_ok-matrix.matrix) c.in_ok-matrix.ensures).height

pub reduction-requires-clause-widths : goal.reduction-requires-clause-widths
reduction-requires-clause-widths c = subst (HaveWidth (length (matrix_of c.in_ok-matrix.matrix).rows)) (sym (kernel_is (goal.at.reduction-requires-clause-widths c).After-kernel_rows _ c.in_ok-kernel.ensures)) (fitting (goal.at.reduction-requires-clause-widths c).After-t (matrix_of c.in_ok-matrix.matrix) c.in_ok-matrix.ensures).widths

pub reduction-requires-clause-reduced : goal.reduction-requires-clause-reduced
reduction-requires-clause-reduced c = subst IsReduced (sym (kernel_is (goal.at.reduction-requires-clause-reduced c).After-kernel_rows _ c.in_ok-kernel.ensures)) (fitting (goal.at.reduction-requires-clause-reduced c).After-t (matrix_of c.in_ok-matrix.matrix) c.in_ok-matrix.ensures).reduced

pub reduction-requires-clause-nonzero : goal.reduction-requires-clause-nonzero
reduction-requires-clause-nonzero c = subst HasNoZeroRow (sym (kernel_is (goal.at.reduction-requires-clause-nonzero c).After-kernel_rows _ c.in_ok-kernel.ensures)) (fitting (goal.at.reduction-requires-clause-nonzero c).After-t (matrix_of c.in_ok-matrix.matrix) c.in_ok-matrix.ensures).nonzero

pub returns-in_default-2 : goal.returns-in_default-2
returns-in_default-2 c =
    let o = addition_outline_of c.in-Some.parts in
    let none = subst (λ rows. (image chosen : List (List Bool)) → ArePackedParts o.quasi (matrix_of c.in_ok-matrix.matrix) image chosen rows → ⊥) (kernel_is (goal.at.returns-in_default-2 c).After-kernel_rows _ c.in_ok-kernel.ensures) (MatchOption-at_none _ _ c.in_default-2.is c.in_ok-quasi.ensures) in
    no_parts_quasi c.args.table.now c.bare_square.ensures.is_table c.requires c.args.body.now o (to_z w32 (of_z w32 c.t.result)) (arc_value c.in-Some-bare_square.square.now) (matrix_of c.in_ok-matrix.matrix) c.in-Some.ensures.1 c.in-Some-bare_square.ensures.square (degree (goal.at.returns-in_default-2 c).After-t) c.in_ok-matrix.ensures none

pub returns : goal.returns
returns c =
    let table = c.args.table.now in
    let o = addition_outline_of c.in-Some.parts in
    let q = arc_value c.in-Some-bare_square.square.now in
    let r = c.in-Some-2.quasi in
    let put : IsPutTogether o.quasi (matrix_of c.in_ok-matrix.matrix) c.in_ok-kernel.kernel r = MatchOption-at_some _ _ r c.in-Some-2.is c.in_ok-quasi.ensures in
    let same = degree (goal.at.returns c).After-t in
    let t : ℤ = to_z w32 (of_z w32 c.t.result) in
    let told : to_z w32 (of_z w32 c.t-2.result) ≡ c.t-2.result = to_z-of_z w32 c.t-2.result (record { sfits = c.t-2.type_inv }) in
    let again : t ≡ to_z w32 (of_z w32 c.t-2.result) = same ∙ sym (told ∙ c.t-2.ensures ∙ ap (λ (x : Placed). bottom_of x.resolved +ℤ pos x.above) c.deref-4.ensures) in
    subst (λ n. IsDecodedQuasi table c.args.body.now c.in-Some.parts.s n r) again
    (decoded_quasi table c.bare_square.ensures.is_table c.requires c.args.body.now o t q (matrix_of c.in_ok-matrix.matrix) r c.in-Some.ensures.1 c.in-Some-bare_square.ensures.square same c.in_ok-matrix.ensures c.in-Some.ensures.0 (λ i. omega (arith, c.type_inv.body i)) put.0 (put.1 ∙ kernel_is (goal.at.returns c).After-kernel_rows _ c.in_ok-kernel.ensures) put.2)
