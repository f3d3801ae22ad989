use Rattle.std.proofs.Common.{◌≡◌, ◌≤◌, ℕ, Bool, List, length, map, take, ap, sym, subst, ◌∙◌, arith}
use Rattle.f2_vec.specs.Vectors.{IsZero}
use Rattle.f2_vec.specs.Spans.{row, HaveWidth}
use Rattle.f2_matrix.specs.Echelon.{IsEchelonForm, IsRowBasis, HasNoZeroRow}
use Rattle.f2_matrix.specs.Preimages.{pivot_of, rest_of}
use Rattle.f2_kernel.specs.Inside.Marks.{AreMarksOf}
use Rattle.f2_kernel.proofs.Blocked.{all_cleared, without_zeros-IsRowBasis}
use Rattle.f2_kernel.proofs.blocks.clear_by_block.Goals as goal

-- the rows that are split are a reduced basis
basis_of : (n : ℕ) (block form rows basis : List (List Bool)) → IsEchelonForm n block form → rows ≡ form → basis ≡ take (length basis) rows → length basis ≤ length rows → HasNoZeroRow basis → ((i : ℕ) → length basis ≤ i → IsZero (row rows i)) → IsRowBasis n block basis
basis_of n block form rows basis h e f m nonzero zero = without_zeros-IsRowBasis n block rows basis (subst (IsEchelonForm n block) (sym e) h) f m nonzero zero

pub without_zeros-basis-requires : goal.without_zeros-basis-requires
without_zeros-basis-requires c = (subst (IsEchelonForm c.args.n c.args.block.now) (sym c.rows.ensures.rows) c.in_ok-form.ensures.rows).reduced

pub marks_at_pivots-requires-clause-widths : goal.marks_at_pivots-requires-clause-widths
marks_at_pivots-requires-clause-widths c =
    (basis_of c.args.n c.args.block.now c.in_ok-form.form.rows c.rows.result.now c.without_zeros-basis.result.now c.in_ok-form.ensures.rows c.rows.ensures.rows c.without_zeros-basis.ensures.first c.without_zeros-basis.ensures.within c.without_zeros-basis.ensures.nonzero c.without_zeros-basis.ensures.others).widths

pub fill-requires-clause-widths : goal.fill-requires-clause-widths
fill-requires-clause-widths c =
    subst (λ k. HaveWidth k c.without_zeros-basis.result.now) (sym (c.make_room.ensures.cols ∙ c.requires.width))
    (basis_of c.args.n c.args.block.now c.in_ok-form.form.rows c.rows.result.now c.without_zeros-basis.result.now c.in_ok-form.ensures.rows c.rows.ensures.rows c.without_zeros-basis.ensures.first c.without_zeros-basis.ensures.within c.without_zeros-basis.ensures.nonzero c.without_zeros-basis.ensures.others).widths

pub fill-requires-clause-few : goal.fill-requires-clause-few
fill-requires-clause-few c =
    omega (arith, c.without_zeros-basis.ensures.within, ap length c.rows.ensures.rows, c.in_ok-form.ensures.rows.as_many, c.in_ok-make_room.ensures.most)

pub clear_all-requires-clause-width : goal.clear_all-requires-clause-width
clear_all-requires-clause-width c = c.fill.ensures.cols ∙ c.make_room.ensures.cols ∙ c.requires.width

pub clear_all-requires-clause-nonzero : goal.clear_all-requires-clause-nonzero
clear_all-requires-clause-nonzero c = subst HasNoZeroRow (sym c.fill.ensures.rows) c.without_zeros-basis.ensures.nonzero

pub clear_all-requires-clause-widths : goal.clear_all-requires-clause-widths
clear_all-requires-clause-widths c =
    subst (HaveWidth c.args.n) (sym c.fill.ensures.rows)
    (basis_of c.args.n c.args.block.now c.in_ok-form.form.rows c.rows.result.now c.without_zeros-basis.result.now c.in_ok-form.ensures.rows c.rows.ensures.rows c.without_zeros-basis.ensures.first c.without_zeros-basis.ensures.within c.without_zeros-basis.ensures.nonzero c.without_zeros-basis.ensures.others).widths

pub clear_all-requires-clause-pivots : goal.clear_all-requires-clause-pivots
clear_all-requires-clause-pivots c = c.as_slice.ensures.value ∙ c.in_ok-pivots.ensures ∙ ap (map pivot_of) (sym c.fill.ensures.rows)

pub clear_all-requires-clause-marks : goal.clear_all-requires-clause-marks
clear_all-requires-clause-marks c = subst (λ (z : List (List Bool)). AreMarksOf z c.in_ok-marks.marks.vector c.in_ok-marks.marks.words.items) (sym c.fill.ensures.rows) c.in_ok-marks.ensures

pub returns-clause-rows : goal.returns-clause-rows
returns-clause-rows c =
    all_cleared c.args.n c.args.block.now c.without_zeros-basis.result.now c.args.rows.now c.clear_all.new.vectors c.requires.block
    (basis_of c.args.n c.args.block.now c.in_ok-form.form.rows c.rows.result.now c.without_zeros-basis.result.now c.in_ok-form.ensures.rows c.rows.ensures.rows c.without_zeros-basis.ensures.first c.without_zeros-basis.ensures.within c.without_zeros-basis.ensures.nonzero c.without_zeros-basis.ensures.others)
    c.requires.rows (c.clear_all.ensures ∙ ap (λ z. map (rest_of c.args.n z) c.args.rows.now) c.fill.ensures.rows)
