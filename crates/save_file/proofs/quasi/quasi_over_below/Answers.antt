use Rattle.std.proofs.Common.{◌≡◌, Bool, List, Some, w32, sym, ◌∙◌, ap, subst}
use Rattle.std.proofs.lemmas.Int.{to_z-of_z}
use Rattle.std.proofs.lemmas.Option.{IfSome_then}
use Rattle.std.proofs.lemmas.Result.{IfOk-weaker}
use Rattle.std.specs.Arc.{arc_value}
use Rattle.square.specs.Squares.{Placed}
use Rattle.square.specs.Tables.{square_at, IsMatrixAt}
use Rattle.save_file.specs.Inside.Differentials.{matrix_of}
use Rattle.save_file.proofs.Inverting.{HasForm, kernel_form, is_quasi_at}
use Rattle.save_file.proofs.quasi.quasi_over_below.Goals.{After-kernel_rows-2}
use Rattle.save_file.proofs.quasi.quasi_over_below.Goals as goal

-- the kernel rows are those of the square there
form : (c : After-kernel_rows-2) → (rows : List (List Bool)) → rows ≡ c.deref-6.result.now.content.kernel → HasForm (matrix_of c.in_ok-guess.guess.map) rows
form c rows e =
    let q = arc_value c.in-Some.square.now in
    let matrix = matrix_of c.in_ok-guess.guess.map in
    let told = to_z-of_z w32 c.args.t c.ranges.t in
    let is = subst (λ t. IsMatrixAt c.args.table.now c.args.s t matrix) told c.in_ok-guess.ensures.map in
    let found = subst (λ t. square_at c.args.table.now c.args.s t ≡ Some q) told (sym c.in-Some.ensures.square) in
    let same = e ∙ ap (λ (x : Placed). x.content.kernel) c.deref-6.ensures in
    subst (HasForm matrix) (sym same) (kernel_form c.args.table.now c.at.ensures.is_table c.args.s c.args.t q matrix found is)

pub reduction_with-requires-clause-widths : goal.reduction_with-requires-clause-widths
reduction_with-requires-clause-widths c = (form (goal.at.reduction_with-requires-clause-widths c).After-kernel_rows-2 c.in_ok-kernel.kernel c.in_ok-kernel.ensures).widths

pub reduction_with-requires-clause-reduced : goal.reduction_with-requires-clause-reduced
reduction_with-requires-clause-reduced c = (form (goal.at.reduction_with-requires-clause-reduced c).After-kernel_rows-2 c.in_ok-kernel.kernel c.in_ok-kernel.ensures).reduced

pub reduction_with-requires-clause-nonzero : goal.reduction_with-requires-clause-nonzero
reduction_with-requires-clause-nonzero c = (form (goal.at.reduction_with-requires-clause-nonzero c).After-kernel_rows-2 c.in_ok-kernel.kernel c.in_ok-kernel.ensures).nonzero

pub returns : goal.returns
returns c =
    let matrix = matrix_of c.in_ok-guess.guess.map in
    let is = subst (λ t. IsMatrixAt c.args.table.now c.args.s t matrix) (to_z-of_z w32 c.args.t c.ranges.t) c.in_ok-guess.ensures.map in
    IfOk-weaker c.reduction_with.result _ _ (λ found h. IfSome_then found h (λ r. is_quasi_at c.args.table.now c.args.s c.args.t matrix r is)) c.reduction_with.ensures
