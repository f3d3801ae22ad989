use Rattle.std.proofs.Common.{◌≡◌, ◌++◌, Bool, List, ℕ, length, take, drop, sym, ap, subst, ◌∙◌, arith}
use Rattle.std.specs.List.{items_where_true}
use Rattle.f2_vec.specs.Spans.{HaveWidth}
use Rattle.f2_matrix.specs.Echelon.{IsKernelBasis}
use Rattle.f2_matrix.specs.Choice.{IsChosen}
use Rattle.f2_choice.specs.Coordinates.{coordinates}
use Rattle.f2_kernel.specs.Inside.Upward.{AreCleared, upward, are_zero, relations}
use Rattle.f2_kernel.proofs.Cleared.{AreCleared-upward, length-upward, upward-kept}
use Rattle.f2_kernel.proofs.ByForm.{choice_by_form}
use Rattle.f2_kernel.proofs.choice.choose_by_coordinates.Goals as goal

pub clear_upward-requires : goal.clear_upward-requires
clear_upward-requires c = subst (λ (z : List (List Bool)). HaveWidth c.args.n z) (sym c.as_mut_slice.ensures.value) c.requires.widths

pub new_rows-requires : goal.new_rows-requires
new_rows-requires c =
    let xs = c.args.form.items in
    let f = upward-kept c.args.form.len c.as_mut_slice.result.now c.clear_upward.new.rows xs (sym c.as_mut_slice.ensures.len) c.as_mut_slice.ensures.value c.in_ok-clear_upward.ensures in
    ap length (c.as_slice.ensures.value ∙ f) ∙ length-upward xs ∙ c.requires.as_many

pub of_form-requires-clause-cleared : goal.of_form-requires-clause-cleared
of_form-requires-clause-cleared c =
    let xs = c.args.form.items in
    let f = upward-kept c.args.form.len c.as_mut_slice.result.now c.clear_upward.new.rows xs (sym c.as_mut_slice.ensures.len) c.as_mut_slice.ensures.value c.in_ok-clear_upward.ensures in
    subst (λ (z : List (List Bool)). AreCleared c.args.n z) (sym f) (AreCleared-upward c.args.n xs c.requires.widths)

pub returns-clause-chosen : goal.returns-clause-chosen
returns-clause-chosen c = λ rows h.
    let w = c.args.below.now.cols in
    let candidates = c.args.below.now.rows in
    let xs = coordinates candidates rows in
    let f = upward-kept c.args.form.len c.as_mut_slice.result.now c.clear_upward.new.rows c.args.form.items (sym c.as_mut_slice.ensures.len) c.as_mut_slice.ensures.value c.in_ok-clear_upward.ensures ∙ ap upward h.form_is in
    let new : c.in_ok-new.new.items ≡ items_where_true (are_zero (upward xs)) candidates = c.in_ok-new.ensures ∙ ap (λ (z : List (List Bool)). items_where_true (are_zero z) candidates) (c.as_slice.ensures.value ∙ f) in
    let by = choice_by_form w rows candidates c.cols-cols.ensures.widths c.cols-cols.ensures.reduced c.cols-cols.ensures.nonzero h.covered in
    subst (λ (z : List (List Bool)). IsChosen w rows candidates z) (sym new) by.chosen

pub returns-clause-kernel : goal.returns-clause-kernel
returns-clause-kernel c = λ rows h.
    let w = c.args.below.now.cols in
    let candidates = c.args.below.now.rows in
    let xs = coordinates candidates rows in
    let f = upward-kept c.args.form.len c.as_mut_slice.result.now c.clear_upward.new.rows c.args.form.items (sym c.as_mut_slice.ensures.len) c.as_mut_slice.ensures.value c.in_ok-clear_upward.ensures ∙ ap upward h.form_is in
    let new : c.in_ok-new.new.items ≡ items_where_true (are_zero (upward xs)) candidates = c.in_ok-new.ensures ∙ ap (λ (z : List (List Bool)). items_where_true (are_zero z) candidates) (c.as_slice.ensures.value ∙ f) in
    let by = choice_by_form w rows candidates c.cols-cols.ensures.widths c.cols-cols.ensures.reduced c.cols-cols.ensures.nonzero h.covered in
    let there : IsKernelBasis w (rows ++ c.in_ok-new.new.items) (relations (length rows) (length c.in_ok-new.new.items) (upward xs)) =
    subst (λ (z : List (List Bool)). IsKernelBasis w (rows ++ z) (relations (length rows) (length z) (upward xs))) (sym new) by.kernel in
    let many : length c.in_ok-new.new.items ≡ c.len-2.result = omega (arith, c.len-2.ensures) in
    let is : relations (length rows) (length c.in_ok-new.new.items) (upward xs) ≡ c.in_ok-kernel.kernel.rows =
    sym (c.in_ok-kernel.ensures.rows
    ∙ ap (relations c.args.n c.len-2.result) f
    ∙ ap (λ k. relations k c.len-2.result (upward xs)) (sym h.count)
    ∙ ap (λ k. relations (length rows) k (upward xs)) (sym many)) in
    subst (λ (z : List (List Bool)). IsKernelBasis w (rows ++ c.in_ok-new.new.items) z) is there
