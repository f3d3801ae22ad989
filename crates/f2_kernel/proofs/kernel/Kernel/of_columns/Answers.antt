use Rattle.std.proofs.Common.{◌≡◌, ◌+◌, Bool, List, ℕ, length, take, drop, ◌++◌, sym, ap, subst, ◌∙◌}
use Rattle.std.proofs.lemmas.Result.{IfOk-weaker}
use Rattle.f2_vec.specs.Spans.{HaveWidth}
use Rattle.f2_matrix.specs.Echelon.{IsKernelBasis}
use Rattle.f2_kernel.specs.Inside.Upward.{AreCleared, upward, relations}
use Rattle.f2_kernel.proofs.Cleared.{AreCleared-upward, upward-kept}
use Rattle.f2_kernel.proofs.Alone.{kernel_by_columns}
use Rattle.f2_kernel.proofs.kernel.Kernel.of_columns.Goals as goal

pub clear_upward-requires : goal.clear_upward-requires
clear_upward-requires c = subst (λ (z : List (List Bool)). HaveWidth c.args.n z) (sym c.as_mut_slice.ensures.value) c.requires

pub of_form-requires-clause-cleared : goal.of_form-requires-clause-cleared
of_form-requires-clause-cleared c =
    let xs = c.args.columns.items in
    let f = upward-kept c.args.columns.len c.as_mut_slice.result.now c.clear_upward.new.rows xs (sym c.as_mut_slice.ensures.len) c.as_mut_slice.ensures.value c.in_ok-clear_upward.ensures in
    subst (λ (z : List (List Bool)). AreCleared c.args.n z) (sym f) (AreCleared-upward c.args.n xs c.requires)

pub returns-clause-kernel : goal.returns-clause-kernel
returns-clause-kernel c =
    let xs = c.args.columns.items in
    let f = upward-kept c.args.columns.len c.as_mut_slice.result.now c.clear_upward.new.rows xs (sym c.as_mut_slice.ensures.len) c.as_mut_slice.ensures.value c.in_ok-clear_upward.ensures in
    IfOk-weaker c.of_form.result _ _ (λ k e w rows h. subst (λ (z : List (List Bool)). IsKernelBasis w rows z) (sym (e ∙ ap (relations c.args.n 0) f)) (kernel_by_columns c.args.n w rows xs h)) c.of_form.ensures.rows
