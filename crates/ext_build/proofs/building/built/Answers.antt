use Rattle.std.proofs.Common.{rules, SFits, ◌≡◌, ◌≢◌, ℤ, w32, Some, subst}
use Rattle.std.specs.Prelude.{IfErr}
use Rattle.std.proofs.lemmas.Int.{to_z-of_z}
use Rattle.built_laws.specs.Constructed.{shift_module}
use Rattle.module_build.specs.Names.{numbered_name}
use Rattle.module_build.specs.Limits.{limit_passed}
use Rattle.module_build.specs.declared.fault.BuildFault.TheVariants.{Memory as NoRoom}
use Rattle.ext_build.proofs.BuildAnswers.{sum_is, tensor_is, dual_is, shift_is, built_ok, built_err}
use Rattle.ext_build.proofs.building.built.Goals as goal

pub returns-in-Sum-len2-clause-built : goal.returns-in-Sum-len2-clause-built
returns-in-Sum-len2-clause-built c = built_ok c.sum.result _ _ (sum_is c.args.made c.args.modules.now c.left-item.result c.right-item.result c.left-item.is c.right-item.is c.in-Sum-len2.len_at_least c.in-Sum-len2.len_below c.in-Sum-len2.is-0) c.sum.ensures.module

pub returns-in-Sum-len2-clause-refused : goal.returns-in-Sum-len2-clause-refused
returns-in-Sum-len2-clause-refused c = built_err c.sum.result _ _ (sum_is c.args.made c.args.modules.now c.left-item.result c.right-item.result c.left-item.is c.right-item.is c.in-Sum-len2.len_at_least c.in-Sum-len2.len_below c.in-Sum-len2.is-0) c.sum.ensures.refused

pub returns-in-Tensor-len2-clause-built : goal.returns-in-Tensor-len2-clause-built
returns-in-Tensor-len2-clause-built c = built_ok c.tensor.result _ _ (tensor_is c.args.made c.args.modules.now c.left-item-then-this-lt3-2.result c.right-item-then-this-lt3-2.result c.left-item-then-this-lt3-2.is c.right-item-then-this-lt3-2.is c.in-Tensor-len2.len_at_least c.in-Tensor-len2.len_below c.in-Tensor-len2.is-0) c.tensor.ensures.module

pub returns-in-Tensor-len2-clause-refused : goal.returns-in-Tensor-len2-clause-refused
returns-in-Tensor-len2-clause-refused c = built_err c.tensor.result _ _ (tensor_is c.args.made c.args.modules.now c.left-item-then-this-lt3-2.result c.right-item-then-this-lt3-2.result c.left-item-then-this-lt3-2.is c.right-item-then-this-lt3-2.is c.in-Tensor-len2.len_at_least c.in-Tensor-len2.len_below c.in-Tensor-len2.is-0) c.tensor.ensures.refused

pub returns-in-Dual-len1-clause-built : goal.returns-in-Dual-len1-clause-built
returns-in-Dual-len1-clause-built c = built_ok c.dual.result _ _ (dual_is c.args.made c.args.modules.now c.given-item.result c.given-item.is c.in-Dual-len1.len_at_least c.in-Dual-len1.len_below c.in-Dual-len1.is-0) c.dual.ensures.module

pub returns-in-Dual-len1-clause-refused : goal.returns-in-Dual-len1-clause-refused
returns-in-Dual-len1-clause-refused c = built_err c.dual.result _ _ (dual_is c.args.made c.args.modules.now c.given-item.result c.given-item.is c.in-Dual-len1.len_at_least c.in-Dual-len1.len_below c.in-Dual-len1.is-0) c.dual.ensures.refused

pub returns-in-Shift-len1-clause-refused : goal.returns-in-Shift-len1-clause-refused
returns-in-Shift-len1-clause-refused c =
    let n = c.in-Shift-len1.n in
    let fits : SFits w32 n = search rules in
    let given = c.given-item-then-this-lt2-3 in
    let refused = subst (λ (u : ℤ). IfErr c.shift.result (λ e. e ≢ NoRoom → limit_passed (shift_module numbered_name u given.result.plain).generators ≡ Some e)) (to_z-of_z w32 n fits) c.shift.ensures.refused in
    built_err c.shift.result _ _ (shift_is c.args.made c.args.modules.now given.result given.is c.in-Shift-len1.len_at_least c.in-Shift-len1.len_below n c.in-Shift-len1.is-0) refused
